use Rattle.ready_queue.proofs.Calls.{forks}
use Rattle.ready_queue.proofs.ready_queue.ReadyQueue.seat.Goals as goal

-- a new seat keeps the rule
pub another-pass-requires-clause-rule : goal.another-pass-requires-clause-rule
another-pass-requires-clause-rule g c = forks g.T.Queued.mark _ _ _ _ c.first.invariant.2
