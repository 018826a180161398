use Rattle.ready_queue.proofs.Calls.{learns}
use Rattle.ready_queue.proofs.ready_queue.ReadyQueue.is_empty.Goals as goal

-- a look tells the truth
pub is_empty_as-requires-clause-rule : goal.is_empty_as-requires-clause-rule
is_empty_as-requires-clause-rule g c = learns g.T.Queued.mark _ _ _ _ c.first.invariant.2
