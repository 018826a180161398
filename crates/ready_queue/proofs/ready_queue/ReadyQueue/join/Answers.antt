use Rattle.ready_queue.proofs.Calls.{merges}
use Rattle.ready_queue.proofs.ready_queue.ReadyQueue.join.Goals as goal

-- taking in a seat keeps the rule
pub absorb-requires-clause-rule : goal.absorb-requires-clause-rule
absorb-requires-clause-rule g c = merges g.T.Queued.mark _ _ _ _ _ _ _ c.first.invariant.2 c.seat.invariant.2
