use Rattle.ready_queue.proofs.Calls.{pops, holds_there}
use Rattle.ready_queue.proofs.ready_queue.ReadyQueue.pop.Goals as goal

-- a pop keeps the rule
pub pop_as-requires-clause-rule : goal.pop_as-requires-clause-rule
pop_as-requires-clause-rule g c =
    (pops g.T.Queued.mark _ _ _ c.seat.invariant.2, holds_there g.T.Queued.mark _ _)
