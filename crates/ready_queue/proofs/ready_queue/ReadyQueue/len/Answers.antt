use Rattle.ready_queue.proofs.Calls.{learns}
use Rattle.ready_queue.proofs.ready_queue.ReadyQueue.len.Goals as goal

-- a look tells the truth
pub len_as-requires-clause-rule : goal.len_as-requires-clause-rule
len_as-requires-clause-rule g c = learns g.T.Queued.mark _ _ _ _ c.first.invariant.2
