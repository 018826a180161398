use Rattle.seuss_run.proofs.CheckLemmas.{cycle_refused}
use Rattle.seuss_run.proofs.loading.ordered_program.Goals as goal

-- a box that is given to itself
pub returns-in-Err-Cycle-clause-meets : goal.returns-in-Err-Cycle-clause-meets
returns-in-Err-Cycle-clause-meets c =
    let h = rw c.in-Err-Cycle.field-0-is at c.in-Err-Cycle.ensures.answer in
    cycle_refused c.args.resolved c.in-Err-Cycle.line h.partial_calls h.total_calls _ h.cycle
