use Rattle.pass_seats.proofs.Slots.{taken_open, step_goes_on, step_leaves}
use Rattle.pass_seats.proofs.laws.passes_go_on.Goals as goal

pub returns : goal.returns
returns c = record { taken = taken_open; stepped = step_goes_on; others = step_leaves }
