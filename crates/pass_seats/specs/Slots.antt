-- What may be done next with the pass in a slot of a seat.
use Rattle.std.specs.Prelude.{ℕ}
use Rattle.pass_seats.specs.declared.pass.Progress as P
use Rattle.pass_seats.specs.declared.pass.Progress.TheVariants as V
use Rattle.pass_seats.specs.Seats.{SeatState}
use Rattle.pass_seats.specs.Steps.{IsOpen}
use Rattle.pass_seats.specs.Finishes.{IsOver}

-- the pass in a slot has a next step, on some box
abbrev pub HasStep : SeatState → ℕ → Type 0
HasStep s slot = (b : ℕ) × IsOpen s slot b

-- after a step that ended so, the pass has a next step, or it is over and may be finished
abbrev pub MayGoOn : P.Progress → SeatState → ℕ → Type 0
MayGoOn V.Stepped s slot = HasStep s slot
MayGoOn V.Over s slot = IsOver s slot
