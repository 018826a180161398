-- The passes that a worker holds.
use Rattle.std.specs.Prelude.{◌≡◌, ◌≢◌, ℕ, ◌<◌, true, false, List, [], ◌∷◌, length}
use Rattle.pass_seats.specs.declared.pass.Pass.{Pass}
use Rattle.pass_seats.specs.Seats.{SeatState}
use Rattle.pass_seats.specs.Slots.{HasStep}
use Rattle.engine_work.specs.declared.bench.HeldPass.{HeldPass}
use Rattle.engine_work.specs.declared.bench.Bench as B
use Rattle.engine_work.specs.declared.bench.Bench.TheVariants as V

-- in the order in which they are tried
abbrev pub held_in : B.Bench → List HeldPass
held_in V.Empty = []
held_in (V.One a) = a ∷ []
held_in (V.Two a b) = a ∷ b ∷ []
held_in (V.Three a b c) = a ∷ b ∷ c ∷ []
held_in (V.Four a b c d) = a ∷ b ∷ c ∷ d ∷ []

-- a pass whose next step wasn't tried
abbrev pub fresh : Pass → HeldPass
fresh pass = record { pass = pass; gated = false; busy = false }

-- a pass whose next step found its box taken, after the gate was told
abbrev pub waiting : Pass → HeldPass
waiting pass = record { pass = pass; gated = true; busy = true }

-- each of these found its box taken
abbrev pub AreBusy : List HeldPass → Type 0
AreBusy [] = Unit {0}
AreBusy (h ∷ held) = (h.busy ≡ true) × AreBusy held

-- a worker that holds these may begin a further pass: there are fewer than four, and each found its box taken
abbrev pub MayBegin : List HeldPass → Type 0
MayBegin held = (length held < 4) × AreBusy held

-- none of these is the pass in this slot
abbrev pub AreOthers : ℕ → List HeldPass → Type 0
AreOthers slot [] = Unit {0}
AreOthers slot (h ∷ held) = (h.pass.slot ≢ slot) × AreOthers slot held

-- these are different passes of the seat, each of which has a next step
abbrev pub IsBench : SeatState → List HeldPass → Type 0
IsBench s [] = Unit {0}
IsBench s (h ∷ held) = HasStep s h.pass.slot × AreOthers h.pass.slot held × IsBench s held
