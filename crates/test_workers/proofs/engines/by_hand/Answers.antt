use Rattle.std.proofs.Common.{◌≡◌, ℕ, zero, suc, List, [], ◌∷◌, ◌++◌, length, Some, slice_get, arith}
use Rattle.pass_seats.specs.Names.{Names}
use Rattle.pass_seats.proofs.Lists.{at-append, at-push}
use Rattle.worker_seats.specs.Workers.{Ring, WorkerState}
use Rattle.shared_engine.specs.Rings.{IsSeatOf}
use Rattle.shared_engine.specs.Beginnings.{AreSeats}
use Rattle.test_workers.proofs.engines.by_hand.Goals as goal

-- each seat of a new engine is one of it
seat_of : (names : Names) (ring : Ring) (seats : List WorkerState) → AreSeats names ring seats → (w : ℕ)
    (s : WorkerState) → slice_get seats w ≡ Some s → IsSeatOf ring s
seat_of names ring seats are zero s at = (are.first s at).at
seat_of names ring seats are (suc w) s at = (are.others (suc w) s (omega arith) at).at

-- the one in front of the last two
first_seat : (names : Names) (ring : Ring) (seats both left : List WorkerState) (one two : WorkerState) →
    seats ≡ both ++ two ∷ [] → both ≡ left ++ one ∷ [] → AreSeats names ring seats → IsSeatOf ring one
first_seat names ring seats both left one two all front are =
    let here : slice_get both (length left) ≡ Some one = rw front (at-push left one) in
    let there : slice_get seats (length left) ≡ Some one = rw all (at-append both (two ∷ []) (length left) one here) in
    seat_of names ring seats are (length left) one there

pub two_take_turns-requires-clause-one : goal.two_take_turns-requires-clause-one
two_take_turns-requires-clause-one g c =
    let left = c.pop-2.new.self in
    let both = c.pop.new.self in
    let one = c.in-Some-pop.one in
    first_seat g.N.EngineNames.names c.in_ok-engine.engine c.in_ok-engine.seats both left one c.in-Some.two
    c.in-Some.ensures c.in-Some-pop.ensures c.in_ok-engine.ensures.seats

pub two_take_turns-requires-clause-two : goal.two_take_turns-requires-clause-two
two_take_turns-requires-clause-two g c =
    let both = c.pop.new.self in
    let two = c.in-Some.two in
    let there : slice_get c.in_ok-engine.seats (length both) ≡ Some two = rw c.in-Some.ensures (at-push both two) in
    seat_of g.N.EngineNames.names c.in_ok-engine.engine c.in_ok-engine.seats c.in_ok-engine.ensures.seats
    (length both) two there

pub one_gives_up-requires : goal.one_gives_up-requires
one_gives_up-requires g c =
    let left = c.pop-2.new.self in
    let both = c.pop.new.self in
    let one = c.in-Some-pop.one in
    record {
      one = first_seat g.N.EngineNames.names c.in_ok-engine.engine c.in_ok-engine.seats both left one c.in-Some.two
          c.in-Some.ensures c.in-Some-pop.ensures c.in_ok-engine.ensures.seats;
    }
