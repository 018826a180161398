-- What the turns of workers need and give, as the loop over them sees it.
use Rattle.std.proofs.Common.{◌≡◌, ℕ, List, Some, slice_get}
use Rattle.std.specs.Prelude.{slice_set, Result, Ok, Err, IfOk}
use Rattle.pass_seats.specs.Seats.{SeatState}
use Rattle.pass_engine.specs.Engines.{EngineState, IsSeatOf}
use Rattle.still_turns.specs.Shown.{AreWorkers}
use Rattle.still_turns.specs.WorkerTurns.{IsSameWorker}
use Rattle.still_turns.proofs.SeatsWhole.{untorn_of}

-- an answer is what another fact makes of it
pub answer_is : {A E : Type 0} (P Q : A → Type 0) (r : Result A E) → ((a : A) → P a → Q a) →
    IfOk r P → IfOk r Q
answer_is P Q (Ok a) turn is = turn a is
answer_is P Q (Err e) turn is = is

-- the seat of a worker is one of the engine
pub seat_of_engine : (many : ℕ) (e : EngineState) (seats : List SeatState) → AreWorkers many seats →
    (w : ℕ) (s : SeatState) → slice_get seats w ≡ Some s → IsSeatOf e s
seat_of_engine many e seats are w s at = untorn_of e s (are.each w s at).1

-- what a worker was told has changed nothing of the run
abbrev pub WasTold : List SeatState → List SeatState → ℕ → Type 0
WasTold seats new w = (seat : SeatState) × (after : SeatState) × (slice_get seats w ≡ Some seat)
    × (new ≡ slice_set seats w after) × IsSameWorker seat after
