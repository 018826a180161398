-- Seats of an engine, and the work of their workers, in lists that grow at their ends.
use Rattle.std.proofs.Common.{◌≡◌, ℕ, sym, subst, List, [], ◌∷◌, ◌++◌, map}
use Rattle.std.proofs.lemmas.List.{map-append}
use Rattle.seuss_program.specs.declared.state.Value.{Value}
use Rattle.method_code.specs.declared.method.Method.{Method}
use Rattle.pass_seats.specs.Names.{Names}
use Rattle.worker_seats.specs.Workers.{WorkerState, Ring}
use Rattle.shared_engine.specs.Rings.{IsSeatOf}
use Rattle.engine_work.specs.Records.{AreSeatsOf, AreWork, IsWork, Left}

-- all but the last are seats of the engine
pub seats_before : (ring : Ring) (seats : List WorkerState) (last : WorkerState) →
    AreSeatsOf ring (seats ++ last ∷ []) → AreSeatsOf ring seats
seats_before ring [] last are = tt
seats_before ring (s ∷ seats) last are = (are.0, seats_before ring seats last are.1)

-- so is the last
pub seat_last : (ring : Ring) (seats : List WorkerState) (last : WorkerState) →
    AreSeatsOf ring (seats ++ last ∷ []) → IsSeatOf ring last
seat_last ring [] last are = are.0
seat_last ring (s ∷ seats) last are = seat_last ring seats last are.1

-- the work of one worker more
work_push : (names : Names) (code : List Method) (first : ℕ → List Value) (seats : List WorkerState)
    (left : List Left) (seat : WorkerState) (record_of : Left) → AreWork names code first seats left →
    IsWork names code first seat record_of.seat record_of.refusal →
    AreWork names code first (seats ++ seat ∷ []) (left ++ record_of ∷ [])
work_push names code first [] [] seat l are is = (is, are)
work_push names code first [] (r ∷ left) seat l are is = absurd are
work_push names code first (s ∷ seats) [] seat l are is = absurd are
work_push names code first (s ∷ seats) (r ∷ left) seat l are is =
    (are.0, work_push names code first seats left seat l are.1 is)

-- the same where each record comes from another value
pub work_more : {R : Type 0} (left : R → Left) (names : Names) (code : List Method) (first : ℕ → List Value)
    (all seats : List WorkerState) (seat : WorkerState) (every records : List R) (r : R) →
    all ≡ seats ++ seat ∷ [] → every ≡ records ++ r ∷ [] → AreWork names code first seats (map left records) →
    IsWork names code first seat (left r).seat (left r).refusal →
    AreWork names code first all (map left every)
work_more {R} left names code first all seats seat every records r same more are is =
    let work = work_push names code first seats (map left records) seat (left r) are is in
    let grown : AreWork names code first (seats ++ seat ∷ []) (map left (records ++ r ∷ [])) =
    subst (λ (l : List Left). AreWork names code first (seats ++ seat ∷ []) l)
    (sym (map-append left records (r ∷ []))) work in
    rw (same, more) grown
