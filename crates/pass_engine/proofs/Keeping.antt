-- What an engine keeps over a call at one of its desks.
use Rattle.std.proofs.Common.{◌≡◌, ◌≢◌, ℕ, ⊎_elim, List, sym, ap, ◌∙◌, refl, subst, set, true}
use Rattle.std.proofs.Common.{false, Bool, Option, Some, None}
use Rattle.std.specs.Prelude.{slice_get}
use Rattle.std.proofs.lemmas.List.{length-set}
use Rattle.box_lock.specs.Cells as B
use Rattle.round_ledger.specs.Cells as S
use Rattle.pass_seats.specs.Names.{Names}
use Rattle.pass_seats.specs.Seats.{SeatState}
use Rattle.pass_seats.proofs.Lists.{set-cases, none_some}
use Rattle.pass_engine.specs.Calls.{first_to}
use Rattle.pass_engine.specs.Engines.{EngineState, IsEngine, IsSeatOf, IsGivenUp, StaysGivenUp}

-- the engine with this scheduler, given up by this seat or by none
abbrev pub with_sched : EngineState → S.CellState → Option ℕ → EngineState
with_sched e next given_up = record { boxes = e.boxes; sched = next; given_up = given_up }

-- the engine with these cells of boxes, given up by this seat or by none
abbrev pub with_cells : EngineState → List B.CellState → Option ℕ → EngineState
with_cells e cells given_up = record { boxes = cells; sched = e.sched; given_up = given_up }

-- the engine with this cell of a box, given up by this seat or by none
abbrev pub with_box : EngineState → ℕ → B.CellState → Option ℕ → EngineState
with_box e b next given_up = with_cells e (set e.boxes b next) given_up

-- an engine that nobody has given up, with another cell of a box
pub box_kept : (names : Names) (e : EngineState) (b : ℕ) (cell next : B.CellState) (given_up : Option ℕ) →
    e.given_up ≡ None → slice_get e.boxes b ≡ Some cell → next.number ≡ cell.number →
    (given_up ≡ None → next.broken ≡ false) → IsEngine names e → IsEngine names (with_box e b next given_up)
box_kept names e b cell next given_up going there same unbroken kept = record {
  many = length-set e.boxes b next ∙ kept.many;
  numbers = λ j c at. ⊎_elim (λ (t : (j ≡ b) × (next ≡ c)).
      ap (λ (x : B.CellState). x.number) (sym t.1) ∙ same ∙ kept.numbers b cell there ∙ sym t.0)
      (λ (t : (j ≢ b) × (slice_get e.boxes j ≡ Some c)). kept.numbers j c t.1)
      (set-cases e.boxes b j next c at);
  whole = λ none. record {
    sched = (kept.whole going).sched;
    boxes = λ j c at. ⊎_elim (λ (t : (j ≡ b) × (next ≡ c)).
        ap (λ (x : B.CellState). x.broken) (sym t.1) ∙ unbroken none)
        (λ (t : (j ≢ b) × (slice_get e.boxes j ≡ Some c)). (kept.whole going).boxes j c t.1)
        (set-cases e.boxes b j next c at);
  };
}

-- a seat of an engine that nobody has given up is whole
pub whole_seat : (e : EngineState) (seat : SeatState) → e.given_up ≡ None → IsSeatOf e seat →
    seat.torn ≡ false
whole_seat e seat going of = by_torn seat.torn of.torn
  where
    by_torn : (torn : Bool) → (torn ≡ true → IsGivenUp e) → torn ≡ false
    by_torn false h = refl
    by_torn true h = absurd (none_some (h refl).0 (sym going ∙ (h refl).1))

-- a whole seat is one of each engine
pub seat_of_any : (e : EngineState) (seat : SeatState) → seat.torn ≡ false → IsSeatOf e seat
seat_of_any e seat whole = record { torn = λ torn. absurd (false_true (sym whole ∙ torn)) }
  where
    false_true : ◌≡◌ false true → ⊥
    false_true e = cc e

-- a seat that is whole where nobody has given the engine up is one of it
pub seat_of : (e : EngineState) (seat : SeatState) → (e.given_up ≡ None → seat.torn ≡ false) →
    IsSeatOf e seat
seat_of e seat whole = by_given e.given_up refl
  where
    by_given : (g : Option ℕ) → e.given_up ≡ g → IsSeatOf e seat
    by_given None is = seat_of_any e seat (whole is)
    by_given (Some by) is = record { torn = λ _. (by, is) }

-- an engine that nobody had given up stays given up by the same
pub none_stays : (old new : EngineState) → old.given_up ≡ None → StaysGivenUp old new
none_stays old new going = record { by_same = λ by is. absurd (none_some by (sym going ∙ is)) }

-- what is false isn't true
pub not_both : {A : Type 0} (b : Bool) → b ≡ false → b ≡ true → A
not_both b f t = absurd (false_true (sym f ∙ t))
  where
    false_true : ◌≡◌ false true → ⊥
    false_true e = cc e

-- what is said of the parts of an engine and of a seat is said of both
pub told : (P : EngineState → EngineState → SeatState → Type 0) (new : Option ℕ → EngineState)
    (old self : EngineState) (core seat : SeatState) (by given_up : Option ℕ) → old ≡ self → core ≡ seat →
    by ≡ given_up → P old (new by) core →
    P self (new given_up) seat
told P new old self core seat by given_up old_is core_is by_is holds =
    subst (λ (e : EngineState). P e (new given_up) seat) old_is
    (subst (λ (s : SeatState). P old (new given_up) s) core_is
    (subst (λ (g : Option ℕ). P old (new g) core) by_is holds))

-- once a seat has given up, somebody was the first
pub first_given : (given_up : Option ℕ) (seat : ℕ) → (by : ℕ) × (first_to given_up seat ≡ Some by)
first_given None seat = (seat, refl)
first_given (Some by) seat = (by, refl)

-- who was the first stays so
pub first_stays : (given_up : Option ℕ) (seat by : ℕ) → given_up ≡ Some by → first_to given_up seat ≡ Some by
first_stays None seat by is = absurd (none_some by is)
first_stays (Some first) seat by is = is

-- an engine that a seat gives up
pub gave_up_kept : (names : Names) (e : EngineState) (seat : ℕ) → IsEngine names e →
    IsEngine names (with_sched e e.sched (first_to e.given_up seat))
gave_up_kept names e seat kept = record {
  many = kept.many;
  numbers = kept.numbers;
  whole = λ none. let first = first_given e.given_up seat in absurd (none_some first.0 (sym none ∙ first.1));
}

-- who had given it up stays so
pub gave_up_stays : (e : EngineState) (seat : ℕ) →
    StaysGivenUp e (with_sched e e.sched (first_to e.given_up seat))
gave_up_stays e seat = record { by_same = λ by is. first_stays e.given_up seat by is }

-- any seat is one of an engine that was given up
pub seat_of_given_up : (e : EngineState) (seat : SeatState) → IsGivenUp e → IsSeatOf e seat
seat_of_given_up e seat given_up = record { torn = λ _. given_up }
