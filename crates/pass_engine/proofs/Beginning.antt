-- How an engine begins.
use Rattle.std.proofs.Common.{◌≡◌, ℕ, ◌<◌, ◌≤◌, List, [], ◌∷◌, ◌++◌, sym, ap, ◌∙◌, refl, subst, length}
use Rattle.std.proofs.Common.{arith, map}
use Rattle.std.proofs.Common.{append-nil, All, None, Some, get_or}
use Rattle.std.specs.Prelude.{slice_get}
use Rattle.std.specs.List.{range_with_len}
use Rattle.std.proofs.lemmas.List.{length-map}
use Rattle.std.proofs.lemmas.List.Elements.{All-from_get_or}
use Rattle.std.proofs.lemmas.List.FromFn.{length-range_with_len, get_or-range_with_len}
use Rattle.seuss_base.specs.Tables.{Table}
use Rattle.seuss_program.specs.declared.program.Program.{Program}
use Rattle.seuss_program.specs.declared.state.State.{State}
use Rattle.seuss_program.specs.declared.state.Value.{Value}
use Rattle.seuss_program.specs.Programs.{vars_of}
use Rattle.seuss_program.specs.Keeping.{Keeps, HasForm}
use Rattle.method_code.specs.declared.method.Method.{Method}
use Rattle.method_code.specs.declared.plan.Plan.{Plan}
use Rattle.method_code.specs.Plans.{AreMadeFrom}
use Rattle.step_journal.specs.Histories.{own_entries}
use Rattle.box_lock.specs.Cells as B
use Rattle.round_ledger.specs.Cells as S
use Rattle.pass_seats.specs.Names.{Names, AreNames}
use Rattle.pass_seats.specs.Desks.{BoxDeskState, SchedDeskState}
use Rattle.pass_seats.specs.Seats.{SeatState, start_of}
use Rattle.pass_seats.specs.Opening.{BlankState, names_of, fresh_sched, IsFresh, AreNewBoxes, AreNewSeats}
use Rattle.pass_seats.proofs.Lists.{map-at}
use Rattle.pass_engine.specs.Engines.{EngineState, engine_of, cell_of, IsEngine, IsSeatOf, IsWorker}
use Rattle.loose_records.specs.Settings.{setting_of}
use Rattle.pass_engine.specs.Beginnings.{IsNewEngine}
use Rattle.pass_engine.proofs.Keeping.{seat_of_any}

-- each of the first numbers is below their count
below_all : (n : ℕ) → All (λ (a : ℕ). a < n) (range_with_len 0 n)
below_all n =
    All-from_get_or (λ (a : ℕ). a < n) (range_with_len 0 n) 0
    (λ i less. below i (omega (arith, less, length-range_with_len 0 n)))
  where
    below : (i : ℕ) → i < n → get_or (range_with_len 0 n) i 0 < n
    below i less = omega (arith, get_or-range_with_len 0 n i 0 less, less)

-- the names of an engine for a checked program
module _ (p : Program) (running : List Method) (plan : Plan) (rows : Table) (from : State)
    (rounds budget seats : ℕ)
    (blank : BlankState) (names : Names) (code : List Method) (first : ℕ → List Value)
    (is : names ≡ names_of blank seats (setting_of p rows rounds budget) from) where
  abbrev made_of : Names
  made_of = names_of blank seats (setting_of p rows rounds budget) from

  pub are_names : Keeps p → AreMadeFrom p running plan → HasForm p from → budget ≤ 1000000 → running ≡ code →
      first ≡ vars_of from → length blank.boxes ≡ length p.boxes → AreNames names code first
  are_names keeps made form small code_is first_is tables =
      let core : AreNames made_of code first = record {
        code_is = sym code_is ∙ made.code_is;
        first_is = first_is;
        keeps = keeps;
        form = form;
        boxes = tables;
        actions = below_all (length p.actions);
        budget = small;
      } in
      subst (λ (n : Names). AreNames n code first) (sym is) core

-- an engine of fresh desks
pub new_engine : (names : Names) (desks : List BoxDeskState) (sched : SchedDeskState) (seats : ℕ) →
    length desks ≡ length names.boxes → AreNewBoxes names desks →
    sched.cell ≡ fresh_sched names.sched names.setting.scheduler seats → names.seats ≡ seats →
    IsNewEngine names (engine_of desks sched None)
new_engine names desks sched seats many are is count = record {
  many = length-map desks cell_of ∙ many;
  boxes = λ b cell at.
      let d = map-at cell_of desks b cell at in sym d.2 ∙ (are.each b d.0 d.1).cell;
  sched = is ∙ ap (λ (n : ℕ). fresh_sched names.sched names.setting.scheduler n) (sym count);
  going = refl;
}

-- and what it keeps
pub new_keeps : (names : Names) (e : EngineState) → IsNewEngine names e → IsEngine names e
new_keeps names e new = record {
  many = new.many;
  numbers = λ b cell at. ap (λ (c : B.CellState). c.number) (new.boxes b cell at);
  whole = λ _. record {
    sched = ap (λ (c : S.CellState). c.broken) new.sched;
    boxes = λ b cell at. ap (λ (c : B.CellState). c.broken) (new.boxes b cell at);
  };
}

-- a fresh seat was given what it has started: nothing
pub fresh_worker : (w : ℕ) (s : SeatState) → IsFresh w s → IsWorker s
fresh_worker w s fresh = record {
  took = λ _. ap (own_entries s.number) fresh.nothing ∙ sym (ap (map start_of) fresh.none);
}

-- fresh seats are of each engine
pub fresh_of : (e : EngineState) (seats : List SeatState) → AreNewSeats seats → (w : ℕ) (s : SeatState) →
    slice_get seats w ≡ Some s → IsSeatOf e s
fresh_of e seats are w s at = seat_of_any e s (are.each w s at).whole

-- what stands behind a beginning
at-middle : {A : Type 0} (ys rest : List A) (x : A) → slice_get (ys ++ x ∷ rest) (length ys) ≡ Some x
at-middle [] rest x = refl
at-middle (y ∷ ys) rest x = at-middle ys rest x

-- the next of fresh seats
pub next_fresh : (ys rest all : List SeatState) (x : SeatState) → ys ++ x ∷ rest ≡ all → AreNewSeats all →
    (w : ℕ) × IsFresh w x
next_fresh ys rest all x is are = (
  length ys,
  are.each (length ys) x
      (subst (λ (l : List SeatState). slice_get l (length ys) ≡ Some x) is (at-middle ys rest x)),
)

-- where nothing is left
pub none_left : {A : Type 0} (ys rest all : List A) → ys ++ rest ≡ all → length rest ≡ 0 → ys ≡ all
none_left ys [] all is none = sym (append-nil ys) ∙ is
none_left ys (x ∷ rest) all is none = absurd (omega (arith, none))
