-- The parts of seats with those of one seat more.
use Rattle.std.proofs.Common.{◌≡◌, ℕ, zero, suc, ◌+◌, List, [], ◌∷◌, ◌++◌, map, length, refl, sym, ap, ◌∙◌}
use Rattle.std.proofs.Common.{append_assoc, Option, Some, None}
use Rattle.std.specs.Prelude.{slice_get}
use Rattle.std.proofs.lemmas.List.{map-append}
use Rattle.atomic_table.specs.Seated.{TableId}
use Rattle.box_turn.specs.Seats as T
use Rattle.ready_queue.specs.declared.view.Row.{Row}
use Rattle.ready_queue.specs.Seats as Q
use Rattle.pass_seats.specs.Names.{Names}
use Rattle.pass_seats.proofs.Lists.{none_some, some_same, at-map}
use Rattle.worker_seats.specs.Workers.{WorkerState, IsWorker, turn_of}
use Rattle.shared_engine.specs.Rings.{name_of}
use Rattle.engine_gather.specs.Columns.{ColumnState, IsRow, column_of, with_back}
use Rattle.engine_gather.specs.Parting.{IsAt, earlier, first_of, row_of}

-- one seat more has come back to each turn
pub columns_next : (n : ℕ) (turns : List (T.TurnState ℕ)) →
    map with_back (map (column_of n) turns) ≡ map (column_of (n + 1)) turns
columns_next n [] = refl
columns_next n (t ∷ turns) = ap (λ (l : List ColumnState). column_of (n + 1) t ∷ l) (columns_next n turns)

-- which turns they are
pub column_names : (n : ℕ) (turns : List (T.TurnState ℕ)) →
    map (λ (c : ColumnState). c.name) (map (column_of n) turns) ≡ map name_of turns
column_names n [] = refl
column_names n (t ∷ turns) = ap (λ (l : List TableId). t.name ∷ l) (column_names n turns)

-- a map with one element more
pub push-map : {A B : Type 0} (f : A → B) (xs : List A) (x : A) (old new : List B) → new ≡ old ++ f x ∷ [] →
    old ≡ map f xs → new ≡ map f (xs ++ x ∷ [])
push-map {B = B} f xs x old new is was =
    is ∙ ap (λ (l : List B). l ++ f x ∷ []) was ∙ sym (map-append f xs (x ∷ []))

-- the earliest of three
earlier-assoc : {A : Type 0} (a b c : Option A) → earlier a (earlier b c) ≡ earlier (earlier a b) c
earlier-assoc None b c = refl
earlier-assoc (Some x) b c = refl

-- with nothing after it
earlier-none : {A : Type 0} (a : Option A) → earlier a None ≡ a
earlier-none None = refl
earlier-none (Some x) = refl

-- the first view with one seat more
pub first_push : (seats : List WorkerState) (s : WorkerState) →
    first_of (seats ++ s ∷ []) ≡ earlier (first_of seats) s.first
first_push [] s = earlier-none s.first
first_push (t ∷ seats) s =
    ap (earlier t.first) (first_push seats s) ∙ earlier-assoc t.first (first_of seats) s.first

-- where it lies in the first of these seats, or in a later one
first_or : (t : WorkerState) (seats : List WorkerState) (view : Q.FirstState) →
    ((f : Q.FirstState) → t.first ≡ Some f → f ≡ view) → (o : Option Q.FirstState) → t.first ≡ o →
    (s : WorkerState) (f : Q.FirstState) → s.first ≡ Some f → (w : ℕ) → slice_get (t ∷ seats) w ≡ Some s →
    ((v : ℕ) → slice_get seats v ≡ Some s → first_of seats ≡ Some view) → earlier o (first_of seats) ≡ Some view
first_or t seats view here (Some g) is s f keeps w at later = ap Some (here g is)
first_or t seats view here None is s f keeps zero at later =
    absurd (none_some f (sym is ∙ ap (λ (x : WorkerState). x.first) (some_same t s at) ∙ keeps))
first_or t seats view here None is s f keeps (suc w) at later = later w at

-- where each first view that a seat keeps is this one, and some seat keeps one, it is found
pub first_found : (seats : List WorkerState) (view : Q.FirstState) →
    ((w : ℕ) (s : WorkerState) (f : Q.FirstState) → slice_get seats w ≡ Some s → s.first ≡ Some f → f ≡ view) →
    (w : ℕ) (s : WorkerState) (f : Q.FirstState) → slice_get seats w ≡ Some s → s.first ≡ Some f →
    first_of seats ≡ Some view
first_found [] view each w s f at keeps = absurd (none_some s at)
first_found (t ∷ seats) view each w s f at keeps =
    first_or t seats view (λ g is. each 0 t g refl is) t.first refl s f keeps w at
    (λ v there. first_found seats view (λ u x g at kept. each (suc u) x g at kept) v s f there keeps)

-- a worker's seats at these turns come back to them
pub row_fits : (names : Names) (columns : List ColumnState) (s : WorkerState) → IsWorker names s →
    length columns ≡ length names.boxes → IsAt (map (λ (c : ColumnState). c.name) columns) s → IsRow columns s.turns
row_fits names columns s worker many at = record {
  many = worker.many ∙ sym many;
  each = λ b c t there here. (
    some_same t.turn c.name
        (sym (at-map turn_of s.turns b t here) ∙ ap (λ (l : List TableId). slice_get l b) at
        ∙ at-map (λ (d : ColumnState). d.name) columns b c there),
    (worker.turns b t here).free,
  );
}

-- the row of the last of some seats is joined before those that were
pub row_joined : (left rest : List Q.SeatState) (row : Q.SeatState) (rows : List Row) → left ≡ rest ++ row ∷ [] →
    map row_of rest ++ (row.row ∷ rows) ≡ map row_of left ++ rows
row_joined left rest row rows is =
    sym (append_assoc (map row_of rest) (row.row ∷ []) rows)
    ∙ ap (λ (l : List Row). l ++ rows) (sym (ap (map row_of) is ∙ map-append row_of rest (row ∷ [])))
