-- The rule of a queue of items that are ready to run, and what its steps do to views.
use Rattle.std.specs.Prelude.{◌≡◌, ℕ, ◌+◌, List, [], ◌∷◌, ◌++◌, length, map, All, sum_by, count_by}
use Rattle.std.specs.Prelude.{◌==◌, Bool, ◌&&◌, IsPermutation}
use Rattle.std.specs.List.Sorted.{IsStrictlyIncreasing}
use mathlib.Core.Option.{some}
use lib.ListN.{get_elem?}
use Rattle.step_journal.specs.Rules.{once_below}
use Rattle.ready_queue.specs.declared.view.Mark.{Mark}
use Rattle.ready_queue.specs.declared.view.Row.{Row}
use Rattle.ready_queue.specs.declared.view.View.{View}
use Rattle.ready_queue.specs.declared.view.View.TheVariants.{Spent, Seated, First}

-- 1 for the first view, else 0
abbrev pub firsts_in : View → ℕ
firsts_in Spent = 0
firsts_in (Seated row) = 0
firsts_in (First rows given) = 1

-- the rows of a view
abbrev pub rows_in : View → List Row
rows_in Spent = []
rows_in (Seated row) = row ∷ []
rows_in (First rows given) = rows

-- how many of the rows have this number
abbrev pub rows_of : ℕ → List Row → ℕ
rows_of m rows = count_by (λ r. r.number == m) rows

-- what was pushed under these rows' numbers
abbrev pub pushed_in : List Row → List Mark
pushed_in [] = []
pushed_in (r ∷ rows) = r.pushed ++ pushed_in rows

-- what was taken under these rows' numbers
abbrev pub taken_in : List Row → List Mark
taken_in [] = []
taken_in (r ∷ rows) = r.taken ++ taken_in rows

-- what was pushed under the numbers of a view's rows
abbrev pub pushed_by : View → List Mark
pushed_by Spent = []
pushed_by (Seated row) = row.pushed
pushed_by (First rows given) = pushed_in rows

-- what was taken under the numbers of a view's rows
abbrev pub taken_by : View → List Mark
taken_by Spent = []
taken_by (Seated row) = row.taken
taken_by (First rows given) = taken_in rows

-- what all these views have, one after the other
abbrev pub all_of : {X : Type 0} → (View → List X) → List View → List X
all_of f [] = []
all_of f (v ∷ views) = f v ++ all_of f views

-- the numbers of the passes
abbrev pub passes : List Mark → List ℕ
passes marks = map (λ m. m.ticket.pass) marks

-- the item is of this seat and pass
abbrev pub is_item : ℕ → ℕ → Mark → Bool
is_item seat pass m = (m.seat == seat) && (m.ticket.pass == pass)

-- what was pushed under a number names that number, and its pass numbers rise: so no item is pushed twice
pub record IsOwn (row : Row) : Type 0 where
  pub names : All (λ m. m.seat ≡ row.number) row.pushed
  pub rise : IsStrictlyIncreasing (passes row.pushed)

-- what the rule says of one view: its rows are as they should be, and the first view knows how many numbers
-- were given
abbrev pub Fits : ℕ → View → Type 0
Fits given Spent = Unit {0}
Fits given (Seated row) = IsOwn row
Fits given (First rows count) = (count ≡ given) × All IsOwn rows

-- The rule, for a queue that holds items with these marks, where so many numbers were given. One view is the
-- first one. Each number given is that of one row of one view, and there are no other rows. What the queue
-- holds and what was taken under all numbers is just what was pushed under all numbers, each item once.
pub record Stands (items : List Mark) (given : ℕ) (views : List View) : Type 0 where
  pub one_first : sum_by firsts_in views ≡ 1
  pub fits : (id : ℕ) (v : View) → get_elem? views id ≡ some v → Fits given v
  pub each_once : (m : ℕ) → sum_by (λ v. rows_of m (rows_in v)) views ≡ once_below m given
  pub many : sum_by (λ v. length (rows_in v)) views ≡ given
  pub handed : IsPermutation (items ++ all_of taken_by views) (all_of pushed_by views)

-- the rule: it stands for some count of numbers
pub record IsKept (items : List Mark) (views : List View) : Type 0 where
  pub given : ℕ
  pub stands : Stands items given views

-- at one moment the queue held items with these marks, and this view was one of the views
pub record Held (items : List Mark) (v : View) : Type 0 where
  pub views : List View
  pub id : ℕ
  pub kept : IsKept items views
  pub here : get_elem? views id ≡ some v

-- the rows have all numbers below this one, each once, and what the queue holds and what was taken is just
-- what was pushed, each item once
pub record IsSettled (items : List Mark) (rows : List Row) (given : ℕ) : Type 0 where
  pub own : All IsOwn rows
  pub each_once : (m : ℕ) → rows_of m rows ≡ once_below m given
  pub handed : IsPermutation (items ++ taken_in rows) (pushed_in rows)

-- what a look tells: the first view knows the whole once it has as many rows as numbers were given
abbrev pub Tells : List Mark → View → Type 0
Tells items Spent = Unit {0}
Tells items (Seated row) = Unit {0}
Tells items (First rows given) = length rows ≡ given → IsSettled items rows given

-- the first view, with one number more given
abbrev pub with_next : View → View
with_next Spent = Spent
with_next (Seated row) = Seated row
with_next (First rows given) = First rows (given + 1)

-- a row without items
abbrev pub new_row : ℕ → Row
new_row number = record { number = number; pushed = []; taken = [] }

-- a seat with the next number
abbrev pub next_seat : View → View
next_seat Spent = Spent
next_seat (Seated row) = Spent
next_seat (First rows given) = Seated (new_row given)

-- the row with one item more that was pushed
abbrev pub pushing : Row → Mark → Row
pushing row m = record { number = row.number; pushed = row.pushed ++ m ∷ []; taken = row.taken }

-- the row with one item more that was taken
abbrev pub taking : Row → Mark → Row
taking row m = record { number = row.number; pushed = row.pushed; taken = row.taken ++ m ∷ [] }

-- the view of a seat with that item more in its row
abbrev pub with_pushed : View → Mark → View
with_pushed Spent m = Spent
with_pushed (Seated row) m = Seated (pushing row m)
with_pushed (First rows given) m = First rows given

-- the view of a seat with that item taken
abbrev pub with_taken : View → Mark → View
with_taken Spent m = Spent
with_taken (Seated row) m = Seated (taking row m)
with_taken (First rows given) m = First rows given

-- the first view with the row of a seat
abbrev pub with_row : View → View → View
with_row (First rows given) (Seated row) = First (row ∷ rows) given
with_row v w = v
