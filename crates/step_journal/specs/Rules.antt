-- The rule of a journal's table, whose one word is the number of entries, and what its steps do to views.
use Rattle.std.specs.Prelude.{◌≡◌, ℕ, ◌+◌, ◌<◌, List, [], ◌∷◌, ◌++◌, length, All, sum_by, count_by, cond}
use Rattle.std.specs.Prelude.{nat_lt, ◌==◌}
use mathlib.Core.Option.{some}
use lib.ListN.{get_elem?}
use Rattle.atomic_table.specs.Table.{Me, Step}
use Rattle.step_journal.specs.declared.view.View.{View}
use Rattle.step_journal.specs.declared.view.View.TheVariants.{Spent, Noted, Writer}
use Rattle.step_journal.specs.Histories.{Log, IsNoteOf}

-- how many of the lists are of this maker
abbrev pub lists_of : {A : Type 0} → ℕ → List (ℕ × A) → ℕ
lists_of maker olds = count_by (λ o. o.0 == maker) olds

-- 1 where the number is below the other one, else 0
abbrev pub once_below : ℕ → ℕ → ℕ
once_below m n = cond (nat_lt m n) 1 0

-- 1 for the writer's view, else 0
abbrev pub writers_in : {E : Type 0} → View E → ℕ
writers_in Spent = 0
writers_in (Noted maker seen) = 0
writers_in (Writer log olds given) = 1

-- how many lists a view has, as a live note or as old lists
abbrev pub lists_in : {E : Type 0} → View E → ℕ
lists_in Spent = 0
lists_in (Noted maker seen) = 1
lists_in (Writer log olds given) = length olds

-- how many of them are of this maker
abbrev pub own_lists_in : {E : Type 0} → ℕ → View E → ℕ
own_lists_in m Spent = 0
own_lists_in m (Noted maker seen) = cond (maker == m) 1 0
own_lists_in m (Writer log olds given) = lists_of m olds

-- what the rule says of one view: the writer knows the journal, and every list is a beginning of it
-- with all entries of its maker
abbrev pub Fits : {E : Type 0} → Log E → ℕ → View E → Type 0
Fits log given Spent = Unit {0}
Fits log given (Noted maker seen) = IsNoteOf log maker seen
Fits log given (Writer known olds count) =
    (known ≡ log) × (count ≡ given) × All (λ o. IsNoteOf log o.0 o.1) olds

-- The rule, for a journal with these entries and as many numbers given. One view is the writer's, and
-- its list has the word's length. Each number given stands in one live note or old list, and no other
-- number in any. Every entry has a maker whose number was given.
pub record Stands {E : Type 0} (log : Log E) (given : ℕ) (words : List ℕ) (views : List (View E))
    : Type 0 where
  pub word : words ≡ length log ∷ []
  pub one_writer : sum_by writers_in views ≡ 1
  pub fits : (id : ℕ) (v : View E) → get_elem? views id ≡ some v → Fits log given v
  pub each_once : (m : ℕ) → sum_by (own_lists_in m) views ≡ once_below m given
  pub all_lists : sum_by lists_in views ≡ given
  pub makers : All (λ p. p.0 < given) log

-- the rule: it stands for some journal
pub record IsKept {E : Type 0} (words : List ℕ) (views : List (View E)) : Type 0 where
  pub log : Log E
  pub given : ℕ
  pub stands : Stands log given words views

-- what a look tells the writer: each old list is a beginning with all entries of its maker, each entry
-- has a maker whose number was given, and where there are as many old lists as numbers, each number has
-- just one
pub record IsSound {E : Type 0} (log : Log E) (olds : List (ℕ × Log E)) (given : ℕ) : Type 0 where
  pub fronts : All (λ o. IsNoteOf log o.0 o.1) olds
  pub makers : All (λ p. p.0 < given) log
  pub each_once : length olds ≡ given → (m : ℕ) → lists_of m olds ≡ once_below m given

-- what a step that found the word at n tells the seat that made it
abbrev pub Tells : {E : Type 0} → View E → ℕ → Type 0
Tells Spent n = Unit {0}
Tells (Noted maker seen) n = Unit {0}
Tells (Writer log olds given) n = (n ≡ length log) × IsSound log olds given

-- a look: nothing changes, and the writer is told
abbrev pub Looks : {S E : Type 0} → Step S → Me S (View E) → ℕ → Me S (View E) → Type 0
Looks step before n after = (after ≡ before) × Tells before.0 n

-- the journal longer by one entry of the maker whose list was taken in last, and that list the whole journal
abbrev pub longer_by : {E : Type 0} → View E → List E → View E
longer_by (Writer log ((maker, seen) ∷ olds) given) (e ∷ es) =
    Writer (log ++ (maker, e) ∷ []) ((maker, log ++ (maker, e) ∷ []) ∷ olds) given
longer_by v es = v

-- an append: the number found is the place of the entry
abbrev pub Appends : {S E : Type 0} → List E → Step S → Me S (View E) → ℕ → Me S (View E) → Type 0
Appends picked step before n after = (after ≡ (longer_by before.0 picked, before.1)) × Tells before.0 n

-- the writer, with one number more given
abbrev pub with_next : {E : Type 0} → View E → View E
with_next Spent = Spent
with_next (Noted maker seen) = Noted maker seen
with_next (Writer log olds given) = Writer log olds (given + 1)

-- the note with the next number, which has seen all
abbrev pub next_note : {E : Type 0} → View E → View E
next_note Spent = Spent
next_note (Noted maker seen) = Spent
next_note (Writer log olds given) = Noted given log

-- the writer without the list that was taken in last
abbrev pub without_last : {E : Type 0} → View E → View E
without_last Spent = Spent
without_last (Noted maker seen) = Noted maker seen
without_last (Writer log [] given) = Writer log [] given
without_last (Writer log (o ∷ olds) given) = Writer log olds given

-- the note with the number of that list, which has seen all
abbrev pub last_note : {E : Type 0} → View E → View E
last_note Spent = Spent
last_note (Noted maker seen) = Spent
last_note (Writer log [] given) = Spent
last_note (Writer log (o ∷ olds) given) = Noted o.0 log

-- the writer with the list of a note as an old one
abbrev pub with_list : {E : Type 0} → View E → View E → View E
with_list (Writer log olds given) (Noted maker seen) = Writer log ((maker, seen) ∷ olds) given
with_list v w = v
