-- The rule of a word that says who gave up first, and what its steps do to views.
use Rattle.std.specs.Prelude.{◌≡◌, ℕ, zero, suc, ◌+◌, ◌-◌, ◌≤◌, ◌^◌, Bool, true, false, ◌&&◌, List, [], ◌∷◌}
use Rattle.std.specs.Prelude.{◌++◌, length, All, sum_by, count_by, cond, ◌==◌, Option, Some, None}
use mathlib.Core.Option.{some}
use lib.ListN.{get_elem?}
use Rattle.atomic_table.specs.Table.{Me, Step}
use Rattle.step_journal.specs.Rules.{once_below}
use Rattle.quit_word.specs.declared.view.View.{View}

-- numbers of workers, each with whether it is marked as the one that gave up
abbrev pub Held : Type 0
Held = List (ℕ × Bool)

-- the first view at the beginning
abbrev pub opened : View
opened = record { first = true; given = 0; held = []; seen = None }

-- a view that knows nothing
abbrev pub spent : View
spent = record { first = false; given = 0; held = []; seen = None }

-- how often a view has this number
abbrev pub times_in : ℕ → View → ℕ
times_in m v = count_by (λ h. h.0 == m) v.held

-- how often a view has this number with a mark
abbrev pub marks_in : ℕ → View → ℕ
marks_in m v = count_by (λ h. (h.0 == m) && h.1) v.held

-- how many numbers a view has
abbrev pub size_of : View → ℕ
size_of v = length v.held

-- 1 for the first view, else 0
abbrev pub firsts_in : View → ℕ
firsts_in v = cond v.first 1 0

-- 1 where the word names this number, else 0
abbrev pub once_named : ℕ → ℕ → ℕ
once_named m word = cond (word == m + 1) 1 0

-- what the rule says of one view: the first one knows how many numbers were given, and whoever has
-- seen a number has seen the one that the word names
pub record Fits (given word : ℕ) (v : View) : Type 0 where
  pub counts : v.first ≡ true → v.given ≡ given
  pub names : (s : ℕ) → v.seen ≡ Some s → word ≡ s + 1

-- The rule, at a word and so many numbers given. One view is the first. Each number given stands in
-- one view, and no other number in any. The number that the word names is marked, and no other one.
pub record Stands (given word : ℕ) (words : List ℕ) (views : List View) : Type 0 where
  pub word_is : words ≡ word ∷ []
  pub few : given ≤ 2 ^ 32
  pub one_first : sum_by firsts_in views ≡ 1
  pub fits : (id : ℕ) (v : View) → get_elem? views id ≡ some v → Fits given word v
  pub each_once : (m : ℕ) → sum_by (times_in m) views ≡ once_below m given
  pub all : sum_by size_of views ≡ given
  pub marked : (m : ℕ) → sum_by (marks_in m) views ≡ once_named m word

-- the rule: it stands at some word, for some count of numbers given
pub record IsKept (words : List ℕ) (views : List View) : Type 0 where
  pub given : ℕ
  pub word : ℕ
  pub stands : Stands given word words views

-- the first view, with one number more given
abbrev pub with_next : View → View
with_next v = record { first = v.first; given = v.given + 1; held = v.held; seen = v.seen }

-- a worker's view with the next number
abbrev pub next_worker : View → View
next_worker v = record { first = false; given = 0; held = (v.given, false) ∷ []; seen = None }

-- a view without a number that has seen as much
abbrev pub unnumbered : View → View
unnumbered v = record { first = false; given = 0; held = []; seen = v.seen }

-- what two views have seen: the first of them, or else the second
abbrev pub either_seen : Option ℕ → Option ℕ → Option ℕ
either_seen None t = t
either_seen (Some s) t = Some s

-- a view with what another one had
abbrev pub both : View → View → View
both v u = record {
  first = v.first;
  given = v.given;
  held = u.held ++ v.held;
  seen = either_seen v.seen u.seen;
}

-- what a view has seen after it found this at the word
abbrev pub seen_at : ℕ → Option ℕ → Option ℕ
seen_at zero t = t
seen_at (suc s) t = Some s

-- a view that found this at the word
abbrev pub looked : ℕ → View → View
looked n v = record { first = v.first; given = v.given; held = v.held; seen = seen_at n v.seen }

-- What a look tells. Where the word is 0 nobody was seen. Where the first view has all numbers, and
-- none is marked, the word is 0.
pub record Tells (n : ℕ) (v : View) : Type 0 where
  pub nobody : n ≡ 0 → v.seen ≡ None
  pub unnamed : v.first ≡ true → size_of v ≡ v.given → All (λ h. h.1 ≡ false) v.held → n ≡ 0
  pub few : n ≤ 2 ^ 32

-- a look: the view has seen what it found, and is told
abbrev pub Looks : {S : Type 0} → Step S → Me S View → ℕ → Me S View → Type 0
Looks step before n after = (after ≡ (looked n before.0, before.1)) × Tells n before.0

-- the first of these numbers is marked
abbrev pub marked_held : Held → Held
marked_held [] = []
marked_held (h ∷ hs) = (h.0, true) ∷ hs

-- a view that put this at the word where it found 0, and else saw who stood there
abbrev pub quitted : ℕ → ℕ → View → View
quitted k zero v = record {
  first = v.first;
  given = v.given;
  held = marked_held v.held;
  seen = Some (k - 1);
}
quitted k (suc s) v = record { first = v.first; given = v.given; held = v.held; seen = Some s }

-- a quit: one compare and exchange from 0
abbrev pub Quits : {S : Type 0} → Step S → Me S View → ℕ → Me S View → Type 0
Quits step before n after = after ≡ (quitted step.second n before.0, before.1)
