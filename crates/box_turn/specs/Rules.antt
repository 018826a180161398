-- The rule of a turn's table, whose word is 1 while a seat holds the turn, and what its steps do to views.
use Rattle.std.specs.Prelude.{◌≡◌, ℕ, zero, suc, ◌+◌, ◌-◌, ◌<◌, List, [], ◌∷◌, sum_by, cond}
use Rattle.std.specs.Prelude.{Bool, true, false, ◌==◌, MatchBool, Option, Some}
use mathlib.Core.Option as maybe
use lib.ListN.{get_elem?}
use Rattle.atomic_table.specs.Table.{State, Me, Step, rest}
use Rattle.box_turn.specs.declared.view.View.{View}
use Rattle.box_turn.specs.declared.view.View.TheVariants.{Spent, Live}

-- the names that a view has of the value, or these where it has none
abbrev pub names_in : {N : Type 0} → N → View N → N
names_in any Spent = any
names_in any (Live names parts misses holds) = names

-- how many parts of the turn a view has
abbrev pub parts_in : {N : Type 0} → View N → ℕ
parts_in Spent = 0
parts_in (Live names parts misses holds) = parts

-- how often it found the turn taken
abbrev pub misses_in : {N : Type 0} → View N → ℕ
misses_in Spent = 0
misses_in (Live names parts misses holds) = misses

-- whether it holds the turn
abbrev pub holds_in : {N : Type 0} → View N → Bool
holds_in Spent = false
holds_in (Live names parts misses holds) = holds

-- 1 where it holds the turn, else 0
abbrev pub turns_in : {N : Type 0} → View N → ℕ
turns_in v = cond (holds_in v) 1 0

-- what the rule says of one view: it has these names, and at least one part
abbrev pub Fits : {N : Type 0} → N → View N → Type 0
Fits names Spent = Unit {0}
Fits names (Live known parts misses holds) = (known ≡ names) × (0 < parts)

-- where the value lies: at word 0 in the slot, where it keeps what it has to, and at word 1 not there
abbrev pub Lies : {C N : Type 0} → (N → C → Type 0) → N → ℕ → List (maybe.Option (Option C)) → Type 0
Lies {C} keeps names zero homes = (cell : C) × (homes ≡ maybe.some (Some cell) ∷ []) × keeps names cell
Lies keeps names (suc zero) homes = homes ≡ maybe.none ∷ []
Lies keeps names (suc (suc n)) homes = ⊥

-- The rule, at this word. The parts of all views together are as many as the seats that were asked for. As
-- many views hold the turn as the word says: none at 0, one at 1.
pub record Stands {C N : Type 0} (keeps : N → C → Type 0) (names : N) (seats word : ℕ)
    (table : State (Option C) (View N)) : Type 0 where
  pub word_is : table.words ≡ word ∷ []
  pub lies : Lies keeps names word table.homes
  pub fits : (id : ℕ) (v : View N) → get_elem? table.views id ≡ maybe.some v → Fits names v
  pub all_parts : sum_by parts_in table.views ≡ seats
  pub holders : sum_by turns_in table.views ≡ word

-- the rule: it stands at some word
pub record IsKept {C N : Type 0} (keeps : N → C → Type 0) (names : N) (seats : ℕ)
    (table : State (Option C) (View N)) : Type 0 where
  pub word : ℕ
  pub stands : Stands keeps names seats word table

-- the view, holding the turn
abbrev pub with_turn : {N : Type 0} → View N → View N
with_turn Spent = Spent
with_turn (Live names parts misses holds) = Live names parts misses true

-- the view, no longer holding it
abbrev pub without_turn : {N : Type 0} → View N → View N
without_turn Spent = Spent
without_turn (Live names parts misses holds) = Live names parts misses false

-- the view, with one miss more
abbrev pub with_miss : {N : Type 0} → View N → View N
with_miss Spent = Spent
with_miss (Live names parts misses holds) = Live names parts (misses + 1) holds

-- the view, with one part less
abbrev pub with_one_less : {N : Type 0} → View N → View N
with_one_less Spent = Spent
with_one_less (Live names parts misses holds) = Live names (parts - 1) misses holds

-- a new view with that part
abbrev pub one_part : {N : Type 0} → View N → View N
one_part Spent = Spent
one_part (Live names parts misses holds) = Live names 1 0 false

-- the view, with the parts of another one as well
abbrev pub with_parts_of : {N : Type 0} → View N → View N → View N
with_parts_of Spent other = Spent
with_parts_of (Live names parts misses holds) other = Live names (parts + parts_in other) misses holds

-- the value keeps what it has to under the names of a view
abbrev pub KeptBy : {C N : Type 0} → (N → C → Type 0) → View N → C → Type 0
KeptBy keeps Spent cell = Unit {0}
KeptBy keeps (Live names parts misses holds) cell = keeps names cell

-- a take: where it finds 0 the seat has the slot with its value and holds the turn, and where it finds 1,
-- only there, it counts a miss
abbrev pub Takes : {C N : Type 0} → (N → C → Type 0) → Step (Option C) → Me (Option C) (View N) → ℕ →
    Me (Option C) (View N) → Type 0
Takes {C} keeps step before found after =
    MatchBool (found == 0)
    ((cell : C) × KeptBy keeps before.0 cell × (after ≡ (with_turn before.0, (0, Some cell) ∷ before.1)))
    ((found ≡ 1) × (after ≡ (with_miss before.0, before.1)))

-- a give: the seat has given the slot back and no longer holds the turn
abbrev pub Gives : {S N : Type 0} → Step S → Me S (View N) → ℕ → Me S (View N) → Type 0
Gives step before found after = after ≡ (without_turn before.0, rest before.1)
