-- Journals as lists.
use Rattle.std.specs.Prelude.{◌≡◌, ℕ, List, [], ◌∷◌, map, filter, ◌==◌}
pub use mathlib.Core.List.{IsPrefix}

-- a journal: pairs of a maker's number and an entry
abbrev pub Log : Type 0 → Type 0
Log E = List (ℕ × E)

-- who made the entries, in their order
abbrev pub makers_of : {E : Type 0} → Log E → List ℕ
makers_of log = map (λ p. p.0) log

-- the entries, in their order
abbrev pub entries_of : {E : Type 0} → Log E → List E
entries_of log = map (λ p. p.1) log

-- the entries of one maker, in their order
abbrev pub own_entries : {E : Type 0} → ℕ → Log E → List E
own_entries maker log = entries_of (filter (λ p. p.0 == maker) log)

-- a beginning of the journal that has all entries of its maker
pub record IsNoteOf {E : Type 0} (log : Log E) (maker : ℕ) (seen : Log E) : Type 0 where
  pub front : IsPrefix seen log
  pub own : own_entries maker seen ≡ own_entries maker log

-- from v the steps of these entries lead to w: `does e u t` says that a step from u is as e records it,
-- and leaves t
abbrev pub IsLegal : {E V : Type 0} → (E → V → V → Type 0) → V → List E → V → Type 0
IsLegal does v [] w = v ≡ w
IsLegal {V = V} does v (e ∷ es) w = (u : V) × does e v u × IsLegal does u es w
