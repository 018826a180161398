-- Words of the proof: steps that change places, and steps on the boxes of a state.
use Rattle.std.specs.Prelude.{◌≡◌, ℕ, ◌<◌, List, [], ◌∷◌, Option, Some, None, cond, ◌==◌, slice_get}
use Rattle.std.specs.Prelude.{slice_set, ◌⊎◌}
use Rattle.std.specs.List.{AllByRecursion}

-- R holds of each element and each later one
abbrev pub Pairs : {A : Type 0} → (A → A → Type 0) → List A → Type 0
Pairs R [] = Unit {0}
Pairs R (x ∷ xs) = AllByRecursion (R x) xs × Pairs R xs

-- wherever e and then f give their records, f and then e do so, and leave the same
abbrev pub Exchanges : {E V : Type 0} → (E → V → V → Type 0) → E → E → Type 0
Exchanges {V = V} does e f = (v u w : V) → does e v u → does f u w → (t : V) × does f v t × does e t w

-- wherever e gives its record, it leaves all as it was
abbrev pub IsIdle : {E V : Type 0} → (E → V → V → Type 0) → E → Type 0
IsIdle {V = V} does e = (v w : V) → does e v w → v ≡ w

-- the entries of these steps that are on box b; a step is a box and an entry
abbrev pub on_box : {E : Type 0} → ℕ → List (ℕ × E) → List E
on_box b [] = []
on_box b (x ∷ xs) = cond (x.0 == b) (x.1 ∷ on_box b xs) (on_box b xs)

-- the steps make their records one after the other, from s to t
abbrev pub Makes : {E V : Type 0} → (ℕ → E → V → V → Type 0) → List V → List (ℕ × E) → List V → Type 0
Makes does s [] t = s ≡ t
Makes {V = V} does s (x ∷ xs) t =
    (v : V) × (u : V) × (slice_get s x.0 ≡ Some v) × does x.0 x.1 v u × Makes does (slice_set s x.0 u) xs t

-- the same of passes, one after the other
abbrev pub Serial : {E V : Type 0} → (ℕ → E → V → V → Type 0) → List V → List (List (ℕ × E)) → List V →
    Type 0
Serial does s [] t = s ≡ t
Serial {V = V} does s (p ∷ ps) t = (m : List V) × Makes does s p m × Serial does m ps t

-- both have a value, and R holds of them, or neither has one
abbrev pub Both : {V : Type 0} → (V → V → Type 0) → Option V → Option V → Type 0
Both R None None = Unit {0}
Both R None (Some w) = ⊥
Both R (Some v) None = ⊥
Both R (Some v) (Some w) = R v w

-- R holds at each box of two states with as many boxes
abbrev pub Boxwise : {V : Type 0} → (ℕ → V → V → Type 0) → List V → List V → Type 0
Boxwise R s t = (b : ℕ) → Both (R b) (slice_get s b) (slice_get t b)

-- x is an element
abbrev pub In : {A : Type 0} → A → List A → Type 0
In x [] = ⊥
In x (y ∷ ys) = (x ≡ y) ⊎ In x ys

-- the stamps rise, and all are above this one
abbrev pub RisesFrom : {A : Type 0} → (A → ℕ) → ℕ → List A → Type 0
RisesFrom stamp s [] = Unit {0}
RisesFrom stamp s (e ∷ es) = (s < stamp e) × RisesFrom stamp (stamp e) es
