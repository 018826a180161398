-- Checks one after the other, of which the first one that fails counts.
use Rattle.std.specs.Prelude.{◌≡◌, ℕ, List, [], ◌∷◌, ◌⊎◌, Result, Ok, Err}
use Rattle.report_text.specs.declared.refusals.Refused.{Refused}

infixr 5 ◌>=>◌
-- what a check gives for what it is given, or why it refuses it
abbrev pub Stage : Type 0 → Type 0 → Type 1
Stage A B = A → Result B Refused → Type 0

-- a check, and after it, where it passes, the next one
abbrev pub ◌>=>◌ : {A B C : Type 0} → Stage A B → Stage B C → Stage A C
(◌>=>◌) {B = B} first next given (Ok made) = (between : B) × first given (Ok between)
    × next between (Ok made)
(◌>=>◌) {B = B} first next given (Err why) =
    first given (Err why) ⊎ ((between : B) × first given (Ok between) × next between (Err why))

-- nothing is refused, and this is made
abbrev pub makes : {A B : Type 0} → (A → B) → Stage A B
makes change given (Ok made) = made ≡ change given
makes change given (Err why) = ⊥

-- what is given is refused at the first of these lines, and kept where there is none
abbrev pub passes : {A : Type 0} → (A → List ℕ) → (ℕ → Refused) → Stage A A
passes lines refusal given (Ok kept) = (kept ≡ given) × (lines given ≡ [])
passes lines refusal given (Err why) =
    (line : ℕ) × (others : List ℕ) × (lines given ≡ line ∷ others) × (why ≡ refusal line)

-- a check of the first of two, beside which the second one stays
abbrev pub first_of : {A B C : Type 0} → Stage A B → Stage (A × C) (B × C)
first_of stage given (Ok made) = stage given.0 (Ok made.0) × (made.1 ≡ given.1)
first_of stage given (Err why) = stage given.0 (Err why)

-- a check of the second of two, beside which the first one stays
abbrev pub second_of : {A B C : Type 0} → Stage A B → Stage (C × A) (C × B)
second_of stage given (Ok made) = (made.0 ≡ given.0) × stage given.1 (Ok made.1)
second_of stage given (Err why) = stage given.1 (Err why)

-- a check gives one answer at the most
abbrev pub IsOne : {A B : Type 0} → Stage A B → Type 0
IsOne {A} {B} stage =
    (given : A) (one other : Result B Refused) → stage given one → stage given other → one ≡ other
