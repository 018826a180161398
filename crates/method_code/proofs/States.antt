-- The variables of one box in a state.
use Rattle.std.proofs.Common.{◌≡◌, ℕ, zero, suc, ◌<◌, ◌≤◌, ◌⊎◌, List, [], ◌∷◌, length, set, get_or, refl}
use Rattle.std.proofs.Common.{sym, ap, ◌∙◌, inl, inr, arith}
use Rattle.std.proofs.lemmas.List.{get_or-set_same, set-get_or, set-set}
use Rattle.std.proofs.lemmas.Bool.{cases_lt}
use Rattle.std.specs.Prelude.{slice_set, slice_index_or}
use Rattle.seuss_program.specs.declared.state.Value.{Value}
use Rattle.seuss_program.specs.declared.state.Vars.{Vars}
use Rattle.seuss_program.specs.declared.state.State.{State}
use Rattle.seuss_program.specs.Programs.{vars_of, with_var}
use Rattle.method_code.specs.Chains.{with_vars}

-- variables with these values
abbrev pub vars_with : List Value → Vars
vars_with values = record { values = values }

-- a state with these boxes
abbrev pub state_with : List Vars → State
state_with boxes = record { boxes = boxes }

-- a box gets the variables that it has
pub with_same : (σ : State) (box : ℕ) → with_vars σ box (vars_of σ box) ≡ σ
with_same σ box = ap state_with (set-get_or σ.boxes box (vars_with []))

-- the last change of a box is what counts
pub with_twice : (σ : State) (box : ℕ) (vs ws : List Value) →
    with_vars (with_vars σ box vs) box ws ≡ with_vars σ box ws
with_twice σ box vs ws = ap state_with (set-set σ.boxes box (vars_with vs) (vars_with ws))

-- no place past the last one is set
past_set : {A : Type 0} (l : List A) (i : ℕ) (a : A) → length l ≤ i → set l i a ≡ l
past_set [] i a h = refl
past_set (x ∷ l) zero a h = absurd (omega (arith, h))
past_set (x ∷ l) (suc i) a h = ap (λ r. x ∷ r) (past_set l i a (omega (arith, h)))

-- nothing stands past the last one
past_get : {A : Type 0} (l : List A) (i : ℕ) (d : A) → length l ≤ i → get_or l i d ≡ d
past_get [] i d h = refl
past_get (x ∷ l) zero d h = absurd (omega (arith, h))
past_get (x ∷ l) (suc i) d h = past_get l i d (omega (arith, h))

-- what a box has after one of its variables is changed; a box that isn't there has none
pub vars_with_var : (σ : State) (box at : ℕ) (v : Value) →
    vars_of (with_var σ box at v) box ≡ slice_set (vars_of σ box) at v
vars_with_var σ box at v = by (cases_lt box (length σ.boxes))
  where
    by : (box < length σ.boxes) ⊎ (length σ.boxes ≤ box) →
        vars_of (with_var σ box at v) box ≡ slice_set (vars_of σ box) at v
    by (inl h) = ap (λ (w : Vars). w.values)
        (get_or-set_same σ.boxes box (vars_with (slice_set (vars_of σ box) at v)) (vars_with []) h)
    by (inr h) =
        let none : vars_of σ box ≡ [] = ap (λ (w : Vars). w.values) (past_get σ.boxes box (vars_with []) h)
        in
        let same : slice_set σ.boxes box (vars_with (slice_set (vars_of σ box) at v)) ≡ σ.boxes =
        past_set σ.boxes box _ h in
        ap (λ (bs : List Vars). (slice_index_or bs box (vars_with [])).values) same
        ∙ (none ∙ ap (λ vs. slice_set vs at v) (sym none))
