-- What stands in a state and in a program.
use Rattle.std.proofs.Common.{◌≡◌, ℕ, List, [], Option, None, Some, sym, ap, subst, ◌∙◌}
use Rattle.std.specs.Prelude.{slice_get, slice_set, slice_index_or, unwrap_or}
use Rattle.std.proofs.lemmas.List.{set-set}
use Rattle.std.proofs.lemmas.Option.{get_or_from_slice_get, unwrap_or-slice_get}
use Rattle.seuss_program.specs.declared.tree.Ref.{Ref}
use Rattle.seuss_program.specs.declared.tree.Ref.TheVariants as R
use Rattle.seuss_program.specs.declared.program.Program.{Program}
use Rattle.seuss_program.specs.declared.program.BoxInfo.{BoxInfo}
use Rattle.seuss_program.specs.declared.state.Value.{Value}
use Rattle.seuss_program.specs.declared.state.Vars.{Vars}
use Rattle.seuss_program.specs.declared.state.State.{State}
use Rattle.seuss_program.specs.Programs.{vars_of, with_var, target_of, given_in}

abbrev vars_with : List Value → Vars
vars_with values = record { values = values }

abbrev state_with : List Vars → State
state_with boxes = record { boxes = boxes }

-- a box's variables are taken out, one of them is changed, and they are put back
pub with_var_is : (state : State) (n at : ℕ) (v : Value) (old none : Vars) (mid new : List Vars)
    (values : List Value) →
    slice_get state.boxes n ≡ Some old → mid ≡ slice_set state.boxes n none →
    values ≡ slice_set old.values at v → new ≡ slice_set mid n (vars_with values) →
    state_with new ≡ with_var state n at v
with_var_is state n at v old none mid new values got out changed back =
    let same : (slice_index_or state.boxes n (vars_with [])).values ≡ old.values =
    ap (λ (w : Vars). w.values) (get_or_from_slice_get state.boxes n old (vars_with []) got) in
    let changed' : values ≡ slice_set (vars_of state n) at v =
    changed ∙ ap (λ vs. slice_set vs at v) (sym same) in
    ap state_with
    (back ∙ (ap (λ m. slice_set m n (vars_with values)) out ∙ (set-set state.boxes n none (vars_with values)
    ∙ ap (λ vs. slice_set state.boxes n (vars_with vs)) changed')))

-- the box that a given name stands for
pub target_is : (p : Program) (box number r : ℕ) (info : BoxInfo) (name : Ref) → name ≡ R.Given number →
    Some info ≡ slice_get p.boxes box →
    r ≡ unwrap_or (slice_get info.given number) 0 → r ≡ target_of p box name
target_is p box number r info name named found at =
    subst (λ (n : Ref). r ≡ target_of p box n) (sym named)
    (subst (λ (i : Option BoxInfo). r ≡ given_in i number) found
    (at ∙ unwrap_or-slice_get info.given number 0))

-- a box that isn't there has no variables
pub no_vars : (state : State) (box : ℕ) → None ≡ slice_get state.boxes box → [] ≡ vars_of state box
no_vars state box none =
    ap (λ (w : Vars). w.values)
    (ap (λ (o : Option Vars). unwrap_or o (vars_with [])) none
    ∙ unwrap_or-slice_get state.boxes box (vars_with []))
