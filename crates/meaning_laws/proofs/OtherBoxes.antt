-- An attempt changes no variables of another box whose level isn't lower.
use Rattle.std.proofs.Common.{◌≡◌, ◌≢◌, ℕ, zero, suc, ◌≤◌, ◌<◌, ℤ, Bool, ◌&&◌, IsTrue, List, [], ◌∷◌, ◌++◌}
use Rattle.std.proofs.Common.{Option, None, Some, Ok, Err, refl, sym, ap, ◌∙◌, subst, arith}
use Rattle.std.specs.Prelude.{slice_get, nat_le}
use Rattle.std.proofs.Common.{length}
use Rattle.seuss_program.specs.declared.program.Program.{Program}
use Rattle.seuss_program.specs.declared.tree.Ref.{Ref}
use Rattle.seuss_program.specs.declared.tree.Ref.TheVariants as R
use Rattle.seuss_program.specs.declared.tree.Kind.TheVariants as KV
use Rattle.seuss_program.specs.declared.tree.Call.{Call}
use Rattle.seuss_program.specs.declared.tree.Cat.{Cat}
use Rattle.seuss_program.specs.declared.tree.Proc.{Proc}
use Rattle.seuss_program.specs.declared.tree.Form.{Form}
use Rattle.seuss_program.specs.declared.tree.Form.TheVariants as F
use Rattle.seuss_program.specs.declared.tree.Alternative.{Alternative}
use Rattle.seuss_program.specs.declared.state.State.{State}
use Rattle.seuss_program.specs.declared.state.Value.{Value}
use Rattle.seuss_program.specs.declared.state.Value.TheVariants as V
use Rattle.seuss_program.specs.Programs.{cat_of, procedure_of, level_of, target_of, method_of, vars_of}
use Rattle.seuss_program.specs.Values.{Evaluated, value}
use Rattle.seuss_program.specs.Bodies.{Callee, Called, assigned, evaluated_into, bound}
use Rattle.seuss_program.specs.Attempts.{attempt, attempt_of, entry_slots}
use Rattle.seuss_program.specs.Keeping.{Scope, scope_of, Keeps, kind_in, is_of, call_fits, pre_fits}
use Rattle.seuss_program.specs.Keeping.{body_fits, alternative_fits, alternatives_fit, form_fits, is_partial}
use Rattle.meaning_laws.specs.Alternatives.{alternatives_of}
use Rattle.meaning_laws.specs.Rejections.{PreRejects}
use Rattle.meaning_laws.proofs.KeptBodies.{KeptCall}
use Rattle.meaning_laws.proofs.CalledProcedures.{and-left, and-right, and-then-some, none-some, some-same}
use Rattle.meaning_laws.proofs.CalledProcedures.{keeps-procedure, call-named, form-is, goes-down}
use Rattle.meaning_laws.proofs.FittingTexts.{Keeping, performed-outs}
use Rattle.meaning_laws.proofs.KeptForms.{vars-other}

-- a callee changes no variables of another box whose level isn't lower
pub record StaysBelow (p : Program) (callee : Callee) : Type 0 where
  pub by : (box number other : ℕ) (args : List Value) (state : State) (budget : ℕ) → other ≢ box →
      level_of p box ≤ level_of p other →
      vars_of (callee box number args state budget).state other ≡ vars_of state other

-- a box of a lower level is another one
pub lower-differs : (p : Program) (target other : ℕ) → level_of p target < level_of p other → other ≢ target
lower-differs p target other less same =
    let e : level_of p other ≡ level_of p target = ap (level_of p) same in absurd (omega (arith, less, e))

module _ (p : Program) (keeps : Keeps p) (callee : Callee) (below : StaysBelow p callee) (box : ℕ)
    (c : Cat Ref) (at : cat_of p box ≡ Some c) (q : Proc Ref)
    (other : ℕ) (differ : other ≢ box) (higher : level_of p box ≤ level_of p other) (vars : List Value) where
  -- what the text of the procedure sees
  abbrev scope : Scope
  scope = scope_of p.cats c q

  -- the variables of the other box are as they were
  abbrev Kept_vars : State → List Value → ℕ → Type 0
  Kept_vars state slots budget = vars_of state other ≡ vars

  -- an assigned value leaves the other box
  assigned-same : (name : Ref) (v : Value) (state : State) (slots : List Value) (budget : ℕ) →
      vars_of (assigned box name v state slots budget).state other ≡ vars_of state other
  assigned-same (R.Var n) v state slots budget = vars-other state box other n v differ
  assigned-same (R.Slot n) v state slots budget = refl
  assigned-same (R.Given n) v state slots budget = refl
  assigned-same (R.Method n) v state slots budget = refl
  assigned-same (R.Cat n) v state slots budget = refl

  -- an evaluated value leaves the other box
  evaluated-same : (name : Ref) (ev : Evaluated) (state : State) (slots : List Value) (budget : ℕ) →
      vars_of (evaluated_into box name ev state slots budget).state other ≡ vars_of state other
  evaluated-same name (Err t) state slots budget = refl
  evaluated-same name (Ok v) state slots budget = assigned-same name v state slots budget

  -- a bound result leaves the other box
  bound-same : (bind : Option Ref) (result : Option ℤ) (state : State) (slots : List Value) (budget : ℕ) →
      vars_of (bound box bind result state slots budget).state other ≡ vars_of state other
  bound-same None result state slots budget = refl
  bound-same (Some name) None state slots budget = refl
  bound-same (Some name) (Some z) state slots budget = assigned-same name (V.Int z) state slots budget

  -- a call that fits leaves the other box
  call-same : (form : Form Ref → Bool) (bind : Option Ref) (call : Call Ref) →
      IsTrue (call_fits scope form bind call) → KeptCall p callee box Kept_vars bind call
  call-same form bind call fits = record {
    by = λ state slots budget args h is.
        let named = call-named scope form bind call fits in
        let down =
        goes-down p keeps box c at q form call named.0 named.1
        (form-is scope form bind call fits named.0 named.1) in
        let called = callee (target_of p box call.target) (method_of call.method) args state budget in
        let lower : level_of p (target_of p box call.target) < level_of p other =
        omega (arith, down.lower, higher) in
        let after : vars_of called.state other ≡ vars =
        below.by (target_of p box call.target) (method_of call.method) other args state budget
        (lower-differs p (target_of p box call.target) other lower) (omega (arith, lower)) ∙ h in
        (after, bound-same bind called.result called.state slots called.budget ∙ after);
  }

  -- the other box is left by payments, assigned values and calls
  keeping-vars : Keeping scope p callee box Kept_vars
  keeping-vars = record {
    paid = λ state slots left h. h;
    put =
        λ name e a.
        record {
          by = λ state slots budget h. evaluated-same name
              (value e (vars_of state box) slots) state slots budget ∙ h;
        };
    call = call-same;
  }

  -- a procedure leaves the other box where its callee leaves all that aren't lower
  pub procedure-same : (number : ℕ) (args : List Value) (state : State) (budget : ℕ) →
      procedure_of p box number ≡ Some q → vars_of state other ≡ vars →
      vars_of (attempt_of p callee box (Some q) args state budget).state other ≡ vars
  procedure-same number args state budget there h =
      performed-outs scope p callee box Kept_vars keeping-vars q
      (λ state result budget. vars_of state other ≡ vars)
      (record { none = λ state slots budget h. h; done = λ state slots budget h. h }) q.form
      (keeps-procedure p keeps box c at number q there).text state (entry_slots q args) budget h

-- attempts of every depth leave the boxes that aren't lower
pub attempt-stays : (p : Program) → Keeps p → (depth : ℕ) → StaysBelow p (attempt p depth)
attempt-stays p keeps zero = record { by = λ box number other args state budget differ higher. refl }
attempt-stays p keeps (suc depth) = next (attempt-stays p keeps depth)
  where
    next : StaysBelow p (attempt p depth) → StaysBelow p (attempt p (suc depth))
    next below =
        record {
          by = λ box number other args state budget differ higher. by box number other args state
              budget differ higher (procedure_of p box number) refl;
        }
      where
        by : (box number other : ℕ) (args : List Value) (state : State) (budget : ℕ) → other ≢ box →
            level_of p box ≤ level_of p other → (o : Option (Proc Ref)) → procedure_of p box number ≡ o →
            vars_of (attempt_of p (attempt p depth) box o args state budget).state other
            ≡ vars_of state other
        by box number other args state budget differ higher None there = refl
        by box number other args state budget differ higher (Some q) there =
            let at = and-then-some (λ (c : Cat Ref). slice_get c.procs number) (cat_of p box) q there in
            procedure-same p keeps (attempt p depth) below box at.0 at.1 q other differ higher
            (vars_of state other) number args state budget there refl

-- an alternative of a text that fits
alternative-in : (s : Scope) (before after : List (Alternative Ref)) (a : Alternative Ref) →
    IsTrue (alternatives_fit s (before ++ a ∷ after)) → IsTrue (alternative_fits s a)
alternative-in s [] after a fits = and-left (alternative_fits s a) (alternatives_fit s after) fits
alternative-in s (b ∷ before) after a fits =
    alternative-in s before after a
    (and-right (alternative_fits s b) (alternatives_fit s (before ++ a ∷ after)) fits)

-- the alternatives of a text that fits do
alternatives-in : (s : Scope) (form : Form Ref) (alts : List (Alternative Ref)) → IsTrue (form_fits s form) →
    alternatives_of form ≡ Some alts → IsTrue (alternatives_fit s alts)
alternatives-in s (F.Total ts) alts fits is = absurd (none-some alts is)
alternatives-in s (F.Partial others) alts fits is =
    subst (λ l. IsTrue (alternatives_fit s l)) (some-same is)
    (and-right (nat_le (length others) 16) (alternatives_fit s others) fits)
alternatives-in s (F.Action others) alts fits is =
    subst (λ l. IsTrue (alternatives_fit s l)) (some-same is)
    (and-right (nat_le (length others) 16) (alternatives_fit s others) fits)

-- the variables of a box are as before where one of its preprocedures has ended
pub pre-leaves : (p : Program) → Keeps p →
    (depth box number : ℕ) (q : Proc Ref) (args : List Value) (state : State) (budget : ℕ) (left : Called) →
    procedure_of p box number ≡ Some q → PreRejects p depth box q args state budget left →
    vars_of left.state box ≡ vars_of state box
pre-leaves p keeps depth box number q args state budget left there r =
    let at = and-then-some (λ (c : Cat Ref). slice_get c.procs number) (cat_of p box) q there in
    let s = scope_of p.cats at.0 q in
    let fits =
    alternatives-in s q.form r.alternatives
    (keeps-procedure p keeps box at.0 at.1 number q there).text r.form in
    let own =
    alternative-in s r.first.before r.first.after r.chosen
    (subst (λ l. IsTrue (alternatives_fit s l)) r.first.stands fits) in
    let early =
    and-left (pre_fits s r.chosen.pre) (body_fits s r.chosen.body)
    (and-right (is_of KV.Bool (kind_in s r.chosen.cond))
    (pre_fits s r.chosen.pre && body_fits s r.chosen.body) own) in
    let pre : IsTrue (call_fits s is_partial r.pre.bind r.pre.call) =
    subst (λ o. IsTrue (pre_fits s o)) r.early early in
    let named = call-named s is_partial r.pre.bind r.pre.call pre in
    let down =
    goes-down p keeps box at.0 at.1 q is_partial r.pre.call named.0 named.1
    (form-is s is_partial r.pre.bind r.pre.call pre named.0 named.1) in
    let target = target_of p box r.pre.call.target in
    sym (ap (λ (x : Called). vars_of x.state box) r.attempted)
    ∙ (attempt-stays p keeps depth).by target (method_of r.pre.call.method) box r.given state budget
    (lower-differs p target box down.lower) (omega (arith, down.lower))
