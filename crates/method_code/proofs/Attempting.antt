-- An attempt is what a chain of compiled steps does, from any entry and under any callers.
use Rattle.std.proofs.Common.{◌≡◌, ℕ, zero, suc, ◌+◌, ◌*◌, ◌≤◌, ◌<◌, ℤ, Bool, true, false, IsTrue, List, []}
use Rattle.std.proofs.Common.{◌∷◌, ◌++◌, length, drop, Option, None, Some, pos, if◌then◌else◌, append_assoc}
use Rattle.std.proofs.Common.{refl, sym, ap, ◌∙◌, subst, arith, true≢false}
use Rattle.std.specs.Prelude.{slice_get, nat_le}
use Rattle.std.specs.List.{flat_map}
use Rattle.seuss_base.specs.declared.outcome.Outcome.{Outcome}
use Rattle.seuss_base.specs.declared.outcome.Outcome.TheVariants as O
use Rattle.seuss_program.specs.declared.program.Program.{Program}
use Rattle.seuss_program.specs.declared.tree.Ref.{Ref}
use Rattle.seuss_program.specs.declared.tree.Call.{Call}
use Rattle.seuss_program.specs.declared.tree.Proc.{Proc}
use Rattle.seuss_program.specs.declared.tree.Form.{Form}
use Rattle.seuss_program.specs.declared.tree.Form.TheVariants as F
use Rattle.seuss_program.specs.declared.tree.Statement.{Statement}
use Rattle.seuss_program.specs.declared.tree.Alternative.{Alternative}
use Rattle.seuss_program.specs.declared.state.Value.{Value}
use Rattle.seuss_program.specs.declared.state.Value.TheVariants as V
use Rattle.seuss_program.specs.declared.state.State.{State}
use Rattle.seuss_program.specs.Programs.{vars_of, procedure_of, level_of, target_of, method_of}
use Rattle.seuss_program.specs.Bodies.{Called}
use Rattle.seuss_program.specs.Attempts.{form_locals, attempt, attempt_of, choice, performed, entry_slots}
use Rattle.seuss_program.specs.Keeping.{Scope, Keeps, called, call_fits, meets, is_total, is_partial}
use Rattle.seuss_program.specs.Keeping.{body_fits, alternatives_fit, form_fits}
use Rattle.method_code.specs.declared.instruction.Instruction.TheVariants as I
use Rattle.method_code.specs.declared.method.Method.{Method}
use Rattle.method_code.specs.declared.method.Entry.{Entry}
use Rattle.method_code.specs.declared.method.Entry.TheVariants as E
use Rattle.method_code.specs.declared.activation.Waiting.{Waiting}
use Rattle.method_code.specs.Codes.{compiled, number_of, method_code, entry_of, form_code, heads}
use Rattle.method_code.specs.Codes.{alternative_code}
use Rattle.method_code.specs.Steps as T
use Rattle.method_code.specs.Steps.{step_in, locals_in}
use Rattle.method_code.specs.Chains.{chain}
use Rattle.method_code.proofs.States.{with_same}
use Rattle.method_code.proofs.Going.{after}
use Rattle.method_code.proofs.Following.{Going, CallFollows, FollowsCalled, Performs, start, rejecting}
use Rattle.method_code.proofs.Simulation.{and_left, and_right}
use Rattle.method_code.proofs.Statements.{TotalCalls}
use Rattle.method_code.proofs.Procedures.{EarlyCalls, total_follows, alternatives_follow}
use Rattle.method_code.proofs.Places.{Stands, stands, coded, uncoded, scope, keeps_procedure, calls_below}

-- some method
abbrev no_method : Method
no_method = record { entry = E.Total; locals = []; result = None; instructions = [] }

-- the procedure that a fitting call names
pub named : (s : Scope) (form : Form Ref → Bool) (bind : Option Ref) (call : Call Ref) →
    IsTrue (call_fits s form bind call) → (r : Proc Ref) × (called s call ≡ Some r) × IsTrue (form r.form)
named s form bind call h = by (called s call) refl h
  where
    by : (o : Option (Proc Ref)) → called s call ≡ o → IsTrue (meets s form bind call.args o) →
        (r : Proc Ref) × (called s call ≡ Some r) × IsTrue (form r.form)
    by None e h = absurd (true≢false (sym h))
    by (Some r) e h = (r, e, and_left (form r.form) _ h)

-- a total form is a body
total_form : (f : Form Ref) → IsTrue (is_total f) → (ts : List (Statement Ref)) × (f ≡ F.Total ts)
total_form (F.Total ts) h = (ts, refl)
total_form (F.Partial alts) h = absurd (true≢false (sym h))
total_form (F.Action alts) h = absurd (true≢false (sym h))

-- what a total method does, a method that may reject may do
loosened : (p : Program) (box method : ℕ) (ws : List Waiting) (plain : Bool) (here : Going)
    (budget allowed extra : ℕ) (outcome : Outcome) (found : Option ℤ) (σ : State) (left : ℕ) →
    CallFollows p box method ws plain true here budget allowed outcome found σ left →
    CallFollows p box method ws plain false here budget (allowed + extra) outcome found σ left
loosened p box method ws plain here budget allowed extra O.Accepted found σ left a =
    record { less = a.less; by = λ k. let x = a.by k in (x.0, omega (arith, x.1), x.2) }
loosened p box method ws plain here budget allowed extra O.Rejected found σ left a = absurd a
loosened p box method ws plain here budget allowed extra (O.Trapped t) found σ left a = let x = a.by in
    record { by = (x.0, omega (arith, x.1), x.2) }
loosened p box method ws plain here budget allowed extra O.Spent found σ left a = let x = a.by in
    record { by = (x.0, omega (arith, x.1), x.2) }

-- a call that goes as another one does
called_as : (p : Program) (box method : ℕ) (ws : List Waiting) (plain total : Bool) (here here' : Going)
    (budget allowed : ℕ) (outcome : Outcome) (found : Option ℤ) (σ : State) (left : ℕ) →
    ((n : ℕ) → here n ≡ here' n) → CallFollows p box method ws plain total here' budget allowed outcome
    found σ left → CallFollows p box method ws plain total here budget allowed outcome found σ left
called_as p box method ws plain total here here' budget allowed O.Accepted found σ left e a =
    record { less = a.less; by = λ k. let x = a.by k in (x.0, x.1, e x.0 ∙ x.2) }
called_as p box method ws plain true here here' budget allowed O.Rejected found σ left e a = absurd a
called_as p box method ws plain false here here' budget allowed O.Rejected found σ left e a =
    (a.0, record { less = a.1.less; by = λ k. let x = a.1.by k in (x.0, x.1, e x.0 ∙ x.2) })
called_as p box method ws plain total here here' budget allowed (O.Trapped t) found σ left e a = let x =
    a.by in record { by = (x.0, x.1, e x.0 ∙ x.2) }
called_as p box method ws plain total here here' budget allowed O.Spent found σ left e a = let x = a.by in
    record { by = (x.0, x.1, e x.0 ∙ x.2) }

-- every procedure of a box does what an attempt of so many levels does
pub record Good (p : Program) (depth box number : ℕ) : Type 0 where
  pub any : Performs p (attempt p depth) false (2 * level_of p box) box number
  pub total : (q : Proc Ref) (ts : List (Statement Ref)) → procedure_of p box number ≡ Some q →
      q.form ≡ F.Total ts → Performs p (attempt p depth) true 0 box number

module _ (p : Program) (keeps : Keeps p) (depth box number : ℕ) (deep : level_of p box ≤ depth)
    (lower : (target method : ℕ) → level_of p target < depth → Good p depth target method) where
  -- the calls in a procedure that stands there
  module _ (q : Proc Ref) (at : Stands p box number q) where
    -- a fitting total call does what an attempt of its procedure does
    total_calls : TotalCalls p (attempt p depth) (scope p keeps box number q at) box
    total_calls = record {
      given = λ bind call fits. let r = named (scope p keeps box number q at) is_total bind call fits in
          (calls_below p keeps box number q at call r.0 r.1).given;
      performs = λ bind call fits.
          let r = named (scope p keeps box number q at) is_total bind call fits in
          let c = calls_below p keeps box number q at call r.0 r.1 in
          let f = total_form r.0.form r.2 in
          (lower (target_of p box call.target) (method_of call.method) (omega (arith, c.below, deep))).total
          r.0 f.0 c.there f.1;
    }

    -- a fitting preprocedure does what an attempt of it does
    early_calls : EarlyCalls p (attempt p depth) (scope p keeps box number q at) box (2 * level_of p box)
    early_calls = record {
      given = λ bind call fits. let r = named (scope p keeps box number q at) is_partial bind call fits in
          (calls_below p keeps box number q at call r.0 r.1).given;
      performs = λ bind call fits.
          let r = named (scope p keeps box number q at) is_partial bind call fits in
          let c = calls_below p keeps box number q at call r.0 r.1 in (
            2 * level_of p (target_of p box call.target),
            omega (arith, c.below),
            (lower (target_of p box call.target) (method_of call.method) (omega (arith, c.below, deep))).any,
          );
    }

  -- a pass that is about to enter a procedure
  abbrev enters : List Value → State → ℕ → List Waiting → Bool → Going
  enters args σ budget ws plain n = chain p (suc n) (start p box number args ws plain) σ budget

  -- the step from the entry of a procedure that is there
  entering : (q : Proc Ref) → procedure_of p box number ≡ Some q →
      (args : List Value) (σ : State) (budget : ℕ) (ws : List Waiting) (plain : Bool) (f : Form Ref) →
      q.form ≡ f → (n : ℕ) →
      enters args σ budget ws plain n
      ≡ after p (method_code q) (number_of p box number) box ws plain n σ
      (T.entered (method_code q) (number_of p box number) budget (entry_of f) (vars_of σ box)
      (entry_slots q args))
  entering q there args σ budget ws plain f is n =
      ap (λ (o : Option Method). after p (method_code q) (number_of p box number) box ws plain n σ
      (step_in o (record { method = number_of p box number; place = 0; slots = args ++ locals_in o }) budget
      (vars_of σ box))) (coded p box number q there)
      ∙ (ap (λ slots. after p (method_code q) (number_of p box number) box ws plain n σ
      (T.entered (method_code q) (number_of p box number) budget (entry_of q.form) (vars_of σ box)
      slots))
      (sym (append_assoc args (if q.gives then V.Int (pos 0) ∷ [] else []) (form_locals q.form)))
      ∙ ap (λ (g : Form Ref). after p (method_code q) (number_of p box number) box ws plain n σ
      (T.entered (method_code q) (number_of p box number) budget (entry_of g) (vars_of σ box)
      (entry_slots q args))) is)

  -- the attempt of a procedure that is there
  attempted : (q : Proc Ref) → procedure_of p box number ≡ Some q →
      (args : List Value) (σ : State) (budget : ℕ) (f : Form Ref) → q.form ≡ f →
      attempt p (suc depth) box number args σ budget
      ≡ performed p (attempt p depth) box q f σ (entry_slots q args) budget
  attempted q there args σ budget f is =
      ap (λ (o : Option (Proc Ref)). attempt_of p (attempt p depth) box o args σ budget) there
      ∙ ap (λ (g : Form Ref). performed p (attempt p depth) box q g σ (entry_slots q args) budget) is

  -- a call that is another one
  carried : (total : Bool) (args : List Value) (σ : State) (budget allowed : ℕ) (ws : List Waiting)
      (plain : Bool) (here : Going) (c d : Called) → c ≡ d →
      ((n : ℕ) → here n ≡ enters args σ budget ws plain n) →
      FollowsCalled p box (number_of p box number) ws plain total here budget allowed d →
      FollowsCalled p box (number_of p box number) ws plain total (enters args σ budget ws plain) budget
      allowed c
  carried total args σ budget allowed ws plain here c d e same a =
      subst (λ (x : Called). FollowsCalled p box (number_of p box number) ws plain total
      (enters args σ budget ws plain) budget allowed x) (sym e)
      (called_as p box (number_of p box number) ws plain total (enters args σ budget ws plain) here budget
      allowed d.outcome d.result d.state d.budget (λ n. sym (same n)) a)

  -- a call of a total method does what an attempt of it does
  total_performs : (q : Proc Ref) (ts : List (Statement Ref)) → procedure_of p box number ≡ Some q →
      q.form ≡ F.Total ts → (args : List Value) (σ : State) (budget : ℕ) (ws : List Waiting) (plain : Bool)
      →
      FollowsCalled p box (number_of p box number) ws plain true (enters args σ budget ws plain) budget
      (2 * budget) (attempt p (suc depth) box number args σ budget)
  total_performs q ts there is args σ budget ws plain =
      let at = stands p box number q there in
      let fits : IsTrue (body_fits (scope p keeps box number q at) ts) =
      subst (λ (f : Form Ref). IsTrue (form_fits (scope p keeps box number q at) f)) is
      (keeps_procedure p keeps box number q at).text in
      carried true args σ budget (2 * budget) ws plain _ _ _
      (attempted q there args σ budget (F.Total ts) is)
      (λ n. sym (entering q there args σ budget ws plain (F.Total ts) is n))
      (total_follows p (attempt p depth) (scope p keeps box number q at) box q (number_of p box number) ws
      plain (coded p box number q there) (total_calls q at) ts fits is σ (entry_slots q args) budget)

  -- the text of a procedure fits
  text_fits : (q : Proc Ref) (there : procedure_of p box number ≡ Some q) (f : Form Ref) → q.form ≡ f →
      IsTrue (form_fits (scope p keeps box number q (stands p box number q there)) f)
  text_fits q there f is =
      let at = stands p box number q there in
      subst (λ (g : Form Ref). IsTrue (form_fits (scope p keeps box number q at) g)) is
      (keeps_procedure p keeps box number q at).text

  -- alternatives, from the entry
  alternatives_perform : (q : Proc Ref) (there : procedure_of p box number ≡ Some q) (f : Form Ref)
      (alts : List (Alternative Ref)) → q.form ≡ f → entry_of f ≡ E.Partial (heads 1 alts) →
      form_code f ≡ I.Reject ∷ flat_map alternative_code alts →
      ((σ : State) (slots : List Value) (budget : ℕ) →
      performed p (attempt p depth) box q f σ slots budget
      ≡ choice p (attempt p depth) box q alts σ slots budget) →
      IsTrue (alternatives_fit (scope p keeps box number q (stands p box number q there)) alts) →
      (args : List Value) (σ : State) (budget : ℕ) (ws : List Waiting) (plain : Bool) →
      FollowsCalled p box (number_of p box number) ws plain false (enters args σ budget ws plain) budget
      (2 * budget + 2 * level_of p box) (attempt p (suc depth) box number args σ budget)
  alternatives_perform q there f alts is entry_is code_is means fits args σ budget ws plain =
      let at = stands p box number q there in
      let m = method_code q in
      let code : m.instructions ≡ I.Reject ∷ flat_map alternative_code alts = ap form_code is ∙ code_is in
      let behind_first : drop 1 m.instructions ≡ flat_map alternative_code alts = ap (drop 1) code in
      carried false args σ budget (2 * budget + 2 * level_of p box) ws plain _ _ _
      (attempted q there args σ budget f is ∙ means σ (entry_slots q args) budget)
      (λ n. sym (entering q there args σ budget ws plain f is n
      ∙ ap (λ (e : Entry). after p m (number_of p box number) box ws plain n σ
      (T.entered m (number_of p box number) budget e (vars_of σ box) (entry_slots q args))) entry_is))
      (alternatives_follow p (attempt p depth) (scope p keeps box number q at) box q
      (number_of p box number) ws plain (coded p box number q there) (total_calls q at)
      (2 * level_of p box) (early_calls q at) (flat_map alternative_code alts) code alts 1 fits behind_first
      σ (entry_slots q args) budget)

  -- a procedure of any form
  form_performs : (q : Proc Ref) (there : procedure_of p box number ≡ Some q) (f : Form Ref) → q.form ≡ f →
      (args : List Value) (σ : State) (budget : ℕ) (ws : List Waiting) (plain : Bool) →
      FollowsCalled p box (number_of p box number) ws plain false (enters args σ budget ws plain) budget
      (2 * budget + 2 * level_of p box) (attempt p (suc depth) box number args σ budget)
  form_performs q there (F.Total ts) is args σ budget ws plain =
      let c : Called = attempt p (suc depth) box number args σ budget in
      loosened p box (number_of p box number) ws plain (enters args σ budget ws plain) budget (2 * budget)
      (2 * level_of p box) c.outcome c.result c.state c.budget
      (total_performs q ts there is args σ budget ws plain)
  form_performs q there (F.Partial alts) is args σ budget ws plain =
      alternatives_perform q there (F.Partial alts) alts is refl refl (λ σ slots budget. refl)
      (and_right (nat_le (length alts) 16) _ (text_fits q there (F.Partial alts) is)) args σ budget ws
      plain
  form_performs q there (F.Action alts) is args σ budget ws plain =
      alternatives_perform q there (F.Action alts) alts is refl refl (λ σ slots budget. refl)
      (and_right (nat_le (length alts) 16) _ (text_fits q there (F.Action alts) is)) args σ budget ws
      plain

  -- no procedure
  none_performs : procedure_of p box number ≡ None →
      (args : List Value) (σ : State) (budget : ℕ) (ws : List Waiting) (plain : Bool) →
      FollowsCalled p box (number_of p box number) ws plain false (enters args σ budget ws plain) budget
      (2 * budget + 2 * level_of p box) (attempt p (suc depth) box number args σ budget)
  none_performs none args σ budget ws plain =
      let c : Called = record { outcome = O.Rejected; result = None; state = σ; budget = budget } in
      let here : Going = rejecting p box (number_of p box number) ws plain plain σ budget in
      let enter : (n : ℕ) → enters args σ budget ws plain n ≡ here n =
      λ n. ap (λ (o : Option Method). after p no_method (number_of p box number) box ws plain n σ
      (step_in o (record {
        method = number_of p box number;
        place = 0;
        slots =
            args ++ locals_in (slice_get (compiled p) (number_of p box number));
      }) budget (vars_of σ box)))
      (uncoded p box number none)
      ∙ ap (λ τ. rejecting p box (number_of p box number) ws plain plain τ budget n) (with_same σ box) in
      carried false args σ budget (2 * budget + 2 * level_of p box) ws plain here _ c
      (ap (λ (o : Option (Proc Ref)). attempt_of p (attempt p depth) box o args σ budget) none)
      (λ n. sym (enter n)) (plain, record { less = omega arith; by = λ k. (k, omega arith, refl) })

  -- one more level
  pub goes_deeper : Good p (suc depth) box number
  goes_deeper = record {
    any = record { by = by (procedure_of p box number) refl };
    total = λ q ts there is. record {
      by = λ args σ budget ws plain.
          subst (λ n. FollowsCalled p box (number_of p box number) ws plain true
          (enters args σ budget ws plain) budget n (attempt p (suc depth) box number args σ budget))
          (omega arith)
          (total_performs q ts there is args σ budget ws plain);
    };
  }
    where
      by : (o : Option (Proc Ref)) → procedure_of p box number ≡ o →
          (args : List Value) (σ : State) (budget : ℕ) (ws : List Waiting) (plain : Bool) →
          FollowsCalled p box (number_of p box number) ws plain false (enters args σ budget ws plain) budget
          (2 * budget + 2 * level_of p box) (attempt p (suc depth) box number args σ budget)
      by None e = none_performs e
      by (Some q) e = form_performs q e q.form refl

-- every procedure does what an attempt does that goes as deep as its box
pub all_good : (p : Program) → Keeps p → (depth box number : ℕ) → level_of p box < depth →
    Good p depth box number
all_good p keeps zero box number h = absurd (omega (arith, h))
all_good p keeps (suc depth) box number h = goes_deeper p keeps depth box number (omega (arith, h))
    (λ target method below. all_good p keeps depth target method below)
