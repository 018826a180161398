-- Calls go strictly downward, so attempts are the same at every depth above the level of the box.
use Rattle.std.proofs.Common.{◌≡◌, ℕ, zero, suc, ◌+◌, ◌-◌, ◌<◌, Bool, true, false, ◌&&◌, if◌then◌else◌}
use Rattle.std.proofs.Common.{nat_le, IsTrue, List, [], ◌∷◌, length, Option, None, Some, Result, Ok, Err}
use Rattle.std.proofs.Common.{refl, sym, ap, ◌∙◌, subst, arith}
use Rattle.std.specs.Prelude.{slice_get}
use Rattle.std.proofs.Math.Path.{fun_ext}
use Rattle.seuss_base.specs.declared.outcome.Trap.{Trap}
use Rattle.seuss_base.specs.declared.outcome.Outcome.{Outcome}
use Rattle.seuss_base.specs.declared.outcome.Outcome.TheVariants as O
use Rattle.seuss_program.specs.declared.program.Program.{Program}
use Rattle.seuss_program.specs.declared.tree.Ref.{Ref}
use Rattle.seuss_program.specs.declared.tree.Kind.TheVariants as KV
use Rattle.seuss_program.specs.declared.tree.Call.{Call}
use Rattle.seuss_program.specs.declared.tree.Cat.{Cat}
use Rattle.seuss_program.specs.declared.tree.Pre.{Pre}
use Rattle.seuss_program.specs.declared.tree.Proc.{Proc}
use Rattle.seuss_program.specs.declared.tree.Form.{Form}
use Rattle.seuss_program.specs.declared.tree.Form.TheVariants as F
use Rattle.seuss_program.specs.declared.tree.Alternative.{Alternative}
use Rattle.seuss_program.specs.declared.tree.Statement.{Statement, map-Statement, roll-Statement}
use Rattle.seuss_program.specs.declared.tree.Statement.{ind-Statement}
use Rattle.seuss_program.specs.declared.tree.Statement.TheOpen as S
use Rattle.seuss_program.specs.declared.tree.Statement.TheOpen.{Statement-F}
use Rattle.seuss_program.specs.declared.state.State.{State}
use Rattle.seuss_program.specs.declared.state.Value.{Value}
use Rattle.seuss_program.specs.Programs.{cat_of, procedure_of, level_of, target_of, method_of, vars_of}
use Rattle.seuss_program.specs.Values.{Evaluated, value, bool_of}
use Rattle.seuss_program.specs.Bodies.{Ran, Called, Callee, Meaning, resumed, arguments, bound, call_with}
use Rattle.seuss_program.specs.Bodies.{statement, statement_step, body}
use Rattle.seuss_program.specs.Attempts.{attempt, attempt_of, performed, finished, body_of, behind_pre}
use Rattle.seuss_program.specs.Attempts.{pre_called, chosen, judged, choice, entry_slots}
use Rattle.seuss_program.specs.Keeping as K
use Rattle.seuss_program.specs.Keeping.{Scope, scope_of, Keeps, statement_fits, body_fits, call_fits}
use Rattle.seuss_program.specs.Keeping.{pre_fits, alternative_fits, alternatives_fit, form_fits, is_total}
use Rattle.seuss_program.specs.Keeping.{is_partial, all_true, kind_in, is_of}
use Rattle.meaning_laws.proofs.KeptBodies.{each, meaning-layer}
use Rattle.meaning_laws.proofs.FittingTexts.{fits-layer}
use Rattle.meaning_laws.proofs.CalledProcedures.{and-left, and-right, and-then-some, call-named, form-is}
use Rattle.meaning_laws.proofs.CalledProcedures.{goes-down, keeps-procedure}

module _ (p : Program) (f g : Callee) (box : ℕ) where
  -- two callees do the same at the calls of a text
  pub record Same (s : Scope) : Type 0 where
    pub by : (form : Form Ref → Bool) (bind : Option Ref) (call : Call Ref) →
        IsTrue (call_fits s form bind call) →
        f (target_of p box call.target) (method_of call.method)
        ≡ g (target_of p box call.target) (method_of call.method)

  module _ (s : Scope) (same : Same s) where
    -- a statement that fits is the same with both callees
    SameSo : Statement Ref → Type 0
    SameSo t = IsTrue (statement_fits s t) → statement p f box t ≡ statement p g box t

    -- a statement is the same where its layer is
    layer-same : (d : Statement-F Ref (Statement Ref)) →
        (IsTrue (K.statement_step s (map-Statement Ref (Statement Ref) Bool (statement_fits s) d)) →
        statement_step p f box (map-Statement Ref (Statement Ref) Meaning (statement p f box) d)
        ≡ statement_step p g box (map-Statement Ref (Statement Ref) Meaning (statement p g box) d)) →
        SameSo (roll-Statement Ref d)
    unfolding SameSo
    layer-same d h fits =
        meaning-layer p f box d
        ∙ (h (subst (λ b. IsTrue b) (fits-layer s d) fits) ∙ sym (meaning-layer p g box d))

    -- a call does what its callee does at it
    abbrev by_callee : Option Ref → Call Ref → (List Value → State → ℕ → Called) → Meaning
    by_callee bind call h state slots budget =
        call_with p (λ target method. h) box bind call
        (arguments call.args (vars_of state box) slots) state slots budget

    -- a call that fits is the same
    call-same : (bind : Option Ref) (call : Call Ref) → IsTrue (call_fits s is_total bind call) →
        statement_step p f box (S.Call bind call) ≡ statement_step p g box (S.Call bind call)
    call-same bind call fits =
        left ∙ (ap (by_callee bind call) (same.by is_total bind call fits) ∙ sym right)
      where
        at : (h : Callee) (r : Result (List Value) Trap) (state : State) (slots : List Value) (budget : ℕ) →
            call_with p h box bind call r state slots budget
            ≡ call_with p
            (λ target method. h (target_of p box call.target) (method_of call.method)) box bind call r state
            slots budget
        at h (Err t) state slots budget = refl
        at h (Ok args) state slots zero = refl
        at h (Ok args) state slots (suc left) = refl

        left : statement_step p f box (S.Call bind call)
            ≡ by_callee bind call (f (target_of p box call.target) (method_of call.method))
        left =
            fun_ext (λ state. fun_ext
            (λ slots. fun_ext
            (λ budget. at f (arguments call.args (vars_of state box) slots) state slots budget)))

        right : statement_step p g box (S.Call bind call)
            ≡ by_callee bind call (g (target_of p box call.target) (method_of call.method))
        right =
            fun_ext (λ state. fun_ext
            (λ slots. fun_ext
            (λ budget. at g (arguments call.args (vars_of state box) slots) state slots budget)))

    module _ (X : Type 0) (h : X → Statement Ref) (each_same : (x : X) → SameSo (h x)) where
      -- statements that fit are the same, one by one
      inner : (xs : List X) → IsTrue (all_true (each (statement_fits s) (each h xs))) →
          each (statement p f box) (each h xs) ≡ each (statement p g box) (each h xs)
      unfolding SameSo
      inner [] fits = refl
      inner (x ∷ xs) fits =
          let first =
          each_same x
          (and-left (statement_fits s (h x)) (all_true (each (statement_fits s) (each h xs))) fits) in
          let rest =
          inner xs (and-right (statement_fits s (h x))
          (all_true (each (statement_fits s) (each h xs))) fits) in
          ap (λ m. m ∷ each (statement p f box) (each h xs)) first
          ∙ ap (λ ms. statement p g box (h x) ∷ ms) rest

      -- a statement is the same where those inside it are
      layer : (y : Statement-F Ref X) → SameSo (roll-Statement Ref (map-Statement Ref X (Statement Ref) h y))
      layer (S.Let name kind e) = layer-same (S.Let name kind e) (λ fits. refl)
      layer (S.Assign name e) = layer-same (S.Assign name e) (λ fits. refl)
      layer (S.Call bind call) = layer-same (S.Call bind call) (λ fits. call-same bind call fits)
      layer (S.If cond holds fails) = layer-same (S.If cond (each h holds) (each h fails)) (λ fits.
          let both =
          and-right (is_of KV.Bool (kind_in s cond))
          (all_true (each (statement_fits s) (each h holds)) && all_true
          (each (statement_fits s) (each h fails))) fits in
          let one =
          inner holds
          (and-left (all_true (each (statement_fits s) (each h holds)))
          (all_true (each (statement_fits s) (each h fails))) both) in
          let other =
          inner fails
          (and-right (all_true (each (statement_fits s) (each h holds)))
          (all_true (each (statement_fits s) (each h fails))) both) in
          ap (λ ms. statement_step p f box (S.If cond ms (each (statement p f box) (each h fails)))) one
          ∙ ap (λ ms. statement_step p f box (S.If cond (each (statement p g box) (each h holds)) ms)) other)
      layer (S.While cond turn) = layer-same (S.While cond (each h turn)) (λ fits.
          ap (λ ms. statement_step p f box (S.While cond ms))
          (inner turn
          (and-right (is_of KV.Bool (kind_in s cond))
          (all_true (each (statement_fits s) (each h turn))) fits)))

    -- each statement that fits is the same
    statement-same : (t : Statement Ref) → IsTrue (statement_fits s t) →
        statement p f box t ≡ statement p g box t
    unfolding SameSo
    statement-same =
        ind-Statement Ref SameSo
        (λ x y is. subst (λ z. SameSo (roll-Statement Ref z)) is (layer _ (λ e. e.0) (λ e. e.1) y))

    -- each body that fits is the same
    body-same : (ts : List (Statement Ref)) → IsTrue (body_fits s ts) →
        (state : State) (slots : List Value) (budget : ℕ) →
        body p f box ts state slots budget ≡ body p g box ts state slots budget
    body-same [] fits state slots budget = refl
    body-same (t ∷ ts) fits state slots budget =
        let first = statement-same t (and-left (statement_fits s t) (body_fits s ts) fits) in
        let rest : body p f box ts ≡ body p g box ts =
        fun_ext (λ state. fun_ext
        (λ slots. fun_ext
        (λ budget. body-same ts
        (and-right (statement_fits s t) (body_fits s ts) fits) state slots budget))) in
        ap (λ (m : Meaning). resumed (m state slots budget).finish (m state slots budget) (body p f box ts))
        first
        ∙ ap (λ (m : Meaning). resumed (statement p g box t state slots budget).finish
        (statement p g box t state slots budget) m) rest

    module _ (q : Proc Ref) where
      -- the body of an alternative is the same
      body_of-same : (a : Alternative Ref) → IsTrue (body_fits s a.body) →
          (state : State) (slots : List Value) (budget : ℕ) →
          body_of p f box q a state slots budget ≡ body_of p g box q a state slots budget
      body_of-same a fits state slots budget =
          ap (λ (ran : Ran). finished a.positive q ran.finish ran) (body-same a.body fits state slots budget)

      -- what follows a preprocedure is the same
      after-same : (a : Alternative Ref) → IsTrue (body_fits s a.body) →
          (name : Option Ref) (called : Called) (slots : List Value) →
          behind_pre p f box q a name called.outcome called slots
          ≡ behind_pre p g box q a name called.outcome called slots
      after-same a fits name called slots = by called.outcome
        where
          by : (o : Outcome) →
              behind_pre p f box q a name o called slots ≡ behind_pre p g box q a name o called slots
          by O.Accepted =
              let ran = bound box name called.result called.state slots called.budget in
              body_of-same a fits ran.state ran.slots ran.budget
          by O.Rejected = refl
          by (O.Trapped t) = refl
          by O.Spent = refl

      -- the chosen alternative is the same
      chosen-same : (a : Alternative Ref) → IsTrue (body_fits s a.body) → (o : Option (Pre Ref)) →
          IsTrue (pre_fits s o) → (state : State) (slots : List Value) (budget : ℕ) →
          chosen p f box q a o state slots budget ≡ chosen p g box q a o state slots budget
      chosen-same a fits None early state slots budget = body_of-same a fits state slots budget
      chosen-same a fits (Some pre) early state slots budget =
          by (arguments pre.call.args (vars_of state box) slots)
        where
          by : (r : Result (List Value) Trap) →
              pre_called p f box q a pre r state slots budget
              ≡ pre_called p g box q a pre r state slots budget
          by (Err t) = refl
          by (Ok args) =
              after-same a fits pre.bind
              (f (target_of p box pre.call.target) (method_of pre.call.method) args state budget) slots
              ∙ ap (λ (h : List Value → State → ℕ → Called). behind_pre p g box q a pre.bind
              (h args state budget).outcome (h args state budget) slots)
              (same.by is_partial pre.bind pre.call early)

      -- an alternative that is judged is the same where all that may follow is
      judged-same : (ev : Evaluated) (a : Alternative Ref) (others those : Called) (state : State)
          (slots : List Value) (budget : ℕ) →
          chosen p f box q a a.pre state slots budget ≡ chosen p g box q a a.pre state slots budget →
          others ≡ those →
          judged p f box q ev a others state slots budget ≡ judged p g box q ev a those state slots budget
      judged-same (Err t) a others those state slots budget first rest = refl
      judged-same (Ok v) a others those state slots budget first rest = by (bool_of v)
        where
          by : (b : Bool) →
              (if b then chosen p f box q a a.pre state slots budget else others)
              ≡ (if b then chosen p g box q a a.pre state slots budget else those)
          by true = first
          by false = rest

      -- a choice is the same
      choice-same : (alts : List (Alternative Ref)) → IsTrue (alternatives_fit s alts) →
          (state : State) (slots : List Value) (budget : ℕ) →
          choice p f box q alts state slots budget ≡ choice p g box q alts state slots budget
      choice-same [] fits state slots budget = refl
      choice-same (a ∷ alts) fits state slots budget =
          let own =
          and-right (is_of KV.Bool (kind_in s a.cond)) (pre_fits s a.pre && body_fits s a.body)
          (and-left (alternative_fits s a) (alternatives_fit s alts) fits) in
          judged-same (value a.cond (vars_of state box) slots) a (choice p f box q alts state slots budget)
          (choice p g box q alts state slots budget) state slots budget
          (chosen-same a (and-right (pre_fits s a.pre) (body_fits s a.body) own) a.pre
          (and-left (pre_fits s a.pre) (body_fits s a.body) own) state slots budget)
          (choice-same alts
          (and-right (alternative_fits s a) (alternatives_fit s alts) fits) state slots budget)

      -- a procedure is the same
      performed-same : (form : Form Ref) → IsTrue (form_fits s form) →
          (state : State) (slots : List Value) (budget : ℕ) →
          performed p f box q form state slots budget ≡ performed p g box q form state slots budget
      performed-same (F.Total ts) fits state slots budget =
          ap (λ (ran : Ran). finished true q ran.finish ran) (body-same ts fits state slots budget)
      performed-same (F.Partial alts) fits state slots budget =
          choice-same alts
          (and-right (nat_le (length alts) 16) (alternatives_fit s alts) fits) state slots budget
      performed-same (F.Action alts) fits state slots budget =
          choice-same alts
          (and-right (nat_le (length alts) 16) (alternatives_fit s alts) fits) state slots budget

module _ (p : Program) (keeps : Keeps p) where
  -- one level of depth more makes no difference
  abbrev SameAt : ℕ → ℕ → Type 0
  SameAt depth box = (number : ℕ) → attempt p (suc depth) box number ≡ attempt p depth box number

  -- one more depth changes nothing above the level of a box
  deeper-same : (depth box : ℕ) → level_of p box < depth → SameAt depth box
  deeper-same zero box less = absurd (omega (arith, less))
  deeper-same (suc depth) box less = with-lower (λ lower below. deeper-same depth lower below)
    where
      with-lower : ((lower : ℕ) → level_of p lower < depth → SameAt depth lower) → SameAt (suc depth) box
      with-lower rec number =
          fun_ext (λ args. fun_ext
          (λ state. fun_ext (λ budget. by args state budget (procedure_of p box number) refl)))
        where
          by : (args : List Value) (state : State) (budget : ℕ) (o : Option (Proc Ref)) →
              procedure_of p box number ≡ o →
              attempt_of p (attempt p (suc depth)) box o args state budget
              ≡ attempt_of p (attempt p depth) box o args state budget
          by args state budget None there = refl
          by args state budget (Some q) there =
              let at = and-then-some (λ (c : Cat Ref). slice_get c.procs number) (cat_of p box) q there in
              performed-same p (attempt p (suc depth)) (attempt p depth) box (scope_of p.cats at.0 q)
              (calls-same at.0 q at.1) q q.form
              (keeps-procedure p keeps box at.0 at.1 number q there).text state (entry_slots q args) budget
            where
              calls-same : (c : Cat Ref) (q : Proc Ref) → cat_of p box ≡ Some c →
                  Same p (attempt p (suc depth)) (attempt p depth) box (scope_of p.cats c q)
              calls-same c q at = record {
                by = λ form bind call fits.
                    let named = call-named (scope_of p.cats c q) form bind call fits in
                    let down =
                    goes-down p keeps box c at q form call named.0 named.1
                    (form-is (scope_of p.cats c q) form bind call fits named.0 named.1) in
                    rec (target_of p box call.target) (omega (arith, less, down.lower))
                    (method_of call.method);
              }

  -- more depth changes nothing above the level of a box
  same-above : (more depth box number : ℕ) → level_of p box < depth →
      attempt p (more + depth) box number ≡ attempt p depth box number
  same-above zero depth box number less =
      let e : 0 + depth ≡ depth = omega arith in ap (λ n. attempt p n box number) e
  same-above (suc more) depth box number less =
      let e : suc more + depth ≡ suc (more + depth) = omega arith in
      ap (λ n. attempt p n box number) e
      ∙ (deeper-same (more + depth) box (omega (arith, less)) number ∙ same-above more depth box number less)

  -- any depth above the level of a box is the same as the least one
  pub depth-enough : (depth box number : ℕ) → level_of p box < depth →
      attempt p depth box number ≡ attempt p (suc (level_of p box)) box number
  depth-enough depth box number less =
      let e : depth ≡ (depth - suc (level_of p box)) + suc (level_of p box) = omega (arith, less) in
      ap (λ n. attempt p n box number) e
      ∙ same-above (depth - suc (level_of p box)) (suc (level_of p box)) box number (omega arith)
