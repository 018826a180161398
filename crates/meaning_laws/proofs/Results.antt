-- When an attempt has a result, and where it stands.
use Rattle.std.proofs.Common.{◌≡◌, ℕ, zero, suc, ℤ, pos, Bool, true, false, if◌then◌else◌, List, [], ◌∷◌}
use Rattle.std.proofs.Common.{◌++◌, map, length, Option, None, Some, is_some, Result, Ok, Err, refl, sym, ap}
use Rattle.std.proofs.Common.{◌∙◌, subst}
use Rattle.std.specs.Prelude.{slice_get, slice_index_or, IfSome, All}
use Rattle.seuss_base.specs.declared.outcome.Trap.{Trap}
use Rattle.seuss_base.specs.declared.outcome.Outcome.{Outcome}
use Rattle.seuss_base.specs.declared.outcome.Outcome.TheVariants as O
use Rattle.seuss_program.specs.declared.program.Program.{Program}
use Rattle.seuss_program.specs.declared.tree.Ref.{Ref}
use Rattle.seuss_program.specs.declared.tree.Kind.{Kind}
use Rattle.seuss_program.specs.declared.tree.Kind.TheVariants as K
use Rattle.seuss_program.specs.declared.tree.Param.{Param}
use Rattle.seuss_program.specs.declared.tree.Pre.{Pre}
use Rattle.seuss_program.specs.declared.tree.Proc.{Proc}
use Rattle.seuss_program.specs.declared.tree.Form.{Form}
use Rattle.seuss_program.specs.declared.tree.Form.TheVariants as F
use Rattle.seuss_program.specs.declared.tree.Alternative.{Alternative}
use Rattle.seuss_program.specs.declared.state.State.{State}
use Rattle.seuss_program.specs.declared.state.Value.{Value}
use Rattle.seuss_program.specs.declared.state.Value.TheVariants as V
use Rattle.seuss_program.specs.Programs.{procedure_of, target_of, method_of, vars_of}
use Rattle.seuss_program.specs.Values.{Evaluated, HasSize, value, bool_of, int_of}
use Rattle.seuss_program.specs.Bodies.{Finish, Done, Trapped, Spent, Ran, Called, Callee, arguments, bound}
use Rattle.seuss_program.specs.Bodies.{body}
use Rattle.seuss_program.specs.Attempts.{attempt, attempt_of, performed, finished, body_of, behind_pre}
use Rattle.seuss_program.specs.Attempts.{pre_called, chosen, judged, choice, entry_slots, form_locals}
use Rattle.seuss_program.specs.Attempts.{result_of}
use Rattle.seuss_program.specs.Keeping.{AreOf, kind_of, slot_kinds, param_kinds}
use Rattle.meaning_laws.specs.Forms.{HasResult}
use Rattle.meaning_laws.proofs.FittingNumbers.{Fits, all-or}
use Rattle.meaning_laws.proofs.ValueKinds.{int-fits, kind-there, kind-stands}

module _ (p : Program) (callee : Callee) (box : ℕ) (q : Proc Ref) where
  -- there is a result exactly where the procedure gives one
  result-there : (b : Bool) (slots : List Value) →
      is_some (if b then Some (int_of (slice_index_or slots (length q.params) (V.Int (pos 0)))) else None)
      ≡ b
  result-there true slots = refl
  result-there false slots = refl

  -- what is finished has a result where it should
  finished-has : (positive : Bool) (finish : Finish) (ran : Ran) →
      HasResult q (finished positive q finish ran)
  finished-has true Done ran = result-there q.gives ran.slots
  finished-has false Done ran = refl
  finished-has true (Trapped t) ran = refl
  finished-has false (Trapped t) ran = refl
  finished-has true Spent ran = refl
  finished-has false Spent ran = refl

  -- the body of an alternative has a result where it should
  body_of-has : (a : Alternative Ref) (state : State) (slots : List Value) (budget : ℕ) →
      HasResult q (body_of p callee box q a state slots budget)
  body_of-has a state slots budget =
      let ran = body p callee box a.body state slots budget in finished-has a.positive ran.finish ran

  -- what follows a preprocedure has a result where it should
  after-has : (a : Alternative Ref) (name : Option Ref) (outcome : Outcome) (called : Called)
      (slots : List Value) → HasResult q (behind_pre p callee box q a name outcome called slots)
  after-has a name O.Accepted called slots =
      let ran =
      bound box name called.result called.state slots called.budget in body_of-has a ran.state ran.slots
      ran.budget
  after-has a name O.Rejected called slots = refl
  after-has a name (O.Trapped t) called slots = refl
  after-has a name O.Spent called slots = refl

  -- the chosen alternative has a result where it should
  chosen-has : (a : Alternative Ref) (o : Option (Pre Ref)) (state : State) (slots : List Value)
      (budget : ℕ) → HasResult q (chosen p callee box q a o state slots budget)
  chosen-has a None state slots budget = body_of-has a state slots budget
  chosen-has a (Some pre) state slots budget = by (arguments pre.call.args (vars_of state box) slots)
    where
      by : (r : Result (List Value) Trap) →
          HasResult q (pre_called p callee box q a pre r state slots budget)
      by (Err t) = refl
      by (Ok args) =
          let called =
          callee (target_of p box pre.call.target) (method_of pre.call.method) args state budget in
          after-has a pre.bind called.outcome called slots

  -- an alternative that is judged has a result where it should
  judged-has : (ev : Evaluated) (a : Alternative Ref) (others : Called) (state : State) (slots : List Value)
      (budget : ℕ) → HasResult q others → HasResult q (judged p callee box q ev a others state slots budget)
  judged-has (Err t) a others state slots budget rest = refl
  judged-has (Ok v) a others state slots budget rest = by (bool_of v)
    where
      by : (b : Bool) → HasResult q (if b then chosen p callee box q a a.pre state slots budget else others)
      by true = chosen-has a a.pre state slots budget
      by false = rest

  -- a choice has a result where it should
  choice-has : (alts : List (Alternative Ref)) (state : State) (slots : List Value) (budget : ℕ) →
      HasResult q (choice p callee box q alts state slots budget)
  choice-has [] state slots budget = refl
  choice-has (a ∷ alts) state slots budget =
      judged-has (value a.cond (vars_of state box) slots) a
      (choice p callee box q alts state slots budget) state slots budget (choice-has alts state slots budget)

  -- a procedure has a result where it should
  performed-has : (form : Form Ref) (state : State) (slots : List Value) (budget : ℕ) →
      HasResult q (performed p callee box q form state slots budget)
  performed-has (F.Total ts) state slots budget =
      let ran = body p callee box ts state slots budget in finished-has true ran.finish ran
  performed-has (F.Partial alts) state slots budget = choice-has alts state slots budget
  performed-has (F.Action alts) state slots budget = choice-has alts state slots budget

-- an attempt has a result where it should
pub attempt-has : (p : Program) (depth box number : ℕ) (q : Proc Ref) (args : List Value) (state : State)
    (budget : ℕ) → procedure_of p box number ≡ Some q →
    HasResult q (attempt p depth box number args state budget)
attempt-has p zero box number q args state budget there = refl
attempt-has p (suc depth) box number q args state budget there =
    subst (λ o. HasResult q (attempt_of p (attempt p depth) box o args state budget)) (sym there)
    (performed-has p (attempt p depth) box q q.form state (entry_slots q args) budget)

-- a result has 64 bits where the numbers of the slots have them
pub result-fits : (q : Proc Ref) (slots : List Value) → All HasSize slots → IfSome (result_of q slots) Fits
result-fits q slots all = by q.gives
  where
    by : (b : Bool) →
        IfSome (if b then Some (int_of (slice_index_or slots (length q.params) (V.Int (pos 0)))) else None)
        Fits
    by true =
        int-fits (slice_index_or slots (length q.params) (V.Int (pos 0)))
        (all-or HasSize slots (length q.params) (V.Int (pos 0)) all refl)
    by false = tt

-- the slot of the result is an int
result-kind : (params : List Param) (rest : List Kind) →
    slice_get (param_kinds params ++ (K.Int ∷ rest)) (length params) ≡ Some K.Int
result-kind [] rest = refl
result-kind (x ∷ params) rest = result-kind params rest

-- the result is the int in its slot, which is there
pub result-stands : (q : Proc Ref) (slots : List Value) → AreOf slots (slot_kinds q) → q.gives ≡ true →
    (z : ℤ) × (slice_get slots (length q.params) ≡ Some (V.Int z)) × (result_of q slots ≡ Some z)
result-stands q slots has gives = by (slice_index_or slots (length q.params) (V.Int (pos 0))) refl
  where
    with-result : slot_kinds q
        ≡ param_kinds q.params ++ map kind_of
        ((if true then V.Int (pos 0) ∷ [] else []) ++ form_locals q.form)
    with-result =
        ap (λ b. param_kinds q.params ++ map kind_of
        ((if b then V.Int (pos 0) ∷ [] else []) ++ form_locals q.form)) gives

    at : slice_get (slot_kinds q) (length q.params) ≡ Some K.Int
    at =
        ap (λ l. slice_get l (length q.params)) with-result
        ∙ result-kind q.params (map kind_of (form_locals q.form))

    by : (v : Value) → slice_index_or slots (length q.params) (V.Int (pos 0)) ≡ v →
        (z : ℤ) × (slice_get slots (length q.params) ≡ Some (V.Int z)) × (result_of q slots ≡ Some z)
    by (V.Int z) is = (
      z,
      kind-stands slots (slot_kinds q) (length q.params) K.Int (V.Int (pos 0)) has at ∙ ap (λ v. Some v) is,
      ap (λ b. if b then Some (int_of (slice_index_or slots (length q.params) (V.Int (pos 0)))) else None)
          gives ∙ ap (λ v. Some (int_of v)) is,
    )
    by (V.Bool b) is =
        absurd (let k = kind-there slots (slot_kinds q) (length q.params) K.Int
        (V.Int (pos 0)) has at in bool-int (sym (ap kind_of is) ∙ k))
      where
        bool-int : K.Bool ≡ K.Int → ⊥
        bool-int h = cc
    by (V.Seq zs) is =
        absurd (let k = kind-there slots (slot_kinds q) (length q.params) K.Int
        (V.Int (pos 0)) has at in seq-int (sym (ap kind_of is) ∙ k))
      where
        seq-int : K.Seq ≡ K.Int → ⊥
        seq-int h = cc
