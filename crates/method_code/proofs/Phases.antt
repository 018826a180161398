-- Where a pass stands: before its commit step, after it, or after a plain rejection.
use Rattle.std.proofs.Common.{◌≡◌, ℕ, zero, suc, ◌≤◌, ◌⊎◌, inl, inr, Bool, true, false, not, ◌==◌, ◌||◌}
use Rattle.std.proofs.Common.{IsTrue, List, [], ◌∷◌, ◌++◌, take, Option, None, Some, refl, sym, ap, ◌∙◌}
use Rattle.std.proofs.Common.{subst, arith, true≢false}
use Rattle.std.specs.Prelude.{slice_get}
use Rattle.seuss_program.specs.declared.program.Program.{Program}
use Rattle.seuss_program.specs.declared.tree.Ref.{Ref}
use Rattle.seuss_program.specs.declared.tree.Proc.{Proc}
use Rattle.seuss_program.specs.declared.tree.Form.{Form}
use Rattle.seuss_program.specs.declared.tree.Form.TheVariants as F
use Rattle.seuss_program.specs.declared.state.Value.{Value}
use Rattle.seuss_program.specs.Programs.{procedure_of}
use Rattle.seuss_program.specs.Keeping.{Keeps, is_total, is_partial, is_action}
use Rattle.method_code.specs.declared.instruction.Instruction.TheVariants as I
use Rattle.method_code.specs.declared.method.Method.{Method}
use Rattle.method_code.specs.declared.method.Entry.{Entry}
use Rattle.method_code.specs.declared.method.Entry.TheVariants as N
use Rattle.method_code.specs.declared.method.Head.{Head}
use Rattle.method_code.specs.declared.frame.Frame.{Frame}
use Rattle.method_code.specs.declared.frame.End.TheVariants as E
use Rattle.method_code.specs.declared.activation.Waiting.{Waiting}
use Rattle.method_code.specs.declared.activation.Activation.{Activation}
use Rattle.method_code.specs.Codes.{compiled, number_of, method_code, heads, entry_of, form_code}
use Rattle.method_code.specs.Steps.{Stepped, leaves, step, step_in, from_place, entered, runs}
use Rattle.method_code.specs.Kinds as K
use Rattle.method_code.specs.Kinds.{is_late, kind_of, begins_total}
use Rattle.method_code.proofs.Places.{stands, coded}
use Rattle.method_code.proofs.CodeCalls.{FormAt, EachTotal, EntryEarly, procedure_calls}
use Rattle.method_code.proofs.StepEnds.{RunEnds, FreshEnds, runs_end, fresh_ends}

-- whether a procedure may reject; every procedure
abbrev pub may_reject : Form Ref → Bool
may_reject f = not (is_total f)

-- any form
abbrev pub any_form : Form Ref → Bool
any_form f = true

-- a partial procedure may reject
pub partial_rejects : (f : Form Ref) → IsTrue (is_partial f) → IsTrue (may_reject f)
partial_rejects (F.Total ts) h = absurd (true≢false (sym h))
partial_rejects (F.Partial alts) h = refl
partial_rejects (F.Action alts) h = refl

-- an action may reject
pub action_rejects : (f : Form Ref) → IsTrue (is_action f) → IsTrue (may_reject f)
action_rejects (F.Total ts) h = absurd (true≢false (sym h))
action_rejects (F.Partial alts) h = refl
action_rejects (F.Action alts) h = refl

-- code of a procedure of a box
pub record InCode (p : Program) (form : Form Ref → Bool) (box method : ℕ) : Type 0 where
  pub number : ℕ
  pub of : FormAt p form box number
  pub is_of : method ≡ number_of p box number

-- a procedure that waits after an instruction that takes a result
pub record Waits (p : Program) (form : Form Ref → Bool) (w : Waiting) : Type 0 where
  pub code : InCode p form w.box_number w.frame.method
  pub place : 2 ≤ w.frame.place

-- a procedure that waits for its preprocedure
pub record WaitsEarly (p : Program) (w : Waiting) : Type 0 where
  pub waits : Waits p may_reject w
  pub partial : w.partial ≡ true

-- each one that waits
abbrev pub Each : (Waiting → Type 0) → List Waiting → Type 0
Each W [] = Unit {0}
Each W (w ∷ ws) = W w × Each W ws

-- one more that waits
pub each_push : (W : Waiting → Type 0) (ws : List Waiting) (w : Waiting) → Each W ws → W w →
    Each W (ws ++ w ∷ [])
each_push W [] w each h = (h, tt)
each_push W (x ∷ ws) w each h = (each.0, each_push W ws w each.1 h)

-- one of those that wait
pub each_get : (W : Waiting → Type 0) (ws : List Waiting) (n : ℕ) (w : Waiting) → Each W ws →
    slice_get ws n ≡ Some w → W w
each_get W [] n w each h = absurd (none_some h)
  where
    none_some : None ≡ Some w → ⊥
    none_some h = cc
each_get W (x ∷ ws) zero w each h = subst W (same h) each.0
  where
    same : Some x ≡ Some w → x ≡ w
    same h = cc
each_get W (x ∷ ws) (suc n) w each h = each_get W ws n w each.1 h

-- the first of those that wait
pub each_take : (W : Waiting → Type 0) (n : ℕ) (ws : List Waiting) → Each W ws → Each W (take n ws)
each_take W zero ws each = tt
each_take W (suc n) [] each = tt
each_take W (suc n) (x ∷ ws) each = (each.0, each_take W n ws each.1)

-- each by what follows from it
pub each_as : (V W : Waiting → Type 0) → ((w : Waiting) → V w → W w) → (ws : List Waiting) → Each V ws →
    Each W ws
each_as V W f [] each = tt
each_as V W f (w ∷ ws) each = (f w each.0, each_as V W f ws each.1)

-- a number above 0 is not 0
not_zero : (n : ℕ) → 1 ≤ n → (n == 0) ≡ false
not_zero n h = grind (arith, h)

-- a pass before its commit step: at the entry of a procedure that may reject
pub record Before (p : Program) (a : Activation) : Type 0 where
  pub code : InCode p may_reject a.box_number a.frame.method
  pub place : a.frame.place ≡ 0
  pub waits : Each (WaitsEarly p) a.waiting
  pub plain : a.plain ≡ false

-- a pass after a plain rejection: at a rejection place
pub record Plainly (p : Program) (a : Activation) : Type 0 where
  pub code : InCode p may_reject a.box_number a.frame.method
  pub place : a.frame.place ≡ 1
  pub waits : Each (WaitsEarly p) a.waiting
  pub plain : a.plain ≡ true

-- where a late step begins
abbrev pub BeginsLate : Program → ℕ → Frame → Type 0
BeginsLate p box frame = (InCode p any_form box frame.method × (1 ≤ frame.place))
    ⊎ (InCode p is_total box frame.method × (frame.place ≡ 0))

-- a pass after its commit step
pub record After (p : Program) (a : Activation) : Type 0 where
  pub begins : BeginsLate p a.box_number a.frame
  pub waits : Each (Waits p any_form) a.waiting
  pub plain : a.plain ≡ false

-- a total form begins with its first instruction
total_entry : (f : Form Ref) → IsTrue (is_total f) → entry_of f ≡ N.Total
total_entry (F.Total ts) h = refl
total_entry (F.Partial alts) h = absurd (true≢false (sym h))
total_entry (F.Action alts) h = absurd (true≢false (sym h))

-- the entry and the first instruction of a procedure that may reject
rejecting_entry : (f : Form Ref) → IsTrue (may_reject f) → (hs : List Head) × (entry_of f ≡ N.Partial hs)
rejecting_entry (F.Total ts) h = absurd (true≢false (sym h))
rejecting_entry (F.Partial alts) h = (heads 1 alts, refl)
rejecting_entry (F.Action alts) h = (heads 1 alts, refl)

-- the code of a form that may reject begins with the rejection
rejecting_code : (f : Form Ref) → IsTrue (may_reject f) → (is : List _) × (form_code f ≡ I.Reject ∷ is)
rejecting_code (F.Total ts) h = absurd (true≢false (sym h))
rejecting_code (F.Partial alts) h = (_, refl)
rejecting_code (F.Action alts) h = (_, refl)

module _ (p : Program) where
  module _ (form : Form Ref → Bool) (box method : ℕ) (c : InCode p form box method) where
    -- the code of the procedure of a frame
    the_code : slice_get (compiled p) method ≡ Some (method_code c.of.procedure)
    the_code = ap (slice_get (compiled p)) c.is_of ∙ coded p box c.number c.of.procedure c.of.there

    -- a step of that code
    the_step : (place : ℕ) (slots : List Value) (budget : ℕ) (vars : List Value) →
        step (compiled p) (record { method = method; place = place; slots = slots }) budget vars
        ≡ from_place (method_code c.of.procedure) method budget place vars slots
    the_step place slots budget vars = ap
        (λ (o : Option Method). step_in o (record { method = method; place = place; slots = slots }) budget
        vars) the_code

  -- from a rejection place a step only ends rejected, and changes nothing
  pub rejects_only : (box : ℕ) (frame : Frame) (budget : ℕ) (vars : List Value) →
      InCode p may_reject box frame.method → frame.place ≡ 1 →
      step (compiled p) frame budget vars ≡ leaves frame.method budget vars E.Rejected
  rejects_only box frame budget vars c at =
      let q = c.of.procedure in
      let is = rejecting_code q.form c.of.is in
      ap (λ place. step (compiled p) (record { method = frame.method; place = place; slots = frame.slots })
      budget vars) at
      ∙ (the_step may_reject box frame.method c 1 frame.slots budget vars
      ∙ rejected_first (method_code q) frame.method budget is.0 vars frame.slots is.1)
    where
      rejected_first : (m : Method) (method budget : ℕ) (is : List _) (vars slots : List Value) →
          m.instructions ≡ I.Reject ∷ is → runs m method budget 0 vars slots
          ≡ leaves method budget vars E.Rejected
      rejected_first m method budget is vars slots e =
          ap (λ l. runs (record m { instructions = l }) method budget 0 vars slots) e ∙ by budget
        where
          by : (budget : ℕ) → runs (record m { instructions = I.Reject ∷ is }) method budget 0 vars slots
              ≡ leaves method budget vars E.Rejected
          by zero = refl
          by (suc left) = refl

  -- which steps are late
  pub late_is : (box : ℕ) (frame : Frame) → BeginsLate p box frame → is_late (compiled p) frame ≡ true
  late_is box frame (inl b) = ap (λ t. not t || K.is_total (slice_get (compiled p) frame.method))
      (not_zero frame.place b.1)
  late_is box frame (inr b) =
      ap (λ (o : Option Method). not (frame.place == 0) || K.is_total o)
      (the_code is_total box frame.method b.0)
      ∙ (ap (λ (e : Entry). not (frame.place == 0) || begins_total e)
      (total_entry b.0.of.procedure.form b.0.of.is)
      ∙ or_true (not (frame.place == 0)))
    where
      or_true : (b : Bool) → b || true ≡ true
      or_true true = refl
      or_true false = refl

  -- before the commit step no step is late
  pub before_is : (a : Activation) → Before p a → is_late (compiled p) a.frame ≡ false
  before_is a b =
      ap (λ place. not (place == 0) || K.is_total (slice_get (compiled p) a.frame.method)) b.place
      ∙ (ap (λ (o : Option Method). K.is_total o) (the_code may_reject a.box_number a.frame.method b.code)
      ∙ ap (λ (e : Entry). begins_total e) (rejecting_entry b.code.of.procedure.form b.code.of.is).1)

module _ (p : Program) (keeps : Keeps p) where
  module _ (form : Form Ref → Bool) (box method : ℕ) (c : InCode p form box method) where
    -- the calls of the procedure of a frame are as they must be
    the_calls : EachTotal p box (method_code c.of.procedure).instructions
        × EntryEarly p box (method_code c.of.procedure).entry
    the_calls = procedure_calls p keeps box c.number c.of.procedure
        (stands p box c.number c.of.procedure c.of.there)

  -- a late step
  pub late_ends : (box : ℕ) (frame : Frame) (budget : ℕ) (vars : List Value) → BeginsLate p box frame →
      RunEnds p box frame.method budget (step (compiled p) frame budget vars)
      (step (compiled p) frame budget vars).end
  late_ends box frame budget vars (inl b) = by frame.place b.1 refl
    where
      by : (place : ℕ) → 1 ≤ place → frame.place ≡ place →
          RunEnds p box frame.method budget (step (compiled p) frame budget vars)
          (step (compiled p) frame budget vars).end
      by zero h e = absurd (omega (arith, h))
      by (suc at) h e =
          subst (λ (s : Stepped). RunEnds p box frame.method budget s s.end)
          (sym (ap (λ place. step (compiled p)
          (record { method = frame.method; place = place; slots = frame.slots }) budget vars) e
          ∙ the_step p any_form box frame.method b.0 (suc at) frame.slots budget vars))
          (runs_end p box (method_code b.0.of.procedure) frame.method budget at vars frame.slots
          (the_calls any_form box frame.method b.0).0)
  late_ends box frame budget vars (inr b) =
      subst (λ (s : Stepped). RunEnds p box frame.method budget s s.end)
      (sym (ap (λ place. step (compiled p)
      (record { method = frame.method; place = place; slots = frame.slots }) budget vars) b.1
      ∙ (the_step p is_total box frame.method b.0 0 frame.slots budget vars
      ∙ ap (λ (e : Entry). entered (method_code b.0.of.procedure) frame.method budget e vars frame.slots)
      (total_entry b.0.of.procedure.form b.0.of.is))))
      (runs_end p box (method_code b.0.of.procedure) frame.method budget 0 vars frame.slots
      (the_calls is_total box frame.method b.0).0)

  -- a step that begins with a choice
  pub before_ends : (a : Activation) (budget : ℕ) (vars : List Value) → Before p a →
      FreshEnds p a.box_number a.frame.method budget vars (step (compiled p) a.frame budget vars)
      (step (compiled p) a.frame budget vars).end
  before_ends a budget vars b =
      let q = b.code.of.procedure in
      let hs = rejecting_entry q.form b.code.of.is in
      let calls = the_calls may_reject a.box_number a.frame.method b.code in
      subst (λ (s : Stepped). FreshEnds p a.box_number a.frame.method budget vars s s.end)
      (sym (ap (λ place. step (compiled p)
      (record { method = a.frame.method; place = place; slots = a.frame.slots }) budget vars) b.place
      ∙ (the_step p may_reject a.box_number a.frame.method b.code 0 a.frame.slots budget vars
      ∙ ap (λ (e : Entry). entered (method_code q) a.frame.method budget e vars a.frame.slots) hs.1)))
      (fresh_ends p a.box_number (method_code q) a.frame.method budget hs.0 vars a.frame.slots calls.0
      (subst (λ (e : Entry). EntryEarly p a.box_number e) hs.1 calls.1))

-- the rejection place of a procedure that may reject
pub rejection_place : (p : Program) (box number : ℕ) (q : Proc Ref) (slots : List Value) (budget : ℕ)
    (vars : List Value) → procedure_of p box number ≡ Some q → is_total q.form ≡ false →
    step (compiled p) (record { method = number_of p box number; place = 1; slots = slots }) budget vars
    ≡ leaves (number_of p box number) budget vars E.Rejected
rejection_place p box number q slots budget vars there form =
    rejects_only p box (record { method = number_of p box number; place = 1; slots = slots }) budget vars
    (record {
      number = number;
      of = record { procedure = q; there = there; is = ap not form };
      is_of =
          refl;
    }) refl
