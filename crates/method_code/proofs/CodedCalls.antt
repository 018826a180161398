-- Each call in the code of a procedure, and each one that a step of it makes, is in its text.
use Rattle.std.proofs.Common.{◌≡◌, ℕ, inl, inr, true, false, List, [], ◌∷◌, Option, Some, sym, ap, ◌∙◌}
use Rattle.std.proofs.Common.{subst}
use Rattle.seuss_program.specs.declared.program.Program.{Program}
use Rattle.seuss_program.specs.declared.tree.Ref.{Ref}
use Rattle.seuss_program.specs.declared.tree.Ref.TheVariants as R
use Rattle.seuss_program.specs.declared.tree.Call.{Call}
use Rattle.seuss_program.specs.declared.tree.Form.{Form}
use Rattle.seuss_program.specs.declared.tree.Proc.{Proc}
use Rattle.seuss_program.specs.declared.state.Value.{Value}
use Rattle.seuss_program.specs.Programs.{procedure_of}
use Rattle.seuss_program.specs.Keeping.{Keeps}
use Rattle.seuss_program.specs.Lines.{IsIn, body_calls, early_calls}
use Rattle.method_code.specs.declared.instruction.Instruction.{Instruction}
use Rattle.method_code.specs.declared.instruction.Instruction.TheVariants as I
use Rattle.method_code.specs.declared.instruction.CallCode.{CallCode}
use Rattle.method_code.specs.declared.method.Method.{Method}
use Rattle.method_code.specs.declared.method.Entry.{Entry}
use Rattle.method_code.specs.declared.method.Entry.TheVariants as N
use Rattle.method_code.specs.declared.method.Head.{Head}
use Rattle.method_code.specs.declared.frame.Frame.{Frame}
use Rattle.method_code.specs.declared.frame.End.{End}
use Rattle.method_code.specs.declared.frame.End.TheVariants as E
use Rattle.method_code.specs.Codes.{compiled, number_of, method_code, entry_of, form_code}
use Rattle.method_code.specs.Steps.{Stepped, step, step_in}
use Rattle.method_code.specs.CallsOfTexts.{heads_of, IsCallAmong, CallsByText}
use Rattle.method_code.proofs.Places.{stands, coded, scope, keeps_procedure, calls_below}
use Rattle.method_code.proofs.Attempting.{named}
use Rattle.method_code.proofs.NamedCalls.{CodeOf, CallIn, CallsIn, HeadsIn, EntryIn, EndNamed, named_form}
use Rattle.method_code.proofs.NamedCalls.{placed_named}

-- a call of code that is among calls of a text, by its numbers
among_of : (calls : List (Call Ref)) (target method : ℕ) → CodeOf calls target method →
    IsCallAmong calls target method
among_of calls target method h = record {
  call = h.call;
  among = h.among;
  target_is = h.given ∙ ap (λ k. R.Given k) h.target_is;
  method_is = h.method_is;
}

-- an instruction among those whose calls are of a text
called_in : (calls : List (Call Ref)) (code : List Instruction) (call : CallCode) → CallsIn calls code →
    IsIn (I.Call call) code → CodeOf calls call.target call.method
called_in calls [] call all h = elim h [ ]
called_in calls (i ∷ code) call all (inl e) = subst (λ (x : Instruction). CallIn calls x) e all.0
called_in calls (i ∷ code) call all (inr h) = called_in calls code call all.1 h

-- a head among those whose calls are of a text
begun_in : (calls : List (Call Ref)) (heads : List Head) (head : Head) (call : CallCode) →
    HeadsIn calls heads → IsIn head heads → head.early ≡ Some call → CodeOf calls call.target call.method
begun_in calls [] head call all h early = elim h [ ]
begun_in calls (x ∷ heads) head call all (inl e) early = all.0 call (ap (λ (y : Head). y.early) e ∙ early)
begun_in calls (x ∷ heads) head call all (inr h) early = begun_in calls heads head call all.1 h early

-- the heads of an entry whose calls are of a text
heads_in : (calls : List (Call Ref)) (e : Entry) → EntryIn calls e → HeadsIn calls (heads_of e)
heads_in calls N.Total h = tt
heads_in calls (N.Partial heads) h = h

-- the call by which a step ends, as one among the calls of a text
by_text : (f : Form Ref) (end : End) → EndNamed (body_calls f) (early_calls f) end → CallsByText f end
by_text f (E.Call target method args true) h = among_of (early_calls f) target method h
by_text f (E.Call target method args false) h = among_of (body_calls f) target method h
by_text f (E.Returned found) h = tt
by_text f E.RejectedPlain h = tt
by_text f E.Rejected h = tt
by_text f (E.Trapped t) h = tt
by_text f E.Spent h = tt

module _ (p : Program) (keeps : Keeps p) (box number : ℕ) (q : Proc Ref)
    (there : procedure_of p box number ≡ Some q) where
  -- the code of a procedure of a checked program calls what its text calls
  named_calls : CallsIn (body_calls q.form) (form_code q.form) × EntryIn (early_calls q.form)
      (entry_of q.form)
  named_calls =
      let at = stands p box number q there in
      named_form (scope p keeps box number q at) (λ form bind call fit. let r =
      named (scope p keeps box number q at) form bind call fit in
      (calls_below p keeps box number q at call r.0 r.1).given)
      q.form (keeps_procedure p keeps box number q at).text

  -- an instruction calls what a body of the text calls
  pub instruction_named : (call : CallCode) → IsIn (I.Call call) (form_code q.form) →
      IsCallAmong (body_calls q.form) call.target call.method
  instruction_named call is = among_of (body_calls q.form) call.target call.method
      (called_in (body_calls q.form) (form_code q.form) call named_calls.0 is)

  -- an alternative begins with a preprocedure of the text
  pub head_named : (head : Head) (call : CallCode) → IsIn head (heads_of (entry_of q.form)) →
      head.early ≡ Some call → IsCallAmong (early_calls q.form) call.target call.method
  head_named head call is early = among_of (early_calls q.form) call.target call.method
      (begun_in (early_calls q.form) (heads_of (entry_of q.form)) head call
      (heads_in (early_calls q.form) (entry_of q.form) named_calls.1) is early)

  -- a step of the procedure ends by a call of the text, if by any
  pub end_named : (frame : Frame) (budget : ℕ) (vars : List Value) → frame.method ≡ number_of p box number →
      EndNamed (body_calls q.form) (early_calls q.form) (step (compiled p) frame budget vars).end
  end_named frame budget vars method =
      let same : step (compiled p) frame budget vars ≡ step_in (Some (method_code q))
      (record { method = number_of p box number; place = frame.place; slots = frame.slots }) budget vars =
      ap (λ k. step (compiled p) (record { method = k; place = frame.place; slots = frame.slots }) budget
      vars) method
      ∙ ap (λ (o : Option Method). step_in o
      (record { method = number_of p box number; place = frame.place; slots = frame.slots }) budget vars)
      (coded p box number q there) in
      subst (λ (x : Stepped). EndNamed (body_calls q.form) (early_calls q.form) x.end) (sym same)
      (placed_named (body_calls q.form) (early_calls q.form) (method_code q) (number_of p box number)
      budget frame.place vars frame.slots named_calls.0 named_calls.1)

  -- the call by which a step of the procedure ends is in its text
  pub step_by_text : (frame : Frame) (budget : ℕ) (vars : List Value) →
      frame.method ≡ number_of p box number →
      CallsByText q.form (step (compiled p) frame budget vars).end
  step_by_text frame budget vars method =
      by_text q.form (step (compiled p) frame budget vars).end (end_named frame budget vars method)
