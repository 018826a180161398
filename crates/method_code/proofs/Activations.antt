-- A pass of an action stays among the frames of its line and its tail.
use Rattle.std.proofs.Common.{◌≡◌, ℕ, ◌<◌, ◌-◌, ℤ, ◌⊎◌, inl, inr, Bool, true, false, if◌then◌else◌, List, []}
use Rattle.std.proofs.Common.{◌∷◌, ◌++◌, length, Option, None, Some, refl, sym, ap, ◌∙◌, subst, arith}
use Rattle.std.proofs.Common.{true≢false}
use Rattle.std.proofs.lemmas.List.{map-append}
use Rattle.std.proofs.lemmas.List.Elements.{All-nil, All-push}
use Rattle.std.specs.Prelude.{IfSome, IsTrue}
use Rattle.seuss_program.specs.declared.program.Program.{Program}
use Rattle.seuss_program.specs.declared.program.ActionInfo.{ActionInfo}
use Rattle.seuss_program.specs.declared.tree.Ref.{Ref}
use Rattle.seuss_program.specs.declared.tree.Ref.TheVariants as R
use Rattle.seuss_program.specs.declared.tree.Kind.TheVariants as KV
use Rattle.seuss_program.specs.declared.tree.Proc.{Proc}
use Rattle.seuss_program.specs.declared.state.Value.{Value}
use Rattle.seuss_program.specs.declared.state.Value.TheVariants as V
use Rattle.seuss_program.specs.Programs.{procedure_of, target_of, method_of}
use Rattle.seuss_program.specs.Values.{fits, HasSize}
use Rattle.seuss_program.specs.Keeping.{kind_of, Keeps, is_total, param_kinds}
use Rattle.method_code.specs.declared.frame.Frame.{Frame}
use Rattle.method_code.specs.declared.frame.End.{End}
use Rattle.method_code.specs.declared.frame.End.TheVariants as E
use Rattle.method_code.specs.declared.activation.Waiting.{Waiting}
use Rattle.method_code.specs.declared.activation.Activation.{Activation}
use Rattle.method_code.specs.Codes.{compiled}
use Rattle.method_code.specs.Steps.{Stepped, step}
use Rattle.method_code.specs.Chains.{Turned, Next, Over, turned, begun, accepted, rejected, after_accepted}
use Rattle.method_code.specs.Chains.{after_rejected, last_of}
use Rattle.method_code.specs.Kinds.{steps_made, steps_on, IsAction}
use Rattle.method_code.specs.Frames.{IsFrame, IsPlace, Rejection, Result as AtResult, Return, IsWaiting}
use Rattle.method_code.specs.Frames.{IsCall, FitsEnd}
use Rattle.seuss_program.specs.Lines.{InLine, Own, Early, InTail, OfLine, OfTail, body_calls, early_calls}
use Rattle.method_code.specs.Kinds.{Made}
use Rattle.method_code.specs.OwnSteps.{EachMade, FindsVars, IsOwnStep, MayMake}
use Rattle.method_code.specs.Beside.{MayBegin, AtEntry, AtPlace}
use Rattle.method_code.proofs.Places.{stands, keeps_procedure}
use Rattle.method_code.proofs.Phases.{Each, each_push, each_get, each_take}
use Rattle.method_code.proofs.SafeProcedures.{step_fits}
use Rattle.method_code.proofs.NamedCalls.{EndNamed}
use Rattle.method_code.proofs.CodedCalls.{end_named}
use Rattle.method_code.proofs.TypingLaws.{KindLaws}
use Rattle.method_code.proofs.EntryFrames.{entry_is_frame}

-- a procedure that a pass of an action may run; in its tail they are total
record Among (p : Program) (a : ActionInfo) (box number : ℕ) : Type 0 where
  procedure : Proc Ref
  there : procedure_of p box number ≡ Some procedure
  among : InLine p a box number ⊎ (InTail p a box number × (is_total procedure.form ≡ true))

-- a frame at which it may stand
record OwnFrame (p : Program) (a : ActionInfo) (box : ℕ) (frame : Frame) : Type 0 where
  is : IsFrame p box frame
  of : Among p a box is.number
  begins : MayBegin p box is.number is.procedure frame

-- and one at which it may wait
record OwnWaiting (p : Program) (a : ActionInfo) (w : Waiting) : Type 0 where
  number : ℕ
  is : IsWaiting p w.box_number number w.frame w.partial
  of : Among p a w.box_number number

record OwnPass (p : Program) (a : ActionInfo) (x : Activation) : Type 0 where
  here : OwnFrame p a x.box_number x.frame
  waits : Each (OwnWaiting p a) x.waiting

-- what comes after a step is a pass of the action, or its end
abbrev OwnNext : Program → ActionInfo → Turned → Type 0
OwnNext p a (Next x) = OwnPass p a x
OwnNext p a (Over end) = Unit {0}

-- a procedure is found once
one_procedure : (o : Option (Proc Ref)) (q r : Proc Ref) → o ≡ Some q → o ≡ Some r → q ≡ r
one_procedure o q r h g = cc

module _ (laws : KindLaws) (p : Program) (keeps : Keeps p) (a : ActionInfo) where
  -- a call in the text of such a procedure
  called_among : (box number target called : ℕ) (args : List Value) (partial : Bool)
      (o : Among p a box number) → (q : Proc Ref) → procedure_of p box number ≡ Some q →
      (partial ≡ true → is_total q.form ≡ false) →
      IsCall p (target_of p box (R.Given target)) called args partial →
      EndNamed (body_calls q.form) (early_calls q.form) (E.Call target called args partial) →
      Among p a (target_of p box (R.Given target)) called
  called_among box number target called args true o q there rejects call n =
      record { procedure = call.procedure; there = call.there; among = inl (by o.among) }
    where
      same : o.procedure ≡ q
      same = one_procedure (procedure_of p box number) o.procedure q o.there there

      place : InLine p a (target_of p box n.call.target) (method_of n.call.method) →
          InLine p a (target_of p box (R.Given target)) called
      place l = subst (λ b. InLine p a b called)
          (ap (target_of p box) (n.given ∙ ap (λ k. R.Given k) n.target_is))
          (subst (λ k. InLine p a (target_of p box n.call.target) k) n.method_is l)

      by : InLine p a box number ⊎ (InTail p a box number × (is_total o.procedure.form ≡ true)) →
          InLine p a (target_of p box (R.Given target)) called
      by (inl l) = place (Early box number q n.call l there n.among)
      by (inr t) = absurd (true≢false
          (sym t.1 ∙ (ap (λ (r : Proc Ref). is_total r.form) same ∙ rejects refl)))
  called_among box number target called args false o q there rejects call n =
      record { procedure = call.procedure; there = call.there; among = inr (by o.among, call.form) }
    where
      place : InTail p a (target_of p box n.call.target) (method_of n.call.method) →
          InTail p a (target_of p box (R.Given target)) called
      place l = subst (λ b. InTail p a b called)
          (ap (target_of p box) (n.given ∙ ap (λ k. R.Given k) n.target_is))
          (subst (λ k. InTail p a (target_of p box n.call.target) k) n.method_is l)

      by : InLine p a box number ⊎ (InTail p a box number × (is_total o.procedure.form ≡ true)) →
          InTail p a (target_of p box (R.Given target)) called
      by (inl l) = place (OfLine box number q n.call l there n.among)
      by (inr t) = place (OfTail box number q n.call t.0 there n.among)

  -- a caller goes on after a call
  accepted_own : (w : Waiting) (found : Option ℤ) → IfSome found (λ z. IsTrue (fits z)) →
      OwnWaiting p a w → OwnFrame p a w.box_number (after_accepted w.frame found)
  accepted_own w None small o = record {
    is = record {
      number = o.number;
      procedure = o.is.procedure;
      there = o.is.there;
      method = o.is.method;
      place = Return o.is.at o.is.place o.is.takes o.is.slots;
    };
    of = o.of;
    begins = AtPlace o.is.method (omega (arith, o.is.place))
        (Return o.is.at o.is.place o.is.takes o.is.slots);
  }
  accepted_own w (Some z) small o = record {
    is = record {
      number = o.number;
      procedure = o.is.procedure;
      there = o.is.there;
      method = o.is.method;
      place = at_result;
    };
    of = o.of;
    begins = AtPlace o.is.method (omega (arith, o.is.place)) at_result;
  }
    where
      at_result : IsPlace o.is.procedure (w.frame.place - 1) (w.frame.slots ++ V.Int z ∷ [])
      at_result = AtResult o.is.at (omega (arith, o.is.place)) o.is.takes
          (record {
            kinds = map-append kind_of w.frame.slots (V.Int z ∷ [])
                ∙ ap (λ ks. ks ++ KV.Int ∷ []) o.is.slots.kinds;
            sizes = All-push HasSize w.frame.slots (V.Int z) o.is.slots.sizes small;
          })

  -- a caller goes on after a rejected call at a frame of its own
  rejected_own : (w : Waiting) → OwnWaiting p a w → OwnFrame p a w.box_number (after_rejected w)
  rejected_own w o = record {
    is = record {
      number = o.number;
      procedure = o.is.procedure;
      there = o.is.there;
      method = o.is.method;
      place = by w.partial o.is.early;
    };
    of = o.of;
    begins = AtPlace o.is.method (above w.partial) (by w.partial o.is.early);
  }
    where
      above : (b : Bool) → 0 < (if b then 1 else w.frame.place)
      above true = omega arith
      above false = omega (arith, o.is.place)

      by : (b : Bool) → (b ≡ true → is_total o.is.procedure.form ≡ false) →
          IsPlace o.is.procedure (if b then 1 else w.frame.place) w.frame.slots
      by true early = Rejection refl (early refl) o.is.slots
      by false early = Return o.is.at o.is.place o.is.takes o.is.slots

  -- a pass of the action goes on after an accepted call
  accepted_next : (x : Activation) (found : Option ℤ) → IfSome found (λ z. IsTrue (fits z)) →
      Each (OwnWaiting p a) x.waiting → OwnNext p a (accepted x found (last_of x.waiting))
  accepted_next x found small waits = by (last_of x.waiting) refl
    where
      by : (o : Option Waiting) → last_of x.waiting ≡ o → OwnNext p a (accepted x found o)
      by None e = tt
      by (Some w) e = record {
        here = accepted_own w found small
            (each_get (OwnWaiting p a) x.waiting (length x.waiting - 1) w waits e);
        waits = each_take (OwnWaiting p a) (length x.waiting - 1) x.waiting waits;
      }

  -- a pass of the action goes on after a rejected call
  rejected_next : (x : Activation) (plain : Bool) → Each (OwnWaiting p a) x.waiting →
      OwnNext p a (rejected x plain (last_of x.waiting))
  rejected_next x plain waits = by (last_of x.waiting) refl
    where
      by : (o : Option Waiting) → last_of x.waiting ≡ o → OwnNext p a (rejected x plain o)
      by None e = tt
      by (Some w) e = record {
        here = rejected_own w (each_get (OwnWaiting p a) x.waiting (length x.waiting - 1) w waits e);
        waits = each_take (OwnWaiting p a) (length x.waiting - 1) x.waiting waits;
      }

  -- what comes after a step
  next_own : (x : Activation) (o : OwnPass p a x) (s : Stepped) (end : End) →
      FitsEnd p x.box_number o.here.is.number s.frame end →
      EndNamed (body_calls o.here.is.procedure.form) (early_calls o.here.is.procedure.form) end →
      OwnNext p a (turned p (record x { frame = s.frame }) end)
  next_own x o s (E.Call target called args partial) f n =
      let w : Waiting = record { box_number = x.box_number; frame = s.frame; partial = partial } in
      let number = o.here.is.number in
      let same : f.0.procedure ≡ o.here.is.procedure =
      one_procedure (procedure_of p x.box_number number) f.0.procedure o.here.is.procedure f.0.there
      o.here.is.there in
      let among = called_among x.box_number number target called args partial o.here.of o.here.is.procedure
      o.here.is.there
      (λ e. ap (λ (q : Proc Ref). is_total q.form) (sym same) ∙ f.0.early e) f.1 n in
      record {
        here = record {
          is = record {
            number = called;
            procedure = f.1.procedure;
            there = f.1.there;
            method = refl;
            place = entry_is_frame laws p (target_of p x.box_number (R.Given target)) called
                f.1.procedure args f.1.there f.1.args;
          };
          of = among;
          begins = AtEntry args f.1.args refl;
        };
        waits = each_push (OwnWaiting p a) x.waiting w o.waits
            (record { number = number; is = f.0; of = o.here.of });
      }
  next_own x o s (E.Returned found) f n = accepted_next (record x { frame = s.frame }) found f o.waits
  next_own x o s E.RejectedPlain f n = rejected_next (record x { frame = s.frame }) true o.waits
  next_own x o s E.Rejected f n = rejected_next (record x { frame = s.frame }) x.plain o.waits
  next_own x o s (E.Trapped t) f n = tt
  next_own x o s E.Spent f n = tt

  -- the call of a step from a frame is one of the text
  step_named : (box : ℕ) (frame : Frame) (budget : ℕ) (vars : List Value) (f : IsFrame p box frame) →
      EndNamed (body_calls f.procedure.form) (early_calls f.procedure.form)
      (step (compiled p) frame budget vars).end
  step_named box frame budget vars f =
      end_named p keeps box f.number f.procedure f.there frame budget vars f.method

  -- all steps of a pass that finds variables of the boxes
  own_steps : (row : List (List Value)) (x : Activation) (budget : ℕ) → OwnPass p a x →
      EachMade (FindsVars p) (steps_made p row x budget) →
      EachMade (IsOwnStep p a) (steps_made p row x budget)
  own_steps [] x budget o finds = tt
  own_steps (vars ∷ row) x budget o finds =
      let s : Stepped = step (compiled p) x.frame budget vars in
      let fits = step_fits laws p keeps x.box_number x.frame budget vars o.here.is finds.0 in (
        record { frame = o.here.is; among = loose o.here.of.among; begins = o.here.begins; leaves = fits },
        by (turned p (record x { frame = s.frame }) s.end) s.budget
            (λ next k f. own_steps row next s.budget k f)
            (next_own x o s s.end fits.end (step_named x.box_number x.frame budget vars o.here.is)) finds.1,
      )
    where
      loose : InLine p a x.box_number o.here.is.number
          ⊎ (InTail p a x.box_number o.here.is.number × (is_total o.here.of.procedure.form ≡ true)) →
          InLine p a x.box_number o.here.is.number ⊎ InTail p a x.box_number o.here.is.number
      loose (inl l) = inl l
      loose (inr t) = inr t.0

      by : (t : Turned) (left : ℕ) →
          ((next : Activation) → OwnPass p a next → EachMade (FindsVars p) (steps_made p row next left) →
          EachMade (IsOwnStep p a) (steps_made p row next left)) →
          OwnNext p a t → EachMade (FindsVars p) (steps_on t left (steps_made p row)) →
          EachMade (IsOwnStep p a) (steps_on t left (steps_made p row))
      by (Next next) left go h f = go next h f
      by (Over end) left go h f = tt

  -- an action begins a pass of its own
  own_begin : IsAction p a → OwnPass p a (begun p a)
  own_begin is =
      let at = stands p a.box_number a.procedure is.procedure is.there in
      let alone = (keeps_procedure p keeps a.box_number a.procedure is.procedure at).alone is.form in
      record {
        here = record {
          is = record {
            number = a.procedure;
            procedure = is.procedure;
            there = is.there;
            method = refl;
            place = entry_is_frame laws p a.box_number a.procedure is.procedure [] is.there
                (record { kinds = ap param_kinds (sym alone.0); sizes = All-nil HasSize });
          };
          of = record { procedure = is.procedure; there = is.there; among = inl Own };
          begins = AtEntry [] (record { kinds = ap param_kinds (sym alone.0); sizes = All-nil HasSize }) refl;
        };
        waits = tt;
      }

  -- the steps of a pass that finds variables of the boxes are steps of its action
  pub own_pass : IsAction p a → (row : List (List Value)) (budget : ℕ) →
      EachMade (FindsVars p) (steps_made p row (begun p a) budget) →
      EachMade (IsOwnStep p a) (steps_made p row (begun p a) budget)
  own_pass is row budget finds = own_steps row (begun p a) budget (own_begin is) finds

-- its own steps are steps that the pass may make
pub own_may : (p : Program) (a : ActionInfo) (steps : List Made) → EachMade (IsOwnStep p a) steps →
    EachMade (MayMake p a) steps
own_may p a [] own = tt
own_may p a (s ∷ steps) own = (
  record {
    number = own.0.frame.number;
    procedure = own.0.frame.procedure;
    there = own.0.frame.there;
    among = own.0.among;
    begins = own.0.begins;
  },
  own_may p a steps own.1,
)
