-- A body that comes to its end leaves its box in the regions of its end.
use Rattle.std.proofs.Common.{◌≡◌, ℕ, zero, suc, ℤ, Bool, true, false, if◌then◌else◌, IsTrue, List}
use Rattle.std.proofs.Common.{[], ◌∷◌}
use Rattle.std.proofs.Common.{◌++◌, Option, None, Some, Result, Ok, Err, IfOk, refl, sym, subst, ◌∙◌}
use Rattle.std.proofs.Common.{true≢false}
use Rattle.std.specs.Prelude.{IfSome, IsSomeAnd, option_map, option_and_then}
use Rattle.seuss_base.specs.declared.outcome.Trap.{Trap}
use Rattle.seuss_base.specs.declared.outcome.Outcome.{Outcome}
use Rattle.seuss_base.specs.declared.outcome.Outcome.TheVariants as O
use Rattle.seuss_program.specs.declared.program.Program.{Program}
use Rattle.seuss_program.specs.declared.tree.Ref.{Ref}
use Rattle.seuss_program.specs.declared.tree.Kind.{Kind}
use Rattle.seuss_program.specs.declared.tree.Kind.TheVariants as K
use Rattle.seuss_program.specs.declared.tree.Expr.{Expr}
use Rattle.seuss_program.specs.declared.tree.Call.{Call}
use Rattle.seuss_program.specs.declared.tree.Cat.{Cat}
use Rattle.seuss_program.specs.declared.tree.Proc.{Proc}
use Rattle.seuss_program.specs.declared.tree.Form.{Form}
use Rattle.seuss_program.specs.declared.tree.Statement.{Statement, roll-Statement, map-Statement}
use Rattle.seuss_program.specs.declared.tree.Statement.{ind-Statement}
use Rattle.seuss_program.specs.declared.tree.Statement.TheOpen as S
use Rattle.seuss_program.specs.declared.tree.Statement.TheOpen.{Statement-F}
use Rattle.seuss_program.specs.declared.state.State.{State}
use Rattle.seuss_program.specs.declared.state.Value.{Value}
use Rattle.seuss_program.specs.declared.state.Value.TheVariants as V
use Rattle.seuss_program.specs.Programs.{cat_of, target_of, method_of, vars_of}
use Rattle.seuss_program.specs.Values.{Evaluated, value, named, bool_of}
use Rattle.seuss_program.specs.Bodies.{Finish, Done, Trapped, Spent, Ran, Callee, Meaning, resumed}
use Rattle.seuss_program.specs.Bodies.{in_turn}
use Rattle.seuss_program.specs.Bodies.{arguments, arguments_after, argument_then, branched, stay, spend}
use Rattle.seuss_program.specs.Bodies.{paid_turn}
use Rattle.seuss_program.specs.Bodies.{assigned, evaluated_into, bound, looped, returned, paid_call}
use Rattle.seuss_program.specs.Bodies.{call_with}
use Rattle.seuss_program.specs.Bodies.{statement, statement_step, body}
use Rattle.seuss_program.specs.Keeping.{Keeps, HasForm, AreOf, Scope, scope_of, statement_fits, body_fits}
use Rattle.seuss_program.specs.Keeping.{all_true}
use Rattle.seuss_program.specs.Keeping.{call_fits, called, is_total, kind_in, is_of, arguments_fit}
use Rattle.seuss_program.specs.Keeping.{param_kinds}
use Rattle.seuss_program.specs.Keeping.{slot_kinds, var_kinds}
use Rattle.meaning_laws.specs.Forms.{AreFormed}
use Rattle.meaning_laws.proofs.ValueKinds.{Gives, kind-set, value-gives}
use Rattle.meaning_laws.proofs.KeptBodies.{each, meaning-layer}
use Rattle.meaning_laws.proofs.KeptForms.{KeepsForm, ReturnsFormed, keeping-form}
use Rattle.meaning_laws.proofs.FittingTexts.{Fits, Assigns}
use Rattle.meaning_laws.proofs.OtherBoxes.{StaysBelow}
use Rattle.meaning_laws.proofs.CalledProcedures.{and-left, and-right, is-of-some, call-named, form-is}
use Rattle.meaning_laws.proofs.CalledProcedures.{goes-down}
use Rattle.meaning_laws.proofs.CalledProcedures.{call-matches}
use Rattle.safety_check.specs.Regions.{Region, Fit, Lies, Frame, regions_of, truth_of, put, joined}
use Rattle.safety_check.specs.Regions.{is_among}
use Rattle.safety_check.specs.RegionValues.{region_in, Told}
use Rattle.safety_check.specs.Properties.{Ended}
use Rattle.safety_check.specs.Ends.{Way, Path, way_step, way_of, ways_in_turn, names_of, taken, put_end}
use Rattle.safety_check.specs.Ends.{call_end}
use Rattle.safety_check.specs.Ends.{can_have, arguments_end, either_end, branch_end, body_end}
use Rattle.safety_check.proofs.RegionLaws.{truth-is}
use Rattle.safety_check.proofs.ExpressionRegions.{value-told}
use Rattle.safety_check.proofs.NameRegions.{named-size, typed-vars, assigned-fit, bound-fit, joined-left}
use Rattle.safety_check.proofs.NameRegions.{joined-right}
use Rattle.safety_check.proofs.NameRegions.{forgotten-fit, nothing-at}
use Rattle.safety_check.proofs.TextFits.{way-layer, let-assigns, assign-assigns, call-fits, cond-is}
use Rattle.safety_check.proofs.TextFits.{holds-fit, fails-fit}
use Rattle.safety_check.proofs.TextFits.{turn-fits, arguments-are}
use Rattle.safety_check.proofs.AssignedNames.{call-leaves, statement-framed}

-- arguments that have values can have them
module _ (s : Scope) (vars slots : List Value) (typed_vars : AreOf vars s.vars)
    (typed_slots : AreOf slots s.slots)
    (frame : Frame) (fit : Fit (regions_of frame) vars slots) where
  -- an argument list that has values leaves the frame as it is
  pub arguments-have : (es : List (Expr Ref)) (ks : List Kind) (before args : List Value) →
      IsTrue (arguments_fit s es ks) → arguments_after before es vars slots ≡ Ok args →
      arguments_end es frame ≡ Some frame
  arguments-have [] ks before args fits is = refl
  arguments-have (e ∷ es) [] before args fits is = absurd (true≢false (sym fits))
  arguments-have (e ∷ es) (k ∷ ks) before args fits is =
      by (region_in e frame) (value e vars slots)
      (value-told s vars slots (regions_of frame) typed_vars typed_slots fit e k
      (is-of-some k (kind_in s e) (and-left (is_of k (kind_in s e)) (arguments_fit s es ks) fits))) is
      (λ more. arguments-have es ks more args (and-right (is_of k (kind_in s e))
      (arguments_fit s es ks) fits))
    where
      by : (o : Option Region) (ev : Evaluated) → Told o ev →
          argument_then ev before (λ more. arguments_after more es vars slots) ≡ Ok args →
          ((more : List Value) → arguments_after more es vars slots ≡ Ok args →
          arguments_end es frame ≡ Some frame) →
          (if can_have o then arguments_end es frame else None) ≡ Some frame
      by o (Err t) told is next = absurd (cc)
      by None (Ok v) told is next = absurd told
      by (Some r) (Ok v) told is next = next (before ++ v ∷ []) is

-- what assignments in a box and calls of its texts keep, where they come to their end
pub record Stays (p : Program) (callee : Callee) (box : ℕ) (s : Scope) (Other : State → Type 0) : Type 0 where
  pub put : (name : Ref) (v : Value) (state : State) (slots : List Value) (budget : ℕ) → Other state →
      Other (assigned box name v state slots budget).state
  pub call : (form : Form Ref → Bool) (bind : Option Ref) (call : Call Ref) →
      IsTrue (call_fits s form bind call) →
      (args : List Value) (state : State) (budget : ℕ) → HasForm p state →
      ((r : Proc Ref) → called s call ≡ Some r → AreOf args (param_kinds r.params)) →
      let left = callee (target_of p box call.target) (method_of call.method) args state budget in
      Ended left.outcome → Other state → Other left.state

module _ (p : Program) (keeps : Keeps p) (callee : Callee) (safe : KeepsForm p callee)
    (below : StaysBelow p callee) (box : ℕ) (c : Cat Ref) (at : cat_of p box ≡ Some c) (q : Proc Ref)
    (Other : State → Type 0) (stays : Stays p callee box (scope_of p.cats c q) Other) where
  -- what a text of the procedure sees
  abbrev scope : Scope
  scope = scope_of p.cats c q

  -- A state of the program's form, with the variables of the box and the slots in the frame.
  pub record In (frame : Frame) (state : State) (slots : List Value) : Type 0 where
    pub formed : AreFormed p q state slots
    pub fit : Fit (regions_of frame) (vars_of state box) slots
    pub other : Other state

  -- what a run leaves where it comes to its end
  abbrev pub After : Option Frame → Ran → Type 0
  After o ran = ran.finish ≡ Done → IsSomeAnd o (λ end. In end ran.state ran.slots)

  -- a run that begins in a frame ends in its end
  pub record Sound (path : Path) (m : Meaning) : Type 0 where
    pub by : (frame : Frame) (state : State) (slots : List Value) (budget : ℕ) → In frame state slots →
        After (path frame) (m state slots budget)

  -- a run that traps doesn't come to its end
  not-trapped : (t : Trap) → Trapped t ≡ Done → ⊥
  not-trapped t e = cc

  -- a run that is spent doesn't come to its end
  not-spent : Spent ≡ Done → ⊥
  not-spent e = cc

  -- an expression of the text has a value in its region
  told : (e : Expr Ref) (k : Kind) → kind_in scope e ≡ Some k → (frame : Frame) (state : State)
      (slots : List Value) → In frame state slots → Told (region_in e frame)
      (value e (vars_of state box) slots)
  told e k is frame state slots h =
      value-told scope (vars_of state box) slots (regions_of frame)
      (typed-vars p box c at q state h.formed.state_is) h.formed.slots_are h.fit e k is

  -- one run after another one
  pub resumed-after : (f : Finish) (o : Option Frame) (ran : Ran) (path : Path) (next : Meaning) →
      ran.finish ≡ f →
      After o ran → Sound path next → After (option_and_then path o) (resumed f ran next)
  resumed-after Done None ran path next is h n done = absurd (h is)
  resumed-after Done (Some mid) ran path next is h n done = n.by mid ran.state ran.slots ran.budget
      (h is) done
  resumed-after (Trapped t) o ran path next is h n done = absurd (not-trapped t (sym is ∙ done))
  resumed-after Spent o ran path next is h n done = absurd (not-spent (sym is ∙ done))

  -- an assignment
  abbrev put_meaning : Ref → Expr Ref → Meaning
  put_meaning name e state slots budget =
      evaluated_into box name (value e (vars_of state box) slots) state slots budget

  -- an assignment comes to its end
  put-sound : (name : Ref) (e : Expr Ref) → Assigns scope name e → Sound (put_end name e) (put_meaning name e)
  put-sound name e a = record {
    by = λ frame state slots budget h.
        by frame state slots budget h (region_in e frame) (value e (vars_of state box) slots)
        (told e a.kind a.value_is frame state slots h)
        (value-gives scope (vars_of state box) slots
        (typed-vars p box c at q state h.formed.state_is) h.formed.slots_are e a.kind a.value_is)
        (((keeping-form p keeps callee safe box c at q).put name e a).by state slots budget h.formed);
  }
    where
      by : (frame : Frame) (state : State) (slots : List Value) (budget : ℕ) → In frame state slots →
          (o : Option Region) (ev : Evaluated) → Told o ev → Gives ev a.kind →
          AreFormed p q (evaluated_into box name ev state slots budget).state
          (evaluated_into box name ev state slots budget).slots →
          After (option_map (λ r. put name r frame) o) (evaluated_into box name ev state slots budget)
      by frame state slots budget h o (Err t) lies gives formed done = absurd (not-trapped t done)
      by frame state slots budget h None (Ok v) lies gives formed done = absurd lies
      by frame state slots budget h (Some r) (Ok v) lies gives formed done = record {
        formed = formed;
        fit = assigned-fit p box c at q name a.kind v r frame state slots budget
            (kind-set scope name a.kind a.name_is) h.formed lies gives.1 h.fit;
        other = stays.put name v state slots budget h.other;
      }

  -- a call that has come to its end, and the name that takes its result
  pub call-in : (form : Form Ref → Bool) (bind : Option Ref) (call : Call Ref) →
      IsTrue (call_fits scope form bind call) →
      (frame : Frame) (args : List Value) (state : State) (slots : List Value) (budget : ℕ) →
      In frame state slots → arguments call.args (vars_of state box) slots ≡ Ok args →
      let called = callee (target_of p box call.target) (method_of call.method) args state budget in
      Ended called.outcome →
      let ran = bound box bind called.result called.state slots called.budget in
      In (taken bind frame) ran.state ran.slots
  call-in form bind call fits frame args state slots budget h is ends =
      let called = callee (target_of p box call.target) (method_of call.method) args state budget in
      let named = call-named scope form bind call fits in
      let matches = call-matches scope form bind call fits named.0 named.1 in
      let down =
      goes-down p keeps box c at q form call named.0 named.1 (form-is scope form bind call fits named.0
      named.1) in
      let formed =
      ((keeping-form p keeps callee safe box c at q).call form bind call fits).by state slots budget args
      h.formed is in
      let typed : AreOf args (param_kinds named.0.params) =
      subst (λ r. IfOk r (λ values. AreOf values (param_kinds named.0.params))) is
      (matches.args (vars_of state box) slots (typed-vars p box c at q state h.formed.state_is)
      h.formed.slots_are) in
      let back : ReturnsFormed p called.state called.result =
      safe.by (target_of p box call.target) (method_of call.method) named.0 args state budget down.there typed
      h.formed.state_is in
      let fit : Fit (regions_of frame) (vars_of called.state box) slots =
      subst (λ vs. Fit (regions_of frame) vs slots) (sym (call-leaves p keeps callee safe below box c at q
      form bind call fits args state budget))
      h.fit in
      let other : Other called.state =
      stays.call form bind call fits args state budget h.formed.state_is
      (λ r e. typed-at args named.0 r named.1 e typed) ends h.other in
      record {
        formed = formed.1;
        fit = bound-fit p box c at q bind called.result frame called.state slots called.budget
            (λ name e. kind-set scope name K.Int (matches.bound name e).0) back.result_is formed.0 fit;
        other = bound-other bind called.result called.state slots called.budget other;
      }
    where
      typed-at : (args : List Value) (one r : Proc Ref) → called scope call ≡ Some one →
          called scope call ≡ Some r →
          AreOf args (param_kinds one.params) → AreOf args (param_kinds r.params)
      typed-at args one r e f typed =
          let same : one ≡ r = cc in subst (λ (x : Proc Ref). AreOf args (param_kinds x.params)) same typed

      bound-other : (bind : Option Ref) (result : Option ℤ) (state : State) (slots : List Value)
          (budget : ℕ) →
          Other state → Other (bound box bind result state slots budget).state
      bound-other None result state slots budget h = h
      bound-other (Some name) None state slots budget h = h
      bound-other (Some name) (Some z) state slots budget h = stays.put name (V.Int z) state slots budget h

  -- arguments that have values leave the path as it is
  pub arguments-go : (form : Form Ref → Bool) (bind : Option Ref) (call : Call Ref) →
      IsTrue (call_fits scope form bind call) →
      (frame : Frame) (args : List Value) (state : State) (slots : List Value) → In frame state slots →
      arguments call.args (vars_of state box) slots ≡ Ok args → arguments_end call.args frame ≡ Some frame
  arguments-go form bind call fits frame args state slots h is =
      let named = call-named scope form bind call fits in
      arguments-have scope (vars_of state box) slots (typed-vars p box c at q state h.formed.state_is)
      h.formed.slots_are
      frame h.fit call.args (param_kinds named.0.params) [] args
      (arguments-are scope form bind call named.0 fits named.1) is

  -- a call comes to its end
  call-sound : (bind : Option Ref) (call : Call Ref) → IsTrue (call_fits scope is_total bind call) →
      Sound (call_end bind call) (statement_step p callee box (S.Call bind call))
  call-sound bind call fits = record {
    by = λ frame state slots budget h. by frame state slots budget h
        (arguments call.args (vars_of state box) slots) refl;
  }
    where
      back : (frame : Frame) (args : List Value) (state : State) (slots : List Value) (left : ℕ) →
          In frame state slots → arguments call.args (vars_of state box) slots ≡ Ok args →
          (outcome : Outcome) →
          (callee (target_of p box call.target) (method_of call.method) args state left).outcome ≡ outcome →
          After (Some (taken bind frame)) (returned p callee box outcome bind
          (callee (target_of p box call.target) (method_of call.method) args state left) slots)
      back frame args state slots left h is O.Accepted e done =
          call-in is_total bind call fits frame args state slots left h is (subst Ended (sym e) tt)
      back frame args state slots left h is O.Rejected e done =
          call-in is_total bind call fits frame args state slots left h is (subst Ended (sym e) tt)
      back frame args state slots left h is (O.Trapped t) e done = absurd (not-trapped t done)
      back frame args state slots left h is O.Spent e done = absurd (not-spent done)

      pay : (frame : Frame) (args : List Value) (state : State) (slots : List Value) (budget : ℕ) →
          In frame state slots → arguments call.args (vars_of state box) slots ≡ Ok args →
          After (Some (taken bind frame)) (paid_call p callee box bind (target_of p box call.target)
          (method_of call.method) args state slots budget)
      pay frame args state slots zero h is done = absurd (not-spent done)
      pay frame args state slots (suc left) h is done =
          back frame args state slots left h is
          (callee (target_of p box call.target) (method_of call.method) args state left).outcome refl done

      by : (frame : Frame) (state : State) (slots : List Value) (budget : ℕ) → In frame state slots →
          (r : Result (List Value) Trap) → arguments call.args (vars_of state box) slots ≡ r →
          After (call_end bind call frame) (call_with p callee box bind call r state slots budget)
      by frame state slots budget h (Err t) is done = absurd (not-trapped t done)
      by frame state slots budget h (Ok args) is done =
          subst (λ o. IsSomeAnd (option_map (taken bind) o)
          (λ end. In end (call_with p callee box bind call (Ok args) state slots budget).state
          (call_with p callee box bind call (Ok args) state slots budget).slots))
          (sym (arguments-go is_total bind call fits frame args state slots h is))
          (pay frame args state slots budget h is done)

  -- one of two branches
  join-left : (one other : Frame) (state : State) (slots : List Value) → In one state slots →
      In (joined one other) state slots
  join-left one other state slots h = record {
    formed = h.formed;
    fit = joined-left p box c at q one other state slots h.formed h.fit;
    other =
        h.other;
  }

  -- the other branch
  join-right : (one other : Frame) (state : State) (slots : List Value) → In other state slots →
      In (joined one other) state slots
  join-right one other state slots h = record {
    formed = h.formed;
    fit = joined-right p box c at q one other state slots h.formed h.fit;
    other =
        h.other;
  }

  -- the end of the first branch is in the joined one
  either-first : (o e : Option Frame) (state : State) (slots : List Value) →
      IsSomeAnd o (λ end. In end state slots) →
      IsSomeAnd (either_end o e) (λ end. In end state slots)
  either-first None e state slots h = absurd h
  either-first (Some one) None state slots h = h
  either-first (Some one) (Some other) state slots h = join-left one other state slots h

  -- and so is that of the second branch
  either-second : (o e : Option Frame) (state : State) (slots : List Value) →
      IsSomeAnd e (λ end. In end state slots) →
      IsSomeAnd (either_end o e) (λ end. In end state slots)
  either-second None e state slots h = h
  either-second (Some one) None state slots h = absurd h
  either-second (Some one) (Some other) state slots h = join-right one other state slots h

  -- a condition and its branches
  if-sound : (cond : Expr Ref) → kind_in scope cond ≡ Some K.Bool →
      (one other : Path) (holds fails : Meaning) →
      Sound one holds → Sound other fails →
      Sound (λ frame. option_and_then (λ r. branch_end (truth_of r) (one frame) (other frame))
      (region_in cond frame))
      (λ state slots budget. branched (value cond (vars_of state box) slots) holds fails state slots budget)
  if-sound cond is one other holds fails left right = record {
    by = λ frame state slots budget h.
        by frame state slots budget h (region_in cond frame) (value cond (vars_of state box) slots)
        (told cond K.Bool is frame state slots h);
  }
    where
      pick : (frame : Frame) (state : State) (slots : List Value) (budget : ℕ) → In frame state slots →
          (k : Option Bool) (b : Bool) → IfSome k (λ k. b ≡ k) →
          After (branch_end k (one frame) (other frame)) (if b then holds state slots budget else fails
          state slots budget)
      pick frame state slots budget h (Some true) true e done = left.by frame state slots budget h done
      pick frame state slots budget h (Some true) false e done = absurd (true≢false (sym e))
      pick frame state slots budget h (Some false) true e done = absurd (true≢false e)
      pick frame state slots budget h (Some false) false e done = right.by frame state slots budget h done
      pick frame state slots budget h None true e done =
          let ran = holds state slots budget in
          either-first (one frame) (other frame) ran.state ran.slots (left.by frame state slots budget h done)
      pick frame state slots budget h None false e done =
          let ran = fails state slots budget in
          either-second (one frame) (other frame) ran.state ran.slots
          (right.by frame state slots budget h done)

      by : (frame : Frame) (state : State) (slots : List Value) (budget : ℕ) → In frame state slots →
          (o : Option Region) (ev : Evaluated) → Told o ev →
          After (option_and_then (λ r. branch_end (truth_of r) (one frame) (other frame)) o)
          (branched ev holds fails state slots budget)
      by frame state slots budget h o (Err t) lies done = absurd (not-trapped t done)
      by frame state slots budget h None (Ok v) lies done = absurd lies
      by frame state slots budget h (Some r) (Ok v) lies done =
          pick frame state slots budget h (truth_of r) (bool_of v) (truth-is r v lies) done

  -- a loop: each turn is one from anything
  abbrev anything : Frame
  anything = record { vars = []; slots = [] }

  -- whatever is formed is in the frame that tells nothing
  pub plainly : (state : State) (slots : List Value) → AreFormed p q state slots → Other state →
      In (record { vars = []; slots = [] }) state slots
  plainly state slots formed other = record {
    formed = formed;
    fit = record {
      at = λ m. subst (λ o. Lies o (named m (vars_of state box) slots)) (sym (nothing-at m))
          (named-size m (vars_of state box) slots (var_kinds c.vars) (slot_kinds q)
          (typed-vars p box c at q state formed.state_is) formed.slots_are);
    };
    other = other;
  }

  -- what holds of the end whatever the frame are
  some-in : (o : Option Frame) (state : State) (slots : List Value) →
      IsSomeAnd o (λ end. In end state slots) →
      In (record { vars = []; slots = [] }) state slots
  some-in None state slots h = absurd h
  some-in (Some end) state slots h = plainly state slots h.formed h.other

  -- the path that tells nothing
  abbrev Plain : Path
  Plain frame = Some (record { vars = []; slots = [] })

  -- what is sound is sound without what it tells
  forget : (path : Path) (m : Meaning) → Sound path m → Sound Plain m
  forget path m h = record {
    by = λ frame state slots budget i done.
        some-in (path frame) (m state slots budget).state (m state slots budget).slots
        (h.by frame state slots budget i done);
  }

  -- a condition, of which nothing is told
  branched-plain : (ev : Evaluated) (holds fails : Meaning) (frame : Frame) (state : State)
      (slots : List Value)
      (budget : ℕ) → After (Plain frame) (holds state slots budget) →
      After (Plain frame) (fails state slots budget) →
      After (Plain frame) (branched ev holds fails state slots budget)
  branched-plain (Err t) holds fails frame state slots budget a b done = absurd (not-trapped t done)
  branched-plain (Ok v) holds fails frame state slots budget a b done = by (bool_of v) done
    where
      by : (t : Bool) → After (Plain frame) (if t then holds state slots budget else fails state slots budget)
      by true = a
      by false = b

  -- a loop, of which nothing is told
  loop-plain : (turns : ℕ) (cond : Expr Ref) (turn : Meaning) → Sound Plain turn →
      Sound Plain (looped box turns cond turn)
  loop-plain zero cond turn k = record {
    by = λ frame state slots budget h.
        branched-plain (value cond (vars_of state box) slots) spend stay frame state slots budget
        (λ done. absurd (not-spent done)) (λ done. plainly state slots h.formed h.other);
  }
  loop-plain (suc turns) cond turn k =
      let next = loop-plain turns cond turn k in
      record {
        by = λ frame state slots budget h.
            branched-plain (value cond (vars_of state box) slots)
            (paid_turn turn (looped box turns cond turn)) stay
            frame state slots budget (pay next frame state slots budget h)
            (λ done. plainly state slots h.formed h.other);
      }
    where
      pay : Sound Plain (looped box turns cond turn) → (frame : Frame) (state : State) (slots : List Value)
          (budget : ℕ) → In frame state slots →
          After (Plain frame) (paid_turn turn (looped box turns cond turn) state slots budget)
      pay next frame state slots zero h done = absurd (not-spent done)
      pay next frame state slots (suc left) h done =
          let ran = turn state slots left in
          resumed-after ran.finish (Plain frame) ran Plain (looped box turns cond turn) refl
          (k.by frame state slots left h) next done

  -- a statement that fits
  SoundSo : Statement Ref → Type 0
  SoundSo t = Fits scope t → Sound (way_of t).path (statement p callee box t)

  -- a statement is sound where its layer is
  layer-sound : (d : Statement-F Ref (Statement Ref)) →
      (Fits scope (roll-Statement Ref d) →
      Sound (way_step (map-Statement Ref (Statement Ref) Way way_of d)).path
      (statement_step p callee box (map-Statement Ref (Statement Ref) Meaning (statement p callee box) d))) →
      SoundSo (roll-Statement Ref d)
  unfolding SoundSo
  layer-sound d h fits =
      subst (λ (w : Way). Sound w.path (statement p callee box (roll-Statement Ref d))) (sym (way-layer d))
      (subst (Sound (way_step (map-Statement Ref (Statement Ref) Way way_of d)).path)
      (sym (meaning-layer p callee box d))
      (h fits))

  module _ (X : Type 0) (f : X → Statement Ref) (each_sound : (x : X) → SoundSo (f x)) where
    inner : (xs : List X) → IsTrue (all_true (each (statement_fits scope) (each f xs))) →
        Sound (ways_in_turn (each way_of (each f xs))) (in_turn (each (statement p callee box) (each f xs)))
    unfolding SoundSo
    inner [] fits = record { by = λ frame state slots budget h done. h }
    inner (x ∷ xs) fits =
        let first =
        each_sound x (and-left (statement_fits scope (f x)) (all_true
        (each (statement_fits scope) (each f xs))) fits) in
        let rest =
        inner xs (and-right (statement_fits scope (f x)) (all_true
        (each (statement_fits scope) (each f xs))) fits) in
        record {
          by = λ frame state slots budget h.
              let ran = statement p callee box (f x) state slots budget in
              resumed-after ran.finish ((way_of (f x)).path frame) ran
              (ways_in_turn (each way_of (each f xs)))
              (in_turn (each (statement p callee box) (each f xs))) refl
              (first.by frame state slots budget h) rest;
        }

    while-sound : (cond : Expr Ref) (turn : List X) → SoundSo
        (roll-Statement Ref (S.While cond (each f turn)))
    while-sound cond turn = layer-sound (S.While cond (each f turn)) (λ fits. record {
      by = λ frame state slots budget h done.
          let t = roll-Statement Ref (S.While cond (each f turn)) in
          let names = names_of (each way_of (each f turn)) in
          let m = looped box budget cond (in_turn (each (statement p callee box) (each f turn))) in
          let ran = m state slots budget in
          let round =
          loop-plain budget cond (in_turn (each (statement p callee box) (each f turn)))
          (forget (ways_in_turn (each way_of (each f turn))) (in_turn
          (each (statement p callee box) (each f turn)))
          (inner turn (turn-fits scope cond (each f turn) fits))) in
          let end : In (record { vars = []; slots = [] }) ran.state ran.slots =
          round.by frame state slots budget h done in
          let framed =
          (statement-framed p keeps callee safe below box c at q names (vars_of state box) slots t
          (record {
            fits = fits;
            inside = record {
              by = λ m e. subst (λ (w : Way). is_among m w.names ≡ false)
                  (sym (way-layer (S.While cond (each f turn)))) e;
            };
          })).by state slots budget (record { formed = h.formed; same = λ m e. refl }) in
          let same = subst (λ (mean : Meaning). (m : Ref) → is_among m names ≡ false →
          named m (vars_of (mean state slots budget).state box) (mean state slots budget).slots
          ≡ named m (vars_of state box) slots)
          (meaning-layer p callee box (S.While cond (each f turn))) framed.same in
          record {
            formed = end.formed;
            fit = forgotten-fit p box c at q names frame (vars_of state box) slots ran.state ran.slots
                end.formed
                h.fit same;
            other = end.other;
          };
    })

    layer : (y : Statement-F Ref X) → SoundSo (roll-Statement Ref (map-Statement Ref X (Statement Ref) f y))
    layer (S.Let name kind e) =
        layer-sound (S.Let name kind e) (λ fits. record {
          by =
              (put-sound name e (let-assigns scope name kind e fits)).by;
        })
    layer (S.Assign name e) =
        layer-sound (S.Assign name e) (λ fits. record {
          by = (put-sound name e
              (assign-assigns scope name e fits)).by;
        })
    layer (S.Call bind call) =
        layer-sound (S.Call bind call) (λ fits. record {
          by =
              (call-sound bind call (call-fits scope bind call fits)).by;
        })
    layer (S.If cond holds fails) = layer-sound (S.If cond (each f holds) (each f fails)) (λ fits. record {
      by = (if-sound cond (cond-is scope cond (each f holds) (each f fails) fits)
          (ways_in_turn (each way_of (each f holds))) (ways_in_turn (each way_of (each f fails)))
          (in_turn (each (statement p callee box) (each f holds)))
          (in_turn (each (statement p callee box) (each f fails)))
          (inner holds (holds-fit scope cond (each f holds) (each f fails) fits))
          (inner fails (fails-fit scope cond (each f holds) (each f fails) fits))).by;
    })
    layer (S.While cond turn) = while-sound cond turn

  -- each statement that fits is sound
  pub statement-sound : (t : Statement Ref) → Fits scope t → Sound (way_of t).path (statement p callee box t)
  unfolding SoundSo
  statement-sound =
      ind-Statement Ref SoundSo
      (λ x y is. subst (λ z. SoundSo (roll-Statement Ref z)) is (layer _ (λ e. e.0) (λ e. e.1) y))

  -- A body that comes to its end leaves its box in the regions of its end.
  pub body-sound : (ts : List (Statement Ref)) → IsTrue (body_fits scope ts) →
      Sound (body_end ts) (body p callee box ts)
  body-sound [] fits = record { by = λ frame state slots budget h done. h }
  body-sound (t ∷ ts) fits =
      let first = statement-sound t (and-left (statement_fits scope t) (body_fits scope ts) fits) in
      let rest = body-sound ts (and-right (statement_fits scope t) (body_fits scope ts) fits) in
      record {
        by = λ frame state slots budget h.
            let ran = statement p callee box t state slots budget in
            resumed-after ran.finish ((way_of t).path frame) ran (body_end ts) (body p callee box ts) refl
            (first.by frame state slots budget h) rest;
      }
