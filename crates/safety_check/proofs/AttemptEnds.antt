-- An attempt that goes on leaves its box as it was, or in the regions of an end of a body that may be run.
use Rattle.std.proofs.Common.{◌≡◌, ℕ, Bool, true, false, ◌&&◌, if◌then◌else◌, IsTrue, List}
use Rattle.std.proofs.Common.{[], ◌∷◌}
use Rattle.std.proofs.Common.{◌++◌, length, nat_le, Option, None, Some, Result, Ok, Err, IfOk, refl, sym}
use Rattle.std.proofs.Common.{subst}
use Rattle.std.proofs.Common.{true≢false, inl, inr, arith}
use Rattle.std.proofs.lemmas.List.Elements.{Contains-append_left, Contains-append_right}
use Rattle.std.specs.List.{Contains}
use Rattle.std.specs.Prelude.{◌⊎◌, IfSome, IsSomeAnd, option_map, option_and_then}
use Rattle.seuss_base.specs.declared.outcome.Trap.{Trap}
use Rattle.seuss_base.specs.declared.outcome.Outcome.{Outcome}
use Rattle.seuss_base.specs.declared.outcome.Outcome.TheVariants as O
use Rattle.seuss_program.specs.declared.program.Program.{Program}
use Rattle.seuss_program.specs.declared.tree.Ref.{Ref}
use Rattle.seuss_program.specs.declared.tree.Kind.TheVariants as K
use Rattle.seuss_program.specs.declared.tree.Pre.{Pre}
use Rattle.seuss_program.specs.declared.tree.Cat.{Cat}
use Rattle.seuss_program.specs.declared.tree.Proc.{Proc}
use Rattle.seuss_program.specs.declared.tree.Form.{Form}
use Rattle.seuss_program.specs.declared.tree.Form.TheVariants as F
use Rattle.seuss_program.specs.declared.tree.Alternative.{Alternative}
use Rattle.seuss_program.specs.declared.tree.Statement.{Statement}
use Rattle.seuss_program.specs.declared.state.State.{State}
use Rattle.seuss_program.specs.declared.state.Value.{Value}
use Rattle.seuss_program.specs.Programs.{cat_of, target_of, method_of, vars_of}
use Rattle.seuss_program.specs.Values.{Evaluated, value, bool_of}
use Rattle.seuss_program.specs.Bodies.{Finish, Done, Trapped, Spent, Ran, Called, Callee, arguments, bound}
use Rattle.seuss_program.specs.Bodies.{body}
use Rattle.seuss_program.specs.Attempts.{finished, behind_pre, pre_called, chosen, judged}
use Rattle.seuss_program.specs.Attempts.{choice}
use Rattle.seuss_program.specs.Attempts.{performed}
use Rattle.seuss_program.specs.Keeping.{Keeps, AreOf, Scope, scope_of, kind_in, is_of, is_partial}
use Rattle.seuss_program.specs.Keeping.{pre_fits}
use Rattle.seuss_program.specs.Keeping.{body_fits, alternative_fits, alternatives_fit, form_fits, param_kinds}
use Rattle.meaning_laws.proofs.KeptForms.{KeepsForm}
use Rattle.meaning_laws.proofs.OtherBoxes.{StaysBelow}
use Rattle.meaning_laws.proofs.CalledProcedures.{and-left, and-right, is-of-some, call-matches}
use Rattle.safety_check.specs.Regions.{Region, Frame, regions_of, truth_of}
use Rattle.safety_check.specs.RegionValues.{region_in, Told}
use Rattle.safety_check.specs.Ends.{body_end, pre_end, alternative_end, where_one, chosen_ends}
use Rattle.safety_check.specs.Ends.{ends_by_condition}
use Rattle.safety_check.specs.Ends.{alternatives_ends, ends_of, taken}
use Rattle.safety_check.specs.Properties.{Ended}
use Rattle.safety_check.proofs.RegionLaws.{truth-is}
use Rattle.safety_check.proofs.ExpressionRegions.{value-told}
use Rattle.safety_check.proofs.NameRegions.{typed-vars}
use Rattle.safety_check.proofs.AssignedNames.{call-leaves}
use Rattle.safety_check.proofs.BodyEnds.{Stays, In, After, body-sound, call-in, arguments-go}

module _ (p : Program) (keeps : Keeps p) (callee : Callee) (safe : KeepsForm p callee)
    (below : StaysBelow p callee) (box : ℕ) (c : Cat Ref) (at : cat_of p box ≡ Some c) (q : Proc Ref)
    (Other : State → Type 0) (stays : Stays p callee box (scope_of p.cats c q) Other) where
  -- what a text of the procedure sees
  abbrev scope : Scope
  scope = scope_of p.cats c q

  -- the box and the slots are in the regions of a frame
  abbrev Inside : Frame → State → List Value → Type 0
  Inside frame state slots = In p keeps callee safe below box c at q Other stays frame state slots

  -- the box is as it was
  pub record Untouched (before : State) (after : State) : Type 0 where
    pub vars : vars_of after box ≡ vars_of before box
    pub other : Other after

  -- the box is in the regions of an end
  pub record Reaches (ends : List Frame) (after : State) : Type 0 where
    pub end : Frame
    pub ends_there : Contains ends end
    pub slots : List Value
    pub inside : Inside end after slots

  -- an attempt that goes on leaves the box as it was, or in an end
  abbrev Leaves : List Frame → State → Called → Type 0
  Leaves ends before called = Ended called.outcome → Untouched before called.state ⊎ Reaches ends called.state

  -- the end of a body
  reached : (o : Option Frame) (state : State) (slots : List Value) →
      IsSomeAnd o (λ end. Inside end state slots) → Reaches (where_one o) state
  reached None state slots h = absurd h
  reached (Some end) state slots h = record {
    end = end;
    ends_there = (0, omega arith, refl);
    slots =
        slots;
    inside = h;
  }

  -- a body that was run, whether the attempt is then accepted or rejected
  finished-leaves : (positive : Bool) (f : Finish) (o : Option Frame) (before : State) (ran : Ran) →
      ran.finish ≡ f →
      After p keeps callee safe below box c at q Other stays o ran →
      Leaves (where_one o) before (finished positive q f ran)
  finished-leaves true Done o before ran is h ends = inr (reached o ran.state ran.slots (h is))
  finished-leaves false Done o before ran is h ends = inr (reached o ran.state ran.slots (h is))
  finished-leaves true (Trapped t) o before ran is h ends = absurd ends
  finished-leaves false (Trapped t) o before ran is h ends = absurd ends
  finished-leaves true Spent o before ran is h ends = absurd ends
  finished-leaves false Spent o before ran is h ends = absurd ends

  -- a body that is run
  total-leaves : (positive : Bool) (ts : List (Statement Ref)) → IsTrue (body_fits scope ts) →
      (frame : Frame) (before state : State) (slots : List Value) (budget : ℕ) → Inside frame state slots →
      Leaves (where_one (body_end ts frame)) before
      (finished positive q (body p callee box ts state slots budget).finish
      (body p callee box ts state slots budget))
  total-leaves positive ts fits frame before state slots budget h =
      let ran = body p callee box ts state slots budget in
      finished-leaves positive ran.finish (body_end ts frame) before ran refl
      ((body-sound p keeps callee safe below box c at q Other stays ts fits).by frame state slots budget h)

  -- the chosen alternative
  chosen-leaves : (a : Alternative Ref) → IsTrue (body_fits scope a.body) → (o : Option (Pre Ref)) →
      IsTrue (pre_fits scope o) → (frame : Frame) (state : State) (slots : List Value) (budget : ℕ) →
      Inside frame state slots →
      Leaves (where_one (option_and_then (body_end a.body) (pre_end o frame))) state
      (chosen p callee box q a o state slots budget)
  chosen-leaves a fits None pre_fit frame state slots budget h =
      total-leaves a.positive a.body fits frame state state slots budget h
  chosen-leaves a fits (Some pre) pre_fit frame state slots budget h =
      by (arguments pre.call.args (vars_of state box) slots) refl
    where
      behind : (args : List Value) → arguments pre.call.args (vars_of state box) slots ≡ Ok args →
          (outcome : Outcome) →
          (callee (target_of p box pre.call.target) (method_of pre.call.method) args state
          budget).outcome ≡ outcome →
          Leaves (where_one (body_end a.body (taken pre.bind frame))) state
          (behind_pre p callee box q a pre.bind outcome
          (callee (target_of p box pre.call.target) (method_of pre.call.method) args state budget) slots)
      behind args is O.Accepted e ends =
          let called = callee (target_of p box pre.call.target)
          (method_of pre.call.method) args state budget in
          let ran = bound box pre.bind called.result called.state slots called.budget in
          total-leaves a.positive a.body fits (taken pre.bind frame) state ran.state ran.slots ran.budget
          (call-in p keeps callee safe below box c at q Other stays is_partial pre.bind pre.call pre_fit
          frame args
          state slots budget h is (subst Ended (sym e) tt)) ends
      behind args is O.Rejected e ends =
          let called = callee (target_of p box pre.call.target)
          (method_of pre.call.method) args state budget in
          inl (record {
            vars = call-leaves p keeps callee safe below box c at q is_partial pre.bind pre.call pre_fit
                args state budget;
            other = stays.call is_partial pre.bind pre.call pre_fit args state budget h.formed.state_is
                (λ r named. subst (λ m. IfOk m (λ values. AreOf values (param_kinds r.params))) is
                ((call-matches scope is_partial pre.bind pre.call pre_fit r named).args
                (vars_of state box) slots
                (typed-vars p box c at q state h.formed.state_is) h.formed.slots_are))
                (subst Ended (sym e) tt) h.other;
          })
      behind args is (O.Trapped t) e ends = absurd ends
      behind args is O.Spent e ends = absurd ends

      by : (r : Result (List Value) Trap) → arguments pre.call.args (vars_of state box) slots ≡ r →
          Leaves (where_one (option_and_then (body_end a.body) (pre_end (Some pre) frame))) state
          (pre_called p callee box q a pre r state slots budget)
      by (Err t) is = λ ends. absurd ends
      by (Ok args) is =
          let called = callee (target_of p box pre.call.target)
          (method_of pre.call.method) args state budget in
          subst (λ o. Leaves (where_one (option_and_then (body_end a.body)
          (option_map (taken pre.bind) o))) state
          (pre_called p callee box q a pre (Ok args) state slots budget))
          (sym (arguments-go p keeps callee safe below box c at q Other stays is_partial pre.bind pre.call
          pre_fit
          frame args state slots h is))
          (behind args is called.outcome refl)

  -- one of some ends is one of more of them
  more : (xs ys : List Frame) (before after : State) → (Untouched before after ⊎ Reaches xs after) →
      Untouched before after ⊎ Reaches (xs ++ ys) after
  more xs ys before after (inl h) = inl h
  more xs ys before after (inr h) = inr (record {
    end = h.end;
    ends_there = Contains-append_left xs ys h.end h.ends_there;
    slots = h.slots;
    inside =
        h.inside;
  })

  -- one of later ends is one of all
  further : (xs ys : List Frame) (before after : State) → (Untouched before after ⊎ Reaches ys after) →
      Untouched before after ⊎ Reaches (xs ++ ys) after
  further xs ys before after (inl h) = inl h
  further xs ys before after (inr h) = inr (record {
    end = h.end;
    ends_there = Contains-append_right xs ys h.end h.ends_there;
    slots = h.slots;
    inside =
        h.inside;
  })

  -- the first alternative whose precondition is true
  judged-leaves : (o : Option Region) (ev : Evaluated) → Told o ev →
      (a : Alternative Ref) (own later : List Frame)
      (others : Called) (state : State) (slots : List Value) (budget : ℕ) →
      Leaves own state (chosen p callee box q a a.pre state slots budget) → Leaves later state others →
      Leaves (ends_by_condition o own later) state (judged p callee box q ev a others state slots budget)
  judged-leaves o (Err t) told a own later others state slots budget first rest ends = absurd ends
  judged-leaves None (Ok v) told a own later others state slots budget first rest ends = absurd told
  judged-leaves (Some r) (Ok v) told a own later others state slots budget first rest ends =
      by (truth_of r) (bool_of v) (truth-is r v told) ends
    where
      by : (k : Option Bool) (b : Bool) → IfSome k (λ k. b ≡ k) →
          Leaves (chosen_ends k own later) state (if b then chosen p callee box q a a.pre state slots
          budget else others)
      by (Some true) true e ends = first ends
      by (Some true) false e ends = absurd (true≢false (sym e))
      by (Some false) true e ends = absurd (true≢false e)
      by (Some false) false e ends = rest ends
      by None true e ends =
          more own later state (chosen p callee box q a a.pre state slots budget).state (first ends)
      by None false e ends = further own later state others.state (rest ends)

  -- alternatives, of which the first one is chosen whose precondition is true
  choice-leaves : (alts : List (Alternative Ref)) → IsTrue (alternatives_fit scope alts) →
      (frame : Frame) (state : State) (slots : List Value) (budget : ℕ) → Inside frame state slots →
      Leaves (alternatives_ends alts frame) state (choice p callee box q alts state slots budget)
  choice-leaves [] fits frame state slots budget h = λ ends. inl (record { vars = refl; other = h.other })
  choice-leaves (a ∷ alts) fits frame state slots budget h =
      let one = and-left (alternative_fits scope a) (alternatives_fit scope alts) fits in
      let rest = and-right (alternative_fits scope a) (alternatives_fit scope alts) fits in
      let cond =
      is-of-some K.Bool (kind_in scope a.cond)
      (and-left (is_of K.Bool (kind_in scope a.cond)) (pre_fits scope a.pre && body_fits scope a.body) one) in
      let parts = and-right (is_of K.Bool (kind_in scope a.cond))
      (pre_fits scope a.pre && body_fits scope a.body) one in
      judged-leaves (region_in a.cond frame) (value a.cond (vars_of state box) slots)
      (value-told scope (vars_of state box) slots (regions_of frame)
      (typed-vars p box c at q state h.formed.state_is) h.formed.slots_are h.fit a.cond K.Bool cond)
      a (where_one (alternative_end a frame)) (alternatives_ends alts frame)
      (choice p callee box q alts state slots budget) state slots budget
      (chosen-leaves a (and-right (pre_fits scope a.pre) (body_fits scope a.body) parts) a.pre
      (and-left (pre_fits scope a.pre) (body_fits scope a.body) parts) frame state slots budget h)
      (choice-leaves alts rest frame state slots budget h)

  -- a procedure of any form
  pub performed-leaves : (form : Form Ref) → IsTrue (form_fits scope form) →
      (frame : Frame) (state : State) (slots : List Value) (budget : ℕ) → Inside frame state slots →
      let called = performed p callee box q form state slots budget in
      Ended called.outcome → Untouched state called.state ⊎ Reaches (ends_of form frame) called.state
  performed-leaves (F.Total ts) fits frame state slots budget h =
      total-leaves true ts fits frame state state slots budget h
  performed-leaves (F.Partial alts) fits frame state slots budget h =
      choice-leaves alts (and-right (nat_le (length alts) 16) (alternatives_fit scope alts) fits) frame
      state slots budget h
  performed-leaves (F.Action alts) fits frame state slots budget h =
      choice-leaves alts (and-right (nat_le (length alts) 16) (alternatives_fit scope alts) fits) frame
      state slots budget h
