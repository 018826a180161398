-- The code of a procedure does what the procedure does, whoever waits for it.
use Rattle.std.proofs.Common.{◌≡◌, ℕ, suc, ◌+◌, ◌*◌, ◌≤◌, ℤ, pos, Bool, true, false, ◌&&◌, IsTrue}
use Rattle.std.proofs.Common.{if◌then◌else◌, List, [], ◌∷◌, ◌++◌, length, drop, Option, None, Some, Result}
use Rattle.std.proofs.Common.{Ok, Err, refl, sym, ap, ◌∙◌, subst, arith, append_assoc, zero-le}
use Rattle.std.specs.Prelude.{slice_get, slice_index_or}
use Rattle.std.specs.List.{flat_map}
use Rattle.seuss_base.specs.declared.outcome.Trap.{Trap}
use Rattle.seuss_base.specs.declared.outcome.PassEnd.TheVariants as P
use Rattle.seuss_base.specs.declared.outcome.Outcome.{Outcome}
use Rattle.seuss_base.specs.declared.outcome.Outcome.TheVariants as O
use Rattle.seuss_program.specs.declared.program.Program.{Program}
use Rattle.seuss_program.specs.declared.tree.Ref.{Ref}
use Rattle.seuss_program.specs.declared.tree.Ref.TheVariants as R
use Rattle.seuss_program.specs.declared.tree.Kind.TheVariants as KV
use Rattle.seuss_program.specs.declared.tree.Call.{Call}
use Rattle.seuss_program.specs.declared.tree.Pre.{Pre}
use Rattle.seuss_program.specs.declared.tree.Proc.{Proc}
use Rattle.seuss_program.specs.declared.tree.Form.TheVariants as F
use Rattle.seuss_program.specs.declared.tree.Alternative.{Alternative}
use Rattle.seuss_program.specs.declared.tree.Statement.{Statement}
use Rattle.seuss_program.specs.declared.state.Value.{Value}
use Rattle.seuss_program.specs.declared.state.Value.TheVariants as V
use Rattle.seuss_program.specs.declared.state.State.{State}
use Rattle.seuss_program.specs.Programs.{vars_of, target_of, method_of}
use Rattle.seuss_program.specs.Values.{Evaluated, value, bool_of, int_of}
use Rattle.seuss_program.specs.Bodies.{Finish, Done, Trapped, Spent, Ran, Called, Callee, arguments, bound}
use Rattle.seuss_program.specs.Bodies.{body}
use Rattle.seuss_program.specs.Attempts.{result_of, finished, body_of, behind_pre, pre_called, chosen}
use Rattle.seuss_program.specs.Attempts.{judged, choice, performed}
use Rattle.seuss_program.specs.Keeping.{Scope, body_fits, alternative_fits, alternatives_fit, pre_fits}
use Rattle.seuss_program.specs.Keeping.{call_fits, is_partial, kind_in, is_of}
use Rattle.method_code.specs.declared.instruction.Instruction.{Instruction}
use Rattle.method_code.specs.declared.instruction.Instruction.TheVariants as I
use Rattle.method_code.specs.declared.instruction.Move.TheVariants as M
use Rattle.method_code.specs.declared.method.Head.{Head}
use Rattle.method_code.specs.declared.activation.Waiting.{Waiting}
use Rattle.method_code.specs.Codes.{compiled, number_of, code_of, call_code, given_number, take_code}
use Rattle.method_code.specs.Codes.{early_of, last_code, alternative_code, heads, form_code, method_code}
use Rattle.method_code.specs.Steps as T
use Rattle.method_code.specs.Steps.{acts, leaves, Stepped, result_in, chosen_head, judged_head, called_early}
use Rattle.method_code.specs.Chains.{chain, went_on, rejected, last_of, after_accepted, after_rejected}
use Rattle.method_code.proofs.States.{with_same}
use Rattle.method_code.proofs.Going.{rest_after, after, runs_stop}
use Rattle.method_code.proofs.Following.{Going, over, Leads, Follows, CallFollows, FollowsCalled, Performs}
use Rattle.method_code.proofs.Following.{accepting, rejecting, start, left_at, leads_then, ends_then}
use Rattle.method_code.proofs.Simulation.{from, and_left, and_right}
use Rattle.method_code.proofs.Calling.{accepted_back, last_waits, others_wait, resumes, bound_follows}
use Rattle.method_code.proofs.Statements.{TotalCalls, body_simulates}

-- A call of a preprocedure that fits is of a box that was given, and its procedure does what the
-- callee means, with some steps fewer than are allowed here.
pub record EarlyCalls (p : Program) (callee : Callee) (s : Scope) (box extra : ℕ) : Type 0 where
  pub given : (bind : Option Ref) (call : Call Ref) → IsTrue (call_fits s is_partial bind call) →
      call.target ≡ R.Given (given_number call.target)
  pub performs : (bind : Option Ref) (call : Call Ref) → IsTrue (call_fits s is_partial bind call) →
      (fewer : ℕ) × (fewer + 2 ≤ extra) × Performs p callee false fewer (target_of p box call.target)
      (method_of call.method)

-- the slot of the result
pub result_same : (q : Proc Ref) (slots : List Value) →
    result_in (method_code q).result slots ≡ result_of q slots
result_same q slots = by q.gives
  where
    by : (b : Bool) → result_in (if b then Some (length q.params) else None) slots
        ≡ (if b then Some (int_of (slice_index_or slots (length q.params) (V.Int (pos 0)))) else None)
    by true = refl
    by false = refl

module _ (p : Program) (callee : Callee) (s : Scope) (box : ℕ) (q : Proc Ref) (method : ℕ)
    (ws : List Waiting) (plain : Bool)
    (coded : slice_get (compiled p) method ≡ Some (method_code q)) where
  -- the pass at an instruction of the procedure
  abbrev here_from : ℕ → State → List Value → ℕ → Going
  here_from at σ slots budget = from p box (method_code q) method ws plain at σ slots budget

  -- a body that is done accepts
  returns : (at : ℕ) (rest : List Instruction) (σ : State) (slots : List Value) (budget k : ℕ) →
      drop at (method_code q).instructions ≡ I.Return ∷ rest →
      here_from at σ slots budget k ≡ accepting p box method ws plain (result_of q slots) σ budget k
  returns at rest σ slots budget k h =
      ap (after p (method_code q) method box ws plain k σ)
      (runs_stop (method_code q) method at I.Return rest (vars_of σ box) slots
      (acts (vars_of σ box) slots M.Return) budget h refl tt)
      ∙ (ap (λ τ. accepting p box method ws plain (result_in (method_code q).result slots) τ budget k)
      (with_same σ box)
      ∙ ap (λ r. accepting p box method ws plain r σ budget k) (result_same q slots))

  -- or rejects
  rejects : (at : ℕ) (rest : List Instruction) (σ : State) (slots : List Value) (budget k : ℕ) →
      drop at (method_code q).instructions ≡ I.Reject ∷ rest →
      here_from at σ slots budget k ≡ rejecting p box method ws plain plain σ budget k
  rejects at rest σ slots budget k h =
      ap (after p (method_code q) method box ws plain k σ)
      (runs_stop (method_code q) method at I.Reject rest (vars_of σ box) slots
      (acts (vars_of σ box) slots M.Reject) budget h refl tt)
      ∙ ap (λ τ. rejecting p box method ws plain plain τ budget k) (with_same σ box)

  -- what comes after the body
  body_ends : (total : Bool) (here : Going) (at : ℕ) (rest : List Instruction) (budget allowed : ℕ)
      (σ : State) (slots : List Value) (left : ℕ) (f : Finish) →
      drop at (method_code q).instructions ≡ I.Return ∷ rest →
      Follows here (here_from at) budget allowed σ slots left f →
      FollowsCalled p box method ws plain total here budget allowed
      (finished true q f (record { state = σ; slots = slots; budget = left; finish = f }))
  body_ends total here at rest budget allowed σ slots left Done h a =
      record {
        less = a.less;
        by = λ k. let x = a.by k in
            (x.0, x.1, x.2 ∙ returns at rest σ slots left k h);
      }
  body_ends total here at rest budget allowed σ slots left (Trapped t) h a = a
  body_ends total here at rest budget allowed σ slots left Spent h a = a

  -- an alternative ends as its last instruction says
  alternative_ends : (positive : Bool) (here : Going) (at : ℕ) (rest : List Instruction)
      (budget allowed : ℕ) (σ : State) (slots : List Value) (left : ℕ) (f : Finish) →
      drop at (method_code q).instructions ≡ (if positive then I.Return else I.Reject) ∷ rest →
      Follows here (here_from at) budget allowed σ slots left f →
      FollowsCalled p box method ws plain false here budget allowed
      (finished positive q f (record { state = σ; slots = slots; budget = left; finish = f }))
  alternative_ends true here at rest budget allowed σ slots left f h a =
      body_ends false here at rest budget allowed σ slots left f h a
  alternative_ends false here at rest budget allowed σ slots left Done h a = (
    plain,
    record {
      less = a.less;
      by = λ k. let x = a.by k in
          (x.0, x.1, x.2 ∙ rejects at rest σ slots left k h);
    },
  )
  alternative_ends false here at rest budget allowed σ slots left (Trapped t) h a = a
  alternative_ends false here at rest budget allowed σ slots left Spent h a = a

-- a call is rejected, and the procedure that called goes on
rejected_back : (p : Program) (box method : ℕ) (ws : List Waiting) (w : Waiting) (plain plainly : Bool)
    (σ : State) (left k : ℕ) →
    rejecting p box method (ws ++ w ∷ []) plain plainly σ left k
    ≡ chain p k (record {
      box_number = w.box_number;
      frame = after_rejected w;
      waiting = ws;
      plain =
          plainly;
    }) σ left
rejected_back p box method ws w plain plainly σ left k =
    ap (λ (o : Option Waiting). went_on (rejected (left_at box method (ws ++ w ∷ []) plain) plainly o) σ
    left (chain p k)) (last_waits ws w)
    ∙ ap (λ (l : List Waiting). chain p k
    (record { box_number = w.box_number; frame = after_rejected w; waiting = l; plain = plainly }) σ
    left) (others_wait ws w)

-- whether a plain rejection came before doesn't matter to a rejection that says so itself
rejecting_as : (p : Program) (box method : ℕ) (ws : List Waiting) (x y plainly : Bool) (σ : State)
    (left k : ℕ) →
    rejecting p box method ws x plainly σ left k ≡ rejecting p box method ws y plainly σ left k
rejecting_as p box method ws x y plainly σ left k = by (last_of ws)
  where
    by : (o : Option Waiting) → went_on (rejected (left_at box method ws x) plainly o) σ left (chain p k)
        ≡ went_on (rejected (left_at box method ws y) plainly o) σ left (chain p k)
    by None = refl
    by (Some w) = refl

-- a result is always bound
bound_done : (box : ℕ) (name : Option Ref) (found : Option ℤ) (σ : State) (slots : List Value) (budget : ℕ)
    → (bound box name found σ slots budget).finish ≡ Done
bound_done box (Some (R.Var n)) (Some z) σ slots budget = refl
bound_done box (Some (R.Slot n)) (Some z) σ slots budget = refl
bound_done box (Some (R.Given n)) (Some z) σ slots budget = refl
bound_done box (Some (R.Method n)) (Some z) σ slots budget = refl
bound_done box (Some (R.Cat n)) (Some z) σ slots budget = refl
bound_done box (Some name) None σ slots budget = refl
bound_done box None found σ slots budget = refl

-- what a pass comes to be ends a call so, so it does
called_then : (p : Program) (box method : ℕ) (ws : List Waiting) (plain : Bool) (here mid : Going)
    (budget allowed middle : ℕ) (outcome : Outcome) (found : Option ℤ) (σ : State) (left : ℕ) →
    Leads here mid budget allowed middle → CallFollows p box method ws plain false mid middle (2 * middle)
    outcome found σ left → CallFollows p box method ws plain false here budget allowed outcome found σ
    left
called_then p box method ws plain here mid budget allowed middle O.Accepted found σ left a b =
    leads_then here mid (accepting p box method ws plain found σ left) budget allowed middle left a b
called_then p box method ws plain here mid budget allowed middle O.Rejected found σ left a b =
    (b.0, leads_then here mid (rejecting p box method ws plain b.0 σ left) budget allowed middle left a b.1)
called_then p box method ws plain here mid budget allowed middle (O.Trapped t) found σ left a b =
    ends_then here mid budget allowed middle (over (P.Trapped t) σ left) a b
called_then p box method ws plain here mid budget allowed middle O.Spent found σ left a b =
    ends_then here mid budget allowed middle (over P.Spent σ left) a b

module _ (p : Program) (callee : Callee) (s : Scope) (box : ℕ) (q : Proc Ref) (method : ℕ)
    (ws : List Waiting) (plain : Bool)
    (coded : slice_get (compiled p) method ≡ Some (method_code q)) (calls : TotalCalls p callee s box) where
  -- the pass at a place
  abbrev goes_from : ℕ → State → List Value → ℕ → Going
  goes_from at σ slots budget = from p box (method_code q) method ws plain at σ slots budget

  -- the pass after a step
  abbrev follows_after : State → Stepped → Going
  follows_after σ stepped n = after p (method_code q) method box ws plain n σ stepped

  -- a total method from its entry
  pub total_follows : (ts : List (Statement Ref)) → IsTrue (body_fits s ts) → q.form ≡ F.Total ts →
      (σ : State) (slots : List Value) (budget : ℕ) →
      FollowsCalled p box method ws plain true (goes_from 0 σ slots budget) budget (2 * budget)
      (performed p callee box q (F.Total ts) σ slots budget)
  total_follows ts fits is σ slots budget =
      let ran : Ran = body p callee box ts σ slots budget in
      let h : drop 0 (method_code q).instructions ≡ flat_map code_of ts ++ I.Return ∷ [] = ap form_code is in
      body_ends p callee s box q method ws plain coded true (goes_from 0 σ slots budget)
      (0 + length (flat_map code_of ts)) [] budget (2 * budget) ran.state ran.slots ran.budget
      ran.finish
      (rest_after (method_code q).instructions (flat_map code_of ts) (I.Return ∷ []) 0 h)
      ((body_simulates p callee s box (method_code q) method ws plain coded calls ts fits).by 0
      (I.Return ∷ []) σ slots budget h)

  -- the body of an alternative
  alternative_follows : (alt : Alternative Ref) (at : ℕ) (post : List Instruction) →
      IsTrue (body_fits s alt.body) →
      drop at (method_code q).instructions ≡ (flat_map code_of alt.body ++ last_code alt) ++ post →
      (σ : State) (slots : List Value) (budget : ℕ) →
      FollowsCalled p box method ws plain false (goes_from at σ slots budget) budget (2 * budget)
      (body_of p callee box q alt σ slots budget)
  alternative_follows alt at post fits h σ slots budget =
      let ran : Ran = body p callee box alt.body σ slots budget in
      let h' : drop at (method_code q).instructions ≡ flat_map code_of alt.body ++ (last_code alt ++ post) =
      h ∙ append_assoc (flat_map code_of alt.body) (last_code alt) post in
      alternative_ends p callee s box q method ws plain coded alt.positive (goes_from at σ slots budget)
      (at + length (flat_map code_of alt.body)) post budget (2 * budget) ran.state ran.slots ran.budget
      ran.finish
      (rest_after (method_code q).instructions (flat_map code_of alt.body) (last_code alt ++ post) at h')
      ((body_simulates p callee s box (method_code q) method ws plain coded calls alt.body fits).by at
      (last_code alt ++ post) σ slots budget h')

  module _ (extra : ℕ) (early : EarlyCalls p callee s box extra) (others : List Instruction)
      (first : drop 0 (method_code q).instructions ≡ I.Reject ∷ others) where
    -- this procedure, waiting for its preprocedure
    abbrev waits_early : ℕ → List Value → Waiting
    waits_early at slots = record {
      box_number = box;
      frame = record { method = method; place = at + 2; slots = slots };
      partial =
          true;
    }

    -- what comes after a preprocedure
    after_pre : (alt : Alternative Ref) (name : Option Ref) (at : ℕ) (post : List Instruction)
        (slots : List Value) (fewer budget target number : ℕ) (here there : Going) →
        IsTrue (body_fits s alt.body) → fewer + 2 ≤ extra →
        drop at (method_code q).instructions ≡ I.Take name
        ∷ ((flat_map code_of alt.body ++ last_code alt) ++ post) → ((n : ℕ) → here (suc n) ≡ there n) →
        (outcome : Outcome) (found : Option ℤ) (σ : State) (left : ℕ) →
        CallFollows p target number (ws ++ waits_early at slots ∷ []) plain false there budget
        (2 * budget + fewer) outcome found σ left →
        FollowsCalled p box method ws plain false here budget (2 * budget + extra)
        (behind_pre p callee box q alt name outcome
        (record { outcome = outcome; result = found; state = σ; budget = left }) slots)
    after_pre alt name at post slots fewer budget target number here there fits room h one O.Accepted found
        σ left a =
        let ran : Ran = bound box name found σ slots left in
        let back : Going = λ k. chain p (suc k)
        (record {
          box_number = box;
          frame = after_accepted
              (record { method = method; place = at + 2; slots = slots }) found;
          waiting = ws;
          plain =
              plain;
        }) σ left in
        let lead : Leads here back budget (2 * budget + extra) left = record {
          less = a.less;
          by = λ k.
              let x = a.by (suc k) in (
                suc x.0,
                omega (arith, x.1, room),
                one x.0
                    ∙ (x.2 ∙ accepted_back p target number ws (waits_early at slots) plain found σ left
                    (suc k)),
              );
        } in
        let inside : Follows back (goes_from (at + 1)) left (2 * left) ran.state ran.slots ran.budget Done =
        subst (λ f. Follows back (goes_from (at + 1)) left (2 * left) ran.state ran.slots ran.budget f)
        (bound_done box name found σ slots left)
        (bound_follows p box (method_code q) method ws plain coded at
        ((flat_map code_of alt.body ++ last_code alt) ++ post) σ slots left name found h) in
        let called : Called = body_of p callee box q alt ran.state ran.slots ran.budget in
        called_then p box method ws plain here (goes_from (at + 1) ran.state ran.slots ran.budget) budget
        (2 * budget + extra) ran.budget called.outcome called.result called.state called.budget
        (leads_then here back (goes_from (at + 1) ran.state ran.slots ran.budget) budget
        (2 * budget + extra) left ran.budget lead inside)
        (alternative_follows alt (at + 1) post fits
        (rest_after (method_code q).instructions (I.Take name ∷ [])
        ((flat_map code_of alt.body ++ last_code alt) ++ post) at h) ran.state ran.slots ran.budget)
    after_pre alt name at post slots fewer budget target number here there fits room h one O.Rejected found
        σ left a = (
          a.0,
          record {
            less = a.1.less;
            by = λ k.
                let x = a.1.by (suc k) in (
                  suc x.0,
                  omega (arith, x.1, room),
                  one x.0 ∙ (x.2 ∙ (rejected_back p target number ws (waits_early at slots) plain a.0 σ left
                      (suc k)
                      ∙ (resumes p box (method_code q) method ws a.0 coded 0 σ slots left k
                      ∙ (rejects p callee s box q method ws a.0 coded 0 others σ slots left k first
                      ∙ rejecting_as p box method ws a.0 plain a.0 σ left k)))),
                );
          },
        )
    after_pre alt name at post slots fewer budget target number here there fits room h one (O.Trapped t)
        found σ left a = let x = a.by in record { by = (suc x.0, omega (arith, x.1, room), one x.0 ∙ x.2) }
    after_pre alt name at post slots fewer budget target number here there fits room h one O.Spent found σ
        left a = let x = a.by in record { by = (suc x.0, omega (arith, x.1, room), one x.0 ∙ x.2) }

    -- a preprocedure is called with its arguments
    pre_follows : (alt : Alternative Ref) (pre : Pre Ref) (at : ℕ) (post : List Instruction) →
        IsTrue (body_fits s alt.body) → IsTrue (pre_fits s (Some pre)) →
        drop at (method_code q).instructions ≡ I.Take pre.bind
        ∷ ((flat_map code_of alt.body ++ last_code alt) ++ post) →
        (σ : State) (slots : List Value) (budget : ℕ) →
        (args : Result (List Value) Trap) →
        FollowsCalled p box method ws plain false
        (follows_after σ (called_early method at budget (call_code pre.call) args (vars_of σ box)
        slots)) budget (2 * budget + extra)
        (pre_called p callee box q alt pre args σ slots budget)
    pre_follows alt pre at post fits fitting h σ slots budget (Err t) =
        record { by = (0, zero-le, ap (λ τ. over (P.Trapped t) τ budget) (with_same σ box)) }
    pre_follows alt pre at post fits fitting h σ slots budget (Ok args) =
        let target = target_of p box pre.call.target in
        let number = method_of pre.call.method in
        let good = early.performs pre.bind pre.call fitting in
        let called : Called = callee target number args σ budget in
        let there : Going = λ n. chain p (suc n)
        (start p target number args (ws ++ waits_early at slots ∷ []) plain) σ budget in
        after_pre alt pre.bind at post slots good.0 budget target (number_of p target number)
        (follows_after σ (called_early method at budget (call_code pre.call) (Ok args) (vars_of σ box)
        slots)) there fits good.1 h
        (λ n. ap (λ τ. chain p (suc n)
        (start p (target_of p box (R.Given (given_number pre.call.target))) number args
        (ws ++ waits_early at slots ∷ []) plain) τ budget) (with_same σ box)
        ∙ ap (λ (r : Ref). chain p (suc n)
        (start p (target_of p box r) number args (ws ++ waits_early at slots ∷ []) plain) σ budget)
        (sym (early.given pre.bind pre.call fitting)))
        called.outcome called.result called.state called.budget
        (good.2.by args σ budget (ws ++ waits_early at slots ∷ []) plain)

    -- the chosen alternative
    chosen_follows : (alt : Alternative Ref) (pre : Option (Pre Ref)) (at : ℕ) (post : List Instruction) →
        IsTrue (body_fits s alt.body) → IsTrue (pre_fits s pre) →
        drop at (method_code q).instructions ≡
        (take_code pre ++ (flat_map code_of alt.body ++ last_code alt)) ++ post →
        (σ : State) (slots : List Value) (budget : ℕ) →
        FollowsCalled p box method ws plain false
        (follows_after σ (T.begun (method_code q) method budget at (early_of pre) (vars_of σ box)
        slots)) budget (2 * budget + extra)
        (chosen p callee box q alt pre σ slots budget)
    chosen_follows alt None at post fits fitting h σ slots budget =
        let called : Called = body_of p callee box q alt σ slots budget in
        called_then p box method ws plain (goes_from at σ slots budget) (goes_from at σ slots budget) budget
        (2 * budget + extra) budget called.outcome called.result called.state called.budget
        (record { less = omega arith; by = λ k. (k, omega arith, refl) })
        (alternative_follows alt at post fits h σ slots budget)
    chosen_follows alt (Some pre) at post fits fitting h σ slots budget =
        pre_follows alt pre at post fits fitting h σ slots budget
        (arguments pre.call.args (vars_of σ box) slots)

    -- the alternatives, from the first one on
    pub alternatives_follow : (alts : List (Alternative Ref)) (at : ℕ) → IsTrue (alternatives_fit s alts) →
        drop at (method_code q).instructions ≡ flat_map alternative_code alts →
        (σ : State) (slots : List Value) (budget : ℕ) →
        FollowsCalled p box method ws plain false
        (follows_after σ (T.chosen (method_code q) method budget
        (chosen_head (heads at alts) (vars_of σ box) slots) (vars_of σ box) slots)) budget
        (2 * budget + extra)
        (choice p callee box q alts σ slots budget)
    alternatives_follow [] at fits h σ slots budget = (
      true,
      record {
        less = omega arith;
        by = λ k.
            (k, omega arith, ap (λ τ. rejecting p box method ws plain true τ budget k) (with_same σ box));
      },
    )
    alternatives_follow (alt ∷ alts) at fits h σ slots budget =
        judge (value alt.cond (vars_of σ box) slots)
        (alternatives_follow alts (at + length (alternative_code alt))
        (and_right (alternative_fits s alt) _ fits)
        (rest_after (method_code q).instructions (alternative_code alt) (flat_map alternative_code alts) at
        h) σ slots budget)
      where
        one_fits : IsTrue (alternative_fits s alt)
        one_fits = and_left (alternative_fits s alt) _ fits

        rest_fits : IsTrue (pre_fits s alt.pre && body_fits s alt.body)
        rest_fits = and_right (is_of KV.Bool (kind_in s alt.cond)) _ one_fits

        after_heads : Result (Option Head) Trap → Going
        after_heads heads = follows_after σ
            (T.chosen (method_code q) method budget heads (vars_of σ box) slots)

        others_follow : Type 0
        others_follow = FollowsCalled p box method ws plain false
            (after_heads (chosen_head (heads (at + length (alternative_code alt)) alts) (vars_of σ box)
            slots)) budget (2 * budget + extra)
            (choice p callee box q alts σ slots budget)

        pick : (t : Bool) → others_follow →
            FollowsCalled p box method ws plain false
            (after_heads (if t then Ok
            (Some (record { cond = alt.cond; early = early_of alt.pre; start = at })) else chosen_head
            (heads (at + length (alternative_code alt)) alts) (vars_of σ box) slots))
            budget (2 * budget + extra)
            (if t then chosen p callee box q alt alt.pre σ slots budget else choice p callee box q alts
            σ slots budget)
        pick true o = chosen_follows alt alt.pre at (flat_map alternative_code alts)
            (and_right (pre_fits s alt.pre) _ rest_fits) (and_left (pre_fits s alt.pre) _ rest_fits) h σ
            slots budget
        pick false o = o

        judge : (ev : Evaluated) → others_follow →
            FollowsCalled p box method ws plain false
            (after_heads (judged_head ev (record { cond = alt.cond; early = early_of alt.pre; start = at })
            (chosen_head (heads (at + length (alternative_code alt)) alts) (vars_of σ box) slots)))
            budget (2 * budget + extra)
            (judged p callee box q ev alt (choice p callee box q alts σ slots budget) σ slots budget)
        judge (Err t) o = record
            { by = (0, zero-le, ap (λ τ. over (P.Trapped t) τ budget) (with_same σ box)) }
        judge (Ok v) o = pick (bool_of v) o
