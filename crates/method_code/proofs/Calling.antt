-- A call, and the way back from it.
use Rattle.std.proofs.Common.{◌≡◌, ℕ, zero, suc, ◌+◌, ◌-◌, ◌*◌, ◌<◌, ℤ, Bool, true, false, List, [], ◌∷◌}
use Rattle.std.proofs.Common.{◌++◌, length, take, drop, Option, None, Some, Result, Ok, Err, refl, sym, ap}
use Rattle.std.proofs.Common.{◌∙◌, subst, arith, length-append, zero-le}
use Rattle.std.proofs.lemmas.List.{get_or_push}
use Rattle.std.proofs.lemmas.Option.{slice_get-get_or}
use Rattle.std.specs.Prelude.{slice_get}
use Rattle.seuss_base.specs.declared.outcome.Trap.{Trap}
use Rattle.seuss_base.specs.declared.outcome.PassEnd.TheVariants as P
use Rattle.seuss_base.specs.declared.outcome.Outcome.{Outcome}
use Rattle.seuss_base.specs.declared.outcome.Outcome.TheVariants as O
use Rattle.seuss_program.specs.declared.program.Program.{Program}
use Rattle.seuss_program.specs.declared.tree.Ref.{Ref}
use Rattle.seuss_program.specs.declared.tree.Ref.TheVariants as R
use Rattle.seuss_program.specs.declared.tree.Call.{Call}
use Rattle.seuss_program.specs.declared.state.Value.{Value}
use Rattle.seuss_program.specs.declared.state.Value.TheVariants as V
use Rattle.seuss_program.specs.declared.state.State.{State}
use Rattle.seuss_program.specs.Programs.{vars_of, target_of, method_of}
use Rattle.seuss_program.specs.Bodies.{Ran, Called, Callee, arguments, bound, returned, call_with}
use Rattle.method_code.specs.declared.instruction.Instruction.{Instruction}
use Rattle.method_code.specs.declared.instruction.Instruction.TheVariants as I
use Rattle.method_code.specs.declared.instruction.Move.TheVariants as M
use Rattle.method_code.specs.declared.method.Method.{Method}
use Rattle.method_code.specs.declared.frame.Frame.{Frame}
use Rattle.method_code.specs.declared.activation.Waiting.{Waiting}
use Rattle.method_code.specs.declared.activation.Activation.{Activation}
use Rattle.method_code.specs.Codes.{compiled, number_of, call_code, given_number}
use Rattle.method_code.specs.Steps.{acts, acted, put, called_with, step_in}
use Rattle.method_code.specs.Chains.{chain, went_on, after_accepted, accepted, last_of, all_but_last}
use Rattle.method_code.proofs.States.{with_same}
use Rattle.method_code.proofs.Going.{rest_after, after, go_trap, runs_stop}
use Rattle.method_code.proofs.Following.{Going, over, Leads, FollowsRan, CallFollows, Performs, accepting}
use Rattle.method_code.proofs.Following.{start, left_at, leads_as, follows_as, follows_then}
use Rattle.method_code.proofs.Simulation.{from, Simulates, put_follows, next, last_is, before_last}

-- who has waited last
pub last_waits : (ws : List Waiting) (w : Waiting) → last_of (ws ++ w ∷ []) ≡ Some w
last_waits ws w =
    let n : length ws ≡ length (ws ++ w ∷ []) - 1 = omega (arith, length-append ws (w ∷ [])) in
    let within : length (ws ++ w ∷ []) - 1 < length (ws ++ w ∷ []) =
    omega (arith, length-append ws (w ∷ [])) in
    slice_get-get_or (ws ++ w ∷ []) (length (ws ++ w ∷ []) - 1) w within
    ∙ ap Some (get_or_push ws w w (length (ws ++ w ∷ []) - 1) n)

-- those before the last one that waits
pub others_wait : (ws : List Waiting) (w : Waiting) → all_but_last (ws ++ w ∷ []) ≡ ws
others_wait ws w =
    let n : length (ws ++ w ∷ []) - 1 ≡ length ws = omega (arith, length-append ws (w ∷ [])) in
    ap (λ k. take k (ws ++ w ∷ [])) n ∙ front ws w
  where
    front : (ws : List Waiting) (w : Waiting) → take (length ws) (ws ++ w ∷ []) ≡ ws
    front [] w = refl
    front (x ∷ ws) w = ap (λ l. x ∷ l) (front ws w)

-- a call is accepted, and the procedure that called goes on
pub accepted_back : (p : Program) (box method : ℕ) (ws : List Waiting) (w : Waiting) (plain : Bool)
    (found : Option ℤ) (σ : State) (left k : ℕ) →
    accepting p box method (ws ++ w ∷ []) plain found σ left k
    ≡ chain p k (record {
      box_number = w.box_number;
      frame = after_accepted w.frame found;
      waiting = ws;
      plain = plain;
    }) σ left
accepted_back p box method ws w plain found σ left k =
    ap (λ (o : Option Waiting). went_on (accepted (left_at box method (ws ++ w ∷ []) plain) found o) σ left
    (chain p k)) (last_waits ws w)
    ∙ ap (λ (l : List Waiting). chain p k
    (record {
      box_number = w.box_number;
      frame = after_accepted w.frame found;
      waiting = l;
      plain =
          plain;
    }) σ left) (others_wait ws w)

module _ (p : Program) (box : ℕ) (m : Method) (method : ℕ) (ws : List Waiting) (plain : Bool)
    (coded : slice_get (compiled p) method ≡ Some m) where
  -- the activation of this procedure at a place
  abbrev pub at_place : ℕ → List Value → Activation
  at_place place slots = record {
    box_number = box;
    frame = record { method = method; place = place; slots = slots };
    waiting = ws;
    plain = plain;
  }

  -- a step from an instruction
  pub resumes : (at : ℕ) (σ : State) (slots : List Value) (budget k : ℕ) →
      chain p (suc k) (at_place (suc at) slots) σ budget ≡ from p box m method ws plain at σ slots budget k
  resumes at σ slots budget k =
      ap (λ (o : Option Method). after p m method box ws plain k σ
      (step_in o (record { method = method; place = suc at; slots = slots }) budget (vars_of σ box)))
      coded

  -- the same frame with another place
  abbrev waiting_frame : ℕ → List Value → Frame
  waiting_frame place slots = record { method = method; place = place; slots = slots }

  -- the pass in which the caller goes on
  abbrev pub resumed_at : Frame → Activation
  resumed_at frame = record { box_number = box; frame = frame; waiting = ws; plain = plain }

  -- the result of an accepted call is bound
  pub bound_follows : (at : ℕ) (rest : List Instruction) (σ : State) (slots : List Value) (budget : ℕ)
      (name : Option Ref) (found : Option ℤ) → drop at m.instructions ≡ I.Take name ∷ rest →
      FollowsRan (λ k. chain p (suc k) (resumed_at (after_accepted (waiting_frame (at + 2) slots) found)) σ
      budget) (from p box m method ws plain (at + 1)) budget (2 * budget)
      (bound box name found σ slots budget)
  bound_follows at rest σ slots budget name found h = by name found h
    where
      -- after the instruction that takes a result
      passed : (k : ℕ) → chain p (suc k) (at_place (at + 2) slots) σ budget
          ≡ from p box m method ws plain (at + 1) σ slots budget k
      passed k = let e : at + 2 ≡ suc (at + 1) = omega arith in
          ap (λ n. chain p (suc k) (at_place n slots) σ budget) e ∙ resumes (at + 1) σ slots budget k

      -- at that instruction
      taking : (z : ℤ) (k : ℕ) → chain p (suc k) (at_place (at + 2 - 1) (slots ++ V.Int z ∷ [])) σ budget
          ≡ from p box m method ws plain at σ (slots ++ V.Int z ∷ []) budget k
      taking z k = let e : at + 2 - 1 ≡ suc at = omega arith in
          ap (λ n. chain p (suc k) (at_place n (slots ++ V.Int z ∷ [])) σ budget) e
          ∙ resumes at σ (slots ++ V.Int z ∷ []) budget k

      by : (name : Option Ref) (found : Option ℤ) → drop at m.instructions ≡ I.Take name ∷ rest →
          FollowsRan (λ k. chain p (suc k)
          (resumed_at (after_accepted (waiting_frame (at + 2) slots) found)) σ budget)
          (from p box m method ws plain (at + 1)) budget (2 * budget)
          (bound box name found σ slots budget)
      by (Some name) (Some z) h =
          let here : Going = λ k. chain p (suc k) (at_place (at + 2 - 1) (slots ++ V.Int z ∷ [])) σ budget in
          let ran : Ran = bound box (Some name) (Some z) σ slots budget in
          let does : acted (I.Take (Some name)) (vars_of σ box) (slots ++ V.Int z ∷ [])
          ≡ put name (V.Int z) (vars_of σ box) slots =
          ap (λ x. put name (V.Int x) (vars_of σ box)
          (take (length (slots ++ V.Int z ∷ []) - 1) (slots ++ V.Int z ∷ []))) (last_is slots z)
          ∙ ap (put name (V.Int z) (vars_of σ box)) (before_last slots (V.Int z)) in
          follows_as here (from p box m method ws plain at σ (slots ++ V.Int z ∷ []) budget)
          (from p box m method ws plain (at + 1)) (from p box m method ws plain (at + 1)) budget
          (2 * budget) ran.state ran.slots ran.budget ran.finish
          (taking z) (λ n. refl)
          (put_follows p box m method ws plain at (I.Take (Some name)) rest σ (slots ++ V.Int z ∷ [])
          slots budget name (V.Int z) h does)
      by (Some name) None h = leads_as (λ k. chain p (suc k) (at_place (at + 2) slots) σ budget)
          (from p box m method ws plain (at + 1) σ slots budget) budget passed
      by None (Some z) h =
          let does : acted (I.Take None) (vars_of σ box) (slots ++ V.Int z ∷ [])
          ≡ acts (vars_of σ box) slots (M.On 0) =
          ap (λ ss. acts (vars_of σ box) ss (M.On 0)) (before_last slots (V.Int z)) in
          leads_as (λ k. chain p (suc k) (at_place (at + 2 - 1) (slots ++ V.Int z ∷ [])) σ budget)
          (from p box m method ws plain (at + 1) σ slots budget) budget
          (λ k. taking z k ∙ next p box m method ws plain at (I.Take None) rest σ σ
          (slots ++ V.Int z ∷ []) slots budget k h does (λ vs. refl))
      by None None h = leads_as (λ k. chain p (suc k) (at_place (at + 2) slots) σ budget)
          (from p box m method ws plain (at + 1) σ slots budget) budget passed

  -- a call of a total method that is paid for
  module _ (callee : Callee) (bind : Option Ref) (call : Call Ref)
      (given : call.target ≡ R.Given (given_number call.target))
      (performs : Performs p callee true 0 (target_of p box call.target) (method_of call.method)) where
    -- this procedure, waiting
    abbrev waits_here : ℕ → List Value → Waiting
    waits_here at slots = record
        { box_number = box; frame = waiting_frame (at + 1 + 2) slots; partial = false }

    -- what comes after the call has ended
    after_call : (at : ℕ) (post : List Instruction) (slots : List Value) (budget : ℕ) (here there : Going) →
        drop at m.instructions ≡ I.Call (call_code call) ∷ I.Take bind ∷ post →
        ((n : ℕ) → here (suc n) ≡ there n) →
        (outcome : Outcome) (found : Option ℤ) (σ : State) (left : ℕ) →
        CallFollows p (target_of p box call.target)
        (number_of p (target_of p box call.target) (method_of call.method))
        (ws ++ waits_here at slots ∷ []) plain true there budget (2 * budget + 0) outcome found σ left →
        FollowsRan here (from p box m method ws plain (at + 2)) (suc budget) (2 * suc budget)
        (returned p callee box outcome bind
        (record { outcome = outcome; result = found; state = σ; budget = left }) slots)
    after_call at post slots budget here there h one O.Accepted found σ left a =
        let ran : Ran = bound box bind found σ slots left in
        let e : at + 1 + 1 ≡ at + 2 = omega arith in
        let back : Going = λ k. chain p (suc k)
        (resumed_at (after_accepted (waiting_frame (at + 1 + 2) slots) found)) σ left in
        let lead : Leads here back (suc budget) (2 * suc budget) left = record {
          less = omega (arith, a.less);
          by = λ k.
              let x = a.by (suc k) in (
                suc x.0,
                omega (arith, x.1),
                one x.0
                    ∙ (x.2 ∙ accepted_back p (target_of p box call.target)
                    (number_of p (target_of p box call.target) (method_of call.method)) ws
                    (waits_here at slots) plain found σ left (suc k)),
              );
        } in
        subst (λ n. FollowsRan here (from p box m method ws plain n) (suc budget) (2 * suc budget) ran) e
        (follows_then here back (from p box m method ws plain (at + 1 + 1)) (suc budget) (2 * suc budget)
        left ran.state ran.slots ran.budget ran.finish lead
        (bound_follows (at + 1) post σ slots left bind found
        (rest_after m.instructions (I.Call (call_code call) ∷ []) (I.Take bind ∷ post) at h)))
    after_call at post slots budget here there h one O.Rejected found σ left a = absurd a
    after_call at post slots budget here there h one (O.Trapped t) found σ left a = let x = a.by in
        record { by = (suc x.0, omega (arith, x.1), one x.0 ∙ x.2) }
    after_call at post slots budget here there h one O.Spent found σ left a = let x = a.by in
        record { by = (suc x.0, omega (arith, x.1), one x.0 ∙ x.2) }

    -- a call follows its meaning, by the values of its arguments
    call_follows : (at : ℕ) (post : List Instruction) (σ : State) (slots : List Value) (budget : ℕ) →
        drop at m.instructions ≡ I.Call (call_code call) ∷ I.Take bind ∷ post →
        (args : Result (List Value) Trap) → arguments call.args (vars_of σ box) slots ≡ args →
        FollowsRan (from p box m method ws plain at σ slots budget) (from p box m method ws plain (at + 2))
        budget (2 * budget) (call_with p callee box bind call args σ slots budget)
    call_follows at post σ slots budget h (Err t) is =
        record {
          by = (
            0,
            zero-le,
            go_trap p m method box ws plain at (I.Call (call_code call))
                (I.Take bind ∷ post) σ slots t budget 0 h
                (ap (λ r. acts (vars_of σ box) slots (called_with (call_code call) r)) is),
          );
        }
    call_follows at post σ slots zero h (Ok args) is =
        record {
          by = (
            0,
            zero-le,
            ap (after p m method box ws plain 0 σ)
                (runs_stop m method at (I.Call (call_code call)) (I.Take bind ∷ post) (vars_of σ box) slots
                _ 0 h (ap (λ r. acts (vars_of σ box) slots (called_with (call_code call) r)) is) tt)
                ∙ ap (λ τ. over P.Spent τ 0) (with_same σ box),
          );
        }
    call_follows at post σ slots (suc budget) h (Ok args) is =
        let target = target_of p box call.target in
        let called : Called = callee target (method_of call.method) args σ budget in
        let there : Going = λ n. chain p (suc n)
        (start p target (method_of call.method) args (ws ++ waits_here at slots ∷ []) plain) σ budget in
        after_call at post slots budget (from p box m method ws plain at σ slots (suc budget)) there h
        (λ n. ap (after p m method box ws plain (suc n) σ)
        (runs_stop m method at (I.Call (call_code call)) (I.Take bind ∷ post) (vars_of σ box) slots _
        (suc budget) h (ap (λ r. acts (vars_of σ box) slots (called_with (call_code call) r)) is) tt)
        ∙ (ap (λ τ. chain p (suc n)
        (start p (target_of p box (R.Given (given_number call.target))) (method_of call.method) args
        (ws ++ waits_here at slots ∷ []) plain) τ budget) (with_same σ box)
        ∙ ap (λ (r : Ref). chain p (suc n)
        (start p (target_of p box r) (method_of call.method) args (ws ++ waits_here at slots ∷ [])
        plain) σ budget) (sym given)))
        called.outcome called.result called.state called.budget
        (performs.by args σ budget (ws ++ waits_here at slots ∷ []) plain)

    -- the code of a call simulates the call
    pub call_simulates : Simulates p box m method ws plain (I.Call (call_code call) ∷ I.Take bind ∷ [])
        (λ σ slots budget. call_with p callee box bind call (arguments call.args (vars_of σ box) slots) σ
        slots budget)
    call_simulates = record {
      by = λ at post σ slots budget h. call_follows at post σ slots budget h
          (arguments call.args (vars_of σ box) slots) refl;
    }
