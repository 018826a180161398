-- The code of statements does what the statements mean.
use Rattle.std.proofs.Common.{◌≡◌, ℕ, zero, suc, ◌+◌, ◌-◌, ◌*◌, ◌≤◌, ℤ, pos, Bool, true, false, ◌&&◌}
use Rattle.std.proofs.Common.{if◌then◌else◌, IsTrue, List, [], ◌∷◌, ◌++◌, length, take, drop, map, Ok, Err}
use Rattle.std.proofs.Common.{refl, sym, ap, ◌∙◌, subst, arith, append_assoc, length-append, zero-le}
use Rattle.std.proofs.Common.{true≢false}
use Rattle.std.proofs.lemmas.List.{get_or_push}
use Rattle.std.specs.Prelude.{slice_set}
use Rattle.seuss_base.specs.declared.outcome.PassEnd.TheVariants as P
use Rattle.seuss_program.specs.declared.program.Program.{Program}
use Rattle.seuss_program.specs.declared.tree.Ref.{Ref}
use Rattle.seuss_program.specs.declared.tree.Ref.TheVariants as R
use Rattle.seuss_program.specs.declared.tree.Expr.{Expr}
use Rattle.seuss_program.specs.declared.state.Value.{Value}
use Rattle.seuss_program.specs.declared.state.Value.TheVariants as V
use Rattle.seuss_program.specs.declared.state.State.{State}
use Rattle.seuss_program.specs.Programs.{vars_of, with_var}
use Rattle.seuss_program.specs.Values.{Evaluated, value, bool_of, int_of}
use Rattle.seuss_program.specs.Keeping.{all_true}
use Rattle.seuss_program.specs.Bodies.{Ran, Meaning, resumed, in_turn, assigned, evaluated_into, branched}
use Rattle.seuss_program.specs.Bodies.{looped, paid_turn, spend, stay}
use Rattle.method_code.specs.declared.instruction.Instruction.{Instruction}
use Rattle.method_code.specs.declared.instruction.Instruction.TheVariants as I
use Rattle.method_code.specs.declared.instruction.Move.TheVariants as M
use Rattle.method_code.specs.declared.method.Method.{Method}
use Rattle.method_code.specs.declared.activation.Waiting.{Waiting}
use Rattle.method_code.specs.Codes.{joined, if_code, while_code}
use Rattle.method_code.specs.Steps.{acts, acted, put, put_value, decided, last_number, all_but_last}
use Rattle.method_code.specs.Chains.{with_vars}
use Rattle.method_code.proofs.States.{with_same, with_twice, vars_with_var}
use Rattle.method_code.proofs.Going.{rest_after, after, go, go_on, go_trap, runs_stop}
use Rattle.method_code.proofs.Following.{Going, over, FollowsRan, leads_as, follows_as, follows_paid}
use Rattle.method_code.proofs.Following.{in_order}

-- the last slot
pub last_is : (slots : List Value) (z : ℤ) → last_number (slots ++ V.Int z ∷ []) ≡ z
last_is slots z =
    let n : length slots ≡ length (slots ++ V.Int z ∷ []) - 1 =
    omega (arith, length-append slots (V.Int z ∷ [])) in
    ap int_of (get_or_push slots (V.Int z) (V.Int (pos 0)) (length (slots ++ V.Int z ∷ []) - 1) n)

-- the slots before the last one
pub before_last : (slots : List Value) (v : Value) → all_but_last (slots ++ v ∷ []) ≡ slots
before_last slots v =
    let n : length (slots ++ v ∷ []) - 1 ≡ length slots = omega (arith, length-append slots (v ∷ [])) in
    ap (λ k. take k (slots ++ v ∷ [])) n ∙ front slots v
  where
    front : (slots : List Value) (v : Value) → take (length slots) (slots ++ v ∷ []) ≡ slots
    front [] v = refl
    front (s ∷ slots) v = ap (λ vs. s ∷ vs) (front slots v)

-- the first of two tests
pub and_left : (a b : Bool) → IsTrue (a && b) → IsTrue a
and_left true b h = refl
and_left false b h = h

-- the second of two tests
pub and_right : (a b : Bool) → IsTrue (a && b) → IsTrue b
and_right true b h = h
and_right false b h = absurd (true≢false (sym h))

module _ (p : Program) (box : ℕ) (m : Method) (method : ℕ) (ws : List Waiting) (plain : Bool) where
  -- a step that goes on from an instruction
  abbrev pub from : ℕ → State → List Value → ℕ → Going
  from at σ slots budget n = go p m method box ws plain n at σ slots budget

  -- the next instruction comes in a state in which only this box may have changed
  pub next : (at : ℕ) (i : Instruction) (rest : List Instruction) (σ σ' : State) (slots slots' : List Value)
      (budget n : ℕ) →
      drop at m.instructions ≡ i ∷ rest → acted i (vars_of σ box) slots
      ≡ acts (vars_of σ' box) slots' (M.On 0) →
      ((vs : List Value) → with_vars σ box vs ≡ with_vars σ' box vs) →
      from at σ slots budget n ≡ from (at + 1) σ' slots' budget n
  next at i rest σ σ' slots slots' budget n h does same =
      let e : at + 1 + 0 ≡ at + 1 = omega arith in
      go_on p m method box ws plain at i rest σ σ' slots slots' 0 budget n h does zero-le same
      ∙ ap (λ k. from k σ' slots' budget n) e

  -- a name takes a value
  pub put_follows : (at : ℕ) (i : Instruction) (rest : List Instruction) (σ : State)
      (slots slots' : List Value) (budget : ℕ) (name : Ref) (v : Value) →
      drop at m.instructions ≡ i ∷ rest → acted i (vars_of σ box) slots ≡ put name v (vars_of σ box) slots' →
      FollowsRan (from at σ slots budget) (from (at + 1)) budget (2 * budget)
      (assigned box name v σ slots' budget)
  put_follows at i rest σ slots slots' budget (R.Var k) v h does =
      leads_as _ _ budget (λ n. next at i rest σ (with_var σ box k v) slots slots' budget n h
      (does ∙ ap (λ vs. acts vs slots' (M.On 0)) (sym (vars_with_var σ box k v)))
      (λ vs. sym (with_twice σ box (slice_set (vars_of σ box) k v) vs)))
  put_follows at i rest σ slots slots' budget (R.Slot k) v h does =
      leads_as _ _ budget (λ n. next at i rest σ σ slots (slice_set slots' k v) budget n h does
      (λ vs. refl))
  put_follows at i rest σ slots slots' budget (R.Given k) v h does =
      leads_as _ _ budget (λ n. next at i rest σ σ slots slots' budget n h does (λ vs. refl))
  put_follows at i rest σ slots slots' budget (R.Method k) v h does =
      leads_as _ _ budget (λ n. next at i rest σ σ slots slots' budget n h does (λ vs. refl))
  put_follows at i rest σ slots slots' budget (R.Cat k) v h does =
      leads_as _ _ budget (λ n. next at i rest σ σ slots slots' budget n h does (λ vs. refl))

  -- a name takes the value of an expression
  set_follows : (at : ℕ) (rest : List Instruction) (σ : State) (slots : List Value) (budget : ℕ)
      (name : Ref) (e : Expr Ref) (ev : Evaluated) →
      drop at m.instructions ≡ I.Set name e ∷ rest → value e (vars_of σ box) slots ≡ ev →
      FollowsRan (from at σ slots budget) (from (at + 1)) budget (2 * budget)
      (evaluated_into box name ev σ slots budget)
  set_follows at rest σ slots budget name e (Err t) h is =
      record {
        by = (
          0,
          zero-le,
          go_trap p m method box ws plain at _ rest σ slots t budget 0 h
              (ap (λ ev. put_value name ev (vars_of σ box) slots) is),
        );
      }
  set_follows at rest σ slots budget name e (Ok v) h is =
      put_follows at (I.Set name e) rest σ slots slots budget name v h
      (ap (λ ev. put_value name ev (vars_of σ box) slots) is)

  -- this code does what is meant, wherever it stands
  pub record Simulates (code : List Instruction) (meaning : Meaning) : Type 0 where
    pub by : (at : ℕ) (post : List Instruction) (σ : State) (slots : List Value) (budget : ℕ) →
        drop at m.instructions ≡ code ++ post →
        FollowsRan (from at σ slots budget) (from (at + length code)) budget (2 * budget)
        (meaning σ slots budget)

  -- the code of an assignment simulates it
  pub set_simulates : (name : Ref) (e : Expr Ref) →
      Simulates (I.Set name e ∷ [])
      (λ σ slots budget. evaluated_into box name (value e (vars_of σ box) slots) σ slots budget)
  set_simulates name e = record {
    by = λ at post σ slots budget h. set_follows at post σ slots budget name e
        (value e (vars_of σ box) slots) h refl;
  }

  -- no code simulates nothing
  pub none_simulates : Simulates [] stay
  none_simulates = record {
    by = λ at post σ slots budget h. leads_as _ _ budget
        (λ n. let e : at ≡ at + 0 = omega arith in ap (λ k. from k σ slots budget n) e);
  }

  -- code that stands after other code
  pub then_simulates : (front back : List Instruction) (first second : Meaning) → Simulates front first →
      Simulates back second →
      Simulates (front ++ back)
      (λ σ slots budget. resumed (first σ slots budget).finish (first σ slots budget) second)
  then_simulates front back first second a b = record {
    by = λ at post σ slots budget h.
        let h' : drop at m.instructions ≡ front ++ (back ++ post) = h ∙ append_assoc front back post in
        let len : at + length front + length back ≡ at + length (front ++ back) =
        omega (arith, length-append front back) in
        let ran : Ran = first σ slots budget in
        subst (λ k. FollowsRan (from at σ slots budget) (from k) budget (2 * budget)
        (resumed ran.finish ran second)) len
        (in_order _ (from (at + length front)) (from (at + length front + length back)) budget (2 * budget)
        ran.state ran.slots ran.budget ran.finish second (a.by at (back ++ post) σ slots budget h')
        (λ τ ss left less. b.by (at + length front) post τ ss left
        (rest_after m.instructions front (back ++ post) at h')));
  }

  -- code after code, of parts that pass a test
  pub all_simulate : {X : Type 0} (code : X → List Instruction) (meaning : X → Meaning) (test : X → Bool) →
      ((x : X) → IsTrue (test x) → Simulates (code x) (meaning x)) →
      (xs : List X) → IsTrue (all_true (map test xs)) →
      Simulates (joined (map code xs)) (in_turn (map meaning xs))
  all_simulate code meaning test each [] ok = none_simulates
  all_simulate code meaning test each (x ∷ xs) ok =
      then_simulates (code x) (joined (map code xs)) (meaning x) (in_turn (map meaning xs))
      (each x (and_left (test x) _ ok))
      (all_simulate code meaning test each xs (and_right (test x) _ ok))

  -- the branch that a condition chooses
  if_follows : (cond : Expr Ref) (holds fails : List Instruction) (mh mf : Meaning) → Simulates holds mh →
      Simulates fails mf →
      (at : ℕ) (post : List Instruction) (σ : State) (slots : List Value) (budget : ℕ) →
      drop at m.instructions ≡ if_code cond holds fails ++ post →
      (ev : Evaluated) → value cond (vars_of σ box) slots ≡ ev →
      FollowsRan (from at σ slots budget) (from (at + length (if_code cond holds fails))) budget
      (2 * budget) (branched ev mh mf σ slots budget)
  if_follows cond holds fails mh mf a b at post σ slots budget h = choose
    where
      inner : List Instruction
      inner = I.Skip (length fails) ∷ (fails ++ post)

      h' : drop at m.instructions ≡ I.SkipUnless cond (length holds + 1) ∷ (holds ++ inner)
      h' = h ∙ ap (λ is. I.SkipUnless cond (length holds + 1) ∷ is)
          (append_assoc holds (I.Skip (length fails) ∷ fails) post)

      rest : drop (at + 1) m.instructions ≡ holds ++ inner
      rest = rest_after m.instructions (I.SkipUnless cond (length holds + 1) ∷ []) (holds ++ inner) at h'

      jump : drop (at + 1 + length holds) m.instructions ≡ inner
      jump = rest_after m.instructions holds inner (at + 1) rest

      other : drop (at + 1 + (length holds + 1)) m.instructions ≡ fails ++ post
      other = let e : at + 1 + length holds + 1 ≡ at + 1 + (length holds + 1) = omega arith in
          ap (λ k. drop k m.instructions) (sym e)
          ∙ rest_after m.instructions (I.Skip (length fails) ∷ []) (fails ++ post) (at + 1 + length holds)
          jump

      size : length (if_code cond holds fails) ≡ length holds + (length fails + 1) + 1
      size = omega (arith, length-append holds (I.Skip (length fails) ∷ fails))

      take_one : (v : Value) (t : Bool) → value cond (vars_of σ box) slots ≡ Ok v → bool_of v ≡ t →
          FollowsRan (from at σ slots budget) (from (at + length (if_code cond holds fails))) budget
          (2 * budget) (if t then mh σ slots budget else mf σ slots budget)
      take_one v true is t =
          let ran : Ran = mh σ slots budget in
          let over_there : (τ : State) (ss : List Value) (left n : ℕ) →
          from (at + 1 + length holds) τ ss left n
          ≡ from (at + length (if_code cond holds fails)) τ ss left n =
          λ τ ss left n.
          let e : at + 1 + length holds + 1 + length fails ≡ at + length (if_code cond holds fails) =
          omega (arith, size) in
          go_on p m method box ws plain (at + 1 + length holds) (I.Skip (length fails)) (fails ++ post) τ τ
          ss ss (length fails) left n jump refl (omega (arith, length-append fails post)) (λ vs. refl)
          ∙ ap (λ k. from k τ ss left n) e in
          follows_as (from at σ slots budget) (from (at + 1) σ slots budget)
          (from (at + length (if_code cond holds fails))) (from (at + 1 + length holds)) budget
          (2 * budget) ran.state ran.slots ran.budget ran.finish
          (λ n. next at (I.SkipUnless cond (length holds + 1)) (holds ++ inner) σ σ slots slots budget n h'
          (ap (λ ev. acts (vars_of σ box) slots (decided ev (M.On 0) (M.On (length holds + 1)))) is
          ∙ ap (λ t. acts (vars_of σ box) slots (if t then M.On 0 else M.On (length holds + 1))) t)
          (λ vs. refl))
          (λ n. over_there ran.state ran.slots ran.budget n)
          (a.by (at + 1) inner σ slots budget rest)
      take_one v false is t =
          let ran : Ran = mf σ slots budget in
          let e : at + 1 + (length holds + 1) + length fails ≡ at + length (if_code cond holds fails) =
          omega (arith, size) in
          let within : length holds + 1 ≤ length (holds ++ inner) =
          omega (arith, length-append holds inner) in
          follows_as (from at σ slots budget) (from (at + 1 + (length holds + 1)) σ slots budget)
          (from (at + length (if_code cond holds fails)))
          (from (at + 1 + (length holds + 1) + length fails)) budget (2 * budget) ran.state ran.slots
          ran.budget ran.finish
          (λ n. go_on p m method box ws plain at (I.SkipUnless cond (length holds + 1)) (holds ++ inner) σ σ
          slots slots (length holds + 1) budget n h'
          (ap (λ ev. acts (vars_of σ box) slots (decided ev (M.On 0) (M.On (length holds + 1)))) is
          ∙ ap (λ t. acts (vars_of σ box) slots (if t then M.On 0 else M.On (length holds + 1))) t)
          within (λ vs. refl))
          (λ n. ap (λ k. from k ran.state ran.slots ran.budget n) e)
          (b.by (at + 1 + (length holds + 1)) post σ slots budget other)

      choose : (ev : Evaluated) → value cond (vars_of σ box) slots ≡ ev →
          FollowsRan (from at σ slots budget) (from (at + length (if_code cond holds fails))) budget
          (2 * budget) (branched ev mh mf σ slots budget)
      choose (Err t) is =
          record {
            by = (
              0,
              zero-le,
              go_trap p m method box ws plain at
                  (I.SkipUnless cond (length holds + 1)) (holds ++ inner) σ slots t budget 0 h'
                  (ap (λ ev. acts (vars_of σ box) slots (decided ev (M.On 0) (M.On (length holds + 1)))) is),
            );
          }
      choose (Ok v) is = take_one v (bool_of v) is refl

  -- the code of a choice simulates it
  pub if_simulates : (cond : Expr Ref) (holds fails : List Instruction) (mh mf : Meaning) →
      Simulates holds mh → Simulates fails mf →
      Simulates (if_code cond holds fails)
      (λ σ slots budget. branched (value cond (vars_of σ box) slots) mh mf σ slots budget)
  if_simulates cond holds fails mh mf a b = record {
    by = λ at post σ slots budget h. if_follows cond holds fails mh mf a b at post σ slots budget h
        (value cond (vars_of σ box) slots) refl;
  }

  module _ (cond : Expr Ref) (turn : List Instruction) (mt : Meaning) (body : Simulates turn mt) (at : ℕ)
      (post : List Instruction)
      (h : drop at m.instructions ≡ while_code cond turn ++ post) where
    -- the place of the test
    abbrev test_at : ℕ
    test_at = at + 1 + length turn

    -- where the turn of a loop stands
    turn_there : drop (at + 1) m.instructions ≡ turn ++ I.Again cond (length turn) ∷ post
    turn_there = rest_after m.instructions (I.Skip (length turn) ∷ [])
        (turn ++ I.Again cond (length turn) ∷ post) at
        (h ∙ ap (λ is. I.Skip (length turn) ∷ is) (append_assoc turn (I.Again cond (length turn) ∷ []) post))

    -- where its condition stands
    test_there : drop test_at m.instructions ≡ I.Again cond (length turn) ∷ post
    test_there = rest_after m.instructions turn (I.Again cond (length turn) ∷ post) (at + 1) turn_there

    -- the test, where one more turn is wanted
    IsTaken : State → List Value → Type 0
    IsTaken σ slots = acted (I.Again cond (length turn)) (vars_of σ box) slots
        ≡ acts (vars_of σ box) slots (M.Back (length turn))

    -- a turn that can't be paid for
    turn_spent : (σ : State) (slots : List Value) (n : ℕ) → IsTaken σ slots →
        from test_at σ slots 0 n ≡ over P.Spent σ 0
    unfolding IsTaken
    turn_spent σ slots n does =
        ap (after p m method box ws plain n σ)
        (runs_stop m method test_at (I.Again cond (length turn)) post (vars_of σ box) slots _ 0
        test_there does tt)
        ∙ ap (λ τ. over P.Spent τ 0) (with_same σ box)

    -- a turn that is paid for
    turn_paid : (σ : State) (slots : List Value) (left n : ℕ) → IsTaken σ slots →
        from test_at σ slots (suc left) n ≡ from (at + 1) σ slots left n
    unfolding IsTaken
    turn_paid σ slots left n does =
        let e : test_at - length turn ≡ at + 1 = omega arith in
        ap (after p m method box ws plain n σ)
        (runs_stop m method test_at (I.Again cond (length turn)) post (vars_of σ box) slots _ (suc left)
        test_there does tt)
        ∙ ap (λ k. from k σ slots left n) e

    -- what the test decides
    tested : (more : Meaning) (σ : State) (slots : List Value) (budget : ℕ) →
        (IsTaken σ slots → FollowsRan (from test_at σ slots budget) (from (test_at + 1)) budget (2 * budget)
        (more σ slots budget)) →
        (ev : Evaluated) → value cond (vars_of σ box) slots ≡ ev →
        FollowsRan (from test_at σ slots budget) (from (test_at + 1)) budget (2 * budget)
        (branched ev more stay σ slots budget)
    unfolding IsTaken
    tested more σ slots budget go_round (Err t) is =
        record {
          by = (
            0,
            zero-le,
            go_trap p m method box ws plain test_at (I.Again cond (length turn)) post
                σ slots t budget 0 test_there
                (ap (λ ev. acts (vars_of σ box) slots (decided ev (M.Back (length turn)) (M.On 0))) is),
          );
        }
    tested more σ slots budget go_round (Ok v) is = by_test (bool_of v) refl
      where
        does : (t : Bool) → bool_of v ≡ t → acted (I.Again cond (length turn)) (vars_of σ box) slots
            ≡ acts (vars_of σ box) slots (if t then M.Back (length turn) else M.On 0)
        does t e = ap (λ ev. acts (vars_of σ box) slots (decided ev (M.Back (length turn)) (M.On 0))) is
            ∙ ap (λ t. acts (vars_of σ box) slots (if t then M.Back (length turn) else M.On 0)) e

        by_test : (t : Bool) → bool_of v ≡ t → FollowsRan (from test_at σ slots budget) (from (test_at + 1))
            budget (2 * budget) (if t then more σ slots budget else stay σ slots budget)
        by_test true e = go_round (does true e)
        by_test false e = leads_as (from test_at σ slots budget) (from (test_at + 1) σ slots budget) budget
            (λ n. next test_at (I.Again cond (length turn)) post σ σ slots slots budget n test_there
            (does false e) (λ vs. refl))

    -- a loop from its test on
    loops : (turns : ℕ) (σ : State) (slots : List Value) (budget : ℕ) → budget ≤ turns →
        FollowsRan (from test_at σ slots budget) (from (test_at + 1)) budget (2 * budget)
        (looped box turns cond mt σ slots budget)
    loops zero σ slots zero enough = tested spend σ slots 0
        (λ does. record { by = (0, zero-le, turn_spent σ slots 0 does) }) (value cond (vars_of σ box) slots)
        refl
    loops zero σ slots (suc left) enough = absurd (omega (arith, enough))
    loops (suc turns) σ slots zero enough =
        tested (paid_turn mt (looped box turns cond mt)) σ slots 0
        (λ does. record { by = (0, zero-le, turn_spent σ slots 0 does) })
        (value cond (vars_of σ box) slots) refl
    loops (suc turns) σ slots (suc left) enough =
        let ran : Ran = mt σ slots left in
        let whole : Ran = resumed ran.finish ran (looped box turns cond mt) in
        tested (paid_turn mt (looped box turns cond mt)) σ slots (suc left)
        (λ does. follows_as (from test_at σ slots (suc left)) (from (at + 1) σ slots left)
        (from (test_at + 1)) (from (test_at + 1)) (suc left) (2 * suc left) whole.state whole.slots
        whole.budget whole.finish
        (λ n. turn_paid σ slots left n does) (λ n. refl)
        (follows_paid (from (at + 1) σ slots left) (from (test_at + 1)) left whole.state whole.slots
        whole.budget whole.finish
        (in_order (from (at + 1) σ slots left) (from test_at) (from (test_at + 1)) left (2 * left) ran.state
        ran.slots ran.budget ran.finish (looped box turns cond mt)
        (body.by (at + 1) (I.Again cond (length turn) ∷ post) σ slots left turn_there)
        (λ τ ss c less. loops turns τ ss c (omega (arith, less, enough))))))
        (value cond (vars_of σ box) slots) refl

    -- the whole loop
    loop_follows : (σ : State) (slots : List Value) (budget : ℕ) →
        FollowsRan (from at σ slots budget) (from (at + length (while_code cond turn))) budget (2 * budget)
        (looped box budget cond mt σ slots budget)
    loop_follows σ slots budget =
        let ran : Ran = looped box budget cond mt σ slots budget in
        let size : test_at + 1 ≡ at + length (while_code cond turn) =
        omega (arith, length-append turn (I.Again cond (length turn) ∷ [])) in
        let within : length turn ≤ length (turn ++ I.Again cond (length turn) ∷ post) =
        omega (arith, length-append turn (I.Again cond (length turn) ∷ post)) in
        follows_as (from at σ slots budget) (from test_at σ slots budget)
        (from (at + length (while_code cond turn))) (from (test_at + 1)) budget (2 * budget) ran.state
        ran.slots ran.budget ran.finish
        (λ n. go_on p m method box ws plain at (I.Skip (length turn))
        (turn ++ I.Again cond (length turn) ∷ post) σ σ slots slots (length turn) budget n
        (h ∙ ap (λ is. I.Skip (length turn) ∷ is)
        (append_assoc turn (I.Again cond (length turn) ∷ []) post)) refl within (λ vs. refl))
        (λ n. ap (λ k. from k ran.state ran.slots ran.budget n) size)
        (loops budget σ slots budget (omega arith))

  -- the code of a loop simulates it
  pub while_simulates : (cond : Expr Ref) (turn : List Instruction) (mt : Meaning) → Simulates turn mt →
      Simulates (while_code cond turn) (λ σ slots budget. looped box budget cond mt σ slots budget)
  while_simulates cond turn mt body = record
      { by = λ at post σ slots budget h. loop_follows cond turn mt body at post h σ slots budget }
