-- The one step of a single method is its run.
use Rattle.std.proofs.Common.{◌≡◌, ℕ, suc, ◌+◌, ◌≤◌, ℤ, pos, Bool, true, false, ◌&&◌, not, if◌then◌else◌}
use Rattle.std.proofs.Common.{IsTrue, List, [], ◌∷◌, ◌++◌, map, length, drop, Option, None, Some, is_none}
use Rattle.std.proofs.Common.{Result, Ok, Err, refl, sym, ap, ◌∙◌, subst, subst₂, arith, append_assoc}
use Rattle.std.proofs.Common.{length-append, zero-le, true≢false}
use Rattle.std.specs.Prelude.{slice_set}
use Rattle.std.specs.List.{flat_map}
use Rattle.seuss_base.specs.declared.outcome.Trap.{Trap}
use Rattle.seuss_base.specs.declared.outcome.Outcome.{Outcome}
use Rattle.seuss_base.specs.declared.outcome.Outcome.TheVariants as O
use Rattle.seuss_program.specs.declared.program.Program.{Program}
use Rattle.seuss_program.specs.declared.tree.Ref.{Ref}
use Rattle.seuss_program.specs.declared.tree.Ref.TheVariants as R
use Rattle.seuss_program.specs.declared.tree.Expr.{Expr}
use Rattle.seuss_program.specs.declared.tree.Pre.{Pre}
use Rattle.seuss_program.specs.declared.tree.Proc.{Proc}
use Rattle.seuss_program.specs.declared.tree.Form.{Form}
use Rattle.seuss_program.specs.declared.tree.Form.TheVariants as F
use Rattle.seuss_program.specs.declared.tree.Alternative.{Alternative}
use Rattle.seuss_program.specs.declared.tree.Statement.{Statement, fold-roll-Statement, map-Statement}
use Rattle.seuss_program.specs.declared.tree.Statement.{roll-Statement, ind-Statement}
use Rattle.seuss_program.specs.declared.tree.Statement.TheOpen as S
use Rattle.seuss_program.specs.declared.tree.Statement.TheOpen.{Statement-F}
use Rattle.seuss_program.specs.declared.state.Value.{Value}
use Rattle.seuss_program.specs.declared.state.Value.TheVariants as V
use Rattle.seuss_program.specs.declared.state.State.{State}
use Rattle.seuss_program.specs.Programs.{vars_of, with_var, procedure_of}
use Rattle.seuss_program.specs.Values.{Evaluated, value, bool_of}
use Rattle.seuss_program.specs.Bodies.{arguments, Finish, Done, Trapped, Spent, Ran, Callee, Meaning}
use Rattle.seuss_program.specs.Bodies.{resumed, in_turn, assigned, evaluated_into, branched, stay}
use Rattle.seuss_program.specs.Bodies.{statement, statement_step, body}
use Rattle.seuss_program.specs.Attempts.{attempt, attempt_of, result_of, finished, chosen, judged, choice}
use Rattle.seuss_program.specs.Attempts.{performed, entry_slots, form_locals}
use Rattle.seuss_program.specs.Keeping.{all_true}
use Rattle.method_code.specs.declared.instruction.Instruction.{Instruction}
use Rattle.method_code.specs.declared.instruction.Instruction.TheVariants as I
use Rattle.method_code.specs.declared.instruction.Move.TheVariants as M
use Rattle.method_code.specs.declared.method.Method.{Method}
use Rattle.method_code.specs.declared.method.Head.{Head}
use Rattle.method_code.specs.declared.frame.End.{End}
use Rattle.method_code.specs.declared.frame.End.TheVariants as E
use Rattle.method_code.specs.Codes.{call_code, compiled, code_of, code_step, joined, if_code, last_code}
use Rattle.method_code.specs.Codes.{take_code, alternative_code, heads, early_of, entry_of, form_code}
use Rattle.method_code.specs.Codes.{method_code, number_of}
use Rattle.method_code.specs.Steps as T
use Rattle.method_code.specs.Steps.{acts, acted, put, put_value, decided, leaves, Stepped, runs, result_in}
use Rattle.method_code.specs.Steps.{chosen_head, judged_head, step, step_in, entry, locals_in}
use Rattle.method_code.specs.Chains.{with_vars}
use Rattle.method_code.specs.Singles.{single_step, is_single_statement, is_single_body, are_single}
use Rattle.method_code.specs.Singles.{is_single, outcome_by, result_by, IsRun, is_false, none_holds}
use Rattle.method_code.specs.Singles.{is_plainly_rejected}
use Rattle.method_code.specs.Kinds.{rejects_plainly}
use Rattle.method_code.proofs.States.{with_same, with_twice, vars_with_var}
use Rattle.method_code.proofs.Going.{rest_after, runs_on, runs_stop}
use Rattle.method_code.proofs.Simulation.{and_left, and_right}
use Rattle.method_code.proofs.Statements.{each, each_each, code-layer, meaning-layer}
use Rattle.method_code.proofs.Procedures.{result_same}
use Rattle.method_code.proofs.Places.{coded}
use Rattle.method_code.proofs.IdleSteps.{runs_quiet}

module _ (box : ℕ) (m : Method) (method : ℕ) where
  -- a step that goes on from an instruction, on the box
  abbrev here : ℕ → State → List Value → ℕ → Stepped
  here at σ slots budget = runs m method budget at (vars_of σ box) slots

  -- one place comes to be another one, within the step and for free, and only this box may have changed
  record Reaches (at : ℕ) (σ : State) (slots : List Value) (budget : ℕ) (there : Stepped) (τ : State)
      (left : ℕ) : Type 0 where
    same : here at σ slots budget ≡ there
    free : left ≡ budget
    only : (vs : List Value) → with_vars σ box vs ≡ with_vars τ box vs

  -- code does what a body does without a call
  abbrev Straight : ℕ → ℕ → State → List Value → ℕ → State → List Value → ℕ → Finish → Type 0
  Straight at end σ slots budget τ ss left Done = Reaches at σ slots budget (here end τ ss budget) τ left
  Straight at end σ slots budget τ ss left (Trapped t) =
      Reaches at σ slots budget (leaves method budget (vars_of τ box) (E.Trapped t)) τ left
  Straight at end σ slots budget τ ss left Spent = ⊥

  -- code does what a body ran to
  abbrev StraightRan : ℕ → ℕ → State → List Value → ℕ → Ran → Type 0
  StraightRan at end σ slots budget ran = Straight at end σ slots budget ran.state ran.slots ran.budget
      ran.finish

  -- a front of instructions, and then the rest
  comes_to : (at mid end : ℕ) (σ τ : State) (slots ss : List Value) (budget middle : ℕ) (ω : State)
      (us : List Value) (left : ℕ) (f : Finish) →
      Reaches at σ slots budget (here mid τ ss budget) τ middle → Straight mid end τ ss budget ω us left f →
      Straight at end σ slots budget ω us left f
  comes_to at mid end σ τ slots ss budget middle ω us left Done a b =
      record { same = a.same ∙ b.same; free = b.free; only = λ vs. a.only vs ∙ b.only vs }
  comes_to at mid end σ τ slots ss budget middle ω us left (Trapped t) a b =
      record { same = a.same ∙ b.same; free = b.free; only = λ vs. a.only vs ∙ b.only vs }
  comes_to at mid end σ τ slots ss budget middle ω us left Spent a b = absurd b

  -- two parts in their order
  in_order : (at mid end : ℕ) (σ : State) (slots : List Value) (budget : ℕ) (τ : State) (ss : List Value)
      (middle : ℕ) (f : Finish) (next : Meaning) →
      Straight at mid σ slots budget τ ss middle f →
      (middle ≡ budget → StraightRan mid end τ ss budget (next τ ss middle)) →
      StraightRan at end σ slots budget
      (resumed f (record { state = τ; slots = ss; budget = middle; finish = f }) next)
  in_order at mid end σ slots budget τ ss middle Done next a b = let ran : Ran = next τ ss middle in
      comes_to at mid end σ τ slots ss budget middle ran.state ran.slots ran.budget ran.finish a (b a.free)
  in_order at mid end σ slots budget τ ss middle (Trapped t) next a b = a
  in_order at mid end σ slots budget τ ss middle Spent next a b = absurd a

  -- after it, one more stretch without a change
  extends : (at mid end : ℕ) (σ : State) (slots : List Value) (budget : ℕ) (τ : State) (ss : List Value)
      (left : ℕ) (f : Finish) → Straight at mid σ slots budget τ ss left f →
      here mid τ ss budget ≡ here end τ ss budget → Straight at end σ slots budget τ ss left f
  extends at mid end σ slots budget τ ss left Done a e =
      record { same = a.same ∙ e; free = a.free; only = a.only }
  extends at mid end σ slots budget τ ss left (Trapped t) a e = a
  extends at mid end σ slots budget τ ss left Spent a e = a

  -- the next instruction
  moves : (at many : ℕ) (i : Instruction) (rest : List Instruction) (σ σ' : State)
      (slots slots' : List Value) (budget end : ℕ) → drop at m.instructions ≡ i ∷ rest →
      acted i (vars_of σ box) slots ≡ acts (vars_of σ' box) slots' (M.On many) → many ≤ length rest →
      at + 1 + many ≡ end → ((vs : List Value) → with_vars σ box vs ≡ with_vars σ' box vs) →
      Reaches at σ slots budget (here end σ' slots' budget) σ' budget
  moves at many i rest σ σ' slots slots' budget end h does within e only = record {
    same = runs_on m method at i rest (vars_of σ box) slots (vars_of σ' box) slots' many budget h does
        within ∙ ap (λ k. here k σ' slots' budget) e;
    free = refl;
    only = only;
  }

  -- an instruction that traps
  traps : (at : ℕ) (i : Instruction) (rest : List Instruction) (σ : State) (slots : List Value) (budget : ℕ)
      (t : Trap) → drop at m.instructions ≡ i ∷ rest →
      acted i (vars_of σ box) slots ≡ acts (vars_of σ box) slots (M.Trap t) →
      Reaches at σ slots budget (leaves method budget (vars_of σ box) (E.Trapped t)) σ budget
  traps at i rest σ slots budget t h does = record {
    same = runs_stop m method at i rest (vars_of σ box) slots (acts (vars_of σ box) slots (M.Trap t)) budget
        h does tt;
    free = refl;
    only = λ vs. refl;
  }

  -- this code does what is meant, within a step and for free
  record Does (code : List Instruction) (meaning : Meaning) : Type 0 where
    by : (at : ℕ) (post : List Instruction) (σ : State) (slots : List Value) (budget : ℕ) →
        drop at m.instructions ≡ code ++ post → StraightRan at (at + length code) σ slots budget
        (meaning σ slots budget)

  -- an instruction that puts a value
  put_does : (at : ℕ) (i : Instruction) (rest : List Instruction) (σ : State) (slots : List Value)
      (budget : ℕ) (name : Ref) (v : Value) → drop at m.instructions ≡ i ∷ rest →
      acted i (vars_of σ box) slots ≡ put name v (vars_of σ box) slots →
      StraightRan at (at + 1) σ slots budget (assigned box name v σ slots budget)
  put_does at i rest σ slots budget (R.Var k) v h does =
      moves at 0 i rest σ (with_var σ box k v) slots slots budget (at + 1) h
      (does ∙ ap (λ vs. acts vs slots (M.On 0)) (sym (vars_with_var σ box k v))) zero-le (omega arith)
      (λ vs. sym (with_twice σ box (slice_set (vars_of σ box) k v) vs))
  put_does at i rest σ slots budget (R.Slot k) v h does =
      moves at 0 i rest σ σ slots (slice_set slots k v) budget (at + 1) h does zero-le (omega arith)
      (λ vs. refl)
  put_does at i rest σ slots budget (R.Given k) v h does =
      moves at 0 i rest σ σ slots slots budget (at + 1) h does zero-le (omega arith) (λ vs. refl)
  put_does at i rest σ slots budget (R.Method k) v h does =
      moves at 0 i rest σ σ slots slots budget (at + 1) h does zero-le (omega arith) (λ vs. refl)
  put_does at i rest σ slots budget (R.Cat k) v h does =
      moves at 0 i rest σ σ slots slots budget (at + 1) h does zero-le (omega arith) (λ vs. refl)

  -- the code of an assignment does it
  set_does : (name : Ref) (e : Expr Ref) → Does (I.Set name e ∷ [])
      (λ σ slots budget. evaluated_into box name (value e (vars_of σ box) slots) σ slots budget)
  set_does name e = record
      { by = λ at post σ slots budget h. by at post σ slots budget h (value e (vars_of σ box) slots) refl }
    where
      by : (at : ℕ) (post : List Instruction) (σ : State) (slots : List Value) (budget : ℕ) →
          drop at m.instructions ≡ I.Set name e ∷ post → (ev : Evaluated) →
          value e (vars_of σ box) slots ≡ ev →
          StraightRan at (at + 1) σ slots budget (evaluated_into box name ev σ slots budget)
      by at post σ slots budget h (Err t) is = traps at (I.Set name e) post σ slots budget t h
          (ap (λ ev. put_value name ev (vars_of σ box) slots) is)
      by at post σ slots budget h (Ok v) is = put_does at (I.Set name e) post σ slots budget name v h
          (ap (λ ev. put_value name ev (vars_of σ box) slots) is)

  -- no code does nothing
  none_does : Does [] stay
  none_does = record {
    by = λ at post σ slots budget h. record {
      same = let e : at ≡ at + 0 = omega arith in ap (λ k. here k σ slots budget) e;
      free = refl;
      only =
          λ vs. refl;
    };
  }

  -- two parts do what both mean
  then_does : (front back : List Instruction) (first second : Meaning) → Does front first →
      Does back second → Does (front ++ back)
      (λ σ slots budget. resumed (first σ slots budget).finish (first σ slots budget) second)
  then_does front back first second a b = record {
    by = λ at post σ slots budget h.
        let h' : drop at m.instructions ≡ front ++ (back ++ post) = h ∙ append_assoc front back post in
        let len : at + length front + length back ≡ at + length (front ++ back) =
        omega (arith, length-append front back) in
        let ran : Ran = first σ slots budget in
        subst (λ k. StraightRan at k σ slots budget (resumed ran.finish ran second)) len
        (in_order at (at + length front) (at + length front + length back) σ slots budget ran.state
        ran.slots ran.budget ran.finish second (a.by at (back ++ post) σ slots budget h')
        (λ same. subst (λ left. StraightRan (at + length front) (at + length front + length back) ran.state
        ran.slots budget (second ran.state ran.slots left)) (sym same)
        (b.by (at + length front) post ran.state ran.slots budget
        (rest_after m.instructions front (back ++ post) at h'))));
  }

  -- all parts do what each means
  all_do : {X : Type 0} (code : X → List Instruction) (meaning : X → Meaning) (test : X → Bool) →
      ((x : X) → IsTrue (test x) → Does (code x) (meaning x)) →
      (xs : List X) → IsTrue (all_true (map test xs)) →
      Does (joined (map code xs)) (in_turn (map meaning xs))
  all_do code meaning test each [] ok = none_does
  all_do code meaning test each (x ∷ xs) ok =
      then_does (code x) (joined (map code xs)) (meaning x) (in_turn (map meaning xs))
      (each x (and_left (test x) _ ok)) (all_do code meaning test each xs (and_right (test x) _ ok))

  -- the code of a choice does it
  if_does : (cond : Expr Ref) (holds fails : List Instruction) (mh mf : Meaning) → Does holds mh →
      Does fails mf → Does (if_code cond holds fails)
      (λ σ slots budget. branched (value cond (vars_of σ box) slots) mh mf σ slots budget)
  if_does cond holds fails mh mf a b = record {
    by = λ at post σ slots budget h. decide at post σ slots budget h (value cond (vars_of σ box) slots)
        refl;
  }
    where
      inner : List Instruction → List Instruction
      inner post = I.Skip (length fails) ∷ (fails ++ post)

      size : length (if_code cond holds fails) ≡ length holds + (length fails + 1) + 1
      size = omega (arith, length-append holds (I.Skip (length fails) ∷ fails))

      by_test : (at : ℕ) (post : List Instruction) (σ : State) (slots : List Value) (budget : ℕ) →
          drop at m.instructions ≡ if_code cond holds fails ++ post → (v : Value) (t : Bool) →
          value cond (vars_of σ box) slots ≡ Ok v → bool_of v ≡ t →
          StraightRan at (at + length (if_code cond holds fails)) σ slots budget
          (if t then mh σ slots budget else mf σ slots budget)
      by_test at post σ slots budget h v t is e =
          let h' : drop at m.instructions ≡ I.SkipUnless cond (length holds + 1) ∷ (holds ++ inner post) =
          h ∙ ap (λ is. I.SkipUnless cond (length holds + 1) ∷ is)
          (append_assoc holds (I.Skip (length fails) ∷ fails) post) in
          let rest : drop (at + 1) m.instructions ≡ holds ++ inner post =
          rest_after m.instructions (I.SkipUnless cond (length holds + 1) ∷ []) (holds ++ inner post) at h'
          in
          let jump : drop (at + 1 + length holds) m.instructions ≡ inner post =
          rest_after m.instructions holds (inner post) (at + 1) rest in
          let does : acted (I.SkipUnless cond (length holds + 1)) (vars_of σ box) slots
          ≡ acts (vars_of σ box) slots (if t then M.On 0 else M.On (length holds + 1)) =
          ap (λ ev. acts (vars_of σ box) slots (decided ev (M.On 0) (M.On (length holds + 1)))) is
          ∙ ap (λ t. acts (vars_of σ box) slots (if t then M.On 0 else M.On (length holds + 1))) e in
          branch t h' rest jump does
        where
          branch : (t : Bool) → drop at m.instructions ≡ I.SkipUnless cond (length holds + 1)
              ∷ (holds ++ inner post) → drop (at + 1) m.instructions ≡ holds ++ inner post →
              drop (at + 1 + length holds) m.instructions ≡ inner post →
              acted (I.SkipUnless cond (length holds + 1)) (vars_of σ box) slots
              ≡ acts (vars_of σ box) slots (if t then M.On 0 else M.On (length holds + 1)) →
              StraightRan at (at + length (if_code cond holds fails)) σ slots budget
              (if t then mh σ slots budget else mf σ slots budget)
          branch true h' rest jump does =
              let ran : Ran = mh σ slots budget in
              let over : here (at + 1 + length holds) ran.state ran.slots budget
              ≡ here (at + length (if_code cond holds fails)) ran.state ran.slots budget =
              (moves (at + 1 + length holds) (length fails) (I.Skip (length fails)) (fails ++ post)
              ran.state ran.state ran.slots ran.slots budget (at + length (if_code cond holds fails))
              jump refl
              (omega (arith, length-append fails post)) (omega (arith, size)) (λ vs. refl)).same in
              comes_to at (at + 1) (at + length (if_code cond holds fails)) σ σ slots slots budget budget
              ran.state ran.slots ran.budget ran.finish
              (moves at 0 (I.SkipUnless cond (length holds + 1)) (holds ++ inner post) σ σ slots slots
              budget (at + 1) h' does zero-le (omega arith) (λ vs. refl))
              (extends (at + 1) (at + 1 + length holds) (at + length (if_code cond holds fails)) σ slots
              budget ran.state ran.slots ran.budget ran.finish
              (a.by (at + 1) (inner post) σ slots budget rest) over)
          branch false h' rest jump does =
              let ran : Ran = mf σ slots budget in
              let e : at + 1 + length holds + 1 ≡ at + 1 + (length holds + 1) = omega arith in
              let other : drop (at + 1 + (length holds + 1)) m.instructions ≡ fails ++ post =
              ap (λ k. drop k m.instructions) (sym e)
              ∙ rest_after m.instructions (I.Skip (length fails) ∷ []) (fails ++ post)
              (at + 1 + length holds) jump in
              let end : at + 1 + (length holds + 1) + length fails
              ≡ at + length (if_code cond holds fails) = omega (arith, size) in
              comes_to at (at + 1 + (length holds + 1)) (at + length (if_code cond holds fails)) σ σ slots
              slots budget budget ran.state ran.slots ran.budget ran.finish
              (moves at (length holds + 1) (I.SkipUnless cond (length holds + 1)) (holds ++ inner post) σ σ
              slots slots budget (at + 1 + (length holds + 1)) h' does
              (omega (arith, length-append holds (inner post))) refl (λ vs. refl))
              (subst (λ k. StraightRan (at + 1 + (length holds + 1)) k σ slots budget ran) end
              (b.by (at + 1 + (length holds + 1)) post σ slots budget other))

      decide : (at : ℕ) (post : List Instruction) (σ : State) (slots : List Value) (budget : ℕ) →
          drop at m.instructions ≡ if_code cond holds fails ++ post → (ev : Evaluated) →
          value cond (vars_of σ box) slots ≡ ev →
          StraightRan at (at + length (if_code cond holds fails)) σ slots budget
          (branched ev mh mf σ slots budget)
      decide at post σ slots budget h (Err t) is =
          traps at (I.SkipUnless cond (length holds + 1)) ((holds ++ I.Skip (length fails) ∷ fails) ++ post)
          σ slots budget t h (ap
          (λ ev. acts (vars_of σ box) slots (decided ev (M.On 0) (M.On (length holds + 1)))) is)
      decide at post σ slots budget h (Ok v) is = by_test at post σ slots budget h v (bool_of v) is refl

-- the test of a single statement, by those inside it
single-layer : (d : Statement-F Ref (Statement Ref)) →
    is_single_statement (roll-Statement Ref d) ≡ single_step
    (map-Statement Ref (Statement Ref) Bool is_single_statement d)
unfolding is_single_statement
single-layer d = fold-roll-Statement Ref Bool single_step d

module _ (p : Program) (callee : Callee) (box : ℕ) (m : Method) (method : ℕ) where
  -- the code of a single statement does it
  DoesSo : Statement Ref → Type 0
  DoesSo t = IsTrue (is_single_statement t) → Does box m method (code_of t) (statement p callee box t)

  -- a statement, by the statements inside it
  layer_does : (d : Statement-F Ref (Statement Ref)) →
      (IsTrue (single_step (map-Statement Ref (Statement Ref) Bool is_single_statement d)) →
      Does box m method (code_step (map-Statement Ref (Statement Ref) (List Instruction) code_of d))
      (statement_step p callee box
      (map-Statement Ref (Statement Ref) Meaning (statement p callee box) d))) →
      DoesSo (roll-Statement Ref d)
  unfolding DoesSo
  layer_does d h single =
      subst₂ (λ c f. Does box m method c f) (sym (code-layer d)) (sym (meaning-layer p callee box d))
      (h (subst (λ b. IsTrue b) (single-layer d) single))

  module _ (X : Type 0) (f : X → Statement Ref) (each_does : (x : X) → DoesSo (f x)) where
    -- the statements inside a statement
    inner : (xs : List X) → IsTrue (all_true (each is_single_statement (each f xs))) →
        Does box m method (joined (each code_of (each f xs)))
        (in_turn (each (statement p callee box) (each f xs)))
    unfolding DoesSo
    inner xs single =
        subst₂ (λ c g. Does box m method (joined c) (in_turn g)) (sym (each_each f code_of xs))
        (sym (each_each f (statement p callee box) xs))
        (all_do box m method (λ x. code_of (f x)) (λ x. statement p callee box (f x))
        (λ x. is_single_statement (f x)) each_does xs
        (subst (λ l. IsTrue (all_true l)) (each_each f is_single_statement xs) single))

    -- one layer of a statement
    layer : (y : Statement-F Ref X) → DoesSo (roll-Statement Ref (map-Statement Ref X (Statement Ref) f y))
    layer (S.Let name kind e) = layer_does (S.Let name kind e) (λ single. set_does box m method name e)
    layer (S.Assign name e) = layer_does (S.Assign name e) (λ single. set_does box m method name e)
    layer (S.Call bind call) = layer_does (S.Call bind call) (λ single. absurd (true≢false (sym single)))
    layer (S.If cond holds fails) = layer_does (S.If cond (each f holds) (each f fails)) (λ single.
        if_does box m method cond (joined (each code_of (each f holds)))
        (joined (each code_of (each f fails)))
        (in_turn (each (statement p callee box) (each f holds)))
        (in_turn (each (statement p callee box) (each f fails)))
        (inner holds (and_left _ _ single))
        (inner fails (and_right (all_true (each is_single_statement (each f holds))) _ single)))
    layer (S.While cond turn) = layer_does (S.While cond (each f turn))
        (λ single. absurd (true≢false (sym single)))

  -- the code of each single statement does it
  statement_does : (t : Statement Ref) → IsTrue (is_single_statement t) →
      Does box m method (code_of t) (statement p callee box t)
  unfolding DoesSo
  statement_does = ind-Statement Ref DoesSo
      (λ x y is. subst (λ z. DoesSo (roll-Statement Ref z)) is (layer _ (λ e. e.0) (λ e. e.1) y))

  -- the code of a single body does it
  body_does : (ts : List (Statement Ref)) → IsTrue (is_single_body ts) →
      Does box m method (flat_map code_of ts) (body p callee box ts)
  body_does [] single = none_does box m method
  body_does (t ∷ ts) single =
      then_does box m method (code_of t) (flat_map code_of ts) (statement p callee box t)
      (body p callee box ts)
      (statement_does t (and_left (is_single_statement t) _ single))
      (body_does ts (and_right (is_single_statement t) _ single))

-- what a step leaves is the run
is_run : (method box : ℕ) (σ τ : State) (budget left : ℕ) (s : Stepped) (end : End) (outcome : Outcome)
    (found : Option ℤ) → s ≡ leaves method budget (vars_of τ box) end → left ≡ budget →
    ((vs : List Value) → with_vars σ box vs ≡ with_vars τ box vs) → outcome_by end ≡ Some outcome →
    result_by end ≡ found →
    IsRun s box σ budget (record { outcome = outcome; result = found; state = τ; budget = left })
is_run method box σ τ budget left s end outcome found is free only o r =
    let vars : s.vars ≡ vars_of τ box = ap (λ (s : Stepped). s.vars) is in
    record {
      outcome = ap (λ (s : Stepped). outcome_by s.end) is ∙ o;
      result = ap (λ (s : Stepped). result_by s.end) is ∙ r;
      variables = vars;
      state = sym (ap (with_vars σ box) vars ∙ (only (vars_of τ box) ∙ with_same τ box));
      free = ap (λ (s : Stepped). s.budget) is;
      called_free = free;
    }

module _ (p : Program) (callee : Callee) (box : ℕ) (q : Proc Ref) (method : ℕ) where
  -- a body that stands at a place, and the end of the procedure after it
  body_runs : (positive : Bool) (at : ℕ) (ts : List (Statement Ref)) (post : List Instruction) →
      IsTrue (is_single_body ts) →
      drop at (method_code q).instructions ≡ flat_map code_of ts
      ++ ((if positive then I.Return else I.Reject) ∷ post) →
      (σ : State) (slots : List Value) (budget : ℕ) →
      IsRun (runs (method_code q) method budget at (vars_of σ box) slots) box σ budget
      (finished positive q (body p callee box ts σ slots budget).finish
      (body p callee box ts σ slots budget))
  body_runs positive at ts post single h σ slots budget =
      let ran : Ran = body p callee box ts σ slots budget in
      by positive ran.finish
      (rest_after (method_code q).instructions (flat_map code_of ts)
      ((if positive then I.Return else I.Reject) ∷ post) at h)
      ((body_does p callee box (method_code q) method ts single).by at
      ((if positive then I.Return else I.Reject) ∷ post) σ slots budget h)
    where
      ran : Ran
      ran = body p callee box ts σ slots budget

      end : ℕ
      end = at + length (flat_map code_of ts)

      by : (positive : Bool) (f : Finish) → drop end (method_code q).instructions
          ≡ (if positive then I.Return else I.Reject) ∷ post →
          Straight box (method_code q) method at end σ slots budget ran.state ran.slots ran.budget f →
          IsRun (runs (method_code q) method budget at (vars_of σ box) slots) box σ budget
          (finished positive q f ran)
      by true Done g a =
          is_run method box σ ran.state budget ran.budget _
          (E.Returned (result_in (method_code q).result ran.slots)) O.Accepted (result_of q ran.slots)
          (a.same ∙ runs_stop (method_code q) method end I.Return post (vars_of ran.state box) ran.slots
          (acts (vars_of ran.state box) ran.slots M.Return) budget g refl tt)
          a.free a.only refl (result_same q ran.slots)
      by false Done g a =
          is_run method box σ ran.state budget ran.budget _ E.Rejected O.Rejected None
          (a.same ∙ runs_stop (method_code q) method end I.Reject post (vars_of ran.state box) ran.slots
          (acts (vars_of ran.state box) ran.slots M.Reject) budget g refl tt)
          a.free a.only refl refl
      by true (Trapped t) g a = is_run method box σ ran.state budget ran.budget _ (E.Trapped t)
          (O.Trapped t) None a.same a.free a.only refl refl
      by false (Trapped t) g a = is_run method box σ ran.state budget ran.budget _ (E.Trapped t)
          (O.Trapped t) None a.same a.free a.only refl refl
      by true Spent g a = absurd a
      by false Spent g a = absurd a

  -- a chosen alternative is its run
  chosen_runs : (alt : Alternative Ref) (pre : Option (Pre Ref)) (at : ℕ) (post : List Instruction) →
      IsTrue (is_none pre) → IsTrue (is_single_body alt.body) →
      drop at (method_code q).instructions ≡ (take_code pre ++ (flat_map code_of alt.body ++ last_code alt))
      ++ post → (σ : State) (slots : List Value) (budget : ℕ) →
      IsRun (T.begun (method_code q) method budget at (early_of pre) (vars_of σ box) slots) box σ budget
      (chosen p callee box q alt pre σ slots budget)
  chosen_runs alt None at post none single h σ slots budget =
      body_runs alt.positive at alt.body post single
      (h ∙ append_assoc (flat_map code_of alt.body) (last_code alt) post) σ slots budget
  chosen_runs alt (Some pre) at post none single h σ slots budget = absurd (true≢false (sym none))

  -- a choice is the run of its alternative
  alternatives_run : (alts : List (Alternative Ref)) (at : ℕ) → IsTrue (are_single alts) →
      drop at (method_code q).instructions ≡ flat_map alternative_code alts →
      (σ : State) (slots : List Value) (budget : ℕ) →
      IsRun (T.chosen (method_code q) method budget (chosen_head (heads at alts) (vars_of σ box) slots)
      (vars_of σ box) slots) box σ budget (choice p callee box q alts σ slots budget)
  alternatives_run [] at single h σ slots budget =
      is_run method box σ σ budget budget _ E.RejectedPlain O.Rejected None refl refl (λ vs. refl) refl refl
  alternatives_run (alt ∷ alts) at single h σ slots budget =
      judge (value alt.cond (vars_of σ box) slots)
      (alternatives_run alts (at + length (alternative_code alt))
      (and_right (is_none alt.pre && is_single_body alt.body) _ single)
      (rest_after (method_code q).instructions (alternative_code alt) (flat_map alternative_code alts) at h)
      σ slots budget)
    where
      one : IsTrue (is_none alt.pre && is_single_body alt.body)
      one = and_left (is_none alt.pre && is_single_body alt.body) _ single

      after_heads : Result (Option Head) Trap → Stepped
      after_heads hs = T.chosen (method_code q) method budget hs (vars_of σ box) slots

      others : Result (Option Head) Trap
      others = chosen_head (heads (at + length (alternative_code alt)) alts) (vars_of σ box) slots

      pick : (t : Bool) → IsRun (after_heads others) box σ budget
          (choice p callee box q alts σ slots budget) →
          IsRun (after_heads (if t then Ok
          (Some (record { cond = alt.cond; early = early_of alt.pre; start = at })) else others)) box σ
          budget
          (if t then chosen p callee box q alt alt.pre σ slots budget else choice p callee box q alts σ
          slots budget)
      pick true o = chosen_runs alt alt.pre at (flat_map alternative_code alts)
          (and_left (is_none alt.pre) _ one) (and_right (is_none alt.pre) _ one) h σ slots budget
      pick false o = o

      judge : (ev : Evaluated) → IsRun (after_heads others) box σ budget
          (choice p callee box q alts σ slots budget) →
          IsRun (after_heads (judged_head ev
          (record { cond = alt.cond; early = early_of alt.pre; start = at }) others)) box σ budget
          (judged p callee box q ev alt (choice p callee box q alts σ slots budget) σ slots budget)
      judge (Err t) o = is_run method box σ σ budget budget _ (E.Trapped t) (O.Trapped t) None refl refl
          (λ vs. refl) refl refl
      judge (Ok v) o = pick (bool_of v) o

  -- a step from an entry is the run of its form
  form_runs : (f : Form Ref) → q.form ≡ f → IsTrue (is_single f) →
      (σ : State) (slots : List Value) (budget : ℕ) →
      IsRun (T.entered (method_code q) method budget (entry_of f) (vars_of σ box) slots) box σ budget
      (performed p callee box q f σ slots budget)
  form_runs (F.Total ts) is single σ slots budget =
      body_runs true 0 ts [] single (ap form_code is) σ slots budget
  form_runs (F.Partial alts) is single σ slots budget =
      alternatives_run alts 1 single (ap (λ (f : Form Ref). drop 1 (form_code f)) is) σ slots budget
  form_runs (F.Action alts) is single σ slots budget =
      alternatives_run alts 1 single (ap (λ (f : Form Ref). drop 1 (form_code f)) is) σ slots budget

-- the step from the entry of a procedure that is there
step_enters : (p : Program) (box number : ℕ) (q : Proc Ref) (args : List Value) (budget : ℕ)
    (vars : List Value) → procedure_of p box number ≡ Some q →
    step (compiled p) (entry (compiled p) (number_of p box number) args) budget vars
    ≡ T.entered (method_code q) (number_of p box number) budget (entry_of q.form) vars
    (entry_slots q args)
step_enters p box number q args budget vars there =
    ap (λ (o : Option Method). step_in o
    (record { method = number_of p box number; place = 0; slots = args ++ locals_in o }) budget vars)
    (coded p box number q there)
    ∙ ap (λ slots. T.entered (method_code q) (number_of p box number) budget (entry_of q.form) vars slots)
    (sym (append_assoc args (if q.gives then V.Int (pos 0) ∷ [] else []) (form_locals q.form)))

-- a step from an entry is the run of its procedure
pub single_runs : (p : Program) (depth box number : ℕ) (q : Proc Ref) (args : List Value) (σ : State)
    (budget : ℕ) → procedure_of p box number ≡ Some q → IsTrue (is_single q.form) →
    IsRun (step (compiled p) (entry (compiled p) (number_of p box number) args) budget (vars_of σ box)) box
    σ budget (attempt p (suc depth) box number args σ budget)
single_runs p depth box number q args σ budget there single =
    subst₂ (λ s c. IsRun s box σ budget c)
    (sym (step_enters p box number q args budget (vars_of σ box) there))
    (sym (ap (λ (o : Option (Proc Ref)). attempt_of p (attempt p depth) box o args σ budget) there))
    (form_runs p (attempt p depth) box q (number_of p box number) q.form refl single σ (entry_slots q args)
    budget)

-- a step rejects plainly exactly where no precondition holds
alternatives_plain : (m : Method) (method at : ℕ) (alts : List (Alternative Ref)) (vars slots : List Value)
    (budget : ℕ) →
    rejects_plainly (T.chosen m method budget (chosen_head (heads at alts) vars slots) vars slots).end
    ≡ none_holds alts vars slots
alternatives_plain m method at [] vars slots budget = refl
alternatives_plain m method at (alt ∷ alts) vars slots budget =
    judge (value alt.cond vars slots)
    (alternatives_plain m method (at + length (alternative_code alt)) alts vars slots budget)
  where
    others : Result (Option Head) Trap
    others = chosen_head (heads (at + length (alternative_code alt)) alts) vars slots

    early : (pre : Option (Pre Ref)) → rejects_plainly
        (T.begun m method budget at (early_of pre) vars slots).end ≡ false
    early None = (runs_quiet m method budget at vars slots).1
    early (Some pre) = by (arguments pre.call.args vars slots)
      where
        by : (args : Result (List Value) Trap) → rejects_plainly
            (T.called_early method at budget (call_code pre.call) args vars slots).end ≡ false
        by (Err t) = refl
        by (Ok args) = refl

    pick : (t : Bool) → rejects_plainly (T.chosen m method budget others vars slots).end
        ≡ none_holds alts vars slots →
        rejects_plainly (T.chosen m method budget
        (if t then Ok (Some (record { cond = alt.cond; early = early_of alt.pre; start = at })) else
        others) vars slots).end ≡ not t && none_holds alts vars slots
    pick true o = early alt.pre
    pick false o = o

    judge : (ev : Evaluated) → rejects_plainly (T.chosen m method budget others vars slots).end
        ≡ none_holds alts vars slots →
        rejects_plainly (T.chosen m method budget
        (judged_head ev (record { cond = alt.cond; early = early_of alt.pre; start = at }) others) vars
        slots).end ≡ is_false ev && none_holds alts vars slots
    judge (Err t) o = refl
    judge (Ok v) o = pick (bool_of v) o

-- a form rejects plainly where no precondition holds
form_plain : (m : Method) (method : ℕ) (f : Form Ref) (vars slots : List Value) (budget : ℕ) →
    rejects_plainly (T.entered m method budget (entry_of f) vars slots).end
    ≡ is_plainly_rejected f vars slots
form_plain m method (F.Total ts) vars slots budget = (runs_quiet m method budget 0 vars slots).1
form_plain m method (F.Partial alts) vars slots budget = alternatives_plain m method 1 alts vars slots budget
form_plain m method (F.Action alts) vars slots budget = alternatives_plain m method 1 alts vars slots budget

-- so does a step from an entry
pub entry_plain : (p : Program) (box number : ℕ) (q : Proc Ref) (args : List Value) (vars : List Value)
    (budget : ℕ) → procedure_of p box number ≡ Some q →
    rejects_plainly (step (compiled p) (entry (compiled p) (number_of p box number) args) budget vars).end
    ≡ is_plainly_rejected q.form vars (entry_slots q args)
entry_plain p box number q args vars budget there =
    ap (λ (s : Stepped). rejects_plainly s.end) (step_enters p box number q args budget vars there)
    ∙ form_plain (method_code q) (number_of p box number) q.form vars (entry_slots q args) budget
