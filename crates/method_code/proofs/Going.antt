-- How a step goes on from an instruction, and what comes after it.
use Rattle.std.proofs.Common.{◌≡◌, ℕ, zero, suc, ◌+◌, ◌≤◌, Bool, List, [], ◌∷◌, ◌++◌, length, drop, Option}
use Rattle.std.proofs.Common.{Some, refl, sym, ap, ◌∙◌, arith}
use Rattle.std.proofs.lemmas.List.{drop-drop}
use Rattle.seuss_base.specs.declared.outcome.PassEnd.TheVariants as P
use Rattle.seuss_base.specs.declared.outcome.Trap.{Trap}
use Rattle.seuss_program.specs.declared.program.Program.{Program}
use Rattle.seuss_program.specs.declared.state.Value.{Value}
use Rattle.seuss_program.specs.declared.state.State.{State}
use Rattle.seuss_program.specs.Programs.{vars_of}
use Rattle.method_code.specs.declared.instruction.Instruction.{Instruction}
use Rattle.method_code.specs.declared.instruction.Move.{Move}
use Rattle.method_code.specs.declared.instruction.Move.TheVariants as M
use Rattle.method_code.specs.declared.method.Method.{Method}
use Rattle.method_code.specs.declared.activation.Waiting.{Waiting}
use Rattle.method_code.specs.Steps.{Acted, acts, acted, Halted, halts, walk, walked, Stepped, leaves}
use Rattle.method_code.specs.Steps.{settled, runs}
use Rattle.method_code.specs.declared.frame.End.TheVariants as E
use Rattle.method_code.specs.Chains.{Passed, turned, went_on, with_vars, chain}
use Rattle.method_code.proofs.States.{with_same}

-- what comes after the condition of a loop, by the budget
abbrev pub turn_of : Method → ℕ → ℕ → (ℕ → List Value → List Value → Stepped)
turn_of m method zero to vs ss = leaves method 0 vs E.Spent
turn_of m method (suc left) to vs ss = runs m method left to vs ss

-- a run settles what the walk halts at
pub runs_is : (m : Method) (method budget at : ℕ) (vars slots : List Value) →
    runs m method budget at vars slots
    ≡ settled m method budget (turn_of m method budget) (walk (drop at m.instructions) at 0 vars slots)
    (walk (drop at m.instructions) at 0 vars slots).move
runs_is m method zero at vars slots = refl
runs_is m method (suc left) at vars slots = refl

-- instructions that are passed over
walk-skips : (is : List Instruction) (at skip : ℕ) (vars slots : List Value) → skip ≤ length is →
    walk is at skip vars slots ≡ walk (drop skip is) (at + skip) 0 vars slots
walk-skips [] at zero vars slots h = let e : at ≡ at + 0 = omega arith in ap (λ n. walk [] n 0 vars slots) e
walk-skips [] at (suc skip) vars slots h = absurd (omega (arith, h))
walk-skips (i ∷ is) at zero vars slots h = let e : at ≡ at + 0 = omega arith in
    ap (λ n. walk (i ∷ is) n 0 vars slots) e
walk-skips (i ∷ is) at (suc skip) vars slots h =
    let e : suc at + skip ≡ at + suc skip = omega arith in
    walk-skips is (suc at) skip vars slots (omega (arith, h))
    ∙ ap (λ n. walk (drop skip is) n 0 vars slots) e

-- the instructions after a front
pub rest_after : (all front back : List Instruction) (at : ℕ) → drop at all ≡ front ++ back →
    drop (at + length front) all ≡ back
rest_after all front back at h = sym (drop-drop (length front) at all)
    ∙ (ap (drop (length front)) h ∙ drop_front front back)
  where
    drop_front : (xs ys : List Instruction) → drop (length xs) (xs ++ ys) ≡ ys
    drop_front [] ys = refl
    drop_front (x ∷ xs) ys = drop_front xs ys

module _ (m : Method) (method : ℕ) where
  -- an instruction that goes on to a later one
  pub runs_on : (at : ℕ) (i : Instruction) (rest : List Instruction) (vars slots vars' slots' : List Value)
      (many budget : ℕ) →
      drop at m.instructions ≡ i ∷ rest → acted i vars slots ≡ acts vars' slots' (M.On many) →
      many ≤ length rest →
      runs m method budget at vars slots ≡ runs m method budget (at + 1 + many) vars' slots'
  runs_on at i rest vars slots vars' slots' many budget h does within =
      let f : Halted → Stepped = λ h. settled m method budget (turn_of m method budget) h h.move in
      let here : walk (drop at m.instructions) at 0 vars slots ≡ walk rest (suc at) many vars' slots' =
      ap (λ is. walk is at 0 vars slots) h ∙ ap (λ (a : Acted). walked a.move at a (walk rest (suc at)))
      does in
      let there : drop (at + 1 + many) m.instructions ≡ drop many rest =
      sym (drop-drop many (at + 1) m.instructions)
      ∙ ap (drop many) (rest_after m.instructions (i ∷ []) rest at h) in
      let n : suc at + many ≡ at + 1 + many = omega arith in
      let skips : walk rest (suc at) many vars' slots'
      ≡ walk (drop (at + 1 + many) m.instructions) (at + 1 + many) 0 vars' slots' =
      walk-skips rest (suc at) many vars' slots' within
      ∙ (ap (λ k. walk (drop many rest) k 0 vars' slots') n
      ∙ ap (λ is. walk is (at + 1 + many) 0 vars' slots') (sym there)) in
      runs_is m method budget at vars slots ∙
      (ap f (here ∙ skips) ∙ sym (runs_is m method budget (at + 1 + many) vars' slots'))

  -- whether a step ends, or makes a turn, by a move
  abbrev pub Stops : Move → Type 0
  Stops (M.On many) = ⊥
  Stops (M.Back many) = Unit {0}
  Stops (M.Call target called args) = Unit {0}
  Stops M.Return = Unit {0}
  Stops M.Reject = Unit {0}
  Stops (M.Trap t) = Unit {0}

  -- a walk halts at an instruction that stops it
  stopped : (at : ℕ) (a : Acted) (move : Move) (next : ℕ → List Value → List Value → Halted) → Stops move →
      walked move at a next ≡ halts at a
  stopped at a (M.On many) next s = absurd s
  stopped at a (M.Back many) next s = refl
  stopped at a (M.Call target called args) next s = refl
  stopped at a M.Return next s = refl
  stopped at a M.Reject next s = refl
  stopped at a (M.Trap t) next s = refl

  -- an instruction at which the instructions halt
  pub runs_stop : (at : ℕ) (i : Instruction) (rest : List Instruction) (vars slots : List Value) (a : Acted)
      (budget : ℕ) →
      drop at m.instructions ≡ i ∷ rest → acted i vars slots ≡ a → Stops a.move →
      runs m method budget at vars slots ≡ settled m method budget (turn_of m method budget) (halts at a)
      a.move
  runs_stop at i rest vars slots a budget h does s =
      let f : Halted → Stepped = λ h. settled m method budget (turn_of m method budget) h h.move in
      let here : walk (drop at m.instructions) at 0 vars slots ≡ halts at a =
      ap (λ is. walk is at 0 vars slots) h ∙
      (ap (λ (a : Acted). walked a.move at a (walk rest (suc at))) does
      ∙ stopped at a a.move (walk rest (suc at)) s) in
      runs_is m method budget at vars slots ∙ ap f here

module _ (p : Program) (m : Method) (method box : ℕ) (ws : List Waiting) (plain : Bool) where
  -- what comes after a step on the box, with at most so many more steps
  abbrev pub after : ℕ → State → Stepped → Option Passed
  after n σ s = went_on
      (turned p (record { box_number = box; frame = s.frame; waiting = ws; plain = plain }) s.end)
      (with_vars σ box s.vars) s.budget (chain p n)

  -- a step that goes on from an instruction, and at most so many more steps
  abbrev pub go : ℕ → ℕ → State → List Value → ℕ → Option Passed
  go n at σ slots budget = after n σ (runs m method budget at (vars_of σ box) slots)

  -- a step that goes on from a later instruction, in a state in which only this box may have changed
  pub go_on : (at : ℕ) (i : Instruction) (rest : List Instruction) (σ σ' : State)
      (slots slots' : List Value) (many budget n : ℕ) →
      drop at m.instructions ≡ i ∷ rest → acted i (vars_of σ box) slots
      ≡ acts (vars_of σ' box) slots' (M.On many) → many ≤ length rest →
      ((vs : List Value) → with_vars σ box vs ≡ with_vars σ' box vs) →
      go n at σ slots budget ≡ go n (at + 1 + many) σ' slots' budget
  go_on at i rest σ σ' slots slots' many budget n h does within same =
      ap (after n σ) (runs_on m method at i rest (vars_of σ box) slots (vars_of σ' box) slots' many budget h
      does within)
      ∙ (let s : Stepped = runs m method budget (at + 1 + many) (vars_of σ' box) slots' in
      ap (λ (τ : State). went_on
      (turned p (record { box_number = box; frame = s.frame; waiting = ws; plain = plain }) s.end) τ
      s.budget (chain p n)) (same s.vars))

  -- a trap ends the pass
  pub go_trap : (at : ℕ) (i : Instruction) (rest : List Instruction) (σ : State) (slots : List Value)
      (t : Trap) (budget n : ℕ) →
      drop at m.instructions ≡ i ∷ rest → acted i (vars_of σ box) slots
      ≡ acts (vars_of σ box) slots (M.Trap t) →
      go n at σ slots budget ≡ Some (record { end = P.Trapped t; state = σ; budget = budget })
  go_trap at i rest σ slots t budget n h does =
      ap (after n σ) (runs_stop m method at i rest (vars_of σ box) slots
      (acts (vars_of σ box) slots (M.Trap t)) budget h does tt)
      ∙ ap (λ (τ : State). Some (record { end = P.Trapped t; state = τ; budget = budget })) (with_same σ box)
