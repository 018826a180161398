-- What a step keeps of the variables: all that setting a variable that its code writes keeps.
use Rattle.std.proofs.Common.{◌≡◌, ℕ, zero, suc, ◌-◌, Bool, true, false, List, [], ◌∷◌, length, drop}
use Rattle.std.proofs.Common.{Option, None, Some, Result, Ok, Err, refl, sym, ap, ◌∙◌, arith}
use Rattle.std.specs.Prelude.{slice_get, slice_set}
use Rattle.std.proofs.lemmas.Bool.{eq-eqb}
use Rattle.std.proofs.lemmas.List.{length-set}
use Rattle.seuss_base.specs.declared.outcome.Trap.{Trap}
use Rattle.std.specs.List.{list_any}
use Rattle.seuss_program.specs.declared.tree.Ref.{Ref}
use Rattle.seuss_program.specs.declared.tree.Ref.TheVariants as R
use Rattle.seuss_program.specs.declared.state.Value.{Value}
use Rattle.seuss_program.specs.declared.state.Value.TheVariants as V
use Rattle.seuss_program.specs.Values.{Evaluated, value}
use Rattle.seuss_program.specs.Bodies.{arguments}
use Rattle.method_code.specs.declared.instruction.CallCode.{CallCode}
use Rattle.method_code.specs.declared.instruction.Instruction.{Instruction}
use Rattle.method_code.specs.declared.instruction.Instruction.TheVariants as I
use Rattle.method_code.specs.declared.instruction.Move.{Move}
use Rattle.method_code.specs.declared.instruction.Move.TheVariants as M
use Rattle.method_code.specs.declared.method.Method.{Method}
use Rattle.method_code.specs.declared.method.Entry.{Entry}
use Rattle.method_code.specs.declared.method.Entry.TheVariants as N
use Rattle.method_code.specs.declared.method.Head.{Head}
use Rattle.method_code.specs.declared.frame.End.{End}
use Rattle.method_code.specs.declared.frame.End.TheVariants as E
use Rattle.method_code.specs.Steps as T
use Rattle.method_code.specs.Steps.{Acted, acted, put, put_value, last_number, all_but_last, Halted, walk}
use Rattle.method_code.specs.Steps.{walked, Stepped, leaves, paid, settled, runs, chosen_head, called_early}
use Rattle.method_code.specs.Steps.{entered, from_place}
use Rattle.effect_sets.proofs.Agreeing.{or_left, or_right}
use Rattle.effect_sets.proofs.CodeSets.{Inside, rest_inside, instruction_writes}

-- variables that are set where a set holds keep a property
record Keeps (P : List Value → Type 0) (set : ℕ → Bool) : Type 0 where
  put : (vars : List Value) (n : ℕ) (x : Value) → set n ≡ true → P vars → P (slice_set vars n x)

module _ (P : List Value → Type 0) (set : ℕ → Bool) (keeps : Keeps P set) where
  put_keeps : (name : Ref) (x : Value) (vars slots : List Value) →
      Inside (λ v. instruction_writes v (I.Take (Some name))) set → P vars → P (put name x vars slots).vars
  put_keeps (R.Var n) x vars slots writes holds = keeps.put vars n x (writes n (eq-eqb n n refl)) holds
  put_keeps (R.Slot n) x vars slots writes holds = holds
  put_keeps (R.Given n) x vars slots writes holds = holds
  put_keeps (R.Method n) x vars slots writes holds = holds
  put_keeps (R.Cat n) x vars slots writes holds = holds

  acted_keeps : (i : Instruction) (vars slots : List Value) → Inside (λ v. instruction_writes v i) set →
      P vars → P (acted i vars slots).vars
  acted_keeps (I.Set name e) vars slots writes holds = by (value e vars slots)
    where
      by : (m : Evaluated) → P (put_value name m vars slots).vars
      by (Err t) = holds
      by (Ok x) = put_keeps name x vars slots writes holds
  acted_keeps (I.SkipUnless cond many) vars slots writes holds = holds
  acted_keeps (I.Skip many) vars slots writes holds = holds
  acted_keeps (I.Again cond many) vars slots writes holds = holds
  acted_keeps (I.Call call) vars slots writes holds = holds
  acted_keeps (I.Take None) vars slots writes holds = holds
  acted_keeps (I.Take (Some name)) vars slots writes holds =
      put_keeps name (V.Int (last_number slots)) vars (all_but_last slots) writes holds
  acted_keeps I.Return vars slots writes holds = holds
  acted_keeps I.Reject vars slots writes holds = holds

  walked_keeps : (move : Move) (at : ℕ) (a : Acted) (next : ℕ → List Value → List Value → Halted) →
      P a.vars →
      ((skip : ℕ) (vars slots : List Value) → P vars → P (next skip vars slots).vars) →
      P (walked move at a next).vars
  walked_keeps (M.On many) at a next holds nexts = nexts many a.vars a.slots holds
  walked_keeps (M.Back many) at a next holds nexts = holds
  walked_keeps (M.Call target called args) at a next holds nexts = holds
  walked_keeps M.Return at a next holds nexts = holds
  walked_keeps M.Reject at a next holds nexts = holds
  walked_keeps (M.Trap t) at a next holds nexts = holds

  walk_keeps : (is : List Instruction) (at skip : ℕ) (vars slots : List Value) →
      Inside (λ v. list_any (instruction_writes v) is) set → P vars → P (walk is at skip vars slots).vars
  walk_keeps [] at skip vars slots writes holds = holds
  walk_keeps (i ∷ is) at (suc skip) vars slots writes holds =
      walk_keeps is (suc at) skip vars slots
      (λ v h. writes v (or_right (instruction_writes v i) (list_any (instruction_writes v) is) h)) holds
  walk_keeps (i ∷ is) at zero vars slots writes holds =
      walked_keeps (acted i vars slots).move at (acted i vars slots) (walk is (suc at))
      (acted_keeps i vars slots (λ v h. writes v
      (or_left (instruction_writes v i) (list_any (instruction_writes v) is) h)) holds)
      (λ skip vs ss. walk_keeps is (suc at) skip vs ss
      (λ v h. writes v (or_right (instruction_writes v i) (list_any (instruction_writes v) is) h)))

  paid_keeps : (method budget at : ℕ) (vars slots : List Value) (end : End) → P vars →
      P (paid method budget at vars slots end).vars
  paid_keeps method zero at vars slots end holds = holds
  paid_keeps method (suc budget) at vars slots end holds = holds

  settled_keeps : (m : Method) (method budget : ℕ) (turn : ℕ → List Value → List Value → Stepped)
      (h : Halted) (move : Move) →
      ((to : ℕ) (vars slots : List Value) → P vars → P (turn to vars slots).vars) → P h.vars →
      P (settled m method budget turn h move).vars
  settled_keeps m method budget turn h (M.On many) turns holds = holds
  settled_keeps m method budget turn h (M.Back many) turns holds = turns (h.at - many) h.vars h.slots holds
  settled_keeps m method budget turn h (M.Call target called args) turns holds =
      paid_keeps method budget h.at h.vars h.slots (E.Call target called args false) holds
  settled_keeps m method budget turn h M.Return turns holds = holds
  settled_keeps m method budget turn h M.Reject turns holds = holds
  settled_keeps m method budget turn h (M.Trap t) turns holds = holds

  runs_keep : (m : Method) (method budget at : ℕ) (vars slots : List Value) →
      Inside (λ v. list_any (instruction_writes v) m.instructions) set → P vars →
      P (runs m method budget at vars slots).vars
  runs_keep m method zero at vars slots writes holds =
      let h : Halted = walk (drop at m.instructions) at 0 vars slots in
      settled_keeps m method zero (λ to vs ss. leaves method 0 vs E.Spent) h h.move (λ to vs ss holds. holds)
      (walk_keeps (drop at m.instructions) at 0 vars slots
      (rest_inside instruction_writes set m.instructions at writes) holds)
  runs_keep m method (suc left) at vars slots writes holds =
      let h : Halted = walk (drop at m.instructions) at 0 vars slots in
      settled_keeps m method (suc left) (runs m method left) h h.move
      (λ to vs ss. runs_keep m method left to vs ss writes)
      (walk_keeps (drop at m.instructions) at 0 vars slots
      (rest_inside instruction_writes set m.instructions at writes) holds)

  chosen_keeps : (m : Method) (method budget : ℕ) (r : Result (Option Head) Trap) (vars slots : List Value) →
      Inside (λ v. list_any (instruction_writes v) m.instructions) set → P vars →
      P (T.chosen m method budget r vars slots).vars
  chosen_keeps m method budget (Err t) vars slots writes holds = holds
  chosen_keeps m method budget (Ok None) vars slots writes holds = holds
  chosen_keeps m method budget (Ok (Some h)) vars slots writes holds = by h.early
    where
      called : (call : CallCode) (args : Result (List Value) Trap) →
          P (called_early method h.start budget call args vars slots).vars
      called call (Err t) = holds
      called call (Ok args) = holds

      by : (o : Option CallCode) → P (T.begun m method budget h.start o vars slots).vars
      by None = runs_keep m method budget h.start vars slots writes holds
      by (Some call) = called call (arguments call.args vars slots)

  entered_keeps : (m : Method) (method budget : ℕ) (entry : Entry) (vars slots : List Value) →
      Inside (λ v. list_any (instruction_writes v) m.instructions) set → P vars →
      P (entered m method budget entry vars slots).vars
  entered_keeps m method budget N.Total vars slots writes holds =
      runs_keep m method budget 0 vars slots writes holds
  entered_keeps m method budget (N.Partial hs) vars slots writes holds =
      chosen_keeps m method budget (chosen_head hs vars slots) vars slots writes holds

  placed_keeps : (m : Method) (method budget place : ℕ) (vars slots : List Value) →
      Inside (λ v. list_any (instruction_writes v) m.instructions) set → P vars →
      P (from_place m method budget place vars slots).vars
  placed_keeps m method budget zero vars slots writes holds =
      entered_keeps m method budget m.entry vars slots writes holds
  placed_keeps m method budget (suc at) vars slots writes holds =
      runs_keep m method budget at vars slots writes holds

-- a variable that isn't the one that is set stays
set_other : (vars : List Value) (n v : ℕ) (x : Value) → (n ≡ v → ⊥) →
    slice_get (slice_set vars n x) v ≡ slice_get vars v
set_other [] n v x h = refl
set_other (a ∷ vars) zero zero x h = absurd (h refl)
set_other (a ∷ vars) zero (suc v) x h = refl
set_other (a ∷ vars) (suc n) zero x h = refl
set_other (a ∷ vars) (suc n) (suc v) x h = set_other vars n v x (λ e. h (omega (arith, e)))

-- a step leaves a variable that its code doesn't write
pub placed_stays : (m : Method) (method budget place : ℕ) (vars slots : List Value) (at : ℕ) →
    list_any (instruction_writes at) m.instructions ≡ false →
    slice_get (from_place m method budget place vars slots).vars at ≡ slice_get vars at
placed_stays m method budget place vars slots at free =
    placed_keeps (λ vs. slice_get vs at ≡ slice_get vars at)
    (λ v. list_any (instruction_writes v) m.instructions)
    (record { put = λ vs n x in_set holds. set_other vs n at x (other n in_set) ∙ holds }) m method budget
    place vars slots (λ v h. h) refl
  where
    other : (n : ℕ) → list_any (instruction_writes n) m.instructions ≡ true → n ≡ at → ⊥
    other n h e = true_false (sym h ∙ (ap (λ k. list_any (instruction_writes k) m.instructions) e ∙ free))
      where
        true_false : true ≡ false → ⊥
        true_false h = cc

-- a step leaves as many variables
pub placed_many : (m : Method) (method budget place : ℕ) (vars slots : List Value) →
    length (from_place m method budget place vars slots).vars ≡ length vars
placed_many m method budget place vars slots =
    placed_keeps (λ vs. length vs ≡ length vars) (λ v. true)
    (record { put = λ vs n x in_set holds. length-set vs n x ∙ holds }) m method budget place vars slots
    (λ v h. refl) refl
