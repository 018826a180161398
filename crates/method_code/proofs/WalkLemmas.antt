-- How a run of instructions goes from one to the next.
use Rattle.std.proofs.Common.{◌≡◌, ℕ, zero, suc, ◌+◌, ◌<◌, List, [], ◌∷◌, length, Option, Some, None}
use Rattle.std.proofs.Common.{Result, Ok, refl, sym, ap, subst, ◌∙◌, arith, get_or, drop, drop-cons, Bool}
use Rattle.std.proofs.Common.{false, if◌then◌else◌}
use Rattle.std.specs.Prelude.{slice_get, unwrap_or}
use Rattle.std.proofs.lemmas.List.{drop-drop}
use Rattle.std.proofs.lemmas.Option.{none-some}
use Rattle.seuss_base.specs.declared.memory.Memory.{Memory}
use Rattle.seuss_program.specs.declared.state.Value.{Value}
use Rattle.method_code.specs.declared.instruction.Instruction.{Instruction}
use Rattle.method_code.specs.declared.instruction.Move.{Move}
use Rattle.method_code.specs.declared.instruction.Move.TheVariants as M
use Rattle.method_code.specs.Answers.{Acts}
use Rattle.seuss_base.specs.declared.outcome.Trap.{Trap}
use Rattle.seuss_program.specs.Values.{Evaluated, value, bool_of}
use Rattle.method_code.specs.declared.method.Method.{Method}
use Rattle.method_code.specs.declared.method.Head.{Head}
use Rattle.method_code.specs.declared.frame.End.TheVariants as E
use Rattle.method_code.specs.Steps.{Acted, Halted, acts, acted, walk, walked, halts, leaves, paid, settled}
use Rattle.method_code.specs.Steps.{runs, chosen_head, judged_head}

-- instructions that are passed over
pub walk-skip : (is : List Instruction) (at skip : ℕ) (vars slots : List Value) →
    walk is at skip vars slots ≡ walk (drop skip is) (at + skip) 0 vars slots
walk-skip [] at zero vars slots = let e : at + 0 ≡ at + 0 + 0 = omega arith in
    ap (λ n. halts n (acts vars slots M.Reject)) e
walk-skip [] at (suc skip) vars slots = let e : at + suc skip ≡ at + suc skip + 0 = omega arith in
    ap (λ n. halts n (acts vars slots M.Reject)) e
walk-skip (i ∷ is) at zero vars slots = let e : at ≡ at + 0 = omega arith in
    ap (λ n. walk (i ∷ is) n 0 vars slots) e
walk-skip (i ∷ is) at (suc skip) vars slots =
    let e : suc at + skip ≡ at + suc skip = omega arith in
    walk-skip is (suc at) skip vars slots ∙ ap (λ n. walk (drop skip is) n 0 vars slots) e

-- what stands at a place begins the rest from there
pub drop-at : {X : Type 0} (is : List X) (at : ℕ) (i : X) → slice_get is at ≡ Some i →
    drop at is ≡ i ∷ drop (suc at) is
drop-at [] at i h = absurd (none-some i h)
drop-at (j ∷ is) zero i h = ap (λ o. unwrap_or o j ∷ is) h
drop-at (j ∷ is) (suc at) i h = drop-at is at i h

-- the code from a place begins with what stands there
pub drop-item : {X : Type 0} (is : List X) (at : ℕ) (i : X) → at < length is → i ≡ get_or is at i →
    drop at is ≡ i ∷ drop (suc at) is
drop-item is at i within is_it = drop-cons is at i within ∙ ap (λ x. x ∷ drop (suc at) is) (sym is_it)

-- after the last place nothing stands
pub drop-past : {X : Type 0} (is : List X) (at : ℕ) → slice_get is at ≡ None → drop at is ≡ []
drop-past [] zero h = refl
drop-past [] (suc at) h = refl
drop-past (j ∷ is) zero h = absurd (none-some j (sym h))
drop-past (j ∷ is) (suc at) h = drop-past is at h

-- an instruction that was done
pub acts-so : (r : Result Move Memory) (a : Acted) (vars slots : List Value) (move : Move) → r ≡ Ok move →
    Acts r a vars slots → a ≡ acts vars slots move
acts-so r a vars slots move h does = subst (λ (r : Result Move Memory). Acts r a vars slots) h does

module _ (is : List Instruction) (at : ℕ) (vars slots : List Value) where
  -- an instruction that goes on to a later one
  pub walk-on : (i : Instruction) (vars' slots' : List Value) (many : ℕ) →
      drop at is ≡ i ∷ drop (suc at) is → acted i vars slots ≡ acts vars' slots' (M.On many) →
      walk (drop at is) at 0 vars slots ≡ walk (drop (at + 1 + many) is) (at + 1 + many) 0 vars' slots'
  walk-on i vars' slots' many h does =
      let e : suc at + many ≡ at + 1 + many = omega arith in
      ap (λ xs. walk xs at 0 vars slots) h
      ∙ (ap (λ (a : Acted). walked a.move at a (walk (drop (suc at) is) (suc at))) does
      ∙ (walk-skip (drop (suc at) is) (suc at) many vars' slots'
      ∙ (ap (λ xs. walk xs (suc at + many) 0 vars' slots') (drop-drop many (suc at) is)
      ∙ ap (λ n. walk (drop n is) n 0 vars' slots') e)))

  -- an instruction that halts
  pub walk-halts : (i : Instruction) (a : Acted) → drop at is ≡ i ∷ drop (suc at) is →
      acted i vars slots ≡ a →
      ((next : ℕ → List Value → List Value → Halted) → walked a.move at a next ≡ halts at a) →
      walk (drop at is) at 0 vars slots ≡ halts at a
  walk-halts i a h does halted =
      ap (λ xs. walk xs at 0 vars slots) h
      ∙ (ap (λ (a : Acted). walked a.move at a (walk (drop (suc at) is) (suc at))) does
      ∙ halted (walk (drop (suc at) is) (suc at)))

  -- after the last instruction
  pub walk-ends : slice_get is at ≡ None → walk (drop at is) at 0 vars slots
      ≡ halts at (acts vars slots M.Reject)
  walk-ends h =
      let e : at + 0 ≡ at = omega arith in
      ap (λ xs. walk xs at 0 vars slots) (drop-past is at h) ∙ ap (λ n. halts n (acts vars slots M.Reject)) e

-- instructions that halt at a call
pub runs-calls : (m : Method) (method budget at : ℕ) (vars slots : List Value) (at' : ℕ)
    (vars' slots' : List Value) (target called : ℕ) (args : List Value) →
    walk (drop at m.instructions) at 0 vars slots
    ≡ record { at = at'; vars = vars'; slots = slots'; move = M.Call target called args } →
    runs m method budget at vars slots ≡ paid method budget at' vars' slots'
    (E.Call target called args false)
runs-calls m method zero at vars slots at' vars' slots' target called args h =
    ap (λ (h : Halted). settled m method 0 (λ to vs ss. leaves method 0 vs E.Spent) h h.move) h
runs-calls m method (suc budget) at vars slots at' vars' slots' target called args h =
    ap (λ (h : Halted). settled m method (suc budget) (runs m method budget) h h.move) h

-- the alternatives from a place on: the one there, and then the others
pub head-from : (heads : List Head) (i : ℕ) (h : Head) (vars slots : List Value) → i < length heads →
    h ≡ get_or heads i h →
    chosen_head (drop i heads) vars slots ≡ judged_head (value h.cond vars slots) h
    (chosen_head (drop (i + 1) heads) vars slots)
head-from heads i h vars slots within is =
    let n : i + 1 ≡ suc i = omega arith in
    ap (λ hs. chosen_head hs vars slots)
    (drop-cons heads i h within ∙ ap (λ x. x ∷ drop (suc i) heads) (sym is))
    ∙ ap (λ j. judged_head (value h.cond vars slots) h (chosen_head (drop j heads) vars slots)) (sym n)

-- a precondition that holds, fails or traps
pub judged-so : (e : Evaluated) (v : Value) (b : Bool) (head : Head) (others : Result (Option Head) Trap) →
    e ≡ Ok v → bool_of v ≡ b →
    judged_head e head others ≡ (if b then Ok (Some head) else others)
judged-so e v b head others is holds =
    ap (λ (e : Evaluated). judged_head e head others) is
    ∙ ap (λ (b : Bool). if b then Ok (Some head) else others) holds
