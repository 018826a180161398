-- How a step of compiled code may end.
use Rattle.std.proofs.Common.{◌≡◌, ℕ, zero, suc, ◌-◌, ◌≤◌, ◌<◌, Bool, true, false, if◌then◌else◌, List, []}
use Rattle.std.proofs.Common.{◌∷◌, drop, Option, None, Some, Result, Ok, Err, refl, arith}
use Rattle.seuss_base.specs.declared.outcome.Trap.{Trap}
use Rattle.seuss_program.specs.declared.program.Program.{Program}
use Rattle.seuss_program.specs.declared.tree.Ref.{Ref}
use Rattle.seuss_program.specs.declared.tree.Ref.TheVariants as R
use Rattle.seuss_program.specs.declared.state.Value.{Value}
use Rattle.seuss_program.specs.Programs.{level_of, target_of}
use Rattle.seuss_program.specs.Values.{Evaluated, value, bool_of}
use Rattle.seuss_program.specs.Bodies.{arguments}
use Rattle.seuss_program.specs.Keeping.{is_total, is_partial}
use Rattle.method_code.specs.declared.instruction.Instruction.{Instruction}
use Rattle.method_code.specs.declared.instruction.Instruction.TheVariants as I
use Rattle.method_code.specs.declared.instruction.CallCode.{CallCode}
use Rattle.method_code.specs.declared.instruction.Move.{Move}
use Rattle.method_code.specs.declared.instruction.Move.TheVariants as M
use Rattle.method_code.specs.declared.method.Method.{Method}
use Rattle.method_code.specs.declared.method.Entry.TheVariants as N
use Rattle.method_code.specs.declared.method.Head.{Head}
use Rattle.method_code.specs.declared.frame.End.{End}
use Rattle.method_code.specs.declared.frame.End.TheVariants as E
use Rattle.method_code.specs.Steps as T
use Rattle.method_code.specs.Steps.{Acted, acted, put, put_value, taken, decided, called_with, Halted, walk}
use Rattle.method_code.specs.Steps.{walked, Stepped, leaves, waits, paid, settled, runs, chosen_head}
use Rattle.method_code.specs.Steps.{judged_head, called_early, entered}
use Rattle.method_code.proofs.CodeCalls.{FormAt, EarlyAt, CallsTotal, EachTotal, EachEarly, each_drop}

-- a step that calls: its procedure waits after the instruction that takes the result
pub record Calls (p : Program) (box method target called : ℕ) (s : Stepped) : Type 0 where
  pub total : FormAt p is_total (target_of p box (R.Given target)) called
  pub place : 2 ≤ s.frame.place
  pub same : s.frame.method ≡ method

-- a step that calls a preprocedure
pub record CallsEarly (p : Program) (box method target called budget : ℕ) (vars : List Value) (s : Stepped)
    : Type 0 where
  pub partial : FormAt p is_partial (target_of p box (R.Given target)) called
  pub below : level_of p (target_of p box (R.Given target)) < level_of p box
  pub place : 2 ≤ s.frame.place
  pub same : s.frame.method ≡ method
  pub idle : s.vars ≡ vars
  pub free : s.budget ≡ budget

module _ (p : Program) (box : ℕ) where
  -- how a step ends that begins at an instruction
  abbrev pub RunEnds : ℕ → ℕ → Stepped → End → Type 0
  RunEnds method budget s (E.Call target called args true) = ⊥
  RunEnds method budget s (E.Call target called args false) =
      Calls p box method target called s × (s.budget < budget)
  RunEnds method budget s (E.Returned found) = s.budget ≤ budget
  RunEnds method budget s E.RejectedPlain = ⊥
  RunEnds method budget s E.Rejected = s.budget ≤ budget
  RunEnds method budget s (E.Trapped t) = s.budget ≤ budget
  RunEnds method budget s E.Spent = s.budget ≤ budget

  -- how a step ends that begins with a choice
  abbrev pub FreshEnds : ℕ → ℕ → List Value → Stepped → End → Type 0
  FreshEnds method budget vars s (E.Call target called args true) =
      CallsEarly p box method target called budget vars s
  FreshEnds method budget vars s (E.Call target called args false) =
      Calls p box method target called s × (s.budget < budget)
  FreshEnds method budget vars s (E.Returned found) = s.budget ≤ budget
  FreshEnds method budget vars s E.RejectedPlain = (s.vars ≡ vars) × (s.budget ≡ budget)
  FreshEnds method budget vars s E.Rejected = s.budget ≤ budget
  FreshEnds method budget vars s (E.Trapped t) = s.budget ≤ budget
  FreshEnds method budget vars s E.Spent = s.budget ≤ budget

  -- a run ends as a step may
  fresh_runs : (method budget : ℕ) (vars : List Value) (s : Stepped) (end : End) →
      RunEnds method budget s end → FreshEnds method budget vars s end
  fresh_runs method budget vars s (E.Call target called args true) r = absurd r
  fresh_runs method budget vars s (E.Call target called args false) r = r
  fresh_runs method budget vars s (E.Returned found) r = r
  fresh_runs method budget vars s E.RejectedPlain r = absurd r
  fresh_runs method budget vars s E.Rejected r = r
  fresh_runs method budget vars s (E.Trapped t) r = r
  fresh_runs method budget vars s E.Spent r = r

  -- and so with more budget
  dearer : (method budget : ℕ) (s : Stepped) (end : End) → RunEnds method budget s end →
      RunEnds method (suc budget) s end
  dearer method budget s (E.Call target called args true) r = absurd r
  dearer method budget s (E.Call target called args false) r = (r.0, omega (arith, r.1))
  dearer method budget s (E.Returned found) r = omega (arith, r)
  dearer method budget s E.RejectedPlain r = absurd r
  dearer method budget s E.Rejected r = omega (arith, r)
  dearer method budget s (E.Trapped t) r = omega (arith, r)
  dearer method budget s E.Spent r = omega (arith, r)

  -- a move that calls calls a total method
  abbrev MoveTotal : Move → Type 0
  MoveTotal (M.On many) = Unit {0}
  MoveTotal (M.Back many) = Unit {0}
  MoveTotal (M.Call target called args) = FormAt p is_total (target_of p box (R.Given target)) called
  MoveTotal M.Return = Unit {0}
  MoveTotal M.Reject = Unit {0}
  MoveTotal (M.Trap t) = Unit {0}

  -- a name that takes a value calls nothing
  put_total : (name : Ref) (v : Value) (vars slots : List Value) → MoveTotal (put name v vars slots).move
  put_total (R.Var k) v vars slots = tt
  put_total (R.Slot k) v vars slots = tt
  put_total (R.Given k) v vars slots = tt
  put_total (R.Method k) v vars slots = tt
  put_total (R.Cat k) v vars slots = tt

  -- an instruction calls a total method, if any
  acted_total : (i : Instruction) → CallsTotal p box i → (vars slots : List Value) →
      MoveTotal (acted i vars slots).move
  acted_total (I.Set name e) c vars slots = by (value e vars slots)
    where
      by : (ev : Evaluated) → MoveTotal (put_value name ev vars slots).move
      by (Err t) = tt
      by (Ok v) = put_total name v vars slots
  acted_total (I.SkipUnless cond many) c vars slots = by (value cond vars slots)
    where
      either : (b : Bool) → MoveTotal (if b then M.On 0 else M.On many)
      either true = tt
      either false = tt

      by : (ev : Evaluated) → MoveTotal (decided ev (M.On 0) (M.On many))
      by (Err t) = tt
      by (Ok v) = either (bool_of v)
  acted_total (I.Skip many) c vars slots = tt
  acted_total (I.Again cond many) c vars slots = by (value cond vars slots)
    where
      either : (b : Bool) → MoveTotal (if b then M.Back many else M.On 0)
      either true = tt
      either false = tt

      by : (ev : Evaluated) → MoveTotal (decided ev (M.Back many) (M.On 0))
      by (Err t) = tt
      by (Ok v) = either (bool_of v)
  acted_total (I.Call call) c vars slots = by (arguments call.args vars slots)
    where
      by : (args : Result (List Value) Trap) → MoveTotal (called_with call args)
      by (Err t) = tt
      by (Ok args) = c
  acted_total (I.Take None) c vars slots = tt
  acted_total (I.Take (Some name)) c vars slots = put_total name _ vars _
  acted_total I.Return c vars slots = tt
  acted_total I.Reject c vars slots = tt

  -- so does what a walk halts at
  walked_total : (move : Move) (at : ℕ) (a : Acted) (next : ℕ → List Value → List Value → Halted) →
      MoveTotal a.move →
      ((skip : ℕ) (vars slots : List Value) → MoveTotal (next skip vars slots).move) →
      MoveTotal (walked move at a next).move
  walked_total (M.On many) at a next here there = there many a.vars a.slots
  walked_total (M.Back many) at a next here there = here
  walked_total (M.Call target called args) at a next here there = here
  walked_total M.Return at a next here there = here
  walked_total M.Reject at a next here there = here
  walked_total (M.Trap t) at a next here there = here

  -- so does a walk
  walk_total : (is : List Instruction) (at skip : ℕ) (vars slots : List Value) → EachTotal p box is →
      MoveTotal (walk is at skip vars slots).move
  walk_total [] at skip vars slots each = tt
  walk_total (i ∷ is) at (suc skip) vars slots each = walk_total is (suc at) skip vars slots each.1
  walk_total (i ∷ is) at zero vars slots each =
      walked_total (acted i vars slots).move at (acted i vars slots) (walk is (suc at))
      (acted_total i each.0 vars slots) (λ skip vs ss. walk_total is (suc at) skip vs ss each.1)

  -- a paid call ends a step
  paid_ends : (method budget : ℕ) (h : Halted) (target called : ℕ) (args : List Value) →
      FormAt p is_total (target_of p box (R.Given target)) called →
      RunEnds method budget (paid method budget h.at h.vars h.slots (E.Call target called args false))
      (paid method budget h.at h.vars h.slots (E.Call target called args false)).end
  paid_ends method zero h target called args total = omega arith
  paid_ends method (suc budget) h target called args total =
      (record { total = total; place = omega arith; same = refl }, omega arith)

  -- what a walk halts at ends a step
  settled_ends : (m : Method) (method budget : ℕ) (turn : ℕ → List Value → List Value → Stepped)
      (h : Halted) (move : Move) → MoveTotal move →
      ((to : ℕ) (vars slots : List Value) → RunEnds method budget (turn to vars slots)
      (turn to vars slots).end) →
      RunEnds method budget (settled m method budget turn h move) (settled m method budget turn h move).end
  settled_ends m method budget turn h (M.On many) total turns = omega arith
  settled_ends m method budget turn h (M.Back many) total turns = turns (h.at - many) h.vars h.slots
  settled_ends m method budget turn h (M.Call target called args) total turns =
      paid_ends method budget h target called args total
  settled_ends m method budget turn h M.Return total turns = omega arith
  settled_ends m method budget turn h M.Reject total turns = omega arith
  settled_ends m method budget turn h (M.Trap t) total turns = omega arith

  -- how a step from an instruction ends
  pub runs_end : (m : Method) (method budget at : ℕ) (vars slots : List Value) →
      EachTotal p box m.instructions →
      RunEnds method budget (runs m method budget at vars slots) (runs m method budget at vars slots).end
  runs_end m method zero at vars slots each =
      let h : Halted = walk (drop at m.instructions) at 0 vars slots in
      settled_ends m method zero (λ to vs ss. leaves method 0 vs E.Spent) h h.move
      (walk_total (drop at m.instructions) at 0 vars slots (each_drop p box at m.instructions each))
      (λ to vs ss. omega arith)
  runs_end m method (suc budget) at vars slots each =
      let h : Halted = walk (drop at m.instructions) at 0 vars slots in
      settled_ends m method (suc budget) (runs m method budget) h h.move
      (walk_total (drop at m.instructions) at 0 vars slots (each_drop p box at m.instructions each))
      (λ to vs ss. dearer method budget (runs m method budget to vs ss) (runs m method budget to vs ss).end
      (runs_end m method budget to vs ss each))

  -- the chosen alternative, where it begins with a call, calls down
  abbrev HeadEarly : Result (Option Head) Trap → Type 0
  HeadEarly (Err t) = Unit {0}
  HeadEarly (Ok None) = Unit {0}
  HeadEarly (Ok (Some h)) = (call : CallCode) → h.early ≡ Some call → EarlyAt p box call

  -- a chosen head calls a procedure that may reject
  head_early : (hs : List Head) (vars slots : List Value) → EachEarly p box hs →
      HeadEarly (chosen_head hs vars slots)
  head_early [] vars slots each = tt
  head_early (h ∷ hs) vars slots each = by (value h.cond vars slots) (head_early hs vars slots each.1)
    where
      either : (b : Bool) → HeadEarly (chosen_head hs vars slots) →
          HeadEarly (if b then Ok (Some h) else chosen_head hs vars slots)
      either true others = each.0
      either false others = others

      by : (ev : Evaluated) → HeadEarly (chosen_head hs vars slots) →
          HeadEarly (judged_head ev h (chosen_head hs vars slots))
      by (Err t) others = tt
      by (Ok v) others = either (bool_of v) others

  -- how a choice ends
  chosen_ends : (m : Method) (method budget : ℕ) (r : Result (Option Head) Trap) (vars slots : List Value) →
      EachTotal p box m.instructions → HeadEarly r →
      FreshEnds method budget vars (T.chosen m method budget r vars slots)
      (T.chosen m method budget r vars slots).end
  chosen_ends m method budget (Err t) vars slots each ok = omega arith
  chosen_ends m method budget (Ok None) vars slots each ok = (refl, refl)
  chosen_ends m method budget (Ok (Some h)) vars slots each ok = by h.early ok
    where
      called : (call : CallCode) → EarlyAt p box call → (args : Result (List Value) Trap) →
          FreshEnds method budget vars (called_early method h.start budget call args vars slots)
          (called_early method h.start budget call args vars slots).end
      called call early (Err t) = omega arith
      called call early (Ok args) = record {
        partial = early.partial;
        below = early.below;
        place = omega arith;
        same = refl;
        idle = refl;
        free = refl;
      }

      by : (o : Option CallCode) → ((call : CallCode) → o ≡ Some call → EarlyAt p box call) →
          FreshEnds method budget vars (T.begun m method budget h.start o vars slots)
          (T.begun m method budget h.start o vars slots).end
      by None ok = fresh_runs method budget vars (runs m method budget h.start vars slots)
          (runs m method budget h.start vars slots).end (runs_end m method budget h.start vars slots each)
      by (Some call) ok = called call (ok call refl) (arguments call.args vars slots)

  -- how a step from an entry ends
  pub fresh_ends : (m : Method) (method budget : ℕ) (hs : List Head) (vars slots : List Value) →
      EachTotal p box m.instructions → EachEarly p box hs →
      FreshEnds method budget vars (entered m method budget (N.Partial hs) vars slots)
      (entered m method budget (N.Partial hs) vars slots).end
  fresh_ends m method budget hs vars slots each early =
      chosen_ends m method budget (chosen_head hs vars slots) vars slots each
      (head_early hs vars slots early)
