-- Steps of code on variables that agree where the code reads them.
use Rattle.std.proofs.Common.{◌≡◌, ℕ, zero, suc, ◌-◌, Bool, true, false, if◌then◌else◌, List, [], ◌∷◌, drop}
use Rattle.std.proofs.Common.{Option, None, Some, Result, Ok, Err, refl, ap, ◌∙◌, subst}
use Rattle.std.specs.Prelude.{slice_get, slice_set}
use Rattle.seuss_base.specs.declared.outcome.Trap.{Trap}
use Rattle.std.specs.List.{list_any}
use Rattle.seuss_program.specs.declared.tree.Ref.{Ref}
use Rattle.seuss_program.specs.declared.tree.Ref.TheVariants as R
use Rattle.seuss_program.specs.declared.state.Value.{Value}
use Rattle.seuss_program.specs.declared.state.Value.TheVariants as V
use Rattle.seuss_program.specs.Values.{Evaluated, value, bool_of}
use Rattle.seuss_program.specs.Bodies.{arguments}
use Rattle.method_code.specs.declared.instruction.CallCode.{CallCode}
use Rattle.method_code.specs.declared.instruction.Instruction.{Instruction}
use Rattle.method_code.specs.declared.instruction.Instruction.TheVariants as I
use Rattle.method_code.specs.declared.instruction.Move.{Move}
use Rattle.method_code.specs.declared.instruction.Move.TheVariants as M
use Rattle.method_code.specs.declared.method.Method.{Method}
use Rattle.method_code.specs.declared.method.Entry.{Entry}
use Rattle.method_code.specs.declared.method.Entry.TheVariants as N
use Rattle.method_code.specs.declared.method.Head.{Head}
use Rattle.method_code.specs.declared.frame.End.{End}
use Rattle.method_code.specs.declared.frame.End.TheVariants as E
use Rattle.method_code.specs.Steps as T
use Rattle.method_code.specs.Steps.{Acted, acted, acts, put, put_value, decided, called_with, last_number}
use Rattle.method_code.specs.Steps.{all_but_last, Halted, walk, walked, Stepped, leaves, paid, settled}
use Rattle.method_code.specs.Steps.{runs, chosen_head, judged_head, called_early, entered, from_place}
use Rattle.effect_sets.specs.Effects.{mentions, any_mentions}
use Rattle.effect_sets.proofs.Agreeing.{Near, or_left, or_right, value_same, arguments_same}
use Rattle.effect_sets.proofs.CodeSets.{Inside, rest_inside, instruction_reads, early_mentions, head_tests}
use Rattle.effect_sets.proofs.CodeSets.{entry_tests}

-- a variable that is set: both lists keep what they have there, or have the new value
set_near : (vars others : List Value) (n v : ℕ) (x : Value) → slice_get vars v ≡ slice_get others v →
    slice_get (slice_set vars n x) v ≡ slice_get (slice_set others n x) v
set_near [] [] n v x h = h
set_near [] (o ∷ others) zero zero x h = absurd (none_some h)
  where
    none_some : None ≡ Some o → ⊥
    none_some h = cc
set_near [] (o ∷ others) zero (suc v) x h = h
set_near [] (o ∷ others) (suc n) zero x h = h
set_near [] (o ∷ others) (suc n) (suc v) x h = set_near [] others n v x h
set_near (a ∷ vars) [] zero zero x h = absurd (some_none h)
  where
    some_none : Some a ≡ None → ⊥
    some_none h = cc
set_near (a ∷ vars) [] zero (suc v) x h = h
set_near (a ∷ vars) [] (suc n) zero x h = h
set_near (a ∷ vars) [] (suc n) (suc v) x h = set_near vars [] n v x h
set_near (a ∷ vars) (o ∷ others) zero zero x h = refl
set_near (a ∷ vars) (o ∷ others) zero (suc v) x h = h
set_near (a ∷ vars) (o ∷ others) (suc n) zero x h = h
set_near (a ∷ vars) (o ∷ others) (suc n) (suc v) x h = set_near vars others n v x h

module _ (set : ℕ → Bool) where
  -- what an instruction leaves is alike on both
  record Alike (a b : Acted) : Type 0 where
    vars : Near set a.vars b.vars
    slots : a.slots ≡ b.slots
    move : a.move ≡ b.move

  put_alike : (name : Ref) (x : Value) (vars others slots : List Value) → Near set vars others →
      Alike (put name x vars slots) (put name x others slots)
  put_alike (R.Var n) x vars others slots near =
      record { vars = λ v h. set_near vars others n v x (near v h); slots = refl; move = refl }
  put_alike (R.Slot n) x vars others slots near = record { vars = near; slots = refl; move = refl }
  put_alike (R.Given n) x vars others slots near = record { vars = near; slots = refl; move = refl }
  put_alike (R.Method n) x vars others slots near = record { vars = near; slots = refl; move = refl }
  put_alike (R.Cat n) x vars others slots near = record { vars = near; slots = refl; move = refl }

  value_alike : (name : Ref) (m : Evaluated) (vars others slots : List Value) → Near set vars others →
      Alike (put_value name m vars slots) (put_value name m others slots)
  value_alike name (Err t) vars others slots near = record { vars = near; slots = refl; move = refl }
  value_alike name (Ok x) vars others slots near = put_alike name x vars others slots near

  acted_alike : (i : Instruction) (vars others slots : List Value) →
      Inside (λ v. instruction_reads v i) set → Near set vars others →
      Alike (acted i vars slots) (acted i others slots)
  acted_alike (I.Set name e) vars others slots reads near =
      subst (λ (m : Evaluated). Alike (put_value name (value e vars slots) vars slots)
      (put_value name m others slots)) (value_same vars others slots e (λ v h. near v (reads v h)))
      (value_alike name (value e vars slots) vars others slots near)
  acted_alike (I.SkipUnless cond many) vars others slots reads near = record {
    vars = near;
    slots = refl;
    move = ap (λ m. decided m (M.On 0) (M.On many))
        (value_same vars others slots cond (λ v h. near v (reads v h)));
  }
  acted_alike (I.Skip many) vars others slots reads near = record { vars = near; slots = refl; move = refl }
  acted_alike (I.Again cond many) vars others slots reads near = record {
    vars = near;
    slots = refl;
    move = ap (λ m. decided m (M.Back many) (M.On 0))
        (value_same vars others slots cond (λ v h. near v (reads v h)));
  }
  acted_alike (I.Call call) vars others slots reads near = record {
    vars = near;
    slots = refl;
    move = ap (called_with call) (arguments_same vars others slots call.args (λ v h. near v (reads v h)));
  }
  acted_alike (I.Take None) vars others slots reads near = record { vars = near; slots = refl; move = refl }
  acted_alike (I.Take (Some name)) vars others slots reads near =
      put_alike name (V.Int (last_number slots)) vars others (all_but_last slots) near
  acted_alike I.Return vars others slots reads near = record { vars = near; slots = refl; move = refl }
  acted_alike I.Reject vars others slots reads near = record { vars = near; slots = refl; move = refl }

  -- where instructions halt is alike on both
  record Halts (a b : Halted) : Type 0 where
    at : a.at ≡ b.at
    vars : Near set a.vars b.vars
    slots : a.slots ≡ b.slots
    move : a.move ≡ b.move

  walked_alike : (move : Move) (at : ℕ) (a b : Acted) (next : ℕ → List Value → List Value → Halted) →
      Alike a b → a.move ≡ move →
      ((skip : ℕ) (vars others slots : List Value) → Near set vars others →
      Halts (next skip vars slots) (next skip others slots)) →
      Halts (walked move at a next) (walked move at b next)
  walked_alike (M.On many) at a b next alike is nexts =
      subst (λ (slots : List Value). Halts (next many a.vars a.slots) (next many b.vars slots)) alike.slots
      (nexts many a.vars b.vars a.slots alike.vars)
  walked_alike (M.Back many) at a b next alike is nexts =
      record { at = refl; vars = alike.vars; slots = alike.slots; move = alike.move }
  walked_alike (M.Call target called args) at a b next alike is nexts =
      record { at = refl; vars = alike.vars; slots = alike.slots; move = alike.move }
  walked_alike M.Return at a b next alike is nexts =
      record { at = refl; vars = alike.vars; slots = alike.slots; move = alike.move }
  walked_alike M.Reject at a b next alike is nexts =
      record { at = refl; vars = alike.vars; slots = alike.slots; move = alike.move }
  walked_alike (M.Trap t) at a b next alike is nexts =
      record { at = refl; vars = alike.vars; slots = alike.slots; move = alike.move }

  walk_alike : (is : List Instruction) (at skip : ℕ) (vars others slots : List Value) →
      Inside (λ v. list_any (instruction_reads v) is) set → Near set vars others →
      Halts (walk is at skip vars slots) (walk is at skip others slots)
  walk_alike [] at skip vars others slots reads near =
      record { at = refl; vars = near; slots = refl; move = refl }
  walk_alike (i ∷ is) at (suc skip) vars others slots reads near =
      walk_alike is (suc at) skip vars others slots
      (λ v h. reads v (or_right (instruction_reads v i) (list_any (instruction_reads v) is) h)) near
  walk_alike (i ∷ is) at zero vars others slots reads near =
      let a : Acted = acted i vars slots in
      let b : Acted = acted i others slots in
      let alike : Alike a b = acted_alike i vars others slots
      (λ v h. reads v (or_left (instruction_reads v i) (list_any (instruction_reads v) is) h)) near in
      subst (λ (move : Move). Halts (walked a.move at a (walk is (suc at)))
      (walked move at b (walk is (suc at)))) alike.move
      (walked_alike a.move at a b (walk is (suc at)) alike refl
      (λ skip vs os ss near. walk_alike is (suc at) skip vs os ss
      (λ v h. reads v (or_right (instruction_reads v i) (list_any (instruction_reads v) is) h)) near))

  -- what a step leaves is alike on both
  pub record Steps (s t : Stepped) : Type 0 where
    pub vars : Near set s.vars t.vars
    pub frame : s.frame ≡ t.frame
    pub budget : s.budget ≡ t.budget
    pub end : s.end ≡ t.end

  leaves_alike : (method budget : ℕ) (vars others : List Value) (end end' : End) → Near set vars others →
      end ≡ end' → Steps (leaves method budget vars end) (leaves method budget others end')
  leaves_alike method budget vars others end end' near is =
      record { vars = near; frame = refl; budget = refl; end = is }

  paid_alike : (method budget at : ℕ) (vars others slots : List Value) (end : End) → Near set vars others →
      Steps (paid method budget at vars slots end) (paid method budget at others slots end)
  paid_alike method zero at vars others slots end near =
      record { vars = near; frame = refl; budget = refl; end = refl }
  paid_alike method (suc budget) at vars others slots end near =
      record { vars = near; frame = refl; budget = refl; end = refl }

  abbrev Turns : (ℕ → List Value → List Value → Stepped) → Type 0
  Turns turn = (to : ℕ) (vars others slots : List Value) → Near set vars others →
      Steps (turn to vars slots) (turn to others slots)

  settled_alike : (m : Method) (method budget : ℕ) (turn : ℕ → List Value → List Value → Stepped) (at : ℕ)
      (vars others slots : List Value) (move : Move) → Turns turn → Near set vars others →
      Steps (settled m method budget turn (record { at = at; vars = vars; slots = slots; move = move }) move)
      (settled m method budget turn (record { at = at; vars = others; slots = slots; move = move }) move)
  settled_alike m method budget turn at vars others slots (M.On many) turns near =
      leaves_alike method budget vars others E.Rejected E.Rejected near refl
  settled_alike m method budget turn at vars others slots (M.Back many) turns near =
      turns (at - many) vars others slots near
  settled_alike m method budget turn at vars others slots (M.Call target called args) turns near =
      paid_alike method budget at vars others slots (E.Call target called args false) near
  settled_alike m method budget turn at vars others slots M.Return turns near =
      leaves_alike method budget vars others _ _ near refl
  settled_alike m method budget turn at vars others slots M.Reject turns near =
      leaves_alike method budget vars others E.Rejected E.Rejected near refl
  settled_alike m method budget turn at vars others slots (M.Trap t) turns near =
      leaves_alike method budget vars others (E.Trapped t) (E.Trapped t) near refl

  -- instructions that have halted in the same place, with the same slots
  halted_alike : (m : Method) (method budget : ℕ) (turn : ℕ → List Value → List Value → Stepped)
      (a b : Halted) → Turns turn → Halts a b →
      Steps (settled m method budget turn a a.move) (settled m method budget turn b b.move)
  halted_alike m method budget turn a b turns halts =
      let same : record { at = a.at; vars = b.vars; slots = a.slots; move = a.move } ≡ b =
      ap (λ (at : ℕ). record { at = at; vars = b.vars; slots = a.slots; move = a.move }) halts.at
      ∙ (ap (λ (slots : List Value). record { at = b.at; vars = b.vars; slots = slots; move = a.move })
      halts.slots
      ∙ ap (λ (move : Move). record { at = b.at; vars = b.vars; slots = b.slots; move = move }) halts.move)
      in
      subst (λ (h : Halted). Steps (settled m method budget turn a a.move)
      (settled m method budget turn h h.move)) same
      (settled_alike m method budget turn a.at a.vars b.vars a.slots a.move turns halts.vars)

  pub runs_alike : (m : Method) (method budget at : ℕ) (vars others slots : List Value) →
      Inside (λ v. list_any (instruction_reads v) m.instructions) set → Near set vars others →
      Steps (runs m method budget at vars slots) (runs m method budget at others slots)
  runs_alike m method zero at vars others slots reads near =
      halted_alike m method zero (λ to vs ss. leaves method 0 vs E.Spent)
      (walk (drop at m.instructions) at 0 vars slots) (walk (drop at m.instructions) at 0 others slots)
      (λ to vs os ss near. leaves_alike method 0 vs os E.Spent E.Spent near refl)
      (walk_alike (drop at m.instructions) at 0 vars others slots
      (rest_inside instruction_reads set m.instructions at reads) near)
  runs_alike m method (suc left) at vars others slots reads near =
      halted_alike m method (suc left) (runs m method left) (walk (drop at m.instructions) at 0 vars slots)
      (walk (drop at m.instructions) at 0 others slots)
      (λ to vs os ss near. runs_alike m method left to vs os ss reads near)
      (walk_alike (drop at m.instructions) at 0 vars others slots
      (rest_inside instruction_reads set m.instructions at reads) near)

  -- the same alternative is chosen
  pub chosen_same : (hs : List Head) (vars others slots : List Value) →
      Inside (λ v. list_any (head_tests v) hs) set → Near set vars others →
      chosen_head hs vars slots ≡ chosen_head hs others slots
  chosen_same [] vars others slots tests near = refl
  chosen_same (h ∷ hs) vars others slots tests near =
      ap (λ m. judged_head m h (chosen_head hs vars slots))
      (value_same vars others slots h.cond
      (λ v e. near v (tests v (or_left (head_tests v h) _ (or_left (mentions v h.cond) _ e)))))
      ∙ ap (judged_head (value h.cond others slots) h)
      (chosen_same hs vars others slots (λ v e. tests v (or_right (head_tests v h) _ e)) near)

  called_alike : (method start budget : ℕ) (call : CallCode) (args : Result (List Value) Trap)
      (vars others slots : List Value) → Near set vars others →
      Steps (called_early method start budget call args vars slots)
      (called_early method start budget call args others slots)
  called_alike method start budget call (Err t) vars others slots near =
      record { vars = near; frame = refl; budget = refl; end = refl }
  called_alike method start budget call (Ok args) vars others slots near =
      record { vars = near; frame = refl; budget = refl; end = refl }

  -- a preprocedure is called alike
  pub early_alike : (m : Method) (method budget start : ℕ) (call : CallCode)
      (vars others slots : List Value) → Inside (λ v. any_mentions v call.args) set → Near set vars others →
      Steps (T.begun m method budget start (Some call) vars slots)
      (T.begun m method budget start (Some call) others slots)
  early_alike m method budget start call vars others slots tests near =
      subst (λ (args : Result (List Value) Trap). Steps
      (called_early method start budget call (arguments call.args vars slots) vars slots)
      (called_early method start budget call args others slots))
      (arguments_same vars others slots call.args (λ v h. near v (tests v h)))
      (called_alike method start budget call (arguments call.args vars slots) vars others slots near)

  -- the alternative that is chosen tests what all of them test
  abbrev pub HeadTests : Result (Option Head) Trap → Type 0
  HeadTests (Err t) = Unit {0}
  HeadTests (Ok None) = Unit {0}
  HeadTests (Ok (Some h)) = Inside (λ v. early_mentions v h.early) set

  pub chosen_tests : (hs : List Head) (vars slots : List Value) →
      Inside (λ v. list_any (head_tests v) hs) set → HeadTests (chosen_head hs vars slots)
  chosen_tests [] vars slots tests = tt
  chosen_tests (h ∷ hs) vars slots tests =
      by (value h.cond vars slots)
      (chosen_tests hs vars slots (λ v e. tests v (or_right (head_tests v h) _ e)))
    where
      either : (b : Bool) → HeadTests (chosen_head hs vars slots) →
          HeadTests (if b then Ok (Some h) else chosen_head hs vars slots)
      either true others = λ v e. tests v (or_left (head_tests v h) _ (or_right (mentions v h.cond) _ e))
      either false others = others

      by : (m : Evaluated) → HeadTests (chosen_head hs vars slots) →
          HeadTests (judged_head m h (chosen_head hs vars slots))
      by (Err t) others = tt
      by (Ok x) others = either (bool_of x) others

  begun_alike : (m : Method) (method budget : ℕ) (r : Result (Option Head) Trap)
      (vars others slots : List Value) → HeadTests r →
      Inside (λ v. list_any (instruction_reads v) m.instructions) set → Near set vars others →
      Steps (T.chosen m method budget r vars slots) (T.chosen m method budget r others slots)
  begun_alike m method budget (Err t) vars others slots tests reads near =
      leaves_alike method budget vars others (E.Trapped t) (E.Trapped t) near refl
  begun_alike m method budget (Ok None) vars others slots tests reads near =
      leaves_alike method budget vars others E.RejectedPlain E.RejectedPlain near refl
  begun_alike m method budget (Ok (Some h)) vars others slots tests reads near = by h.early tests
    where
      by : (o : Option CallCode) → Inside (λ v. early_mentions v o) set →
          Steps (T.begun m method budget h.start o vars slots)
          (T.begun m method budget h.start o others slots)
      by None tests = runs_alike m method budget h.start vars others slots reads near
      by (Some call) tests = early_alike m method budget h.start call vars others slots tests near

  entered_alike : (m : Method) (method budget : ℕ) (entry : Entry) (vars others slots : List Value) →
      Inside (λ v. entry_tests v entry) set →
      Inside (λ v. list_any (instruction_reads v) m.instructions) set → Near set vars others →
      Steps (entered m method budget entry vars slots) (entered m method budget entry others slots)
  entered_alike m method budget N.Total vars others slots tests reads near =
      runs_alike m method budget 0 vars others slots reads near
  entered_alike m method budget (N.Partial hs) vars others slots tests reads near =
      subst (λ (r : Result (Option Head) Trap). Steps
      (T.chosen m method budget (chosen_head hs vars slots) vars slots)
      (T.chosen m method budget r others slots)) (chosen_same hs vars others slots tests near)
      (begun_alike m method budget (chosen_head hs vars slots) vars others slots
      (chosen_tests hs vars slots tests) reads near)

  -- A step of a procedure is alike on variables that agree where the procedure tests or reads them.
  pub placed_alike : (m : Method) (method budget place : ℕ) (vars others slots : List Value) →
      Inside (λ v. entry_tests v m.entry) set →
      Inside (λ v. list_any (instruction_reads v) m.instructions) set → Near set vars others →
      Steps (from_place m method budget place vars slots) (from_place m method budget place others slots)
  placed_alike m method budget zero vars others slots tests reads near =
      entered_alike m method budget m.entry vars others slots tests reads near
  placed_alike m method budget (suc at) vars others slots tests reads near =
      runs_alike m method budget at vars others slots reads near
