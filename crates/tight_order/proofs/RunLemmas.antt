-- How the meaning of a run goes on from one step to the next.
use Rattle.std.proofs.Common.{◌≡◌, ℕ, suc, zero, ◌+◌, ◌-◌, ◌<◌, ◌≤◌, Bool, true, false, if◌then◌else◌, List}
use Rattle.std.proofs.Common.{◌∷◌, length, Option, Some, Result, Ok, Err, refl, sym, ap, subst, ◌∙◌, arith}
use Rattle.std.proofs.Common.{get_or, drop, drop-cons}
use Rattle.seuss_program.specs.declared.tree.Ref.{Ref}
use Rattle.seuss_program.specs.declared.tree.Expr.{Expr}
use Rattle.seuss_program.specs.declared.tree.Proc.{Proc}
use Rattle.seuss_program.specs.declared.tree.Statement.{Statement}
use Rattle.seuss_program.specs.declared.tree.Alternative.{Alternative}
use Rattle.seuss_program.specs.declared.program.Program.{Program}
use Rattle.seuss_program.specs.declared.state.Value.{Value}
use Rattle.seuss_program.specs.declared.state.State.{State}
use Rattle.seuss_program.specs.Programs.{vars_of, procedure_of}
use Rattle.seuss_program.specs.Values.{Evaluated, value, bool_of}
use Rattle.seuss_program.specs.Bodies as B
use Rattle.seuss_program.specs.Bodies.{Finish, Meaning, Callee, Ran, Called, resumed, branched, spend, stay}
use Rattle.seuss_program.specs.Bodies.{paid_turn, looped, statement, body}
use Rattle.seuss_program.specs.Attempts.{attempt, attempt_of, performed, entry_slots, judged, chosen, choice}
use Rattle.tight_order.specs.declared.stop.Stop.{Stop}
use Rattle.tight_order.specs.declared.stop.Stop.TheVariants as S
use Rattle.tight_order.specs.declared.frame.Frame.{Frame}
use Rattle.tight_order.specs.declared.frame.Reply.{Reply}
use Rattle.tight_order.specs.Answers.{Evaluates, Ends, Replies}

-- a run that has come to an end
abbrev pub at_end : State → Frame → Finish → Ran
at_end state frame finish = record
    { state = state; slots = frame.slots; budget = frame.budget; finish = finish }

-- what stops a statement stops those after it
stops : (e : Stop) (ran : Ran) (next : Meaning) (state : State) (frame : Frame) →
    Ends (Err e) ran state frame → Ends (Err e) (resumed ran.finish ran next) state frame
stops (S.Trapped t) ran next state frame h = subst
    (λ (x : Ran). resumed x.finish x next ≡ at_end state frame (B.Trapped t)) (sym h) refl
stops S.Spent ran next state frame h = subst
    (λ (x : Ran). resumed x.finish x next ≡ at_end state frame B.Spent) (sym h) refl
stops S.Memory ran next state frame h = tt

-- the rest of a list begins with the item at the place
pub rest : {X : Type 0} (xs : List X) (i : ℕ) (x : X) → i < length xs → x ≡ get_or xs i x →
    drop i xs ≡ x ∷ drop (i + 1) xs
rest xs i x h e =
    let n : i + 1 ≡ suc i = omega arith in
    drop-cons xs i x h ∙ (ap (λ y. y ∷ drop (suc i) xs) (sym e) ∙ ap (λ j. x ∷ drop j xs) (sym n))

module _ (p : Program) (callee : Callee) (box : ℕ) where
  -- statements from a place on: the statement there, and then the others
  body_from : (ss : List (Statement Ref)) (i : ℕ) (s : Statement Ref) (state : State) (slots : List Value)
      (budget : ℕ) → i < length ss → s ≡ get_or ss i s →
      body p callee box (drop i ss) state slots budget
      ≡ resumed (statement p callee box s state slots budget).finish
      (statement p callee box s state slots budget) (body p callee box (drop (i + 1) ss))
  body_from ss i s state slots budget h e = ap (λ xs. body p callee box xs state slots budget)
      (rest ss i s h e)

  pub body_stops : (ss : List (Statement Ref)) (i : ℕ) (s : Statement Ref) (state : State)
      (slots : List Value) (budget : ℕ) (whole : Ran) (r : Result (Unit {0}) Stop) (e : Stop)
      (state' : State) (frame' : Frame) → i < length ss → s ≡ get_or ss i s →
      body p callee box (drop i ss) state slots budget ≡ whole → r ≡ Err e →
      Ends (Err e) (statement p callee box s state slots budget) state' frame' → Ends r whole state' frame'
  body_stops ss i s state slots budget whole r e state' frame' h at same is ends =
      subst (λ (r : Result (Unit {0}) Stop). Ends r whole state' frame') (sym is)
      (subst (λ (x : Ran). Ends (Err e) x state' frame')
      (sym (body_from ss i s state slots budget h at) ∙ same)
      (stops e (statement p callee box s state slots budget) (body p callee box (drop (i + 1) ss)) state'
      frame' ends))

  pub body_goes_on : (ss : List (Statement Ref)) (i : ℕ) (s : Statement Ref) (state : State)
      (slots : List Value) (budget : ℕ) (whole : Ran)
      (state' : State) (frame' : Frame) → i < length ss → s ≡ get_or ss i s →
      body p callee box (drop i ss) state slots budget ≡ whole →
      statement p callee box s state slots budget ≡ at_end state' frame' B.Done →
      body p callee box (drop (i + 1) ss) state' frame'.slots frame'.budget ≡ whole
  body_goes_on ss i s state slots budget whole state' frame' h at same done =
      sym (ap (λ (x : Ran). resumed x.finish x (body p callee box (drop (i + 1) ss))) done)
      ∙ (sym (body_from ss i s state slots budget h at) ∙ same)

  module _ (q : Proc Ref) where
    choice_from : (alts : List (Alternative Ref)) (i : ℕ) (a : Alternative Ref) (state : State)
        (slots : List Value) (budget : ℕ) → i < length alts → a ≡ get_or alts i a →
        choice p callee box q (drop i alts) state slots budget
        ≡ judged p callee box q (value a.cond (vars_of state box) slots) a
        (choice p callee box q (drop (i + 1) alts) state slots budget) state slots budget
    choice_from alts i a state slots budget h e =
        ap (λ xs. choice p callee box q xs state slots budget) (rest alts i a h e)

    -- what stops a precondition stops the choice
    judgement_stops : (e : Stop) (m : Evaluated) (a : Alternative Ref) (others : Called) (state : State)
        (slots : List Value) (budget : ℕ) →
        Evaluates (Err e) m → Replies (Err e) (judged p callee box q m a others state slots budget) state
        budget
    judgement_stops (S.Trapped t) m a others state slots budget h =
        ap (λ (m : Evaluated). judged p callee box q m a others state slots budget) h
    judgement_stops S.Spent m a others state slots budget h = absurd h
    judgement_stops S.Memory m a others state slots budget h = tt

    pub choice_stops : (alts : List (Alternative Ref)) (i : ℕ) (a : Alternative Ref) (state : State)
        (slots : List Value) (budget : ℕ) (whole : Called)
        (r : Result Reply Stop) (e : Stop) → i < length alts → a ≡ get_or alts i a →
        choice p callee box q (drop i alts) state slots budget ≡ whole → r ≡ Err e →
        Evaluates (Err e) (value a.cond (vars_of state box) slots) → Replies r whole state budget
    choice_stops alts i a state slots budget whole r e h at same is stop =
        subst (λ (r : Result Reply Stop). Replies r whole state budget) (sym is)
        (subst (λ (x : Called). Replies (Err e) x state budget)
        (sym (choice_from alts i a state slots budget h at) ∙ same)
        (judgement_stops e _ a (choice p callee box q (drop (i + 1) alts) state slots budget) state slots
        budget stop))

    judgement : (m : Evaluated) (v : Value) (a : Alternative Ref) (others : Called) (state : State)
        (slots : List Value) (budget : ℕ) → m ≡ Ok v → bool_of v ≡ true →
        judged p callee box q m a others state slots budget
        ≡ chosen p callee box q a a.pre state slots budget
    judgement m v a others state slots budget h t =
        ap (λ (m : Evaluated). judged p callee box q m a others state slots budget) h
        ∙ ap (λ (b : Bool). if b then chosen p callee box q a a.pre state slots budget else others) t

    pub choice_takes : (alts : List (Alternative Ref)) (i : ℕ) (a : Alternative Ref) (state : State)
        (slots : List Value) (budget : ℕ) (whole : Called) (v : Value)
        (r : Result Reply Stop) (state' : State) (budget' : ℕ) → i < length alts → a ≡ get_or alts i a →
        choice p callee box q (drop i alts) state slots budget ≡ whole →
        value a.cond (vars_of state box) slots ≡ Ok v → bool_of v ≡ true →
        Replies r (chosen p callee box q a a.pre state slots budget) state' budget' →
        Replies r whole state' budget'
    choice_takes alts i a state slots budget whole v r state' budget' h at same is holds taken =
        subst (λ (x : Called). Replies r x state' budget')
        (sym (judgement (value a.cond (vars_of state box) slots) v a
        (choice p callee box q (drop (i + 1) alts) state slots budget) state slots budget is holds)
        ∙ (sym (choice_from alts i a state slots budget h at) ∙ same)) taken

-- an attempt of a procedure that is there is what the procedure does from its entry
pub attempt_performs : (p : Program) (depth box number : ℕ) (q : Proc Ref) (args : List Value)
    (state : State) (budget : ℕ) → 0 < depth → Some q ≡ procedure_of p box number →
    attempt p depth box number args state budget ≡ performed p (attempt p (depth - 1)) box q q.form state
    (entry_slots q args) budget
attempt_performs p zero box number q args state budget deep found = absurd (omega (arith, deep))
attempt_performs p (suc d) box number q args state budget deep found =
    let n : d ≡ suc d - 1 = omega arith in
    ap (λ (o : Option (Proc Ref)). attempt_of p (attempt p d) box o args state budget) (sym found)
    ∙ ap (λ k. performed p (attempt p k) box q q.form state (entry_slots q args) budget) n

-- what stops a condition stops the branches
branch_stops : (e : Stop) (m : Evaluated) (holds fails : Meaning) (state : State) (frame : Frame) →
    Evaluates (Err e) m →
    Ends (Err e) (branched m holds fails state frame.slots frame.budget) state frame
branch_stops (S.Trapped t) m holds fails state frame h =
    ap (λ (m : Evaluated). branched m holds fails state frame.slots frame.budget) h
branch_stops S.Spent m holds fails state frame h = absurd h
branch_stops S.Memory m holds fails state frame h = tt

-- an `if` whose condition stops
pub if_stops : (m : Evaluated) (holds fails : Meaning) (state : State) (frame : Frame) (whole : Ran)
    (r : Result (Unit {0}) Stop) (e : Stop) →
    whole ≡ branched m holds fails state frame.slots frame.budget → r ≡ Err e → Evaluates (Err e) m →
    Ends r whole state frame
if_stops m holds fails state frame whole r e same is stop =
    subst (λ (r : Result (Unit {0}) Stop). Ends r whole state frame) (sym is)
    (subst (λ (x : Ran). Ends (Err e) x state frame) (sym same)
    (branch_stops e m holds fails state frame stop))

-- the branch that the condition chooses
if_takes : (m : Evaluated) (v : Value) (b : Bool) (holds fails : Meaning) (state : State)
    (slots : List Value) (budget : ℕ) → m ≡ Ok v → bool_of v ≡ b →
    branched m holds fails state slots budget ≡
    (if b then holds state slots budget else fails state slots budget)
if_takes m v b holds fails state slots budget h t =
    ap (λ (m : Evaluated). branched m holds fails state slots budget) h
    ∙ ap (λ (b : Bool). if b then holds state slots budget else fails state slots budget) t

pub if_holds : (m : Evaluated) (v : Value) (holds fails : Meaning) (state : State) (slots : List Value)
    (budget : ℕ) (whole : Ran) (r : Result (Unit {0}) Stop)
    (state' : State) (frame' : Frame) → whole ≡ branched m holds fails state slots budget → m ≡ Ok v →
    bool_of v ≡ true → Ends r (holds state slots budget) state' frame' →
    Ends r whole state' frame'
if_holds m v holds fails state slots budget whole r state' frame' same h t ends =
    subst (λ (x : Ran). Ends r x state' frame')
    (sym (same ∙ if_takes m v true holds fails state slots budget h t)) ends

pub if_fails : (m : Evaluated) (v : Value) (holds fails : Meaning) (state : State) (slots : List Value)
    (budget : ℕ) (whole : Ran) (r : Result (Unit {0}) Stop)
    (state' : State) (frame' : Frame) → whole ≡ branched m holds fails state slots budget → m ≡ Ok v →
    bool_of v ≡ false → Ends r (fails state slots budget) state' frame' →
    Ends r whole state' frame'
if_fails m v holds fails state slots budget whole r state' frame' same h t ends =
    subst (λ (x : Ran). Ends r x state' frame')
    (sym (same ∙ if_takes m v false holds fails state slots budget h t)) ends

-- a turn of a loop that was paid for and is done leaves the rest of the loop
pub loop_goes_on : (box k : ℕ) (cond : Expr Ref) (turn : Meaning) (state : State) (slots : List Value)
    (budget : ℕ) (whole : Ran) (v : Value) (paid : Frame)
    (state' : State) (frame' : Frame) → budget ≤ k → looped box k cond turn state slots budget ≡ whole →
    value cond (vars_of state box) slots ≡ Ok v → bool_of v ≡ true →
    paid.slots ≡ slots → budget ≡ suc paid.budget →
    turn state paid.slots paid.budget ≡ at_end state' frame' B.Done → frame'.budget ≤ paid.budget →
    (x : ℕ) × (frame'.budget ≤ x) × (looped box x cond turn state' frame'.slots frame'.budget ≡ whole)
loop_goes_on box zero cond turn state slots budget whole v paid state' frame' enough same h t kept cost done
    less = absurd (omega (arith, enough, cost))
loop_goes_on box (suc k) cond turn state slots budget whole v paid state' frame' enough same h t kept cost
    done less =
    let next : Meaning = looped box k cond turn in
    let at_turn : looped box (suc k) cond turn state slots budget ≡ paid_turn turn next state slots budget =
    if_takes (value cond (vars_of state box) slots) v true (paid_turn turn next) stay state slots budget h t
    in
    let paid_for : paid_turn turn next state slots budget ≡ next state' frame'.slots frame'.budget =
    ap (λ (b : ℕ). paid_turn turn next state slots b) cost
    ∙ (ap (λ (ss : List Value). paid_turn turn next state ss (suc paid.budget)) (sym kept)
    ∙ ap (λ (x : Ran). resumed x.finish x next) done) in
    (k, omega (arith, enough, cost, less), sym (at_turn ∙ paid_for) ∙ same)
