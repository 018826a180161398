-- What calls and assignments keep is kept by statements, bodies and attempts.
use Rattle.std.proofs.Common.{◌≡◌, ℕ, zero, suc, ℤ, Bool, true, false, if◌then◌else◌, List, [], ◌∷◌, Option}
use Rattle.std.proofs.Common.{None, Some, Result, Ok, Err, refl, sym, subst}
use Rattle.seuss_base.specs.declared.outcome.Trap.{Trap}
use Rattle.seuss_base.specs.declared.outcome.Outcome.{Outcome}
use Rattle.seuss_base.specs.declared.outcome.Outcome.TheVariants as O
use Rattle.seuss_program.specs.declared.program.Program.{Program}
use Rattle.seuss_program.specs.declared.tree.Ref.{Ref}
use Rattle.seuss_program.specs.declared.tree.Kind.{Kind}
use Rattle.seuss_program.specs.declared.tree.Expr.{Expr}
use Rattle.seuss_program.specs.declared.tree.Call.{Call}
use Rattle.seuss_program.specs.declared.tree.Pre.{Pre}
use Rattle.seuss_program.specs.declared.tree.Proc.{Proc}
use Rattle.seuss_program.specs.declared.tree.Alternative.{Alternative}
use Rattle.seuss_program.specs.declared.tree.Statement.{Statement, fold-roll-Statement, map-Statement}
use Rattle.seuss_program.specs.declared.tree.Statement.{roll-Statement, ind-Statement}
use Rattle.seuss_program.specs.declared.tree.Statement.TheOpen as S
use Rattle.seuss_program.specs.declared.tree.Statement.TheOpen.{Statement-F}
use Rattle.seuss_program.specs.declared.tree.Statement.TheShapes.{former-Statement-If-1}
use Rattle.seuss_program.specs.declared.state.State.{State}
use Rattle.seuss_program.specs.declared.state.Value.{Value}
use Rattle.seuss_program.specs.Programs.{target_of, method_of, vars_of}
use Rattle.seuss_program.specs.Values.{Evaluated, value, bool_of}
use Rattle.seuss_program.specs.Bodies.{Finish, Done, Trapped, Spent, Ran, Called, Callee, Meaning, resumed}
use Rattle.seuss_program.specs.Bodies.{in_turn, arguments, branched, stay, spend, paid_turn, evaluated_into}
use Rattle.seuss_program.specs.Bodies.{bound, looped, returned, paid_call, call_with, statement}
use Rattle.seuss_program.specs.Bodies.{statement_step, body}
use Rattle.seuss_program.specs.Attempts.{finished, body_of, behind_pre, pre_called, chosen, judged, choice}
use Rattle.seuss_program.specs.Attempts.{result_of}

-- a function of each of the statements inside a statement
abbrev pub each : {A B : Type 0} → (A → B) → List A → List B
each {A} {B} f xs = (former-Statement-If-1 Ref).map A B f xs

-- what a statement means is told by its layer
pub meaning-layer : (p : Program) (callee : Callee) (box : ℕ) (d : Statement-F Ref (Statement Ref)) →
    statement p callee box (roll-Statement Ref d)
    ≡ statement_step p callee box (map-Statement Ref (Statement Ref) Meaning (statement p callee box) d)
unfolding statement
meaning-layer p callee box d = fold-roll-Statement Ref Meaning (statement_step p callee box) d

-- each of the statements of a list
abbrev pub Each : (Statement Ref → Type 0) → List (Statement Ref) → Type 0
Each P [] = Unit {0}
Each P (s ∷ ss) = P s × Each P ss

-- a fact on a state, slots and a budget
module _ (p : Program) (callee : Callee) (box : ℕ) (Fact : State → List Value → ℕ → Type 0) where
  -- the fact holds of what a run leaves
  abbrev pub Left : Ran → Type 0
  Left ran = Fact ran.state ran.slots ran.budget

  -- a run from where the fact holds keeps it
  pub record Kept (m : Meaning) : Type 0 where
    pub by : (state : State) (slots : List Value) (budget : ℕ) → Fact state slots budget →
        Left (m state slots budget)

  -- the callee keeps the fact at a call, and the name that is bound keeps it too
  pub record KeptCall (bind : Option Ref) (call : Call Ref) : Type 0 where
    pub by : (state : State) (slots : List Value) (budget : ℕ) (args : List Value) →
        Fact state slots budget → arguments call.args (vars_of state box) slots ≡ Ok args →
        let called = callee (target_of p box call.target) (method_of call.method) args state budget in
        Fact called.state slots called.budget × Left
        (bound box bind called.result called.state slots called.budget)

  -- the value of an expression is put where a name stands
  abbrev pub Put : Ref → Expr Ref → Meaning
  Put name e state slots budget =
      evaluated_into box name (value e (vars_of state box) slots) state slots budget

  -- What keeps the fact, for statements of which something is known.
  pub record Rules (Known : Statement Ref → Type 0) : Type 0 where
    pub paid : (state : State) (slots : List Value) (left : ℕ) → Fact state slots (suc left) →
        Fact state slots left
    pub let_put : (name : Ref) (kind : Kind) (e : Expr Ref) →
        Known (roll-Statement Ref (S.Let name kind e)) → Kept (Put name e)
    pub assigned : (name : Ref) (e : Expr Ref) → Known (roll-Statement Ref (S.Assign name e)) →
        Kept (Put name e)
    pub called : (bind : Option Ref) (call : Call Ref) → Known (roll-Statement Ref (S.Call bind call)) →
        KeptCall bind call
    pub if_holds : (cond : Expr Ref) (holds fails : List (Statement Ref)) →
        Known (roll-Statement Ref (S.If cond holds fails)) → Each Known holds
    pub if_fails : (cond : Expr Ref) (holds fails : List (Statement Ref)) →
        Known (roll-Statement Ref (S.If cond holds fails)) → Each Known fails
    pub while_turn : (cond : Expr Ref) (turn : List (Statement Ref)) →
        Known (roll-Statement Ref (S.While cond turn)) → Each Known turn

  -- What holds of the state, the result and the budget that an attempt leaves, by the fact: it has no
  -- result, or it has come to its end.
  pub record Ends (q : Proc Ref) (Out : State → Option ℤ → ℕ → Type 0) : Type 0 where
    pub none : (state : State) (slots : List Value) (budget : ℕ) → Fact state slots budget →
        Out state None budget
    pub done : (state : State) (slots : List Value) (budget : ℕ) → Fact state slots budget →
        Out state (result_of q slots) budget

  -- a fact that is left by a first step and kept by the next is left by both
  resumed-kept : (finish : Finish) (ran : Ran) (next : Meaning) → Left ran → Kept next →
      Left (resumed finish ran next)
  resumed-kept Done ran next h n = n.by ran.state ran.slots ran.budget h
  resumed-kept (Trapped t) ran next h n = h
  resumed-kept Spent ran next h n = h

  -- a fact that is left by both branches is left by the choice
  branched-kept : (ev : Evaluated) (holds fails : Meaning) (state : State) (slots : List Value)
      (budget : ℕ) → Fact state slots budget → Left (holds state slots budget) →
      Left (fails state slots budget) →
      Left (branched ev holds fails state slots budget)
  branched-kept (Err t) holds fails state slots budget h a b = h
  branched-kept (Ok v) holds fails state slots budget h a b = by (bool_of v)
    where
      by : (t : Bool) → Left (if t then holds state slots budget else fails state slots budget)
      by true = a
      by false = b

  module _ (Known : Statement Ref → Type 0) (rules : Rules Known) where
    -- a fact that is kept by a turn and what follows is kept by a paid turn
    pay-kept : (turn next : Meaning) → Kept turn → Kept next →
        (state : State) (slots : List Value) (budget : ℕ) → Fact state slots budget →
        Left (paid_turn turn next state slots budget)
    pay-kept turn next k n state slots zero h = h
    pay-kept turn next k n state slots (suc left) h =
        let ran = turn state slots left in
        resumed-kept ran.finish ran next (k.by state slots left (rules.paid state slots left h)) n

    -- a fact that is kept by a turn is kept by a loop
    pub looped-kept : (turns : ℕ) (cond : Expr Ref) (turn : Meaning) → Kept turn →
        Kept (looped box turns cond turn)
    looped-kept zero cond turn k =
        record {
          by = λ state slots budget h. branched-kept
              (value cond (vars_of state box) slots) spend stay state slots budget h h h;
        }
    looped-kept (suc turns) cond turn k =
        let next = looped-kept turns cond turn k in
        record {
          by = λ state slots budget h.
              branched-kept (value cond (vars_of state box) slots)
              (paid_turn turn (looped box turns cond turn)) stay state slots budget h
              (pay-kept turn (looped box turns cond turn) k next state slots budget h) h;
        }

    -- a fact that is kept by the callee is left by a call
    call-kept : (bind : Option Ref) (call : Call Ref) → KeptCall bind call →
        (state : State) (slots : List Value) (budget : ℕ) → Fact state slots budget →
        Left (call_with p callee box bind call
        (arguments call.args (vars_of state box) slots) state slots budget)
    call-kept bind call k state slots budget h = by (arguments call.args (vars_of state box) slots) refl
      where
        back : (outcome : Outcome) (called : Called) → Fact called.state slots called.budget →
            Left (bound box bind called.result called.state slots called.budget) →
            Left (returned p callee box outcome bind called slots)
        back O.Accepted called a b = b
        back O.Rejected called a b = b
        back (O.Trapped t) called a b = a
        back O.Spent called a b = a

        pay : (args : List Value) → arguments call.args (vars_of state box) slots ≡ Ok args → (budget : ℕ) →
            Fact state slots budget →
            Left (paid_call p callee box bind (target_of p box call.target)
            (method_of call.method) args state slots budget)
        pay args is zero h = h
        pay args is (suc left) h =
            let called = callee (target_of p box call.target) (method_of call.method) args state left in
            let after = k.by state slots left args (rules.paid state slots left h) is in
            back called.outcome called after.0 after.1

        by : (r : Result (List Value) Trap) → arguments call.args (vars_of state box) slots ≡ r →
            Left (call_with p callee box bind call r state slots budget)
        by (Err t) is = h
        by (Ok args) is = pay args is budget h

    -- a statement of which it is known keeps the fact
    KeptSo : Statement Ref → Type 0
    KeptSo s = Known s → Kept (statement p callee box s)

    -- a fact that is kept by the layer of a statement is kept by the statement
    layer-kept : (d : Statement-F Ref (Statement Ref)) →
        (Known (roll-Statement Ref d) →
        Kept (statement_step p callee box
        (map-Statement Ref (Statement Ref) Meaning (statement p callee box) d))) →
        KeptSo (roll-Statement Ref d)
    unfolding KeptSo
    layer-kept d h known = subst Kept (sym (meaning-layer p callee box d)) (h known)

    module _ (X : Type 0) (f : X → Statement Ref) (each_kept : (x : X) → KeptSo (f x)) where
      -- a fact that is kept by each statement is kept by them in turn
      inner : (xs : List X) → Each Known (each f xs) →
          Kept (in_turn (each (statement p callee box) (each f xs)))
      unfolding KeptSo
      inner [] known = record { by = λ state slots budget h. h }
      inner (x ∷ xs) known = record {
        by = λ state slots budget h.
            let ran = statement p callee box (f x) state slots budget in
            resumed-kept ran.finish ran (in_turn (each (statement p callee box) (each f xs)))
            ((each_kept x known.0).by state slots budget h) (inner xs known.1);
      }

      -- a fact is kept by a statement where it is kept by those inside it
      layer : (y : Statement-F Ref X) → KeptSo (roll-Statement Ref (map-Statement Ref X (Statement Ref) f y))
      layer (S.Let name kind e) =
          layer-kept (S.Let name kind e) (λ known. record { by = (rules.let_put name kind e known).by })
      layer (S.Assign name e) =
          layer-kept (S.Assign name e) (λ known. record { by = (rules.assigned name e known).by })
      layer (S.Call bind call) =
          layer-kept (S.Call bind call)
          (λ known. record { by = call-kept bind call (rules.called bind call known) })
      layer (S.If cond holds fails) = layer-kept (S.If cond (each f holds) (each f fails)) (λ known. record {
        by = λ state slots budget h.
            branched-kept (value cond (vars_of state box) slots)
            (in_turn (each (statement p callee box) (each f holds)))
            (in_turn (each (statement p callee box) (each f fails))) state slots budget h
            ((inner holds (rules.if_holds cond (each f holds) (each f fails) known)).by state slots budget h)
            ((inner fails (rules.if_fails cond (each f holds) (each f fails) known)).by state slots budget
            h);
      })
      layer (S.While cond turn) = layer-kept (S.While cond (each f turn)) (λ known. record {
        by =
            λ state slots budget h.
            (looped-kept budget cond (in_turn (each (statement p callee box) (each f turn)))
            (inner turn (rules.while_turn cond (each f turn) known))).by state slots budget h;
      })

    -- a fact is kept by each known statement
    pub statement-kept : (s : Statement Ref) → Known s → Kept (statement p callee box s)
    unfolding KeptSo
    statement-kept =
        ind-Statement Ref KeptSo
        (λ x y is. subst (λ z. KeptSo (roll-Statement Ref z)) is (layer _ (λ e. e.0) (λ e. e.1) y))

    -- a fact is kept by each known body
    pub body-kept : (ss : List (Statement Ref)) → Each Known ss → Kept (body p callee box ss)
    body-kept [] known = record { by = λ state slots budget h. h }
    body-kept (s ∷ ss) known = record {
      by = λ state slots budget h.
          let ran = statement p callee box s state slots budget in
          resumed-kept ran.finish ran (body p callee box ss)
          ((statement-kept s known.0).by state slots budget h) (body-kept ss known.1);
    }

    -- what is known of each alternative
    pub record KnownAlternative (a : Alternative Ref) : Type 0 where
      pub early : (pre : Pre Ref) → a.pre ≡ Some pre → KeptCall pre.bind pre.call
      pub late : Each Known a.body

    -- each alternative has a known preprocedure and a known body
    abbrev pub EachAlternative : List (Alternative Ref) → Type 0
    EachAlternative [] = Unit {0}
    EachAlternative (a ∷ alts) = KnownAlternative a × EachAlternative alts

    -- a fact on what an attempt leaves, which has no slots any more
    module _ (q : Proc Ref) (Out : State → Option ℤ → ℕ → Type 0) (ends : Ends q Out) where
      -- the fact that an attempt is to leave where it ends
      abbrev pub Outs : Called → Type 0
      Outs called = Out called.state called.result called.budget

      -- a body that leaves the fact leaves the fact of ends where it is finished
      finished-outs : (positive : Bool) (finish : Finish) (ran : Ran) → Left ran →
          Outs (finished positive q finish ran)
      finished-outs true Done ran h = ends.done ran.state ran.slots ran.budget h
      finished-outs false Done ran h = ends.none ran.state ran.slots ran.budget h
      finished-outs true (Trapped t) ran h = ends.none ran.state ran.slots ran.budget h
      finished-outs false (Trapped t) ran h = ends.none ran.state ran.slots ran.budget h
      finished-outs true Spent ran h = ends.none ran.state ran.slots ran.budget h
      finished-outs false Spent ran h = ends.none ran.state ran.slots ran.budget h

      -- the body of a total method leaves the fact of ends
      pub total-outs : (ss : List (Statement Ref)) → Each Known ss →
          (state : State) (slots : List Value) (budget : ℕ) → Fact state slots budget →
          Outs (finished true q (body p callee box ss state slots budget).finish
          (body p callee box ss state slots budget))
      total-outs ss known state slots budget h =
          let ran = body p callee box ss state slots budget in
          finished-outs true ran.finish ran ((body-kept ss known).by state slots budget h)

      -- the body of an alternative leaves the fact of ends
      body-outs : (a : Alternative Ref) → Each Known a.body →
          (state : State) (slots : List Value) (budget : ℕ) → Fact state slots budget →
          Outs (body_of p callee box q a state slots budget)
      body-outs a known state slots budget h =
          let ran = body p callee box a.body state slots budget in
          finished-outs a.positive ran.finish ran ((body-kept a.body known).by state slots budget h)

      -- the chosen alternative leaves the fact of ends
      chosen-outs : (a : Alternative Ref) → Each Known a.body → (o : Option (Pre Ref)) →
          ((pre : Pre Ref) → o ≡ Some pre → KeptCall pre.bind pre.call) →
          (state : State) (slots : List Value) (budget : ℕ) → Fact state slots budget →
          Outs (chosen p callee box q a o state slots budget)
      chosen-outs a known None early state slots budget h = body-outs a known state slots budget h
      chosen-outs a known (Some pre) early state slots budget h =
          by (arguments pre.call.args (vars_of state box) slots) refl
        where
          after-early : (outcome : Outcome) (called : Called) → Fact called.state slots called.budget →
              Left (bound box pre.bind called.result called.state slots called.budget) →
              Outs (behind_pre p callee box q a pre.bind outcome called slots)
          after-early O.Accepted called a' b =
              let ran = bound box pre.bind called.result called.state slots called.budget in
              body-outs a known ran.state ran.slots ran.budget b
          after-early O.Rejected called a' b = ends.none called.state slots called.budget a'
          after-early (O.Trapped t) called a' b = ends.none called.state slots called.budget a'
          after-early O.Spent called a' b = ends.none called.state slots called.budget a'

          by : (r : Result (List Value) Trap) → arguments pre.call.args (vars_of state box) slots ≡ r →
              Outs (pre_called p callee box q a pre r state slots budget)
          by (Err t) is = ends.none state slots budget h
          by (Ok args) is =
              let called =
              callee (target_of p box pre.call.target) (method_of pre.call.method) args state budget in
              let after = (early pre refl).by state slots budget args h is in
              after-early called.outcome called after.0 after.1

      -- an alternative that is judged leaves the fact of ends where all that may follow does
      judged-outs : (ev : Evaluated) (a : Alternative Ref) (others : Called) (state : State)
          (slots : List Value) (budget : ℕ) → Fact state slots budget →
          Outs (chosen p callee box q a a.pre state slots budget) → Outs others →
          Outs (judged p callee box q ev a others state slots budget)
      judged-outs (Err t) a others state slots budget h first rest = ends.none state slots budget h
      judged-outs (Ok v) a others state slots budget h first rest = by (bool_of v)
        where
          by : (t : Bool) → Outs (if t then chosen p callee box q a a.pre state slots budget else others)
          by true = first
          by false = rest

      -- a choice leaves the fact of ends
      pub choice-outs : (alts : List (Alternative Ref)) → EachAlternative alts →
          (state : State) (slots : List Value) (budget : ℕ) → Fact state slots budget →
          Outs (choice p callee box q alts state slots budget)
      choice-outs [] known state slots budget h = ends.none state slots budget h
      choice-outs (a ∷ alts) known state slots budget h =
          judged-outs (value a.cond (vars_of state box) slots) a
          (choice p callee box q alts state slots budget) state slots budget h
          (chosen-outs a known.0.late a.pre known.0.early state slots budget h)
          (choice-outs alts known.1 state slots budget h)
