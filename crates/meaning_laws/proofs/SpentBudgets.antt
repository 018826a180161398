-- Budgets never rise.
use Rattle.std.proofs.Common.{◌≡◌, ℕ, zero, suc, ◌≤◌, ℤ, List, [], ◌∷◌, Option, None, Some, Ok, Err, refl}
use Rattle.std.proofs.Common.{arith, le_refl}
use Rattle.seuss_program.specs.declared.program.Program.{Program}
use Rattle.seuss_program.specs.declared.tree.Ref.{Ref}
use Rattle.seuss_program.specs.declared.tree.Ref.TheVariants as R
use Rattle.seuss_program.specs.declared.tree.Expr.{Expr}
use Rattle.seuss_program.specs.declared.tree.Call.{Call}
use Rattle.seuss_program.specs.declared.tree.Proc.{Proc}
use Rattle.seuss_program.specs.declared.tree.Form.{Form}
use Rattle.seuss_program.specs.declared.tree.Form.TheVariants as F
use Rattle.seuss_program.specs.declared.tree.Alternative.{Alternative}
use Rattle.seuss_program.specs.declared.tree.Statement.{Statement}
use Rattle.seuss_program.specs.declared.state.State.{State}
use Rattle.seuss_program.specs.declared.state.Value.{Value}
use Rattle.seuss_program.specs.declared.state.Value.TheVariants as V
use Rattle.seuss_program.specs.Programs.{procedure_of, target_of, method_of, vars_of}
use Rattle.seuss_program.specs.Values.{Evaluated, value}
use Rattle.seuss_program.specs.Bodies.{Callee, assigned, evaluated_into, bound, statement, body}
use Rattle.seuss_program.specs.Attempts.{attempt, attempt_of, performed, entry_slots}
use Rattle.meaning_laws.proofs.KeptBodies.{Each, Kept, KeptCall, Rules, Put, Ends, EachAlternative}
use Rattle.meaning_laws.proofs.KeptBodies.{statement-kept, body-kept, total-outs, choice-outs}

-- at most this much is left
abbrev AtMost : ℕ → State → List Value → ℕ → Type 0
AtMost most state slots budget = budget ≤ most

-- nothing is known of a statement
abbrev Any : Statement Ref → Type 0
Any s = Unit {0}

-- nothing is to be known of any statement
any-each : (ss : List (Statement Ref)) → Each Any ss
any-each [] = tt
any-each (s ∷ ss) = (tt, any-each ss)

-- an assigned value costs nothing
assigned-free : (box : ℕ) (name : Ref) (v : Value) (state : State) (slots : List Value) (budget : ℕ) →
    (assigned box name v state slots budget).budget ≡ budget
assigned-free box (R.Var n) v state slots budget = refl
assigned-free box (R.Slot n) v state slots budget = refl
assigned-free box (R.Given n) v state slots budget = refl
assigned-free box (R.Method n) v state slots budget = refl
assigned-free box (R.Cat n) v state slots budget = refl

-- an evaluated value costs nothing
evaluated-free : (box : ℕ) (name : Ref) (ev : Evaluated) (state : State) (slots : List Value) (budget : ℕ) →
    (evaluated_into box name ev state slots budget).budget ≡ budget
evaluated-free box name (Err t) state slots budget = refl
evaluated-free box name (Ok v) state slots budget = assigned-free box name v state slots budget

-- a bound result costs nothing
bound-free : (box : ℕ) (name : Option Ref) (result : Option ℤ) (state : State) (slots : List Value)
    (budget : ℕ) → (bound box name result state slots budget).budget ≡ budget
bound-free box None result state slots budget = refl
bound-free box (Some name) None state slots budget = refl
bound-free box (Some name) (Some z) state slots budget = assigned-free box name (V.Int z) state slots budget

-- a callee leaves no more of the budget than it was given
pub record NeverRaises (callee : Callee) : Type 0 where
  pub by : (box number : ℕ) (args : List Value) (state : State) (budget : ℕ) →
      (callee box number args state budget).budget ≤ budget

module _ (p : Program) (callee : Callee) (box most : ℕ) (never : NeverRaises callee) where
  -- a call leaves no more of the budget
  call-most : (bind : Option Ref) (call : Call Ref) → KeptCall p callee box (AtMost most) bind call
  call-most bind call = record {
    by = λ state slots budget args h is.
        let called = callee (target_of p box call.target) (method_of call.method) args state budget in
        let less = never.by (target_of p box call.target) (method_of call.method) args state budget in (
          omega (arith, h, less),
          omega (arith, h, less, bound-free box bind called.result called.state slots called.budget),
        );
  }

  -- a value that is put leaves no more of the budget
  put-most : (name : Ref) (e : Expr Ref) →
      Kept p callee box (AtMost most) (Put p callee box (AtMost most) name e)
  put-most name e =
      record {
        by = λ state slots budget h. omega
            (arith, h, evaluated-free box name (value e (vars_of state box) slots) state slots budget);
      }

  -- every statement leaves no more of the budget
  rules-most : Rules p callee box (AtMost most) Any
  rules-most = record {
    paid = λ state slots left h. omega (arith, h);
    let_put = λ name kind e known. put-most name e;
    assigned = λ name e known. put-most name e;
    called = λ bind call known. call-most bind call;
    if_holds = λ cond holds fails known. any-each holds;
    if_fails = λ cond holds fails known. any-each fails;
    while_turn = λ cond turn known. any-each turn;
  }

  -- each alternative leaves no more of the budget
  any-alternatives : (alts : List (Alternative Ref)) →
      EachAlternative p callee box (AtMost most) Any rules-most alts
  any-alternatives [] = tt
  any-alternatives (a ∷ alts) = (
    record { early = λ pre is. call-most pre.bind pre.call; late = any-each a.body },
    any-alternatives alts,
  )

  -- where a procedure ends, no more of the budget is left
  ends-most : (q : Proc Ref) → Ends p callee box (AtMost most) q (λ state result budget. budget ≤ most)
  ends-most q = record { none = λ state slots budget h. h; done = λ state slots budget h. h }

  -- a procedure leaves no more of the budget
  performed-most : (q : Proc Ref) (f : Form Ref) (state : State) (slots : List Value) →
      (performed p callee box q f state slots most).budget ≤ most
  performed-most q (F.Total ss) state slots =
      total-outs p callee box (AtMost most) Any rules-most q (λ state result budget. budget ≤ most)
      (ends-most q) ss (any-each ss) state slots most (le_refl most)
  performed-most q (F.Partial alts) state slots =
      choice-outs p callee box (AtMost most) Any rules-most q (λ state result budget. budget ≤ most)
      (ends-most q) alts (any-alternatives alts) state slots most (le_refl most)
  performed-most q (F.Action alts) state slots =
      choice-outs p callee box (AtMost most) Any rules-most q (λ state result budget. budget ≤ most)
      (ends-most q) alts (any-alternatives alts) state slots most (le_refl most)

  -- an attempt by this callee leaves no more of the budget
  attempt-of-most : (o : Option (Proc Ref)) (args : List Value) (state : State) →
      (attempt_of p callee box o args state most).budget ≤ most
  attempt-of-most None args state = le_refl most
  attempt-of-most (Some q) args state = performed-most q q.form state (entry_slots q args)

-- attempts of every depth leave no more of the budget
pub attempt-never : (p : Program) (depth : ℕ) → NeverRaises (attempt p depth)
attempt-never p zero = record { by = λ box number args state budget. le_refl budget }
attempt-never p (suc depth) =
    record {
      by = λ box number args state budget. attempt-of-most p (attempt p depth) box budget
          (attempt-never p depth) (procedure_of p box number) args state;
    }

-- a statement leaves no more of the budget
pub statement-never : (p : Program) (callee : Callee) (box : ℕ) → NeverRaises callee →
    (s : Statement Ref) (state : State) (slots : List Value) (budget : ℕ) →
    (statement p callee box s state slots budget).budget ≤ budget
statement-never p callee box never s state slots budget =
    (statement-kept p callee box (AtMost budget) Any (rules-most p callee box budget never) s tt).by state
    slots budget (le_refl budget)

-- a body leaves no more of the budget
pub body-never : (p : Program) (callee : Callee) (box : ℕ) → NeverRaises callee →
    (ss : List (Statement Ref)) (state : State) (slots : List Value) (budget : ℕ) →
    (body p callee box ss state slots budget).budget ≤ budget
body-never p callee box never ss state slots budget =
    (body-kept p callee box (AtMost budget) Any (rules-most p callee box budget never) ss (any-each ss)).by
    state slots budget (le_refl budget)
