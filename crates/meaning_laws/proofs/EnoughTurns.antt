-- A loop has no more turns than its budget.
use Rattle.std.proofs.Common.{◌≡◌, ℕ, zero, suc, ◌≤◌, Bool, true, false, if◌then◌else◌, List, Ok, Err, refl}
use Rattle.std.proofs.Common.{sym, ◌∙◌, arith}
use Rattle.seuss_program.specs.declared.program.Program.{Program}
use Rattle.seuss_program.specs.declared.tree.Ref.{Ref}
use Rattle.seuss_program.specs.declared.tree.Expr.{Expr}
use Rattle.seuss_program.specs.declared.tree.Statement.{Statement}
use Rattle.seuss_program.specs.declared.tree.Statement.TheVariants.{While}
use Rattle.seuss_program.specs.declared.state.State.{State}
use Rattle.seuss_program.specs.declared.state.Value.{Value}
use Rattle.seuss_program.specs.Programs.{vars_of}
use Rattle.seuss_program.specs.Values.{Evaluated, value, bool_of}
use Rattle.seuss_program.specs.Bodies.{Finish, Done, Trapped, Spent, Ran, Callee, Meaning, resumed, branched}
use Rattle.seuss_program.specs.Bodies.{stay, spend, paid_turn, looped, statement, body}
use Rattle.meaning_laws.proofs.StatementMeanings.{while-means}
use Rattle.meaning_laws.proofs.SpentBudgets.{NeverRaises, body-never}

module _ (box : ℕ) (cond : Expr Ref) (turn : Meaning)
    (never : (state : State) (slots : List Value) (budget : ℕ) →
    (turn state slots budget).budget ≤ budget) where
  -- meanings that are the same here are the same under a condition
  branched-same : (ev : Evaluated) (m n : Meaning) (state : State) (slots : List Value) (budget : ℕ) →
      m state slots budget ≡ n state slots budget →
      branched ev m stay state slots budget ≡ branched ev n stay state slots budget
  branched-same (Err t) m n state slots budget h = refl
  branched-same (Ok v) m n state slots budget h = by (bool_of v)
    where
      by : (b : Bool) →
          (if b then m state slots budget else stay state slots budget)
          ≡ (if b then n state slots budget else stay state slots budget)
      by true = h
      by false = refl

  -- meanings that are the same here are the same after a first step
  resumed-same : (finish : Finish) (ran : Ran) (m n : Meaning) →
      m ran.state ran.slots ran.budget ≡ n ran.state ran.slots ran.budget →
      resumed finish ran m ≡ resumed finish ran n
  resumed-same Done ran m n h = h
  resumed-same (Trapped t) ran m n h = refl
  resumed-same Spent ran m n h = refl

  -- two bounds that the budget doesn't pass
  bounds-same : (first second : ℕ) (state : State) (slots : List Value) (budget : ℕ) → budget ≤ first →
      budget ≤ second →
      looped box first cond turn state slots budget ≡ looped box second cond turn state slots budget
  bounds-same zero zero state slots budget a b = refl
  bounds-same zero (suc second) state slots zero a b =
      branched-same (value cond (vars_of state box) slots) spend
      (paid_turn turn (looped box second cond turn)) state slots 0 refl
  bounds-same zero (suc second) state slots (suc left) a b = absurd (omega (arith, a))
  bounds-same (suc first) zero state slots zero a b =
      branched-same (value cond (vars_of state box) slots)
      (paid_turn turn (looped box first cond turn)) spend state slots 0 refl
  bounds-same (suc first) zero state slots (suc left) a b = absurd (omega (arith, b))
  bounds-same (suc first) (suc second) state slots zero a b =
      branched-same (value cond (vars_of state box) slots) (paid_turn turn (looped box first cond turn))
      (paid_turn turn (looped box second cond turn)) state slots 0 refl
  bounds-same (suc first) (suc second) state slots (suc left) a b =
      let ran = turn state slots left in
      let less = never state slots left in
      branched-same (value cond (vars_of state box) slots) (paid_turn turn (looped box first cond turn))
      (paid_turn turn (looped box second cond turn)) state slots (suc left)
      (resumed-same ran.finish ran (looped box first cond turn) (looped box second cond turn)
      (bounds-same first second ran.state ran.slots ran.budget (omega (arith, a, less))
      (omega (arith, b, less))))

module _ (p : Program) (callee : Callee) (box : ℕ) where
  module _ (never : NeverRaises callee) (cond : Expr Ref) (turn : List (Statement Ref)) (state : State)
      (slots : List Value) where
    -- a loop is the same with any bound on its turns that isn't below its budget
    pub looped-enough : (turns budget : ℕ) → budget ≤ turns →
        looped box turns cond (body p callee box turn) state slots budget
        ≡ looped box budget cond (body p callee box turn) state slots budget
    looped-enough turns budget most =
        bounds-same box cond (body p callee box turn)
        (body-never p callee box never turn) turns budget state slots budget most (omega arith)

    -- a loop statement is a loop with any such bound
    pub while-looped : (turns budget : ℕ) → budget ≤ turns →
        statement p callee box (While cond turn) state slots budget
        ≡ looped box turns cond (body p callee box turn) state slots budget
    while-looped turns budget most =
        while-means p callee box state slots budget cond turn ∙ sym (looped-enough turns budget most)
