-- What a statement means, declares and weighs, by its parts.
use Rattle.std.proofs.Common.{◌≡◌, ℕ, suc, zero, ◌+◌, ◌<◌, ◌≤◌, List, [], ◌∷◌, ◌++◌, length, Option, refl}
use Rattle.std.proofs.Common.{sym, ap, ◌∙◌, arith, get_or}
use Rattle.std.specs.List.{flat_map}
use Rattle.seuss_program.specs.declared.tree.Ref.{Ref}
use Rattle.seuss_program.specs.declared.tree.Kind.{Kind}
use Rattle.seuss_program.specs.declared.tree.Call.{Call}
use Rattle.seuss_program.specs.declared.tree.Expr.{Expr}
use Rattle.seuss_program.specs.declared.tree.Statement.{Statement, fold-Statement, fold-roll-Statement}
use Rattle.seuss_program.specs.declared.tree.Statement.{map-Statement, roll-Statement}
use Rattle.seuss_program.specs.declared.tree.Statement.TheVariants as SV
use Rattle.seuss_program.specs.declared.tree.Statement.TheVariants.{rolls-Let, rolls-Assign, rolls-Call}
use Rattle.seuss_program.specs.declared.tree.Statement.TheVariants.{rolls-If, rolls-While}
use Rattle.seuss_program.specs.declared.tree.Statement.TheOpen as S
use Rattle.seuss_program.specs.declared.tree.Statement.TheOpen.{Statement-F}
use Rattle.seuss_program.specs.declared.tree.Statement.TheShapes.{former-Statement-If-1}
use Rattle.seuss_program.specs.declared.program.Program.{Program}
use Rattle.seuss_program.specs.declared.state.Value.{Value}
use Rattle.seuss_program.specs.declared.state.State.{State}
use Rattle.seuss_program.specs.Bodies.{Meaning, Callee, in_turn, resumed, arguments, evaluated_into}
use Rattle.seuss_program.specs.Bodies.{branched, looped, call_with, statement, statement_step, body}
use Rattle.seuss_program.specs.Programs.{vars_of}
use Rattle.seuss_program.specs.Values.{value}
use Rattle.seuss_program.specs.Attempts.{first_value, locals_of, locals_step}

-- a function of each of the statements inside a statement
abbrev pub each : {A : Type 0} → (Statement Ref → A) → List (Statement Ref) → List A
each {A} f ss = (former-Statement-If-1 Ref).map (Statement Ref) A f ss

-- the locals of statements one after the other
each_locals : (ss : List (Statement Ref)) → flat_map (λ vs. vs) (each locals_of ss) ≡ flat_map locals_of ss
each_locals [] = refl
each_locals (s ∷ ss) = ap (λ vs. locals_of s ++ vs) (each_locals ss)

locals-layer : (s : Statement Ref) (d : Statement-F Ref (Statement Ref)) → s ≡ roll-Statement Ref d →
    locals_of s ≡ locals_step (map-Statement Ref (Statement Ref) (List Value) locals_of d)
unfolding locals_of
locals-layer s d h = ap (fold-Statement Ref (List Value) locals_step) h
    ∙ fold-roll-Statement Ref (List Value) locals_step d

-- the sum of a function over a list
unfoldable pub sum_of : {X : Type 0} → (X → ℕ) → List X → ℕ
sum_of f [] = 0
sum_of f (x ∷ xs) = f x + sum_of f xs

-- each item counts in the sum
pub sum_of-get : {X : Type 0} (f : X → ℕ) (xs : List X) (i : ℕ) (d : X) → i < length xs →
    f (get_or xs i d) ≤ sum_of f xs
unfolding sum_of
sum_of-get f [] i d h = absurd (omega (arith, h))
sum_of-get f (x ∷ xs) zero d h = omega arith
sum_of-get f (x ∷ xs) (suc i) d h = let below : f (get_or xs i d) ≤ sum_of f xs =
    sum_of-get f xs i d (omega (arith, h)) in omega (arith, below)

-- what a statement weighs: more than the statements inside it
abbrev weight_step : Statement-F Ref ℕ → ℕ
weight_step (S.Let name kind e) = 1
weight_step (S.Assign name e) = 1
weight_step (S.Call name call) = 1
weight_step (S.If cond holds fails) = 1 + (sum_of (λ n. n) holds + sum_of (λ n. n) fails)
weight_step (S.While cond turn) = 2 + sum_of (λ n. n) turn

pub weight : Statement Ref → ℕ
weight s = fold-Statement Ref ℕ weight_step s

weight-layer : (s : Statement Ref) (d : Statement-F Ref (Statement Ref)) → s ≡ roll-Statement Ref d →
    weight s ≡ weight_step (map-Statement Ref (Statement Ref) ℕ weight d)
unfolding weight
weight-layer s d h = ap (fold-Statement Ref ℕ weight_step) h ∙ fold-roll-Statement Ref ℕ weight_step d

each_weight : (ss : List (Statement Ref)) → sum_of (λ n. n) (each weight ss) ≡ sum_of weight ss
unfolding sum_of
each_weight [] = refl
each_weight (s ∷ ss) = ap (λ n. weight s + n) (each_weight ss)

module _ (p : Program) (callee : Callee) (box : ℕ) where
  -- statements one after the other are a body
  in_turn-each : (ss : List (Statement Ref)) → in_turn (each (statement p callee box) ss)
      ≡ body p callee box ss
  in_turn-each [] = refl
  in_turn-each (s ∷ ss) = λ i state slots budget. resumed
      (statement p callee box s state slots budget).finish (statement p callee box s state slots budget)
      (in_turn-each ss i)

  meaning-layer : (s : Statement Ref) (d : Statement-F Ref (Statement Ref)) → s ≡ roll-Statement Ref d →
      statement p callee box s ≡ statement_step p callee box
      (map-Statement Ref (Statement Ref) Meaning (statement p callee box) d)
  unfolding statement
  meaning-layer s d h = ap (fold-Statement Ref Meaning (statement_step p callee box)) h
      ∙ fold-roll-Statement Ref Meaning (statement_step p callee box) d

module _ (s : Statement Ref) where
  pub locals-Let : (name : Ref) (kind : Kind) (e : Expr Ref) → s ≡ SV.Let name kind e →
      locals_of s ≡ first_value kind ∷ []
  locals-Let name kind e h = locals-layer s (S.Let name kind e) (h ∙ sym (rolls-Let name kind e))

  pub locals-Assign : (name : Ref) (e : Expr Ref) → s ≡ SV.Assign name e → locals_of s ≡ []
  locals-Assign name e h = locals-layer s (S.Assign name e) (h ∙ sym (rolls-Assign name e))

  pub locals-Call : (name : Option Ref) (call : Call Ref) → s ≡ SV.Call name call → locals_of s ≡ []
  locals-Call name call h = locals-layer s (S.Call name call) (h ∙ sym (rolls-Call name call))

  pub locals-If : (cond : Expr Ref) (holds fails : List (Statement Ref)) → s ≡ SV.If cond holds fails →
      locals_of s ≡ flat_map locals_of holds ++ flat_map locals_of fails
  locals-If cond holds fails h =
      locals-layer s (S.If cond holds fails) (h ∙ sym (rolls-If cond holds fails))
      ∙ (ap (λ vs. vs ++ flat_map (λ vs. vs) (each locals_of fails)) (each_locals holds)
      ∙ ap (λ vs. flat_map locals_of holds ++ vs) (each_locals fails))

  pub locals-While : (cond : Expr Ref) (turn : List (Statement Ref)) → s ≡ SV.While cond turn →
      locals_of s ≡ flat_map locals_of turn
  locals-While cond turn h = locals-layer s (S.While cond turn) (h ∙ sym (rolls-While cond turn))
      ∙ each_locals turn

  pub weight-Call : (name : Option Ref) (call : Call Ref) → s ≡ SV.Call name call → weight s ≡ 1
  weight-Call name call h = weight-layer s (S.Call name call) (h ∙ sym (rolls-Call name call))

  pub weight-If : (cond : Expr Ref) (holds fails : List (Statement Ref)) → s ≡ SV.If cond holds fails →
      weight s ≡ 1 + (sum_of weight holds + sum_of weight fails)
  weight-If cond holds fails h =
      weight-layer s (S.If cond holds fails) (h ∙ sym (rolls-If cond holds fails))
      ∙ (ap (λ n. 1 + (n + sum_of (λ n. n) (each weight fails))) (each_weight holds)
      ∙ ap (λ n. 1 + (sum_of weight holds + n)) (each_weight fails))

  pub weight-While : (cond : Expr Ref) (turn : List (Statement Ref)) → s ≡ SV.While cond turn →
      weight s ≡ 2 + sum_of weight turn
  weight-While cond turn h = weight-layer s (S.While cond turn) (h ∙ sym (rolls-While cond turn))
      ∙ ap (λ n. 2 + n) (each_weight turn)

module _ (p : Program) (callee : Callee) (box : ℕ) (s : Statement Ref) (state : State) (slots : List Value)
    (budget : ℕ) where
  pub meaning-Let : (name : Ref) (kind : Kind) (e : Expr Ref) → s ≡ SV.Let name kind e →
      statement p callee box s state slots budget
      ≡ evaluated_into box name (value e (vars_of state box) slots) state slots budget
  meaning-Let name kind e h = ap (λ (m : Meaning). m state slots budget)
      (meaning-layer p callee box s (S.Let name kind e) (h ∙ sym (rolls-Let name kind e)))

  pub meaning-Assign : (name : Ref) (e : Expr Ref) → s ≡ SV.Assign name e →
      statement p callee box s state slots budget
      ≡ evaluated_into box name (value e (vars_of state box) slots) state slots budget
  meaning-Assign name e h = ap (λ (m : Meaning). m state slots budget)
      (meaning-layer p callee box s (S.Assign name e) (h ∙ sym (rolls-Assign name e)))

  pub meaning-Call : (name : Option Ref) (call : Call Ref) → s ≡ SV.Call name call →
      statement p callee box s state slots budget
      ≡ call_with p callee box name call (arguments call.args (vars_of state box) slots) state slots
      budget
  meaning-Call name call h = ap (λ (m : Meaning). m state slots budget)
      (meaning-layer p callee box s (S.Call name call) (h ∙ sym (rolls-Call name call)))

  pub meaning-If : (cond : Expr Ref) (holds fails : List (Statement Ref)) → s ≡ SV.If cond holds fails →
      statement p callee box s state slots budget
      ≡ branched (value cond (vars_of state box) slots) (body p callee box holds)
      (body p callee box fails) state slots budget
  meaning-If cond holds fails h =
      ap (λ (m : Meaning). m state slots budget)
      (meaning-layer p callee box s (S.If cond holds fails) (h ∙ sym (rolls-If cond holds fails)))
      ∙ (ap (λ (m : Meaning). branched (value cond (vars_of state box) slots) m
      (in_turn (each (statement p callee box) fails)) state slots budget)
      (in_turn-each p callee box holds)
      ∙ ap (λ (m : Meaning). branched (value cond (vars_of state box) slots) (body p callee box holds) m
      state slots budget) (in_turn-each p callee box fails))

  pub meaning-While : (cond : Expr Ref) (turn : List (Statement Ref)) → s ≡ SV.While cond turn →
      statement p callee box s state slots budget
      ≡ looped box budget cond (body p callee box turn) state slots budget
  meaning-While cond turn h =
      ap (λ (m : Meaning). m state slots budget)
      (meaning-layer p callee box s (S.While cond turn) (h ∙ sym (rolls-While cond turn)))
      ∙ ap (λ (m : Meaning). looped box budget cond m state slots budget) (in_turn-each p callee box turn)
