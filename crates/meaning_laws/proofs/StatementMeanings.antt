-- What a statement does, by what the bodies inside it do.
use Rattle.std.proofs.Common.{◌≡◌, ℕ, List, [], ◌∷◌, Option, refl, sym, ap, ◌∙◌}
use Rattle.seuss_program.specs.declared.program.Program.{Program}
use Rattle.seuss_program.specs.declared.tree.Ref.{Ref}
use Rattle.seuss_program.specs.declared.tree.Kind.{Kind}
use Rattle.seuss_program.specs.declared.tree.Expr.{Expr}
use Rattle.seuss_program.specs.declared.tree.Call.{Call}
use Rattle.seuss_program.specs.declared.tree.Statement.{Statement, roll-Statement}
use Rattle.seuss_program.specs.declared.tree.Statement.TheVariants as T
use Rattle.seuss_program.specs.declared.tree.Statement.TheVariants.{rolls-Let, rolls-Assign, rolls-Call}
use Rattle.seuss_program.specs.declared.tree.Statement.TheVariants.{rolls-If, rolls-While}
use Rattle.seuss_program.specs.declared.tree.Statement.TheOpen as S
use Rattle.seuss_program.specs.declared.tree.Statement.TheOpen.{Statement-F}
use Rattle.seuss_program.specs.declared.tree.Statement.{map-Statement}
use Rattle.seuss_program.specs.declared.state.State.{State}
use Rattle.seuss_program.specs.declared.state.Value.{Value}
use Rattle.seuss_program.specs.Programs.{vars_of}
use Rattle.seuss_program.specs.Values.{value}
use Rattle.seuss_program.specs.Bodies.{Callee, Meaning, Ran, resumed, in_turn, arguments, branched}
use Rattle.seuss_program.specs.Bodies.{evaluated_into, looped, call_with, statement, statement_step, body}
use Rattle.meaning_laws.proofs.KeptBodies.{each, meaning-layer}

module _ (p : Program) (callee : Callee) (box : ℕ) where
  -- the statements inside a statement are a body
  in-turn-body : (ss : List (Statement Ref)) →
      in_turn (each (statement p callee box) ss) ≡ body p callee box ss
  in-turn-body [] = refl
  in-turn-body (s ∷ ss) = ap (then_go (statement p callee box s)) (in-turn-body ss)
    where
      then_go : Meaning → Meaning → Meaning
      then_go m next state slots budget = resumed (m state slots budget).finish (m state slots budget) next

  -- a statement does what its layer does
  layer-means : (t : Statement Ref) (d : Statement-F Ref (Statement Ref)) → roll-Statement Ref d ≡ t →
      statement p callee box t
      ≡ statement_step p callee box (map-Statement Ref (Statement Ref) Meaning (statement p callee box) d)
  layer-means t d is = ap (statement p callee box) (sym is) ∙ meaning-layer p callee box d

  module _ (state : State) (slots : List Value) (budget : ℕ) where
    -- what a meaning leaves from here
    abbrev at_once : Meaning → Ran
    at_once m = m state slots budget

    -- what a `let` does
    pub let-means : (name : Ref) (kind : Kind) (e : Expr Ref) →
        statement p callee box (T.Let name kind e) state slots budget
        ≡ evaluated_into box name (value e (vars_of state box) slots) state slots budget
    let-means name kind e =
        ap at_once (layer-means (T.Let name kind e) (S.Let name kind e) (rolls-Let name kind e))

    -- what an assignment does
    pub assign-means : (name : Ref) (e : Expr Ref) →
        statement p callee box (T.Assign name e) state slots budget
        ≡ evaluated_into box name (value e (vars_of state box) slots) state slots budget
    assign-means name e = ap at_once (layer-means (T.Assign name e) (S.Assign name e) (rolls-Assign name e))

    -- what a call does
    pub call-means : (bind : Option Ref) (call : Call Ref) →
        statement p callee box (T.Call bind call) state slots budget
        ≡ call_with p callee box bind call (arguments call.args (vars_of state box) slots) state slots budget
    call-means bind call =
        ap at_once (layer-means (T.Call bind call) (S.Call bind call) (rolls-Call bind call))

    -- what a choice does
    pub if-means : (cond : Expr Ref) (holds fails : List (Statement Ref)) →
        statement p callee box (T.If cond holds fails) state slots budget
        ≡ branched (value cond (vars_of state box) slots) (body p callee box holds)
        (body p callee box fails) state slots budget
    if-means cond holds fails =
        ap at_once (layer-means (T.If cond holds fails) (S.If cond holds fails) (rolls-If cond holds fails))
        ∙ (ap (λ m. branched (value cond (vars_of state box) slots) m
        (in_turn (each (statement p callee box) fails)) state slots budget) (in-turn-body holds)
        ∙ ap (λ m. branched (value cond (vars_of state box) slots)
        (body p callee box holds) m state slots budget) (in-turn-body fails))

    -- what a loop does
    pub while-means : (cond : Expr Ref) (turn : List (Statement Ref)) →
        statement p callee box (T.While cond turn) state slots budget
        ≡ looped box budget cond (body p callee box turn) state slots budget
    while-means cond turn =
        ap at_once (layer-means (T.While cond turn) (S.While cond turn) (rolls-While cond turn))
        ∙ ap (λ m. looped box budget cond m state slots budget) (in-turn-body turn)
