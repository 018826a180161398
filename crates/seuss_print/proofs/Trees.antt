-- Induction over expressions and statements, by their forms.
use Rattle.std.proofs.Common.{ℕ, ℤ, Bool, List, [], ◌∷◌, Option, subst, sym}
use Rattle.std.specs.List.{AllByRecursion}
use Rattle.seuss_parser.specs.Trees as G
use Rattle.seuss_program.specs.declared.tree.Name.{Name}
use Rattle.seuss_program.specs.declared.tree.Kind.{Kind}
use Rattle.seuss_program.specs.declared.tree.Op.{Op}
use Rattle.seuss_program.specs.declared.tree.Fun.{Fun}
use Rattle.seuss_program.specs.declared.tree.Call.{Call}
use Rattle.seuss_program.specs.declared.tree.Expr.{Expr, ind-Expr, Expr-F, roll-Expr, map-Expr}
use Rattle.seuss_program.specs.declared.tree.Node.{Node, Node-F, roll-Node, map-Node}
use Rattle.seuss_program.specs.declared.tree.Node.TheOpen as L
use Rattle.seuss_program.specs.declared.tree.Node.TheVariants as N
use Rattle.seuss_program.specs.declared.tree.Node.TheVariants.{rolls-Int, rolls-Bool, rolls-Empty}
use Rattle.seuss_program.specs.declared.tree.Node.TheVariants.{rolls-Name, rolls-Neg, rolls-Not, rolls-Two}
use Rattle.seuss_program.specs.declared.tree.Node.TheVariants.{rolls-One}
use Rattle.seuss_program.specs.declared.tree.Statement.{Statement, ind-Statement, map-Statement}
use Rattle.seuss_program.specs.declared.tree.Statement.{roll-Statement}
use Rattle.seuss_program.specs.declared.tree.Statement.TheVariants as T
use Rattle.seuss_program.specs.declared.tree.Statement.TheVariants.{rolls-Let, rolls-Assign, rolls-Call}
use Rattle.seuss_program.specs.declared.tree.Statement.TheVariants.{rolls-If, rolls-While}
use Rattle.seuss_program.specs.declared.tree.Statement.TheOpen as P
use Rattle.seuss_program.specs.declared.tree.Statement.TheOpen.{Statement-F}
use Rattle.seuss_program.specs.declared.tree.Statement.TheShapes.{former-Statement-If-1}

-- what holds of each form of an expression, where it holds of its parts
pub record Forms (Q : Expr Name → Type 0) : Type 0 where
  pub int : (line : ℕ) (z : ℤ) → Q (G.expression line (N.Int z))
  pub bool : (line : ℕ) (b : Bool) → Q (G.expression line (N.Bool b))
  pub empty : (line : ℕ) → Q (G.expression line N.Empty)
  pub name : (line : ℕ) (n : Name) → Q (G.expression line (N.Name n))
  pub neg : (line : ℕ) (e : Expr Name) → Q e → Q (G.expression line (N.Neg e))
  pub not : (line : ℕ) (e : Expr Name) → Q e → Q (G.expression line (N.Not e))
  pub two : (line : ℕ) (op : Op) (l r : Expr Name) → Q l → Q r → Q (G.expression line (N.Two op l r))
  pub one : (line : ℕ) (fun : Fun) (e : Expr Name) → Q e → Q (G.expression line (N.One fun e))

module _ (Q : Expr Name → Type 0) (forms : Forms Q) where
  abbrev OnNode : Node Name → Type 0
  OnNode n = (line : ℕ) → Q (G.expression line n)

  node-step : {A B : Type 0} (f : A → Node Name) (g : B → Expr Name) → ((b : B) → Q (g b)) →
      (y : Node-F Name A B) →
      OnNode (roll-Node Name (map-Node Name A B (Node Name) (Expr Name) f g y))
  node-step f g holds (L.Int z) line = subst (λ n. Q (G.expression line n)) (sym (rolls-Int z))
      (forms.int line z)
  node-step f g holds (L.Bool b) line = subst (λ n. Q (G.expression line n)) (sym (rolls-Bool b))
      (forms.bool line b)
  node-step f g holds L.Empty line = subst (λ n. Q (G.expression line n)) (sym (rolls-Empty))
      (forms.empty line)
  node-step f g holds (L.Name n) line = subst (λ n. Q (G.expression line n)) (sym (rolls-Name n))
      (forms.name line n)
  node-step f g holds (L.Neg e) line = subst (λ n. Q (G.expression line n)) (sym (rolls-Neg (g e)))
      (forms.neg line (g e) (holds e))
  node-step f g holds (L.Not e) line = subst (λ n. Q (G.expression line n)) (sym (rolls-Not (g e)))
      (forms.not line (g e) (holds e))
  node-step f g holds (L.Two op l r) line =
      subst (λ n. Q (G.expression line n)) (sym (rolls-Two op (g l) (g r)))
      (forms.two line op (g l) (g r) (holds l) (holds r))
  node-step f g holds (L.One fun e) line = subst (λ n. Q (G.expression line n)) (sym (rolls-One fun (g e)))
      (forms.one line fun (g e) (holds e))

  expr-step : {A B : Type 0} (f : A → Node Name) (g : B → Expr Name) → ((a : A) → OnNode (f a)) →
      (y : Expr-F Name A B) →
      Q (roll-Expr Name (map-Expr Name A B (Node Name) (Expr Name) f g y))
  expr-step f g holds y = holds y.node y.line

  pub on_expressions : (e : Expr Name) → Q e
  on_expressions e = ind-Expr Name OnNode Q
      (λ x y is. subst (λ z. OnNode (roll-Node Name z)) is (node-step (λ e. e.0) (λ e. e.0) (λ e. e.1) y))
      (λ x y is. subst (λ z. Q (roll-Expr Name z)) is (expr-step (λ e. e.0) (λ e. e.0) (λ e. e.1) y)) e

-- what holds of each form of a statement, where it holds of the statements inside
pub record StatementForms (Q : Statement Name → Type 0) : Type 0 where
  pub let_ : (n : Name) (kind : Kind) (e : Expr Name) → Q (T.Let n kind e)
  pub assign : (n : Name) (e : Expr Name) → Q (T.Assign n e)
  pub call : (bind : Option Name) (c : Call Name) → Q (T.Call bind c)
  pub if_ : (cond : Expr Name) (holds fails : List (Statement Name)) → AllByRecursion Q holds →
      AllByRecursion Q fails →
      Q (T.If cond holds fails)
  pub while_ : (cond : Expr Name) (turn : List (Statement Name)) → AllByRecursion Q turn →
      Q (T.While cond turn)

module _ (Q : Statement Name → Type 0) (forms : StatementForms Q) where
  each-holds : {A : Type 0} (f : A → Statement Name) → ((a : A) → Q (f a)) → (xs : List A) →
      AllByRecursion Q ((former-Statement-If-1 Name).map A (Statement Name) f xs)
  each-holds f holds [] = tt
  each-holds f holds (x ∷ xs) = (holds x, each-holds f holds xs)

  statement-step : {A : Type 0} (f : A → Statement Name) → ((a : A) → Q (f a)) → (y : Statement-F Name A) →
      Q (roll-Statement Name (map-Statement Name A (Statement Name) f y))
  statement-step f holds (P.Let n kind e) = subst Q (sym (rolls-Let n kind e)) (forms.let_ n kind e)
  statement-step f holds (P.Assign n e) = subst Q (sym (rolls-Assign n e)) (forms.assign n e)
  statement-step f holds (P.Call bind c) = subst Q (sym (rolls-Call bind c)) (forms.call bind c)
  statement-step f holds (P.If cond yes_ no_) =
      subst Q (sym (rolls-If cond _ _))
      (forms.if_ cond _ _ (each-holds f holds yes_) (each-holds f holds no_))
  statement-step f holds (P.While cond turn) =
      subst Q (sym (rolls-While cond _)) (forms.while_ cond _ (each-holds f holds turn))

  pub on_statements : (s : Statement Name) → Q s
  on_statements s = ind-Statement Name Q
      (λ x y is. subst (λ z. Q (roll-Statement Name z)) is (statement-step (λ e. e.0) (λ e. e.1) y)) s
