-- Whether a variable stands in a text, by the parts of the text.
use Rattle.std.proofs.Common.{◌≡◌, ℤ, ℕ, Bool, false, ◌||◌, List, [], ◌∷◌, Option, refl, sym, ap, ◌∙◌}
use Rattle.seuss_program.specs.declared.tree.Ref.{Ref}
use Rattle.seuss_program.specs.declared.tree.Kind.{Kind}
use Rattle.seuss_program.specs.declared.tree.Op.{Op}
use Rattle.seuss_program.specs.declared.tree.Fun.{Fun}
use Rattle.seuss_program.specs.declared.tree.Call.{Call}
use Rattle.seuss_program.specs.declared.tree.Node.{Node, fold-Node, fold-roll-Node, map-Node, roll-Node}
use Rattle.seuss_program.specs.declared.tree.Node.TheOpen as N
use Rattle.seuss_program.specs.declared.tree.Node.TheVariants as NV
use Rattle.seuss_program.specs.declared.tree.Node.TheVariants.{rolls-Int, rolls-Bool, rolls-Empty}
use Rattle.seuss_program.specs.declared.tree.Node.TheVariants.{rolls-Name, rolls-Neg, rolls-Not, rolls-Two}
use Rattle.seuss_program.specs.declared.tree.Node.TheVariants.{rolls-One}
use Rattle.seuss_program.specs.declared.tree.Node.TheOpen.{Node-F}
use Rattle.seuss_program.specs.declared.tree.Expr.{Expr, fold_out-Expr}
use Rattle.seuss_program.specs.declared.tree.Statement.{Statement, fold-Statement, fold-roll-Statement}
use Rattle.seuss_program.specs.declared.tree.Statement.{map-Statement, roll-Statement}
use Rattle.seuss_program.specs.declared.tree.Statement.TheVariants as SV
use Rattle.seuss_program.specs.declared.tree.Statement.TheVariants.{rolls-Let, rolls-Assign, rolls-Call}
use Rattle.seuss_program.specs.declared.tree.Statement.TheVariants.{rolls-If, rolls-While}
use Rattle.seuss_program.specs.declared.tree.Statement.TheOpen as S
use Rattle.seuss_program.specs.declared.tree.Statement.TheOpen.{Statement-F}
use Rattle.seuss_program.specs.declared.tree.Statement.TheShapes.{former-Statement-If-1}
use Rattle.shape_terms.specs.Texts.{some_true, is_variable, in_node, in_expression, in_call, in_step}
use Rattle.shape_terms.specs.Texts.{in_statement, in_body}

module _ (v : ℕ) where
  in_node_of : Node Ref → Bool
  in_node_of n = fold-Node Ref Bool Bool (in_node v) (λ layer. layer.node) n

  in_its_node : (e : Expr Ref) → in_expression v e ≡ in_node_of e.node
  unfolding in_expression in_node_of
  in_its_node e = fold_out-Expr Ref Bool Bool (in_node v) (λ layer. layer.node) e

  abbrev layer_of : Node-F Ref (Node Ref) (Expr Ref) → Node-F Ref Bool Bool
  layer_of d = map-Node Ref (Node Ref) (Expr Ref) Bool Bool in_node_of (in_expression v) d

  node-roll : (d : Node-F Ref (Node Ref) (Expr Ref)) → in_node_of (roll-Node Ref d) ≡ in_node v (layer_of d)
  unfolding in_expression in_node_of
  node-roll d = fold-roll-Node Ref Bool Bool (in_node v) (λ layer. layer.node) d

  in_layer : (e : Expr Ref) (d : Node-F Ref (Node Ref) (Expr Ref)) → e.node ≡ roll-Node Ref d →
      in_expression v e ≡ in_node v (layer_of d)
  in_layer e d h = in_its_node e ∙ (ap in_node_of h ∙ node-roll d)

  module _ (e : Expr Ref) where
    pub not_in_int : (z : ℤ) → e.node ≡ NV.Int z → false ≡ in_expression v e
    not_in_int z h = sym (in_layer e (N.Int z) (h ∙ sym (rolls-Int z)))

    pub not_in_bool : (b : Bool) → e.node ≡ NV.Bool b → false ≡ in_expression v e
    not_in_bool b h = sym (in_layer e (N.Bool b) (h ∙ sym (rolls-Bool b)))

    pub not_in_empty : e.node ≡ NV.Empty → false ≡ in_expression v e
    not_in_empty h = sym (in_layer e N.Empty (h ∙ sym (rolls-Empty)))

    pub in_name : (name : Ref) (r : Bool) → e.node ≡ NV.Name name → r ≡ is_variable v name →
        r ≡ in_expression v e
    in_name name r h k = k ∙ sym (in_layer e (N.Name name) (h ∙ sym (rolls-Name name)))

    pub in_neg : (part p : Expr Ref) (r : Bool) → e.node ≡ NV.Neg part → p ≡ part → r ≡ in_expression v p →
        r ≡ in_expression v e
    in_neg part p r h same k =
        k ∙ ap (in_expression v) same ∙ sym (in_layer e (N.Neg part) (h ∙ sym (rolls-Neg part)))

    pub in_not : (part p : Expr Ref) (r : Bool) → e.node ≡ NV.Not part → p ≡ part → r ≡ in_expression v p →
        r ≡ in_expression v e
    in_not part p r h same k =
        k ∙ ap (in_expression v) same ∙ sym (in_layer e (N.Not part) (h ∙ sym (rolls-Not part)))

    pub in_one : (fun : Fun) (part p : Expr Ref) (r : Bool) → e.node ≡ NV.One fun part → p ≡ part →
        r ≡ in_expression v p → r ≡ in_expression v e
    in_one fun part p r h same k =
        k ∙ ap (in_expression v) same ∙ sym (in_layer e (N.One fun part) (h ∙ sym (rolls-One fun part)))

    pub in_two : (op : Op) (left right p q : Expr Ref) (a b r : Bool) → e.node ≡ NV.Two op left right →
        p ≡ left → q ≡ right →
        a ≡ in_expression v p → b ≡ in_expression v q → r ≡ (a || b) → r ≡ in_expression v e
    in_two op left right p q a b r h same same' k l m = m ∙ ap (λ x. x || b) (k ∙ ap (in_expression v) same)
        ∙ ap (λ x. in_expression v left || x) (l ∙ ap (in_expression v) same')
        ∙ sym (in_layer e (N.Two op left right) (h ∙ sym (rolls-Two op left right)))

-- a function of each of the statements inside a statement
abbrev each : {A : Type 0} → (Statement Ref → A) → List (Statement Ref) → List A
each {A} f ss = (former-Statement-If-1 Ref).map (Statement Ref) A f ss

module _ (v : ℕ) where
  in_each : (ss : List (Statement Ref)) → some_true (each (in_statement v) ss) ≡ in_body v ss
  in_each [] = refl
  in_each (s ∷ ss) = ap (λ b. in_statement v s || b) (in_each ss)

  in_layers : (s : Statement Ref) (d : Statement-F Ref (Statement Ref)) → s ≡ roll-Statement Ref d →
      in_statement v s ≡ in_step v (map-Statement Ref (Statement Ref) Bool (in_statement v) d)
  unfolding in_statement
  in_layers s d h = ap (fold-Statement Ref Bool (in_step v)) h ∙ fold-roll-Statement Ref Bool (in_step v) d

  module _ (s : Statement Ref) where
    pub in_let : (name : Ref) (kind : Kind) (e : Expr Ref) → s ≡ SV.Let name kind e →
        in_statement v s ≡ (is_variable v name || in_expression v e)
    in_let name kind e h = in_layers s (S.Let name kind e) (h ∙ sym (rolls-Let name kind e))

    pub in_assign : (name : Ref) (e : Expr Ref) → s ≡ SV.Assign name e →
        in_statement v s ≡ (is_variable v name || in_expression v e)
    in_assign name e h = in_layers s (S.Assign name e) (h ∙ sym (rolls-Assign name e))

    pub in_calls : (bind : Option Ref) (call : Call Ref) → s ≡ SV.Call bind call →
        in_statement v s ≡ in_call v bind call
    in_calls bind call h = in_layers s (S.Call bind call) (h ∙ sym (rolls-Call bind call))

    pub in_if : (cond : Expr Ref) (holds fails : List (Statement Ref)) → s ≡ SV.If cond holds fails →
        in_statement v s ≡ (in_expression v cond || (in_body v holds || in_body v fails))
    in_if cond holds fails h = in_layers s (S.If cond holds fails) (h ∙ sym (rolls-If cond holds fails))
        ∙ ap (λ b. in_expression v cond || (b || some_true (each (in_statement v) fails))) (in_each holds)
        ∙ ap (λ b. in_expression v cond || (in_body v holds || b)) (in_each fails)

    pub in_while : (cond : Expr Ref) (turn : List (Statement Ref)) → s ≡ SV.While cond turn →
        in_statement v s ≡ (in_expression v cond || in_body v turn)
    in_while cond turn h =
        in_layers s (S.While cond turn) (h ∙ sym (rolls-While cond turn))
        ∙ ap (λ b. in_expression v cond || b) (in_each turn)

-- either of two, each of which is known
pub either_is : (a b c d r : Bool) → r ≡ (a || b) → a ≡ c → b ≡ d → r ≡ (c || d)
either_is a b c d r e f g = e ∙ ap (λ x. x || b) f ∙ ap (λ x. c || x) g
