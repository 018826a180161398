-- A right expression beside a cat stands for itself with its names as numbers, and is a bool.
use Rattle.std.specs.Prelude.{◌≡◌, ℕ, zero, suc, true, List, [], ◌∷◌, ◌++◌, map, slice_get, Option, None}
use Rattle.std.specs.Prelude.{Some, option_map, Result, Ok, Err, IfOk}
use Rattle.std.proofs.Common.{refl, sym, ap, subst, ◌∙◌}
use Rattle.seuss_program.specs.declared.tree.Name.{Name}
use Rattle.seuss_program.specs.declared.tree.Ref.{Ref}
use Rattle.seuss_program.specs.declared.tree.Kind.{Kind}
use Rattle.seuss_program.specs.declared.tree.Kind.TheVariants as K
use Rattle.seuss_program.specs.declared.tree.Var.{Var}
use Rattle.seuss_program.specs.declared.tree.Node.{Node, fold-Node, fold-roll-Node, map-Node, roll-Node}
use Rattle.seuss_program.specs.declared.tree.Node.TheOpen as L
use Rattle.seuss_program.specs.declared.tree.Node.TheOpen.{Node-F}
use Rattle.seuss_program.specs.declared.tree.Expr.{Expr, Expr-F, fold_out-Expr, ind-Expr, roll-Expr}
use Rattle.seuss_program.specs.declared.tree.Expr.{map-Expr}
use Rattle.seuss_program.specs.declared.tree.Cat.{Cat}
use Rattle.seuss_program.specs.declared.program.Program.{Program}
use Rattle.seuss_program.specs.Keeping.{Scope, kind_in, var_kinds}
use Rattle.seuss_program.specs.WellFormed.{has_numbers}
use Rattle.box_types.specs.declared.refusal.CheckRefusal.{CheckRefusal}
use Rattle.box_types.specs.declared.scopes.Local.{Local}
use Rattle.box_types.specs.declared.scopes.Meaning.TheVariants as M
use Rattle.box_types.specs.Scopes as Sc
use Rattle.box_types.specs.Unknown.{names_step, in_names}
use Rattle.box_types.specs.WrongKind.{is_no_value, no_value}
use Rattle.box_types.specs.Twice.{fails}
use Rattle.box_types.specs.Namings.{expression}
use Rattle.box_types.specs.Locals.{Locals, no_locals}
use Rattle.box_types.specs.Meanings.{ExprStands}
use Rattle.box_types.specs.SingleExpressions.{with_vars, vars_in, vars_scope, seen_beside, IsRight}
use Rattle.box_types.specs.SingleExpressions.{ResolvesSingle}
use Rattle.box_types.proofs.FirstNames.{is_first}
use Rattle.box_types.proofs.KeptExpressions.{Fits, Agrees, has_kind, part-known}
use Rattle.box_types.proofs.MeantExpressions.{expression_stands}
use Rattle.box_types.proofs.MeantNames.{or_meaning}
use Rattle.box_types.proofs.SeenLocals.{Sees}

module _ (at : Name → List ℕ) (none : (name : Name) → at name ≡ []) where
  -- what is found at the names of a node
  names_of : Node Name → List ℕ
  names_of n = fold-Node Name (List ℕ) (List ℕ) (names_step at) (λ layer. layer.node) n

  -- an expression by its node
  names-expr : (e : Expr Name) → in_names at e ≡ names_of e.node
  unfolding in_names names_of
  names-expr e = fold_out-Expr Name (List ℕ) (List ℕ) (names_step at) (λ layer. layer.node) e

  -- a node by its layer
  names-roll : (d : Node-F Name (Node Name) (Expr Name)) →
      names_of (roll-Node Name d) ≡ names_step at
      (map-Node Name (Node Name) (Expr Name) (List ℕ) (List ℕ) names_of (in_names at) d)
  unfolding in_names names_of
  names-roll d = fold-roll-Node Name (List ℕ) (List ℕ) (names_step at) (λ layer. layer.node) d

  -- nothing is found at the names of a node, and of an expression
  abbrev NodeClaim : Node Name → Type 0
  NodeClaim n = names_of n ≡ []

  abbrev Claim : Expr Name → Type 0
  Claim e = in_names at e ≡ []

  -- a node, by its layer
  node-none : (y : Node-F Name ((n : Node Name) × NodeClaim n) ((e : Expr Name) × Claim e)) →
      NodeClaim (roll-Node Name
      (map-Node Name ((n : Node Name) × NodeClaim n) ((e : Expr Name) × Claim e) (Node Name) (Expr Name)
      (λ e. e.0) (λ e. e.0) y))
  node-none (L.Int z) = names-roll (L.Int z)
  node-none (L.Bool b) = names-roll (L.Bool b)
  node-none L.Empty = names-roll L.Empty
  node-none (L.Name name) = names-roll (L.Name name) ∙ none name
  node-none (L.Neg e) = names-roll (L.Neg e.0) ∙ e.1
  node-none (L.Not e) = names-roll (L.Not e.0) ∙ e.1
  node-none (L.Two op l r) =
      names-roll (L.Two op l.0 r.0) ∙ (ap (λ (ns : List ℕ). ns ++ in_names at r.0) l.1 ∙ r.1)
  node-none (L.One fun e) = names-roll (L.One fun e.0) ∙ e.1

  -- an expression, by its layer
  expr-none : (y : Expr-F Name ((n : Node Name) × NodeClaim n) ((e : Expr Name) × Claim e)) →
      Claim (roll-Expr Name
      (map-Expr Name ((n : Node Name) × NodeClaim n) ((e : Expr Name) × Claim e) (Node Name) (Expr Name)
      (λ e. e.0) (λ e. e.0) y))
  expr-none y = names-expr (roll-Expr Name
      (map-Expr Name ((n : Node Name) × NodeClaim n) ((e : Expr Name) × Claim e) (Node Name) (Expr Name)
      (λ e. e.0) (λ e. e.0) y)) ∙ y.node.1

  -- where nothing is found at any name, nothing is found at those of an expression
  none_in_names : (e : Expr Name) → in_names at e ≡ []
  none_in_names = ind-Expr Name NodeClaim Claim
      (λ x y is. subst (λ d. NodeClaim (roll-Node Name d)) is (node-none y))
      (λ x y is. subst (λ d. Claim (roll-Expr Name d)) is (expr-none y))

-- an item of a list, changed
get_map : {X Y : Type 0} (f : X → Y) (xs : List X) (n : ℕ) (x : X) → slice_get xs n ≡ Some x →
    slice_get (map f xs) n ≡ Some (f x)
get_map f [] n x h = absurd (cc)
get_map f (y ∷ xs) zero x h = ap (λ (o : Option _). option_map f o) h
get_map f (y ∷ xs) (suc n) x h = get_map f xs n x h

module _ (vars : List Var) where
  -- the number of a variable, where there is one of the name
  abbrev number : Name → Option ℕ
  number name = Sc.number_of (λ (v : Var). v.name) vars name

  -- the kind of the first variable of a name
  abbrev kind : Name → Kind
  kind name = Sc.kind_in (Sc.named (λ (v : Var). v.name) vars name)

  -- a name is a variable of its kind, or nothing
  fits_beside : (k : Scope) → k.vars ≡ var_kinds vars → (name : Name) →
      Fits k (Sc.meaning_of (with_vars vars) [] name)
  fits_beside k same name = by (number name) refl
    where
      by : (o : Option ℕ) → number name ≡ o →
          Fits k (or_meaning M.Nothing (Sc.or_else (option_map (λ n. M.Variable n (kind name)) o) None))
      by None is = tt
      by (Some n) is =
          let first = is_first (λ (v : Var). v.name) vars name n is in
          ap (λ ks. slice_get ks n) same ∙ (get_map (λ (v : Var). v.kind) vars n first.0.item first.0.there
          ∙ ap (λ (o : Option Var). Some (Sc.kind_in o)) (sym first.1))

  -- and so never a given box or a procedure
  valued : (name : Name) → no_value (with_vars vars) [] name ≡ []
  valued name = by (number name)
    where
      by : (o : Option ℕ) →
          fails (is_no_value
          (or_meaning M.Nothing (Sc.or_else (option_map (λ n. M.Variable n (kind name)) o) None))) name.line
          ≡ []
      by None = refl
      by (Some n) = refl

  -- nothing is visible but the variables
  sees_nothing : Sees no_locals [] 0
  sees_nothing = record {
    count = refl;
    local = λ l h. absurd h;
    back = λ slot h. absurd h;
    apart = λ a b h g is. absurd h;
  }

  -- a right expression stands for itself with its names as numbers
  stands : (e : Expr Name) → IsRight (with_vars vars) e →
      ExprStands (with_vars vars) no_locals e (expression (with_vars vars) [] e)
  stands e right = expression_stands (with_vars vars) no_locals [] 0 sees_nothing e right.unknown
      (none_in_names (no_value (with_vars vars) []) valued e)

-- and is a bool
is_bool : (cats : List (Cat Ref)) (c : Cat Ref) (e : Expr Name) → IsRight (with_vars c.vars) e →
    has_numbers e ≡ true → kind_in (vars_scope cats c) (expression (with_vars c.vars) [] e) ≡ Some K.Bool
is_bool cats c e right numbers =
    let agrees : Agrees (with_vars c.vars) [] (vars_scope cats c) =
    record { at = fits_beside c.vars (vars_scope cats c) refl } in
    part-known (with_vars c.vars) [] (vars_scope cats c) agrees e K.Bool
    (has_kind (with_vars c.vars) [] (vars_scope cats c) agrees e) right.unknown
    (none_in_names (no_value (with_vars c.vars) []) (valued c.vars) e) right.wrong_type numbers

-- the same beside the cat of a number
pub stands_beside : (p : Program) (cat : ℕ) (e : Expr Name) → IsRight (seen_beside p cat) e →
    ExprStands (seen_beside p cat) no_locals e (expression (seen_beside p cat) [] e)
stands_beside p cat e right = stands (vars_in (slice_get p.cats cat)) e right

pub bool_beside : (p : Program) (cat : ℕ) (c : Cat Ref) (e : Expr Name) → slice_get p.cats cat ≡ Some c →
    IsRight (seen_beside p cat) e → has_numbers e ≡ true →
    kind_in (vars_scope p.cats c) (expression (seen_beside p cat) [] e) ≡ Some K.Bool
bool_beside p cat c e there right numbers =
    let same : seen_beside p cat ≡ with_vars c.vars =
    ap (λ (o : Option (Cat Ref)). with_vars (vars_in o)) there in
    subst (λ own. kind_in (vars_scope p.cats c) (expression own [] e) ≡ Some K.Bool) (sym same)
    (is_bool p.cats c e (subst (λ own. IsRight own e) same right) numbers)

module _ (p : Program) (cat : ℕ) (own : Cat Name) (same : own ≡ seen_beside p cat) (e : Expr Name) where
  -- what was resolved beside such a cat is what the expression stands for
  pub stands_by : (r : Result (Expr Ref) CheckRefusal) → ResolvesSingle r own e →
      IfOk r (λ made. ExprStands (seen_beside p cat) no_locals e made)
  stands_by (Ok made) is =
      let right : IsRight (seen_beside p cat) e = subst (λ o. IsRight o e) same is.0 in
      let made_is : expression (seen_beside p cat) [] e ≡ made =
      sym (is.1 ∙ ap (λ o. expression o [] e) same) in
      subst (λ m. ExprStands (seen_beside p cat) no_locals e m) made_is (stands_beside p cat e right)
  stands_by (Err refusal) is = tt

  -- and is a bool
  pub bool_by : (r : Result (Expr Ref) CheckRefusal) → ResolvesSingle r own e → has_numbers e ≡ true →
      IfOk r (λ made. (c : Cat Ref) → slice_get p.cats cat ≡ Some c →
      kind_in (vars_scope p.cats c) made ≡ Some K.Bool)
  bool_by (Ok made) is numbers = λ c there.
      let right : IsRight (seen_beside p cat) e = subst (λ o. IsRight o e) same is.0 in
      let made_is : expression (seen_beside p cat) [] e ≡ made =
      sym (is.1 ∙ ap (λ o. expression o [] e) same) in
      subst (λ m. kind_in (vars_scope p.cats c) m ≡ Some K.Bool) made_is
      (bool_beside p cat c e there right numbers)
  bool_by (Err refusal) is numbers = tt
