-- What fits in a text that fits, and the names that it assigns.
use Rattle.std.proofs.Common.{◌≡◌, Bool, true, false, ◌&&◌, ◌||◌, IsTrue, List, [], ◌∷◌, ◌++◌, Option}
use Rattle.std.proofs.Common.{None, Some}
use Rattle.std.proofs.Common.{refl, sym, ap, subst, ◌∙◌, true≢false}
use Rattle.seuss_program.specs.declared.tree.Ref.{Ref}
use Rattle.seuss_program.specs.declared.tree.Kind.{Kind}
use Rattle.seuss_program.specs.declared.tree.Kind.TheVariants as KV
use Rattle.seuss_program.specs.declared.tree.Expr.{Expr}
use Rattle.seuss_program.specs.declared.tree.Call.{Call}
use Rattle.seuss_program.specs.declared.tree.Form.{Form}
use Rattle.seuss_program.specs.declared.tree.Proc.{Proc}
use Rattle.seuss_program.specs.declared.tree.Statement.{Statement, fold-roll-Statement, map-Statement}
use Rattle.seuss_program.specs.declared.tree.Statement.{roll-Statement}
use Rattle.seuss_program.specs.declared.tree.Statement.TheOpen as S
use Rattle.seuss_program.specs.declared.tree.Statement.TheOpen.{Statement-F}
use Rattle.seuss_program.specs.Keeping as K
use Rattle.seuss_program.specs.Keeping.{Scope, statement_fits, body_fits, all_true, kind_in, kind_set}
use Rattle.seuss_program.specs.Keeping.{is_of, call_fits}
use Rattle.seuss_program.specs.Keeping.{is_total, meets, called, arguments_fit, param_kinds, bind_fits}
use Rattle.meaning_laws.proofs.KeptBodies.{each}
use Rattle.meaning_laws.proofs.FittingTexts.{Fits, Assigns, fits-layer}
use Rattle.meaning_laws.proofs.CalledProcedures.{and-left, and-right, is-of-some}
use Rattle.safety_check.specs.Regions.{is_name, is_among}
use Rattle.safety_check.specs.Ends.{Way, way_step, way_of}

-- a statement does what its layer does
pub way-layer : (d : Statement-F Ref (Statement Ref)) →
    way_of (roll-Statement Ref d) ≡ way_step (map-Statement Ref (Statement Ref) Way way_of d)
unfolding way_of
way-layer d = fold-roll-Statement Ref Way way_step d

-- a name that isn't among some is among none of their parts
or-left : (a b : Bool) → a || b ≡ false → a ≡ false
or-left true b h = h
or-left false b h = refl

-- and so is the second part
or-right : (a b : Bool) → a || b ≡ false → b ≡ false
or-right true b h = absurd (true≢false h)
or-right false b h = h

-- a name that isn't among some isn't among the first of them
pub among-left : (m : Ref) (xs ys : List Ref) → is_among m (xs ++ ys) ≡ false → is_among m xs ≡ false
among-left m [] ys h = refl
among-left m (x ∷ xs) ys h = by _ (is_among m xs) (or-left _ (is_among m (xs ++ ys)) h)
    (among-left m xs ys (or-right _ (is_among m (xs ++ ys)) h))
  where
    by : (a b : Bool) → a ≡ false → b ≡ false → a || b ≡ false
    by a b e f = ap (λ x. x || b) e ∙ f

-- nor among the last
pub among-right : (m : Ref) (xs ys : List Ref) → is_among m (xs ++ ys) ≡ false → is_among m ys ≡ false
among-right m [] ys h = h
among-right m (x ∷ xs) ys h = among-right m xs ys (or-right _ (is_among m (xs ++ ys)) h)

-- a name that isn't among one is another one
pub among-one : (m n : Ref) → is_among m (n ∷ []) ≡ false → is_name n m ≡ false
among-one m n h = or-left _ false h

module _ (s : Scope) where
  -- a statement that fits has a layer that does
  pub layer-fits : (d : Statement-F Ref (Statement Ref)) → Fits s (roll-Statement Ref d) →
      IsTrue (K.statement_step s (map-Statement Ref (Statement Ref) Bool (statement_fits s) d))
  layer-fits d fits = subst (λ b. IsTrue b) (fits-layer s d) fits

  -- a `let` that fits
  pub let-assigns : (name : Ref) (kind : Kind) (e : Expr Ref) →
      Fits s (roll-Statement Ref (S.Let name kind e)) →
      Assigns s name e
  let-assigns name kind e fits =
      let both = layer-fits (S.Let name kind e) fits in
      record {
        kind = kind;
        name_is =
            is-of-some kind (kind_set s name)
            (and-left (is_of kind (kind_set s name)) (is_of kind (kind_in s e)) both);
        value_is =
            is-of-some kind (kind_in s e)
            (and-right (is_of kind (kind_set s name)) (is_of kind (kind_in s e)) both);
      }

  -- an assignment that fits
  pub assign-assigns : (name : Ref) (e : Expr Ref) → Fits s (roll-Statement Ref (S.Assign name e)) →
      Assigns s name e
  assign-assigns name e fits = by (kind_set s name) refl (layer-fits (S.Assign name e) fits)
    where
      by : (o : Option Kind) → kind_set s name ≡ o → IsTrue (K.assigns s o e) → Assigns s name e
      by None is h = absurd (true≢false (sym h))
      by (Some k) is h = record { kind = k; name_is = is; value_is = is-of-some k (kind_in s e) h }

  -- a call that fits
  pub call-fits : (bind : Option Ref) (call : Call Ref) → Fits s (roll-Statement Ref (S.Call bind call)) →
      IsTrue (call_fits s is_total bind call)
  call-fits bind call fits = layer-fits (S.Call bind call) fits

  module _ (cond : Expr Ref) (holds fails : List (Statement Ref))
      (fits : Fits s (roll-Statement Ref (S.If cond holds fails))) where
    both : IsTrue (all_true (each (statement_fits s) holds) && all_true (each (statement_fits s) fails))
    both =
        and-right (is_of KV.Bool (kind_in s cond))
        (all_true (each (statement_fits s) holds) && all_true (each (statement_fits s) fails))
        (layer-fits (S.If cond holds fails) fits)

    pub cond-is : kind_in s cond ≡ Some KV.Bool
    cond-is =
        is-of-some KV.Bool (kind_in s cond)
        (and-left (is_of KV.Bool (kind_in s cond))
        (all_true (each (statement_fits s) holds) && all_true (each (statement_fits s) fails))
        (layer-fits (S.If cond holds fails) fits))

    pub holds-fit : IsTrue (all_true (each (statement_fits s) holds))
    holds-fit = and-left (all_true (each (statement_fits s) holds))
        (all_true (each (statement_fits s) fails)) both

    pub fails-fit : IsTrue (all_true (each (statement_fits s) fails))
    fails-fit = and-right (all_true (each (statement_fits s) holds))
        (all_true (each (statement_fits s) fails)) both

  -- the body of a loop that fits
  pub turn-fits : (cond : Expr Ref) (turn : List (Statement Ref)) →
      Fits s (roll-Statement Ref (S.While cond turn)) → IsTrue (all_true (each (statement_fits s) turn))
  turn-fits cond turn fits =
      and-right (is_of KV.Bool (kind_in s cond)) (all_true (each (statement_fits s) turn))
      (layer-fits (S.While cond turn) fits)

  -- the arguments of a call fit its parameters
  pub arguments-are : (form : Form Ref → Bool) (bind : Option Ref) (call : Call Ref) (r : Proc Ref) →
      IsTrue (call_fits s form bind call) → called s call ≡ Some r →
      IsTrue (arguments_fit s call.args (param_kinds r.params))
  arguments-are form bind call r fits named =
      and-left (arguments_fit s call.args (param_kinds r.params)) (bind_fits s bind r.gives)
      (and-right (form r.form) (arguments_fit s call.args (param_kinds r.params) && bind_fits s bind r.gives)
      (subst (λ o. IsTrue (meets s form bind call.args o)) named fits))
