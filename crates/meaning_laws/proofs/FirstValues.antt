-- The slots at an entry have numbers of 64 bits where the arguments have them.
use Rattle.std.proofs.Common.{pos, Bool, true, false, if◌then◌else◌, List, [], ◌∷◌, ◌++◌, Option, None}
use Rattle.std.proofs.Common.{Some, All, refl, sym, subst, ◌≡◌}
use Rattle.std.specs.List.{flat_map}
use Rattle.std.proofs.lemmas.List.Elements.{All-nil, All-cons, All-append}
use Rattle.seuss_program.specs.declared.tree.Ref.{Ref}
use Rattle.seuss_program.specs.declared.tree.Kind.{Kind}
use Rattle.seuss_program.specs.declared.tree.Kind.TheVariants as K
use Rattle.seuss_program.specs.declared.tree.Call.{Call}
use Rattle.seuss_program.specs.declared.tree.Pre.{Pre}
use Rattle.seuss_program.specs.declared.tree.Proc.{Proc}
use Rattle.seuss_program.specs.declared.tree.Form.{Form}
use Rattle.seuss_program.specs.declared.tree.Form.TheVariants as F
use Rattle.seuss_program.specs.declared.tree.Alternative.{Alternative}
use Rattle.seuss_program.specs.declared.tree.Statement.{Statement, fold-roll-Statement, map-Statement}
use Rattle.seuss_program.specs.declared.tree.Statement.{roll-Statement, ind-Statement}
use Rattle.seuss_program.specs.declared.tree.Statement.TheOpen as S
use Rattle.seuss_program.specs.declared.tree.Statement.TheOpen.{Statement-F}
use Rattle.seuss_program.specs.declared.state.Value.{Value}
use Rattle.seuss_program.specs.declared.state.Value.TheVariants as V
use Rattle.seuss_program.specs.Values.{HasSize}
use Rattle.seuss_program.specs.Attempts.{first_value, locals_step, locals_of, bound_local, form_locals}
use Rattle.seuss_program.specs.Attempts.{entry_slots}
use Rattle.meaning_laws.proofs.FittingNumbers.{Fits}
use Rattle.meaning_laws.proofs.KeptBodies.{each}

-- the numbers of values have 64 bits
abbrev Small : List Value → Type 0
Small values = All HasSize values

-- no values, and one
no-values : Small []
no-values = All-nil HasSize

-- a single value of 64 bits
one-value : (v : Value) → HasSize v → Small (v ∷ [])
one-value v h = All-cons HasSize v [] h no-values

-- what a local starts with
first-size : (kind : Kind) → HasSize (first_value kind)
first-size K.Int = refl
first-size K.Bool = tt
first-size K.Seq = All-nil Fits

-- the locals of a statement, by its layer
locals-roll : (d : Statement-F Ref (Statement Ref)) →
    locals_of (roll-Statement Ref d)
    ≡ locals_step (map-Statement Ref (Statement Ref) (List Value) locals_of d)
unfolding locals_of
locals-roll d = fold-roll-Statement Ref (List Value) locals_step d

-- the locals of a statement start with such values
SmallLocals : Statement Ref → Type 0
SmallLocals s = Small (locals_of s)

-- the locals of a statement, where those of its layer are such
layer-locals : (d : Statement-F Ref (Statement Ref)) →
    Small (locals_step (map-Statement Ref (Statement Ref) (List Value) locals_of d)) →
    SmallLocals (roll-Statement Ref d)
unfolding SmallLocals
layer-locals d h = subst Small (sym (locals-roll d)) h

module _ (X : Type 0) (f : X → Statement Ref) (each_small : (x : X) → SmallLocals (f x)) where
  -- the locals of statements inside a statement, and of one by its layer
  inner : (xs : List X) → Small (flat_map (λ vs. vs) (each locals_of (each f xs)))
  unfolding SmallLocals
  inner [] = no-values
  inner (x ∷ xs) =
      All-append HasSize (locals_of (f x)) (flat_map (λ vs. vs) (each locals_of (each f xs)))
      (each_small x) (inner xs)

  -- the locals of a statement begin with values of 64 bits where those inside it do
  layer : (y : Statement-F Ref X) →
      SmallLocals (roll-Statement Ref (map-Statement Ref X (Statement Ref) f y))
  layer (S.Let name kind e) =
      layer-locals (S.Let name kind e) (one-value (first_value kind) (first-size kind))
  layer (S.Assign name e) = layer-locals (S.Assign name e) no-values
  layer (S.Call bind call) = layer-locals (S.Call bind call) no-values
  layer (S.If cond holds fails) =
      layer-locals (S.If cond (each f holds) (each f fails))
      (All-append HasSize (flat_map (λ vs. vs) (each locals_of (each f holds)))
      (flat_map (λ vs. vs) (each locals_of (each f fails))) (inner holds) (inner fails))
  layer (S.While cond turn) = layer-locals (S.While cond (each f turn)) (inner turn)

-- the locals of any statement, and of a body
statement-locals : (s : Statement Ref) → Small (locals_of s)
unfolding SmallLocals
statement-locals =
    ind-Statement Ref SmallLocals
    (λ x y is. subst (λ z. SmallLocals (roll-Statement Ref z)) is (layer _ (λ e. e.0) (λ e. e.1) y))

-- the locals of a body begin with values of 64 bits
body-locals : (ss : List (Statement Ref)) → Small (flat_map locals_of ss)
body-locals [] = no-values
body-locals (s ∷ ss) =
    All-append HasSize (locals_of s) (flat_map locals_of ss) (statement-locals s) (body-locals ss)

-- the local that a preprocedure's result is bound to
pre-local : (o : Option (Pre Ref)) → Small (bound_local o)
pre-local None = no-values
pre-local (Some pre) = by pre.bind pre.call
  where
    by : (bind : Option Ref) (call : Call Ref) →
        Small (bound_local (Some (record { bind = bind; call = call })))
    by None call = no-values
    by (Some name) call = one-value (V.Int (pos 0)) refl

-- the locals of an alternative
abbrev alternative_locals : Alternative Ref → List Value
alternative_locals a = bound_local a.pre ++ flat_map locals_of a.body

-- the locals of alternatives, and of a text
each-locals : (alts : List (Alternative Ref)) → Small (flat_map alternative_locals alts)
each-locals [] = no-values
each-locals (a ∷ alts) =
    All-append HasSize (alternative_locals a) (flat_map alternative_locals alts)
    (All-append HasSize (bound_local a.pre) (flat_map locals_of a.body) (pre-local a.pre)
    (body-locals a.body)) (each-locals alts)

-- the locals of a procedure begin with values of 64 bits
text-locals : (form : Form Ref) → Small (form_locals form)
text-locals (F.Total ss) = body-locals ss
text-locals (F.Partial alts) = each-locals alts
text-locals (F.Action alts) = each-locals alts

-- the slots at an entry have numbers of 64 bits where the arguments have them
pub entry-sizes : (q : Proc Ref) (args : List Value) → All HasSize args → All HasSize (entry_slots q args)
entry-sizes q args all =
    All-append HasSize (args ++ (if q.gives then V.Int (pos 0) ∷ [] else [])) (form_locals q.form)
    (All-append HasSize args (if q.gives then V.Int (pos 0) ∷ [] else []) all (by q.gives))
    (text-locals q.form)
  where
    by : (b : Bool) → Small (if b then V.Int (pos 0) ∷ [] else [])
    by true = one-value (V.Int (pos 0)) refl
    by false = no-values
