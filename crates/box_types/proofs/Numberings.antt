-- Statements with each name as its number.
use Rattle.std.specs.Prelude.{◌≡◌, ℕ, false, ◌+◌, ◌<◌, List, [], ◌∷◌, ◌++◌, length, Option, option_map}
use Rattle.std.proofs.Common.{sym, ap, ◌∙◌, refl, get_or, drop, append_assoc}
use Rattle.seuss_program.specs.declared.tree.Name.{Name}
use Rattle.seuss_program.specs.declared.tree.Kind.{Kind}
use Rattle.seuss_program.specs.declared.tree.Ref.{Ref}
use Rattle.seuss_program.specs.declared.tree.Ref.TheVariants as R
use Rattle.seuss_program.specs.declared.tree.Call.{Call}
use Rattle.seuss_program.specs.declared.tree.Expr.{Expr}
use Rattle.seuss_program.specs.declared.tree.Cat.{Cat}
use Rattle.seuss_program.specs.declared.tree.Statement.{Statement, fold-Statement, fold-roll-Statement}
use Rattle.seuss_program.specs.declared.tree.Statement.{map-Statement, roll-Statement}
use Rattle.seuss_program.specs.declared.tree.Statement.TheVariants as SV
use Rattle.seuss_program.specs.declared.tree.Statement.TheVariants.{rolls-Let, rolls-Assign, rolls-Call}
use Rattle.seuss_program.specs.declared.tree.Statement.TheVariants.{rolls-If, rolls-While}
use Rattle.seuss_program.specs.declared.tree.Statement.TheOpen as P
use Rattle.seuss_program.specs.declared.tree.Statement.TheOpen.{Statement-F}
use Rattle.box_types.specs.declared.scopes.Scope.{Scope}
use Rattle.box_types.specs.Scopes.{declared, behind}
use Rattle.box_types.specs.Namings.{Numbered, Numbering, expression, name_ref, call, in_turn, statement}
use Rattle.box_types.specs.Namings.{statement_step, body}
use Rattle.box_types.proofs.Lines.{from_here}
use Rattle.box_types.proofs.Walked.{each}

-- an equal part and an equal scope
pub made_of : {A : Type 0} (n : Numbered A) (p q : A) (s t : Scope) → n ≡ record { part = p; scope = s } →
    q ≡ p → t ≡ s →
    n ≡ record { part = q; scope = t }
made_of {A} n p q s t is part scope =
    is ∙ (ap (λ (x : A). record { part = x; scope = s }) (sym part)
    ∙ ap (λ (u : Scope). record { part = q; scope = u }) (sym scope))

module _ (cats : List (Cat Name)) (own : Cat Name) where
  in_turn-each : (ss : List (Statement Name)) → in_turn (each (statement cats own) ss) ≡ body cats own ss
  in_turn-each [] = refl
  in_turn-each (s ∷ ss) = λ i scope. let first = statement cats own s scope in let rest =
      in_turn-each ss i first.scope in
      record { part = first.part ∷ rest.part; scope = rest.scope }

  number-layer : (s : Statement Name) (d : Statement-F Name (Statement Name)) → s ≡ roll-Statement Name d →
      statement cats own s ≡ statement_step cats own
      (map-Statement Name (Statement Name) Numbering (statement cats own) d)
  unfolding statement
  number-layer s d h = ap (fold-Statement Name Numbering (statement_step cats own)) h
      ∙ fold-roll-Statement Name Numbering (statement_step cats own) d

  module _ (s : Statement Name) (scope : Scope) where
    pub number-Let : (name : Name) (kind : Kind) (e : Expr Name) → s ≡ SV.Let name kind e →
        statement cats own s scope ≡ record {
          part = SV.Let (R.Slot scope.next) kind (expression own scope.visible e);
          scope =
              declared name kind false scope;
        }
    number-Let name kind e h = ap (λ (w : Numbering). w scope)
        (number-layer s (P.Let name kind e) (h ∙ sym (rolls-Let name kind e)))

    pub number-Assign : (name : Name) (e : Expr Name) → s ≡ SV.Assign name e →
        statement cats own s scope ≡ record {
          part = SV.Assign (name_ref own scope.visible name) (expression own scope.visible e);
          scope =
              scope;
        }
    number-Assign name e h = ap (λ (w : Numbering). w scope)
        (number-layer s (P.Assign name e) (h ∙ sym (rolls-Assign name e)))

    pub number-Call : (bind : Option Name) (c : Call Name) → s ≡ SV.Call bind c →
        statement cats own s scope ≡ record {
          part = SV.Call (option_map (name_ref own scope.visible) bind) (call cats own scope.visible c);
          scope = scope;
        }
    number-Call bind c h = ap (λ (w : Numbering). w scope)
        (number-layer s (P.Call bind c) (h ∙ sym (rolls-Call bind c)))

    abbrev Body : Type 0
    Body = Scope → Numbered (List (Statement Ref))

    abbrev either : Expr Ref → Body → Body → Numbered (Statement Ref)
    either cond f g =
        let first = f scope in let second = g (behind scope first.scope) in
        record { part = SV.If cond first.part second.part; scope = behind scope second.scope }

    pub number-If : (cond : Expr Name) (holds fails : List (Statement Name)) → s ≡ SV.If cond holds fails →
        statement cats own s scope ≡ either (expression own scope.visible cond) (body cats own holds)
        (body cats own fails)
    number-If cond holds fails h =
        ap (λ (w : Numbering). w scope)
        (number-layer s (P.If cond holds fails) (h ∙ sym (rolls-If cond holds fails)))
        ∙ (ap (λ (f : Body). either (expression own scope.visible cond) f
        (in_turn (each (statement cats own) fails))) (in_turn-each holds)
        ∙ ap (λ (g : Body). either (expression own scope.visible cond) (body cats own holds) g)
        (in_turn-each fails))

    abbrev turn_of : Expr Ref → Body → Numbered (Statement Ref)
    turn_of cond f = let inside = f scope in record
        { part = SV.While cond inside.part; scope = behind scope inside.scope }

    pub number-While : (cond : Expr Name) (turn : List (Statement Name)) → s ≡ SV.While cond turn →
        statement cats own s scope ≡ turn_of (expression own scope.visible cond) (body cats own turn)
    number-While cond turn h =
        ap (λ (w : Numbering). w scope)
        (number-layer s (P.While cond turn) (h ∙ sym (rolls-While cond turn)))
        ∙ ap (λ (f : Body). turn_of (expression own scope.visible cond) f) (in_turn-each turn)

    -- a statement of two blocks, by what was made of each
    pub either_made : (n : Numbered (Statement Ref)) (cond made : Expr Ref) (f g : Body)
        (y z : List (Statement Ref)) (t u v w : Scope) →
        n ≡ either cond f g → made ≡ cond → f scope ≡ record { part = y; scope = t } → behind scope t ≡ u →
        g u ≡ record { part = z; scope = v } → behind scope v ≡ w →
        n ≡ record { part = SV.If made y z; scope = w }
    either_made n cond made f g y z t u v w is same first gone second then_gone =
        is ∙ (ap (λ (c : Expr Ref). either c f g) (sym same)
        ∙ (ap (λ (x : Numbered (List (Statement Ref))). let second = g (behind scope x.scope) in
        record { part = SV.If made x.part second.part; scope = behind scope second.scope }) first
        ∙ (ap (λ (a : Scope). let second = g a in
        record { part = SV.If made y second.part; scope = behind scope second.scope }) gone
        ∙ (ap (λ (x : Numbered (List (Statement Ref))). record
        { part = SV.If made y x.part; scope = behind scope x.scope }) second
        ∙ ap (λ (a : Scope). record { part = SV.If made y z; scope = a }) then_gone))))

    pub turn_made : (n : Numbered (Statement Ref)) (cond made : Expr Ref) (f : Body)
        (y : List (Statement Ref)) (t u : Scope) →
        n ≡ turn_of cond f → made ≡ cond → f scope ≡ record { part = y; scope = t } → behind scope t ≡ u →
        n ≡ record { part = SV.While made y; scope = u }
    turn_made n cond made f y t u is same inside gone =
        is ∙ (ap (λ (c : Expr Ref). turn_of c f) (sym same)
        ∙ (ap (λ (x : Numbered (List (Statement Ref))). record
        { part = SV.While made x.part; scope = behind scope x.scope }) inside
        ∙ ap (λ (a : Scope). record { part = SV.While made y; scope = a }) gone))

  body_from : (ss : List (Statement Name)) (i : ℕ) (s : Statement Name) (scope : Scope) → i < length ss →
      s ≡ get_or ss i s →
      body cats own (drop i ss) scope ≡ body cats own (s ∷ drop (i + 1) ss) scope
  body_from ss i s scope h e = ap (λ (xs : List (Statement Name)). body cats own xs scope)
      (from_here ss i s h e)

  abbrev onto : List (Statement Ref) → Numbered (List (Statement Ref)) → Numbered (List (Statement Ref))
  onto made n = record { part = made ++ n.part; scope = n.scope }

  abbrev with_first : List (Statement Name) → Numbered (Statement Ref) → Numbered (List (Statement Ref))
  with_first ss first = let rest = body cats own ss first.scope in
      record { part = first.part ∷ rest.part; scope = rest.scope }

  -- one more statement
  pub body_more : (ss : List (Statement Name)) (i : ℕ) (s : Statement Name) (scope after : Scope)
      (all : Numbered (List (Statement Ref)))
      (made now : List (Statement Ref)) (m : Statement Ref) → i < length ss → s ≡ get_or ss i s →
      all ≡ onto made (body cats own (drop i ss) scope) →
      statement cats own s scope ≡ record { part = m; scope = after } → now ≡ made ++ m ∷ [] →
      all ≡ onto now (body cats own (drop (i + 1) ss) after)
  body_more ss i s scope after all made now m h at same is pushed =
      let rest = body cats own (drop (i + 1) ss) after in
      same ∙ (ap (onto made) (body_from ss i s scope h at ∙ ap (with_first (drop (i + 1) ss)) is)
      ∙ (ap (λ (xs : List (Statement Ref)). record { part = xs; scope = rest.scope })
      (sym (append_assoc made (m ∷ []) rest.part))
      ∙ ap (λ (xs : List (Statement Ref)). onto xs rest) (sym pushed)))
