-- Statements in which no name is unknown or stands twice, and each names what it is used for, stand for
-- themselves with numbers.
use Rattle.std.specs.Prelude.{◌≡◌, ℕ, false, List, [], ◌∷◌, Option, None, Some, option_map}
use Rattle.std.specs.List.{AllByRecursion}
use Rattle.std.proofs.Common.{refl, sym, ap, subst, ◌∙◌}
use Rattle.seuss_program.specs.declared.tree.Name.{Name}
use Rattle.seuss_program.specs.declared.tree.Kind.{Kind}
use Rattle.seuss_program.specs.declared.tree.Kind.TheVariants as K
use Rattle.seuss_program.specs.declared.tree.Ref.{Ref}
use Rattle.seuss_program.specs.declared.tree.Ref.TheVariants as R
use Rattle.seuss_program.specs.declared.tree.Expr.{Expr}
use Rattle.seuss_program.specs.declared.tree.Call.{Call}
use Rattle.seuss_program.specs.declared.tree.Statement.{Statement, map-Statement, roll-Statement}
use Rattle.seuss_program.specs.declared.tree.Statement.{ind-Statement}
use Rattle.seuss_program.specs.declared.tree.Statement.TheVariants as SV
use Rattle.seuss_program.specs.declared.tree.Statement.TheVariants.{rolls-Let, rolls-Assign, rolls-Call}
use Rattle.seuss_program.specs.declared.tree.Statement.TheVariants.{rolls-If, rolls-While}
use Rattle.seuss_program.specs.declared.tree.Statement.TheOpen as S
use Rattle.seuss_program.specs.declared.tree.Statement.TheOpen.{Statement-F}
use Rattle.seuss_program.specs.declared.tree.Statement.TheShapes.{former-Statement-If-1}
use Rattle.seuss_program.specs.declared.tree.Cat.{Cat}
use Rattle.box_types.specs.declared.scopes.Scope.{Scope}
use Rattle.box_types.specs.Scopes.{behind, meaning_of}
use Rattle.box_types.specs.Walks as W
use Rattle.box_types.specs.Walks.{Test, Walked, Value, Assigned, LocalName, kind_of}
use Rattle.box_types.specs.Twice.{twice_at}
use Rattle.box_types.specs.Unknown.{is_nothing, unknown_at}
use Rattle.box_types.specs.WrongKind.{is_fixed, kind_at}
use Rattle.box_types.specs.Namings as N
use Rattle.box_types.specs.Namings.{Numbered, expression, name_ref}
use Rattle.box_types.specs.Locals.{Locals, with_local, after_block}
use Rattle.box_types.specs.Meanings.{StatementStands, OfLet, OfAssign, OfCall, OfIf, OfWhile, BodyStands}
use Rattle.box_types.specs.Meanings.{NoStatement, NextStatement, TakerStands, NoTaker, Taker, ExprStands}
use Rattle.box_types.proofs.OwnNames.{none_first, none_second, no_failure}
use Rattle.box_types.proofs.Walked.{walk-Let, walk-Assign, walk-Call, walk-If, walk-While}
use Rattle.box_types.proofs.Numberings.{number-Let, number-Assign, number-Call, number-If, number-While}
use Rattle.box_types.proofs.SeenLocals.{Sees, GoesOn, goes_on_here, goes_on_after, goes_on_with}
use Rattle.box_types.proofs.SeenLocals.{fresh_by, goes_on_block, sees_declared, sees_after, assigned_stands}
use Rattle.box_types.proofs.MeantExpressions.{expression_stands}
use Rattle.box_types.proofs.MeantCalls.{KnownGivens, call_stands}
use Rattle.box_types.proofs.SameScopes.{with_earlier, statement_keeps, bodies_keep}

module _ (cats : List (Cat Name)) (own : Cat Name) (givens : KnownGivens cats own) where
  -- what stands for a statement, and for a body, and the locals after it
  pub record MeantStatement (here : Locals) (s : Statement Name) (n : Numbered (Statement Ref)) : Type 0
    where
      pub there : Locals
      pub stands : StatementStands cats own here s n.part there
      pub sees : Sees there n.scope.visible n.scope.next
      pub on : GoesOn here there

  pub record MeantBody (here : Locals) (ss : List (Statement Name)) (n : Numbered (List (Statement Ref))) :
      Type 0 where
    pub there : Locals
    pub stands : BodyStands cats own here ss n.part there
    pub sees : Sees there n.scope.visible n.scope.next
    pub on : GoesOn here there

  -- the name that takes the result of a call stands for a number
  taker_stands : (here : Locals) (sc : Scope) (bind : Option Name) (c : Call Name) →
      Sees here sc.visible sc.next → W.taken unknown_at cats own sc.visible bind c ≡ [] →
      W.taken kind_at cats own sc.visible bind c ≡ [] →
      TakerStands own here bind (option_map (name_ref own sc.visible) bind)
  taker_stands here sc None c sees known right = NoTaker
  taker_stands here sc (Some name) c sees known right =
      let m = meaning_of own sc.visible name in
      Taker name (name_ref own sc.visible name) (assigned_stands own here sc.visible sc.next sees name
      (no_failure (is_nothing m) name.line (none_first (unknown_at (Assigned own sc.visible name)) _ known))
      (no_failure (is_fixed m) name.line (none_first (kind_at (Assigned own sc.visible name)) _ right)))

  module _ (number : ℕ) where
    -- the lines of a statement and of a body that a test finds
    abbrev lines_of : Test → Statement Name → Scope → List ℕ
    lines_of test s sc = (W.statement test cats own number s sc).lines

    abbrev lines_in : Test → List (Statement Name) → Scope → List ℕ
    lines_in test ss sc = (W.body test cats own number ss sc).lines

    -- a statement, and a body, at which three tests find nothing stands for itself with numbers
    abbrev StatementClaim : Statement Name → Type 0
    StatementClaim s = (here : Locals) (sc : Scope) (e f g : List Name) → Sees here sc.visible sc.next →
        lines_of unknown_at s (with_earlier e sc) ≡ [] → lines_of kind_at s (with_earlier f sc) ≡ [] →
        lines_of twice_at s (with_earlier g sc) ≡ [] →
        MeantStatement here s (N.statement cats own s sc)

    abbrev BodyClaim : List (Statement Name) → Type 0
    BodyClaim ss = (here : Locals) (sc : Scope) (e f g : List Name) → Sees here sc.visible sc.next →
        lines_in unknown_at ss (with_earlier e sc) ≡ [] → lines_in kind_at ss (with_earlier f sc) ≡ [] →
        lines_in twice_at ss (with_earlier g sc) ≡ [] →
        MeantBody here ss (N.body cats own ss sc)

    -- a body, by its statements
    body_claim : (ss : List (Statement Name)) → AllByRecursion StatementClaim ss → BodyClaim ss
    body_claim [] all here sc e f g sees known right own_names =
        record { there = here; stands = NoStatement here; sees = sees; on = goes_on_here here }
    body_claim (s ∷ ss) all here sc e f g sees known right own_names =
        let first = all.0 here sc e f g sees
        (none_first (lines_of unknown_at s (with_earlier e sc)) _ known)
        (none_first (lines_of kind_at s (with_earlier f sc)) _ right)
        (none_first (lines_of twice_at s (with_earlier g sc)) _ own_names) in
        let next : Scope = (N.statement cats own s sc).scope in
        let known_scope = statement_keeps unknown_at cats own number s sc e in
        let right_scope = statement_keeps kind_at cats own number s sc f in
        let own_scope = statement_keeps twice_at cats own number s sc g in
        let rest = body_claim ss all.1 first.there next known_scope.earlier right_scope.earlier
        own_scope.earlier first.sees
        (ap (lines_in unknown_at ss) (sym known_scope.same)
        ∙ none_second (lines_of unknown_at s (with_earlier e sc)) _ known)
        (ap (lines_in kind_at ss) (sym right_scope.same)
        ∙ none_second (lines_of kind_at s (with_earlier f sc)) _ right)
        (ap (lines_in twice_at ss) (sym own_scope.same)
        ∙ none_second (lines_of twice_at s (with_earlier g sc)) _ own_names) in
        record {
          there = rest.there;
          stands = NextStatement here first.there rest.there s (N.statement cats own s sc).part ss
              (N.body cats own ss next).part first.stands rest.stands;
          sees = rest.sees;
          on = goes_on_after here first.there rest.there first.on rest.on;
        }

    -- a value of a statement stands for itself with numbers
    value_stands : (here : Locals) (sc : Scope) (wanted : Option Kind) (e : Expr Name) →
        Sees here sc.visible sc.next → unknown_at (Value own sc.visible wanted e) ≡ [] →
        kind_at (Value own sc.visible wanted e) ≡ [] →
        ExprStands own here e (expression own sc.visible e)
    value_stands here sc wanted e sees known right =
        expression_stands own here sc.visible sc.next sees e known right

    -- a statement of each form
    let_claim : (name : Name) (kind : Kind) (e : Expr Name) → StatementClaim (SV.Let name kind e)
    let_claim name kind e here sc a b d sees known right own_names =
        let s : Statement Name = SV.Let name kind e in
        let walk_known = walk-Let unknown_at cats own number s (with_earlier a sc) name kind e refl in
        let walk_right = walk-Let kind_at cats own number s (with_earlier b sc) name kind e refl in
        let value = value_stands here sc (Some kind) e sees
        (none_second (unknown_at (LocalName own number (with_earlier a sc) name)) _
        (ap (λ (w : Walked). w.lines) (sym walk_known) ∙ known))
        (none_second (kind_at (LocalName own number (with_earlier b sc) name)) _
        (ap (λ (w : Walked). w.lines) (sym walk_right) ∙ right)) in
        let f : Expr Ref = expression own sc.visible e in
        let walk_own = walk-Let twice_at cats own number s (with_earlier d sc) name kind e refl in
        let fresh = fresh_by own number (with_earlier d sc) name
        (none_first (twice_at (LocalName own number (with_earlier d sc) name)) _
        (ap (λ (w : Walked). w.lines) (sym walk_own) ∙ own_names)) in
        subst (MeantStatement here s) (sym (number-Let cats own s sc name kind e refl)) (record {
          there = with_local name here;
          stands = subst (λ n. StatementStands cats own here s (SV.Let (R.Slot n) kind f)
              (with_local name here)) (sym sees.count) (OfLet here name kind e f value);
          sees = sees_declared here sc name kind false sees fresh;
          on = goes_on_with name here;
        })

    assign_claim : (name : Name) (e : Expr Name) → StatementClaim (SV.Assign name e)
    assign_claim name e here sc a b d sees known right own_names =
        let s : Statement Name = SV.Assign name e in
        let m = meaning_of own sc.visible name in
        let known_here = ap (λ (w : Walked). w.lines)
        (sym (walk-Assign unknown_at cats own number s (with_earlier a sc) name e refl)) ∙ known in
        let right_here = ap (λ (w : Walked). w.lines)
        (sym (walk-Assign kind_at cats own number s (with_earlier b sc) name e refl)) ∙ right in
        let value = value_stands here sc (kind_of m) e sees
        (none_second (unknown_at (Assigned own sc.visible name)) _ known_here)
        (none_second (kind_at (Assigned own sc.visible name)) _ right_here) in
        let target = assigned_stands own here sc.visible sc.next sees name
        (no_failure (is_nothing m) name.line
        (none_first (unknown_at (Assigned own sc.visible name)) _ known_here))
        (no_failure (is_fixed m) name.line
        (none_first (kind_at (Assigned own sc.visible name)) _ right_here)) in
        subst (MeantStatement here s) (sym (number-Assign cats own s sc name e refl)) (record {
          there = here;
          stands = OfAssign here name (name_ref own sc.visible name) e (expression own sc.visible e) target
              value;
          sees = sees;
          on = goes_on_here here;
        })

    call_claim : (bind : Option Name) (c : Call Name) → StatementClaim (SV.Call bind c)
    call_claim bind c here sc a b d sees known right own_names =
        let s : Statement Name = SV.Call bind c in
        let known_here = ap (λ (w : Walked). w.lines)
        (sym (walk-Call unknown_at cats own number s (with_earlier a sc) bind c refl)) ∙ known in
        let right_here = ap (λ (w : Walked). w.lines)
        (sym (walk-Call kind_at cats own number s (with_earlier b sc) bind c refl)) ∙ right in
        let taken_known = W.taken unknown_at cats own sc.visible bind c in
        let taken_right = W.taken kind_at cats own sc.visible bind c in
        let called = call_stands cats own givens here sc.visible sc.next sees c
        (none_second taken_known _ known_here) (none_second taken_right _ right_here) in
        let taker = taker_stands here sc bind c sees (none_first taken_known _ known_here)
        (none_first taken_right _ right_here) in
        subst (MeantStatement here s) (sym (number-Call cats own s sc bind c refl)) (record {
          there = here;
          stands = OfCall here bind (option_map (name_ref own sc.visible) bind) c
              (N.call cats own sc.visible c) taker called;
          sees = sees;
          on = goes_on_here here;
        })

    if_claim : (cond : Expr Name) (holds fails : List (Statement Name)) → BodyClaim holds →
        BodyClaim fails → StatementClaim (SV.If cond holds fails)
    if_claim cond holds fails first second here sc a b d sees known right own_names =
        let s : Statement Name = SV.If cond holds fails in
        let known_here = ap (λ (w : Walked). w.lines)
        (sym (walk-If unknown_at cats own number s (with_earlier a sc) cond holds fails refl)) ∙ known in
        let right_here = ap (λ (w : Walked). w.lines)
        (sym (walk-If kind_at cats own number s (with_earlier b sc) cond holds fails refl)) ∙ right in
        let blocks_own = ap (λ (w : Walked). w.lines)
        (sym (walk-If twice_at cats own number s (with_earlier d sc) cond holds fails refl)) ∙ own_names in
        let cond_known = unknown_at (Value own sc.visible (Some K.Bool) cond) in
        let cond_right = kind_at (Value own sc.visible (Some K.Bool) cond) in
        let test = value_stands here sc (Some K.Bool) cond sees (none_first cond_known _ known_here)
        (none_first cond_right _ right_here) in
        let blocks_known = none_second cond_known _ known_here in
        let blocks_right = none_second cond_right _ right_here in
        let one : MeantBody here holds (N.body cats own holds sc) = first here sc a b d sees
        (none_first (lines_in unknown_at holds (with_earlier a sc)) _ blocks_known)
        (none_first (lines_in kind_at holds (with_earlier b sc)) _ blocks_right)
        (none_first (lines_in twice_at holds (with_earlier d sc)) _ blocks_own) in
        let inside : Scope = (N.body cats own holds sc).scope in
        let between : Scope = behind sc inside in
        let known_scope = bodies_keep unknown_at cats own number holds sc a in
        let right_scope = bodies_keep kind_at cats own number holds sc b in
        let own_scope = bodies_keep twice_at cats own number holds sc d in
        let mid : Locals = after_block here one.there in
        let two : MeantBody mid fails (N.body cats own fails between) =
        second mid between known_scope.earlier right_scope.earlier own_scope.earlier
        (sees_after here one.there sc inside sees one.sees one.on)
        (ap (λ (z : Scope). lines_in unknown_at fails (behind (with_earlier a sc) z)) (sym known_scope.same)
        ∙ none_second (lines_in unknown_at holds (with_earlier a sc)) _ blocks_known)
        (ap (λ (z : Scope). lines_in kind_at fails (behind (with_earlier b sc) z)) (sym right_scope.same)
        ∙ none_second (lines_in kind_at holds (with_earlier b sc)) _ blocks_right)
        (ap (λ (z : Scope). lines_in twice_at fails (behind (with_earlier d sc) z)) (sym own_scope.same)
        ∙ none_second (lines_in twice_at holds (with_earlier d sc)) _ blocks_own) in
        let on : GoesOn here two.there =
        goes_on_after here mid two.there (goes_on_block here one.there one.on) two.on in
        let last : Scope = (N.body cats own fails between).scope in
        subst (MeantStatement here s) (sym (number-If cats own s sc cond holds fails refl)) (record {
          there = after_block here two.there;
          stands = OfIf here one.there two.there cond (expression own sc.visible cond) holds fails
              (N.body cats own holds sc).part (N.body cats own fails between).part test one.stands
              two.stands;
          sees = sees_after here two.there sc last sees two.sees on;
          on = goes_on_block here two.there on;
        })

    while_claim : (cond : Expr Name) (turn : List (Statement Name)) → BodyClaim turn →
        StatementClaim (SV.While cond turn)
    while_claim cond turn inner here sc a b d sees known right own_names =
        let s : Statement Name = SV.While cond turn in
        let known_here = ap (λ (w : Walked). w.lines)
        (sym (walk-While unknown_at cats own number s (with_earlier a sc) cond turn refl)) ∙ known in
        let right_here = ap (λ (w : Walked). w.lines)
        (sym (walk-While kind_at cats own number s (with_earlier b sc) cond turn refl)) ∙ right in
        let cond_known = unknown_at (Value own sc.visible (Some K.Bool) cond) in
        let cond_right = kind_at (Value own sc.visible (Some K.Bool) cond) in
        let test = value_stands here sc (Some K.Bool) cond sees (none_first cond_known _ known_here)
        (none_first cond_right _ right_here) in
        let one : MeantBody here turn (N.body cats own turn sc) = inner here sc a b d sees
        (none_second cond_known _ known_here) (none_second cond_right _ right_here)
        (ap (λ (w : Walked). w.lines)
        (sym (walk-While twice_at cats own number s (with_earlier d sc) cond turn refl)) ∙ own_names) in
        subst (MeantStatement here s) (sym (number-While cats own s sc cond turn refl)) (record {
          there = after_block here one.there;
          stands = OfWhile here one.there cond (expression own sc.visible cond) turn
              (N.body cats own turn sc).part test one.stands;
          sees = sees_after here one.there sc (N.body cats own turn sc).scope sees one.sees one.on;
          on = goes_on_block here one.there one.on;
        })

    -- statements of which each has its claim
    each_claim : (ys : List ((s : Statement Name) × StatementClaim s)) →
        AllByRecursion StatementClaim
        ((former-Statement-If-1 Name).map ((s : Statement Name) × StatementClaim s) (Statement Name)
        (λ y. y.0) ys)
    each_claim [] = tt
    each_claim (y ∷ ys) = (y.1, each_claim ys)

    -- a statement, by its layer
    step_claim : (y : Statement-F Name ((s : Statement Name) × StatementClaim s)) →
        StatementClaim (roll-Statement Name
        (map-Statement Name ((s : Statement Name) × StatementClaim s) (Statement Name) (λ y. y.0) y))
    step_claim (S.Let name kind e) = subst StatementClaim (sym (rolls-Let name kind e))
        (let_claim name kind e)
    step_claim (S.Assign name e) = subst StatementClaim (sym (rolls-Assign name e)) (assign_claim name e)
    step_claim (S.Call bind c) = subst StatementClaim (sym (rolls-Call bind c)) (call_claim bind c)
    step_claim (S.If cond holds fails) = subst StatementClaim (sym (rolls-If cond _ _))
        (if_claim cond _ _ (body_claim _ (each_claim holds)) (body_claim _ (each_claim fails)))
    step_claim (S.While cond turn) = subst StatementClaim (sym (rolls-While cond _))
        (while_claim cond _ (body_claim _ (each_claim turn)))

    -- each statement
    statement_stands : (s : Statement Name) → StatementClaim s
    statement_stands = ind-Statement Name StatementClaim
        (λ x y is. subst (λ d. StatementClaim (roll-Statement Name d)) is (step_claim y))

    -- each body
    pub body_stands : (ss : List (Statement Name)) → BodyClaim ss
    body_stands ss = body_claim ss (every ss)
      where
        every : (ss : List (Statement Name)) → AllByRecursion StatementClaim ss
        every [] = tt
        every (s ∷ ss) = (statement_stands s, every ss)
