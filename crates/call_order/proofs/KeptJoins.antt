-- Where two tests find nothing in a text, a test that is both of them finds nothing.
use Rattle.std.specs.Prelude.{◌≡◌, ℕ, ◌+◌, List, [], ◌∷◌, ◌++◌, Option, None, Some}
use Rattle.std.specs.List.{AllByRecursion}
use Rattle.std.proofs.Common.{refl, sym, ap, subst, ◌∙◌}
use Rattle.seuss_program.specs.declared.tree.Name.{Name}
use Rattle.seuss_program.specs.declared.tree.Kind.TheVariants as K
use Rattle.seuss_program.specs.declared.tree.Expr.{Expr}
use Rattle.seuss_program.specs.declared.tree.Call.{Call}
use Rattle.seuss_program.specs.declared.tree.Pre.{Pre}
use Rattle.seuss_program.specs.declared.tree.Statement.{Statement, map-Statement}
use Rattle.seuss_program.specs.declared.tree.Statement.{roll-Statement, ind-Statement}
use Rattle.seuss_program.specs.declared.tree.Statement.TheOpen as S
use Rattle.seuss_program.specs.declared.tree.Statement.TheOpen.{Statement-F}
use Rattle.seuss_program.specs.declared.tree.Statement.TheShapes.{former-Statement-If-1}
use Rattle.seuss_program.specs.declared.tree.Alternative.{Alternative}
use Rattle.seuss_program.specs.declared.tree.Form.{Form}
use Rattle.seuss_program.specs.declared.tree.Form.TheVariants as F
use Rattle.seuss_program.specs.declared.tree.Proc.{Proc}
use Rattle.seuss_program.specs.declared.tree.Semi.{Semi}
use Rattle.seuss_program.specs.declared.tree.Cat.{Cat}
use Rattle.seuss_program.specs.declared.tree.BoxDecl.{BoxDecl}
use Rattle.seuss_program.specs.declared.tree.Tree.{Tree}
use Rattle.box_types.specs.declared.scopes.Local.{Local}
use Rattle.box_types.specs.declared.scopes.Scope.{Scope}
use Rattle.box_types.specs.Scopes.{meaning_of, method_called, behind, at_head, with_result}
use Rattle.box_types.specs.Walks as W
use Rattle.box_types.specs.Walks.{Place, Test, Walked, Walk, Value, Assigned, Takes, Target, Method}
use Rattle.box_types.specs.Walks.{LocalName, When, ProcName, CatName, GivenName, GivenCat, VarName, First}
use Rattle.box_types.specs.Walks.{Second, HintName, BoxName, BoxCat, BoxGiven}
use Rattle.box_types.proofs.KeptExpressions.{none-left, none-right}
use Rattle.call_order.proofs.StatementLayers.{each, walk-roll, walks-each}

-- the third has no lines where the first two have none
abbrev pub NoneToo : List ℕ → List ℕ → List ℕ → Type 0
NoneToo a b c = a ≡ [] → b ≡ [] → c ≡ []

-- what has no lines in two parts has none in both together
too-append : (a a' b b' c c' : List ℕ) → NoneToo a b c → NoneToo a' b' c' →
    NoneToo (a ++ a') (b ++ b') (c ++ c')
too-append a a' b b' c c' h h' ha hb =
    ap (λ l. l ++ c') (h (none-left a a' ha) (none-left b b' hb))
    ∙ h' (none-right a a' ha) (none-right b b' hb)

-- no lines anywhere
too-none : NoneToo [] [] []
too-none ha hb = refl

-- the same of three walks, which leave the same scope
record Joined (a b c : Walked) : Type 0 where
  second : b.scope ≡ a.scope
  third : c.scope ≡ a.scope
  lines : NoneToo a.lines b.lines c.lines

-- walks that are the same as joined ones are joined
joined-by : (a b c a' b' c' : Walked) → a ≡ a' → b ≡ b' → c ≡ c' → Joined a' b' c' → Joined a b c
joined-by a b c a' b' c' ha hb hc j = subst (λ x. Joined x b c) (sym ha)
    (subst (λ x. Joined a' x c) (sym hb) (subst (λ x. Joined a' b' x) (sym hc) j))

-- walks of lines alone are joined
leaf : (a b c : List ℕ) (scope : Scope) → NoneToo a b c →
    Joined (record { lines = a; scope = scope }) (record { lines = b; scope = scope })
    (record { lines = c; scope = scope })
leaf a b c scope h = record { second = refl; third = refl; lines = h }

-- two walks one after the other
next-walk : Walked → Walk → Walked
next-walk first rest = record
    { lines = first.lines ++ (rest first.scope).lines; scope = (rest first.scope).scope }

-- joined walks, one after the other, are joined
joined-next : (a b c : Walked) (f g h : Walk) → Joined a b c → ((s : Scope) → Joined (f s) (g s) (h s)) →
    Joined (next-walk a f) (next-walk b g) (next-walk c h)
unfolding next-walk
joined-next a b c f g h j k =
    let r : Joined (f a.scope) (g b.scope) (h c.scope) =
    subst (λ s. Joined (f a.scope) (g s) (h c.scope)) (sym j.second)
    (subst (λ s. Joined (f a.scope) (g a.scope) (h s)) (sym j.third) (k a.scope)) in
    record {
      second = r.second;
      third = r.third;
      lines =
          too-append a.lines _ b.lines _ c.lines _ j.lines r.lines;
    }

-- joined walks are joined where their scopes are closed
joined-closed : (s : Scope) (a b c : Walked) → Joined a b c →
    Joined (W.closed s a) (W.closed s b) (W.closed s c)
joined-closed s a b c j = record
    { second = ap (behind s) j.second; third = ap (behind s) j.third; lines = j.lines }

-- joined walks with lines before them are joined
joined-lines : (l m n : List ℕ) (a b c : Walked) → NoneToo l m n → Joined a b c →
    Joined (record { lines = l ++ a.lines; scope = a.scope })
    (record { lines = m ++ b.lines; scope = b.scope })
    (record { lines = n ++ c.lines; scope = c.scope })
joined-lines l m n a b c h j = record
    { second = j.second; third = j.third; lines = too-append l _ m _ n _ h j.lines }

-- items one after the other
joined-walked : {X : Type 0} (f g h : ℕ → X → Walk) →
    ((n : ℕ) (x : X) (s : Scope) → Joined (f n x s) (g n x s) (h n x s)) →
    (n : ℕ) (xs : List X) (s : Scope) →
    Joined (W.walked f n xs s) (W.walked g n xs s) (W.walked h n xs s)
unfolding next-walk
joined-walked f g h j n [] s = leaf [] [] [] s too-none
joined-walked f g h j n (x ∷ xs) s = joined-next (f n x s) (g n x s) (h n x s) (W.walked f (n + 1) xs)
    (W.walked g (n + 1) xs) (W.walked h (n + 1) xs) (j n x s) (joined-walked f g h j (n + 1) xs)

-- what has no lines at each item has none at all of them
too-numbered : {X : Type 0} (f g h : ℕ → X → List ℕ) → ((n : ℕ) (x : X) → NoneToo (f n x) (g n x) (h n x)) →
    (n : ℕ) (xs : List X) →
    NoneToo (W.numbered f n xs) (W.numbered g n xs) (W.numbered h n xs)
too-numbered f g h j n [] = too-none
too-numbered f g h j n (x ∷ xs) = too-append (f n x) _ (g n x) _ (h n x) _ (j n x)
    (too-numbered f g h j (n + 1) xs)

module _ (t u : Test) where
  -- both tests
  abbrev pub both : Test
  both place = t place ++ u place

  -- at a place the third test finds nothing where the first two don't
  at-place : (p : Place) → NoneToo (t p) (u p) (both p)
  at-place p ht hu = ap (λ l. l ++ u p) ht ∙ hu

  module _ (cats : List (Cat Name)) where
    module _ (own : Cat Name) where
      -- the same at a call
      call-too : (visible : List Local) (c : Call Name) →
          NoneToo (W.call t cats own visible c) (W.call u cats own visible c)
          (W.call both cats own visible c)
      call-too visible c =
          too-append (t (Target own visible c.target)) _ (u (Target own visible c.target)) _ _ _
          (at-place (Target own visible c.target))
          (too-append (t (Method cats own visible c)) _ (u (Method cats own visible c)) _ _ _
          (at-place (Method cats own visible c))
          (too-numbered (W.argument t cats own visible (W.params_of (method_called cats own visible c)))
          (W.argument u cats own visible (W.params_of (method_called cats own visible c)))
          (W.argument both cats own visible (W.params_of (method_called cats own visible c)))
          (λ n e. at-place (Value own visible (W.kind_at (W.params_of (method_called cats own visible c)) n)
          e)) 0 c.args))

      -- the same at the name that takes a result
      taken-too : (visible : List Local) (bind : Option Name) (c : Call Name) →
          NoneToo (W.taken t cats own visible bind c) (W.taken u cats own visible bind c)
          (W.taken both cats own visible bind c)
      taken-too visible None c = too-none
      taken-too visible (Some name) c =
          too-append (t (Assigned own visible name)) _ (u (Assigned own visible name)) _ _ _
          (at-place (Assigned own visible name))
          (at-place (Takes cats own visible (W.kind_of (meaning_of own visible name)) name c))

      module _ (number : ℕ) where
        -- the walks of a statement are joined
        abbrev StatementJoins : Statement Name → Type 0
        StatementJoins s = (w : Scope) → Joined (W.statement t cats own number s w)
            (W.statement u cats own number s w) (W.statement both cats own number s w)

        -- the walks of a body are joined
        abbrev BodyJoins : List (Statement Name) → Type 0
        BodyJoins ss = (w : Scope) → Joined (W.body t cats own number ss w) (W.body u cats own number ss w)
            (W.body both cats own number ss w)

        -- a body by its statements
        body-joins : (ss : List (Statement Name)) → AllByRecursion StatementJoins ss → BodyJoins ss
        unfolding next-walk
        body-joins [] all w = leaf [] [] [] w too-none
        body-joins (s ∷ ss) all w =
            joined-next (W.statement t cats own number s w) (W.statement u cats own number s w)
            (W.statement both cats own number s w)
            (W.body t cats own number ss) (W.body u cats own number ss) (W.body both cats own number ss)
            (all.0 w) (body-joins ss all.1)

        -- a layer of the three walks
        layer-joins : (d : Statement-F Name (Statement Name)) →
            ((w : Scope) → Joined
            (W.statement_step t cats own number
            (map-Statement Name (Statement Name) Walk (W.statement t cats own number) d) w)
            (W.statement_step u cats own number
            (map-Statement Name (Statement Name) Walk (W.statement u cats own number) d) w)
            (W.statement_step both cats own number
            (map-Statement Name (Statement Name) Walk (W.statement both cats own number) d) w)) →
            StatementJoins (roll-Statement Name d)
        layer-joins d j w = joined-by _ _ _ _ _ _ (walk-roll t cats own number d w)
            (walk-roll u cats own number d w) (walk-roll both cats own number d w)
            (j w)

        -- statements inside a statement as a body
        turn-joins : (ss : List (Statement Name)) → BodyJoins ss → (w : Scope) →
            Joined (W.in_turn (each (W.statement t cats own number) ss) w)
            (W.in_turn (each (W.statement u cats own number) ss) w)
            (W.in_turn (each (W.statement both cats own number) ss) w)
        turn-joins ss j w = joined-by _ _ _ _ _ _ (walks-each t cats own number ss w)
            (walks-each u cats own number ss w)
            (walks-each both cats own number ss w) (j w)

        -- a choice by its bodies
        if-joins : (cond : Expr Name) (holds fails : List (Statement Name)) → BodyJoins holds →
            BodyJoins fails → StatementJoins (roll-Statement Name (S.If cond holds fails))
        unfolding next-walk
        if-joins cond holds fails jh jf = layer-joins (S.If cond holds fails) (λ w.
            joined-lines (t (Value own w.visible (Some K.Bool) cond))
            (u (Value own w.visible (Some K.Bool) cond)) (both (Value own w.visible (Some K.Bool) cond))
            _ _ _
            (at-place (Value own w.visible (Some K.Bool) cond))
            (joined-next (W.closed w (W.in_turn (each (W.statement t cats own number) holds) w))
            (W.closed w (W.in_turn (each (W.statement u cats own number) holds) w))
            (W.closed w (W.in_turn (each (W.statement both cats own number) holds) w))
            (λ s. W.closed w (W.in_turn (each (W.statement t cats own number) fails) s))
            (λ s. W.closed w (W.in_turn (each (W.statement u cats own number) fails) s))
            (λ s. W.closed w (W.in_turn (each (W.statement both cats own number) fails) s))
            (joined-closed w _ _ _ (turn-joins holds jh w))
            (λ s. joined-closed w _ _ _ (turn-joins fails jf s))))

        -- a loop by its body
        while-joins : (cond : Expr Name) (turn : List (Statement Name)) → BodyJoins turn →
            StatementJoins (roll-Statement Name (S.While cond turn))
        while-joins cond turn jt = layer-joins (S.While cond turn) (λ w.
            joined-lines (t (Value own w.visible (Some K.Bool) cond))
            (u (Value own w.visible (Some K.Bool) cond)) (both (Value own w.visible (Some K.Bool) cond))
            _ _ _
            (at-place (Value own w.visible (Some K.Bool) cond))
            (joined-closed w _ _ _ (turn-joins turn jt w)))

        -- the statements inside a statement, for which it holds already
        each-joins : (ys : List ((s : Statement Name) × StatementJoins s)) →
            AllByRecursion StatementJoins
            ((former-Statement-If-1 Name).map ((s : Statement Name) × StatementJoins s) (Statement Name)
            (λ y. y.0) ys)
        each-joins [] = tt
        each-joins (y ∷ ys) = (y.1, each-joins ys)

        -- a statement by those inside it
        step-joins : (y : Statement-F Name ((s : Statement Name) × StatementJoins s)) →
            StatementJoins (roll-Statement Name
            (map-Statement Name ((s : Statement Name) × StatementJoins s) (Statement Name) (λ y. y.0)
            y))
        step-joins (S.Let name kind e) = layer-joins (S.Let name kind e) (λ w. leaf _ _ _ _
            (too-append (t (LocalName own number w name)) _ (u (LocalName own number w name)) _ _ _
            (at-place (LocalName own number w name)) (at-place (Value own w.visible (Some kind) e))))
        step-joins (S.Assign name e) = layer-joins (S.Assign name e) (λ w. leaf _ _ _ _
            (too-append (t (Assigned own w.visible name)) _ (u (Assigned own w.visible name)) _ _ _
            (at-place (Assigned own w.visible name))
            (at-place (Value own w.visible (W.kind_of (meaning_of own w.visible name)) e))))
        step-joins (S.Call bind c) = layer-joins (S.Call bind c) (λ w. leaf _ _ _ _
            (too-append (W.taken t cats own w.visible bind c) _ (W.taken u cats own w.visible bind c) _ _ _
            (taken-too w.visible bind c) (call-too w.visible c)))
        step-joins (S.If cond holds fails) = if-joins cond _ _ (body-joins _ (each-joins holds))
            (body-joins _ (each-joins fails))
        step-joins (S.While cond turn) = while-joins cond _ (body-joins _ (each-joins turn))

        -- the walks of each statement are joined
        statement-joins : (s : Statement Name) → StatementJoins s
        statement-joins = ind-Statement Name StatementJoins
            (λ x y is. subst (λ d. StatementJoins (roll-Statement Name d)) is (step-joins y))

        -- the walks of all statements of a body are joined
        every-joins : (ss : List (Statement Name)) → AllByRecursion StatementJoins ss
        every-joins [] = tt
        every-joins (s ∷ ss) = (statement-joins s, every-joins ss)

        -- the walks of each body are joined
        bodies-join : (ss : List (Statement Name)) → BodyJoins ss
        bodies-join ss = body-joins ss (every-joins ss)

        -- the walks of a call whose result is bound are joined
        bound-joins : (bind : Option Name) (c : Call Name) (w : Scope) →
            Joined (W.bound t cats own number bind c w) (W.bound u cats own number bind c w)
            (W.bound both cats own number bind c w)
        bound-joins None c w = leaf _ _ _ _ (call-too w.visible c)
        bound-joins (Some name) c w = leaf _ _ _ _
            (too-append (t (LocalName own number w name)) _ (u (LocalName own number w name)) _ _ _
            (at-place (LocalName own number w name))
            (too-append (t (Takes cats own w.visible (Some K.Int) name c)) _
            (u (Takes cats own w.visible (Some K.Int) name c)) _ _ _
            (at-place (Takes cats own w.visible (Some K.Int) name c))
            (call-too w.visible c)))

        -- the walks of a preprocedure are joined
        early-joins : (pre : Option (Pre Name)) (w : Scope) →
            Joined (W.early t cats own number pre w) (W.early u cats own number pre w)
            (W.early both cats own number pre w)
        early-joins None w = leaf [] [] [] w too-none
        early-joins (Some pre) w = bound-joins pre.bind pre.call w

        -- lines and two joined walks, one after the other, are joined
        three-joins : (l m n : List ℕ) (f g h f' g' h' : Walk) → NoneToo l m n →
            ((s : Scope) → Joined (f s) (g s) (h s)) → ((s : Scope) → Joined (f' s) (g' s) (h' s)) →
            (w : Scope) →
            Joined (W.three l f f' w) (W.three m g g' w) (W.three n h h' w)
        unfolding next-walk
        three-joins l m n f g h f' g' h' too j j' w =
            joined-lines l m n _ _ _ too (joined-next (f w) (g w) (h w) f' g' h' (j w) j')

        -- the walks of an alternative are joined
        alternative-joins : (n : ℕ) (a : Alternative Name) (w : Scope) →
            Joined (W.alternative t cats own number n a w) (W.alternative u cats own number n a w)
            (W.alternative both cats own number n a w)
        alternative-joins n a w = joined-closed w _ _ _
            (three-joins (W.head t cats own number w.visible n a) (W.head u cats own number w.visible n a)
            (W.head both cats own number w.visible n a)
            (W.early t cats own number a.pre) (W.early u cats own number a.pre)
            (W.early both cats own number a.pre)
            (W.body t cats own number a.body) (W.body u cats own number a.body)
            (W.body both cats own number a.body)
            (too-append (t (When n a.line)) _ (u (When n a.line)) _ _ _ (at-place (When n a.line))
            (at-place (Value own w.visible (Some K.Bool) a.cond)))
            (early-joins a.pre) (bodies-join a.body) w)

        -- the walks of a text are joined
        form-joins : (f : Form Name) (w : Scope) →
            Joined (W.form t cats own number f w) (W.form u cats own number f w)
            (W.form both cats own number f w)
        form-joins (F.Total ss) w = bodies-join ss w
        form-joins (F.Partial alts) w = joined-walked (W.alternative t cats own number)
            (W.alternative u cats own number) (W.alternative both cats own number) alternative-joins 0 alts
            w
        form-joins (F.Action alts) w = joined-walked (W.alternative t cats own number)
            (W.alternative u cats own number) (W.alternative both cats own number) alternative-joins 0 alts
            w

        -- the walks of parameters and result are joined
        signature-joins : (q : Proc Name) (w : Scope) →
            Joined (W.signature t cats own number q w) (W.signature u cats own number q w)
            (W.signature both cats own number q w)
        signature-joins q w =
            let j = joined-walked (λ (n : ℕ). W.param t cats own number)
            (λ (n : ℕ). W.param u cats own number) (λ (n : ℕ). W.param both cats own number)
            (λ n p s. leaf _ _ _ _ (at-place (LocalName own number s p.name))) 0 q.params
            (at_head q w.earlier) in
            record {
              second = ap (with_result q) j.second;
              third = ap (with_result q) j.third;
              lines =
                  j.lines;
            }

      -- the walks of a procedure are joined
      procedure-joins : (n : ℕ) (q : Proc Name) (w : Scope) →
          Joined (W.procedure t cats own n q w) (W.procedure u cats own n q w)
          (W.procedure both cats own n q w)
      procedure-joins n q w = three-joins n (t (ProcName own n q w.earlier))
          (u (ProcName own n q w.earlier)) (both (ProcName own n q w.earlier))
          (W.signature t cats own n q) (W.signature u cats own n q) (W.signature both cats own n q)
          (W.form t cats own n q.form) (W.form u cats own n q.form) (W.form both cats own n q.form)
          (at-place (ProcName own n q w.earlier)) (signature-joins n q) (form-joins n q.form) w

      -- the same at all procedures of a cat
      procedures-too : NoneToo (W.procedures t cats own) (W.procedures u cats own)
          (W.procedures both cats own)
      procedures-too = (joined-walked (W.procedure t cats own) (W.procedure u cats own)
          (W.procedure both cats own) procedure-joins 0 own.procs
          (record { visible = []; next = 0; earlier = [] })).lines

      -- the same at a certificate
      semi-too : (n : ℕ) (s : Semi Name) → NoneToo (W.semi t cats own n s) (W.semi u cats own n s)
          (W.semi both cats own n s)
      semi-too n s =
          too-append (t (First own n s)) _ (u (First own n s)) _ _ _ (at-place (First own n s))
          (too-append (t (Second own s.second)) _ (u (Second own s.second)) _ _ _
          (at-place (Second own s.second))
          (too-numbered (W.hint t cats own s) (W.hint u cats own s) (W.hint both cats own s)
          (λ m h. at-place (HintName own s m h)) 0 s.hints))

    -- the same at a cat
    cat-too : (n : ℕ) (own : Cat Name) → NoneToo (W.cat t cats n own) (W.cat u cats n own)
        (W.cat both cats n own)
    cat-too n own =
        too-append (t (CatName cats n own.name)) _ (u (CatName cats n own.name)) _ _ _
        (at-place (CatName cats n own.name))
        (too-append (W.numbered (W.given t cats own) 0 own.given) _
        (W.numbered (W.given u cats own) 0 own.given) _ _ _
        (too-numbered (W.given t cats own) (W.given u cats own) (W.given both cats own)
        (λ m g. too-append (t (GivenName own m g.name)) _ (u (GivenName own m g.name)) _ _ _
        (at-place (GivenName own m g.name)) (at-place (GivenCat cats g.cat))) 0 own.given)
        (too-append (W.numbered (W.variable t cats own) 0 own.vars) _
        (W.numbered (W.variable u cats own) 0 own.vars) _ _ _
        (too-numbered (W.variable t cats own) (W.variable u cats own) (W.variable both cats own)
        (λ m v. at-place (VarName own m v.name)) 0 own.vars)
        (too-append (W.procedures t cats own) _ (W.procedures u cats own) _ _ _ (procedures-too own)
        (too-numbered (W.semi t cats own) (W.semi u cats own) (W.semi both cats own) (semi-too own) 0
        own.semis))))

    -- the same at a box
    box-too : (boxes : List BoxDecl) (n : ℕ) (b : BoxDecl) →
        NoneToo (W.box t cats boxes n b) (W.box u cats boxes n b) (W.box both cats boxes n b)
    box-too boxes n b =
        too-append (t (BoxName cats boxes n b)) _ (u (BoxName cats boxes n b)) _ _ _
        (at-place (BoxName cats boxes n b))
        (too-append (t (BoxCat cats b)) _ (u (BoxCat cats b)) _ _ _ (at-place (BoxCat cats b))
        (too-numbered (W.box_given t cats boxes b) (W.box_given u cats boxes b)
        (W.box_given both cats boxes b) (λ m name. at-place (BoxGiven cats boxes b m name)) 0 b.given))

  -- what neither test finds in a text both don't
  pub found_join : (tree : Tree) → W.found t tree ≡ [] → W.found u tree ≡ [] → W.found both tree ≡ []
  found_join tree =
      too-append (W.numbered (W.cat t tree.cats) 0 tree.cats) _ (W.numbered (W.cat u tree.cats) 0 tree.cats)
      _ _ _
      (too-numbered (W.cat t tree.cats) (W.cat u tree.cats) (W.cat both tree.cats) (cat-too tree.cats) 0
      tree.cats)
      (too-numbered (W.box t tree.cats tree.boxes) (W.box u tree.cats tree.boxes)
      (W.box both tree.cats tree.boxes) (box-too tree.cats tree.boxes) 0 tree.boxes)
