-- In a text that is well formed the numbers of each expression have 64 bits, at each place of the walk.
use Rattle.std.specs.Prelude.{◌≡◌, ℕ, suc, ◌+◌, Bool, true, false, ◌&&◌, if◌then◌else◌, List, [], ◌∷◌, ◌++◌}
use Rattle.std.specs.Prelude.{Option, None, Some, All}
use Rattle.std.specs.List.{AllByRecursion}
use Rattle.std.proofs.Common.{refl, sym, ap, subst, ◌∙◌, arith}
use Rattle.seuss_program.specs.declared.tree.Name.{Name}
use Rattle.seuss_program.specs.declared.tree.Kind.TheVariants as K
use Rattle.seuss_program.specs.declared.tree.Param.{Param}
use Rattle.seuss_program.specs.declared.tree.Expr.{Expr}
use Rattle.seuss_program.specs.declared.tree.Call.{Call}
use Rattle.seuss_program.specs.declared.tree.Pre.{Pre}
use Rattle.seuss_program.specs.declared.tree.Statement.{Statement, map-Statement, roll-Statement}
use Rattle.seuss_program.specs.declared.tree.Statement.{ind-Statement}
use Rattle.seuss_program.specs.declared.tree.Statement.TheOpen as S
use Rattle.seuss_program.specs.declared.tree.Statement.TheOpen.{Statement-F}
use Rattle.seuss_program.specs.declared.tree.Statement.TheShapes.{former-Statement-If-1}
use Rattle.seuss_program.specs.declared.tree.Alternative.{Alternative}
use Rattle.seuss_program.specs.declared.tree.Form.{Form}
use Rattle.seuss_program.specs.declared.tree.Form.TheVariants as F
use Rattle.seuss_program.specs.declared.tree.Proc.{Proc}
use Rattle.seuss_program.specs.declared.tree.Semi.{Semi}
use Rattle.seuss_program.specs.declared.tree.Cat.{Cat}
use Rattle.seuss_program.specs.declared.tree.BoxDecl.{BoxDecl}
use Rattle.seuss_program.specs.declared.tree.Tree.{Tree}
use Rattle.seuss_program.specs.Keeping.{all_true}
use Rattle.seuss_program.specs.WellFormed.{has_numbers, have_numbers, statement_numbers, body_numbers}
use Rattle.seuss_program.specs.WellFormed.{pre_numbers, alternative_numbers, form_numbers}
use Rattle.seuss_program.specs.WellFormed.{IsWellFormedProcedure, IsWellFormedCat, IsWellFormed}
use Rattle.box_types.specs.declared.scopes.Local.{Local}
use Rattle.box_types.specs.declared.scopes.Scope.{Scope}
use Rattle.box_types.specs.Scopes.{method_called, behind, at_head}
use Rattle.box_types.specs.Walks as W
use Rattle.box_types.specs.Walks.{Test, Walked, CatName, GivenName, VarName, ProcName, LocalName, GivenCat}
use Rattle.box_types.specs.Walks.{When, Value, Assigned, Takes, Target, Method, First, Second, HintName}
use Rattle.box_types.specs.Walks.{BoxName, BoxCat, BoxGiven}
use Rattle.box_types.proofs.ExpressionNumbers.{both}
use Rattle.call_order.proofs.NumberLemmas.{statement-roll, each-numbers}
use Rattle.call_order.proofs.StatementLayers.{each, walk-roll, walks-each}

-- an expression with a number that has more than 64 bits
abbrev pub number_at : Test
number_at (Value own visible wanted e) = if has_numbers e then [] else e.line ∷ []
number_at (CatName cats n name) = []
number_at (GivenName own n name) = []
number_at (VarName own n name) = []
number_at (ProcName own n q earlier) = []
number_at (LocalName own n scope name) = []
number_at (GivenCat cats name) = []
number_at (When n line) = []
number_at (Assigned own visible name) = []
number_at (Takes cats own visible kind name c) = []
number_at (Target own visible name) = []
number_at (Method cats own visible c) = []
number_at (First own n s) = []
number_at (Second own name) = []
number_at (HintName own s n h) = []
number_at (BoxName cats boxes n b) = []
number_at (BoxCat cats b) = []
number_at (BoxGiven cats boxes b n name) = []

-- the numbers of an expression have 64 bits where the test finds nothing
pub sized-by : (e : Expr Name) → (if has_numbers e then [] else e.line ∷ []) ≡ [] → has_numbers e ≡ true
sized-by e h = go (has_numbers e) h
  where
    go : (t : Bool) → (if t then [] else e.line ∷ []) ≡ [] → t ≡ true
    go true h = refl
    go false h = absurd (cc)

-- and the test finds nothing where they have
sized-found : (e : Expr Name) → has_numbers e ≡ true → (if has_numbers e then [] else e.line ∷ []) ≡ []
sized-found e h = ap (λ (t : Bool). if t then [] else e.line ∷ []) h

-- two parts in which nothing is found
no-lines : (xs ys : List ℕ) → xs ≡ [] → ys ≡ [] → xs ++ ys ≡ []
no-lines xs ys h k = ap (λ l. l ++ ys) h ∙ k

-- items at which nothing is found
none-numbered : {X : Type 0} (f : ℕ → X → List ℕ) → ((n : ℕ) (x : X) → f n x ≡ []) → (n : ℕ) (xs : List X) →
    W.numbered f n xs ≡ []
none-numbered f h n [] = refl
none-numbered f h n (x ∷ xs) = no-lines (f n x) _ (h n x) (none-numbered f h (n + 1) xs)

module _ (cats : List (Cat Name)) where
  module _ (own : Cat Name) where
    -- arguments one after the other
    arguments-sized : (visible : List Local) (params : List Param) (n : ℕ) (es : List (Expr Name)) →
        have_numbers es ≡ true → W.numbered (W.argument number_at cats own visible params) n es ≡ []
    arguments-sized visible params n [] h = refl
    arguments-sized visible params n (e ∷ es) h =
        let parts = both (has_numbers e) (have_numbers es) h in
        no-lines (number_at (Value own visible (W.kind_at params n) e)) _ (sized-found e parts.0)
        (arguments-sized visible params (n + 1) es parts.1)

    -- a call by its arguments
    call-sized : (visible : List Local) (c : Call Name) → have_numbers c.args ≡ true →
        W.call number_at cats own visible c ≡ []
    call-sized visible c h =
        arguments-sized visible (W.params_of (method_called cats own visible c)) 0 c.args h

    -- no expression stands where a result is taken
    taken-sized : (visible : List Local) (bind : Option Name) (c : Call Name) →
        W.taken number_at cats own visible bind c ≡ []
    taken-sized visible None c = refl
    taken-sized visible (Some name) c = refl

    module _ (number : ℕ) where
      -- in a statement, and in a body, whose numbers have 64 bits nothing is found
      abbrev StatementSized : Statement Name → Type 0
      StatementSized s = (w : Scope) → statement_numbers s ≡ true →
          (W.statement number_at cats own number s w).lines ≡ []

      -- in a body whose numbers have 64 bits nothing is found
      abbrev BodySized : List (Statement Name) → Type 0
      BodySized ss = (w : Scope) → body_numbers ss ≡ true →
          (W.body number_at cats own number ss w).lines ≡ []

      -- statements one after the other
      body-by : (ss : List (Statement Name)) → AllByRecursion StatementSized ss → BodySized ss
      body-by [] all w h = refl
      body-by (s ∷ ss) all w h =
          let parts = both (statement_numbers s) (body_numbers ss) h in
          no-lines (W.statement number_at cats own number s w).lines _ (all.0 w parts.0)
          (body-by ss all.1 (W.statement number_at cats own number s w).scope parts.1)

      -- statements inside a statement are as a body
      turn-sized : (ss : List (Statement Name)) → BodySized ss → (w : Scope) → body_numbers ss ≡ true →
          (W.in_turn (each (W.statement number_at cats own number) ss) w).lines ≡ []
      turn-sized ss sized w h =
          ap (λ (x : Walked). x.lines) (walks-each number_at cats own number ss w) ∙ sized w h

      -- a choice by its bodies
      if-sized : (cond : Expr Name) (holds fails : List (Statement Name)) → BodySized holds →
          BodySized fails → StatementSized (roll-Statement Name (S.If cond holds fails))
      if-sized cond holds fails on_holds on_fails w h =
          let numbers : (has_numbers cond && (body_numbers holds && body_numbers fails)) ≡ true =
          ap (λ t. has_numbers cond && (body_numbers holds && t)) (sym (each-numbers fails))
          ∙ (ap (λ t. has_numbers cond && (t && all_true (each statement_numbers fails)))
          (sym (each-numbers holds))
          ∙ (sym (statement-roll (S.If cond holds fails)) ∙ h)) in
          let parts = both (has_numbers cond) (body_numbers holds && body_numbers fails) numbers in
          let bodies = both (body_numbers holds) (body_numbers fails) parts.1 in
          let first : Walked = W.in_turn (each (W.statement number_at cats own number) holds) w in
          ap (λ (x : Walked). x.lines) (walk-roll number_at cats own number (S.If cond holds fails) w)
          ∙ no-lines (number_at (Value own w.visible (Some K.Bool) cond)) _ (sized-found cond parts.0)
          (no-lines first.lines _ (turn-sized holds on_holds w bodies.0)
          (turn-sized fails on_fails (behind w first.scope) bodies.1))

      -- and a loop by its body
      while-sized : (cond : Expr Name) (turn : List (Statement Name)) → BodySized turn →
          StatementSized (roll-Statement Name (S.While cond turn))
      while-sized cond turn on_turn w h =
          let numbers : (has_numbers cond && body_numbers turn) ≡ true =
          ap (λ t. has_numbers cond && t) (sym (each-numbers turn))
          ∙ (sym (statement-roll (S.While cond turn)) ∙ h) in
          let parts = both (has_numbers cond) (body_numbers turn) numbers in
          ap (λ (x : Walked). x.lines) (walk-roll number_at cats own number (S.While cond turn) w)
          ∙ no-lines (number_at (Value own w.visible (Some K.Bool) cond)) _ (sized-found cond parts.0)
          (turn-sized turn on_turn w parts.1)

      -- the statements inside a statement, for which it holds already
      each-sized : (ys : List ((s : Statement Name) × StatementSized s)) →
          AllByRecursion StatementSized
          ((former-Statement-If-1 Name).map ((s : Statement Name) × StatementSized s) (Statement Name)
          (λ y. y.0) ys)
      each-sized [] = tt
      each-sized (y ∷ ys) = (y.1, each-sized ys)

      -- by the layer of a statement
      step-sized : (y : Statement-F Name ((s : Statement Name) × StatementSized s)) →
          StatementSized (roll-Statement Name
          (map-Statement Name ((s : Statement Name) × StatementSized s) (Statement Name) (λ y. y.0) y))
      step-sized (S.Let name kind e) w h =
          ap (λ (x : Walked). x.lines) (walk-roll number_at cats own number (S.Let name kind e) w)
          ∙ sized-found e (sym (statement-roll (S.Let name kind e)) ∙ h)
      step-sized (S.Assign name e) w h =
          ap (λ (x : Walked). x.lines) (walk-roll number_at cats own number (S.Assign name e) w)
          ∙ sized-found e (sym (statement-roll (S.Assign name e)) ∙ h)
      step-sized (S.Call bind c) w h =
          ap (λ (x : Walked). x.lines) (walk-roll number_at cats own number (S.Call bind c) w)
          ∙ no-lines (W.taken number_at cats own w.visible bind c) _ (taken-sized w.visible bind c)
          (call-sized w.visible c (sym (statement-roll (S.Call bind c)) ∙ h))
      step-sized (S.If cond holds fails) w h = if-sized cond _ _ (body-by _ (each-sized holds))
          (body-by _ (each-sized fails)) w h
      step-sized (S.While cond turn) w h = while-sized cond _ (body-by _ (each-sized turn)) w h

      -- each statement
      statement-sized : (s : Statement Name) → StatementSized s
      statement-sized = ind-Statement Name StatementSized
          (λ x y is. subst (λ d. StatementSized (roll-Statement Name d)) is (step-sized y))

      -- and each body
      body-sized : (ss : List (Statement Name)) → BodySized ss
      body-sized ss = body-by ss (every ss)
        where
          every : (ss : List (Statement Name)) → AllByRecursion StatementSized ss
          every [] = tt
          every (s ∷ ss) = (statement-sized s, every ss)

      -- the call that an alternative begins with
      early-sized : (pre : Option (Pre Name)) (w : Scope) → pre_numbers pre ≡ true →
          (W.early number_at cats own number pre w).lines ≡ []
      early-sized None w h = refl
      early-sized (Some pre) w h = by_bind pre.bind
        where
          by_bind : (bind : Option Name) → (W.bound number_at cats own number bind pre.call w).lines ≡ []
          by_bind None = call-sized w.visible pre.call h
          by_bind (Some name) = call-sized w.visible pre.call h

      -- alternatives one after the other
      alternatives-sized : (n : ℕ) (alts : List (Alternative Name)) (w : Scope) →
          alternative_numbers alts ≡ true →
          (W.walked (W.alternative number_at cats own number) n alts w).lines ≡ []
      alternatives-sized n [] w h = refl
      alternatives-sized n (a ∷ alts) w h =
          let here = both (has_numbers a.cond && (pre_numbers a.pre && body_numbers a.body))
          (alternative_numbers alts) h in
          let parts = both (has_numbers a.cond) (pre_numbers a.pre && body_numbers a.body) here.0 in
          let after_cond = both (pre_numbers a.pre) (body_numbers a.body) parts.1 in
          let early : Walked = W.early number_at cats own number a.pre w in
          no-lines (W.alternative number_at cats own number n a w).lines _
          (no-lines (W.head number_at cats own number w.visible n a) _ (sized-found a.cond parts.0)
          (no-lines early.lines _ (early-sized a.pre w after_cond.0)
          (body-sized a.body early.scope after_cond.1)))
          (alternatives-sized (n + 1) alts (W.alternative number_at cats own number n a w).scope here.1)

      -- what a procedure does
      form-sized : (f : Form Name) (w : Scope) → form_numbers f ≡ true →
          (W.form number_at cats own number f w).lines ≡ []
      form-sized (F.Total ss) w h = body-sized ss w h
      form-sized (F.Partial alts) w h = alternatives-sized 0 alts w h
      form-sized (F.Action alts) w h = alternatives-sized 0 alts w h

      -- no expression stands among parameters
      params-sized : (n : ℕ) (ps : List Param) (w : Scope) →
          (W.walked (λ (m : ℕ). W.param number_at cats own number) n ps w).lines ≡ []
      params-sized n [] w = refl
      params-sized n (p ∷ ps) w = params-sized (n + 1) ps (W.param number_at cats own number p w).scope

    -- the procedures of a cat
    procedures-sized : (n : ℕ) (qs : List (Proc Name)) (w : Scope) → All IsWellFormedProcedure qs →
        (W.walked (W.procedure number_at cats own) n qs w).lines ≡ []
    procedures-sized n [] w all = refl
    procedures-sized n (q ∷ qs) w all =
        let head : Walked = W.signature number_at cats own n q w in
        no-lines (W.procedure number_at cats own n q w).lines _
        (no-lines head.lines _ (params-sized n 0 q.params (at_head q w.earlier))
        (form-sized n q.form head.scope (all 0 q (omega arith)).numbers))
        (procedures-sized (n + 1) qs (W.procedure number_at cats own n q w).scope
        (λ k d below. all (suc k) d (omega (arith, below))))

    -- a certificate
    semi-sized : (n : ℕ) (s : Semi Name) → W.semi number_at cats own n s ≡ []
    semi-sized n s = none-numbered (W.hint number_at cats own s) (λ m h. refl) 0 s.hints

  -- a cat
  cat-sized : (n : ℕ) (own : Cat Name) → IsWellFormedCat own → W.cat number_at cats n own ≡ []
  cat-sized n own formed =
      no-lines (W.numbered (W.given number_at cats own) 0 own.given) _
      (none-numbered (W.given number_at cats own) (λ m g. refl) 0 own.given)
      (no-lines (W.numbered (W.variable number_at cats own) 0 own.vars) _
      (none-numbered (W.variable number_at cats own) (λ m v. refl) 0 own.vars)
      (no-lines (W.procedures number_at cats own) _
      (procedures-sized own 0 own.procs (record { visible = []; next = 0; earlier = [] }) formed.procs)
      (none-numbered (W.semi number_at cats own) (semi-sized own) 0 own.semis)))

  -- cats one after the other
  cats-sized : (n : ℕ) (cs : List (Cat Name)) → All IsWellFormedCat cs →
      W.numbered (W.cat number_at cats) n cs ≡ []
  cats-sized n [] all = refl
  cats-sized n (c ∷ cs) all =
      no-lines (W.cat number_at cats n c) _ (cat-sized n c (all 0 c (omega arith)))
      (cats-sized (n + 1) cs (λ k d below. all (suc k) d (omega (arith, below))))

  -- no expression stands in a box
  box-sized : (boxes : List BoxDecl) (n : ℕ) (b : BoxDecl) → W.box number_at cats boxes n b ≡ []
  box-sized boxes n b = none-numbered (W.box_given number_at cats boxes b) (λ m name. refl) 0 b.given

-- in a text that is well formed nothing is found
pub found_sized : (tree : Tree) → IsWellFormed tree → W.found number_at tree ≡ []
found_sized tree formed =
    no-lines (W.numbered (W.cat number_at tree.cats) 0 tree.cats) _
    (cats-sized tree.cats 0 tree.cats formed)
    (none-numbered (W.box number_at tree.cats tree.boxes) (box-sized tree.cats tree.boxes) 0 tree.boxes)
