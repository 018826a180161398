-- Walks through statements.
use Rattle.std.specs.Prelude.{◌≡◌, ℕ, false, ◌+◌, ◌<◌, List, [], ◌∷◌, ◌++◌, length, take, Option, Some}
use Rattle.std.specs.Prelude.{Result, Ok, Err}
use Rattle.std.proofs.Common.{subst, sym, ap, ◌∙◌, refl, get_or, drop}
use Rattle.seuss_program.specs.declared.tree.Name.{Name}
use Rattle.seuss_program.specs.declared.tree.Kind.{Kind}
use Rattle.seuss_program.specs.declared.tree.Kind.TheVariants as K
use Rattle.seuss_program.specs.declared.tree.Call.{Call}
use Rattle.seuss_program.specs.declared.tree.Expr.{Expr}
use Rattle.seuss_program.specs.declared.tree.Cat.{Cat}
use Rattle.seuss_program.specs.declared.tree.Statement.{Statement, fold-Statement, fold-roll-Statement}
use Rattle.seuss_program.specs.declared.tree.Statement.{map-Statement, roll-Statement}
use Rattle.seuss_program.specs.declared.tree.Statement.TheVariants as SV
use Rattle.seuss_program.specs.declared.tree.Statement.TheVariants.{rolls-Let, rolls-Assign, rolls-Call}
use Rattle.seuss_program.specs.declared.tree.Statement.TheVariants.{rolls-If, rolls-While}
use Rattle.seuss_program.specs.declared.tree.Statement.TheOpen as P
use Rattle.seuss_program.specs.declared.tree.Statement.TheOpen.{Statement-F}
use Rattle.seuss_program.specs.declared.tree.Statement.TheShapes.{former-Statement-If-1}
use Rattle.box_types.specs.declared.checking.Stop.{Stop}
use Rattle.box_types.specs.declared.checking.Stop.TheVariants as S
use Rattle.box_types.specs.declared.scopes.Local.{Local}
use Rattle.box_types.specs.declared.scopes.Scope.{Scope}
use Rattle.box_types.specs.Answers.{Stops, Walks}
use Rattle.box_types.specs.Scopes.{declared, behind, meaning_of}
use Rattle.box_types.specs.Walks.{Test, Walk, Walked, LocalName, Value, Assigned, closed, in_turn, walked}
use Rattle.box_types.specs.Walks.{three, statement, statement_step, body, taken, call, kind_of}
use Rattle.box_types.proofs.Lines.{stops_first, stops_second, from_here}

abbrev pub at_end : Scope → Walked
at_end scope = record { lines = []; scope = scope }

-- a walk stops where its lines do
pub walk_stops : (r : Result (Unit {0}) Stop) (e : Stop) (w : Walked) (xs : List ℕ) (scope : Scope) →
    r ≡ Err e → w.lines ≡ xs →
    Stops (Err e) xs → Walks r w scope
walk_stops r (S.Line l) w xs scope same lines found =
    subst (λ q. Walks q w scope) (sym same) (found.0, lines ∙ found.1)
walk_stops r S.Memory w xs scope same lines found = subst (λ q. Walks q w scope) (sym same) tt

-- a walk that stops finds what its lines begin with
pub lines_stop : (e : Stop) (w : Walked) (scope : Scope) → Walks (Err e) w scope → Stops (Err e) w.lines
lines_stop (S.Line l) w scope found = found
lines_stop S.Memory w scope found = tt

-- a walk passes where nothing is found
pub walk_passes : (w : Walked) (xs : List ℕ) (s t : Scope) → w ≡ record { lines = xs; scope = s } →
    xs ≡ [] → s ≡ t → w ≡ at_end t
walk_passes w xs s t is none same =
    is ∙ (ap (λ (zs : List ℕ). record { lines = zs; scope = s }) none
    ∙ ap (λ (u : Scope). record { lines = []; scope = u }) same)

-- a function of each of the statements inside a statement
abbrev pub each : {A : Type 0} → (Statement Name → A) → List (Statement Name) → List A
each {A} f ss = (former-Statement-If-1 Name).map (Statement Name) A f ss

module _ (test : Test) (cats : List (Cat Name)) (own : Cat Name) (number : ℕ) where
  -- statements one after the other are a body
  in_turn-each : (ss : List (Statement Name)) → in_turn (each (statement test cats own number) ss)
      ≡ body test cats own number ss
  in_turn-each [] = refl
  in_turn-each (s ∷ ss) = λ i scope. let first = statement test cats own number s scope in let rest =
      in_turn-each ss i first.scope in
      record { lines = first.lines ++ rest.lines; scope = rest.scope }

  walk-layer : (s : Statement Name) (d : Statement-F Name (Statement Name)) → s ≡ roll-Statement Name d →
      statement test cats own number s ≡ statement_step test cats own number
      (map-Statement Name (Statement Name) Walk (statement test cats own number) d)
  unfolding statement
  walk-layer s d h = ap (fold-Statement Name Walk (statement_step test cats own number)) h
      ∙ fold-roll-Statement Name Walk (statement_step test cats own number) d

  module _ (s : Statement Name) (scope : Scope) where
    pub walk-Let : (name : Name) (kind : Kind) (e : Expr Name) → s ≡ SV.Let name kind e →
        statement test cats own number s scope ≡ record {
          lines = test (LocalName own number scope name)
              ++ test (Value own scope.visible (Some kind) e);
          scope = declared name kind false scope;
        }
    walk-Let name kind e h = ap (λ (w : Walk). w scope)
        (walk-layer s (P.Let name kind e) (h ∙ sym (rolls-Let name kind e)))

    pub walk-Assign : (name : Name) (e : Expr Name) → s ≡ SV.Assign name e →
        statement test cats own number s scope ≡ record {
          lines = test (Assigned own scope.visible name)
              ++ test (Value own scope.visible (kind_of (meaning_of own scope.visible name)) e);
          scope =
              scope;
        }
    walk-Assign name e h = ap (λ (w : Walk). w scope)
        (walk-layer s (P.Assign name e) (h ∙ sym (rolls-Assign name e)))

    pub walk-Call : (bind : Option Name) (c : Call Name) → s ≡ SV.Call bind c →
        statement test cats own number s scope ≡ record {
          lines = taken test cats own scope.visible bind c ++ call test cats own scope.visible c;
          scope = scope;
        }
    walk-Call bind c h = ap (λ (w : Walk). w scope)
        (walk-layer s (P.Call bind c) (h ∙ sym (rolls-Call bind c)))

    -- the condition of a statement
    abbrev pub condition : Expr Name → List ℕ
    condition cond = test (Value own scope.visible (Some K.Bool) cond)

    abbrev first_of : Walk → Walked
    first_of w = closed scope (w scope)

    abbrev second_of : Walk → Walk → Walked
    second_of w v = closed scope (v (first_of w).scope)

    abbrev either : Expr Name → Walk → Walk → Walked
    either cond w v = record {
      lines = condition cond ++ ((first_of w).lines ++ (second_of w v).lines);
      scope =
          (second_of w v).scope;
    }

    pub walk-If : (cond : Expr Name) (holds fails : List (Statement Name)) → s ≡ SV.If cond holds fails →
        statement test cats own number s scope ≡ either cond (body test cats own number holds)
        (body test cats own number fails)
    walk-If cond holds fails h =
        ap (λ (w : Walk). w scope)
        (walk-layer s (P.If cond holds fails) (h ∙ sym (rolls-If cond holds fails)))
        ∙ (ap (λ (w : Walk). either cond w (in_turn (each (statement test cats own number) fails)))
        (in_turn-each holds)
        ∙ ap (λ (v : Walk). either cond (body test cats own number holds) v) (in_turn-each fails))

    abbrev turn_of : Expr Name → Walk → Walked
    turn_of cond w = record { lines = condition cond ++ (first_of w).lines; scope = (first_of w).scope }

    pub walk-While : (cond : Expr Name) (turn : List (Statement Name)) → s ≡ SV.While cond turn →
        statement test cats own number s scope ≡ turn_of cond (body test cats own number turn)
    walk-While cond turn h =
        ap (λ (w : Walk). w scope) (walk-layer s (P.While cond turn) (h ∙ sym (rolls-While cond turn)))
        ∙ ap (λ (w : Walk). turn_of cond w) (in_turn-each turn)

  body_from : (ss : List (Statement Name)) (i : ℕ) (s : Statement Name) (scope : Scope) → i < length ss →
      s ≡ get_or ss i s →
      body test cats own number (drop i ss) scope ≡ body test cats own number (s ∷ drop (i + 1) ss) scope
  body_from ss i s scope h e = ap (λ (xs : List (Statement Name)). body test cats own number xs scope)
      (from_here ss i s h e)

  abbrev with_first : List (Statement Name) → Walked → Walked
  with_first ss first = let rest = body test cats own number ss first.scope in
      record { lines = first.lines ++ rest.lines; scope = rest.scope }

  pub body_goes_on : (ss : List (Statement Name)) (i : ℕ) (s : Statement Name) (scope after : Scope)
      (all : Walked) → i < length ss → s ≡ get_or ss i s →
      body test cats own number (drop i ss) scope ≡ all →
      statement test cats own number s scope ≡ at_end after →
      body test cats own number (drop (i + 1) ss) after ≡ all
  body_goes_on ss i s scope after all h at same passed =
      sym (ap (λ (w : Walked). with_first (drop (i + 1) ss) w) passed)
      ∙ (sym (body_from ss i s scope h at) ∙ same)

  pub body_stops : (ss : List (Statement Name)) (i : ℕ) (s : Statement Name) (scope after : Scope)
      (all : Walked) (r : Result (Unit {0}) Stop) (e : Stop) →
      i < length ss → s ≡ get_or ss i s → body test cats own number (drop i ss) scope ≡ all → r ≡ Err e →
      Walks (Err e) (statement test cats own number s scope) after → Walks r all after
  body_stops ss i s scope after all r e h at same is found =
      let first = statement test cats own number s scope in let rest =
      body test cats own number (drop (i + 1) ss) first.scope in
      walk_stops r e all (first.lines ++ rest.lines) after is
      (ap (λ (w : Walked). w.lines) (sym same ∙ body_from ss i s scope h at))
      (stops_first e first.lines rest.lines (lines_stop e first after found))

-- the scope behind a block
pub left : (n : ℕ) (before s t : Scope) → n ≡ length before.visible →
    take (length before.visible) s.visible ≡ before.visible →
    t.visible ≡ take n s.visible → t.next ≡ s.next → t.earlier ≡ s.earlier → behind before s ≡ t
left n before s t count kept visible next earlier =
    let same : before.visible ≡ t.visible = sym kept
    ∙ (ap (λ k. take k s.visible) (sym count) ∙ sym visible) in
    ap (λ (v : List Local). record { visible = v; next = s.next; earlier = s.earlier }) same
    ∙ (ap (λ (k : ℕ). record { visible = t.visible; next = k; earlier = s.earlier }) (sym next)
    ∙ ap (λ (l : List Name). record { visible = t.visible; next = t.next; earlier = l }) (sym earlier))

-- what was visible before the first of two blocks is what was visible before both
pub left_twice : (n : ℕ) (before s t u : Scope) → n ≡ length before.visible →
    take (length before.visible) s.visible ≡ before.visible →
    t.visible ≡ take n s.visible → take (length t.visible) u.visible ≡ t.visible →
    take (length before.visible) u.visible ≡ before.visible
left_twice n before s t u count kept visible inner =
    let same : t.visible ≡ before.visible = visible ∙ (ap (λ k. take k s.visible) count ∙ kept) in
    subst (λ (v : List Local). take (length v) u.visible ≡ v) same inner

module _ (scope : Scope) (cond : List ℕ) (r : Result (Unit {0}) Stop) (e : Stop) (w : Walked) where
  -- a statement of two parts, by its condition
  pub cond_stops : (rest : List ℕ) (after : Scope) → w.lines ≡ cond ++ rest → r ≡ Err e →
      Stops (Err e) cond → Walks r w after
  cond_stops rest after is same found = walk_stops r e w (cond ++ rest) after same is
      (stops_first e cond rest found)

  -- by its first block
  pub first_stops : (b : Walked) (rest : List ℕ) (after : Scope) → w.lines ≡ cond ++ (b.lines ++ rest) →
      r ≡ Err e → cond ≡ [] → Walks (Err e) b after →
      (new : Scope) → Walks r w new
  first_stops b rest after is same none found new =
      walk_stops r e w (cond ++ (b.lines ++ rest)) new same is
      (stops_second (Err e) cond (b.lines ++ rest) none
      (stops_first e b.lines rest (lines_stop e b after found)))

  -- by its only block
  pub only_stops : (b : Walked) (after : Scope) → w.lines ≡ cond ++ b.lines → r ≡ Err e → cond ≡ [] →
      Walks (Err e) b after →
      (new : Scope) → Walks r w new
  only_stops b after is same none found new =
      walk_stops r e w (cond ++ b.lines) new same is
      (stops_second (Err e) cond b.lines none (lines_stop e b after found))

  -- by its second block
  pub second_stops : (b : Walked) (v : Walk) (s t after : Scope) →
      w.lines ≡ cond ++ ((closed scope b).lines ++ (closed scope (v (closed scope b).scope)).lines) →
      r ≡ Err e → cond ≡ [] →
      b ≡ at_end s → behind scope s ≡ t → Walks (Err e) (v t) after → (new : Scope) → Walks r w new
  second_stops b v s t after is same none passed gone found new =
      let first : closed scope b ≡ at_end t = ap (λ (x : Walked). closed scope x) passed ∙ ap at_end gone in
      walk_stops r e w (cond ++ (v t).lines) new same
      (is ∙ ap (λ (f : Walked). cond ++ (f.lines ++ (v f.scope).lines)) first)
      (stops_second (Err e) cond (v t).lines none (lines_stop e (v t) after found))

module _ (scope : Scope) (cond : List ℕ) (w : Walked) where
  pub turn_passes : (b : Walked) (s t : Scope) → w
      ≡ record { lines = cond ++ (closed scope b).lines; scope = (closed scope b).scope } → cond ≡ [] →
      b ≡ at_end s → behind scope s ≡ t → w ≡ at_end t
  turn_passes b s t is none passed gone =
      let first : closed scope b ≡ at_end t = ap (λ (x : Walked). closed scope x) passed ∙ ap at_end gone in
      is ∙ (ap (λ (f : Walked). record { lines = cond ++ f.lines; scope = f.scope }) first
      ∙ ap (λ (c : List ℕ). record { lines = c ++ []; scope = t }) none)

  abbrev joined : Walked → Walked → Walked
  joined f g = record { lines = cond ++ (f.lines ++ g.lines); scope = g.scope }

  pub either_passes : (b : Walked) (v : Walk) (s t u z : Scope) →
      w ≡ joined (closed scope b) (closed scope (v (closed scope b).scope)) → cond ≡ [] →
      b ≡ at_end s → behind scope s ≡ t → v t ≡ at_end u → behind scope u ≡ z → w ≡ at_end z
  either_passes b v s t u z is none passed gone then_passed then_gone =
      let first : closed scope b ≡ at_end t = ap (λ (x : Walked). closed scope x) passed ∙ ap at_end gone in
      let second : closed scope (v t) ≡ at_end z =
      ap (λ (x : Walked). closed scope x) then_passed ∙ ap at_end then_gone in
      is ∙ (ap (λ (f : Walked). joined f (closed scope (v f.scope))) first
      ∙ (ap (λ (g : Walked). joined (at_end t) g) second
      ∙ ap (λ (c : List ℕ). record { lines = c ++ []; scope = z }) none))

module _ {X : Type 0} (f : ℕ → X → Walk) where
  -- a walk through an item and through those behind it
  walked_from : (xs : List X) (i : ℕ) (x : X) (scope : Scope) → i < length xs → x ≡ get_or xs i x →
      walked f i (drop i xs) scope ≡ walked f i (x ∷ drop (i + 1) xs) scope
  walked_from xs i x scope h e = ap (λ zs. walked f i zs scope) (from_here xs i x h e)

  abbrev item_first : ℕ → List X → Walked → Walked
  item_first n xs first = let rest = walked f n xs first.scope in
      record { lines = first.lines ++ rest.lines; scope = rest.scope }

  -- where nothing is found at an item, the walk goes on
  pub walked_goes_on : (xs : List X) (i : ℕ) (x : X) (scope after : Scope) (all : Walked) → i < length xs →
      x ≡ get_or xs i x →
      f i x scope ≡ at_end after → walked f i (drop i xs) scope ≡ all →
      walked f (i + 1) (drop (i + 1) xs) after ≡ all
  walked_goes_on xs i x scope after all h at passed same =
      sym (ap (λ (w : Walked). item_first (i + 1) (drop (i + 1) xs) w) passed)
      ∙ (sym (walked_from xs i x scope h at) ∙ same)

  -- where something is found at an item, the walk stops
  pub walked_stops : (xs : List X) (i : ℕ) (x : X) (scope after new : Scope) (all : Walked)
      (r : Result (Unit {0}) Stop) (e : Stop) →
      i < length xs → x ≡ get_or xs i x → r ≡ Err e → Walks (Err e) (f i x scope) after →
      walked f i (drop i xs) scope ≡ all → Walks r all new
  walked_stops xs i x scope after new all r e h at is found same =
      let first = f i x scope in let rest = walked f (i + 1) (drop (i + 1) xs) first.scope in
      walk_stops r e all (first.lines ++ rest.lines) new is
      (ap (λ (w : Walked). w.lines) (sym same ∙ walked_from xs i x scope h at))
      (stops_first e first.lines rest.lines (lines_stop e first after found))

-- a walk with these lines stops where they do
pub lines_walk : (r : Result (Unit {0}) Stop) (e : Stop) (xs : List ℕ) (s t : Scope) → r ≡ Err e →
    Stops (Err e) xs →
    Walks r (record { lines = xs; scope = s }) t
lines_walk r e xs s t same found = walk_stops r e (record { lines = xs; scope = s }) xs t same refl found

-- a check that leaves the scope as it is, as a walk
pub still_walk : (r : Result (Unit {0}) Stop) (xs : List ℕ) (s : Scope) → Stops r xs →
    Walks r (record { lines = xs; scope = s }) s
still_walk (Ok u) xs s found = ap (λ (zs : List ℕ). record { lines = zs; scope = s }) found
still_walk (Err (S.Line l)) xs s found = found
still_walk (Err S.Memory) xs s found = tt

-- a walk that stops, whatever scope is behind it
pub walk_again : (r : Result (Unit {0}) Stop) (e : Stop) (w v : Walked) (s t : Scope) → r ≡ Err e →
    v.lines ≡ w.lines → Walks (Err e) w s → Walks r v t
walk_again r e w v s t same lines found = walk_stops r e v w.lines t same lines (lines_stop e w s found)

module _ (lines : List ℕ) (w v : Walk) (s : Scope) where
  -- three parts stop in the first one
  pub three_first : (r : Result (Unit {0}) Stop) (e : Stop) (t : Scope) → r ≡ Err e → Stops (Err e) lines →
      Walks r (three lines w v s) t
  three_first r e t same found =
      walk_stops r e (three lines w v s) (three lines w v s).lines t same refl
      (stops_first e lines ((w s).lines ++ (v (w s).scope).lines) found)

  -- in the second one
  pub three_second : (r : Result (Unit {0}) Stop) (e : Stop) (after t : Scope) → r ≡ Err e → lines ≡ [] →
      Walks (Err e) (w s) after →
      Walks r (three lines w v s) t
  three_second r e after t same none found =
      walk_stops r e (three lines w v s) (three lines w v s).lines t same refl
      (stops_second (Err e) lines ((w s).lines ++ (v (w s).scope).lines) none
      (stops_first e (w s).lines (v (w s).scope).lines (lines_stop e (w s) after found)))

  -- or end as the third one does
  pub three_third : (r : Result (Unit {0}) Stop) (t u : Scope) → lines ≡ [] → w s ≡ at_end t →
      Walks r (v t) u → Walks r (three lines w v s) u
  three_third r t u none passed found =
      subst (λ (x : Walked). Walks r x u)
      (sym (ap (λ (zs : List ℕ). record
      { lines = zs ++ ((w s).lines ++ (v (w s).scope).lines); scope = (v (w s).scope).scope }) none
      ∙ ap (λ (x : Walked). record { lines = x.lines ++ (v x.scope).lines; scope = (v x.scope).scope })
      passed)) found

-- how three parts end
pub ruleset in_three = (three_first, three_second, three_third)
