-- A walk of a check and the numbering of names leave the same scope, but for the names of earlier locals.
use Rattle.std.specs.Prelude.{◌≡◌, ℕ, List, [], ◌∷◌, ◌++◌, Option, None, Some}
use Rattle.std.specs.List.{AllByRecursion}
use Rattle.std.proofs.Common.{refl, sym, ap, subst, ◌∙◌}
use Rattle.seuss_program.specs.declared.tree.Name.{Name}
use Rattle.seuss_program.specs.declared.tree.Kind.{Kind}
use Rattle.seuss_program.specs.declared.tree.Ref.{Ref}
use Rattle.seuss_program.specs.declared.tree.Expr.{Expr}
use Rattle.seuss_program.specs.declared.tree.Call.{Call}
use Rattle.seuss_program.specs.declared.tree.Pre.{Pre}
use Rattle.seuss_program.specs.declared.tree.Statement.{Statement, map-Statement, roll-Statement}
use Rattle.seuss_program.specs.declared.tree.Statement.{ind-Statement}
use Rattle.seuss_program.specs.declared.tree.Statement.TheVariants as SV
use Rattle.seuss_program.specs.declared.tree.Statement.TheVariants.{rolls-Let, rolls-Assign, rolls-Call}
use Rattle.seuss_program.specs.declared.tree.Statement.TheVariants.{rolls-If, rolls-While}
use Rattle.seuss_program.specs.declared.tree.Statement.TheOpen as S
use Rattle.seuss_program.specs.declared.tree.Statement.TheOpen.{Statement-F}
use Rattle.seuss_program.specs.declared.tree.Statement.TheShapes.{former-Statement-If-1}
use Rattle.seuss_program.specs.declared.tree.Alternative.{Alternative}
use Rattle.seuss_program.specs.declared.tree.Cat.{Cat}
use Rattle.box_types.specs.declared.scopes.Scope.{Scope}
use Rattle.box_types.specs.Scopes.{behind}
use Rattle.box_types.specs.Walks as W
use Rattle.box_types.specs.Walks.{Test, Walked}
use Rattle.box_types.specs.Namings as N
use Rattle.box_types.specs.Namings.{Numbered}
use Rattle.box_types.proofs.Walked.{walk-Let, walk-Assign, walk-Call, walk-If, walk-While}
use Rattle.box_types.proofs.Numberings.{number-Let, number-Assign, number-Call, number-If, number-While}

-- a scope with other names of earlier locals
abbrev pub with_earlier : List Name → Scope → Scope
with_earlier earlier sc = record { visible = sc.visible; next = sc.next; earlier = earlier }

-- a scope is another one, but for the names of earlier locals
pub record IsBut (w sc : Scope) : Type 0 where
  pub earlier : List Name
  pub same : w ≡ with_earlier earlier sc

module _ (test : Test) (cats : List (Cat Name)) (own : Cat Name) (number : ℕ) where
  -- a statement, and a body, leaves the same scope in both
  abbrev pub StatementKeeps : Statement Name → Type 0
  StatementKeeps s = (sc : Scope) (earlier : List Name) →
      IsBut (W.statement test cats own number s (with_earlier earlier sc)).scope
      (N.statement cats own s sc).scope

  abbrev pub BodyKeeps : List (Statement Name) → Type 0
  BodyKeeps ss = (sc : Scope) (earlier : List Name) →
      IsBut (W.body test cats own number ss (with_earlier earlier sc)).scope (N.body cats own ss sc).scope

  -- a body, by its statements
  body_keeps : (ss : List (Statement Name)) → AllByRecursion StatementKeeps ss → BodyKeeps ss
  body_keeps [] all sc earlier = record { earlier = earlier; same = refl }
  body_keeps (s ∷ ss) all sc earlier =
      let first = all.0 sc earlier in
      let rest = body_keeps ss all.1 (N.statement cats own s sc).scope first.earlier in
      record {
        earlier = rest.earlier;
        same = ap (λ (z : Scope). (W.body test cats own number ss z).scope) first.same ∙ rest.same;
      }

  -- a statement by what its walk and its numbering leave
  keeps_by : (s : Statement Name) (sc : Scope) (earlier later : List Name) (w : Walked)
      (n : Numbered (Statement Ref)) →
      W.statement test cats own number s (with_earlier earlier sc) ≡ w → N.statement cats own s sc ≡ n →
      w.scope ≡ with_earlier later n.scope →
      IsBut (W.statement test cats own number s (with_earlier earlier sc)).scope
      (N.statement cats own s sc).scope
  keeps_by s sc earlier later w n walks numbers same = record {
    earlier = later;
    same = ap (λ (x : Walked). x.scope) walks ∙ (same
        ∙ ap (λ (x : Numbered (Statement Ref)). with_earlier later x.scope) (sym numbers));
  }

  -- a statement of each form
  let_keeps : (name : Name) (kind : Kind) (e : Expr Name) → StatementKeeps (SV.Let name kind e)
  let_keeps name kind e sc earlier =
      let s : Statement Name = SV.Let name kind e in
      keeps_by s sc earlier (earlier ++ name ∷ []) _ _
      (walk-Let test cats own number s (with_earlier earlier sc) name kind e refl)
      (number-Let cats own s sc name kind e refl) refl

  assign_keeps : (name : Name) (e : Expr Name) → StatementKeeps (SV.Assign name e)
  assign_keeps name e sc earlier =
      let s : Statement Name = SV.Assign name e in
      keeps_by s sc earlier earlier _ _
      (walk-Assign test cats own number s (with_earlier earlier sc) name e refl)
      (number-Assign cats own s sc name e refl) refl

  call_keeps : (bind : Option Name) (c : Call Name) → StatementKeeps (SV.Call bind c)
  call_keeps bind c sc earlier =
      let s : Statement Name = SV.Call bind c in
      keeps_by s sc earlier earlier _ _
      (walk-Call test cats own number s (with_earlier earlier sc) bind c refl)
      (number-Call cats own s sc bind c refl) refl

  if_keeps : (cond : Expr Name) (holds fails : List (Statement Name)) → BodyKeeps holds → BodyKeeps fails →
      StatementKeeps (SV.If cond holds fails)
  if_keeps cond holds fails first second sc earlier =
      let s : Statement Name = SV.If cond holds fails in
      let one = first sc earlier in
      let between : Scope = behind sc (N.body cats own holds sc).scope in
      let two = second between one.earlier in
      keeps_by s sc earlier two.earlier _ _
      (walk-If test cats own number s (with_earlier earlier sc) cond holds fails refl)
      (number-If cats own s sc cond holds fails refl)
      (ap (λ (z : Scope). behind (with_earlier earlier sc)
      (W.body test cats own number fails (behind (with_earlier earlier sc) z)).scope) one.same
      ∙ ap (behind (with_earlier earlier sc)) two.same)

  while_keeps : (cond : Expr Name) (turn : List (Statement Name)) → BodyKeeps turn →
      StatementKeeps (SV.While cond turn)
  while_keeps cond turn inside sc earlier =
      let s : Statement Name = SV.While cond turn in
      let one = inside sc earlier in
      keeps_by s sc earlier one.earlier _ _
      (walk-While test cats own number s (with_earlier earlier sc) cond turn refl)
      (number-While cats own s sc cond turn refl)
      (ap (behind (with_earlier earlier sc)) one.same)

  -- statements of which each does
  each_keeps : (ys : List ((s : Statement Name) × StatementKeeps s)) →
      AllByRecursion StatementKeeps
      ((former-Statement-If-1 Name).map ((s : Statement Name) × StatementKeeps s) (Statement Name) (λ y. y.0)
      ys)
  each_keeps [] = tt
  each_keeps (y ∷ ys) = (y.1, each_keeps ys)

  -- a statement, by its layer
  step_keeps : (y : Statement-F Name ((s : Statement Name) × StatementKeeps s)) →
      StatementKeeps (roll-Statement Name
      (map-Statement Name ((s : Statement Name) × StatementKeeps s) (Statement Name) (λ y. y.0) y))
  step_keeps (S.Let name kind e) = subst StatementKeeps (sym (rolls-Let name kind e)) (let_keeps name kind e)
  step_keeps (S.Assign name e) = subst StatementKeeps (sym (rolls-Assign name e)) (assign_keeps name e)
  step_keeps (S.Call bind c) = subst StatementKeeps (sym (rolls-Call bind c)) (call_keeps bind c)
  step_keeps (S.If cond holds fails) = subst StatementKeeps (sym (rolls-If cond _ _))
      (if_keeps cond _ _ (body_keeps _ (each_keeps holds)) (body_keeps _ (each_keeps fails)))
  step_keeps (S.While cond turn) = subst StatementKeeps (sym (rolls-While cond _))
      (while_keeps cond _ (body_keeps _ (each_keeps turn)))

  -- each statement, and each body
  pub statement_keeps : (s : Statement Name) → StatementKeeps s
  statement_keeps = ind-Statement Name StatementKeeps
      (λ x y is. subst (λ d. StatementKeeps (roll-Statement Name d)) is (step_keeps y))

  pub bodies_keep : (ss : List (Statement Name)) → BodyKeeps ss
  bodies_keep ss = body_keeps ss (every ss)
    where
      every : (ss : List (Statement Name)) → AllByRecursion StatementKeeps ss
      every [] = tt
      every (s ∷ ss) = (statement_keeps s, every ss)

  -- the call that an alternative begins with leaves the same scope in both
  pub early_keeps : (pre : Option (Pre Name)) (sc : Scope) (earlier : List Name) →
      IsBut (W.early test cats own number pre (with_earlier earlier sc)).scope
      (N.early cats own pre sc).scope
  early_keeps None sc earlier = record { earlier = earlier; same = refl }
  early_keeps (Some pre) sc earlier = by pre.bind
    where
      by : (bind : Option Name) →
          IsBut (W.bound test cats own number bind pre.call (with_earlier earlier sc)).scope
          (N.bound cats own bind pre.call sc).scope
      by None = record { earlier = earlier; same = refl }
      by (Some name) = record { earlier = earlier ++ name ∷ []; same = refl }

  -- an alternative leaves the same scope in both
  pub alternative_keeps : (n : ℕ) (a : Alternative Name) (sc : Scope) (earlier : List Name) →
      IsBut (W.alternative test cats own number n a (with_earlier earlier sc)).scope
      (N.alternative cats own a sc).scope
  alternative_keeps n a sc earlier =
      let first = early_keeps a.pre sc earlier in
      let rest = bodies_keep a.body (N.early cats own a.pre sc).scope first.earlier in
      record {
        earlier = rest.earlier;
        same = ap (λ (z : Scope). behind (with_earlier earlier sc)
            (W.body test cats own number a.body z).scope) first.same
            ∙ ap (behind (with_earlier earlier sc)) rest.same;
      }
