-- A statement by its layer: what is found at it, and what it is with numbers in place of names.
use Rattle.std.specs.Prelude.{◌≡◌, ℕ, List, [], ◌∷◌, ◌++◌}
use Rattle.std.proofs.Common.{refl, ap}
use Rattle.seuss_program.specs.declared.tree.Name.{Name}
use Rattle.seuss_program.specs.declared.tree.Ref.{Ref}
use Rattle.seuss_program.specs.declared.tree.Cat.{Cat}
use Rattle.seuss_program.specs.declared.tree.Statement.{Statement, fold-roll-Statement, map-Statement}
use Rattle.seuss_program.specs.declared.tree.Statement.{roll-Statement}
use Rattle.seuss_program.specs.declared.tree.Statement.TheOpen.{Statement-F}
use Rattle.seuss_program.specs.declared.tree.Statement.TheShapes.{former-Statement-If-1}
use Rattle.box_types.specs.declared.scopes.Scope.{Scope}
use Rattle.box_types.specs.Namings as N
use Rattle.box_types.specs.Namings.{Numbered, Numbering}
use Rattle.box_types.specs.Walks as W
use Rattle.box_types.specs.Walks.{Test, Walked, Walk}

-- a function of each of the statements inside a statement
abbrev pub each : {N A : Type 0} → (Statement N → A) → List (Statement N) → List A
each {N} {A} f ss = (former-Statement-If-1 N).map (Statement N) A f ss

module _ (test : Test) (cats : List (Cat Name)) (own : Cat Name) (number : ℕ) where
  -- what is found at a statement, by its layer
  pub walk-roll : (d : Statement-F Name (Statement Name)) (w : Scope) →
      W.statement test cats own number (roll-Statement Name d) w
      ≡ W.statement_step test cats own number
      (map-Statement Name (Statement Name) Walk (W.statement test cats own number) d) w
  unfolding W.statement
  walk-roll d w = ap (λ (m : Walk). m w)
      (fold-roll-Statement Name Walk (W.statement_step test cats own number) d)

  -- what is found at statements one after the other is found at a body
  pub walks-each : (ss : List (Statement Name)) (w : Scope) →
      W.in_turn (each (W.statement test cats own number) ss) w ≡ W.body test cats own number ss w
  walks-each [] w = refl
  walks-each (s ∷ ss) w =
      ap (λ (r : Walked). record
      { lines = (W.statement test cats own number s w).lines ++ r.lines; scope = r.scope })
      (walks-each ss (W.statement test cats own number s w).scope)

module _ (cats : List (Cat Name)) (own : Cat Name) where
  -- a statement with numbers, by its layer
  pub number-roll : (d : Statement-F Name (Statement Name)) (sc : Scope) →
      N.statement cats own (roll-Statement Name d) sc
      ≡ N.statement_step cats own
      (map-Statement Name (Statement Name) Numbering (N.statement cats own) d) sc
  unfolding N.statement
  number-roll d sc = ap (λ (m : Numbering). m sc)
      (fold-roll-Statement Name Numbering (N.statement_step cats own) d)

  -- statements one after the other, with numbers, are a body
  pub numbers-each : (ss : List (Statement Name)) (sc : Scope) →
      N.in_turn (each (N.statement cats own) ss) sc ≡ N.body cats own ss sc
  numbers-each [] sc = refl
  numbers-each (s ∷ ss) sc =
      ap (λ (r : Numbered (List (Statement Ref))). record
      { part = (N.statement cats own s sc).part ∷ r.part; scope = r.scope })
      (numbers-each ss (N.statement cats own s sc).scope)
