-- What the calls of a check answer. Want of memory is free.
use Rattle.std.specs.Prelude.{◌≡◌, ℕ, List, [], ◌∷◌, Option, Result, Ok, Err}
use Rattle.seuss_program.specs.declared.tree.Kind.{Kind}
use Rattle.box_types.specs.declared.checking.Stop.{Stop}
use Rattle.box_types.specs.declared.checking.Stop.TheVariants as S
use Rattle.box_types.specs.declared.scopes.Scope.{Scope}
use Rattle.box_types.specs.Walks.{Walked}
use Rattle.box_types.specs.WrongType.{Typed}

-- these lines begin with this one
abbrev pub BeginsWith : List ℕ → ℕ → Type 0
BeginsWith lines l = (rest : List ℕ) × (lines ≡ l ∷ rest)

-- a check stops at the first line that is found, and passes where there is none
abbrev pub Stops : Result (Unit {0}) Stop → List ℕ → Type 0
Stops (Ok u) lines = lines ≡ []
Stops (Err (S.Line l)) lines = BeginsWith lines l
Stops (Err S.Memory) lines = Unit {0}

-- an expression has this type, or stops at its first part that is wrong; no memory is taken
abbrev pub HasType : Result (Option Kind) Stop → Typed → Type 0
HasType (Ok kind) typed = typed ≡ record { kind = kind; lines = [] }
HasType (Err (S.Line l)) typed = BeginsWith typed.lines l
HasType (Err S.Memory) typed = Unit {0}

-- A walk through a part of a text passes, and leaves this scope, or stops at the first line that is found.
abbrev pub Walks : Result (Unit {0}) Stop → Walked → Scope → Type 0
Walks (Ok u) walked scope = walked ≡ record { lines = []; scope = scope }
Walks (Err (S.Line l)) walked scope = BeginsWith walked.lines l
Walks (Err S.Memory) walked scope = Unit {0}
