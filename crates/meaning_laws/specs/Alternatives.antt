-- Which alternative of a procedure is chosen.
use Rattle.std.specs.Prelude.{◌≡◌, Bool, true, false, List, [], ◌∷◌, ◌++◌, Option, None, Some, Ok, Err}
use Rattle.seuss_base.specs.declared.outcome.Trap.{Trap}
use Rattle.seuss_program.specs.declared.tree.Ref.{Ref}
use Rattle.seuss_program.specs.declared.tree.Alternative.{Alternative}
use Rattle.seuss_program.specs.declared.tree.Form.{Form}
use Rattle.seuss_program.specs.declared.tree.Form.TheVariants as F
use Rattle.seuss_program.specs.declared.state.Value.{Value}
use Rattle.seuss_program.specs.Values.{Evaluated, value, bool_of}

-- the alternatives of a procedure, where it has some
abbrev pub alternatives_of : Form Ref → Option (List (Alternative Ref))
alternatives_of (F.Total ss) = None
alternatives_of (F.Partial alts) = Some alts
alternatives_of (F.Action alts) = Some alts

-- there is a value, and it is true, or false
abbrev pub IsBool : Bool → Evaluated → Type 0
IsBool b (Err t) = ⊥
IsBool b (Ok v) = bool_of v ≡ b

-- every precondition is false
abbrev pub NoneHolds : List (Alternative Ref) → List Value → List Value → Type 0
NoneHolds [] vars slots = Unit {0}
NoneHolds (a ∷ alts) vars slots = IsBool false (value a.cond vars slots) × NoneHolds alts vars slots

-- an alternative is the first one whose precondition is true
pub record IsChosen (alts : List (Alternative Ref)) (vars slots : List Value)
    (chosen : Alternative Ref) : Type 0 where
  pub before : List (Alternative Ref)
  pub after : List (Alternative Ref)
  pub stands : alts ≡ before ++ chosen ∷ after
  pub none : NoneHolds before vars slots
  pub holds : IsBool true (value chosen.cond vars slots)

-- the first precondition that isn't false traps
pub record IsTrapped (alts : List (Alternative Ref)) (vars slots : List Value) (trap : Trap) : Type 0 where
  pub before : List (Alternative Ref)
  pub trapping : Alternative Ref
  pub after : List (Alternative Ref)
  pub stands : alts ≡ before ++ trapping ∷ after
  pub none : NoneHolds before vars slots
  pub traps : value trapping.cond vars slots ≡ Err trap
