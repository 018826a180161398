-- The steps that a pass of an action makes.
use Rattle.std.specs.Prelude.{◌⊎◌, List, [], ◌∷◌}
use Rattle.seuss_program.specs.declared.program.Program.{Program}
use Rattle.seuss_program.specs.declared.program.ActionInfo.{ActionInfo}
use Rattle.seuss_program.specs.Lines.{InLine, InTail}
use Rattle.method_code.specs.Frames.{HasVars, IsFrame, FitsStep}
use Rattle.method_code.specs.Kinds.{Made}
use Rattle.method_code.specs.Beside.{Start, MayBegin, OfPass}

-- a property of each step
abbrev pub EachMade : (Made → Type 0) → List Made → Type 0
EachMade P [] = Unit {0}
EachMade P (s ∷ steps) = P s × EachMade P steps

-- A step finds variables of its box.
abbrev pub FindsVars : Program → Made → Type 0
FindsVars p s = HasVars p s.box s.vars

-- A step of a pass of an action: from a frame of a procedure in the line or the tail of that action.
pub record IsOwnStep (p : Program) (a : ActionInfo) (s : Made) : Type 0 where
  pub frame : IsFrame p s.box s.frame
  pub among : InLine p a s.box frame.number ⊎ InTail p a s.box frame.number
  pub begins : MayBegin p s.box frame.number frame.procedure s.frame
  pub leaves : FitsStep p s.box frame.number s.stepped

-- where a step begins
abbrev pub start_of : Made → Start
start_of s = record { frame = s.frame; budget = s.budget }

-- A step is one that a pass of an action may make.
abbrev pub MayMake : Program → ActionInfo → Made → Type 0
MayMake p a s = OfPass p a s.box (start_of s)
