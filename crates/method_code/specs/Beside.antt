-- When an action is safe beside another one: what the steps of their passes do on a box in one order, they
-- do in the other order too (Lipton 1975).
use Rattle.std.specs.Prelude.{◌≡◌, ℕ, ◌<◌, ◌⊎◌, Bool, true, false, not, List, IsTrue, Some}
use Rattle.seuss_base.specs.declared.level.Level.{Level}
use Rattle.seuss_base.specs.declared.level.Level.TheVariants.{Never, Loose, Firm}
use Rattle.seuss_program.specs.declared.tree.Ref.{Ref}
use Rattle.seuss_program.specs.declared.tree.Proc.{Proc}
use Rattle.seuss_program.specs.declared.program.Program.{Program}
use Rattle.seuss_program.specs.declared.program.ActionInfo.{ActionInfo}
use Rattle.seuss_program.specs.declared.state.Value.{Value}
use Rattle.seuss_program.specs.Programs.{procedure_of}
use Rattle.seuss_program.specs.Keeping.{AreOf, param_kinds}
use Rattle.seuss_program.specs.Lines.{InLine, InTail}
use Rattle.method_code.specs.declared.method.Method.{Method}
use Rattle.method_code.specs.declared.frame.Frame.{Frame}
use Rattle.method_code.specs.declared.frame.End.{End}
use Rattle.method_code.specs.Codes.{compiled, number_of}
use Rattle.method_code.specs.Steps.{Stepped, step, entry}
use Rattle.method_code.specs.Frames.{HasVars, IsPlace}
use Rattle.method_code.specs.Kinds.{Early, kind_of as kind_of_step, is_late, rejects_plainly}

-- where a step begins
pub record Start : Type 0 where
  pub frame : Frame
  pub budget : ℕ

-- what a step leaves, from these variables
abbrev pub from : List Method → Start → List Value → Stepped
from code x vars = step code x.frame x.budget vars

-- two steps have the same result
pub record SameResult (s t : Stepped) : Type 0 where
  pub frame : s.frame ≡ t.frame
  pub budget : s.budget ≡ t.budget
  pub end : s.end ≡ t.end

-- Two steps on a box, from these variables: they have the same results in both orders, and leave the same
-- variables.
pub record Swaps (code : List Method) (x y : Start) (vars : List Value) : Type 0 where
  pub first : SameResult (from code x (from code y vars).vars) (from code x vars)
  pub second : SameResult (from code y vars) (from code y (from code x vars).vars)
  pub variables : (from code x (from code y vars).vars).vars ≡ (from code y (from code x vars).vars).vars

-- whether a level asks something where the first of two steps ends like this: loose asks nothing of a plain
-- rejection
abbrev pub asks : Level → End → Bool
asks Never end = false
asks Loose end = not (rejects_plainly end)
asks Firm end = true

-- A step semicommutes over another one on a box, at a level: the two may change places wherever the first
-- one comes first.
abbrev pub Semicommutes : Program → ℕ → Level → Start → Start → Type 0
Semicommutes p box level x y =
    (vars : List Value) → HasVars p box vars → IsTrue (asks level (from (compiled p) x vars).end) →
    Swaps (compiled p) x y vars

-- Where a step of a procedure of a box may begin: at its entry with any arguments, or at another one of its
-- places with slots of the right kinds.
pub data MayBegin (p : Program) (box number : ℕ) (q : Proc Ref) (frame : Frame) : Type 0 where
  AtEntry : (args : List Value) → AreOf args (param_kinds q.params) →
      frame ≡ entry (compiled p) (number_of p box number) args → MayBegin p box number q frame
  AtPlace : frame.method ≡ number_of p box number → 0 < frame.place → IsPlace q frame.place frame.slots →
      MayBegin p box number q frame

-- where a step of a pass of an action may begin on a box
pub record OfPass (p : Program) (a : ActionInfo) (box : ℕ) (x : Start) : Type 0 where
  pub number : ℕ
  pub procedure : Proc Ref
  pub there : procedure_of p box number ≡ Some procedure
  pub among : InLine p a box number ⊎ InTail p a box number
  pub begins : MayBegin p box number procedure x.frame

-- An action is safe beside another one at a level: a step of the first one's pass semicommutes over each
-- late step of the second one's; and an early step, which only reads, may change places with each step of
-- the other.
pub record SafeBeside (p : Program) (level : Level) (a b : ActionInfo) : Type 0 where
  pub late : (box : ℕ) (x y : Start) → OfPass p a box x → OfPass p b box y →
      is_late (compiled p) y.frame ≡ true →
      Semicommutes p box level x y
  pub early : (box : ℕ) (x y : Start) → OfPass p a box x → OfPass p b box y → (vars : List Value) →
      HasVars p box vars → kind_of_step (compiled p) x.frame (from (compiled p) x vars).end ≡ Early →
      Swaps (compiled p) x y vars
