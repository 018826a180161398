-- The procedures of an action as a list, and how it is made: from the action on, each round adds what is
-- called by the procedures that the round before added.
use Rattle.std.specs.Prelude.{◌≡◌, ℕ, ◌+◌, ◌^◌, ◌<◌, ◌≤◌, ◌⊎◌, List, [], Option, None, Some, length}
use Rattle.std.specs.Prelude.{slice_get}
use Rattle.seuss_program.specs.declared.tree.Ref.{Ref}
use Rattle.seuss_program.specs.declared.tree.Ref.TheVariants as R
use Rattle.seuss_program.specs.declared.tree.Call.{Call}
use Rattle.seuss_program.specs.declared.tree.Proc.{Proc}
use Rattle.seuss_program.specs.declared.program.Program.{Program}
use Rattle.seuss_program.specs.declared.program.ActionInfo.{ActionInfo}
use Rattle.seuss_program.specs.Programs.{procedure_of, level_of, target_of, method_of}
use Rattle.seuss_program.specs.Lines.{IsIn, body_calls, early_calls}
use Rattle.method_code.specs.declared.instruction.Instruction.{Instruction}
use Rattle.method_code.specs.declared.instruction.Instruction.TheVariants as I
use Rattle.method_code.specs.declared.instruction.CallCode.{CallCode}
use Rattle.method_code.specs.declared.method.Head.{Head}
use Rattle.method_code.specs.declared.method.Entry.{Entry}
use Rattle.method_code.specs.declared.method.Entry.TheVariants as N
use Rattle.method_code.specs.declared.method.Method.{Method}
use Rattle.effect_sets.specs.declared.sets.Effects.{Effects}
use Rattle.effect_sets.specs.Effects.{IsEffects}
use Rattle.compat_matrix.specs.declared.part.Part.{Part}
use Rattle.compat_matrix.specs.declared.part.Part.TheVariants.{Line, Tail}
use Rattle.compat_matrix.specs.declared.member.Member.{Member}
use Rattle.compat_matrix.specs.Rule.{IsAmong}

-- a procedure of a box, in a part
pub record IsAt (m : Member) (box number : ℕ) (part : Part) : Type 0 where
  pub same_box : m.box_number ≡ box
  pub same_number : m.procedure ≡ number
  pub same_part : m.part ≡ part

-- a list has this procedure
pub record Lists (ms : List Member) (box number : ℕ) (part : Part) : Type 0 where
  pub at : ℕ
  pub member : Member
  pub there : slice_get ms at ≡ Some member
  pub is : IsAt member box number part

-- a member with the effects of a procedure that is there
pub record HasEffects (p : Program) (m : Member) : Type 0 where
  pub procedure : Proc Ref
  pub there : procedure_of p m.box_number m.procedure ≡ Some procedure
  pub effects : IsEffects procedure m.effects
  pub small : m.effects.writes < 2 ^ 32

-- the effects of a procedure of a box, where it is there
abbrev pub FindsEffects : Program → ℕ → ℕ → Option Effects → Type 0
FindsEffects p box number None = procedure_of p box number ≡ None
FindsEffects p box number (Some e) =
    (q : Proc Ref) × (procedure_of p box number ≡ Some q) × IsEffects q e × (e.writes < 2 ^ 32)

-- A list got further members: each of some procedures, unless it isn't there, and none but these.
pub record Adds (p : Program) (old new : List Member) (Is : ℕ → ℕ → Part → Type 0) : Type 0 where
  pub longer : length old ≤ length new
  pub kept : (at : ℕ) (m : Member) → slice_get old at ≡ Some m → slice_get new at ≡ Some m
  pub added : (at : ℕ) (m : Member) → slice_get new at ≡ Some m →
      (slice_get old at ≡ Some m) ⊎ (HasEffects p m × Is m.box_number m.procedure m.part)
  pub all : (box number : ℕ) (part : Part) (q : Proc Ref) → Is box number part →
      procedure_of p box number ≡ Some q → Lists new box number part

-- one procedure
pub record IsOne (box number : ℕ) (part : Part) (other_box other : ℕ) (other_part : Part) : Type 0 where
  pub same_box : box ≡ other_box
  pub same_number : number ≡ other
  pub same_part : part ≡ other_part

-- what instructions of a procedure of a box call
pub record IsCalled (p : Program) (box : ℕ) (code : List Instruction) (below number : ℕ)
    (part : Part) : Type 0 where
  pub call : CallCode
  pub among : IsIn (I.Call call) code
  pub target : target_of p box (R.Given call.target) ≡ below
  pub method : call.method ≡ number
  pub tail : part ≡ Tail

-- the preprocedures that heads of a procedure of a box call
pub record IsBegun (p : Program) (box : ℕ) (heads : List Head) (below number : ℕ)
    (part : Part) : Type 0 where
  pub head : Head
  pub call : CallCode
  pub among : IsIn head heads
  pub early : head.early ≡ Some call
  pub target : target_of p box (R.Given call.target) ≡ below
  pub method : call.method ≡ number
  pub line : part ≡ Line

-- the heads of an entry
abbrev pub heads_of : Entry → List Head
heads_of N.Total = []
heads_of (N.Partial heads) = heads

-- what the code of a procedure of a box calls; preprocedures count where it stands in the line
abbrev pub CodeCalls : Program → ℕ → Part → Method → ℕ → ℕ → Part → Type 0
CodeCalls p box Line m below number part =
    IsBegun p box (heads_of m.entry) below number part ⊎ IsCalled p box m.instructions below number part
CodeCalls p box Tail m below number part = IsCalled p box m.instructions below number part

-- What the text of a procedure of a box calls: a method in its body, and a preprocedure where it stands in
-- the line.
pub data TextCalls (p : Program) (box : ℕ) (q : Proc Ref) : Part → ℕ → ℕ → Part → Type 0 where
  InBody : (from : Part) (call : Call Ref) → IsIn call (body_calls q.form) →
      TextCalls p box q from (target_of p box call.target) (method_of call.method) Tail
  InPre : (call : Call Ref) → IsIn call (early_calls q.form) →
      TextCalls p box q Line (target_of p box call.target) (method_of call.method) Line

-- the list has all that one of its members calls
pub record IsClosed (p : Program) (ms : List Member) (m : Member) : Type 0 where
  pub calls : (q : Proc Ref) → procedure_of p m.box_number m.procedure ≡ Some q →
      (below number : ℕ) (part : Part) (r : Proc Ref) → TextCalls p m.box_number q m.part below number part →
      procedure_of p below number ≡ Some r → Lists ms below number part

-- A list on the way: it has procedures of an action alone, and the action; it has what the members before a
-- place call; those from there on up to an end are of boxes of a level that falls by each round, and those
-- after the end of lower ones.
pub record IsOnTheWay (p : Program) (a : ActionInfo) (ms : List Member) (start end round : ℕ) : Type 0 where
  pub sound : (at : ℕ) (m : Member) → slice_get ms at ≡ Some m →
      HasEffects p m × IsAmong p a m.box_number m.procedure m.part
  pub own : (q : Proc Ref) → procedure_of p a.box_number a.procedure ≡ Some q →
      Lists ms a.box_number a.procedure Line
  pub closed : (at : ℕ) (m : Member) → at < start → slice_get ms at ≡ Some m → IsClosed p ms m
  pub near : (at : ℕ) (m : Member) → start ≤ at → slice_get ms at ≡ Some m →
      level_of p m.box_number + round ≤ 128
  pub far : (at : ℕ) (m : Member) → end ≤ at → slice_get ms at ≡ Some m →
      level_of p m.box_number + round < 128

-- The members of an action: the procedures of its line and of its tail, with their effects.
pub record AreMembers (p : Program) (a : ActionInfo) (ms : List Member) : Type 0 where
  pub sound : (at : ℕ) (m : Member) → slice_get ms at ≡ Some m →
      HasEffects p m × IsAmong p a m.box_number m.procedure m.part
  pub whole : (box number : ℕ) (part : Part) (q : Proc Ref) → IsAmong p a box number part →
      procedure_of p box number ≡ Some q → Lists ms box number part

-- the members of each of some actions, in their order
pub record AreAllMembers (p : Program) (actions : List ActionInfo) (all : List (List Member)) : Type 0 where
  pub count : length all ≡ length actions
  pub each : (at : ℕ) (a : ActionInfo) (ms : List Member) → slice_get actions at ≡ Some a →
      slice_get all at ≡ Some ms → AreMembers p a ms
