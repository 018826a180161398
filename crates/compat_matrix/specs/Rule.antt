-- How far one action is safe beside another one, by the effects of the procedures that their passes may
-- run.
use Rattle.std.specs.Prelude.{◌≡◌, ℕ, ◌<◌, ◌⊎◌, Bool, true, Some, slice_get}
use Rattle.seuss_base.specs.declared.level.Level.{Level}
use Rattle.seuss_base.specs.declared.level.Level.TheVariants.{Never, Firm}
use Rattle.seuss_base.specs.Levels.{IsAtLeast}
use Rattle.seuss_program.specs.declared.tree.Ref.{Ref}
use Rattle.seuss_program.specs.declared.tree.Form.{Form}
use Rattle.seuss_program.specs.declared.tree.Proc.{Proc}
use Rattle.seuss_program.specs.declared.program.Program.{Program}
use Rattle.seuss_program.specs.declared.program.ActionInfo.{ActionInfo}
use Rattle.seuss_program.specs.Programs.{procedure_of}
use Rattle.seuss_program.specs.Lines.{InLine, InTail}
use Rattle.method_code.specs.Codes.{cat_number}
use Rattle.effect_sets.specs.Effects.{tests, reads, writes, has_early, has_late}
use Rattle.compat_matrix.specs.declared.part.Part.{Part}
use Rattle.compat_matrix.specs.declared.part.Part.TheVariants.{Line, Tail}

-- two sets of variables have one in common; a cat has at most 32 variables, numbered from 0
abbrev pub Meets : (ℕ → Bool) → (ℕ → Bool) → Type 0
Meets left right = (v : ℕ) × (v < 32) × (left v ≡ true) × (right v ≡ true)

-- a procedure of a box is among those of an action: in its line, or in its tail
abbrev pub IsAmong : Program → ActionInfo → ℕ → ℕ → Part → Type 0
IsAmong p a box number Line = InLine p a box number
IsAmong p a box number Tail = InTail p a box number

-- The first procedure tests, in the line, what the second one writes.
pub record TestsWritten (part : Part) (m n : Form Ref) : Type 0 where
  pub line : part ≡ Line
  pub early : has_early m ≡ true
  pub meets : Meets (λ v. tests v m) (λ v. writes v n)

-- The second procedure may be late: it is in the tail, or has places after calls.
abbrev pub MayBeLate : Part → Form Ref → Type 0
MayBeLate part n = (part ≡ Tail) ⊎ (has_late n ≡ true)

-- Neither procedure writes what the other one reads or writes.
pub record KeepsApart (m n : Form Ref) : Type 0 where
  pub writes_reads : Meets (λ v. writes v m) (λ v. reads v n) → ⊥
  pub writes_writes : Meets (λ v. writes v m) (λ v. writes v n) → ⊥
  pub reads_writes : Meets (λ v. writes v n) (λ v. reads v m) → ⊥

-- The level of two procedures of one box, each with its part. The level of the certificate that names both
-- is `certified`, and never where there is none.
pub data IsRule (part other : Part) (m n : Form Ref) (certified : Level) : Level → Type 0 where
  Tested : TestsWritten part m n → IsRule part other m n certified Never
  Apart : (TestsWritten part m n → ⊥) → MayBeLate other n → KeepsApart m n →
      IsRule part other m n certified Firm
  Certified : (TestsWritten part m n → ⊥) → MayBeLate other n → (KeepsApart m n → ⊥) →
      IsRule part other m n certified certified
  Free : (TestsWritten part m n → ⊥) → (MayBeLate other n → ⊥) → IsRule part other m n certified Firm

-- the level of the certificate of two procedures, by the numbers of their cat and of both in it; never
-- where there is none
abbrev pub CertifiedLevels : Type 0
CertifiedLevels = ℕ → ℕ → ℕ → Level

-- Two procedures of one box, the first among those of an action and the second among those of another one,
-- with the level that the rule gives them.
pub record Pair (p : Program) (certified : CertifiedLevels) (a b : ActionInfo) (level : Level) : Type 0 where
  pub box : ℕ
  pub first : ℕ
  pub second : ℕ
  pub part : Part
  pub other : Part
  pub among : IsAmong p a box first part
  pub beside : IsAmong p b box second other
  pub m : Proc Ref
  pub n : Proc Ref
  pub there : procedure_of p box first ≡ Some m
  pub here : procedure_of p box second ≡ Some n
  pub rule :
      IsRule part other m.form n.form (certified (cat_number (slice_get p.boxes box)) first second) level

-- The level of two actions: the least of their pairs, and firm where they have none.
pub record IsLevel (p : Program) (certified : CertifiedLevels) (a b : ActionInfo) (level : Level) : Type
    0 where
  pub least : (found : Level) → Pair p certified a b found → IsAtLeast found level
  pub met : (level ≡ Firm) ⊎ Pair p certified a b level

-- without certificates
abbrev pub none_certified : CertifiedLevels
none_certified cat first second = Never
