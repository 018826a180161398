-- The least level of members of two actions that stand on one box.
use Rattle.std.specs.Prelude.{◌≡◌, ℕ, ◌<◌, ◌⊎◌, List, Some, length, slice_get}
use Rattle.seuss_base.specs.declared.level.Level.{Level}
use Rattle.seuss_base.specs.declared.level.Level.TheVariants.{Firm}
use Rattle.seuss_base.specs.Levels.{IsAtLeast}
use Rattle.seuss_base.specs.Tables.{Table, level_at}
use Rattle.seuss_program.specs.Lines.{IsIn}
use Rattle.compat_matrix.specs.declared.member.Member.{Member}
use Rattle.seuss_program.specs.declared.program.Program.{Program}
use Rattle.method_code.specs.Codes.{cat_number}
use Rattle.compat_matrix.specs.Rule.{CertifiedLevels}
use Rattle.compat_matrix.specs.Rules.{ruled}

-- the level of the certificate that names the procedures of two members
abbrev pub between : Program → CertifiedLevels → Member → Member → Level
between p certified x y = certified (cat_number (slice_get p.boxes x.box_number)) x.procedure y.procedure

-- two members on one box, and their level
pub record Meet (p : Program) (certified : CertifiedLevels) (xs ys : List Member) (level : Level) : Type 0
  where
    pub first : Member
    pub second : Member
    pub among : IsIn first xs
    pub beside : IsIn second ys
    pub box : first.box_number ≡ second.box_number
    pub rule : ruled first second (between p certified first second) ≡ level

-- the least of their levels, and firm where there are none
pub record IsLeast (p : Program) (certified : CertifiedLevels) (xs ys : List Member) (level : Level) : Type
    0 where
  pub least : (found : Level) → Meet p certified xs ys found → IsAtLeast found level
  pub met : (level ≡ Firm) ⊎ Meet p certified xs ys level

-- the lower one of two levels
pub record IsLower (one other level : Level) : Type 0 where
  pub one_above : IsAtLeast one level
  pub other_above : IsAtLeast other level
  pub either : (level ≡ one) ⊎ (level ≡ other)

-- The cells of a table, up to a row and in that row up to a column, are the least levels of these members.
pub record HasCells (p : Program) (certified : CertifiedLevels) (all : List (List Member)) (table : Table)
    (row column : ℕ) : Type 0 where
  pub before : (a b : ℕ) (xs ys : List Member) → a < row → b < length all →
      slice_get all a ≡ Some xs → slice_get all b ≡ Some ys → IsLeast p certified xs ys (level_at table a b)
  pub here : (b : ℕ) (xs ys : List Member) → b < column →
      slice_get all row ≡ Some xs → slice_get all b ≡ Some ys →
      IsLeast p certified xs ys (level_at table row b)
