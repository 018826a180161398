-- The levels of the boxes of a program.
use Rattle.std.specs.Prelude.{◌≡◌, map, All}
use Rattle.seuss_program.specs.declared.program.BoxInfo.{BoxInfo}
use Rattle.seuss_program.specs.declared.program.Program.{Program}
use Rattle.seuss_program.specs.Programs.{level_of}
use Rattle.seuss_program.specs.Keeping.{above}

-- a box without its level
abbrev pub without_level : BoxInfo → BoxInfo
without_level b = record b { level = 0 }

-- Two programs that differ in the levels of their boxes alone. Each level of the second one is 0 where
-- its box is given none, else one more than the greatest of its given boxes.
pub record IsLevelled (named p : Program) : Type 0 where
  pub cats : p.cats ≡ named.cats
  pub actions : p.actions ≡ named.actions
  pub boxes : map without_level p.boxes ≡ map without_level named.boxes
  pub levels : All (λ (b : BoxInfo). b.level ≡ above (map (level_of p) b.given)) p.boxes
