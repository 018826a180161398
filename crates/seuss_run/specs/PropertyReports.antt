-- What `prove` prints: a line for each property.
use Rattle.std.specs.Prelude.{◌≡◌, ℕ, All, List, [], ◌++◌, map, codes, slice_get, Option, None, Some}
use Rattle.std.specs.List.{flat_map}
use Rattle.seuss_program.specs.declared.tree.Ref.{Ref}
use Rattle.seuss_program.specs.declared.tree.Cat.{Cat}
use Rattle.seuss_program.specs.declared.program.Program.{Program}
use Rattle.seuss_program.specs.Reports.{line, box_name, proc_name}
use Rattle.safety_check.specs.declared.property.Property.{Property}
use Rattle.safety_check.specs.Safety.{IsAnswer}
use Rattle.safety_check.specs.declared.safety.Safety.{Safety}
use Rattle.safety_check.specs.declared.safety.Safety.TheVariants.{Safe, Start, Open, Many}
use Rattle.seuss_run.specs.Holding.{HoldsThroughout}
use Rattle.seuss_run.specs.PropertyLists.{Claimed}

-- the name of a cat; one that isn't there has none
abbrev pub cat_name : Option (Cat Ref) → List ℕ
cat_name None = []
cat_name (Some c) = c.name.text

-- the name of a procedure of a cat, by its number
abbrev pub name_in : Option (Cat Ref) → ℕ → List ℕ
name_in None number = []
name_in (Some c) number = proc_name (slice_get c.procs number)

-- what is said of a property of a cat: it is safe, or what was found against it
abbrev pub answer_text : Program → Option (Cat Ref) → Safety → List ℕ
answer_text p cat Safe = codes " safe"
answer_text p cat (Start box) = codes " start " ++ box_name (slice_get p.boxes box)
answer_text p cat (Open number) = codes " open " ++ name_in cat number
answer_text p cat (Many number) = codes " many " ++ name_in cat number

-- the line `CAT safe`, `CAT start BOX`, `CAT open PROC` or `CAT many PROC`
abbrev pub property_line : Program → Property → Safety → List ℕ
property_line p property answer =
    let cat = slice_get p.cats property.cat in line (cat_name cat ++ answer_text p cat answer)

-- the answer is the exact one, and what it calls safe holds throughout
pub record IsJudged (p : Program) (property : Property) (answer : Safety) : Type 0 where
  pub exact : IsAnswer p property answer
  pub throughout : answer ≡ Safe → HoldsThroughout p property

-- a property with its answer
abbrev pub Judged : Type 0
Judged = Property × Safety

-- The text has the line of each property, in their order, with its answer.
pub record IsPropertyReport (given : Claimed) (text : List ℕ) : Type 0 where
  pub answers : List Judged
  pub properties : map (λ (j : Judged). j.0) answers ≡ given.1
  pub judged : All (λ (j : Judged). IsJudged given.0 j.0 j.1) answers
  pub lines : text ≡ flat_map (λ (j : Judged). property_line given.0 j.0 j.1) answers
