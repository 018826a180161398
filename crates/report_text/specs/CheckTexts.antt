-- What is printed of a program that is accepted.
use Rattle.std.specs.Prelude.{ℕ, ◌-◌, List, ◌++◌, length, codes}
use Rattle.std.specs.Fmt.{decimal}
use Rattle.seuss_program.specs.declared.program.Program.{Program}
use Rattle.seuss_program.specs.Reports.{line}

-- how many cats a program declares: all but the two that are built in
abbrev pub cats_in : Program → ℕ
cats_in p = length p.cats - 2

-- the line `accepted cats N boxes N actions N`
abbrev pub check_text : Program → List ℕ
check_text p = line (codes "accepted cats " ++ decimal (cats_in p) ++ codes " boxes "
    ++ decimal (length p.boxes)
    ++ codes " actions " ++ decimal (length p.actions))
