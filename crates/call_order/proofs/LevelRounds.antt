-- Levels round by round, and the program that has those of the last round.
use Rattle.std.specs.Prelude.{ℕ, zero, suc, ◌+◌, List, [], length}
use Rattle.seuss_program.specs.declared.tree.Tree.{Tree}
use Rattle.seuss_program.specs.declared.program.BoxInfo.{BoxInfo}
use Rattle.seuss_program.specs.declared.program.Program.{Program}
use Rattle.box_types.specs.Namings.{named}
use Rattle.call_order.specs.LevelLists.{next_levels, set_levels}

-- the levels after this many rounds, from level 0 for each box
abbrev pub levels_after : List BoxInfo → ℕ → List ℕ
levels_after boxes zero = []
levels_after boxes (suc rounds) = next_levels boxes (levels_after boxes rounds)

-- a program with the levels of its boxes
abbrev pub levelled : Program → Program
levelled p = record p { boxes = set_levels p.boxes (levels_after p.boxes (length p.boxes + 1)) }

-- the program of a text, with the levels of its boxes
abbrev pub program_of : Tree → Program
program_of tree = levelled (named tree)
