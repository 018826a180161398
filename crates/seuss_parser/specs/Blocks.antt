-- Reading the blocks inside statements.
use Rattle.std.specs.Prelude.{ℕ, pred, Bool, List}
use Rattle.seuss_parser.specs.Readings.{Reading, optional, many, read_as}
use Rattle.seuss_parser.specs.Fronts.{begins_with, begins_statement}
use Rattle.seuss_parser.specs.StatementReading.{read_statement, read_else}
use Rattle.seuss_parser.specs.Trees.{listed}
use Rattle.seuss_parser.specs.declared.symbol.Symbol.TheVariants as S
use Rattle.seuss_program.specs.declared.tree.Name.{Name}
use Rattle.seuss_program.specs.declared.tree.Statement.{Statement}

-- the statements of a block, in which statements may stand so deep in one another
abbrev pub read_block : ℕ → Reading (List (Statement Name))
read_block nesting = many begins_statement (read_statement nesting (pred nesting))

-- the block after `else`, which may be left out
abbrev pub read_perhaps_else : Bool → Reading (List (Statement Name)) → Reading (List (Statement Name))
read_perhaps_else passes block room words =
    read_as listed (optional (begins_with S.Else) (read_else passes block) room words)
