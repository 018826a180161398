-- Reading the type and the start value of a variable.
use Rattle.seuss_parser.specs.Readings.{Reading, either}
use Rattle.seuss_parser.specs.DeclarationReading.{read_int_of, read_bool_of, read_seq_of}
use Rattle.seuss_parser.specs.Fronts.{begins_with}
use Rattle.seuss_parser.specs.declared.symbol.Symbol.TheVariants as S
use Rattle.seuss_program.specs.declared.tree.Name.{Name}
use Rattle.seuss_program.specs.declared.tree.Var.{Var}

-- of the variable of this name
abbrev pub read_kind_of : Name → Reading Var
read_kind_of name =
    either (begins_with S.Int) (read_int_of name)
    (either (begins_with S.Bool) (read_bool_of name) (read_seq_of name))
