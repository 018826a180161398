-- The six checks of a whole text: for each the lines of the places that fail, in the order of the tokens.
use Rattle.std.specs.Prelude.{ℕ, List}
use Rattle.seuss_program.specs.declared.tree.Tree.{Tree}
use Rattle.box_types.specs.declared.checking.Check.{Check}
use Rattle.box_types.specs.declared.checking.Check.TheVariants as C
use Rattle.box_types.specs.BuiltInTexts.{with_built_ins}
use Rattle.box_types.specs.Walks.{Test, found}
use Rattle.box_types.specs.Twice.{twice_at}
use Rattle.box_types.specs.Unknown.{unknown_at}
use Rattle.box_types.specs.WrongKind.{kind_at}
use Rattle.box_types.specs.WrongType.{type_at}
use Rattle.box_types.specs.ArgumentCounts.{arguments_at}
use Rattle.box_types.specs.Limits.{count_at}

-- what a check tests at a place
abbrev pub test_of : Check → Test
test_of C.Twice = twice_at
test_of C.Unknown = unknown_at
test_of C.WrongKind = kind_at
test_of C.WrongType = type_at
test_of C.Arguments = arguments_at
test_of C.Count = count_at

-- the lines of the names, certificates and hints of a text that stand twice, in its order
abbrev pub twice : Tree → List ℕ
twice tree = found twice_at (with_built_ins tree)

-- the lines of the names that are declared nowhere where they are visible, in the order of the text
abbrev pub unknown : Tree → List ℕ
unknown tree = found unknown_at (with_built_ins tree)

-- the lines of the names that are declared as something else than used, in the order of the text
abbrev pub wrong_kind : Tree → List ℕ
wrong_kind tree = found kind_at (with_built_ins tree)

-- the lines of what has another type than is wanted, in the order of the text
abbrev pub wrong_type : Tree → List ℕ
wrong_type tree = found type_at (with_built_ins tree)

-- the lines of calls and boxes with another number of arguments than declared, in the order of the text
abbrev pub arguments : Tree → List ℕ
arguments tree = found arguments_at (with_built_ins tree)

-- the lines of the first items that pass a limit, in the order of the text
abbrev pub count : Tree → List ℕ
count tree = found count_at (with_built_ins tree)
