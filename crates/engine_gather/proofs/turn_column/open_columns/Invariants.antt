use Rattle.std.proofs.Common.{◌≡◌, map}
use Rattle.engine_gather.specs.Columns.{column_of}
use Rattle.engine_gather.proofs.turn_column.open_columns.Given as goal

abbrev pub invariant-loop-turn : goal.invariant-loop-turn
invariant-loop-turn g l = l.columns.items ≡ map (column_of 0) l.yielded
