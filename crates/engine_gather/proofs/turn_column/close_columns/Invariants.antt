use Rattle.std.proofs.Common.{◌≡◌, map}
use Rattle.engine_gather.specs.Columns.{box_of, number_of}
use Rattle.engine_gather.proofs.turn_column.close_columns.Given as goal

abbrev pub invariant-loop-column : goal.invariant-loop-column
invariant-loop-column g l = map box_of l.desks.items ≡ map number_of l.yielded
