use Rattle.std.proofs.Common.{◌≡◌, map, length}
use Rattle.pass_gather.specs.Parting.{open_cell, AreApart}
use Rattle.pass_gather.proofs.parting.take_seats.Given as goal

abbrev pub invariant-loop-seat : goal.invariant-loop-seat
invariant-loop-seat g l = record {
  many : length l.made.boxes.items ≡ length g.N.EngineNames.names.boxes;
  apart : AreApart (map open_cell l.fn.boxes.items) l.yielded l.made;
}
