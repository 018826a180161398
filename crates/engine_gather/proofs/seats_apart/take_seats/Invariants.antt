use Rattle.std.proofs.Common.{All, map}
use Rattle.worker_seats.specs.Workers.{IsWorker}
use Rattle.shared_engine.specs.Rings.{name_of}
use Rattle.engine_gather.specs.Parting.{AreApart, IsAt}
use Rattle.engine_gather.proofs.seats_apart.take_seats.Given as goal

-- the seats so far
abbrev pub invariant-loop-seat : goal.invariant-loop-seat
invariant-loop-seat g l = record {
  apart : AreApart l.fn.turns.items l.yielded l.made;
  left : All (IsAt (map name_of l.fn.turns.items)) l.seat-iterator.rest.items;
  kept : All (IsWorker g.N.EngineNames.names) l.yielded;
}
