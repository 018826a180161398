use Rattle.std.proofs.Common.{◌≡◌, All}
use Rattle.pass_seats.specs.Seats.{IsSeat}
use Rattle.still_turns.proofs.closing.cores_of.Given as goal

-- the cores of the seats so far
abbrev pub invariant-loop-seat : goal.invariant-loop-seat
invariant-loop-seat g l =
    record { cores : l.cores.items ≡ l.yielded; seats : All (IsSeat g.N.EngineNames.names) l.yielded }
