use Rattle.std.proofs.Common.{◌≡◌, map, All}
use Rattle.pass_engine.specs.Gathering.{SeesAll, seen_with}
use Rattle.pass_engine.proofs.gathering.see_all.Given as goal

-- the cores of the seats so far, at the same desk
abbrev pub invariant-loop-seat : goal.invariant-loop-seat
invariant-loop-seat g l = record {
  desk : l.desk ≡ l.initial.desk;
  cores : l.cores.items ≡ map (seen_with l.initial.desk.cell.journal.log) l.yielded;
  sees : All (SeesAll g.N.EngineNames.names l.initial.desk.cell.journal.log) l.yielded;
}
