use Rattle.std.proofs.Common.{◌≡◌}
use Rattle.engine_gather.specs.Seeing.{HaveLooked}
use Rattle.engine_gather.proofs.seeing.see_all.Given as goal

-- the seats so far, at the same desk
abbrev pub invariant-loop-core : goal.invariant-loop-core
invariant-loop-core g l = record {
  desk : l.desk ≡ l.initial.desk;
  looked : HaveLooked g.N.EngineNames.names l.initial.desk.cell l.yielded l.seen.items;
}
