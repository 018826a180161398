use Rattle.std.proofs.Common.{◌≡◌, map, All}
use Rattle.step_journal.specs.Histories.{entries_of}
use Rattle.pass_gather.specs.Closing.{IsClosed}
use Rattle.pass_gather.specs.Gathered.{vars_in, log_in}
use Rattle.pass_gather.specs.Parting.{open_cell}
use Rattle.pass_gather.proofs.closing.close_boxes.Given as goal

abbrev pub invariant-loop-shut : goal.invariant-loop-shut
invariant-loop-shut g l = record {
  last : l.last ≡ map vars_in (map open_cell l.yielded);
  journals : l.journals ≡ map entries_of (map log_in (map open_cell l.yielded));
  closed : All (IsClosed g.N.EngineNames.names g.N.CellNames.code g.N.CellNames.first) l.yielded;
}
