use Rattle.std.proofs.Common.{sym, []}
use Rattle.turn_runs.proofs.ListLemmas.{none_index}
use Rattle.turn_runs.proofs.reading.entries_of.Goals as goal

pub returns-in-None : goal.returns-in-None
returns-in-None c = sym (none_index c.args.boxes.now c.args.number [] (sym c.in-None.ensures.value))
