use Rattle.std.proofs.Common.{sym, ◌∙◌}
use Rattle.loose_records.specs.Entries.{stamp_of}
use Rattle.turn_runs.proofs.ClockLemmas.{last_clock}
use Rattle.turn_runs.proofs.clocks.sched_clock.Goals as goal

pub returns-in-Some : goal.returns-in-Some
returns-in-Some c =
    c.stamp.ensures
    ∙ last_clock stamp_of c.args.entries.now c.in-Some.entry.now c.requires (sym c.in-Some.ensures.value)
