use Rattle.std.proofs.Common.{sym}
use Rattle.loose_records.specs.declared.record.BoxEntry.{BoxEntry}
use Rattle.turn_runs.proofs.ClockLemmas.{last_clock}
use Rattle.turn_runs.proofs.clocks.box_clock.Goals as goal

pub returns-in-Some : goal.returns-in-Some
returns-in-Some c =
    last_clock (λ (e : BoxEntry). e.stamp) c.args.entries.now c.in-Some.entry.now c.requires
    (sym c.in-Some.ensures.value)
