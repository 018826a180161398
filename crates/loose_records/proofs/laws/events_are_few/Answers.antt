use Rattle.std.proofs.Common.{◌≡◌, ◌*◌, ◌≤◌, List, length, ap, ◌∙◌, arith, map}
use Rattle.std.proofs.lemmas.List.{length-map}
use Rattle.seuss_program.specs.Keeping.{Keeps}
use Rattle.compat_scheduler.specs.declared.ticket.Ticket.{Ticket}
use Rattle.compat_scheduler.specs.Machines.{Machine}
use Rattle.compat_scheduler.specs.Settings.{copies}
use Rattle.compat_scheduler.specs.Runs.{started}
use Rattle.loose_records.specs.declared.record.PassRecord.{PassRecord}
use Rattle.loose_records.specs.declared.record.Record.{Record}
use Rattle.loose_records.specs.Entries.{events_of}
use Rattle.loose_records.specs.Settings.{RunSetting}
use Rattle.loose_records.specs.Growing.{Status, IsGrowing}
use Rattle.loose_records.specs.Stamps.{events_in}
use Rattle.loose_records.proofs.EventCounts.{few_events}
use Rattle.loose_records.proofs.laws.events_are_few.Goals as goal
use Rattle.std.proofs.lemmas.List.FromFn.{length-range_with_len}

pub returns : goal.returns
returns c = record {
  passes = λ s r statuses m keeps small g. few s r statuses m keeps small g;
  all = λ s r statuses m keeps small many g.
      let a = few s r statuses m keeps small g in
      let b : m.starts ≤ 2 * (s.scheduler.rounds * copies s.scheduler) =
      c.passes_are_few.ensures s.scheduler (events_of r) m g.run in
      let d : length (map (λ (t : Ticket). t.pass) (started (events_of r))) ≡ m.starts =
      ap length (c.passes_are_numbered.ensures s.scheduler (events_of r) m g.run)
      ∙ length-range_with_len 0 m.starts in
      let e = length-map (started (events_of r)) (λ (t : Ticket). t.pass) in
      let f : length (map (λ (p : PassRecord). p.ticket) r.passes) ≡ length (started (events_of r)) =
      ap length g.tickets in
      let h = length-map r.passes (λ (p : PassRecord). p.ticket) in
      omega (arith, a, b, d, e, f, h, many);
}
  where
    few : (s : RunSetting) (r : Record) (statuses : List Status) (m : Machine) → Keeps s.program →
        s.budget ≤ 1000000 → IsGrowing s r statuses m → events_in r ≤ 2000302 * length r.passes
    few s r statuses m keeps small g = few_events s r statuses m g
        (λ a row budget low long. c.pass_is_over_in_time.ensures.at_most s.program a row budget keeps low
        long) small
        (c.passes_finish_or_run.ensures.count s.scheduler (events_of r) m g.run)
