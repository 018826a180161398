-- A run that begins with one that has ended is that one, and who was told of its end has seen one.
use Rattle.std.proofs.Common.{◌≡◌, List, [], ◌++◌, map, append-nil, sym, ap, ◌∙◌, subst}
use Rattle.std.proofs.lemmas.List.{map-append}
use Rattle.compat_scheduler.specs.Settings.{Setting}
use Rattle.compat_scheduler.specs.Machines.{Machine}
use Rattle.compat_scheduler.specs.Runs.{Event, IsRun, Runs}
use Rattle.step_journal.specs.Histories.{Log, entries_of}
use Rattle.loose_records.specs.declared.record.SchedEntry.{SchedEntry}
use Rattle.loose_records.specs.Entries.{event_of}
use Rattle.round_ledger.specs.Cells.{HasEnded, log_events}
use Rattle.round_ledger.specs.declared.standing.Standing.TheVariants.{Ended}
use Rattle.pass_seats.specs.Names.{Names}
use Rattle.pass_seats.specs.Seats.{SeatState}
use Rattle.worker_seats.specs.Workers.{WorkerState}
use Rattle.shared_engine.specs.Calls.{Stands}
use Rattle.engine_gather.specs.Gathering.{BeginsWithEnd}

-- the events of two lists, one after the other
events-append : (xs ys : Log SchedEntry) → log_events (xs ++ ys) ≡ log_events xs ++ log_events ys
events-append xs ys =
    ap (map event_of) (map-append (λ p. p.1) xs ys) ∙ map-append event_of (entries_of xs) (entries_of ys)

-- the run has ended
pub ended_still : (s : Setting) (machine : Machine) (sched : Log SchedEntry) →
    ((front rest : List Event) (m : Machine) → IsRun s (front ++ rest) m →
    (mid : Machine) × IsRun s front mid × Runs s mid rest m) →
    ((events : List Event) (m n : Machine) → IsRun s events m → IsRun s events n → m ≡ n) →
    ((front rest : List Event) (m n : Machine) → IsRun s front m → Runs s m rest n → HasEnded s m → rest ≡ []) →
    IsRun s (log_events sched) machine → BeginsWithEnd s sched → HasEnded s machine
ended_still s machine sched beginning same last run end =
    let front = log_events end.front in
    let rest = log_events end.begins.0 in
    let events : log_events sched ≡ front ++ rest =
    ap log_events (sym end.begins.1) ∙ events-append end.front end.begins.0 in
    let whole : IsRun s (front ++ rest) machine =
    subst (λ (es : List Event). IsRun s es machine) events run in
    let cut = beginning front rest machine whole in
    let is : cut.0 ≡ end.machine = same front cut.0 end.machine cut.1 end.run in
    let on : Runs s end.machine rest machine = subst (λ (m : Machine). Runs s m rest machine) is cut.2 in
    let none : rest ≡ [] = last front rest end.machine machine end.run on end.ended in
    let at : machine ≡ end.machine = subst (λ (es : List Event). Runs s end.machine es machine) none on in
    subst (HasEnded s) (sym at) end.ended

-- who was told that the run has ended has seen one that has
pub told_ended : (names : Names) (old new : WorkerState) → Stands names old new Ended →
    BeginsWithEnd names.setting.scheduler new.core.note.seen
told_ended names old new told =
    let cell = told.cell in
    let log = cell.journal.log in
    let at = told.told.stands in
    record {
      front = log;
      begins = ([], append-nil log ∙ sym (ap (λ (s : SeatState). s.note.seen) at.new_is));
      machine = cell.machine;
      run = subst (λ (s : Setting). IsRun s (log_events log) cell.machine) told.of.setting at.run;
      ended = subst (λ (s : Setting). HasEnded s cell.machine) told.of.setting at.stands;
    }
