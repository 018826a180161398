-- What holds of an engine and of the run that it shows, after any turns.
use Rattle.std.proofs.Common.{◌≡◌, ℕ, ◌⊎◌, inl, inr, true, List, map, length, sym, ap, ◌∙◌, subst, arith}
use Rattle.std.specs.List.{range_with_len}
use Rattle.std.proofs.lemmas.List.{length-map}
use Rattle.std.proofs.lemmas.List.FromFn.{length-range_with_len}
use Rattle.compat_scheduler.specs.declared.ticket.Ticket.{Ticket}
use Rattle.compat_scheduler.specs.Settings.{Setting}
use Rattle.compat_scheduler.specs.Machines.{Machine, IsAllDone, running_count}
use Rattle.compat_scheduler.specs.Runs.{Event, IsRun, started}
use Rattle.loose_records.specs.declared.record.PassRecord.{PassRecord}
use Rattle.loose_records.specs.declared.record.Record.{Record}
use Rattle.loose_records.specs.Entries.{events_of}
use Rattle.loose_records.specs.Growing.{Status, IsGrowing}
use Rattle.loose_records.specs.LooseRecords.{IsOver}
use Rattle.loose_records.specs.Settings.{RunSetting}
use Rattle.round_ledger.specs.Cells.{HasEnded}
use Rattle.pass_seats.specs.Names.{Names}
use Rattle.pass_seats.specs.Seats.{SeatState}
use Rattle.pass_engine.specs.Engines.{EngineState}
use Rattle.still_turns.specs.declared.hand.InHand.{InHand}
use Rattle.still_turns.specs.Workings.{HasWorked}

-- passes are numbered by their starts, as the scheduler's law says
abbrev pub NumbersPasses : Type 0
NumbersPasses = (s : Setting) (events : List Event) (m : Machine) → IsRun s events m →
    map (λ (t : Ticket). t.pass) (started events) ≡ range_with_len 0 m.starts

-- nothing runs where all rounds are done, as the scheduler's law says
abbrev pub QuietsDown : Type 0
QuietsDown = (s : Setting) (events : List Event) (m : Machine) → IsRun s events m → IsAllDone s m →
    running_count m ≡ 0

-- a record has as many passes as were started
pub many_passes : NumbersPasses → (s : RunSetting) (r : Record) (statuses : List Status) (m : Machine) →
    IsGrowing s r statuses m → length r.passes ≡ m.starts
many_passes numbers s r statuses m g =
    let a : length (map (λ (t : Ticket). t.pass) (started (events_of r))) ≡ m.starts =
    ap length (numbers s.scheduler (events_of r) m g.run) ∙ length-range_with_len 0 m.starts in
    let b = length-map (started (events_of r)) (λ (t : Ticket). t.pass) in
    let c : length (map (λ (p : PassRecord). p.ticket) r.passes) ≡ length (started (events_of r)) =
    ap length g.tickets in
    let d = length-map r.passes (λ (p : PassRecord). p.ticket) in
    omega (arith, a, b, c, d)

-- a machine that is over has ended
pub over_ended : (s : RunSetting) (m : Machine) → IsOver s m → HasEnded s.scheduler m
over_ended s m over = go over.over
  where
    go : (m.stopped ≡ true) ⊎ IsAllDone s.scheduler m → HasEnded s.scheduler m
    go (inl stopped) = inr (stopped, over.quiet)
    go (inr done) = inl done

-- a machine that has ended is over
pub ended_over : QuietsDown → (s : RunSetting) (events : List Event) (m : Machine) →
    IsRun s.scheduler events m → HasEnded s.scheduler m → IsOver s m
ended_over quiets s events m run (inl done) =
    record { quiet = quiets s.scheduler events m run done; over = inr done }
ended_over quiets s events m run (inr stopped) = record { quiet = stopped.1; over = inl stopped.0 }

module _ (names : Names) (width : ℕ) (digits : List ℕ) (turns : ℕ) (e : EngineState) (seats : List SeatState)
    (held : List InHand) (worked : HasWorked names width digits turns e seats held) where
  -- the machine of the run has ended where that of the engine has
  pub run_ended : HasEnded e.sched.setting e.sched.machine →
      HasEnded names.setting.scheduler worked.run.core.machine
  run_ended ended =
      subst (λ (m : Machine). HasEnded names.setting.scheduler m) (sym worked.shows.sched.machine)
      (subst (λ (s : Setting). HasEnded s e.sched.machine) worked.shows.sched.setting ended)

  -- and the other way round
  pub engine_ended : HasEnded names.setting.scheduler worked.run.core.machine →
      HasEnded e.sched.setting e.sched.machine
  engine_ended ended =
      subst (λ (s : Setting). HasEnded s e.sched.machine) (sym worked.shows.sched.setting)
      (subst (λ (m : Machine). HasEnded names.setting.scheduler m) worked.shows.sched.machine ended)

  -- as many passes as were started
  pub run_numbered : NumbersPasses →
      length worked.run.made.passes ≡ worked.run.core.machine.starts
  run_numbered numbers =
      many_passes numbers names.setting worked.run.made worked.turned.statuses worked.run.core.machine
      worked.turned.grows
