-- A finish at the scheduler's desk, of which the seat has seen the whole list.
use Rattle.std.proofs.Common.{◌≡◌, ℕ, ◌+◌, inl, inr, true, false, refl, sym, ap, ◌∙◌, subst}
use Rattle.std.specs.Prelude.{Result, Ok, Err, IfOk, MatchResult}
use Rattle.compat_scheduler.specs.declared.ticket.FinishVerdict.{FinishVerdict}
use Rattle.step_journal.specs.Histories.{Log}
use Rattle.loose_records.specs.declared.record.SchedEntry.{SchedEntry}
use Rattle.round_ledger.specs.declared.standing.Standing.{Standing}
use Rattle.round_ledger.specs.Cells.{CellState}
use Rattle.pass_seats.specs.declared.refusal.EngineRefusal as E
use Rattle.pass_seats.specs.declared.refusal.EngineRefusal.TheVariants as X
use Rattle.pass_seats.specs.Names.{Names}
use Rattle.pass_seats.specs.Seats.{SeatState}
use Rattle.pass_seats.specs.Starts.{sees_sched}
use Rattle.pass_seats.specs.Finishes.{Finished, FinishRefusedBy, FinishWorn, IsOver, Stands, StandingRefusedBy}
use Rattle.pass_seats.specs.Finishes.{pass_sees}
use Rattle.worker_seats.specs.Marks.{mark_of}
use Rattle.worker_seats.specs.Workers.{WorkerState, IsWorker, with_core}
use Rattle.worker_seats.specs.Readies.{StartAllRefused}
use Rattle.worker_seats.specs.Endings.{FinishMade, FinishRefused, FinishAllRefused, StandingTold, StandingRefused}
use Rattle.worker_seats.proofs.Workers.{torn_kept, quit_kept, saw_kept, passed_kept}

-- a seat that sees the scheduler's list has a pass that is over as before
pub over_seen : (s new : SeatState) (log : Log SchedEntry) (slot : ℕ) → new ≡ sees_sched s log → IsOver s slot →
    IsOver new slot
over_seen s new log slot is over =
    let seen : IsOver (sees_sched s log) slot = record {
      pass = over.pass;
      there = over.there;
      end = over.end;
      over = over.over;
      undone = over.undone;
    } in
    subst (λ (t : SeatState). IsOver t slot) (sym is) seen

module _ (names : Names) (cell next : CellState) (s : WorkerState) (new : SeatState) (slot : ℕ) where
  -- after a finish the seat keeps what it has to
  pub finished_kept : (verdict : FinishVerdict) → IsWorker names s → Finished cell next s.core new slot verdict →
      IsWorker names (with_core s new)
  finished_kept verdict w f =
      passed_kept names s w s.core.places (s.core.amount + 1) slot f.pass f.done new f.there
      (ap mark_of f.finished.after_is) f.after_is

  -- and after a refused one
  pub refused_kept : (r : E.EngineRefusal) → IsWorker names s → FinishRefusedBy cell next s.core new slot r →
      IsWorker names (with_core s new)
  refused_kept (X.GivenUp by) w f = quit_kept names s w by new f.1
  refused_kept X.Memory w f = torn_kept names s w new f.1
  refused_kept (X.Worn stamp) w f =
      passed_kept names s w s.core.places s.core.amount slot f.1.pass (pass_sees f.1.pass cell.journal.log) new
      f.1.there refl f.1.after_is

  -- the number of the seat is as before
  pub finished_number : (verdict : FinishVerdict) → Finished cell next s.core new slot verdict →
      new.number ≡ s.core.number
  finished_number verdict f = ap (λ (t : SeatState). t.number) f.after_is

  pub refused_number : (r : E.EngineRefusal) → FinishRefusedBy cell next s.core new slot r →
      new.number ≡ s.core.number
  refused_number (X.GivenUp by) f = ap (λ (t : SeatState). t.number) f.1
  refused_number X.Memory f = f.1.number
  refused_number (X.Worn stamp) f = ap (λ (t : SeatState). t.number) f.1.after_is

  -- after a finish, made or refused
  pub ending_kept : (made : Result FinishVerdict E.EngineRefusal) → IsWorker names s →
      IfOk made (Finished cell next s.core new slot) →
      MatchResult made (λ _. ℕ) (FinishRefusedBy cell next s.core new slot) → IsWorker names (with_core s new)
  ending_kept (Ok verdict) w done refused = finished_kept verdict w done
  ending_kept (Err r) w done refused = refused_kept r w refused

module _ (cell next : CellState) (old mid new : WorkerState) (slot : ℕ) (answer : Standing)
    (told : StandingTold cell old mid answer) where
  -- the seat with another core, as it was before the look
  rest : new ≡ with_core mid new.core → new ≡ with_core old new.core
  rest is = is ∙ ap (λ (s : WorkerState). with_core s new.core) told.new_is

  -- a finish after a look
  pub finish_made : (verdict : FinishVerdict) → Finished cell next mid.core new.core slot verdict →
      new ≡ with_core mid new.core → FinishMade cell next old new slot verdict
  finish_made verdict f is = record {
    before = told.stands.before;
    finished = subst (λ (s : SeatState). Finished cell next s new.core slot verdict) told.stands.new_is f;
    new_is = rest is;
  }

  -- a finish that was refused after a look
  pub finish_refused : (r : E.EngineRefusal) → FinishRefusedBy cell next mid.core new.core slot r →
      new ≡ with_core mid new.core → FinishRefused cell next old new slot r
  finish_refused (X.GivenUp by) f is = absurd (false_true (sym told.stands.whole ∙ f.2))
    where
      false_true : ◌≡◌ false true → ⊥
      false_true e = cc e
  finish_refused X.Memory f is = (
    record {
      torn = f.1.torn;
      seen = f.1.seen;
      number = f.1.number ∙ ap (λ (s : SeatState). s.number) told.stands.new_is;
    },
    rest is,
  )
  finish_refused (X.Worn stamp) f is = record {
    before = told.stands.before;
    worn = subst (λ (s : SeatState). FinishWorn cell next s new.core slot stamp)
        told.stands.new_is f.1;
    new_is = rest is;
  }

  -- a finish after a look, made or refused
  pub ending_made : (made : Result FinishVerdict E.EngineRefusal) → new ≡ with_core mid new.core →
      IfOk made (Finished cell next mid.core new.core slot) → IfOk made (FinishMade cell next old new slot)
  ending_made (Ok verdict) is f = finish_made verdict f is
  ending_made (Err r) is f = f

  pub ending_refused : (made : Result FinishVerdict E.EngineRefusal) → new ≡ with_core mid new.core →
      MatchResult made (λ _. ℕ) (FinishRefusedBy cell next mid.core new.core slot) →
      MatchResult made (λ _. ℕ) (FinishRefused cell next old new slot)
  ending_refused (Ok verdict) is f = f
  ending_refused (Err r) is f = finish_refused r f is

-- where the look was refused
pub look_refused : (cell next : CellState) (old new : WorkerState) (slot : ℕ) (r : E.EngineRefusal) →
    next ≡ cell → StandingRefused cell old new r → FinishRefused cell next old new slot r
look_refused cell next old new slot (X.GivenUp by) same refused = (same, refused.0, refused.1)
look_refused cell next old new slot X.Memory same refused = absurd refused
look_refused cell next old new slot (X.Worn stamp) same refused = absurd refused

-- why a look was refused at the desk
pub standing_refused : (cell : CellState) (s : WorkerState) (new : SeatState) (r : E.EngineRefusal) →
    StandingRefusedBy cell s.core new r → StandingRefused cell s (with_core s new) r
standing_refused cell s new (X.GivenUp by) refused = (ap (with_core s) refused.0, refused.1)
standing_refused cell s new X.Memory refused = absurd refused
standing_refused cell s new (X.Worn stamp) refused = absurd refused

-- after a look that was refused the seat keeps what it has to
pub unseen_kept : (names : Names) (cell : CellState) (s : WorkerState) (new : SeatState) (r : E.EngineRefusal) →
    IsWorker names s → StandingRefusedBy cell s.core new r → IsWorker names (with_core s new)
unseen_kept names cell s new (X.GivenUp by) w refused = quit_kept names s w by new refused.0
unseen_kept names cell s new X.Memory w refused = absurd refused
unseen_kept names cell s new (X.Worn stamp) w refused = absurd refused

-- after a look, told or refused, the seat keeps what it has to
pub told_kept : (names : Names) (cell : CellState) (s : WorkerState) (new : SeatState)
    (told : Result Standing E.EngineRefusal) → IsWorker names s → IfOk told (Stands cell s.core new) →
    MatchResult told (λ _. ℕ) (StandingRefusedBy cell s.core new) → IsWorker names (with_core s new)
told_kept names cell s new (Ok answer) w stands refused =
    saw_kept names s w cell.journal.log new stands.before stands.new_is
told_kept names cell s new (Err r) w stands refused = unseen_kept names cell s new r w refused

-- a finish that was refused, as one that was to start all passes
pub one_refused : (cell next : CellState) (old new : WorkerState) (slot : ℕ) (r : E.EngineRefusal) →
    FinishRefused cell next old new slot r → FinishAllRefused cell next old new slot r
one_refused cell next old new slot (X.GivenUp by) f = f
one_refused cell next old new slot X.Memory f = f.0
one_refused cell next old new slot (X.Worn stamp) f = inl f

-- a finish after which a start was refused
pub start_refused : (cell between next : CellState) (old seat new : WorkerState) (slot : ℕ)
    (verdict : FinishVerdict) (r : E.EngineRefusal) → FinishMade cell between old seat slot verdict →
    StartAllRefused between next seat new r → FinishAllRefused cell next old new slot r
start_refused cell between next old seat new slot verdict (X.GivenUp by) f refused = absurd refused
start_refused cell between next old seat new slot verdict X.Memory f refused = record {
  torn = refused.1.torn;
  seen = refused.1.seen;
  number = refused.1.number ∙ ap (λ (s : SeatState). s.number) f.finished.after_is;
}
start_refused cell between next old seat new slot verdict (X.Worn stamp) f refused =
    inr (record { verdict = verdict; between = between; seat = seat; finish = f; starts = refused })
