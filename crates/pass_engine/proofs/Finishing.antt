-- A finish at an engine that nobody has given up.
use Rattle.std.proofs.Common.{ℕ, ◌+◌, ap, refl}
use Rattle.std.specs.Prelude.{Result, Ok, Err, IfOk, MatchResult}
use Rattle.compat_scheduler.specs.declared.ticket.FinishVerdict.{FinishVerdict}
use Rattle.round_ledger.specs.Cells as S
use Rattle.pass_seats.specs.declared.refusal.EngineRefusal as E
use Rattle.pass_seats.specs.declared.refusal.EngineRefusal.TheVariants as X
use Rattle.pass_seats.specs.Seats.{SeatState, start_of}
use Rattle.pass_seats.specs.Finishes.{Finished, FinishRefusedBy, pass_sees}
use Rattle.pass_engine.specs.Engines.{IsWorker}
use Rattle.pass_engine.proofs.Workers.{torn_worker, quit_worker, passed_worker}

-- what the finish at the scheduler's desk promises
module _ (cell next : S.CellState) (seat after : SeatState) (slot : ℕ) where
  abbrev pub HasFinished : Result FinishVerdict E.EngineRefusal → Type 0
  HasFinished made = IfOk made (Finished cell next seat after slot)

  abbrev pub IsRefused : Result FinishVerdict E.EngineRefusal → Type 0
  IsRefused made = MatchResult made (λ _. ℕ) (FinishRefusedBy cell next seat after slot)

  -- the seat was given just the passes that it has started
  pub finish_worker : (made : Result FinishVerdict E.EngineRefusal) → HasFinished made → IsRefused made →
      IsWorker seat → IsWorker after
  finish_worker (Ok verdict) finished refused worker =
      passed_worker seat.places (seat.amount + 1) slot finished.pass finished.done seat after finished.there
      (ap start_of finished.finished.after_is) finished.after_is worker
  finish_worker (Err X.Memory) finished refused worker = torn_worker seat after refused.1
  finish_worker (Err (X.GivenUp by)) finished refused worker = quit_worker by seat after refused.1 worker
  finish_worker (Err (X.Worn stamp)) finished refused worker =
      let worn = refused.1 in
      passed_worker seat.places seat.amount slot worn.pass (pass_sees worn.pass cell.journal.log) seat after
      worn.there refl worn.after_is worker
