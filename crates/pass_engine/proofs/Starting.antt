-- A start at an engine that nobody has given up.
use Rattle.std.proofs.Common.{◌≡◌, ℕ, inl, inr, ap, ◌∙◌, false, Option, Some, None}
use Rattle.std.specs.Prelude.{Result, Ok, Err, IfOk, IfSome, MatchOption, MatchResult}
use Rattle.round_ledger.specs.Cells as S
use Rattle.pass_seats.specs.declared.pass.Pass.{Pass}
use Rattle.pass_seats.specs.declared.refusal.EngineRefusal as E
use Rattle.pass_seats.specs.declared.refusal.EngineRefusal.TheVariants as X
use Rattle.pass_seats.specs.Names.{Names}
use Rattle.pass_seats.specs.Seats.{SeatState}
use Rattle.pass_seats.specs.Items.{ItemState}
use Rattle.pass_seats.specs.Steps.{Tears}
use Rattle.pass_seats.specs.Slots.{HasStep}
use Rattle.pass_seats.specs.Starts.{Issued, IssueRefusedBy, NoneIssued, Taken}
use Rattle.pass_engine.specs.Engines.{EngineState, IsWorker}
use Rattle.pass_engine.specs.Calls.{StartMade, Started, StartRefusedBy}
use Rattle.pass_engine.proofs.Workers.{torn_worker, started_worker, saw_worker, quit_worker}

-- what the start at the scheduler's desk and the seat promises
module _ (names : Names) (cell next : S.CellState) (seat after : SeatState) where
  abbrev pub HasStarted : Result (Option Pass) E.EngineRefusal → Type 0
  HasStarted made = IfOk made (λ r. IfSome r (StartMade names cell next seat after))

  abbrev pub HasNone : Result (Option Pass) E.EngineRefusal → Type 0
  HasNone made = IfOk made (λ r. MatchOption r (NoneIssued cell next seat after) (λ _. ℕ))

  abbrev pub IsRefused : Result (Option Pass) E.EngineRefusal → Type 0
  IsRefused made = MatchResult made (λ _. ℕ) (StartRefusedBy cell next seat after)

  -- the seat was given just the passes that it has started
  pub start_worker : (made : Result (Option Pass) E.EngineRefusal) → HasStarted made → HasNone made →
      IsRefused made → seat.torn ≡ false → IsWorker seat → IsWorker after
  start_worker (Ok (Some pass)) some none refused whole worker =
      started_worker names cell next seat after pass whole some worker
  start_worker (Ok None) some none refused whole worker =
      saw_worker cell.journal.log seat after none.before none.new_is worker
  start_worker (Err X.Memory) some none refused whole worker = torn_worker seat after refused.1
  start_worker (Err (X.GivenUp by)) some none refused whole worker =
      quit_worker by seat after refused.1 worker
  start_worker (Err (X.Worn stamp)) some none refused whole worker =
      saw_worker cell.journal.log seat after refused.3.before refused.3.new_is worker

-- a start that the scheduler's desk refused
pub issue_refused : (cell next : S.CellState) (seat after : SeatState) (r : E.EngineRefusal) →
    IssueRefusedBy cell next seat after r → StartRefusedBy cell next seat after r
issue_refused cell next seat after X.Memory refused = (inl refused.0, refused.1)
issue_refused cell next seat after (X.GivenUp by) refused = refused
issue_refused cell next seat after (X.Worn stamp) refused = refused

-- a start whose pass the seat could not take
pub start_lost : (cell next : S.CellState) (seat between after : SeatState) (item : ItemState) →
    Issued cell next seat between item → Tears between after → StartRefusedBy cell next seat after X.Memory
start_lost cell next seat between after item issued tears = (
  inr (record { item = item; between = between; issued = issued }),
  record {
    torn = tears.torn;
    seen = tears.seen;
    number = tears.number ∙ ap (λ (s : SeatState). s.number) issued.new_is;
  },
)

-- a pass that a seat has taken has a next step
abbrev pub TakenGoesOn : Type 0
TakenGoesOn = (names : Names) (old new : SeatState) (item : ItemState) (pass : Pass) →
    Taken names old new item pass → HasStep new pass.slot

-- so a pass that was started has one
pub started_open : TakenGoesOn → (names : Names) (old new : EngineState) (seat after : SeatState)
    (made : Result (Option Pass) E.EngineRefusal) →
    IfOk made (λ r. IfSome r (Started names old new seat after)) →
    IfOk made (λ r. IfSome r (λ (pass : Pass). HasStep after pass.slot))
started_open law names old new seat after (Ok (Some pass)) some =
    law names some.made.between after some.made.item pass some.made.taken
started_open law names old new seat after (Ok None) some = some
started_open law names old new seat after (Err refusal) some = some
