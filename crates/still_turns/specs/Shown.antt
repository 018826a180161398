-- How the engine for one thread, with its seats and what its workers have in hand, shows a run by turns.
use Rattle.std.specs.Prelude.{◌≡◌, ℕ, ◌<◌, true, false, List, map, length, Option, None, Some, slice_get}
use Rattle.std.specs.Prelude.{slice_set}
use Rattle.seuss_base.specs.declared.outcome.PassEnd.{PassEnd}
use Rattle.method_code.specs.Kinds.{calls_early}
use Rattle.method_code.specs.Records.{Recorded}
use Rattle.compat_scheduler.specs.Settings.{Setting}
use Rattle.compat_scheduler.specs.Machines.{beginning}
use Rattle.step_journal.specs.Histories.{entries_of}
use Rattle.loose_records.specs.declared.record.BoxEntry.{BoxEntry}
use Rattle.loose_records.specs.declared.record.Claim.{Claim}
use Rattle.loose_records.specs.declared.record.PassRecord.{PassRecord}
use Rattle.loose_records.specs.declared.record.Record.{Record}
use Rattle.loose_records.specs.Entries.{claimed}
use Rattle.loose_records.specs.Growing.{empty_record}
use Rattle.box_lock.specs.Cells as B
use Rattle.round_ledger.specs.Cells as S
use Rattle.pass_seats.specs.declared.pass.Done.{Done}
use Rattle.pass_seats.specs.declared.pass.SeatPass.{SeatPass}
use Rattle.pass_seats.specs.Names.{Names}
use Rattle.pass_seats.specs.Seats.{SeatState}
use Rattle.pass_gather.specs.Given.{given_of}
use Rattle.pass_gather.specs.Gathered.{state_in}
use Rattle.pass_engine.specs.Engines.{EngineState}
use Rattle.turn_runs.specs.declared.hand.Hand.{Hand}
use Rattle.turn_runs.specs.declared.hand.Progress.TheVariants as P
use Rattle.turn_runs.specs.declared.run.Run.{Run}
use Rattle.turn_runs.specs.Hands.{IsFirstOther}
use Rattle.turn_runs.specs.RunTurns.{TakesTurn}
use Rattle.still_turns.specs.declared.hand.InHand.{InHand}
use Rattle.still_turns.specs.declared.hand.InHand.TheVariants as H

-- the entries of a cell's journal
abbrev pub entries_in : B.CellState → List BoxEntry
entries_in c = entries_of c.journal.log

-- the journals of these cells are those of the record, and their variables are its state now
pub record ShowsBoxes (cells : List B.CellState) (r : Record) : Type 0 where
  pub boxes : r.boxes ≡ map entries_in cells
  pub last : r.last ≡ state_in cells

-- the scheduler's cell and the run have this setting, and the cell the machine and the journal of the run
pub record ShowsSched (s : Setting) (cell : S.CellState) (run : Run) : Type 0 where
  pub setting : cell.setting ≡ s
  pub core : run.core.setting ≡ s
  pub machine : run.core.machine ≡ cell.machine
  pub sched : run.made.sched ≡ entries_of cell.journal.log

-- each of these claims names an entry of the record
pub record AreNamed (r : Record) (claims : List Claim) : Type 0 where
  pub each : (k : ℕ) (c : Claim) → slice_get claims k ≡ Some c → (e : Recorded) × (claimed r c ≡ Some e)

-- the step of each of these claims ends by the call of a preprocedure
pub record AreEarly (r : Record) (claims : List Claim) : Type 0 where
  pub each : (k : ℕ) (c : Claim) (e : Recorded) → slice_get claims k ≡ Some c → claimed r c ≡ Some e →
      calls_early e.end ≡ true

-- the first of these claims whose step doesn't end by the call of a preprocedure; none: all end so
abbrev pub IsCommitSoFar : Record → List Claim → Option ℕ → Type 0
IsCommitSoFar r claims None = AreEarly r claims
IsCommitSoFar r claims (Some k) = (k < length claims) × IsFirstOther r claims k

-- a record of a pass tells the end, the verdict and the commit step of a pass that has finished
pub record TellsDone (p : SeatPass) (d : Done) (r : PassRecord) : Type 0 where
  pub over : p.over ≡ Some r.end
  pub verdict : r.verdict ≡ d.verdict
  pub commit : (k : ℕ) → p.commit ≡ Some k → r.commit ≡ k

-- what a record of a pass tells, where the pass has finished
abbrev pub IsTold : Option Done → SeatPass → PassRecord → Type 0
IsTold None p r = Unit {0}
IsTold (Some d) p r = TellsDone p d r

-- The record has this pass at its number, with its claims, of which each names an entry, and with what is told once
-- it has finished.
pub record IsShown (r : Record) (p : SeatPass) : Type 0 where
  pub pass : PassRecord
  pub there : slice_get r.passes p.ticket.pass ≡ Some pass
  pub ticket : pass.ticket ≡ p.ticket
  pub claims : pass.claims ≡ p.claims
  pub named : AreNamed r p.claims
  pub commit : IsCommitSoFar r p.claims p.commit
  pub told : IsTold p.done p pass

-- this pass is in this slot of the seat with this number
pub record IsSlot (seats : List SeatState) (w slot : ℕ) (p : SeatPass) : Type 0 where
  pub seat : SeatState
  pub there : slice_get seats w ≡ Some seat
  pub here : slice_get seat.passes slot ≡ Some p

-- The passes of the seats are those of the record: each is there, no two have one number, and they are as many.
pub record ShowPasses (seats : List SeatState) (r : Record) : Type 0 where
  pub each : (w slot : ℕ) (p : SeatPass) → IsSlot seats w slot p → IsShown r p
  pub once : (v w j k : ℕ) (p q : SeatPass) → IsSlot seats v j p → IsSlot seats w k q →
      p.ticket.pass ≡ q.ticket.pass → (v ≡ w) × (j ≡ k)
  pub many : length (given_of seats) ≡ length r.passes

-- so many seats by their numbers, of which none has given up
pub record AreWorkers (many : ℕ) (seats : List SeatState) : Type 0 where
  pub all : length seats ≡ many
  pub each : (w : ℕ) (s : SeatState) → slice_get seats w ≡ Some s → (s.number ≡ w) × (s.torn ≡ false)

-- the hand has the ticket and the clock of this pass, which hasn't finished
pub record HoldsPass (hand : Hand) (p : SeatPass) : Type 0 where
  pub ticket : hand.ticket ≡ p.ticket
  pub clock : hand.clock ≡ p.clock
  pub undone : p.done ≡ None

-- the pass in this slot of the seat goes on from where the hand says
pub record GoesAt (s : SeatState) (slot : ℕ) (hand : Hand) : Type 0 where
  pub pass : SeatPass
  pub there : slice_get s.passes slot ≡ Some pass
  pub holds : HoldsPass hand pass
  pub going : pass.over ≡ None
  pub progress : hand.progress ≡ P.Going pass.control pass.budget

-- the steps of the pass in this slot of the seat are over, with the end that the hand says
pub record EndsAt (s : SeatState) (slot : ℕ) (hand : Hand) : Type 0 where
  pub pass : SeatPass
  pub there : slice_get s.passes slot ≡ Some pass
  pub holds : HoldsPass hand pass
  pub end : PassEnd
  pub over : pass.over ≡ Some end
  pub progress : hand.progress ≡ P.Through end

-- what a worker with this seat has in hand is what it has in the run
abbrev pub IsInHand : SeatState → InHand → Option Hand → Type 0
IsInHand s H.Nothing None = Unit {0}
IsInHand s H.Nothing (Some hand) = ⊥
IsInHand s (H.Going pass) None = ⊥
IsInHand s (H.Going pass) (Some hand) = GoesAt s pass.slot hand
IsInHand s (H.Through pass) None = ⊥
IsInHand s (H.Through pass) (Some hand) = EndsAt s pass.slot hand

-- what each worker has in hand is what it has in the run
pub record ShowHands (seats : List SeatState) (held : List InHand) (hands : List (Option Hand)) : Type 0 where
  pub many : length held ≡ length seats
  pub each : (w : ℕ) (s : SeatState) (h : InHand) (hand : Option Hand) → slice_get seats w ≡ Some s →
      slice_get held w ≡ Some h → slice_get hands w ≡ Some hand → IsInHand s h hand

-- The engine, its seats and what its workers have in hand show this run: its boxes, its scheduler, its passes and
-- its hands. Nobody has given the engine up.
pub record Shows (names : Names) (e : EngineState) (seats : List SeatState) (held : List InHand) (run : Run)
    (hands : List (Option Hand)) : Type 0 where
  pub first : run.made.first ≡ names.first
  pub boxes : ShowsBoxes e.boxes run.made
  pub sched : ShowsSched names.setting.scheduler e.sched run
  pub going : e.given_up ≡ None
  pub workers : AreWorkers names.seats seats
  pub passes : ShowPasses seats run.made
  pub in_hand : ShowHands seats held hands

-- After a turn of this worker the engine shows a run that takes this turn, by what the worker had in hand.
pub record ShowsTurn (names : Names) (run : Run) (hands : List (Option Hand)) (w : ℕ) (hand : Option Hand)
    (e : EngineState) (seats : List SeatState) (held : List InHand) : Type 0 where
  pub next : Run
  pub after : Option Hand
  pub takes : TakesTurn names.setting.program run.core.setting names.setting.budget run hand next after
  pub shows : Shows names e seats held next (slice_set hands w after)

-- the run at its beginning
abbrev pub run_begun : Names → Run
run_begun names = record {
  core = record { setting = names.setting.scheduler; machine = beginning names.setting.scheduler };
  made = empty_record names.first;
}
