-- What a turn needs of a run, and what it does to it.
use Rattle.std.specs.Prelude.{◌≡◌, ℕ, ◌+◌, ◌<◌, ◌^◌, max, List, [], ◌∷◌, ◌++◌, length, slice_get, slice_set}
use Rattle.std.specs.Prelude.{Option, None, Some}
use Rattle.seuss_base.specs.declared.outcome.PassEnd.{PassEnd}
use Rattle.seuss_program.specs.declared.program.Program.{Program}
use Rattle.seuss_program.specs.declared.state.Value.{Value}
use Rattle.seuss_program.specs.Programs.{vars_of}
use Rattle.method_code.specs.declared.activation.Activation.{Activation}
use Rattle.method_code.specs.Codes.{compiled}
use Rattle.method_code.specs.Chains.{beginning, turned, with_vars}
use Rattle.compat_scheduler.specs.declared.ticket.Ticket.{Ticket}
use Rattle.compat_scheduler.specs.declared.ticket.FinishVerdict.{FinishVerdict}
use Rattle.compat_scheduler.specs.Settings.{Setting}
use Rattle.compat_scheduler.specs.Machines.{IsRunning}
use Rattle.compat_scheduler.specs.Starts.{Starts, NoneStarts}
use Rattle.compat_scheduler.specs.Finishes.{Finishes}
use Rattle.loose_records.specs.declared.record.BoxEntry.{BoxEntry}
use Rattle.loose_records.specs.declared.record.SchedEntry.TheVariants as S
use Rattle.loose_records.specs.declared.record.PassRecord.{PassRecord}
use Rattle.loose_records.specs.Entries.{gives, journal, box_stamps, sched_stamps, AreRising}
use Rattle.loose_records.specs.Growing.{pass_begun, with_claim, claim_of, status_of}
use Rattle.loose_records.specs.Turns.{clock_of}
use Rattle.turn_runs.specs.declared.hand.Hand.{Hand}
use Rattle.turn_runs.specs.declared.hand.Progress.{Progress}
use Rattle.turn_runs.specs.declared.hand.Progress.TheVariants as P
use Rattle.turn_runs.specs.declared.run.Run.{Run}
use Rattle.turn_runs.specs.Hands.{status_now, IsFirstOther}

-- a pass may begin: a stamp is left
pub record MayBegin (run : Run) : Type 0 where
  pub rising : AreRising (sched_stamps run.made)
  pub left : 1 + clock_of (sched_stamps run.made) < 2 ^ 63

-- a pass may make a step: its box is there, and a number and a stamp are left
pub record MayStep (run : Run) (ticket : Ticket) (clock : ℕ) (at : Activation) : Type 0 where
  pub pass : PassRecord
  pub there : slice_get run.made.passes ticket.pass ≡ Some pass
  pub few : length pass.claims < 2 ^ 32
  pub box : at.box_number < length run.made.boxes
  pub vars : at.box_number < length run.made.last.boxes
  pub rising : AreRising (box_stamps run.made at.box_number)
  pub left : 1 + max clock (clock_of (box_stamps run.made at.box_number)) < 2 ^ 63

-- a pass may finish: it runs, and a stamp is left
pub record MayFinish (run : Run) (ticket : Ticket) (clock : ℕ) : Type 0 where
  pub pass : PassRecord
  pub there : slice_get run.made.passes ticket.pass ≡ Some pass
  pub few : length pass.claims < 2 ^ 32
  pub running : IsRunning run.core.setting run.core.machine ticket
  pub rising : AreRising (sched_stamps run.made)
  pub left : 1 + max clock (clock_of (sched_stamps run.made)) < 2 ^ 63

-- a pass may go on from where it is
abbrev pub MayGoOn : Run → Ticket → ℕ → Progress → Type 0
MayGoOn run ticket clock (P.Going at left) = MayStep run ticket clock at
MayGoOn run ticket clock (P.Through end) = MayFinish run ticket clock

-- a worker may take its turn, by what it has in hand
abbrev pub MayTurn : Run → Option Hand → Type 0
MayTurn run None = MayBegin run
MayTurn run (Some hand) = MayGoOn run hand.ticket hand.clock hand.progress

-- a pass begins, and is then in hand
pub record BeginsPass (p : Program) (s : Setting) (budget : ℕ) (old new : Run) (hand : Hand) : Type 0 where
  pub starts : Starts s old.core.machine hand.ticket new.core.machine
  pub stamp : hand.clock ≡ 1 + clock_of (sched_stamps old.made)
  pub progress : hand.progress ≡ P.Going (beginning p hand.ticket.action) budget
  pub made : new.made ≡ record old.made {
    sched = old.made.sched ++ S.Start hand.ticket hand.clock ∷ [];
    passes = old.made.passes ++ pass_begun hand.ticket ∷ [];
  }

-- nothing may start, and nothing changes
pub record StaysIdle (s : Setting) (old new : Run) : Type 0 where
  pub none : NoneStarts s old.core.machine
  pub machine : new.core.machine ≡ old.core.machine
  pub made : new.made ≡ old.made

-- a worker without a pass asks for a start
abbrev pub AsksForStart : Program → Setting → ℕ → Run → Run → Option Hand → Type 0
AsksForStart p s budget old new None = StaysIdle s old new
AsksForStart p s budget old new (Some hand) = BeginsPass p s budget old new hand

-- a pass makes a step from where it is, and is then in hand
pub record MakesStep (p : Program) (old new : Run) (ticket : Ticket) (clock : ℕ) (at : Activation)
    (left : ℕ) (hand : Hand) : Type 0 where
  pub machine : new.core.machine ≡ old.core.machine
  pub pass : PassRecord
  pub there : slice_get old.made.passes ticket.pass ≡ Some pass
  pub entry : BoxEntry
  pub own : entry.pass ≡ ticket.pass
  pub number : entry.number ≡ length pass.claims
  pub before : entry.before ≡ at.frame
  pub budget : entry.budget_before ≡ left
  pub vars : List Value
  pub gives : gives (compiled p) at.box_number entry (vars_of old.made.last at.box_number) vars
  pub stamp : entry.stamp ≡ 1 + max clock (clock_of (box_stamps old.made at.box_number))
  pub made : new.made ≡ record old.made {
    last = with_vars old.made.last at.box_number vars;
    boxes = slice_set old.made.boxes at.box_number (journal old.made at.box_number ++ entry ∷ []);
    passes = slice_set old.made.passes ticket.pass
        (with_claim pass (claim_of old.made at.box_number entry));
  }
  pub ticket_is : hand.ticket ≡ ticket
  pub clock_is : hand.clock ≡ entry.stamp
  pub progress : status_now hand.progress
      ≡ status_of (turned p (record at { frame = entry.after }) entry.end) entry.budget_after

-- a pass whose steps are over finishes
pub record EndsPass (s : Setting) (old new : Run) (ticket : Ticket) (clock : ℕ) (end : PassEnd) : Type 0
  where
    pub pass : PassRecord
    pub there : slice_get old.made.passes ticket.pass ≡ Some pass
    pub verdict : FinishVerdict
    pub finishes : Finishes s old.core.machine ticket end verdict new.core.machine
    pub commit : ℕ
    pub first : IsFirstOther old.made pass.claims commit
    pub stamp : ℕ
    pub stamp_is : stamp ≡ 1 + max clock (clock_of (sched_stamps old.made))
    pub made : new.made ≡ record old.made {
      sched = old.made.sched ++ S.Finish ticket end verdict stamp ∷ [];
      passes = slice_set old.made.passes ticket.pass
          (record pass { commit = commit; end = end; verdict = verdict });
    }

-- a pass in hand goes on from where it is, and this is then in hand
abbrev pub GoesOn : Program → Setting → Run → Ticket → ℕ → Progress → Run → Option Hand → Type 0
GoesOn p s old ticket clock (P.Going at left) new None = ⊥
GoesOn p s old ticket clock (P.Going at left) new (Some hand) = MakesStep p old new ticket clock at left hand
GoesOn p s old ticket clock (P.Through end) new None = EndsPass s old new ticket clock end
GoesOn p s old ticket clock (P.Through end) new (Some hand) = ⊥

-- a turn of a worker, by what it has in hand and what it has then
abbrev pub TakesTurn : Program → Setting → ℕ → Run → Option Hand → Run → Option Hand → Type 0
TakesTurn p s budget old None new after = AsksForStart p s budget old new after
TakesTurn p s budget old (Some hand) new after =
    GoesOn p s old hand.ticket hand.clock hand.progress new after
