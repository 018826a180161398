-- Records in the making: what holds of a record while passes are open, and how one event changes it.
use Rattle.std.specs.Prelude.{◌≡◌, ℕ, ◌<◌, ◌^◌, List, [], ◌∷◌, ◌++◌, map, length, slice_get, slice_set}
use Rattle.std.specs.Prelude.{Some, true, false}
use Rattle.std.specs.Prelude.{Contains, All, replicate}
use Rattle.seuss_base.specs.declared.outcome.PassEnd.{PassEnd}
use Rattle.seuss_base.specs.declared.outcome.PassEnd.TheVariants.{Accepted}
use Rattle.seuss_program.specs.declared.program.ActionInfo.{ActionInfo}
use Rattle.seuss_program.specs.declared.state.Value.{Value}
use Rattle.seuss_program.specs.declared.state.State.{State}
use Rattle.seuss_program.specs.Programs.{vars_of}
use Rattle.seuss_program.specs.Keeping.{HasForm}
use Rattle.method_code.specs.declared.activation.Activation.{Activation}
use Rattle.method_code.specs.Codes.{compiled}
use Rattle.method_code.specs.Chains.{begun, Turned, Next, Over, turned, with_vars}
use Rattle.method_code.specs.Kinds.{calls_early}
use Rattle.method_code.specs.Records.{Recorded, ChainsTo, LeadsTo}
use Rattle.compat_scheduler.specs.declared.ticket.Ticket.{Ticket}
use Rattle.compat_scheduler.specs.declared.ticket.FinishVerdict.{FinishVerdict}
use Rattle.compat_scheduler.specs.declared.ticket.FinishVerdict.TheVariants.{Kept}
use Rattle.compat_scheduler.specs.Machines.{Machine}
use Rattle.compat_scheduler.specs.Runs.{IsRun, started}
use Rattle.compat_scheduler.specs.Runs.Event.{Finish}
use Rattle.step_journal.specs.Histories.{IsLegal}
use Rattle.loose_records.specs.declared.record.BoxEntry.{BoxEntry}
use Rattle.loose_records.specs.declared.record.SchedEntry.TheVariants as S
use Rattle.loose_records.specs.declared.record.Claim.{Claim}
use Rattle.loose_records.specs.declared.record.PassRecord.{PassRecord}
use Rattle.loose_records.specs.declared.record.Record.{Record}
use Rattle.loose_records.specs.Entries.{gives, events_of, AreRising, AreStamps, journal, steps_of}
use Rattle.loose_records.specs.Entries.{claim_stamps, box_stamps, sched_stamps}
use Rattle.loose_records.specs.Settings.{RunSetting}
use Rattle.loose_records.specs.LooseRecords.{NamesEntry, IsClaimed, IsCommitStep, IsPass}

-- how far a pass is: it goes on from here with this budget; its steps are over; it has finished
pub data Status : Type 0 where
  Going : (at : Activation) (left : ℕ) → Status
  Through : (end : PassEnd) → Status
  Finished : Status

-- what the steps of an open pass come to so far
abbrev pub ComesTo : RunSetting → ActionInfo → List Recorded → Status → Type 0
ComesTo s a es (Going at left) = LeadsTo s.program (begun s.program a) s.budget es at left
ComesTo s a es (Through end) = ChainsTo s.program (begun s.program a) s.budget es end
ComesTo s a es Finished = ⊥

-- What a record says of a pass that hasn't finished. Its commit, end and verdict aren't told yet.
pub record IsOpenPass (s : RunSetting) (r : Record) (pass : PassRecord) (status : Status) : Type 0 where
  pub action : ActionInfo
  pub there : slice_get s.program.actions pass.ticket.action ≡ Some action
  pub start : ℕ
  pub started : Contains r.sched (S.Start pass.ticket start)
  pub rising : AreRising (start ∷ claim_stamps pass)
  pub claims : (k : ℕ) (c : Claim) → slice_get pass.claims k ≡ Some c → NamesEntry r pass k c
  pub comes : ComesTo s action (steps_of r pass) status
  pub unfinished : (end : PassEnd) (verdict : FinishVerdict) →
      ¬ Contains (events_of r) (Finish pass.ticket end verdict)

-- what a record says of a pass that is so far
abbrev pub IsPassAt : RunSetting → Record → PassRecord → Status → Type 0
IsPassAt s r pass (Going at left) = IsOpenPass s r pass (Going at left)
IsPassAt s r pass (Through end) = IsOpenPass s r pass (Through end)
IsPassAt s r pass Finished = IsPass s r pass

-- A record in the making, with how far each pass is and where the scheduler's machine is. Its `last` is the
-- state now, and its passes are all that were started.
pub record IsGrowing (s : RunSetting) (r : Record) (statuses : List Status) (m : Machine) : Type 0 where
  pub first : HasForm s.program r.first
  pub last : length r.last.boxes ≡ length r.first.boxes
  pub many : length r.boxes ≡ length r.first.boxes
  pub legal : (box : ℕ) → box < length r.boxes →
      IsLegal (gives (compiled s.program) box) (vars_of r.first box) (journal r box) (vars_of r.last box)
  pub stamps : (box : ℕ) → box < length r.boxes → AreStamps (box_stamps r box)
  pub run : IsRun s.scheduler (events_of r) m
  pub times : AreStamps (sched_stamps r)
  pub tickets : map (λ (p : PassRecord). p.ticket) r.passes ≡ started (events_of r)
  pub each : length statuses ≡ length r.passes
  pub passes : (i : ℕ) (p : PassRecord) (status : Status) → slice_get r.passes i ≡ Some p →
      slice_get statuses i ≡ Some status → IsPassAt s r p status
  pub claimed : (box place : ℕ) (e : BoxEntry) → slice_get (journal r box) place ≡ Some e →
      IsClaimed r box place e

-- the record at the beginning
abbrev pub empty_record : State → Record
empty_record state = record {
  first = state;
  last = state;
  boxes = replicate (length state.boxes) [];
  sched = [];
  passes = [];
}

-- a stamp above all of these, and below 2^63
pub record IsAbove (stamps : List ℕ) (stamp : ℕ) : Type 0 where
  pub above : All (λ (a : ℕ). a < stamp) stamps
  pub small : stamp < 2 ^ 63

-- a pass as it starts, before its commit, end and verdict are told
abbrev pub pass_begun : Ticket → PassRecord
pass_begun t = record { ticket = t; claims = []; commit = 0; end = Accepted; verdict = Kept }

-- A start: the scheduler's journal has one entry more, and one pass more goes on.
pub record AddsStart (s : RunSetting) (old : Record) (statuses : List Status) (t : Ticket) (stamp : ℕ)
    (new : Record) (after : List Status) : Type 0 where
  pub action : ActionInfo
  pub there : slice_get s.program.actions t.action ≡ Some action
  pub time : IsAbove (sched_stamps old) stamp
  pub is : new ≡ record old {
    sched = old.sched ++ S.Start t stamp ∷ [];
    passes = old.passes ++ pass_begun t ∷ [];
  }
  pub status : after ≡ statuses ++ Going (begun s.program action) s.budget ∷ []

-- how far a pass is after a step
abbrev pub status_of : Turned → ℕ → Status
status_of (Next a) left = Going a left
status_of (Over end) left = Through end

-- a pass with one claim more
abbrev pub with_claim : PassRecord → Claim → PassRecord
with_claim p c = record p { claims = p.claims ++ c ∷ [] }

-- the claim of an entry that goes to the end of the journal of a box
abbrev pub claim_of : Record → ℕ → BoxEntry → Claim
claim_of r box e = record { box_number = box; place = length (journal r box); stamp = e.stamp }

-- A step of pass i, which is at this activation with this budget left: the journal of its box has one entry
-- more, which the pass claims, and the variables of the box are those that the step leaves.
pub record AddsStep (s : RunSetting) (old : Record) (statuses : List Status) (i : ℕ) (e : BoxEntry)
    (new : Record) (after : List Status) : Type 0 where
  pub pass : PassRecord
  pub there : slice_get old.passes i ≡ Some pass
  pub at : Activation
  pub left : ℕ
  pub going : slice_get statuses i ≡ Some (Going at left)
  pub own : e.pass ≡ pass.ticket.pass
  pub number : e.number ≡ length pass.claims
  pub before : e.before ≡ at.frame
  pub budget : e.budget_before ≡ left
  pub box : at.box_number < length old.boxes
  pub vars : List Value
  pub gives : gives (compiled s.program) at.box_number e (vars_of old.last at.box_number) vars
  pub time : IsAbove (box_stamps old at.box_number) e.stamp
  pub later : (start : ℕ) → Contains old.sched (S.Start pass.ticket start) → start < e.stamp
  pub higher : All (λ (a : ℕ). a < e.stamp) (claim_stamps pass)
  pub claim : Claim
  pub names : claim ≡ claim_of old at.box_number e
  pub is : new ≡ record old {
    last = with_vars old.last at.box_number vars;
    boxes = slice_set old.boxes at.box_number (journal old at.box_number ++ e ∷ []);
    passes = slice_set old.passes i (with_claim pass claim);
  }
  pub status : after ≡ slice_set statuses i
      (status_of (turned s.program (record at { frame = e.after }) e.end) e.budget_after)

-- A finish of pass i, whose steps are over: the scheduler's journal has one entry more, and the pass tells
-- its commit step, end and verdict.
pub record AddsFinish (s : RunSetting) (old : Record) (statuses : List Status) (i : ℕ) (t : Ticket)
    (end : PassEnd) (verdict : FinishVerdict) (stamp : ℕ) (new : Record) (after : List Status) : Type 0
  where
    pub pass : PassRecord
    pub there : slice_get old.passes i ≡ Some pass
    pub ticket : pass.ticket ≡ t
    pub through : slice_get statuses i ≡ Some (Through end)
    pub time : IsAbove (sched_stamps old) stamp
    pub later : (start : ℕ) → Contains old.sched (S.Start pass.ticket start) → start < stamp
    pub higher : All (λ (a : ℕ). a < stamp) (claim_stamps pass)
    pub commit : ℕ
    pub committed : IsCommitStep s (steps_of old pass) commit
    pub is : new ≡ record old {
      sched = old.sched ++ S.Finish t end verdict stamp ∷ [];
      passes = slice_set old.passes i (record pass { commit = commit; end = end; verdict = verdict });
    }
    pub status : after ≡ slice_set statuses i Finished

-- The commit step of a pass whose steps are over: the first one that doesn't end by the call of a
-- preprocedure.
pub record CommitsAt (s : RunSetting) (r : Record) (pass : PassRecord) : Type 0 where
  pub commit : ℕ
  pub committed : IsCommitStep s (steps_of r pass) commit
  pub earlier : (k : ℕ) (e : Recorded) → k < commit → slice_get (steps_of r pass) k ≡ Some e →
      calls_early e.end ≡ true
  pub here : (e : Recorded) → slice_get (steps_of r pass) commit ≡ Some e → calls_early e.end ≡ false
  pub only : (k : ℕ) → IsCommitStep s (steps_of r pass) k → k ≡ commit
