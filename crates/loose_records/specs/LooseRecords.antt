-- When a record is one of a loose schedule: passes may overlap, with their steps in any order on the boxes.
use Rattle.std.specs.Prelude.{◌≡◌, ℕ, ◌<◌, ◌⊎◌, true, [], ◌∷◌, ◌++◌, map, length, slice_get, Some}
use Rattle.std.specs.Prelude.{Contains, option_map, List}
use Rattle.seuss_program.specs.declared.program.ActionInfo.{ActionInfo}
use Rattle.seuss_program.specs.Programs.{vars_of}
use Rattle.seuss_program.specs.Keeping.{HasForm}
use Rattle.method_code.specs.Codes.{compiled}
use Rattle.method_code.specs.Chains.{begun}
use Rattle.method_code.specs.Kinds.{Commit, kind_of}
use Rattle.method_code.specs.Records.{Recorded, ChainsTo}
use Rattle.compat_scheduler.specs.Machines.{Machine, running_count, IsAllDone}
use Rattle.compat_scheduler.specs.Runs.{IsRun, started}
use Rattle.step_journal.specs.Histories.{IsLegal}
use Rattle.loose_records.specs.declared.record.BoxEntry.{BoxEntry}
use Rattle.loose_records.specs.declared.record.SchedEntry.TheVariants as S
use Rattle.loose_records.specs.declared.record.Claim.{Claim}
use Rattle.loose_records.specs.declared.record.PassRecord.{PassRecord}
use Rattle.loose_records.specs.declared.record.Record.{Record}
use Rattle.loose_records.specs.Entries.{gives, events_of, sched_stamps, box_stamps, AreRising, AreStamps}
use Rattle.loose_records.specs.Entries.{journal, steps_of, claim_stamps}
use Rattle.loose_records.specs.Settings.{RunSetting}

-- A claim of a pass names an entry of that pass: it stands at the claim's place in the journal of its box,
-- and has the claim's stamp, and the claim's number in the pass as its own.
pub record NamesEntry (r : Record) (pass : PassRecord) (number : ℕ) (c : Claim) : Type 0 where
  pub entry : BoxEntry
  pub there : slice_get (journal r c.box_number) c.place ≡ Some entry
  pub own : entry.pass ≡ pass.ticket.pass
  pub at : entry.number ≡ number
  pub when : entry.stamp ≡ c.stamp

-- An entry is claimed by its pass, at its number there. No other claim names it, since each claim names
-- an entry of its own pass and number.
pub record IsClaimed (r : Record) (box place : ℕ) (e : BoxEntry) : Type 0 where
  pub pass : PassRecord
  pub there : slice_get r.passes e.pass ≡ Some pass
  pub claim : Claim
  pub here : slice_get pass.claims e.number ≡ Some claim
  pub on : claim.box_number ≡ box
  pub at : claim.place ≡ place

-- the step with this number is a commit step
abbrev pub IsCommitStep : RunSetting → List Recorded → ℕ → Type 0
IsCommitStep s steps number =
    option_map (λ (e : Recorded). kind_of (compiled s.program) e.before e.end) (slice_get steps number)
    ≡ Some Commit

-- What a record says of a pass: it started and finished, its steps chain from the entry of its action with
-- the whole budget to its end, one of them is the commit step, and stamps rise along it.
pub record IsPass (s : RunSetting) (r : Record) (pass : PassRecord) : Type 0 where
  pub action : ActionInfo
  pub there : slice_get s.program.actions pass.ticket.action ≡ Some action
  pub start : ℕ
  pub started : Contains r.sched (S.Start pass.ticket start)
  pub finish : ℕ
  pub finished : Contains r.sched (S.Finish pass.ticket pass.end pass.verdict finish)
  pub rising : AreRising (start ∷ claim_stamps pass ++ finish ∷ [])
  pub claims : (k : ℕ) (c : Claim) → slice_get pass.claims k ≡ Some c → NamesEntry r pass k c
  pub chain : ChainsTo s.program (begun s.program action) s.budget (steps_of r pass) pass.end
  pub commit : IsCommitStep s (steps_of r pass) pass.commit

-- nothing runs, and the machine has stopped or all rounds are done
pub record IsOver (s : RunSetting) (m : Machine) : Type 0 where
  pub quiet : running_count m ≡ 0
  pub over : (m.stopped ≡ true) ⊎ IsAllDone s.scheduler m

-- A record is loose: the journal of each box is a legal history from its first variables to its last ones;
-- the scheduler's journal is a run to its end; the stamps of each journal rise; the passes are those that
-- were started, in their order; and each entry of a box is a step of one of them.
pub record IsLoose (s : RunSetting) (r : Record) : Type 0 where
  pub first : HasForm s.program r.first
  pub last : length r.last.boxes ≡ length r.first.boxes
  pub many : length r.boxes ≡ length r.first.boxes
  pub legal : (box : ℕ) → box < length r.boxes →
      IsLegal (gives (compiled s.program) box) (vars_of r.first box) (journal r box) (vars_of r.last box)
  pub stamps : (box : ℕ) → box < length r.boxes → AreStamps (box_stamps r box)
  pub end : Machine
  pub run : IsRun s.scheduler (events_of r) end
  pub over : IsOver s end
  pub times : AreStamps (sched_stamps r)
  pub tickets : map (λ (p : PassRecord). p.ticket) r.passes ≡ started (events_of r)
  pub passes : (i : ℕ) (p : PassRecord) → slice_get r.passes i ≡ Some p → IsPass s r p
  pub claimed : (box place : ℕ) (e : BoxEntry) → slice_get (journal r box) place ≡ Some e →
      IsClaimed r box place e
