-- What the entries of a record say, and the steps of its passes.
use Rattle.std.specs.Prelude.{ℕ, ◌<◌, ◌^◌, List, [], All, AllPairs, map, slice_get, slice_index_or, Option}
use Rattle.std.specs.Prelude.{option_map}
use Rattle.std.specs.List.{filter_map}
use Rattle.seuss_program.specs.declared.state.Value.{Value}
use Rattle.compat_scheduler.specs.Runs.{Event}
use Rattle.compat_scheduler.specs.Runs.Event.{Start, Finish}
use Rattle.method_code.specs.declared.method.Method.{Method}
use Rattle.method_code.specs.Records.{Recorded, does}
use Rattle.loose_records.specs.declared.record.BoxEntry.{BoxEntry}
use Rattle.loose_records.specs.declared.record.SchedEntry.{SchedEntry}
use Rattle.loose_records.specs.declared.record.SchedEntry.TheVariants as S
use Rattle.loose_records.specs.declared.record.Claim.{Claim}
use Rattle.loose_records.specs.declared.record.PassRecord.{PassRecord}
use Rattle.loose_records.specs.declared.record.Record.{Record}

-- the step that an entry of a box records
abbrev pub step_of : ℕ → BoxEntry → Recorded
step_of box e = record {
  box = box;
  before = e.before;
  budget_before = e.budget_before;
  after = e.after;
  budget_after = e.budget_after;
  end = e.end;
}

-- from v the step of this entry is as it is recorded, and leaves w
abbrev pub gives : List Method → ℕ → BoxEntry → List Value → List Value → Type 0
gives code box e v w = does code (step_of box e) v w

-- what happened to the scheduler's machine
abbrev pub event_of : SchedEntry → Event
event_of (S.Start ticket stamp) = Start ticket
event_of (S.Finish ticket end verdict stamp) = Finish ticket end verdict

-- when it happened
abbrev pub stamp_of : SchedEntry → ℕ
stamp_of (S.Start ticket stamp) = stamp
stamp_of (S.Finish ticket end verdict stamp) = stamp

-- what happened to the scheduler's machine, in order
abbrev pub events_of : Record → List Event
events_of r = map event_of r.sched

-- the stamps of the scheduler's journal
abbrev pub sched_stamps : Record → List ℕ
sched_stamps r = map stamp_of r.sched

-- each stamp is below each later one
abbrev pub AreRising : List ℕ → Type 0
AreRising stamps = AllPairs (λ (a b : ℕ). a < b) stamps

-- the stamps of a journal rise, and are below 2^63
pub record AreStamps (stamps : List ℕ) : Type 0 where
  pub rising : AreRising stamps
  pub small : All (λ (a : ℕ). a < 2 ^ 63) stamps

-- the journal of a box
abbrev pub journal : Record → ℕ → List BoxEntry
journal r box = slice_index_or r.boxes box []

-- the stamps of the journal of a box
abbrev pub box_stamps : Record → ℕ → List ℕ
box_stamps r box = map (λ (e : BoxEntry). e.stamp) (journal r box)

-- the step that a claim names
abbrev pub claimed : Record → Claim → Option Recorded
claimed r c = option_map (step_of c.box_number) (slice_get (journal r c.box_number) c.place)

-- the steps of a pass, in their order
abbrev pub steps_of : Record → PassRecord → List Recorded
steps_of r pass = filter_map (claimed r) pass.claims

-- the stamps of the steps of a pass
abbrev pub claim_stamps : PassRecord → List ℕ
claim_stamps pass = map (λ (c : Claim). c.stamp) pass.claims
