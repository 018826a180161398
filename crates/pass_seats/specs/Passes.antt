-- A pass that a seat holds: the steps that its claims name, and where they lead.
use Rattle.std.specs.Prelude.{◌≡◌, ℕ, ◌+◌, ◌<◌, true, false, List, [], ◌∷◌, All, Option, Some, None, slice_get}
use Rattle.std.specs.Prelude.{slice_index_or, option_map, map, length, Contains}
use Rattle.std.specs.List.{filter_map}
use Rattle.seuss_base.specs.declared.outcome.PassEnd.{PassEnd}
use Rattle.seuss_program.specs.declared.program.Program.{Program}
use Rattle.seuss_program.specs.declared.program.ActionInfo.{ActionInfo}
use Rattle.method_code.specs.declared.activation.Activation.{Activation}
use Rattle.method_code.specs.declared.activation.Waiting.{Waiting}
use Rattle.method_code.specs.Chains.{begun}
use Rattle.method_code.specs.Kinds.{calls_early}
use Rattle.method_code.specs.Records.{Recorded, ChainsTo, LeadsTo}
use Rattle.step_journal.specs.Histories.{Log, entries_of, own_entries}
use Rattle.step_journal.specs.Journals.{IsPair}
use Rattle.loose_records.specs.declared.record.BoxEntry.{BoxEntry}
use Rattle.loose_records.specs.declared.record.SchedEntry.TheVariants.{Start, Finish}
use Rattle.loose_records.specs.declared.record.Claim.{Claim}
use Rattle.loose_records.specs.Entries.{step_of, AreStamps}
use Rattle.loose_records.specs.Turns.{clock_of}
use Rattle.pass_seats.specs.declared.pass.Done.{Done}
use Rattle.pass_seats.specs.declared.pass.SeatPass.{SeatPass}
use Rattle.pass_seats.specs.Names.{Names}

-- what was seen of a box
abbrev pub log_at : List (Log BoxEntry) → ℕ → Log BoxEntry
log_at logs b = slice_index_or logs b []

-- the step that a claim names
abbrev pub step_at : List (Log BoxEntry) → Claim → Option Recorded
step_at logs c =
    option_map (λ (p : ℕ × BoxEntry). step_of c.box_number p.1) (slice_get (log_at logs c.box_number) c.place)

-- the steps that claims name, in their order
abbrev pub steps_of : List (Log BoxEntry) → List Claim → List Recorded
steps_of logs claims = filter_map (step_at logs) claims

-- the stamps of claims
abbrev pub stamps_of : List Claim → List ℕ
stamps_of claims = map (λ (c : Claim). c.stamp) claims

-- A claim of a pass, by its number there, names an entry that this maker made for the pass, with the claim's
-- number and stamp.
pub record IsClaim (logs : List (Log BoxEntry)) (maker pass number : ℕ) (c : Claim) : Type 0 where
  pub entry : BoxEntry
  pub there : slice_get (log_at logs c.box_number) c.place ≡ Some (maker, entry)
  pub own : entry.pass ≡ pass
  pub at : entry.number ≡ number
  pub when : entry.stamp ≡ c.stamp

-- where the steps of a pass lead: to the activation that goes on, with the budget that is left, or to its end
abbrev pub ComesTo : Program → Activation → ℕ → List Recorded → Option PassEnd → SeatPass → Type 0
ComesTo program begin budget steps None p = LeadsTo program begin budget steps p.control p.budget
ComesTo program begin budget steps (Some end) p = ChainsTo program begin budget steps end

-- each of the first so many steps ends by the call of a preprocedure
pub record AreEarly (many : ℕ) (steps : List Recorded) : Type 0 where
  pub each : (i : ℕ) (e : Recorded) → i < many → slice_get steps i ≡ Some e → calls_early e.end ≡ true

-- The commit step so far, the first that doesn't end by the call of a preprocedure. None: all steps so far end so.
abbrev pub CommitsSoFar : List Recorded → Option ℕ → Type 0
CommitsSoFar steps None = AreEarly (length steps) steps
CommitsSoFar steps (Some k) = AreEarly k steps
    × ((e : Recorded) × (slice_get steps k ≡ Some e) × (calls_early e.end ≡ false))

-- each box at which a pass is or waits is one of so many
pub record IsWithin (boxes : ℕ) (a : Activation) : Type 0 where
  pub here : a.box_number < boxes
  pub waiting : All (λ (w : Waiting). w.box_number < boxes) a.waiting

-- What has come of a pass: its maker has made no entry; or just that of its finish, after all steps.
abbrev pub HasDone : Option Done → SeatPass → Type 0
HasDone None p = p.share.count ≡ 0
HasDone (Some d) p = (end : PassEnd) × (p.over ≡ Some end)
    × (own_entries p.note.maker p.note.seen ≡ Finish p.ticket end d.verdict d.stamp ∷ []) × (p.clock < d.stamp)

-- A pass of the seat with this number, which has seen these logs. Its claims name own entries of the seat, one
-- for each step, and stamps rise along it. The steps lead from the entry of its action to where it is. Its own
-- note and share are those that came with its ticket, whose start the note has seen.
pub record IsSeatPass (names : Names) (seat : ℕ) (logs : List (Log BoxEntry)) (p : SeatPass) : Type 0 where
  pub action : ActionInfo
  pub there : slice_get names.setting.program.actions p.ticket.action ≡ Some action
  pub claims : (i : ℕ) (c : Claim) → slice_get p.claims i ≡ Some c → IsClaim logs seat p.ticket.pass i c
  pub stamps : AreStamps (p.started ∷ stamps_of p.claims)
  pub clock_is : p.clock ≡ clock_of (p.started ∷ stamps_of p.claims)
  pub comes : ComesTo names.setting.program (begun names.setting.program action) names.setting.budget
      (steps_of logs p.claims) p.over p
  pub commit : CommitsSoFar (steps_of logs p.claims) p.commit
  pub within : p.over ≡ None → IsWithin (length names.boxes) p.control
  pub journal : p.note.journal ≡ names.sched
  pub maker : p.note.maker ≡ names.seats + p.ticket.pass
  pub pair : IsPair p.note p.share
  pub start : Contains (entries_of p.note.seen) (Start p.ticket p.started)
  pub done : HasDone p.done p
