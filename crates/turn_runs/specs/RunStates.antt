-- How a run of this crate stands for one of the definition.
use Rattle.std.specs.Prelude.{◌≡◌, ℕ, ◌+◌, ◌*◌, ◌<◌, ◌≤◌, ◌⊎◌, List, map, length, slice_get, Option, None}
use Rattle.std.specs.Prelude.{Some}
use Rattle.std.specs.List.{range_with_len}
use Rattle.seuss_program.specs.declared.state.State.{State}
use Rattle.seuss_program.specs.Keeping.{Keeps}
use Rattle.seuss_program.specs.Orders.{slots_of}
use Rattle.compat_scheduler.specs.Settings.{copies}
use Rattle.compat_scheduler.specs.Starts.{NoneStarts}
use Rattle.loose_records.specs.declared.record.PassRecord.{PassRecord}
use Rattle.loose_records.specs.declared.record.Record.{Record}
use Rattle.loose_records.specs.Settings.{RunSetting}
use Rattle.loose_records.specs.Growing.{Status, Finished, IsGrowing}
use Rattle.loose_records.specs.Stamps.{events_in}
use Rattle.loose_records.specs.Turns.{Turning, IsClock, AreTurns, turning_begun, worker_of}
use Rattle.turn_runs.specs.declared.hand.Hand.{Hand}
use Rattle.turn_runs.specs.declared.run.Run.{Run}
use Rattle.turn_runs.specs.Hands.{status_now, pass_held}

-- a setting of turns: its program keeps its checks, each action has one slot, and all is few
pub record IsTurnSetting (s : RunSetting) : Type 0 where
  pub keeps : Keeps s.program
  pub small : s.budget ≤ 1000000
  pub slots : s.scheduler.actions ≡ slots_of s.program
  pub few : s.scheduler.rounds * copies s.scheduler ≤ 10000000

-- what the record says of a pass in hand
pub record IsHeld (r : Record) (statuses : List Status) (hand : Hand) : Type 0 where
  pub pass : PassRecord
  pub there : slice_get r.passes hand.ticket.pass ≡ Some pass
  pub ticket_is : pass.ticket ≡ hand.ticket
  pub status : slice_get statuses hand.ticket.pass ≡ Some (status_now hand.progress)
  pub clock_is : IsClock r pass hand.clock
  pub few : length pass.claims ≤ 2000300

-- the passes in hand are open, no two workers have the same, and each open pass is in hand
pub record AreHands (r : Record) (statuses : List Status) (hands : List (Option Hand)) : Type 0 where
  pub each : (w : ℕ) (hand : Hand) → slice_get hands w ≡ Some (Some hand) → IsHeld r statuses hand
  pub once : (v w : ℕ) (a b : Hand) → slice_get hands v ≡ Some (Some a) →
      slice_get hands w ≡ Some (Some b) → a.ticket.pass ≡ b.ticket.pass → v ≡ w
  pub all : (i : ℕ) (status : Status) → slice_get statuses i ≡ Some status → (status ≡ Finished)
      ⊎ ((v : ℕ) × (hand : Hand) × (slice_get hands v ≡ Some (Some hand)) × (hand.ticket.pass ≡ i))

-- the run of the definition
abbrev pub turning_of : Run → List (Option Hand) → List Status → Turning
turning_of run hands statuses = record {
  made = run.made;
  statuses = statuses;
  machine = run.core.machine;
  holds = map pass_held hands;
}

-- the workers below this number have nothing in hand, and nothing may start
pub record AreIdle (s : RunSetting) (run : Run) (hands : List (Option Hand)) (workers : ℕ) : Type 0 where
  pub free : (v : ℕ) → v < workers → slice_get hands v ≡ Some None
  pub none : 0 < workers → NoneStarts s.scheduler run.core.machine

-- After the turns that are named, the workers have taken so many rounds of turns and so many turns more.
-- There was an event in each round, and in the one that goes on there was one, or all were idle.
pub record IsInOrder (s : RunSetting) (width named turns : ℕ) (run : Run) (hands : List (Option Hand)) :
    Type 0 where
  pub rounds : ℕ
  pub workers : ℕ
  pub is : turns ≡ named + (rounds * width + workers)
  pub within : workers < width
  pub made : rounds ≤ events_in run.made
  pub last : (rounds < events_in run.made) ⊎ AreIdle s run hands workers

-- turns make events: those that are named are left, or the turns are in order
abbrev pub IsOnPace : RunSetting → ℕ → ℕ → ℕ → Run → List (Option Hand) → Type 0
IsOnPace s width named turns run hands = (turns ≤ named) ⊎ IsInOrder s width named turns run hands

-- the run after so many turns
pub record HasTurned (s : RunSetting) (state : State) (width : ℕ) (digits : List ℕ) (turns : ℕ) (run : Run)
    (hands : List (Option Hand)) : Type 0 where
  pub statuses : List Status
  pub setting : run.core.setting ≡ s.scheduler
  pub made : AreTurns s (map (worker_of width digits) (range_with_len 0 turns))
      (turning_begun s state width) (turning_of run hands statuses)
  pub grows : IsGrowing s run.made statuses run.core.machine
  pub hold : AreHands run.made statuses hands
  pub many : length hands ≡ width
  pub pace : IsOnPace s width (length digits) turns run hands
