use Rattle.std.proofs.Common.{◌≡◌, ℕ, ◌<◌, ◌≤◌}
use Rattle.compat_scheduler.specs.Settings.{beside}
use Rattle.compat_scheduler.specs.Machines.{slot_at}
use Rattle.compat_scheduler.specs.Starts.{lowered}
use Rattle.compat_scheduler.proofs.starting.lower_flags.Given as goal

-- the slots so far are lowered, and the others are as they were
abbrev pub invariant-loop-other : goal.invariant-loop-other
invariant-loop-other l =
    record {
      so_far : (j : ℕ) → j < l.other → slot_at l.slots j ≡ lowered (beside l.setting j l.newcomer)
          (slot_at l.initial.slots j);
      rest : (j : ℕ) → l.other ≤ j → slot_at l.slots j ≡ slot_at l.initial.slots j;
    }
