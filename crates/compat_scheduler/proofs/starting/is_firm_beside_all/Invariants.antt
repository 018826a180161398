use Rattle.std.proofs.Common.{ℕ, ◌<◌}
use Rattle.compat_scheduler.specs.Settings.{beside}
use Rattle.compat_scheduler.specs.Machines.{slot_at}
use Rattle.compat_scheduler.specs.Starts.{IsFirmBeside}
use Rattle.compat_scheduler.proofs.starting.is_firm_beside_all.Given as goal

-- it is firm-safe beside all slots so far
abbrev pub invariant-loop-other : goal.invariant-loop-other
invariant-loop-other l = (j : ℕ) → j < l.other → IsFirmBeside (beside l.setting l.one j) (slot_at l.slots j)
