use Rattle.std.proofs.Common.{ℕ, ◌<◌}
use Rattle.compat_scheduler.specs.Machines.{slot_at}
use Rattle.compat_scheduler.specs.Starts.{IsAllowedBeside}
use Rattle.compat_scheduler.proofs.scan.is_allowed.Given as goal

-- it is allowed beside all slots so far
abbrev pub invariant-loop-other : goal.invariant-loop-other
invariant-loop-other l = (j : ℕ) → j < l.other → IsAllowedBeside l.setting l.one l.mode j (slot_at l.slots j)
