use Rattle.std.proofs.Common.{ℕ, ◌<◌}
use Rattle.seuss_base.specs.declared.level.Level.{Level}
use Rattle.compat_scheduler.specs.Starts.{MayStart}
use Rattle.compat_scheduler.proofs.scan.first_to_start.Given as goal

-- none of the slots so far may start
abbrev pub invariant-loop-one : goal.invariant-loop-one
invariant-loop-one l = (j : ℕ) (x : Level) → j < l.one → ¬ MayStart l.setting l.slots j x
