use Rattle.std.proofs.Common.{ℕ, ◌<◌}
use Rattle.seuss_base.specs.declared.level.Level.{Level}
use Rattle.compat_scheduler.specs.Machines.{slot_at}
use Rattle.compat_scheduler.specs.Counts.{IsFree, counts_at}
use Rattle.compat_scheduler.proofs.counting.first_free.Given as goal

-- none of the slots so far is free
abbrev pub invariant-loop-one : goal.invariant-loop-one
invariant-loop-one l =
    (j : ℕ) (y : Level) → j < l.one → ¬ IsFree (slot_at l.slots j) (counts_at l.counts j) y
