use Rattle.std.proofs.Common.{◌≡◌, take}
use Rattle.std.specs.Prelude.{replicate}
use Rattle.seuss_base.specs.declared.level.Level.TheVariants.{Loose}
use Rattle.compat_scheduler.specs.declared.slot.Slot.TheVariants.{Pending}
use Rattle.compat_scheduler.proofs.finishing.begin_round.Given as goal

-- the slots so far are pending
abbrev pub invariant-loop-slot : goal.invariant-loop-slot
invariant-loop-slot l = take l.slot-index l.slots ≡ replicate l.slot-index (Pending Loose)
