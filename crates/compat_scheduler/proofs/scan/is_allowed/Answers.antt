use Rattle.std.proofs.Common.{refl, arith}
use Rattle.compat_scheduler.specs.Machines.{slot_at}
use Rattle.compat_scheduler.specs.Starts.{IsAllowedBeside}
use Rattle.compat_scheduler.proofs.SlotLemmas.{at_each_slot, one_further}
use Rattle.compat_scheduler.proofs.scan.is_allowed.Goals as goal

pub returns-then-not-allowed : goal.returns-then-not-allowed
returns-then-not-allowed c = (
  λ no. absurd (cc),
  λ each. grind (
    arith,
    c.is_allowed_beside-allowed.ensures.1
        (each c.loop-other.other),
  ),
)

pub loop-other-preserved : goal.loop-other-preserved
loop-other-preserved c =
    one_further (λ j. IsAllowedBeside c.args.setting.now c.args.one c.args.mode j
    (slot_at c.args.slots.now j)) c.loop-other.other
    c.loop-other.invariant (grind arith)

pub returns : goal.returns
returns c = (
  λ _. at_each_slot (IsAllowedBeside c.args.setting.now c.args.one c.args.mode) c.args.slots.now
      c.loop-other.other
      (omega arith) (λ j. tt) c.loop-other.invariant,
  λ _. refl,
)
