use Rattle.std.proofs.Common.{refl, arith}
use Rattle.compat_scheduler.specs.Settings.{beside}
use Rattle.compat_scheduler.specs.Machines.{slot_at}
use Rattle.compat_scheduler.specs.Starts.{IsFirmBeside}
use Rattle.compat_scheduler.proofs.SlotLemmas.{at_each_slot, one_further}
use Rattle.compat_scheduler.proofs.starting.is_firm_beside_all.Goals as goal

pub returns-then-not-firm : goal.returns-then-not-firm
returns-then-not-firm c = (
  λ no. absurd (cc),
  λ each. grind (
    arith,
    c.is_firm_beside-firm.ensures.1 (rw c.beside.ensures
        (each c.loop-other.other)),
  ),
)

pub loop-other-preserved : goal.loop-other-preserved
loop-other-preserved c =
    one_further (λ j. IsFirmBeside (beside c.args.setting.now c.args.one j)
    (slot_at c.args.slots.now j)) c.loop-other.other
    c.loop-other.invariant (grind arith)

pub returns : goal.returns
returns c = (
  λ _. at_each_slot (λ j. IsFirmBeside
      (beside c.args.setting.now c.args.one j)) c.args.slots.now c.loop-other.other
      (omega arith) (λ j. tt) c.loop-other.invariant,
  λ _. refl,
)
