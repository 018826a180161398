use Rattle.std.proofs.Common.{◌<◌, ◌≤◌, sym, ◌∙◌, ap, ⊎_elim, arith}
use Rattle.std.proofs.lemmas.List.{get_or-set_same, get_or-set_other}
use Rattle.std.proofs.lemmas.Bool.{cases_eq, cases_lt}
use Rattle.compat_scheduler.specs.Settings.{beside}
use Rattle.compat_scheduler.specs.Starts.{lowered}
use Rattle.compat_scheduler.proofs.SlotLemmas.{slot_at_past, lowered-ended}
use Rattle.compat_scheduler.proofs.starting.lower_flags.Goals as goal

-- the write lowers the slot that it is about, and leaves the others
pub loop-other-preserved : goal.loop-other-preserved
loop-other-preserved c = record {
  so_far = λ j h. grind (
    arith,
    cases_eq j c.loop-other.other,
    c.loop-other.invariant.so_far j,
    c.loop-other.invariant.rest j,
    get_or-set_same,
    get_or-set_other,
  );
  rest = λ j h. grind (arith, c.loop-other.invariant.rest j, get_or-set_other);
}

pub returns : goal.returns
returns c = λ j.
    ⊎_elim (λ (h : j < c.loop-other.other). c.loop-other.invariant.so_far j h)
    (λ (h : c.loop-other.other ≤ j).
    c.loop-other.invariant.rest j h ∙ slot_at_past c.args.slots.now j (omega arith)
    ∙ sym (ap (lowered (beside c.args.setting.now j c.args.newcomer)) (slot_at_past c.args.slots.now j
    (omega arith))
    ∙ lowered-ended (beside c.args.setting.now j c.args.newcomer))) (cases_lt j c.loop-other.other)
