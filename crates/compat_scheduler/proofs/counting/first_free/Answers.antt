use Rattle.std.proofs.Common.{◌<◌, ◌≤◌, ⊎_elim, arith}
use Rattle.std.proofs.lemmas.Bool.{cases_lt}
use Rattle.seuss_base.specs.declared.level.Level.{Level}
use Rattle.compat_scheduler.specs.Machines.{slot_at}
use Rattle.compat_scheduler.specs.Counts.{IsFree, counts_at}
use Rattle.compat_scheduler.proofs.SlotLemmas.{one_further, pending_past}
use Rattle.compat_scheduler.proofs.counting.first_free.Goals as goal

pub returns-in-Some : goal.returns-in-Some
returns-in-Some c = record { free = c.in-Some.ensures; first = c.loop-one.invariant }

pub loop-one-preserved : goal.loop-one-preserved
loop-one-preserved c = λ j y h.
    one_further (λ i. (x : Level) → ¬ IsFree (slot_at c.args.slots.now i) (counts_at c.args.counts.now i) x)
    c.loop-one.one (λ i below x. c.loop-one.invariant i x below) c.in_default.ensures j h y

pub returns : goal.returns
returns c = λ i x free.
    ⊎_elim (λ (h : i < c.loop-one.one). c.loop-one.invariant i x h free)
    (λ (h : c.loop-one.one ≤ i). pending_past c.args.slots.now i x (omega arith) free.pending)
    (cases_lt i c.loop-one.one)
