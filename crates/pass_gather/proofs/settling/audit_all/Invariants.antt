use Rattle.std.proofs.Common.{◌≡◌, ◌+◌, length, All, sum_by}
use Rattle.pass_gather.specs.Parting.{amount_in}
use Rattle.pass_gather.proofs.settling.audit_all.Given as goal

abbrev pub invariant-loop-part : goal.invariant-loop-part
invariant-loop-part g l = record {
  each : All (λ p. p.parts ≡ 1) l.left.items;
  parts : l.all.parts + length l.left.items ≡ length l.fn.parts.items;
  amount : l.all.amount + sum_by amount_in l.left.items ≡ sum_by amount_in l.fn.parts.items;
}

abbrev pub decreases-loop-part : goal.decreases-loop-part
decreases-loop-part g l = length l.left.items
