use Rattle.std.proofs.Common.{◌≡◌, take}
use Rattle.method_code.proofs.plan.copy_actions.Given as goal

abbrev pub invariant-loop-action : goal.invariant-loop-action
invariant-loop-action l = l.copied ≡ take l.action-index l.actions
