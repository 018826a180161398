use Rattle.std.proofs.Common.{◌≡◌, ◌++◌}
use Rattle.pass_gather.proofs.parting.put_passes.Given as goal

abbrev pub invariant-loop-pass : goal.invariant-loop-pass
invariant-loop-pass l = l.passes.items ≡ l.initial.passes.items ++ l.yielded
