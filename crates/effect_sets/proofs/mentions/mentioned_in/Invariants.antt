use Rattle.std.proofs.Common.{◌≡◌, drop}
use Rattle.effect_sets.specs.Masks.{add_masks}
use Rattle.effect_sets.proofs.mentions.mentioned_in.Given as goal

abbrev pub invariant-loop-arg : goal.invariant-loop-arg
invariant-loop-arg l = add_masks l.set (drop l.arg-index l.args) ≡ add_masks 0 l.args
