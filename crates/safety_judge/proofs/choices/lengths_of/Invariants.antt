use Rattle.std.proofs.Common.{◌≡◌, map, take}
use Rattle.safety_check.specs.declared.region.Region.TheVariants.{Lengths}
use Rattle.safety_judge.proofs.choices.lengths_of.Given as goal

abbrev pub invariant-loop-part : goal.invariant-loop-part
invariant-loop-part l = l.choices ≡ map Lengths (take l.part-index l.parts)
