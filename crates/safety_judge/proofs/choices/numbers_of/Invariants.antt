use Rattle.std.proofs.Common.{◌≡◌, map, take}
use Rattle.safety_check.specs.declared.region.Region.TheVariants.{Numbers}
use Rattle.safety_judge.proofs.choices.numbers_of.Given as goal

abbrev pub invariant-loop-part : goal.invariant-loop-part
invariant-loop-part l = l.choices ≡ map Numbers (take l.part-index l.parts)
