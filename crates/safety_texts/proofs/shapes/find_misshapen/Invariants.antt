use Rattle.safety_texts.specs.Verdicts.{misshapen}
use Rattle.safety_texts.proofs.FaultLemmas.{NoneBefore}
use Rattle.safety_texts.proofs.shapes.find_misshapen.Given as goal

abbrev pub invariant-loop-property : goal.invariant-loop-property
invariant-loop-property l = NoneBefore misshapen l.properties l.property-index
