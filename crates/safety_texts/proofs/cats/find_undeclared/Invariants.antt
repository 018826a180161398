use Rattle.safety_texts.specs.Verdicts.{undeclared}
use Rattle.safety_texts.proofs.FaultLemmas.{NoneBefore}
use Rattle.safety_texts.proofs.cats.find_undeclared.Given as goal

abbrev pub invariant-loop-text : goal.invariant-loop-text
invariant-loop-text l = NoneBefore (undeclared l.program) l.texts l.text-index
