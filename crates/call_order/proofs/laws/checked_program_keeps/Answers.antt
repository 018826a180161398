-- Proofs of the goals of `checked_program_keeps`.
use Rattle.std.specs.Prelude.{Ok}
use Rattle.call_order.proofs.LevelRounds.{program_of}
use Rattle.call_order.proofs.CheckedLemmas.{checked_is_ordered}
use Rattle.call_order.proofs.KeptPrograms.{answer_keeps}
use Rattle.call_order.proofs.laws.checked_program_keeps.Goals as goal

pub returns : goal.returns
returns c = record {
  ordered = λ tree partials totals none. (program_of tree, checked_is_ordered tree partials totals none);
  keeps = λ tree p formed accepted ordered. answer_keeps (Ok p) tree formed accepted ordered;
}
