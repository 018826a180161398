-- Proofs of the goals of `one_order_of_levels`.
use Rattle.box_types.specs.Namings.{named}
use Rattle.call_order.proofs.OneLevelling.{one_levelling}
use Rattle.call_order.proofs.laws.one_order_of_levels.Goals as goal

pub returns : goal.returns
returns c = record {
  levels = one_levelling;
  program = λ tree one other first second. one_levelling (named tree) one other first.levels second.levels;
}
