-- Proofs of the goals of `order`.
use Rattle.std.proofs.Common.{◌≤◌, length, sym, subst}
use Rattle.seuss_program.specs.declared.tree.Tree.{Tree}
use Rattle.seuss_program.specs.declared.program.Program.{Program}
use Rattle.call_order.specs.Answers.{Orders}
use Rattle.call_order.proofs.KeptPrograms.{few_boxes_by, answer_keeps, answer_few}
use Rattle.call_order.proofs.ordering.order.Goals as goal

pub order_parts-requires-clause-few : goal.order_parts-requires-clause-few
order_parts-requires-clause-few c = subst (λ (p : Program). length p.boxes ≤ 128)
    (sym c.into_parts-tree.ensures.program)
    (few_boxes_by c.args.resolved c.into_parts-tree.ensures.accepted)

pub returns-clause-keeps : goal.returns-clause-keeps
returns-clause-keeps c = answer_keeps c.order_parts.result c.args.resolved
    c.into_parts-tree.ensures.well_formed c.into_parts-tree.ensures.accepted
    (subst (λ (tree : Tree). Orders c.order_parts.result tree) c.into_parts-tree.ensures.tree
    c.order_parts.ensures)

pub returns-clause-few : goal.returns-clause-few
returns-clause-few c = answer_few c.order_parts.result (returns-clause-keeps c)
