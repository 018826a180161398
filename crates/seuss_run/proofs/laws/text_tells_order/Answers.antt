use Rattle.seuss_run.proofs.ToldOrders.{Laws, same_orders, same_boxes}
use Rattle.seuss_run.proofs.laws.text_tells_order.Goals as goal

-- the laws of the crates below tell the order and the boxes
pub returns : goal.returns
returns c =
    let laws : Laws = record {
      printable = c.parsed_is_printable.ensures;
      names = c.spelled_names_are_names.ensures;
      own = c.names_are_own.ensures;
      keeps = c.checked_program_keeps.ensures.keeps;
      one_order = c.one_order.ensures;
    } in
    record { order = same_orders laws; boxes = same_boxes laws }
