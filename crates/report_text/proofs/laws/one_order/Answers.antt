-- The bytes of a report tell its order.
use Rattle.report_text.proofs.OrderLemmas.{same_orders}
use Rattle.report_text.proofs.laws.one_order.Goals as goal

pub returns : goal.returns
returns c = λ p rounds order other state after keeps names lawful also same.
    same_orders p keeps names rounds order other state after lawful also same
