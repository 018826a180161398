use Rattle.std.proofs.Common.{subst}
use Rattle.commute_certs.specs.Orders.{TellsOrders}
use Rattle.commute_certs.proofs.SeenLemmas.{seen_alike, seen_apart, seen_loose}
use Rattle.commute_certs.proofs.deciding.with_case.Goals as goal

pub returns-in_default : goal.returns-in_default
returns-in_default c = λ m n seen s told.
    seen_alike m n seen c.args.case.now c.args.found c.args.orders.now s told
    (subst (λ o. TellsOrders c.args.orders.now o) c.in_default.is c.orders_apart.ensures)

pub returns-then-brings_none : goal.returns-then-brings_none
returns-then-brings_none c = λ m n seen s told.
    seen_apart m n seen c.args.case.now c.args.found c.args.orders.now s told c.in-Some.at
    c.in-Some.ensures (c.brings_none.ensures.known c.if-brings_none.true)

pub returns : goal.returns
returns c = λ m n seen s told.
    seen_loose m n seen c.args.case.now c.args.found c.args.orders.now s told c.in-Some.at
    c.in-Some.ensures c.in_ok-state_at.field-0 (c.brings_none.ensures.loose c.if-brings_none.false)
    c.in_ok-state_at.ensures.vars c.in_ok-state_at.ensures.first c.in_ok-state_at.ensures.second
