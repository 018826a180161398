use Rattle.std.proofs.Common.{◌≡◌, ℕ, sym, subst, length, arith}
use Rattle.pass_seats.specs.Opening.{AreNewBoxes, IsNewBox}
use Rattle.pass_seats.proofs.Opening.{boxes_push}
use Rattle.pass_seats.proofs.making.open_next.Goals as goal

pub returns-clause-boxes : goal.returns-clause-boxes
returns-clause-boxes g c =
    let names = g.N.EngineNames.names in
    let desks = c.args.desks.now.items in
    let desk = c.in_ok-desk.desk in
    let number : c.len-number.result ≡ length desks = omega (arith, c.len-number.ensures, c.args.desks.now.ok.0) in
    let is : IsNewBox names (length desks) desk =
    subst (λ (n : ℕ). IsNewBox names n desk) number c.in_ok-desk.ensures.desk in
    subst (AreNewBoxes names) (sym c.in_ok-push.ensures.items) (boxes_push names desks desk is c.requires.boxes)
