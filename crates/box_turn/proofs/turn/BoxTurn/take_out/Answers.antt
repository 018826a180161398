use Rattle.std.proofs.Common.{ap, sym, ◌∙◌, subst}
use Rattle.box_turn.proofs.Closing.{comes_out, some_same}
use Rattle.box_turn.proofs.turn.BoxTurn.take_out.Goals as goal

-- the seat with all parts finds the value in the slot
pub unreachable-requires : goal.unreachable-requires
unreachable-requires g c =
    let s = c.last in
    let live = ap (λ m. m.0) s.invariant.me_is in
    let parts = ap (λ x. x.parts) s.view_is ∙ c.requires.all ∙ sym (ap (λ x. x.seats) c.self.view_is) in
    let out = comes_out _ _ _ s.inside.seat.id s.inside.seat.me.0 _ _ _ _ _ c.take-slot.result live parts
    c.close_with-closed.ensures.values.2 c.take-slot.ensures.value in
    c.in_default.not-Some out.0 out.1

-- which keeps what it has to
pub returns : goal.returns
returns g c =
    let s = c.last in
    let live = ap (λ m. m.0) s.invariant.me_is in
    let parts = ap (λ x. x.parts) s.view_is ∙ c.requires.all ∙ sym (ap (λ x. x.seats) c.self.view_is) in
    let out = comes_out _ _ _ s.inside.seat.id s.inside.seat.me.0 _ _ _ _ _ c.take-slot.result live parts
    c.close_with-closed.ensures.values.2 c.take-slot.ensures.value in
    let is = some_same out.0 c.in-Some.cell (sym out.1 ∙ c.in-Some.is) in
    let names = ap (λ x. x.names) c.self.view_is in
    subst (λ n. g.C.Kept.keeps n c.in-Some.cell) names
    (subst (λ x. g.C.Kept.keeps c.self.inside.table.shared.key.names.value x) is out.2)
