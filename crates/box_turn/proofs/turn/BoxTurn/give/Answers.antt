use Rattle.std.proofs.Common.{arith, ap, sym, ◌∙◌, subst, ◌∷◌}
use Rattle.std.specs.Prelude.{Some}
use Rattle.atomic_table.specs.Table.{rest}
use Rattle.box_turn.proofs.Steps.{gives, holding_is}
use Rattle.box_turn.proofs.turn.BoxTurn.give.Goals as goal

-- a give keeps the rule
pub store-requires : goal.store-requires
store-requires g c =
    let i = c.self.invariant in
    let e = c.exchange.ensures in
    let held = ap (λ x. x.holds) c.seat.view_is ∙ c.requires.holds in
    let me =
    e.3 ∙ ap (λ m. (m.0, (0, Some c.args.cell) ∷ rest m.1)) (holding_is _ _ c.seat.invariant held) in
    let kept =
    subst (λ n. g.C.Kept.keeps n c.args.cell) (sym (ap (λ x. x.names) c.seat.view_is)) c.requires.kept in (
      e.0 ∙ (ap (λ x. x.turn) c.seat.view_is ∙ c.requires.turn ∙ sym (ap (λ x. x.name) c.self.view_is)),
      omega (arith, i.0),
      gives _ _ _ _ _ _ c.args.cell c.self.inside.table.shared.table_id.slots c.exchange.new.seat.id
          c.exchange.new.seat.me me kept,
    )
