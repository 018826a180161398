use Rattle.std.proofs.Common.{arith, ap, sym, ◌∙◌}
use Rattle.box_turn.proofs.Steps.{splits}
use Rattle.box_turn.proofs.turn.BoxTurn.split.Goals as goal

-- a split keeps the rule
pub split_seat-seat-requires : goal.split_seat-seat-requires
split_seat-seat-requires g c =
    let s = c.first.inside in (
      ap (λ x. x.turn) c.first.view_is ∙ c.requires.turn ∙ sym (ap (λ x. x.name) c.self.view_is),
      omega (arith, c.self.invariant.0),
      splits _ _ _ _ _ _ s.seat.id s.seat.me.0 (ap (λ m. m.0) c.first.invariant.me_is)
          (omega (arith, c.requires.parts, ap (λ x. x.parts) c.first.view_is)),
    )
