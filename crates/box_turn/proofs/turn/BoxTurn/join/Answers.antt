use Rattle.std.proofs.Common.{arith, ap, sym, ◌∙◌}
use Rattle.box_turn.proofs.Steps.{joins, free_is}
use Rattle.box_turn.proofs.turn.BoxTurn.join.Goals as goal

-- a join keeps the rule
pub join_seat-requires : goal.join_seat-requires
join_seat-requires g c =
    let i = c.self.invariant in
    let s = c.last.inside in
    let o = c.other.inside in
    let name = sym (ap (λ x. x.name) c.self.view_is) in
    let free = free_is _ _ c.other.invariant (ap (λ x. x.holds) c.other.view_is ∙ c.requires.free) in (
      ap (λ x. x.turn) c.last.view_is ∙ c.requires.turns.0 ∙ name,
      ap (λ x. x.turn) c.other.view_is ∙ c.requires.turns.1 ∙ name,
      ap (λ m. m.1) free,
      omega (arith, i.0),
      joins _ _ _ _ _ _ s.seat.id o.seat.id s.seat.me.0 o.seat.me.0 _ _ _
          (ap (λ m. m.0) c.last.invariant.me_is) (ap (λ m. m.0) free),
    )
