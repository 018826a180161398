use Rattle.std.proofs.Common.{arith, ap, sym, ◌∙◌}
use Rattle.std.specs.Prelude.{Some}
use mathlib.Core.Option.{none}
use Rattle.atomic_table.specs.Table.{step}
use Rattle.box_turn.proofs.Steps.{takes, free_is, took, first_of}
use Rattle.box_turn.proofs.turn.BoxTurn.try_take.Goals as goal

-- a take keeps the rule
pub compare_exchange-found-requires : goal.compare_exchange-found-requires
compare_exchange-found-requires g c =
    let i = c.self.invariant in
    let s = c.seat.inside in
    let free = ap (λ x. x.holds) c.seat.view_is ∙ c.requires.free in (
      ap (λ x. x.turn) c.seat.view_is ∙ c.requires.turn ∙ sym (ap (λ x. x.name) c.self.view_is),
      omega (arith, i.0),
      takes _ _ _ _ _ _ c.self.inside.table.shared.table_id.slots s.seat.id s.seat.me
          (free_is _ _ c.seat.invariant free),
    )

-- a seat that found 0 has the slot
pub exchange-requires : goal.exchange-requires
exchange-requires g c =
    let f = c.compare_exchange-found.ensures in
    let slots = c.self.inside.table.shared.table_id.slots in
    let t =
    took g.C.Kept.keeps (step slots 0 0 1 none) c.seat.inside.seat.me c.compare_exchange-found.new.seat.me
    c.compare_exchange-found.result f.2 c.if-found-ne0.false in (
      f.0 ∙ (ap (λ x. x.turn) c.seat.view_is ∙ c.requires.turn ∙ sym (ap (λ x. x.name) c.self.view_is)),
      (Some t.0, first_of _ _ _ (ap (λ m. m.1) t.2)),
    )
