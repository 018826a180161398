use Rattle.std.proofs.Common.{arith, ap, sym, ◌∙◌}
use Rattle.quit_word.proofs.Steps.{cells, joins, looks}
use Rattle.quit_word.proofs.quit.QuitWord.look_beside.Goals as goal

pub split_seat-copy-requires : goal.split_seat-copy-requires
split_seat-copy-requires c = (
  ap (λ x. x.name) c.view.view_is ∙ c.requires.names.1 ∙ sym c.self.view_is,
  omega (arith, c.self.invariant),
  cells _ _,
)

pub join_seat-requires : goal.join_seat-requires
join_seat-requires c = (
  ap (λ x. x.name) c.worker.view_is ∙ c.requires.names.0 ∙ sym c.self.view_is,
  c.split_seat-copy.ensures.3 ∙ ap (λ x. x.name) c.view.view_is ∙ c.requires.names.1 ∙ sym c.self.view_is,
  ap (λ me. me.1) c.split_seat-copy.ensures.4,
  omega (arith, c.self.invariant),
  joins _ _ _ _ (ap (λ me. me.0.first) c.split_seat-copy.ensures.4),
)

pub load-found-requires : goal.load-found-requires
load-found-requires c = (
  c.join_seat.ensures.0
      ∙ ap (λ x. x.name) c.worker.view_is ∙ c.requires.names.0 ∙ sym c.self.view_is,
  omega (arith, c.self.invariant),
  looks _ _ _,
)
