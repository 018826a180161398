use Rattle.std.proofs.Common.{arith, ap, sym, ◌∙◌}
use Rattle.quit_word.proofs.Steps.{cells}
use Rattle.quit_word.proofs.quit.QuitWord.tell.Goals as goal

pub split_seat-seat-requires : goal.split_seat-seat-requires
split_seat-seat-requires c = (
  ap (λ x. x.name) c.worker.view_is ∙ c.requires.name ∙ sym c.self.view_is,
  omega (arith, c.self.invariant),
  cells _ _,
)
