use Rattle.std.proofs.Common.{arith, ap, sym, ◌∙◌}
use Rattle.quit_word.proofs.Steps.{looks}
use Rattle.quit_word.proofs.quit.QuitWord.look.Goals as goal

pub load-found-requires : goal.load-found-requires
load-found-requires c = (
  ap (λ x. x.name) c.worker.view_is ∙ c.requires.name ∙ sym c.self.view_is,
  omega (arith, c.self.invariant),
  looks _ _ _,
)
