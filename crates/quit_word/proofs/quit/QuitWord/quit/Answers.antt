use Rattle.std.proofs.Common.{arith, ap, sym, ◌∙◌}
use Rattle.quit_word.specs.Seats.{mark_in}
use Rattle.quit_word.proofs.Steps.{quits}
use Rattle.quit_word.proofs.quit.QuitWord.quit.Goals as goal

pub compare_exchange-requires : goal.compare_exchange-requires
compare_exchange-requires c = (
  ap (λ x. x.name) c.worker.view_is ∙ c.requires.name ∙ sym c.self.view_is,
  omega (arith, c.self.invariant),
  quits c.worker.inside.number (mark_in c.worker.inside.seat.me.0.held) _ _ _
      (ap (λ me. me.0.held) c.worker.invariant.me_is),
)
