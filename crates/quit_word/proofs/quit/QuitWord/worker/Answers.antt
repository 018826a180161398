use Rattle.std.proofs.Common.{arith, ap, sym, ◌∙◌}
use Rattle.quit_word.proofs.Steps.{workers}
use Rattle.quit_word.proofs.quit.QuitWord.worker.Goals as goal

pub split_seat-seat-requires : goal.split_seat-seat-requires
split_seat-seat-requires c = (
  ap (λ x. x.name) c.first.view_is ∙ c.requires.name ∙ sym c.self.view_is,
  omega (arith, c.self.invariant),
  workers _ _ (ap (λ me. me.0.first) c.first.invariant.me_is)
      (omega (arith, c.requires.next, c.ranges.number.fits, ap (λ x. x.given) c.first.view_is)),
)
