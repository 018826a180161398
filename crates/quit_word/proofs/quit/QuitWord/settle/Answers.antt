use Rattle.std.proofs.Common.{◌≡◌, ℕ, Bool, false, length, All, arith, ap, sym, ◌∙◌, subst}
use Rattle.quit_word.proofs.Steps.{looks}
use Rattle.quit_word.specs.Seats.{FirstState}
use Rattle.quit_word.proofs.quit.QuitWord.settle.Goals as goal

pub load-requires : goal.load-requires
load-requires c = (
  ap (λ x. x.name) c.first.view_is ∙ c.requires.name ∙ sym c.self.view_is,
  omega (arith, c.self.invariant),
  looks _ _ _,
)

pub returns : goal.returns
returns c =
    let tells = c.load.ensures.2.1 in
    let all = subst (λ (f : FirstState). length f.held ≡ f.given) (sym c.first.view_is) c.requires.all in
    let none = subst (λ (f : FirstState).
    All (λ (h : ℕ × Bool). h.1 ≡ false) f.held) (sym c.first.view_is) c.requires.unmarked in
    ap (λ (f : FirstState). f.seen) (sym c.first.view_is)
    ∙ tells.nobody (tells.unnamed (ap (λ me. me.0.first) c.first.invariant.me_is) all none)
