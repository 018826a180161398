use Rattle.std.proofs.Common.{◌≤◌, length, sym, subst}
use Rattle.seuss_print.specs.Items.{tokens_in}
use Rattle.seuss_print.proofs.Printable.{program-words}
use Rattle.seuss_print.proofs.Unlined.{printed-alike}
use Rattle.seuss_print.proofs.laws.fewest_tokens.Goals as goal

pub returns : goal.returns
returns c = λ text tokens tree other are limits p same.
    subst (λ items. length (tokens_in items) ≤ length tokens) (sym (printed-alike tree other same))
    (program-words text tokens other (c.tokens_have_kinds.ensures text tokens are) limits p)
