use Rattle.seuss_print.proofs.Printable.{printable}
use Rattle.seuss_print.proofs.laws.parsed_is_printable.Goals as goal

pub returns : goal.returns
returns c = λ text tokens tree are limits p.
    printable text tokens tree (c.tokens_have_kinds.ensures text tokens are) limits p
