use Rattle.std.proofs.Common.{◌≡◌, ◌-◌, List, length, slice_get, Some, sym, subst}
use Rattle.seuss_text.specs.declared.token.Token.{Token}
use Rattle.seuss_parser.proofs.LastLineLemmas.{tokens-last}
use Rattle.seuss_parser.proofs.single_expressions.end_line.Goals as goal

pub returns-in-Some : goal.returns-in-Some
returns-in-Some c = λ text. tokens-last text c.args.tokens.now.list c.in-Some.token.now
    (subst (λ (ts : List Token). slice_get ts (length ts - 1) ≡ Some c.in-Some.token.now)
    c.as_slice.ensures (sym c.in-Some.ensures.value))
