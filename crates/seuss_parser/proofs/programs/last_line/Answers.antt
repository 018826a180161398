use Rattle.std.proofs.Common.{refl, arith}
use Rattle.seuss_parser.proofs.LastLineLemmas.{last_line-last}
use Rattle.seuss_parser.proofs.programs.last_line.Goals as goal

pub returns-in-Some : goal.returns-in-Some
returns-in-Some c =
    last_line-last c.args.words.now.items c.args.words.now.len c.in-Some.word.now
    (omega (arith, c.args.words.now.ok.0)) (c.in-Some.ensures.variant.0 refl) c.in-Some.ensures.lookup
