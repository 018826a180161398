use Rattle.std.proofs.Common.{◌≡◌, ◌≤◌, ◌++◌, length, take}
use Rattle.seuss_parser.specs.Words.{words_of}
use Rattle.seuss_parser.proofs.spelling.text_words.Given as goal

abbrev pub invariant-loop-at : goal.invariant-loop-at
invariant-loop-at l = record {
  so_far : words_of l.text (take l.at l.tokens.list)
      ≡ words_of l.text (take l.from l.tokens.list) ++ l.words.items;
  within : l.at ≤ length l.tokens.list;
}
