use Rattle.std.proofs.Common.{◌≡◌, ◌-◌, length}
use Rattle.seuss_parser.specs.Words.{words_of}
use Rattle.safety_texts.specs.Readings.{IsReached}
use Rattle.safety_texts.proofs.lists.read_list.Given as goal

abbrev pub invariant-loop-at : goal.invariant-loop-at
invariant-loop-at l = IsReached (words_of l.text l.tokens.list) l.texts l.at

abbrev pub decreases-loop-at : goal.decreases-loop-at
decreases-loop-at l = length l.words.items - l.at
