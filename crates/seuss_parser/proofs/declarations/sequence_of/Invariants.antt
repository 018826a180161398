use Rattle.std.proofs.Common.{◌≡◌, take}
use Rattle.seuss_parser.proofs.declarations.sequence_of.Given as goal

abbrev pub invariant-loop-number : goal.invariant-loop-number
invariant-loop-number l = record { so_far : l.ints ≡ take l.number-index l.numbers }
