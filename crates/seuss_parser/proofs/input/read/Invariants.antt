use Rattle.std.proofs.Common.{◌≡◌, ℕ, List, length, map}
use Rattle.std.specs.List.{flat_map}
use denote.Ref.{Bor}
use Rattle.seuss_parser.specs.Inputs.{words_of, AreNumbers}
use Rattle.seuss_parser.proofs.input.read.Given as goal

-- the words of the lines so far stand for these numbers
abbrev pub invariant-loop-bytes : goal.invariant-loop-bytes
invariant-loop-bytes l = record {
  numbers : AreNumbers (flat_map words_of (map (λ (x : Bor (List ℕ)). x.now) l.yielded)) l.numbers;
  lines : l.line ≡ length l.yielded;
}
