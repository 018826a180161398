use Rattle.std.proofs.Common.{◌≡◌, map}
use Rattle.std.specs.List.{range_with_len}
use Rattle.shape_terms.specs.Cases.{exact_choice}
use Rattle.shape_terms.proofs.choices.sequence_choices.Given as goal

abbrev pub invariant-loop-length : goal.invariant-loop-length
invariant-loop-length l = l.choices ≡ map (exact_choice l.place) (range_with_len 0 l.length)
