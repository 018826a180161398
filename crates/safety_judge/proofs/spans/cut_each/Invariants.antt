use Rattle.std.proofs.Common.{◌≡◌, take}
use Rattle.std.specs.List.{flat_map}
use Rattle.safety_check.specs.Spans.{cut_at}
use Rattle.safety_judge.proofs.spans.cut_each.Given as goal

abbrev pub invariant-loop-s : goal.invariant-loop-s
invariant-loop-s l = l.parts ≡ flat_map (cut_at l.c) (take l.s-index l.spans)
