use Rattle.std.proofs.Common.{◌≡◌, drop, false}
use Rattle.seuss_text.specs.Reading.{after_gap}
use Rattle.seuss_text.proofs.gaps.gap_len.Given as goal

-- what is left behind the gap is left behind its rest
abbrev pub invariant-loop-at : goal.invariant-loop-at
invariant-loop-at l = after_gap (drop l.at l.text) l.in_comment ≡ after_gap l.text false
