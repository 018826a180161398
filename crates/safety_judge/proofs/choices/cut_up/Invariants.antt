use Rattle.std.proofs.Common.{◌≡◌, ◌∷◌, [], drop}
use Rattle.safety_check.specs.Spans.{cut_up}
use Rattle.safety_check.specs.Texts.{cuts_at}
use Rattle.safety_judge.proofs.choices.cut_up.Given as goal

abbrev pub invariant-loop-cut : goal.invariant-loop-cut
invariant-loop-cut l = cut_up (cuts_at l.name (drop l.cut-index l.cuts)) l.parts
    ≡ cut_up (cuts_at l.name l.cuts) (l.fn.whole ∷ [])
