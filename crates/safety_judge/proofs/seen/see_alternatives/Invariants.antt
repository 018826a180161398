use Rattle.std.proofs.Common.{◌≡◌, drop, map}
use Rattle.safety_check.specs.Texts.{seen_and, all_seen, in_alternative}
use Rattle.safety_judge.proofs.seen.see_alternatives.Given as goal

abbrev pub invariant-loop-a : goal.invariant-loop-a
invariant-loop-a l =
    seen_and l.seen (all_seen (map in_alternative (drop l.a-index l.alts)))
    ≡ seen_and l.initial.seen (all_seen (map in_alternative l.alts))
