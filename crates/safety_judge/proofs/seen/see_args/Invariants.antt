use Rattle.std.proofs.Common.{◌≡◌, drop, map}
use Rattle.safety_check.specs.Texts.{seen_and, all_seen, in_expr}
use Rattle.safety_judge.proofs.seen.see_args.Given as goal

abbrev pub invariant-loop-arg : goal.invariant-loop-arg
invariant-loop-arg l =
    seen_and l.seen (all_seen (map in_expr (drop l.arg-index l.args)))
    ≡ seen_and l.initial.seen (all_seen (map in_expr l.args))
