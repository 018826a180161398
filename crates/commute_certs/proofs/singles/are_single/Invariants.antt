use Rattle.std.proofs.Common.{◌≡◌, drop}
use Rattle.method_code.specs.Singles.{are_single}
use Rattle.commute_certs.proofs.singles.are_single.Given as goal

abbrev pub invariant-loop-alternative : goal.invariant-loop-alternative
invariant-loop-alternative l =
    are_single (drop l.alternative-index l.alternatives) ≡ are_single l.alternatives
