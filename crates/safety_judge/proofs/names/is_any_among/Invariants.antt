use Rattle.std.proofs.Common.{◌≡◌, drop}
use Rattle.safety_check.specs.Safety.{is_any_among}
use Rattle.safety_judge.proofs.names.is_any_among.Given as goal

abbrev pub invariant-loop-name : goal.invariant-loop-name
invariant-loop-name l = is_any_among (drop l.name-index l.some) l.names ≡ is_any_among l.some l.names
