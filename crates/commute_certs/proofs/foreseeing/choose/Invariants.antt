use Rattle.std.proofs.Common.{◌≡◌, drop}
use Rattle.commute_certs.specs.Foreseen.{choice}
use Rattle.commute_certs.proofs.foreseeing.choose.Given as goal

-- the alternatives from here on come to the same as all of them
abbrev pub invariant-loop-alternative : goal.invariant-loop-alternative
invariant-loop-alternative l =
    choice l.proc (drop l.alternative-index l.alternatives) l.places ≡ choice l.proc l.alternatives l.places
