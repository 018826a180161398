use Rattle.std.proofs.Common.{◌≡◌, drop}
use Rattle.safety_check.specs.Regions.{forgotten}
use Rattle.safety_judge.proofs.frames.forgotten.Given as goal

-- what is left to forget leads to the same as the whole
abbrev pub invariant-loop-name : goal.invariant-loop-name
invariant-loop-name l = forgotten (drop l.name-index l.names) l.frame ≡ forgotten l.names l.initial.frame
