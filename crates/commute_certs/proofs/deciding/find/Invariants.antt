use Rattle.std.proofs.Common.{take}
use Rattle.commute_certs.specs.Decisions.{Seen}
use Rattle.commute_certs.proofs.deciding.find.Given as goal

abbrev pub invariant-loop-case : goal.invariant-loop-case
invariant-loop-case l = Seen l.first l.second (take l.case-index l.cases) l.found
