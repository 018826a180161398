use Rattle.std.proofs.Common.{◌-◌, length}
use Rattle.seuss_run.proofs.SplitLemmas.{IsPast}
use Rattle.seuss_run.proofs.split.split.Given as goal

-- the lines so far are no markers
abbrev pub invariant-loop-start : goal.invariant-loop-start
invariant-loop-start l = IsPast l.bytes l.start

abbrev pub decreases-loop-start : goal.decreases-loop-start
decreases-loop-start l = length l.bytes - l.start
