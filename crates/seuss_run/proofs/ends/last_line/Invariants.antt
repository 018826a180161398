use Rattle.std.proofs.Common.{◌≡◌, drop}
use Rattle.seuss_program.specs.Reports.{last_line}
use Rattle.seuss_run.proofs.ends.last_line.Given as goal

-- no attempt so far stopped the run
abbrev pub invariant-loop-placed : goal.invariant-loop-placed
invariant-loop-placed l = last_line (drop l.placed-index l.order) ≡ last_line l.order
