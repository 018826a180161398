use Rattle.std.proofs.Common.{◌+◌, ◌-◌, ◌≤◌, vec_len}
use Rattle.seuss_run.specs.Readings.{Takes}
use Rattle.seuss_run.specs.declared.reading.TheConstants.{MOST_BYTES, PIECE}
use Rattle.seuss_run.proofs.reading.read_all.Given as goal

-- the bytes so far were taken
abbrev pub invariant-loop-source : goal.invariant-loop-source
invariant-loop-source g l = record {
  taken : Takes (g.R.Source.left l.initial.source) (g.R.Source.left l.source) l.bytes.items;
  few : vec_len l.bytes ≤ MOST_BYTES + PIECE;
  counted : g.R.Source.faults l.initial.source ≤ g.R.Source.faults l.source;
}

abbrev pub decreases-loop-source : goal.decreases-loop-source
decreases-loop-source g l = (MOST_BYTES + 1) - vec_len l.bytes
