use Rattle.std.proofs.Common.{◌≡◌, ℕ, ◌≤◌, length, take, drop}
use Rattle.seuss_base.specs.Sinks.{Adds}
use Rattle.seuss_run.proofs.writing.write_all.Given as goal

-- a front of the bytes was written, and the others are left
abbrev pub invariant-loop-rest : goal.invariant-loop-rest
invariant-loop-rest g l =
    (n : ℕ) × (n ≤ length l.bytes) × (l.rest ≡ drop n l.bytes)
    × Adds (g.W.Sink.written l.initial.sink) (g.W.Sink.written l.sink) (take n l.bytes)
    × (g.W.Sink.faults l.initial.sink ≤ g.W.Sink.faults l.sink)

abbrev pub decreases-loop-rest : goal.decreases-loop-rest
decreases-loop-rest g l = length l.rest
