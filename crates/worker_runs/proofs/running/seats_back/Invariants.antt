use Rattle.std.proofs.Common.{◌≡◌, All, map, None}
use Rattle.engine_work.specs.declared.working.WorkerRecord.{WorkerRecord}
use Rattle.worker_runs.proofs.running.seats_back.Given as goal

-- the seats of the records so far, none of which has a refusal
abbrev pub invariant-loop-record : goal.invariant-loop-record
invariant-loop-record g l = record {
  seats : l.seats ≡ map (λ (r : WorkerRecord g.row.N.Denot). r.seat) l.yielded;
  none : All (λ (r : WorkerRecord g.row.N.Denot). r.refusal ≡ None) l.yielded;
}
