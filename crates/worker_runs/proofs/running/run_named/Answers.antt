use Rattle.std.proofs.Common.{◌≡◌, ◌<◌, ℕ, ap, subst, sym}
use Rattle.std.specs.Prelude.{IfOk}
use Rattle.loose_records.specs.declared.record.Record.{Record}
use Rattle.loose_records.specs.LooseRecords.{IsLoose}
use Rattle.pass_seats.specs.Names.{Names}
use Rattle.worker_runs.proofs.running.run_named.Goals as goal

pub run_engine-requires-clause-some : goal.run_engine-requires-clause-some
run_engine-requires-clause-some g c κs lives =
    subst (λ (n : ℕ). 0 < n) (sym (ap (λ (n : Names). n.seats) c.requires.names)) c.requires.workers

pub returns-clause-loose : goal.returns-clause-loose
returns-clause-loose g c =
    subst (λ (n : Names). IfOk c.run_engine.result (IsLoose n.setting)) c.requires.names c.run_engine.ensures.loose

pub returns-clause-first : goal.returns-clause-first
returns-clause-first g c =
    subst (λ (n : Names). IfOk c.run_engine.result (λ (r : Record). r.first ≡ n.first)) c.requires.names
    c.run_engine.ensures.first
