use Rattle.seuss_program.specs.Programs.{vars_of}
use Rattle.loose_records.specs.Settings.{setting_of}
use Rattle.pass_seats.specs.Opening.{names_of}
use Rattle.worker_runs.proofs.running.run_by_workers.Given as goal

-- the tables and the first state of this engine name it
abbrev pub ghosts-run_named-N-EngineNames : goal.ghosts-run_named-N-EngineNames
ghosts-run_named-N-EngineNames g a =
    record { names = names_of a.blank a.workers (setting_of a.program.now a.rows a.rounds a.budget) a.state }

abbrev pub ghosts-run_named-N-CellNames : goal.ghosts-run_named-N-CellNames
ghosts-run_named-N-CellNames g a = record { code = a.code.now; first = vars_of a.state }

abbrev pub ghosts-run_named-N-Ledger : goal.ghosts-run_named-N-Ledger
ghosts-run_named-N-Ledger g a = record { name = a.blank.ledger; parts = a.blank.parts }
