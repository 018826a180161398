use Rattle.seuss_program.specs.Programs.{vars_of}
use Rattle.pass_seats.specs.Opening.{names_of}
use Rattle.loose_records.specs.Settings.{setting_of}
use Rattle.test_runs.proofs.engines.one_of_two_gives_up.Given as goal

-- the engine over these tables
abbrev pub ghosts-refused_at-N-EngineNames : goal.ghosts-refused_at-N-EngineNames
ghosts-refused_at-N-EngineNames g a = record {
  names = names_of a.blank 2 (setting_of a.program.now a.rows 1 100) a.state;
}

-- its code and first state
abbrev pub ghosts-refused_at-N-CellNames : goal.ghosts-refused_at-N-CellNames
ghosts-refused_at-N-CellNames g a = record { code = a.code.now; first = vars_of a.state }

-- its ledger
abbrev pub ghosts-refused_at-N-Ledger : goal.ghosts-refused_at-N-Ledger
ghosts-refused_at-N-Ledger g a = record { name = a.blank.ledger; parts = a.blank.parts }
