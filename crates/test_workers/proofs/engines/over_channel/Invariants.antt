use Rattle.seuss_program.specs.Programs.{vars_of}
use Rattle.pass_seats.specs.Opening.{names_of}
use Rattle.loose_records.specs.Settings.{setting_of}
use Rattle.test_workers.proofs.engines.over_channel.Given as goal

-- the engine over these tables
abbrev pub ghosts-by_hand-N-EngineNames : goal.ghosts-by_hand-N-EngineNames
ghosts-by_hand-N-EngineNames g a = record {
  names = names_of a.blank 2 (setting_of a.program.now a.rows 1 100) a.state;
}

-- its code and first state
abbrev pub ghosts-by_hand-N-CellNames : goal.ghosts-by_hand-N-CellNames
ghosts-by_hand-N-CellNames g a = record { code = a.code.now; first = vars_of a.state }

-- its ledger
abbrev pub ghosts-by_hand-N-Ledger : goal.ghosts-by_hand-N-Ledger
ghosts-by_hand-N-Ledger g a = record { name = a.blank.ledger; parts = a.blank.parts }
