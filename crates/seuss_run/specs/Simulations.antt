-- What `sim` prints.
use Rattle.std.specs.Prelude.{ℕ, List}
use Rattle.seuss_base.specs.Tables.{Table}
use Rattle.seuss_program.specs.Initials.{initial}
use Rattle.compat_matrix.specs.declared.certificate.Certificate.{Certificate}
use Rattle.compat_matrix.specs.Certificates.{AreLevels}
use Rattle.loose_records.specs.declared.record.Record.{Record}
use Rattle.loose_records.specs.Orders.{commit_order}
use Rattle.loose_records.specs.Turns.{IsRecordOfTurns}
use Rattle.loose_records.specs.Settings.{setting_of}
use Rattle.seuss_run.specs.Runs.{Reports}
use Rattle.seuss_run.specs.Verdicts.{Loaded}

-- Turns of so many virtual workers, the first ones by these, make a record: from the initial state with the
-- input, with the levels of the program's certificates and actions. The text is the report of the commit order
-- of this record and of its last state, and this order is lawful, and as good as executing its actions one at a
-- time.
pub record IsSimulated (given : Loaded) (rounds width : ℕ) (turns : List ℕ) (budget status : ℕ)
    (text : List ℕ) : Type 0 where
  pub certificates : List Certificate
  pub levels : Table
  pub are_levels : AreLevels given.0 certificates levels
  pub made : Record
  pub by_turns : IsRecordOfTurns (setting_of given.0 levels rounds budget) (initial given.0 given.1) width
      turns made
  pub reports : Reports given.0 given.1 rounds budget (commit_order made) made.last status text
