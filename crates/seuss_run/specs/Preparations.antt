-- What is made of a loaded program once.
use Rattle.std.specs.Prelude.{ℕ, ◌≤◌}
use Rattle.seuss_program.specs.Keeping.{Keeps}
use Rattle.method_code.specs.Plans.{AreMadeFrom}
use Rattle.compat_matrix.specs.Certificates.{AreLevels}
use Rattle.loose_records.specs.Settings.{IsSetting, setting_of}
use Rattle.seuss_run.specs.declared.preparing.Prepared.{Prepared}

-- The program keeps its checks. The code and the plan are its own, and the levels are those that its
-- certificates and its actions give, with which it is set up for a run.
pub record IsPrepared (made : Prepared) : Type 0 where
  pub keeps : Keeps made.job.program
  pub code : AreMadeFrom made.job.program made.code made.plan
  pub levels : AreLevels made.job.program made.job.certificates made.rows
  pub settings : (rounds budget : ℕ) → 1 ≤ budget → budget ≤ 1000000 →
      IsSetting (setting_of made.job.program made.rows rounds budget)
