-- What is called safe holds throughout.
use Rattle.std.proofs.Common.{◌≡◌, ℕ, ℤ, List, ap, subst}
use Rattle.std.specs.Prelude.{All, IsTrue, Result, Ok, Err, IfOk}
use Rattle.seuss_program.specs.declared.program.Program.{Program}
use Rattle.seuss_program.specs.Attempts.{tight}
use Rattle.seuss_program.specs.Initials.{initial}
use Rattle.seuss_program.specs.Values.{fits}
use Rattle.safety_check.specs.declared.property.Property.{Property}
use Rattle.safety_check.specs.Properties.{All_ended, Holds, IsKept}
use Rattle.safety_check.specs.Safety.{IsAnswer, IsSafe}
use Rattle.safety_check.specs.declared.safety.Safety.{Safety}
use Rattle.safety_check.specs.declared.safety.Safety.TheVariants.{Safe}
use Rattle.seuss_run.specs.Holding.{HoldsThroughout}
use Rattle.seuss_run.specs.PropertyReports.{IsJudged}
use Rattle.seuss_run.specs.Runs.{Reports}
use Rattle.seuss_run.proofs.FrontRuns.{along}
use Rattle.seuss_run.proofs.RunInputs.{run_fits}

module _ (p : Program) (property : Property) where
  -- it holds after each row of attempts that are accepted or rejected
  abbrev pub HoldsAfterRows : Type 0
  HoldsAfterRows = (input : List ℤ) (actions : List ℕ) (budget : ℕ) → All (λ z. IsTrue (fits z)) input →
      All_ended (tight p actions (initial p input) budget).outcomes →
      Holds p property (tight p actions (initial p input) budget).state

  -- so it holds throughout
  throughout : IsKept p property → HoldsAfterRows → HoldsThroughout p property
  throughout kept rows = record {
    kept = kept;
    rows = rows;
    runs = λ c bytes given rounds budget status order state text verdict same reports.
        along p property given.1 rounds budget status order state text
        (λ actions. rows given.1 actions budget (run_fits c bytes given verdict))
        (subst (λ (q : Program). Reports q given.1 rounds budget order state status text) same reports);
  }

  -- the exact answer is judged, by what is said of safe properties
  pub judged_by : {E : Type 0} (made : Result Safety E) → IfOk made (IsAnswer p property) →
      (made ≡ Ok Safe → IsKept p property) → (IsSafe p property → HoldsAfterRows) →
      IfOk made (IsJudged p property)
  judged_by (Ok answer) exact kept rows = record {
    exact = exact;
    throughout = λ safe. throughout (kept (ap Ok safe)) (rows (subst (IsAnswer p property) safe exact));
  }
  judged_by (Err e) exact kept rows = tt
