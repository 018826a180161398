use Rattle.meaning_laws.proofs.StartForms.{start-form}
use Rattle.seuss_program.specs.Initials.{initial}
use Rattle.safety_check.proofs.SafeProperties.{none-bad, safe-kept, runs-keep}
use Rattle.safety_check.proofs.laws.safe_properties_are_kept.Goals as goal

pub returns : goal.returns
returns c = record {
  kept = λ p property keeps is safe. safe-kept p keeps property is safe;
  runs = λ p property input actions budget keeps is safe small ends.
      runs-keep p keeps property is
      (none-bad p keeps property is safe) actions (initial p input)
      budget (start-form p input keeps small) ((safe-kept p keeps property is safe).initially input small)
      ends;
}
