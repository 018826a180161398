use Rattle.method_code.proofs.Phases.{rejection_place}
use Rattle.method_code.proofs.laws.rejection_place_only_rejects.Goals as goal

pub returns : goal.returns
returns c = rejection_place
