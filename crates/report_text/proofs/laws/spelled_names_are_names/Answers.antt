-- Letters, digits and `_` end no name.
use Rattle.report_text.proofs.WordLemmas.{spelled_name}
use Rattle.report_text.proofs.laws.spelled_names_are_names.Goals as goal

pub returns : goal.returns
returns c = λ name some is. spelled_name name some is
