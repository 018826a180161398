use Rattle.std.proofs.Common.{subst}
use Rattle.seuss_print.specs.Items.{tokens_in}
use Rattle.seuss_print.specs.Places.{StandsAt}
use Rattle.seuss_print.proofs.PlaceLemmas.{stands-printed, stands-bare}
use Rattle.seuss_print.proofs.laws.parentheses_are_needed.Goals as goal

pub returns-clause-printed : goal.returns-clause-printed
returns-clause-printed c = λ level e small. stands-printed level e small

pub returns-clause-bare : goal.returns-clause-bare
returns-clause-bare c = λ level e small good. (
  λ bare. subst (λ items. StandsAt level (tokens_in items) e) bare (stands-printed level e small),
  λ stands. stands-bare level e small good stands,
)
