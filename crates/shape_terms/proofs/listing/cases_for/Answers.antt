use Rattle.std.proofs.Common.{◌∙◌}
use Rattle.std.proofs.lemmas.List.Elements.{All-same}
use Rattle.shape_terms.proofs.CaseLemmas.{IsFew, few_counts, few_of_vars, few_of_params}
use Rattle.shape_terms.proofs.listing.cases_for.Goals as goal

pub cases_of-requires : goal.cases_of-requires
cases_of-requires c = few_counts c.as_slice-4.result.now c.as_slice-5.result.now c.as_slice-6.result.now
    (All-same IsFew c.as_slice-4.result.now _ (c.as_slice-4.ensures ∙ c.in_ok-vars.ensures)
    (few_of_vars _ _ _ _ _ c.requires.depths))
    (All-same IsFew c.as_slice-5.result.now _ (c.as_slice-5.ensures ∙ c.in_ok-firsts.ensures)
    (few_of_params _ _))
    (All-same IsFew c.as_slice-6.result.now _ (c.as_slice-6.ensures ∙ c.in_ok-seconds.ensures)
    (few_of_params _ _))
