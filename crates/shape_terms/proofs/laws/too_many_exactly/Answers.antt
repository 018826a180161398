use Rattle.std.proofs.Common.{◌≤◌, length, sym, subst}
use Rattle.shape_terms.specs.Cases.{cases_of}
use Rattle.shape_terms.specs.Counts.{counts_of, IsFirstAbove}
use Rattle.shape_terms.proofs.CountLemmas.{first_of}
use Rattle.shape_terms.proofs.RowCounts.{length_of_cases, few_exactly, at_least}
use Rattle.shape_terms.proofs.laws.too_many_exactly.Goals as goal

pub returns-clause-number : goal.returns-clause-number
returns-clause-number c = length_of_cases

pub returns-clause-none : goal.returns-clause-none
returns-clause-none c = few_exactly

pub returns-clause-first : goal.returns-clause-first
returns-clause-first c = λ pair count found. first_of (counts_of pair) count found

pub returns-clause-at_least : goal.returns-clause-at_least
returns-clause-at_least c = λ pair count found.
    let first : IsFirstAbove (counts_of pair) count = first_of (counts_of pair) count found in
    subst (λ n. n ≤ length (cases_of pair)) (sym first.value) (at_least pair first.many)
