use Rattle.shape_terms.specs.Cases.{cases_of}
use Rattle.shape_terms.proofs.Members.{contains, within_at}
use Rattle.shape_terms.proofs.Covered.{IsCovered, covered, kept_hints}
use Rattle.shape_terms.proofs.Distinct.{one_case}
use Rattle.shape_terms.proofs.NoCaseTwice.{one_place}
use Rattle.shape_terms.proofs.laws.each_state_is_of_one_case.Goals as goal

pub returns-clause-some : goal.returns-clause-some
returns-clause-some c = λ p cat semi pair state args others keeps is s a o.
    let found : IsCovered pair state args others =
    covered pair state args others (kept_hints p cat semi pair keeps is) s a o in
    (found.case, found.point, contains (cases_of pair) found.case found.within, found.numbers, found.values)

pub returns-clause-one : goal.returns-clause-one
returns-clause-one c =
    λ pair x y at there state args others a b u v. one_case pair x y at there state args others
    (within_at (cases_of pair) a.0 x a.1 a.2) (within_at (cases_of pair) b.0 y b.1 b.2) u v

pub returns-clause-once : goal.returns-clause-once
returns-clause-once c = one_place
