use Rattle.shape_terms.specs.Cases.{cases_of}
use Rattle.shape_terms.proofs.Members.{within_at}
use Rattle.shape_terms.proofs.Distinct.{vars_at_point, first_at_point, second_at_point}
use Rattle.shape_terms.proofs.laws.points_are_states.Goals as goal

pub returns-clause-state : goal.returns-clause-state
returns-clause-state c =
    λ pair x at a has. vars_at_point pair x at (within_at (cases_of pair) a.0 x a.1 a.2) has

pub returns-clause-first : goal.returns-clause-first
returns-clause-first c =
    λ pair x at a has. first_at_point pair x at (within_at (cases_of pair) a.0 x a.1 a.2) has

pub returns-clause-second : goal.returns-clause-second
returns-clause-second c =
    λ pair x at a has. second_at_point pair x at (within_at (cases_of pair) a.0 x a.1 a.2) has
