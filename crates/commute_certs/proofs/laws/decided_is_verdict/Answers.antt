use Rattle.commute_certs.proofs.VerdictLemmas.{decided}
use Rattle.commute_certs.proofs.laws.decided_is_verdict.Goals as goal

pub returns : goal.returns
returns c = λ p cat semi pair v keeps there single few d.
    decided pair (λ state args others s a b.
    c.each_state_is_of_one_case.ensures.some p cat semi pair state args others keeps there s a b)
    (c.points_are_states.ensures.state pair) (c.points_are_states.ensures.first pair)
    (c.points_are_states.ensures.second pair) single few v d
