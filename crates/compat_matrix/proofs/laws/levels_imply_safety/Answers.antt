use Rattle.method_code.specs.Codes.{compiled}
use Rattle.compat_matrix.specs.Rule.{none_certified}
use Rattle.compat_matrix.proofs.SingleCalls.{single_quiet}
use Rattle.compat_matrix.proofs.Safety.{safe, none_sound}
use Rattle.compat_matrix.proofs.laws.levels_imply_safety.Goals as goal

pub returns : goal.returns
returns c = record {
  certified = λ p certified a b level wanted keeps action other sound is enough real.
      safe p keeps (c.rejection_place_only_rejects.ensures p) (c.late_steps_are_behind_calls.ensures p)
      c.later_places_are_behind_calls.ensures
      (c.step_stays_in_sets.ensures (compiled p)) (c.early_step_stays_in_tests.ensures (compiled p))
      single_quiet certified sound a b action other level wanted is enough real;
  plain = λ p a b level wanted keeps action other is enough real.
      safe p keeps (c.rejection_place_only_rejects.ensures p) (c.late_steps_are_behind_calls.ensures p)
      c.later_places_are_behind_calls.ensures
      (c.step_stays_in_sets.ensures (compiled p)) (c.early_step_stays_in_tests.ensures (compiled p))
      single_quiet none_certified (none_sound p) a b action other level wanted is enough real;
}
