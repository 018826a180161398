use Rattle.std.proofs.Common.{◌≡◌, ◌-◌}
use Rattle.shape_terms.specs.Cases.{atoms_from}
use Rattle.shape_terms.proofs.choices.atoms_from.Given as goal

abbrev pub invariant-loop-at : goal.invariant-loop-at
invariant-loop-at l = l.forms ≡ atoms_from l.first (l.at - l.first)
