use Rattle.std.proofs.Common.{◌≡◌, ◌++◌, take}
use Rattle.shape_terms.specs.Points.{point_of}
use Rattle.shape_terms.specs.Sequences.{numbers}
use Rattle.shape_terms.proofs.values.push_numbers.Given as goal

abbrev pub invariant-loop-form : goal.invariant-loop-form
invariant-loop-form l = l.numbers ≡ l.fn.numbers ++ numbers (take l.form-index l.forms) (point_of l.at)
