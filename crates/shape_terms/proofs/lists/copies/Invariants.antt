use Rattle.std.proofs.Common.{◌≡◌, take}
use Rattle.shape_terms.proofs.lists.copies.Given as goal

abbrev pub invariant-loop-form : goal.invariant-loop-form
invariant-loop-form l = l.copied ≡ take l.form-index l.forms
