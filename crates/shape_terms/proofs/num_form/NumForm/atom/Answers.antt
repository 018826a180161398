use Rattle.std.proofs.Common.{◌∙◌, ap}
use Rattle.std.specs.Int.{w64}
use Rattle.std.proofs.lemmas.Int.{int_wrap_fits}
use Rattle.std.proofs.Math.IntN.{pos}
use Rattle.shape_terms.specs.Numbers.{number, unit}
use Rattle.shape_terms.proofs.LengthLemmas.{number_of_atom}
use Rattle.shape_terms.proofs.num_form.NumForm.atom.Goals as goal

pub returns-clause-value : goal.returns-clause-value
returns-clause-value c =
    λ p fits.
    ap (λ row. number (record { constant = pos 0; atoms = row; lengths = c.new.result }) p)
    c.in_ok-unit.ensures
    ∙ ap (λ row. number (record { constant = pos 0; atoms = unit c.args.number; lengths = row }) p)
    c.new.ensures
    ∙ number_of_atom c.args.number p ∙ int_wrap_fits w64 (p.atoms c.args.number) (fits.atoms c.args.number)
