use Rattle.std.proofs.Common.{subst, sym}
use Rattle.shape_terms.specs.Points.{TellsApart}
use Rattle.shape_terms.specs.Numbers.{number}
use Rattle.shape_terms.proofs.ApartLemmas.{first_tells}
use Rattle.shape_terms.proofs.num_form.NumForm.tell_apart.Goals as goal

pub returns : goal.returns
returns c =
    subst (λ r. TellsApart (number c.args.self.now) (number c.args.other.now) r) (sym c.first_apart.ensures)
    (first_tells c.args.self.now c.args.other.now c.constants_differ-constants.result
    c.rows_apart-atoms.result c.rows_apart-lengths.result
    c.constants_differ-constants.ensures c.rows_apart-atoms.ensures c.rows_apart-lengths.ensures)
