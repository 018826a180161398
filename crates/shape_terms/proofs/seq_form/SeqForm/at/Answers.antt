use Rattle.shape_terms.specs.Sequences.{at_literal}
use Rattle.shape_terms.proofs.PlaceLemmas.{at_taken, at_means}
use Rattle.shape_terms.proofs.seq_form.SeqForm.at.Goals as goal

pub returns-clause-value : goal.returns-clause-value
returns-clause-value c =
    at_taken c.args.self.now c.args.index.now
    (at_literal c.args.self.now c.as_literal-place.result) c.at.result
    (at_means c.args.self.now c.args.index.now c.as_literal-place.result c.as_literal-place.ensures.value)
    c.at.ensures
