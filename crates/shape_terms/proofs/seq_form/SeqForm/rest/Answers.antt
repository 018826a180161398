use Rattle.seuss_program.specs.Values.{measure}
use Rattle.seuss_program.specs.declared.tree.Fun.TheVariants.{Rest}
use Rattle.shape_terms.specs.Sequences.{items, rest}
use Rattle.shape_terms.proofs.TakingLemmas.{items_taken, rest_means}
use Rattle.shape_terms.proofs.seq_form.SeqForm.rest.Goals as goal

pub returns-clause-value : goal.returns-clause-value
returns-clause-value c =
    items_taken (λ p. measure Rest (items c.args.self.now p)) (rest c.args.self.now) c.rest.result
    (rest_means c.args.self.now) c.rest.ensures
