use Rattle.seuss_program.specs.Values.{measure}
use Rattle.seuss_program.specs.declared.tree.Fun.TheVariants.{First}
use Rattle.shape_terms.specs.Sequences.{items, first}
use Rattle.shape_terms.proofs.TakingLemmas.{number_taken, first_means}
use Rattle.shape_terms.proofs.seq_form.SeqForm.first.Goals as goal

pub returns-clause-value : goal.returns-clause-value
returns-clause-value c =
    number_taken (λ p. measure First (items c.args.self.now p)) (first c.args.self.now) c.first.result
    (first_means c.args.self.now) c.first.ensures
