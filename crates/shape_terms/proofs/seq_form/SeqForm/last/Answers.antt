use Rattle.seuss_program.specs.Values.{measure}
use Rattle.seuss_program.specs.declared.tree.Fun.TheVariants.{Last}
use Rattle.shape_terms.specs.Sequences.{items, last}
use Rattle.shape_terms.proofs.TakingLemmas.{number_taken, last_means}
use Rattle.shape_terms.proofs.seq_form.SeqForm.last.Goals as goal

pub returns-clause-value : goal.returns-clause-value
returns-clause-value c =
    number_taken (λ p. measure Last (items c.args.self.now p)) (last c.args.self.now) c.last.result
    (last_means c.args.self.now) c.last.ensures
