use Rattle.seuss_program.specs.Values.{measure}
use Rattle.seuss_program.specs.declared.tree.Fun.TheVariants.{Front}
use Rattle.shape_terms.specs.Sequences.{items, front}
use Rattle.shape_terms.proofs.TakingLemmas.{items_taken, front_means}
use Rattle.shape_terms.proofs.seq_form.SeqForm.front.Goals as goal

pub returns-clause-value : goal.returns-clause-value
returns-clause-value c =
    items_taken (λ p. measure Front (items c.args.self.now p)) (front c.args.self.now) c.front.result
    (front_means c.args.self.now) c.front.ensures
