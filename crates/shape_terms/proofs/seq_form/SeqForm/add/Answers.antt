use Rattle.std.proofs.Common.{List, ap, sym, ◌∙◌, Ok}
use Rattle.std.proofs.lemmas.Result.{IfOk-weaker}
use Rattle.std.proofs.Math.IntN.{ℤ}
use Rattle.seuss_program.specs.Values.{Evaluated}
use Rattle.seuss_program.specs.declared.state.Value.TheVariants.{Seq}
use Rattle.shape_terms.specs.Sequences.{items}
use Rattle.shape_terms.proofs.TakingLemmas.{add_means}
use Rattle.shape_terms.proofs.seq_form.SeqForm.add.Goals as goal

pub returns-clause-value : goal.returns-clause-value
returns-clause-value c = IfOk-weaker c.add.result _ _ (λ more same p.
    let said : List ℤ → Evaluated = λ zs. Ok (Seq zs) in
    ap said (add_means c.args.self.now c.args.item.now p ∙ ap (λ s. items s p) (sym same))) c.add.ensures
