use Rattle.std.proofs.Common.{◌≡◌, sym, ap, ◌∙◌, subst, drop}
use Rattle.seuss_program.specs.declared.tree.Tree.{Tree}
use Rattle.seuss_program.specs.WellFormed.{IsWellFormed}
use Rattle.box_types.specs.Namings.{named, program_of}
use Rattle.box_types.specs.Refusals.{IsAccepted}
use Rattle.box_types.proofs.resolving.resolve.Goals as goal

pub invariant_of-result : goal.invariant_of-result
invariant_of-result c =
    let same : c.without_built_ins.result ≡ c.args.tree =
    c.without_built_ins.ensures ∙ ap (λ (w : Tree). record { cats = drop 2 w.cats; boxes = w.boxes })
    c.in_ok-whole.ensures in (
      subst (λ (t : Tree). IsWellFormed t) (sym same) c.requires,
      subst (λ (t : Tree). IsAccepted t) (sym same)
          (c.in_ok-judge.ensures c.args.tree c.in_ok-whole.ensures),
      c.in_ok-program.ensures ∙ (ap program_of c.in_ok-whole.ensures ∙ ap named (sym same)),
    )
