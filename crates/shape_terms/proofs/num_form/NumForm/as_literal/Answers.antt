use Rattle.std.proofs.Common.{◌∙◌, ap, sym, subst, Option, Some, None}
use Rattle.std.specs.Prelude.{◌&&◌, if◌then◌else◌}
use Rattle.std.specs.Int.{w64}
use Rattle.std.proofs.lemmas.Int.{to_z-of_z}
use Rattle.std.proofs.Math.IntN.{ℤ}
use Rattle.shape_terms.specs.Rows.{SaysLiteral}
use Rattle.shape_terms.proofs.LiteralLemmas.{says_literal}
use Rattle.shape_terms.proofs.num_form.NumForm.as_literal.Goals as goal

pub returns-clause-value : goal.returns-clause-value
returns-clause-value c =
    let chosen : ℤ → Option ℤ =
    λ z. if c.is_zero-atoms.result && c.is_zero-lengths.result then Some z else None in
    subst (SaysLiteral c.args.self.now)
    (sym (c.literal_if.ensures
    ∙ ap chosen
    (to_z-of_z w64 c.constant.result (record { sfits = c.constant.type_inv }) ∙ c.constant.ensures.value)))
    (says_literal c.args.self.now c.is_zero-atoms.result c.is_zero-lengths.result c.constant.ensures.fits
    c.is_zero-atoms.ensures.says c.is_zero-lengths.ensures.says)
