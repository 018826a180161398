use Rattle.std.proofs.Common.{◌≡◌, ap, ◌∙◌, subst, pos}
use Rattle.std.specs.Prelude.{Option, unwrap_or, slice_index_or, IfOk}
use Rattle.std.proofs.lemmas.Option.{unwrap_or-slice_get}
use Rattle.shape_terms.specs.Numbers.{literal}
use Rattle.shape_terms.specs.declared.symbol.Symbol.{Symbol}
use Rattle.shape_terms.specs.declared.symbol.Symbol.TheVariants.{Number}
use Rattle.commute_certs.specs.Terms.{number_in}
use Rattle.commute_certs.proofs.foreseeing.form_at.Goals as goal

pub returns-in-None : goal.returns-in-None
returns-in-None c =
    let same : literal (pos 0) ≡ number_in
    (slice_index_or c.args.slots.now c.args.at (Number (literal (pos 0)))) =
    ap (λ (o : Option Symbol). number_in (unwrap_or o (Number (literal (pos 0))))) c.in-None.ensures.value
    ∙ ap number_in (unwrap_or-slice_get c.args.slots.now c.args.at (Number (literal (pos 0)))) in
    subst (λ z. IfOk c.literal.result (λ form. form ≡ z)) same c.literal.ensures.form
