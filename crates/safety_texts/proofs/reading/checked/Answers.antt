use Rattle.std.proofs.Common.{◌≡◌, [], ap, sym, subst, ◌∙◌, All}
use Rattle.std.specs.List.{flat_map}
use Rattle.safety_check.specs.Properties.{IsProperty}
use Rattle.safety_texts.specs.Readings.{HasKind}
use Rattle.safety_texts.specs.Verdicts.{undeclared, misshapen}
use Rattle.safety_texts.proofs.PropertyLemmas.{are_properties}
use Rattle.safety_texts.proofs.reading.checked.Goals as goal

pub returns-clause-properties : goal.returns-clause-properties
returns-clause-properties c =
    let p = c.args.program.now in
    let made = c.in_ok-properties.ensures.made in
    subst (All (IsProperty p)) (sym made)
    (are_properties p c.args.texts
    (subst (λ ts. flat_map (undeclared p) ts ≡ []) c.as_slice.ensures c.in_ok-find_undeclared.ensures)
    (subst (λ ps. flat_map misshapen ps ≡ []) (c.as_slice-2.ensures ∙ made) c.in_ok-find_misshapen.ensures)
    (subst (All (HasKind p)) made c.in_ok-properties.ensures.kinds))
