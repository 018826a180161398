use Rattle.std.proofs.Common.{◌++◌, ◌∷◌, [], List, map, ap, sym, subst, ◌∙◌, All}
use Rattle.std.specs.List.{flat_map}
use Rattle.std.proofs.lemmas.List.Elements.{All-push}
use Rattle.safety_check.specs.declared.property.Property.{Property}
use Rattle.safety_texts.specs.Readings.{HasKind}
use Rattle.safety_texts.specs.Verdicts.{property_of, unresolved}
use Rattle.safety_texts.proofs.PropertyLemmas.{same_more, made_more}
use Rattle.safety_texts.proofs.reading.resolve_all.Goals as goal

pub loop-text-preserved : goal.loop-text-preserved
loop-text-preserved c =
    let p = c.args.program.now in
    let i = c.loop-text.invariant in
    let steps = c.in-Some.ensures.steps.0 in
    let rest = c.next.new.self.rest.items in
    let pushed = c.in_ok-push.ensures.ok in
    record {
      same = same_more p c.in-Some.text rest c.args.texts
          (i.same ∙ ap (flat_map (unresolved p)) steps) c.in_ok-resolve_one.ensures.refuses;
      made_so_far = made_more p c.in-Some.text rest c.args.texts c.loop-text.made
          (i.made_so_far ∙ ap (λ ts. c.loop-text.made ++ map (property_of p) ts) steps)
          ∙ ap (λ (ps : List Property). ps ++ map (property_of p) rest)
          (ap (λ (x : Property). c.loop-text.made ++ x ∷ []) (sym c.in_ok-resolve_one.ensures.made)
          ∙ sym pushed);
      kinds = subst (All (HasKind p)) (sym pushed)
          (All-push (HasKind p) c.loop-text.made c.in_ok-resolve_one.field-0 i.kinds
          c.in_ok-resolve_one.ensures.kind);
    }
