use Rattle.std.proofs.Common.{rules, ◌∙◌, sym, ap}
use Rattle.std.specs.Int.{w64}
use Rattle.std.specs.Int.RustNames.{FitsSigned}
use Rattle.std.proofs.lemmas.Int.{to_z-of_z}
use Rattle.safety_check.specs.Texts.{Side, number_look}
use Rattle.safety_judge.proofs.Growth.{unchanged}
use Rattle.safety_judge.proofs.TextNodes.{side-int, side-bool, side-empty, side-name, side-neg, side-not}
use Rattle.safety_judge.proofs.TextNodes.{side-one, side-two, part-cuts, look-neg, look-one, cuts-two}
use Rattle.safety_judge.proofs.seen.+add_cuts.Goals as goal

pub returns-in-Int : goal.returns-in-Int
returns-in-Int t c =
    let fits : FitsSigned w64 c.in-Int.z = search rules in
    let side = side-int c.args.expr.now c.in-Int.z c.in-Int.is in
    record {
      look = c.number_look.ensures ∙ ap number_look (to_z-of_z w64 c.in-Int.z fits) ∙ sym (ap (λ (s : Side). s.look) side);
      cuts = unchanged c.args.cuts.now _ (ap (λ (s : Side). s.cuts) side);
    }

pub returns-in-Bool : goal.returns-in-Bool
returns-in-Bool t c =
    let side = side-bool c.args.expr.now _ c.in-Bool.is in
    record {
      look = c.other_look.ensures ∙ sym (ap (λ (s : Side). s.look) side);
      cuts = unchanged c.args.cuts.now _ (ap (λ (s : Side). s.cuts) side);
    }

pub returns-in-Empty : goal.returns-in-Empty
returns-in-Empty t c =
    let side = side-empty c.args.expr.now c.in-Empty.is in
    record {
      look = c.other_look-in-Empty.ensures ∙ sym (ap (λ (s : Side). s.look) side);
      cuts = unchanged c.args.cuts.now _ (ap (λ (s : Side). s.cuts) side);
    }

pub returns-in-Name : goal.returns-in-Name
returns-in-Name t c =
    let side = side-name c.args.expr.now _ c.in-Name.is in
    record {
      look = c.name_look.ensures ∙ sym (ap (λ (s : Side). s.look) side);
      cuts = unchanged c.args.cuts.now _ (ap (λ (s : Side). s.cuts) side);
    }

pub returns-in_ok-add_cuts-in-Neg : goal.returns-in_ok-add_cuts-in-Neg
returns-in_ok-add_cuts-in-Neg t c = record {
  look = c.negated_look.ensures ∙ look-neg c.args.expr.now _ _ c.deref.ensures _ c.in-Neg.is
      c.in_ok-add_cuts-in-Neg.ensures.look;
  cuts = part-cuts c.args.expr.now _ _ c.deref.ensures c.args.cuts.now _
      (sym (ap (λ (s : Side). s.cuts) (side-neg c.args.expr.now _ c.in-Neg.is)))
      c.in_ok-add_cuts-in-Neg.ensures.cuts;
}

pub returns-in_ok-add_cuts-in-Not : goal.returns-in_ok-add_cuts-in-Not
returns-in_ok-add_cuts-in-Not t c =
    let side = side-not c.args.expr.now _ c.in-Not.is in
    record {
      look = c.other_look-in-Not.ensures ∙ sym (ap (λ (s : Side). s.look) side);
      cuts = part-cuts c.args.expr.now _ _ c.deref-in-Not.ensures c.args.cuts.now _
          (sym (ap (λ (s : Side). s.cuts) side)) c.in_ok-add_cuts-in-Not.ensures.cuts;
    }

pub returns-in_ok-add_cuts-in-One : goal.returns-in_ok-add_cuts-in-One
returns-in_ok-add_cuts-in-One t c = record {
  look = c.measured_look.ensures ∙ look-one c.args.expr.now _ _ c.deref-in-One.ensures _ _ c.in-One.is
      c.in_ok-add_cuts-in-One.ensures.look;
  cuts = part-cuts c.args.expr.now _ _ c.deref-in-One.ensures c.args.cuts.now _
      (sym (ap (λ (s : Side). s.cuts) (side-one c.args.expr.now _ _ c.in-One.is)))
      c.in_ok-add_cuts-in-One.ensures.cuts;
}

pub returns-in_ok-add_compared-in-Two : goal.returns-in_ok-add_compared-in-Two
returns-in_ok-add_compared-in-Two t c = record {
  look = c.other_look-in-Two.ensures
      ∙ sym (ap (λ (s : Side). s.look) (side-two c.args.expr.now _ _ _ c.in-Two.is));
  cuts = cuts-two c.args.expr.now _ _ _ _ _ _ _ c.args.cuts.now _ _ _ c.in-Two.is c.deref-in-Two.ensures
      c.deref-in-Two-2.ensures c.in_ok-l-in-Two.ensures.look c.in_ok-r-in-Two.ensures.look
      c.in_ok-l-in-Two.ensures.cuts c.in_ok-r-in-Two.ensures.cuts c.in_ok-add_compared-in-Two.ensures;
}
