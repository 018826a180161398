use Rattle.std.proofs.Common.{rules, ◌∙◌, sym, ap}
use Rattle.std.specs.Int.{w64}
use Rattle.std.specs.Int.RustNames.{FitsSigned}
use Rattle.std.proofs.lemmas.Int.{to_z-of_z}
use Rattle.safety_check.specs.Regions.{regions_of}
use Rattle.safety_check.specs.RegionValues.{sides, plain_side, negated_side, both_sides, measured_side, number_side}
use Rattle.safety_check.specs.declared.region.Region.TheVariants.{Lengths}
use Rattle.std.specs.Prelude.{Some}
use Rattle.safety_judge.proofs.SideNodes.{int-is, bool-is, empty-is, name-is, neg-is, not-is, one-is, two-is}
use Rattle.safety_judge.proofs.SideNodes.{told-as}
use Rattle.safety_judge.proofs.sides.+sides_in.Goals as goal

pub returns-in-Int : goal.returns-in-Int
returns-in-Int t c =
    let fits : FitsSigned w64 c.in-Int.z = search rules in
    c.number_side.ensures ∙ (ap number_side (to_z-of_z w64 c.in-Int.z fits)
    ∙ sym (int-is (regions_of c.args.frame.now) c.args.expr.now _ c.in-Int.is))

pub returns-in-Bool : goal.returns-in-Bool
returns-in-Bool t c = c.plain_side.ensures ∙ (ap plain_side c.truth.ensures
    ∙ sym (bool-is (regions_of c.args.frame.now) c.args.expr.now _ c.in-Bool.is))

pub returns-in-Empty : goal.returns-in-Empty
returns-in-Empty t c = c.plain_side-in-Empty.ensures ∙ (ap (λ s. plain_side (Some (Lengths s))) c.single.ensures
    ∙ sym (empty-is (regions_of c.args.frame.now) c.args.expr.now c.in-Empty.is))

pub returns-in-Name : goal.returns-in-Name
returns-in-Name t c = c.plain_side-in-Name.ensures ∙ (ap (λ r. plain_side (Some r)) c.region_of.ensures
    ∙ sym (name-is (regions_of c.args.frame.now) c.args.expr.now _ c.in-Name.is))

pub returns-in_ok-sides_in-in-Neg : goal.returns-in_ok-sides_in-in-Neg
returns-in_ok-sides_in-in-Neg t c =
    told-as c.negated_side.result (negated_side c.in_ok-sides_in-in-Neg.field-0)
    (sides (regions_of c.args.frame.now) c.args.expr.now)
    (neg-is (regions_of c.args.frame.now) c.args.expr.now _ _ _ c.in-Neg.is c.deref.ensures
    c.in_ok-sides_in-in-Neg.ensures) c.negated_side.ensures

pub returns-in_ok-sides_in-in-Not : goal.returns-in_ok-sides_in-in-Not
returns-in_ok-sides_in-in-Not t c = c.inverted_side.ensures
    ∙ not-is (regions_of c.args.frame.now) c.args.expr.now _ _ _ c.in-Not.is c.deref-in-Not.ensures
    c.in_ok-sides_in-in-Not.ensures

pub returns-in_ok-r-in-Two : goal.returns-in_ok-r-in-Two
returns-in_ok-r-in-Two t c =
    told-as c.both_sides.result (both_sides c.in-Two.op c.in_ok-l-in-Two.l c.in_ok-r-in-Two.r)
    (sides (regions_of c.args.frame.now) c.args.expr.now)
    (two-is (regions_of c.args.frame.now) c.args.expr.now _ _ _ _ _ _ _ c.in-Two.is c.deref-in-Two.ensures
    c.deref-in-Two-2.ensures c.in_ok-l-in-Two.ensures c.in_ok-r-in-Two.ensures) c.both_sides.ensures

pub returns-in_ok-sides_in-in-One : goal.returns-in_ok-sides_in-in-One
returns-in_ok-sides_in-in-One t c =
    told-as c.measured_side.result (measured_side c.in-One.fun c.in_ok-sides_in-in-One.field-0)
    (sides (regions_of c.args.frame.now) c.args.expr.now)
    (one-is (regions_of c.args.frame.now) c.args.expr.now _ _ _ _ c.in-One.is c.deref-in-One.ensures
    c.in_ok-sides_in-in-One.ensures) c.measured_side.ensures
