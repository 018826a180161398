use Rattle.std.proofs.Common.{◌∙◌, sym}
use Rattle.shape_terms.specs.Sequences.{numbers}
use Rattle.shape_terms.proofs.PartLemmas.{fronts_apart, backs_apart, not_told}
use Rattle.shape_terms.proofs.telling.parts_apart.Goals as goal

pub returns-then-is_some : goal.returns-then-is_some
returns-then-is_some c =
    λ r.
    fronts_apart c.args.front.now c.args.back.now c.args.other_front.now c.args.other_back.now r
    c.lists_apart-apart.result
    c.requires.fronts (sym c.is_some.ensures ∙ c.if-is_some.true) c.lists_apart-apart.ensures

pub returns : goal.returns
returns c =
    λ r.
    backs_apart c.args.front.now c.args.back.now c.args.other_front.now c.args.other_back.now r
    c.lists_apart.result
    (not_told (numbers c.args.front.now) (numbers c.args.other_front.now) c.lists_apart-apart.result
    (sym c.is_some.ensures ∙ c.if-is_some.false) c.lists_apart-apart.ensures) c.lists_apart.ensures
