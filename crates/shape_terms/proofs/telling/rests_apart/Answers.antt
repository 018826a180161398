use Rattle.shape_terms.specs.declared.shape.Shape.TheVariants.{Long}
use Rattle.shape_terms.specs.Sequences.{items}
use Rattle.shape_terms.proofs.PartLemmas.{told_back, told_of_same}
use Rattle.shape_terms.proofs.telling.rests_apart.Goals as goal

pub returns-then-len : goal.returns-then-len
returns-then-len c = c.crossed_apart.ensures c.args.back.now c.args.other_back.now

pub returns-then-len-2 : goal.returns-then-len-2
returns-then-len-2 c =
    told_back (items (Long c.args.other_front.now c.args.rest c.args.other_back.now))
    (items (Long c.args.front.now c.args.rest c.args.back.now))
    c.crossed_apart-then-len-2.result
    (c.crossed_apart-then-len-2.ensures c.args.other_back.now c.args.back.now)

pub returns : goal.returns
returns c =
    told_of_same c.args.rest c.parts_apart.result c.as_slice.ensures c.as_slice-2.ensures
    c.as_slice-3.ensures c.as_slice-4.ensures (c.parts_apart.ensures c.args.rest)
