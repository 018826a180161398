use Rattle.std.proofs.Common.{◌≡◌, ◌++◌, drop}
use Rattle.box_types.specs.Namings.{alternatives}
use Rattle.box_types.proofs.naming_cats.make_alternatives.Given as goal

abbrev pub invariant-loop-part : goal.invariant-loop-part
invariant-loop-part l = l.made ++ alternatives l.home.cats.now l.home.own.now (drop l.part-index l.parts)
    l.scope ≡ alternatives l.home.cats.now l.home.own.now l.parts l.initial.scope
