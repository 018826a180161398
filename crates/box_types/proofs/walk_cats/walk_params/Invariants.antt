use Rattle.std.proofs.Common.{◌≡◌, drop}
use Rattle.box_types.specs.Faults.{test_of}
use Rattle.box_types.specs.Walks.{walked, param}
use Rattle.box_types.proofs.walk_cats.walk_params.Given as goal

abbrev pub invariant-loop-part : goal.invariant-loop-part
invariant-loop-part l =
    walked (λ n. param (test_of l.check) l.home.cats.now l.home.own.now l.home.number) l.part-index
    (drop l.part-index l.params) l.scope
    ≡ walked (λ n. param (test_of l.check) l.home.cats.now l.home.own.now l.home.number) 0 l.params
    l.initial.scope
