use Rattle.std.proofs.Common.{◌≡◌, ◌++◌, take}
use Rattle.std.specs.List.{flat_map}
use Rattle.seuss_program.specs.declared.tree.Ref.{Ref}
use Rattle.seuss_program.specs.declared.tree.Alternative.{Alternative}
use Rattle.seuss_program.specs.Attempts.{locals_of, bound_local}
use Rattle.tight_order.proofs.entry.add_bound.Given as goal

abbrev pub invariant-loop-alternative : goal.invariant-loop-alternative
invariant-loop-alternative l =
    l.slots ≡ l.initial.slots ++ flat_map
    (λ (a : Alternative Ref). bound_local a.pre ++ flat_map locals_of a.body)
    (take l.alternative-index l.alternatives)
