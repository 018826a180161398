-- What lasts over the loop of `total_in_alternatives`.
use Rattle.std.proofs.Common.{◌≡◌, drop}
use Rattle.std.specs.List.{flat_map}
use Rattle.seuss_program.specs.declared.tree.Ref.{Ref}
use Rattle.seuss_program.specs.declared.tree.Name.{Name}
use Rattle.seuss_program.specs.declared.tree.Alternative.{Alternative}
use Rattle.call_order.specs.Calls.{is_total, lines_of, in_pre}
use Rattle.call_order.specs.Firsts.{first_of}
use Rattle.call_order.proofs.calls.total_in_alternatives.Given as goal

abbrev pub invariant-loop-part : goal.invariant-loop-part
invariant-loop-part l =
    first_of (flat_map (λ (a : Alternative Name). in_pre
    (lines_of l.seen.cats.now l.seen.given.now (is_total {N = Ref})) a.pre) (drop l.part-index l.parts))
    ≡ first_of (flat_map
    (λ (a : Alternative Name). in_pre (lines_of l.seen.cats.now l.seen.given.now (is_total {N = Ref}))
    a.pre) l.parts)
