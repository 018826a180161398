-- What lasts over the loop of `first_partial_call`.
use Rattle.std.proofs.Common.{◌≡◌, drop}
use Rattle.seuss_program.specs.declared.tree.Ref.{Ref}
use Rattle.call_order.specs.Calls.{is_partial, in_bodies, in_cats}
use Rattle.call_order.specs.Firsts.{first_of}
use Rattle.call_order.proofs.calls.first_partial_call.Given as goal

abbrev pub invariant-loop-own : goal.invariant-loop-own
invariant-loop-own l =
    first_of (in_cats l.cats in_bodies (is_partial {N = Ref}) (drop l.own-index l.own-items))
    ≡ first_of (in_cats l.cats in_bodies (is_partial {N = Ref}) l.own-items)
