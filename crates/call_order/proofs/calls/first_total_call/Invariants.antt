-- What lasts over the loop of `first_total_call`.
use Rattle.std.proofs.Common.{◌≡◌, drop}
use Rattle.seuss_program.specs.declared.tree.Ref.{Ref}
use Rattle.call_order.specs.Calls.{is_total, in_pres, in_cats}
use Rattle.call_order.specs.Firsts.{first_of}
use Rattle.call_order.proofs.calls.first_total_call.Given as goal

abbrev pub invariant-loop-own : goal.invariant-loop-own
invariant-loop-own l =
    first_of (in_cats l.cats in_pres (is_total {N = Ref}) (drop l.own-index l.own-items))
    ≡ first_of (in_cats l.cats in_pres (is_total {N = Ref}) l.own-items)
