use Rattle.std.proofs.Common.{◌≡◌, length, arith}
use Rattle.std.specs.List.{range_with_len}
use Rattle.std.proofs.lemmas.List.FromFn.{length-range_with_len}
use Rattle.compat_scheduler.proofs.Ranges.{range_with_len_below}
use Rattle.compat_scheduler.proofs.setting.one_for_each.Goals as goal

-- each slot's action is its own number
pub invariant_of-result : goal.invariant_of-result
invariant_of-result c =
    let same : c.in_ok-slots.slots.items ≡ range_with_len 0 c.args.actions = c.in_ok-slots.ensures in
    let long : length (range_with_len 0 c.args.actions) ≡ c.args.actions =
    length-range_with_len 0 c.args.actions in
    rw same (
      λ k d h. omega (arith, range_with_len_below c.args.actions k d h),
      rw long c.requires.few,
      omega arith,
    )
