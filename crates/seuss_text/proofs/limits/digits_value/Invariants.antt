use Rattle.std.proofs.Common.{◌≡◌, ◌≤◌, take}
use Rattle.seuss_text.specs.Limits.{decimal_value}
use Rattle.seuss_text.proofs.limits.digits_value.Given as goal

abbrev pub invariant-loop-digit : goal.invariant-loop-digit
invariant-loop-digit l = record {
  value_is : l.value ≡ decimal_value
      (take l.digit-index l.digits);
  within : l.value ≤ l.limit;
}
