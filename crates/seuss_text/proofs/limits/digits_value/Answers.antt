use Rattle.std.proofs.Common.{◌+◌, arith}
use Rattle.seuss_text.proofs.NumberLemmas.{digit_from, value_more, value_front}
use Rattle.seuss_text.proofs.limits.digits_value.Goals as goal

pub overflow_sub-next : goal.overflow_sub-next
overflow_sub-next c = digit_from _ (c.requires c.loop-digit.digit-index 0 c.loop-digit-test.true)

-- the digits so far are past the limit, and so are all of them
pub returns-then-next-limit : goal.returns-then-next-limit
returns-then-next-limit c within =
    let here = value_more c.args.digits.now c.loop-digit.digit-index c.loop-digit.value
    c.loop-digit-test.true (c.requires c.loop-digit.digit-index 0 c.loop-digit-test.true)
    c.loop-digit.invariant.value_is in
    omega (arith, value_front c.args.digits.now (c.loop-digit.digit-index + 1), here)

pub loop-digit-preserved : goal.loop-digit-preserved
loop-digit-preserved c = record {
  value_is = value_more c.args.digits.now c.loop-digit.digit-index c.loop-digit.value c.loop-digit-test.true
      (c.requires c.loop-digit.digit-index 0 c.loop-digit-test.true) c.loop-digit.invariant.value_is;
  within = c.if-next-limit.false;
}
