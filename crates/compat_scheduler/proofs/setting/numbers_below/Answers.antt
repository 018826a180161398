use Rattle.std.proofs.Common.{arith}
use Rattle.compat_scheduler.proofs.Ranges.{range_with_len_more}
use Rattle.compat_scheduler.proofs.setting.numbers_below.Goals as goal

pub loop-number-preserved : goal.loop-number-preserved
loop-number-preserved c = rw range_with_len_more (grind arith)
