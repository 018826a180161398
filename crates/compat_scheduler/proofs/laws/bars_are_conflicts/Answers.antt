use Rattle.compat_scheduler.proofs.BarLemmas.{allowed_where_free, free_where_allowed}
use Rattle.compat_scheduler.proofs.BarLemmas.{allowed_of_none, none_of_allowed}
use Rattle.compat_scheduler.proofs.laws.bars_are_conflicts.Goals as goal

pub returns : goal.returns
returns c = record {
  one = λ s i j x slot. (allowed_where_free s i x j slot, free_where_allowed s i x j slot);
  none = λ s slots i x. (allowed_of_none s slots i x, none_of_allowed s slots i x);
}
