use Rattle.compat_scheduler.proofs.OverlapLemmas.{overlapping}
use Rattle.compat_scheduler.proofs.laws.overlaps_are_allowed.Goals as goal

pub returns : goal.returns
returns c = record {
  newcomer = λ s front rest m p q run opened. (overlapping s front rest m p q run opened).0;
  other = λ s front rest m p q run opened. (overlapping s front rest m p q run opened).1;
  newcomer_kept = λ s front rest m p q run opened. (overlapping s front rest m p q run opened).3;
  other_kept = λ s front rest m p q run opened. (overlapping s front rest m p q run opened).2;
}
