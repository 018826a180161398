use Rattle.std.proofs.Common.{◌≡◌, ℕ, ◌<◌, ◌≤◌}
use Rattle.compat_scheduler.specs.Counts.{counts_at, counts_with}
use Rattle.compat_scheduler.proofs.counting.uncount_leaver.Given as goal

-- the slots so far don't count the leaver any more, and the others' counts are as they were
abbrev pub invariant-loop-one : goal.invariant-loop-one
invariant-loop-one l =
    record {
      so_far : (i : ℕ) → i < l.one → counts_with l.setting i l.leaver l.mode (counts_at l.counts i)
          ≡ counts_at l.initial.counts i;
      rest : (i : ℕ) → l.one ≤ i → counts_at l.counts i ≡ counts_at l.initial.counts i;
    }
