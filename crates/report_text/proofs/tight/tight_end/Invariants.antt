-- The loop that looks for the first attempt that stopped.
use Rattle.std.proofs.Common.{◌≡◌}
use Rattle.std.specs.Iterator.Adapters.{zip_first, zip_second}
use Rattle.std.specs.Slice.Iter.{iter_rest}
use Rattle.report_text.specs.TightReports.{tight_end}
use Rattle.report_text.proofs.tight.tight_end.Given as goal

-- no attempt so far stopped
abbrev pub invariant-loop-action : goal.invariant-loop-action
invariant-loop-action l =
    tight_end l.actions l.outcomes
    ≡ tight_end (iter_rest (zip_first l.action-iterator)) (iter_rest (zip_second l.action-iterator))
