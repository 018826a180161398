-- The loop over attempts that are made one after the other.
use Rattle.std.proofs.Common.{◌≡◌, ◌++◌}
use Rattle.std.specs.Iterator.Adapters.{zip_first, zip_second}
use Rattle.std.specs.Slice.Iter.{iter_rest}
use Rattle.report_text.specs.TightReports.{tight_lines}
use Rattle.report_text.proofs.tight.push_attempts.Given as goal

-- with the attempts that are left, the text is that of all of them
abbrev pub invariant-loop-action : goal.invariant-loop-action
invariant-loop-action l =
    l.text ++ tight_lines l.program (iter_rest (zip_first l.action-iterator))
    (iter_rest (zip_second l.action-iterator))
    ≡ l.fn.text ++ tight_lines l.program l.actions l.outcomes
