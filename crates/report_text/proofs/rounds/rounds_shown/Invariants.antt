-- The loop that looks for the first attempt that stopped the run.
use Rattle.std.proofs.Common.{◌≡◌, drop}
use Rattle.seuss_program.specs.Reports.{rounds_shown}
use Rattle.report_text.proofs.rounds.rounds_shown.Given as goal

-- no entry so far stopped the run
abbrev pub invariant-loop-entry : goal.invariant-loop-entry
invariant-loop-entry l =
    rounds_shown l.slots l.rounds l.order ≡ rounds_shown l.slots l.rounds (drop l.entry-index l.order)
