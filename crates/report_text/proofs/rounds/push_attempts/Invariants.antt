-- The loop over the attempts of a round.
use Rattle.std.proofs.Common.{◌≡◌, ◌++◌, take}
use Rattle.std.specs.List.{flat_map}
use Rattle.seuss_program.specs.Reports.{attempt_line}
use Rattle.report_text.proofs.rounds.push_attempts.Given as goal

-- the lines of the attempts so far stand after the text
abbrev pub invariant-loop-entry : goal.invariant-loop-entry
invariant-loop-entry l =
    l.text ≡ l.fn.text ++ flat_map (attempt_line l.program) (take l.entry-index l.entries)
