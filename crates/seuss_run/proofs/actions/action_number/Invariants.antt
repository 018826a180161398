use Rattle.std.proofs.Common.{◌≡◌, drop, Some}
use Rattle.std.specs.List.{position_from}
use Rattle.std.specs.Str.{bytes_eq}
use Rattle.seuss_program.specs.Reports.{action_name}
use Rattle.seuss_run.specs.Verdicts.{action_number}
use Rattle.seuss_run.proofs.actions.action_number.Given as goal

-- no action so far is printed so
abbrev pub invariant-loop-at : goal.invariant-loop-at
invariant-loop-at l =
    position_from (λ a. bytes_eq (action_name l.program (Some a)) l.word) l.at (drop l.at l.program.actions)
    ≡ action_number l.program l.word
