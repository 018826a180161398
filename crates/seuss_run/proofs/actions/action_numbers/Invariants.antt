use Rattle.std.proofs.Common.{◌≡◌, drop, map, ◌++◌, Some}
use Rattle.seuss_run.specs.Commands.{action_word}
use Rattle.seuss_run.specs.Verdicts.{action_number}
use Rattle.seuss_run.proofs.actions.action_numbers.Given as goal

-- the names so far have these numbers
abbrev pub invariant-loop-pair : goal.invariant-loop-pair
invariant-loop-pair l =
    map (λ n. action_number l.program (action_word n)) l.names
    ≡ map Some l.numbers ++ map (λ n. action_number l.program (action_word n)) (drop l.pair-index l.names)
