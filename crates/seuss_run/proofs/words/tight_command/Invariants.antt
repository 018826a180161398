use Rattle.std.proofs.Common.{◌≡◌, drop, map, string_bytes}
use Rattle.seuss_run.specs.Commands.{each_in, action_in}
use Rattle.seuss_run.proofs.WordLists.{goes_on}
use Rattle.seuss_run.proofs.words.tight_command.Given as goal

-- these are the actions of the words so far
abbrev pub invariant-loop-word : goal.invariant-loop-word
invariant-loop-word l =
    each_in action_in (map string_bytes l.words)
    ≡ goes_on action_in l.actions (map string_bytes (drop l.word-index l.words))
