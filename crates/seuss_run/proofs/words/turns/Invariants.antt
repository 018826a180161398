use Rattle.std.proofs.Common.{◌≡◌, ◌<◌, All, drop}
use Rattle.seuss_run.specs.Commands.{each_in, worker_in}
use Rattle.seuss_run.proofs.WordLists.{goes_on}
use Rattle.seuss_run.proofs.words.turns.Given as goal

-- these are the workers of the digits so far
abbrev pub invariant-loop-byte : goal.invariant-loop-byte
invariant-loop-byte l = record {
  read : each_in (worker_in l.width) l.bytes
      ≡ goes_on (worker_in l.width) l.turns (drop l.byte-index l.bytes);
  within : All (λ w. w < l.width) l.turns;
}
