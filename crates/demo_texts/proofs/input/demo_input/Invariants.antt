use Rattle.std.proofs.Common.{◌≡◌, ◌+◌, pos, map}
use Rattle.std.specs.List.{range_with_len}
use Rattle.demo_texts.proofs.input.demo_input.Given as goal

-- the numbers so far
abbrev pub invariant-loop-n : goal.invariant-loop-n
invariant-loop-n l = l.numbers ≡ map (λ n. pos (n + 1)) (range_with_len 0 l.n)
