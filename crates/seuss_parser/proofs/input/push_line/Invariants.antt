use Rattle.std.proofs.Common.{◌≡◌, ℕ, ℤ, List, ◌++◌, map}
use denote.Ref.{Bor}
use Rattle.seuss_parser.specs.Inputs.{filled, AreNumbers}
use Rattle.seuss_parser.proofs.input.push_line.Given as goal

-- the numbers of the words so far stand at the end
abbrev pub invariant-loop-part : goal.invariant-loop-part
invariant-loop-part l =
    (zs : List ℤ) × AreNumbers (filled (map (λ (x : Bor (List ℕ)). x.now) l.yielded)) zs ×
    (l.numbers ≡ l.fn.numbers ++ zs)
