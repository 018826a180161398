use Rattle.std.proofs.Common.{◌≡◌, ◌∷◌, ◌++◌, drop}
use Rattle.std.specs.Fmt.{signed_decimal}
use Rattle.std.specs.List.{flat_map}
use Rattle.run_records.proofs.head.push_input.Given as goal

-- with the numbers that are left the text is that of all of them
abbrev pub invariant-loop-at : goal.invariant-loop-at
invariant-loop-at l = l.text ++ flat_map (λ z. 32 ∷ signed_decimal z) (drop l.at l.input)
    ≡ l.fn.text ++ flat_map (λ z. 32 ∷ signed_decimal z) l.input
