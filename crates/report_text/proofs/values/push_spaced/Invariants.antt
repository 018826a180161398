-- The loop over the numbers of a sequence after the first one.
use Rattle.std.proofs.Common.{◌≡◌, ◌++◌, ◌∷◌, drop}
use Rattle.std.specs.Fmt.{signed_decimal}
use Rattle.std.specs.List.{flat_map}
use Rattle.seuss_program.specs.Reports.{spaced}
use Rattle.report_text.proofs.values.push_spaced.Given as goal

-- with the numbers that are left, the text is that of the whole sequence
abbrev pub invariant-loop-at : goal.invariant-loop-at
invariant-loop-at l =
    l.text ++ flat_map (λ y. 32 ∷ signed_decimal y) (drop l.at l.numbers) ≡ l.fn.text ++ spaced l.numbers
