-- What reading some words of an input does.
use Rattle.std.specs.Prelude.{◌≡◌, ℕ, ℤ, List, ◌++◌, Any, Result, Ok, Err}
use Rattle.seuss_parser.specs.Inputs.{AreNumbers, IsNoNumber}
use Rattle.seuss_parser.specs.declared.input.refusal.InputRefusal.{InputRefusal}
use Rattle.seuss_parser.specs.declared.input.refusal.InputRefusal.TheVariants.{Bad, TooLong, Memory}

-- The numbers of these words, which stand on this line, were put at the end; or one of them is no number.
abbrev pub Puts : List (List ℕ) → ℕ → List ℤ → List ℤ → Result (Unit {0}) InputRefusal → Type 0
Puts words line old new (Ok done) = (zs : List ℤ) × AreNumbers words zs × (new ≡ old ++ zs)
Puts words line old new (Err (Bad n)) = (n ≡ line) × Any IsNoNumber words
Puts words line old new (Err TooLong) = ⊥
Puts words line old new (Err Memory) = Unit {0}
