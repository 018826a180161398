-- What a row of writes leaves.
use Rattle.std.specs.Prelude.{ℕ, ◌≤◌, List, length, take, Option}
use Rattle.seuss_base.specs.Sinks.{Adds}

-- where the bytes written were told before, a front of these was added at their end
abbrev pub AddsFront : Option (List ℕ) → Option (List ℕ) → List ℕ → Type 0
AddsFront before now bytes = (n : ℕ) × (n ≤ length bytes) × Adds before now (take n bytes)
