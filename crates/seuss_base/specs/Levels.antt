-- Levels in rising order.
use Rattle.std.specs.Prelude.{ℕ, ◌≤◌}
use Rattle.seuss_base.specs.declared.level.Level.{Level}
use Rattle.seuss_base.specs.declared.level.Level.TheVariants.{Never, Loose, Firm}

-- the place of a level in the order never, loose, firm
abbrev pub rank : Level → ℕ
rank Never = 0
rank Loose = 1
rank Firm = 2

-- a is b, or stands above it
abbrev pub IsAtLeast : Level → Level → Type 0
IsAtLeast a b = rank b ≤ rank a
