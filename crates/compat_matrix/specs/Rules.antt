-- The rule by the sets of two members, as the bits of numbers.
use Rattle.std.specs.Prelude.{ℕ, Bool, true, false, ◌&&◌, ◌||◌, not, ◌==◌, if◌then◌else◌, bit_and}
use Rattle.seuss_base.specs.declared.level.Level.{Level}
use Rattle.seuss_base.specs.declared.level.Level.TheVariants.{Never, Firm}
use Rattle.compat_matrix.specs.declared.part.Part.{Part}
use Rattle.compat_matrix.specs.declared.part.Part.TheVariants.{Line, Tail}
use Rattle.compat_matrix.specs.declared.member.Member.{Member}

-- whether two sets have an element in common
abbrev pub shares : ℕ → ℕ → Bool
shares left right = not (bit_and left right == 0)

abbrev pub is_line : Part → Bool
is_line Line = true
is_line Tail = false

-- whether the first one tests, in the line, what the second one writes
abbrev pub tests_written : Member → Member → Bool
tests_written x y = is_line x.part && (x.effects.has_early && shares x.effects.tests y.effects.writes)

-- whether a procedure may be late: in the tail, or after calls
abbrev pub may_be_late : Member → Bool
may_be_late x = not (is_line x.part) || x.effects.has_late

-- whether neither writes what the other one reads or writes
abbrev pub keeps_apart : Member → Member → Bool
keeps_apart x y =
    not (shares x.effects.writes y.effects.reads)
    && (not (shares x.effects.writes y.effects.writes) && not (shares y.effects.writes x.effects.reads))

-- their level, by that of the certificate that names both
abbrev pub ruled : Member → Member → Level → Level
ruled x y certified =
    if tests_written x y then Never else (if not (may_be_late y) || keeps_apart x y then Firm else
    certified)
