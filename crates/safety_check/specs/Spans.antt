-- Spans of numbers: from a least one on, up to a greatest one where there is one.
use Rattle.std.specs.Prelude.{ℤ, pos, negsuc, ◌-◌, ◌^◌, ◌+ℤ◌, ◌-ℤ◌, ◌≤ℤ◌, int_lt, int_le, Bool, true, false}
use Rattle.std.specs.Prelude.{◌&&◌, if◌then◌else◌, List, [], ◌∷◌, ◌++◌, Option, None, Some, IfSome}
use Rattle.std.specs.Prelude.{option_map}
use Rattle.std.specs.List.{flat_map}
use Rattle.std.specs.Int.{int_max, int_min}
pub use Rattle.safety_check.specs.declared.span.Span.{Span}

-- a number of a span
pub record Within (s : Span) (z : ℤ) : Type 0 where
  pub from : s.least ≤ℤ z
  pub up_to : IfSome s.most (λ m. z ≤ℤ m)

-- the least number of 64 bits, with their sign
abbrev pub lowest : ℤ
lowest = negsuc (2 ^ 63 - 1)

-- the greatest number of 64 bits
abbrev pub highest : ℤ
highest = pos (2 ^ 63 - 1)

-- all numbers of 64 bits
abbrev pub all_numbers : Span
all_numbers = record { least = lowest; most = Some highest }

-- the lengths of all sequences
abbrev pub all_lengths : Span
all_lengths = record { least = pos 0; most = None }

-- a single number
abbrev pub single : ℤ → Span
single z = record { least = z; most = Some z }

-- whether a span ends below a number
abbrev pub ends_before : Option ℤ → ℤ → Bool
ends_before None z = false
ends_before (Some m) z = int_lt m z

-- whether a span ends at most at a number
abbrev pub ends_by : Option ℤ → ℤ → Bool
ends_by None z = false
ends_by (Some m) z = int_le m z

-- whether each number of one span is less than each of another one
abbrev pub all_less : Span → Span → Bool
all_less s t = ends_before s.most t.least

-- whether each number of one span is at most each of another one
abbrev pub all_at_most : Span → Span → Bool
all_at_most s t = ends_by s.most t.least

-- the span, unless it is empty
abbrev pub unless_empty : Span → Option Span
unless_empty s = if ends_before s.most s.least then None else Some s

-- the greatest sum, where both spans end
abbrev pub end_sum : Option ℤ → Option ℤ → Option ℤ
end_sum None b = None
end_sum (Some a) None = None
end_sum (Some a) (Some b) = Some (a +ℤ b)

-- the sums of numbers of two spans
abbrev pub sums : Span → Span → Span
sums s t = record { least = s.least +ℤ t.least; most = end_sum s.most t.most }

-- The least difference. Where there is none, a number below all those of 64 bits stands for it.
abbrev pub least_difference : ℤ → Option ℤ → ℤ
least_difference a None = lowest -ℤ pos 1
least_difference a (Some b) = a -ℤ b

-- the greatest difference, where the first span ends
abbrev pub end_difference : Option ℤ → ℤ → Option ℤ
end_difference None b = None
end_difference (Some a) b = Some (a -ℤ b)

-- the differences of numbers of two spans
abbrev pub differences : Span → Span → Span
differences s t = record
    { least = least_difference s.least t.most; most = end_difference s.most t.least }

-- the greatest number of 64 bits up to an end
abbrev pub cut_end : Option ℤ → ℤ
cut_end None = highest
cut_end (Some m) = int_min m highest

-- the numbers of a span that have 64 bits, where there are some
abbrev pub cut : Span → Option Span
cut s = unless_empty (record { least = int_max s.least lowest; most = Some (cut_end s.most) })

-- the span where all its numbers have 64 bits, else all numbers
abbrev pub wrapped_span : Span → Span
wrapped_span s = if int_le lowest s.least && ends_by s.most highest then s else all_numbers

-- both ends one up
abbrev pub raised : Span → Span
raised s = sums s (single (pos 1))

-- both ends one down
abbrev pub lowered : Span → Span
lowered s = differences s (single (pos 1))

-- The lower end at least 1, and then both ends one down: how long sequences are without one of their
-- elements, where they can have one.
abbrev pub shortened : Span → Option Span
shortened s = option_map lowered (unless_empty (record { least = int_max s.least (pos 1); most = s.most }))

-- the greater of two ends, where both are there
abbrev pub end_round : Option ℤ → Option ℤ → Option ℤ
end_round None b = None
end_round (Some a) None = None
end_round (Some a) (Some b) = Some (int_max a b)

-- the smallest span round two
abbrev pub round : Span → Span → Span
round s t = record { least = int_min s.least t.least; most = end_round s.most t.most }

-- the span that there is, as a list
abbrev pub there : Option Span → List Span
there None = []
there (Some s) = s ∷ []

-- what lies below a number
abbrev pub below : ℤ → Span → List Span
below c s = there (unless_empty (record { least = s.least; most = Some (c -ℤ pos 1) }))

-- what lies above a number
abbrev pub beyond : ℤ → Span → List Span
beyond c s = there (unless_empty (record { least = c +ℤ pos 1; most = s.most }))

-- whether a span doesn't end below a number
abbrev pub reaches : Option ℤ → ℤ → Bool
reaches None z = true
reaches (Some m) z = int_le z m

-- whether a number lies in a span
abbrev pub is_within : Span → ℤ → Bool
is_within s z = int_le s.least z && reaches s.most z

-- a cut that lies in a span leaves what is below it, itself and what is above it
abbrev pub cut_at : ℤ → Span → List Span
cut_at c s = if is_within s c then below c s ++ (single c ∷ beyond c s) else s ∷ []

-- what cuts leave of some spans, one cut after the other
abbrev pub cut_up : List ℤ → List Span → List Span
cut_up [] spans = spans
cut_up (c ∷ cs) spans = cut_up cs (flat_map (cut_at c) spans)
