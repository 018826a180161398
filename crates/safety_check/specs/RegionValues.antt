-- The region of an expression's values, where it can have a value.
use Rattle.std.specs.Prelude.{ℤ, pos, Bool, true, false, ◌&&◌, if◌then◌else◌, Option, None, Some, Ok, Err}
use Rattle.std.specs.Prelude.{option_map, option_and_then, IsSomeAnd}
use Rattle.seuss_program.specs.declared.tree.Ref.{Ref}
use Rattle.seuss_program.specs.declared.tree.Op.{Op}
use Rattle.seuss_program.specs.declared.tree.Op.TheVariants as O
use Rattle.seuss_program.specs.declared.tree.Fun.{Fun}
use Rattle.seuss_program.specs.declared.tree.Fun.TheVariants as F
use Rattle.seuss_program.specs.declared.tree.Node.TheOpen as N
use Rattle.seuss_program.specs.declared.tree.Node.TheOpen.{Node-F}
use Rattle.seuss_program.specs.declared.tree.Expr.{Expr, fold-Expr}
use Rattle.seuss_program.specs.Values.{Evaluated, is_comparison}
pub use Rattle.safety_check.specs.declared.sides.Sides.{Sides}
use Rattle.safety_check.specs.Spans.{Span, all_numbers, all_less, all_at_most, single, sums, differences, cut}
use Rattle.safety_check.specs.Spans.{wrapped_span, raised, shortened}
use Rattle.safety_check.specs.Regions.{Region, Numbers, Truth, Lengths, Regions, Lies, numbers_of, truth_of}
use Rattle.safety_check.specs.Regions.{lengths_of, decided, turned, same_region, Frame, regions_of}

-- the exact numbers that have 64 bits, where there are some
abbrev pub exact_region : Span → Option Region
exact_region s = option_map Numbers (cut s)

-- whether numbers of one span are less than those of another one: always, never, or either
abbrev pub less_numbers : Span → Span → Option Bool
less_numbers s t = decided (all_less s t) (all_at_most t s)

-- whether numbers of one span are at most those of another one: always, never, or either
abbrev pub at_most_numbers : Span → Span → Option Bool
at_most_numbers s t = decided (all_at_most s t) (all_less t s)

-- an operator or a function of two values; `or` and `and` are told by `combined`
abbrev pub apply_region : Op → Region → Region → Option Region
apply_region O.Or x y = Some (Truth None)
apply_region O.And x y = Some (Truth None)
apply_region O.Eq x y = Some (Truth (same_region x y))
apply_region O.Ne x y = Some (Truth (turned (same_region x y)))
apply_region O.Lt x y = Some (Truth (less_numbers (numbers_of x) (numbers_of y)))
apply_region O.Le x y = Some (Truth (at_most_numbers (numbers_of x) (numbers_of y)))
apply_region O.Gt x y = Some (Truth (less_numbers (numbers_of y) (numbers_of x)))
apply_region O.Ge x y = Some (Truth (at_most_numbers (numbers_of y) (numbers_of x)))
apply_region O.Plus x y = exact_region (sums (numbers_of x) (numbers_of y))
apply_region O.Minus x y = exact_region (differences (numbers_of x) (numbers_of y))
apply_region O.WrapPlus x y = Some (Numbers (wrapped_span (sums (numbers_of x) (numbers_of y))))
apply_region O.WrapMinus x y = Some (Numbers (wrapped_span (differences (numbers_of x) (numbers_of y))))
apply_region O.Times x y = Some (Numbers all_numbers)
apply_region O.Divide x y = Some (Numbers all_numbers)
apply_region O.Remainder x y = Some (Numbers all_numbers)
apply_region O.At x y = Some (Numbers all_numbers)
apply_region O.Add x y = Some (Lengths (raised (lengths_of x)))

-- a function of a sequence
abbrev pub measure_region : Fun → Region → Option Region
measure_region F.First r = Some (Numbers all_numbers)
measure_region F.Last r = Some (Numbers all_numbers)
measure_region F.Rest r = option_map Lengths (shortened (lengths_of r))
measure_region F.Front r = option_map Lengths (shortened (lengths_of r))
measure_region F.Len r = Some (Numbers all_numbers)

-- a function of a sequence beside a literal, in a comparison: there a length counts exactly
abbrev pub length_region : Fun → Region → Option Region
length_region F.First r = measure_region F.First r
length_region F.Last r = measure_region F.Last r
length_region F.Rest r = measure_region F.Rest r
length_region F.Front r = measure_region F.Front r
length_region F.Len r = Some (Numbers (lengths_of r))

-- A side is a part of an expression: whether it is a number in digits, and a literal; its region by itself
-- and beside a literal in a comparison. It has none where it can't have a value. This is a side whose region
-- is the same in every place.
abbrev pub plain_side : Option Region → Sides
plain_side region = record { digits = false; literal = false; region = region; beside = region }

-- the region of a side that stands next to another one under an operator
abbrev pub next_to : Op → Sides → Sides → Option Region
next_to op side other = if is_comparison op && other.literal then side.beside else side.region

-- what is told of `or` by its right side alone
abbrev pub or_known : Option Bool → Option Bool
or_known None = None
or_known (Some true) = Some true
or_known (Some false) = None

-- what is told of `and` by its right side alone
abbrev pub and_known : Option Bool → Option Bool
and_known None = None
and_known (Some true) = None
and_known (Some false) = Some false

-- `or` by its left side: the right one is looked at only where the left one doesn't decide. Where the left
-- one is either and the right one can't have a value, the left one was true.
abbrev pub or_right : Option Bool → Option Region → Option Region
or_right (Some true) right = Some (Truth (Some true))
or_right (Some false) right = option_map (λ r. Truth (truth_of r)) right
or_right None None = Some (Truth (Some true))
or_right None (Some r) = Some (Truth (or_known (truth_of r)))

-- `and` in the same way; where the right side can't have a value, the left one was false
abbrev pub and_right : Option Bool → Option Region → Option Region
and_right (Some false) right = Some (Truth (Some false))
and_right (Some true) right = option_map (λ r. Truth (truth_of r)) right
and_right None None = Some (Truth (Some false))
and_right None (Some r) = Some (Truth (and_known (truth_of r)))

-- two sides under an operator, by the region of each
abbrev pub combined : Op → Option Region → Option Region → Option Region
combined O.Or l r = option_and_then (λ x. or_right (truth_of x) r) l
combined O.And l r = option_and_then (λ x. and_right (truth_of x) r) l
combined op l r = option_and_then (λ x. option_and_then (apply_region op x) r) l

-- two sides under an operator
abbrev pub both_sides : Op → Sides → Sides → Sides
both_sides op l r = plain_side (combined op (next_to op l r) (next_to op r l))

-- 0 less a value
abbrev pub minus_region : Region → Option Region
minus_region r = exact_region (differences (single (pos 0)) (numbers_of r))

-- a minus before a side: one before a number in digits makes a literal
abbrev pub negated_side : Sides → Sides
negated_side s = record {
  digits = false;
  literal = s.digits;
  region = option_and_then minus_region s.region;
  beside = option_and_then minus_region s.region;
}

-- the bool of a region, turned
abbrev pub not_region : Region → Region
not_region r = Truth (turned (truth_of r))

-- `not` before a side
abbrev pub inverted_side : Sides → Sides
inverted_side s = plain_side (option_map not_region s.region)

-- a function of a sequence
abbrev pub measured_side : Fun → Sides → Sides
measured_side fun s = record {
  digits = false;
  literal = false;
  region = option_and_then (measure_region fun) s.region;
  beside = option_and_then (length_region fun) s.region;
}

-- a number in digits
abbrev pub number_side : ℤ → Sides
number_side z = record {
  digits = true;
  literal = true;
  region = Some (Numbers (single z));
  beside = Some (Numbers (single z));
}

-- one node, by its parts
abbrev pub node_sides : Regions → Node-F Ref Sides Sides → Sides
node_sides regions (N.Int z) = number_side z
node_sides regions (N.Bool b) = plain_side (Some (Truth (Some b)))
node_sides regions N.Empty = plain_side (Some (Lengths (single (pos 0))))
node_sides regions (N.Name name) = plain_side (Some (regions name))
node_sides regions (N.Neg e) = negated_side e
node_sides regions (N.Not e) = inverted_side e
node_sides regions (N.Two op l r) = both_sides op l r
node_sides regions (N.One fun e) = measured_side fun e

-- an expression, where each name has its region
unfoldable pub sides : Regions → Expr Ref → Sides
sides regions e = fold-Expr Ref Sides Sides (node_sides regions) (λ layer. layer.node) e

-- the region of an expression's values
abbrev pub region : Expr Ref → Regions → Option Region
region e regions = (sides regions e).region

-- the region of an expression's values in a frame
abbrev pub region_in : Expr Ref → Frame → Option Region
region_in e frame = region e (regions_of frame)

-- A value lies in the region that there is. Where there is none, there is no value.
abbrev pub Told : Option Region → Evaluated → Type 0
Told o (Err t) = Unit {0}
Told o (Ok v) = IsSomeAnd o (λ r. Lies r v)
