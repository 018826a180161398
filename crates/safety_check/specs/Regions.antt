-- Regions of values, and what is known of the values of all names.
use Rattle.std.specs.Prelude.{◌≡◌, pos, Bool, true, false, not, ◌&&◌, ◌||◌, List, [], ◌∷◌, length}
use Rattle.std.specs.Prelude.{slice_index_or, slice_set, Option, None, Some, IfSome, ◌==◌}
pub use Rattle.safety_check.specs.declared.region.Region.{Region}
pub use Rattle.safety_check.specs.declared.region.Region.TheVariants.{Numbers, Truth, Lengths, Anything}
pub use Rattle.safety_check.specs.declared.frame.Frame.{Frame}
use Rattle.seuss_program.specs.declared.tree.Ref.{Ref}
use Rattle.seuss_program.specs.declared.tree.Ref.TheVariants as R
use Rattle.seuss_program.specs.declared.state.Value.{Value}
use Rattle.seuss_program.specs.declared.state.Value.TheVariants as V
use Rattle.seuss_program.specs.Values.{HasSize, named}
use Rattle.safety_check.specs.Spans.{Span, Within, all_numbers, all_lengths, single, all_less, all_at_most}
use Rattle.safety_check.specs.Spans.{round}

-- A value of a region: an int of a span, a bool that may be told, a sequence whose length is of a span, or
-- any value with numbers of 64 bits.
abbrev pub Lies : Region → Value → Type 0
Lies (Numbers s) (V.Int z) = Within s z
Lies (Numbers s) (V.Bool b) = ⊥
Lies (Numbers s) (V.Seq zs) = ⊥
Lies (Truth told) (V.Int z) = ⊥
Lies (Truth told) (V.Bool b) = IfSome told (λ k. b ≡ k)
Lies (Truth told) (V.Seq zs) = ⊥
Lies (Lengths s) (V.Int z) = ⊥
Lies (Lengths s) (V.Bool b) = ⊥
Lies (Lengths s) (V.Seq zs) = Within s (pos (length zs))
Lies Anything v = HasSize v

-- the region of one value
abbrev pub exactly : Value → Region
exactly (V.Int z) = Numbers (single z)
exactly (V.Bool b) = Truth (Some b)
exactly (V.Seq zs) = Lengths (single (pos (length zs)))

-- a region for each name
abbrev pub Regions : Type 0
Regions = Ref → Region

-- the regions in a frame; where it has none for a name, any value may stand there
abbrev pub regions_of : Frame → Regions
regions_of frame (R.Var n) = slice_index_or frame.vars n Anything
regions_of frame (R.Slot n) = slice_index_or frame.slots n Anything
regions_of frame (R.Given n) = Anything
regions_of frame (R.Method n) = Anything
regions_of frame (R.Cat n) = Anything

-- each name stands for a value of its region
pub record Fit (regions : Regions) (vars slots : List Value) : Type 0 where
  pub at : (name : Ref) → Lies (regions name) (named name vars slots)

-- the numbers that a value of a region may be; a value of another kind counts as 0
abbrev pub numbers_of : Region → Span
numbers_of (Numbers s) = s
numbers_of (Truth told) = single (pos 0)
numbers_of (Lengths s) = single (pos 0)
numbers_of Anything = all_numbers

-- the bool that a value of a region is, where it is told; a value of another kind counts as false
abbrev pub truth_of : Region → Option Bool
truth_of (Numbers s) = Some false
truth_of (Truth told) = told
truth_of (Lengths s) = Some false
truth_of Anything = None

-- the lengths that a value of a region may have; a value of another kind counts as empty
abbrev pub lengths_of : Region → Span
lengths_of (Numbers s) = single (pos 0)
lengths_of (Truth told) = single (pos 0)
lengths_of (Lengths s) = s
lengths_of Anything = all_lengths

-- true where it is so for all values, false where it is so for none, else either
abbrev pub decided : Bool → Bool → Option Bool
decided true never = Some true
decided false true = Some false
decided false false = None

-- the bool turned, where it is told
abbrev pub turned : Option Bool → Option Bool
turned None = None
turned (Some b) = Some (not b)

-- whether two bools are the same, where both are told
abbrev pub same_truth : Option Bool → Option Bool → Option Bool
same_truth None b = None
same_truth (Some a) None = None
same_truth (Some a) (Some b) = Some ((a && b) || (not a && not b))

-- whether numbers of two spans are the same: always, never, or either
abbrev pub same_numbers : Span → Span → Option Bool
same_numbers s t = decided (all_at_most s t && all_at_most t s) (all_less s t || all_less t s)

-- whether two values are the same, where it is told
abbrev pub same_region : Region → Region → Option Bool
same_region (Numbers s) (Numbers t) = same_numbers s t
same_region (Numbers s) (Truth b) = None
same_region (Numbers s) (Lengths t) = None
same_region (Numbers s) Anything = None
same_region (Truth a) (Numbers t) = None
same_region (Truth a) (Truth b) = same_truth a b
same_region (Truth a) (Lengths t) = None
same_region (Truth a) Anything = None
same_region (Lengths s) r = None
same_region Anything r = None

-- a bool that two agree on
abbrev pub truth_round : Option Bool → Option Bool → Option Bool
truth_round None b = None
truth_round (Some a) None = None
truth_round (Some true) (Some true) = Some true
truth_round (Some true) (Some false) = None
truth_round (Some false) (Some true) = None
truth_round (Some false) (Some false) = Some false

-- the smallest region round two
abbrev pub region_round : Region → Region → Region
region_round (Numbers s) (Numbers t) = Numbers (round s t)
region_round (Numbers s) (Truth b) = Anything
region_round (Numbers s) (Lengths t) = Anything
region_round (Numbers s) Anything = Anything
region_round (Truth a) (Numbers t) = Anything
region_round (Truth a) (Truth b) = Truth (truth_round a b)
region_round (Truth a) (Lengths t) = Anything
region_round (Truth a) Anything = Anything
region_round (Lengths s) (Numbers t) = Anything
region_round (Lengths s) (Truth b) = Anything
region_round (Lengths s) (Lengths t) = Lengths (round s t)
region_round (Lengths s) Anything = Anything
region_round Anything r = Anything

-- the smallest regions round those of two lists, place by place
abbrev pub rounds : List Region → List Region → List Region
rounds [] qs = []
rounds (r ∷ rs) [] = []
rounds (r ∷ rs) (q ∷ qs) = region_round r q ∷ rounds rs qs

-- each name has the smallest region round two
abbrev pub joined : Frame → Frame → Frame
joined one other = record { vars = rounds one.vars other.vars; slots = rounds one.slots other.slots }

-- a name has another region: a variable or a slot that is there
abbrev pub put : Ref → Region → Frame → Frame
put (R.Var n) r frame = record { vars = slice_set frame.vars n r; slots = frame.slots }
put (R.Slot n) r frame = record { vars = frame.vars; slots = slice_set frame.slots n r }
put (R.Given n) r frame = frame
put (R.Method n) r frame = frame
put (R.Cat n) r frame = frame

-- names may have any value
abbrev pub forgotten : List Ref → Frame → Frame
forgotten [] frame = frame
forgotten (name ∷ names) frame = forgotten names (put name Anything frame)

-- whether two names are of the same variable or of the same slot
abbrev pub is_name : Ref → Ref → Bool
is_name (R.Var a) (R.Var b) = a == b
is_name (R.Var a) (R.Slot b) = false
is_name (R.Var a) (R.Given b) = false
is_name (R.Var a) (R.Method b) = false
is_name (R.Var a) (R.Cat b) = false
is_name (R.Slot a) (R.Var b) = false
is_name (R.Slot a) (R.Slot b) = a == b
is_name (R.Slot a) (R.Given b) = false
is_name (R.Slot a) (R.Method b) = false
is_name (R.Slot a) (R.Cat b) = false
is_name (R.Given a) name = false
is_name (R.Method a) name = false
is_name (R.Cat a) name = false

-- whether a name is among others
abbrev pub is_among : Ref → List Ref → Bool
is_among name [] = false
is_among name (n ∷ ns) = is_name n name || is_among name ns
