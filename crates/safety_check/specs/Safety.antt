-- When a property is safe, and what a checker answers.
use Rattle.std.specs.Prelude.{◌≡◌, ◌⊎◌, ℕ, ◌<◌, nat_lt, Bool, true, false, ◌||◌, List, [], ◌∷◌, length}
use Rattle.std.specs.Prelude.{slice_get, Option, None, Some, Ok}
use Rattle.std.specs.List.{Contains}
use Rattle.seuss_program.specs.declared.program.Program.{Program}
use Rattle.seuss_program.specs.declared.program.BoxInfo.{BoxInfo}
use Rattle.seuss_program.specs.declared.tree.Ref.{Ref}
use Rattle.seuss_program.specs.declared.tree.Cat.{Cat}
use Rattle.seuss_program.specs.declared.tree.Proc.{Proc}
use Rattle.seuss_program.specs.declared.state.Value.TheVariants.{Bool as Truth}
use Rattle.seuss_program.specs.Values.{value}
use Rattle.seuss_program.specs.Initials.{starts_of}
use Rattle.safety_check.specs.Regions.{Region, Frame, truth_of, is_among}
use Rattle.safety_check.specs.RegionValues.{region_in}
use Rattle.safety_check.specs.Ends.{ends_of}
use Rattle.safety_check.specs.Texts.{Seen, seen_and, in_expr, in_form, expr_names, form_names}
use Rattle.safety_check.specs.Cases.{IsCase, count_of}
use Rattle.safety_check.specs.Properties.{Property}
pub use Rattle.safety_check.specs.declared.safety.Safety.{Safety}
pub use Rattle.safety_check.specs.declared.safety.Safety.TheVariants.{Safe, Start, Open, Many}

-- whether a bool may be true
abbrev pub isnt_false : Option Bool → Bool
isnt_false None = true
isnt_false (Some b) = b

-- whether a bool is true
abbrev pub is_true : Option Bool → Bool
is_true None = false
is_true (Some b) = b

-- whether a property may hold, by its region
abbrev pub may_hold : Option Region → Bool
may_hold None = false
may_hold (Some r) = isnt_false (truth_of r)

-- whether a property does hold, by its region
abbrev pub does_hold : Option Region → Bool
does_hold None = false
does_hold (Some r) = is_true (truth_of r)

-- what is seen in a property and in a procedure
abbrev pub seen_by : Property → Proc Ref → Seen
seen_by property q = seen_and (in_expr property.expr) (in_form q.form)

-- A case of a procedure in which the property isn't false, and an end of a body that may be run at which it
-- isn't true.
pub record IsOpen (c : Cat Ref) (q : Proc Ref) (property : Property) : Type 0 where
  pub frame : Frame
  pub case : IsCase c q (seen_by property q) frame
  pub before : may_hold (region_in property.expr frame) ≡ true
  pub end : Frame
  pub ends : Contains (ends_of q.form frame) end
  pub after : does_hold (region_in property.expr end) ≡ false

-- whether one of some names is among others
abbrev pub is_any_among : List Ref → List Ref → Bool
is_any_among [] names = false
is_any_among (n ∷ ns) names = is_among n names || is_any_among ns names

-- whether a procedure assigns a variable of the property
abbrev pub assigns : Proc Ref → Property → Bool
assigns q property = is_any_among (form_names q.form) (expr_names property.expr)

-- whether a procedure has more than 4,096 cases
abbrev pub has_many : Cat Ref → Proc Ref → Property → Bool
has_many c q property = nat_lt 4096 (count_of c q (seen_by property q))

-- a procedure is bad where it assigns a variable of the property and has too many cases or an open one
pub record IsBad (c : Cat Ref) (q : Proc Ref) (property : Property) : Type 0 where
  pub assigns_it : assigns q property ≡ true
  pub why : (has_many c q property ≡ true) ⊎ IsOpen c q property

-- the property is true of the start values of a box
abbrev pub StartsTrue : Program → Property → BoxInfo → Type 0
StartsTrue p property info = value property.expr (starts_of p.cats info).values [] ≡ Ok (Truth true)

-- the property is true of the start values of the boxes of its cat with lower numbers than this
pub record StartsBelow (p : Program) (property : Property) (most : ℕ) : Type 0 where
  pub at : (box : ℕ) (info : BoxInfo) → box < most → slice_get p.boxes box ≡ Some info →
      info.cat ≡ property.cat → StartsTrue p property info

-- no procedure of a cat with a lower number than this is bad
pub record NoneBadBelow (c : Cat Ref) (property : Property) (most : ℕ) : Type 0 where
  pub at : (number : ℕ) (q : Proc Ref) → number < most → slice_get c.procs number ≡ Some q →
      IsBad c q property → ⊥

-- safe: true of the start values of each box of the cat, and no procedure of the cat is bad
pub record IsSafe (p : Program) (property : Property) : Type 0 where
  pub starts : StartsBelow p property (length p.boxes)
  pub none_bad : (c : Cat Ref) → slice_get p.cats property.cat ≡ Some c →
      NoneBadBelow c property (length c.procs)

-- the first box of the cat of whose start values the property isn't true
pub record StartsWithout (p : Program) (property : Property) (box : ℕ) : Type 0 where
  pub info : BoxInfo
  pub there : slice_get p.boxes box ≡ Some info
  pub cat : info.cat ≡ property.cat
  pub without : StartsTrue p property info → ⊥
  pub first : StartsBelow p property box

-- the first bad procedure of a cat, and whether it has too many cases
pub record FirstBadIn (c : Cat Ref) (property : Property) (number : ℕ) (many : Bool) : Type 0 where
  pub procedure : Proc Ref
  pub there : slice_get c.procs number ≡ Some procedure
  pub bad : IsBad c procedure property
  pub first : NoneBadBelow c property number
  pub cases : has_many c procedure property ≡ many

-- the first bad procedure, where the property is true of all start values
pub record FirstBad (p : Program) (property : Property) (number : ℕ) (many : Bool) : Type 0 where
  pub starts : StartsBelow p property (length p.boxes)
  pub cat : Cat Ref
  pub there : slice_get p.cats property.cat ≡ Some cat
  pub procedure : FirstBadIn cat property number many

-- the exact answer
abbrev pub IsAnswer : Program → Property → Safety → Type 0
IsAnswer p property Safe = IsSafe p property
IsAnswer p property (Start box) = StartsWithout p property box
IsAnswer p property (Open number) = FirstBad p property number false
IsAnswer p property (Many number) = FirstBad p property number true
