-- The cases of a procedure by number: its digits, place by place, pick one region of each.
use Rattle.std.specs.Prelude.{ℕ, ◌%◌, ◌/◌, max, List, [], ◌∷◌, length, slice_index_or}
use Rattle.seuss_program.specs.declared.tree.Ref.{Ref}
use Rattle.seuss_program.specs.declared.tree.Proc.{Proc}
use Rattle.seuss_program.specs.declared.tree.Cat.{Cat}
use Rattle.safety_check.specs.Cases.{vars_choices, slots_choices}
use Rattle.safety_check.specs.declared.region.Region.{Region}
use Rattle.safety_check.specs.declared.region.Region.TheVariants.{Anything}
use Rattle.safety_check.specs.declared.frame.Frame.{Frame}
use Rattle.safety_check.specs.declared.seen.Seen.{Seen}
pub use Rattle.safety_judge.specs.declared.choices.Choices.{Choices}

-- how many digits a place has
abbrev pub base : List Region → ℕ
base choices = max 1 (length choices)

-- the region that a number picks at a place
abbrev pub picked : List Region → ℕ → Region
picked choices n = slice_index_or choices (n % base choices) Anything

-- one region of each, by a number whose first digit is that of the first place
abbrev pub row_at : List (List Region) → ℕ → List Region
row_at [] n = []
row_at (choices ∷ more) n = picked choices n ∷ row_at more (n / base choices)

-- what is left of a number behind the digits of some places
abbrev pub left_of : List (List Region) → ℕ → ℕ
left_of [] n = n
left_of (choices ∷ more) n = left_of more (n / base choices)

-- the frame of a number: first the digits of the variables, then those of the slots
abbrev pub frame_at : Choices → ℕ → Frame
frame_at choices n =
    record { vars = row_at choices.vars n; slots = row_at choices.slots (left_of choices.vars n) }

-- the regions of all names of a procedure
abbrev pub choices_of : Cat Ref → Proc Ref → Seen → Choices
choices_of c q seen = record { vars = vars_choices seen 0 c.vars; slots = slots_choices seen q }
