-- The cases of a procedure: one region for each variable of its cat and each of its slots.
use Rattle.std.specs.Prelude.{ℕ, ◌+◌, ◌*◌, Bool, true, false, List, [], ◌∷◌, ◌++◌, map, length}
use Rattle.std.specs.Prelude.{None, Some, ℤ}
use Rattle.std.specs.List.{Contains}
use Rattle.seuss_program.specs.declared.tree.Ref.{Ref}
use Rattle.seuss_program.specs.declared.tree.Ref.TheVariants as R
use Rattle.seuss_program.specs.declared.tree.Kind.{Kind}
use Rattle.seuss_program.specs.declared.tree.Kind.TheVariants as K
use Rattle.seuss_program.specs.declared.tree.Var.{Var}
use Rattle.seuss_program.specs.declared.tree.Param.{Param}
use Rattle.seuss_program.specs.declared.tree.Proc.{Proc}
use Rattle.seuss_program.specs.declared.tree.Cat.{Cat}
use Rattle.seuss_program.specs.declared.state.Value.{Value}
use Rattle.seuss_program.specs.Attempts.{entry_slots}
use Rattle.safety_check.specs.Spans.{all_numbers, all_lengths, cut_up}
use Rattle.safety_check.specs.Regions.{Region, Numbers, Truth, Lengths, Frame, exactly, is_among}
use Rattle.safety_check.specs.Texts.{Seen, cuts_at}

-- The regions of a name of a kind: an int and the length of a sequence by their cuts, a bool as true and as
-- false where it counts.
abbrev pub kind_choices : Kind → Bool → List ℤ → List Region
kind_choices K.Int counts cuts = map Numbers (cut_up cuts (all_numbers ∷ []))
kind_choices K.Bool true cuts = Truth (Some true) ∷ Truth (Some false) ∷ []
kind_choices K.Bool false cuts = Truth None ∷ []
kind_choices K.Seq counts cuts = map Lengths (cut_up cuts (all_lengths ∷ []))

-- the regions of each variable from one on, of which this is the number: it counts where it is seen
abbrev pub vars_choices : Seen → ℕ → List Var → List (List Region)
vars_choices seen number [] = []
vars_choices seen number (v ∷ vs) =
    kind_choices v.kind (is_among (R.Var number) seen.names) (cuts_at (R.Var number) seen.cuts)
    ∷ vars_choices seen (number + 1) vs

-- the regions of each parameter from one on, of which this is the number: each counts
abbrev pub params_choices : Seen → ℕ → List Param → List (List Region)
params_choices seen number [] = []
params_choices seen number (x ∷ xs) =
    kind_choices x.kind true (cuts_at (R.Slot number) seen.cuts) ∷ params_choices seen (number + 1) xs

-- what stands in a slot at the entry, and nothing else
abbrev pub one_choice : Value → List Region
one_choice v = exactly v ∷ []

-- the regions of each slot: those of the parameters, and the one value with which any other slot begins
abbrev pub slots_choices : Seen → Proc Ref → List (List Region)
slots_choices seen q = params_choices seen 0 q.params ++ map one_choice (entry_slots q [])

-- one region of each
abbrev pub IsRow : List (List Region) → List Region → Type 0
IsRow [] [] = Unit {0}
IsRow [] (r ∷ rs) = ⊥
IsRow (choices ∷ more) [] = ⊥
IsRow (choices ∷ more) (r ∷ rs) = Contains choices r × IsRow more rs

-- a case of a procedure of a cat
pub record IsCase (c : Cat Ref) (q : Proc Ref) (seen : Seen) (frame : Frame) : Type 0 where
  pub vars : IsRow (vars_choices seen 0 c.vars) frame.vars
  pub slots : IsRow (slots_choices seen q) frame.slots

-- the product of numbers
abbrev pub product : List ℕ → ℕ
product [] = 1
product (n ∷ ns) = n * product ns

-- how many cases there are
abbrev pub count_of : Cat Ref → Proc Ref → Seen → ℕ
count_of c q seen =
    product (map length (vars_choices seen 0 c.vars)) * product (map length (slots_choices seen q))
