-- What is found of a frame, a procedure, a cat and a box.
use Rattle.std.specs.Prelude.{◌≡◌, ℕ, ◌*◌, ◌<◌, ◌≤◌, Bool, true, false, ◌&&◌, ◌||◌, not, List, [], ◌∷◌, map}
use Rattle.std.specs.Prelude.{length, Option, None, Some}
use Rattle.seuss_program.specs.declared.program.Program.{Program}
use Rattle.seuss_program.specs.declared.program.BoxInfo.{BoxInfo}
use Rattle.seuss_program.specs.declared.tree.Ref.{Ref}
use Rattle.seuss_program.specs.declared.tree.Cat.{Cat}
use Rattle.seuss_program.specs.declared.tree.Proc.{Proc}
use Rattle.safety_check.specs.RegionValues.{region_in}
use Rattle.safety_check.specs.Ends.{ends_of}
use Rattle.safety_check.specs.Cases.{product}
use Rattle.safety_check.specs.Safety.{may_hold, does_hold, has_many, IsBad}
use Rattle.safety_check.specs.Safety.{StartsTrue, StartsBelow, StartsWithout, NoneBadBelow, FirstBadIn}
use Rattle.safety_check.specs.declared.frame.Frame.{Frame}
use Rattle.safety_check.specs.declared.property.Property.{Property}
use Rattle.safety_check.specs.declared.safety.Safety.{Safety}
use Rattle.safety_check.specs.declared.safety.Safety.TheVariants.{Safe, Start, Open, Many}
use Rattle.safety_judge.specs.Rows.{Choices, frame_at}
pub use Rattle.safety_judge.specs.declared.bad.Bad.{Bad}
use Rattle.safety_judge.specs.declared.bad.Bad.TheVariants as B

-- a fact, where the answer is yes, and else that it doesn't hold
abbrev pub Decides : Bool → Type 0 → Type 0
Decides true P = P
Decides false P = P → ⊥

-- whether the property isn't true at one of some ends
abbrev pub some_without : Property → List Frame → Bool
some_without property [] = false
some_without property (end ∷ ends) =
    not (does_hold (region_in property.expr end)) || some_without property ends

-- whether the property isn't false in a frame, and a body that may be run leads from there to an end at
-- which it isn't true
abbrev pub leads_out : Property → Proc Ref → Frame → Bool
leads_out property q frame =
    may_hold (region_in property.expr frame) && some_without property (ends_of q.form frame)

-- a frame among the first ones that leads out of the property
pub record HasWayOut (property : Property) (q : Proc Ref) (choices : Choices) (most : ℕ) : Type 0 where
  pub number : ℕ
  pub below : number < most
  pub leads : leads_out property q (frame_at choices number) ≡ true

-- how many cases there are
abbrev pub cases_of : Choices → ℕ
cases_of choices = product (map length choices.vars) * product (map length choices.slots)

-- what is found of a procedure by its cases alone: none leads out of the property, one does, or they are
-- too many
abbrev pub IsFoundBy : Property → Proc Ref → Choices → Option Bad → Type 0
IsFoundBy property q choices None =
    (cases_of choices ≤ 4096) × (HasWayOut property q choices (cases_of choices) → ⊥)
IsFoundBy property q choices (Some B.Open) =
    (cases_of choices ≤ 4096) × HasWayOut property q choices (cases_of choices)
IsFoundBy property q choices (Some B.Many) = 4096 < cases_of choices

-- what is found of a procedure: it isn't bad, or it is, with or without too many cases
abbrev pub IsFound : Cat Ref → Proc Ref → Property → Option Bad → Type 0
IsFound c q property None = IsBad c q property → ⊥
IsFound c q property (Some B.Open) = IsBad c q property × (has_many c q property ≡ false)
IsFound c q property (Some B.Many) = IsBad c q property × (has_many c q property ≡ true)

-- the answer by a bad procedure of a number
abbrev pub answer_of : Bad → ℕ → Safety
answer_of B.Open number = Open number
answer_of B.Many number = Many number

-- what is found of a cat: its first bad procedure, where there is one
abbrev pub IsFoundIn : Cat Ref → Property → Safety → Type 0
IsFoundIn c property Safe = NoneBadBelow c property (length c.procs)
IsFoundIn c property (Start box) = ⊥
IsFoundIn c property (Open number) = FirstBadIn c property number false
IsFoundIn c property (Many number) = FirstBadIn c property number true

-- what is found of a box: it is of the cat and the property isn't true of its start values, or not so
abbrev pub IsWithout : Program → Property → BoxInfo → Bool → Type 0
IsWithout p property info true = (info.cat ≡ property.cat) × (StartsTrue p property info → ⊥)
IsWithout p property info false = info.cat ≡ property.cat → StartsTrue p property info

-- what is found of all boxes: the first one of whose start values the property isn't true, where there is one
abbrev pub IsFirstWithout : Program → Property → Option ℕ → Type 0
IsFirstWithout p property None = StartsBelow p property (length p.boxes)
IsFirstWithout p property (Some box) = StartsWithout p property box
