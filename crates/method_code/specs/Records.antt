-- Steps as they are recorded, without the variables that they find, and passes as chains of them.
use Rattle.std.specs.Prelude.{◌≡◌, ℕ, ◌⊎◌, List, [], ◌∷◌}
use Rattle.seuss_base.specs.declared.outcome.PassEnd.{PassEnd}
use Rattle.seuss_program.specs.declared.program.Program.{Program}
use Rattle.seuss_program.specs.declared.state.Value.{Value}
use Rattle.seuss_program.specs.declared.state.State.{State}
use Rattle.seuss_program.specs.Programs.{vars_of}
use Rattle.method_code.specs.declared.method.Method.{Method}
use Rattle.method_code.specs.declared.frame.Frame.{Frame}
use Rattle.method_code.specs.declared.frame.End.{End}
use Rattle.method_code.specs.declared.activation.Activation.{Activation}
use Rattle.method_code.specs.Codes.{compiled}
use Rattle.method_code.specs.Steps.{step}
use Rattle.method_code.specs.Chains.{Next, Over, turned, with_vars}
use Rattle.method_code.specs.Kinds.{Made}

-- a step on a box: what it is given, and its result
pub record Recorded : Type 0 where
  pub box : ℕ
  pub before : Frame
  pub budget_before : ℕ
  pub after : Frame
  pub budget_after : ℕ
  pub end : End

-- from v the step is as it is recorded, and leaves w
abbrev pub does : List Method → Recorded → List Value → List Value → Type 0
does code e v w = step code e.before e.budget_before v
    ≡ record { vars = w; frame = e.after; budget = e.budget_after; end = e.end }

-- These steps are a pass from here on, which ends so: each next one has the box, the frame and the budget
-- that the end of the one before it determines.
abbrev pub ChainsTo : Program → Activation → ℕ → List Recorded → PassEnd → Type 0
ChainsTo p a budget [] end = ⊥
ChainsTo p a budget (e ∷ es) end =
    (e.box ≡ a.box_number) × (e.before ≡ a.frame) × (e.budget_before ≡ budget)
    × (((es ≡ []) × (turned p (record a { frame = e.after }) e.end ≡ Over end))
    ⊎ ((next : Activation) × (turned p (record a { frame = e.after }) e.end ≡ Next next)
    × ChainsTo p next e.budget_after es end))

-- each step is made from the variables of its place in a row
abbrev pub AreMade : List Method → List Recorded → List (List Value) → Type 0
AreMade code [] [] = Unit {0}
AreMade code [] (v ∷ row) = ⊥
AreMade code (e ∷ es) [] = ⊥
AreMade code (e ∷ es) (v ∷ row) = ((w : List Value) × does code e v w) × AreMade code es row

-- the first of these steps are made, each from the variables of its place in a row
abbrev pub FrontMade : List Method → List Recorded → List (List Value) → Type 0
FrontMade code es [] = Unit {0}
FrontMade code [] (v ∷ row) = ⊥
FrontMade code (e ∷ es) (v ∷ row) = ((w : List Value) × does code e v w) × FrontMade code es row

-- such a step, as one that a pass makes
abbrev pub made_by : Program → Recorded → List Value → Made
made_by p e v = record {
  box = e.box;
  frame = e.before;
  budget = e.budget_before;
  vars = v;
  stepped = step (compiled p) e.before e.budget_before v;
}

abbrev pub made_of : Program → List Recorded → List (List Value) → List Made
made_of p [] row = []
made_of p (e ∷ es) [] = []
made_of p (e ∷ es) (v ∷ row) = made_by p e v ∷ made_of p es row

-- the steps in turn, each on the variables of its box
abbrev pub Makes : Program → State → List Recorded → State → Type 0
Makes p s [] t = s ≡ t
Makes p s (e ∷ es) t = (w : List Value) × does (compiled p) e (vars_of s e.box) w
    × Makes p (with_vars s e.box w) es t

-- These steps lead a pass from here on to another activation, with this budget left.
abbrev pub LeadsTo : Program → Activation → ℕ → List Recorded → Activation → ℕ → Type 0
LeadsTo p a budget [] b left = (b ≡ a) × (left ≡ budget)
LeadsTo p a budget (e ∷ es) b left =
    (e.box ≡ a.box_number) × (e.before ≡ a.frame) × (e.budget_before ≡ budget)
    × ((next : Activation) × (turned p (record a { frame = e.after }) e.end ≡ Next next)
    × LeadsTo p next e.budget_after es b left)

-- one more step from there
pub record IsStepFrom (a : Activation) (budget : ℕ) (e : Recorded) : Type 0 where
  pub box : e.box ≡ a.box_number
  pub before : e.before ≡ a.frame
  pub budget_before : e.budget_before ≡ budget
