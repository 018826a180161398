-- The plan of a program: the plain numbers by which passes begin and go on.
use Rattle.std.specs.Prelude.{◌≡◌, ◌<◌, ◌≤◌, ℕ, List, length, map, take, slice_get, Option, None, Some}
use Rattle.seuss_program.specs.declared.tree.Ref.{Ref}
use Rattle.seuss_program.specs.declared.tree.Cat.{Cat}
use Rattle.seuss_program.specs.declared.program.Program.{Program}
use Rattle.seuss_program.specs.declared.program.BoxInfo.{BoxInfo}
use Rattle.seuss_program.specs.Keeping.{Keeps}
use Rattle.method_code.specs.declared.method.Method.{Method}
use Rattle.method_code.specs.declared.plan.BoxPlan.{BoxPlan}
use Rattle.method_code.specs.declared.plan.Plan.{Plan}
use Rattle.method_code.specs.Codes.{cats_code, compiled}

-- a box of this cat: the procedures of the cats before it come first
abbrev pub box_plan : Program → BoxInfo → Option (Cat Ref) → BoxPlan
box_plan p info None = record { first = 0; many = 0; given = info.given }
box_plan p info (Some cat) = record
    { first = length (cats_code (take info.cat p.cats)); many = length cat.procs; given = info.given }

-- the plan of a program
abbrev pub plan_of : Program → Plan
plan_of p = record {
  boxes = map (λ (info : BoxInfo). box_plan p info (slice_get p.cats info.cat)) p.boxes;
  actions = p.actions;
}

-- code and a plan that were made from a program
pub record AreMadeFrom (p : Program) (code : List Method) (plan : Plan) : Type 0 where
  pub code_is : code ≡ compiled p
  pub plan_is : plan ≡ plan_of p

-- an action of a checked program, with its code and its plan and a budget that a pass may have
pub record MayAttempt (p : Program) (code : List Method) (plan : Plan) (action budget : ℕ) : Type 0 where
  pub made : AreMadeFrom p code plan
  pub keeps : Keeps p
  pub within : action < length p.actions
  pub small : budget ≤ 1000000
