-- What is known of names at the end of a body, where it can come to its end.
use Rattle.std.specs.Prelude.{Bool, true, false, if◌then◌else◌, List, [], ◌∷◌, ◌++◌, Option, None, Some}
use Rattle.std.specs.Prelude.{option_map, option_and_then}
use Rattle.seuss_program.specs.declared.tree.Ref.{Ref}
use Rattle.seuss_program.specs.declared.tree.Expr.{Expr}
use Rattle.seuss_program.specs.declared.tree.Call.{Call}
use Rattle.seuss_program.specs.declared.tree.Pre.{Pre}
use Rattle.seuss_program.specs.declared.tree.Form.{Form}
use Rattle.seuss_program.specs.declared.tree.Form.TheVariants as F
use Rattle.seuss_program.specs.declared.tree.Alternative.{Alternative}
use Rattle.seuss_program.specs.declared.tree.Statement.{Statement, fold-Statement}
use Rattle.seuss_program.specs.declared.tree.Statement.TheOpen as S
use Rattle.seuss_program.specs.declared.tree.Statement.TheOpen.{Statement-F}
use Rattle.safety_check.specs.Spans.{all_numbers}
use Rattle.safety_check.specs.Regions.{Region, Numbers, Frame, truth_of, put, joined, forgotten}
use Rattle.safety_check.specs.RegionValues.{region_in}

-- a name, where there is one, that takes the result of a call may be any number
abbrev pub taken : Option Ref → Frame → Frame
taken None frame = frame
taken (Some name) frame = put name (Numbers all_numbers) frame

-- whether there is a region
abbrev pub can_have : Option Region → Bool
can_have None = false
can_have (Some r) = true

-- the frame, where each of some arguments can have a value
abbrev pub arguments_end : List (Expr Ref) → Frame → Option Frame
arguments_end [] frame = Some frame
arguments_end (e ∷ es) frame = if can_have (region_in e frame) then arguments_end es frame else None

-- a call that binds its result: its arguments have values, and the result is any number
abbrev pub call_end : Option Ref → Call Ref → Frame → Option Frame
call_end bind call frame = option_map (taken bind) (arguments_end call.args frame)

-- what a run leaves, where it can come to its end
abbrev pub Path : Type 0
Path = Frame → Option Frame

-- a name takes the region of an expression
abbrev pub put_end : Ref → Expr Ref → Path
put_end name e frame = option_map (λ r. put name r frame) (region_in e frame)

-- the ends of both branches, each name to the smallest region round both
abbrev pub either_end : Option Frame → Option Frame → Option Frame
either_end None other = other
either_end (Some one) None = Some one
either_end (Some one) (Some other) = Some (joined one other)

-- the branch that a condition takes, or both
abbrev pub branch_end : Option Bool → Option Frame → Option Frame → Option Frame
branch_end (Some true) holds fails = holds
branch_end (Some false) holds fails = fails
branch_end None holds fails = either_end holds fails

-- the path of a statement, and the names that it assigns
pub record Way : Type 0 where
  pub path : Path
  pub names : List Ref

-- statements one after the other
abbrev pub ways_in_turn : List Way → Path
ways_in_turn [] frame = Some frame
ways_in_turn (way ∷ ways) frame = option_and_then (ways_in_turn ways) (way.path frame)

-- the name that takes a result, where there is one
abbrev pub taking : Option Ref → List Ref
taking None = []
taking (Some name) = name ∷ []

-- the names that statements assign
abbrev pub names_of : List Way → List Ref
names_of [] = []
names_of (way ∷ ways) = way.names ++ names_of ways

-- One statement, by those inside it. The condition and the body of a loop aren't looked at; after it each
-- name that it assigns may have any value.
abbrev pub way_step : Statement-F Ref Way → Way
way_step (S.Let name kind e) = record { path = put_end name e; names = name ∷ [] }
way_step (S.Assign name e) = record { path = put_end name e; names = name ∷ [] }
way_step (S.Call bind call) = record { path = call_end bind call; names = taking bind }
way_step (S.If cond holds fails) = record {
  path = λ frame. option_and_then
      (λ r. branch_end (truth_of r) (ways_in_turn holds frame) (ways_in_turn fails frame))
      (region_in cond frame);
  names = names_of holds ++ names_of fails;
}
way_step (S.While cond turn) = record {
  path = λ frame. Some (forgotten (names_of turn) frame);
  names = names_of turn;
}

-- the path of a statement, and the names that it assigns
unfoldable pub way_of : Statement Ref → Way
way_of s = fold-Statement Ref Way way_step s

-- the names that a body assigns
abbrev pub names_in : List (Statement Ref) → List Ref
names_in [] = []
names_in (s ∷ ss) = (way_of s).names ++ names_in ss

-- the end of a body
abbrev pub body_end : List (Statement Ref) → Path
body_end [] frame = Some frame
body_end (s ∷ ss) frame = option_and_then (body_end ss) ((way_of s).path frame)

-- a preprocedure, where there is one, is a call
abbrev pub pre_end : Option (Pre Ref) → Path
pre_end None frame = Some frame
pre_end (Some pre) frame = call_end pre.bind pre.call frame

-- the end of the body of an alternative
abbrev pub alternative_end : Alternative Ref → Path
alternative_end a frame = option_and_then (body_end a.body) (pre_end a.pre frame)

-- the frame that there is, as a list
abbrev pub where_one : Option Frame → List Frame
where_one None = []
where_one (Some frame) = frame ∷ []

-- An alternative may be chosen where its precondition isn't false, and a later one where it isn't true.
abbrev pub chosen_ends : Option Bool → List Frame → List Frame → List Frame
chosen_ends (Some true) own later = own
chosen_ends (Some false) own later = later
chosen_ends None own later = own ++ later

-- where a precondition can't have a value, neither its alternative nor a later one is run
abbrev pub ends_by_condition : Option Region → List Frame → List Frame → List Frame
ends_by_condition None own later = []
ends_by_condition (Some r) own later = chosen_ends (truth_of r) own later

-- the ends of the alternatives that may be run
abbrev pub alternatives_ends : List (Alternative Ref) → Frame → List Frame
alternatives_ends [] frame = []
alternatives_ends (a ∷ alts) frame =
    ends_by_condition (region_in a.cond frame) (where_one (alternative_end a frame))
    (alternatives_ends alts frame)

-- the ends of the bodies of a procedure that may be run
abbrev pub ends_of : Form Ref → Frame → List Frame
ends_of (F.Total ss) frame = where_one (body_end ss frame)
ends_of (F.Partial alts) frame = alternatives_ends alts frame
ends_of (F.Action alts) frame = alternatives_ends alts frame
