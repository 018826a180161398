-- The report of actions that are attempted one after the other, byte for byte.
use Rattle.std.specs.Prelude.{ℕ, List, [], ◌∷◌, ◌++◌}
use Rattle.seuss_base.specs.declared.outcome.Outcome.{Outcome}
use Rattle.seuss_program.specs.declared.program.Program.{Program}
use Rattle.seuss_program.specs.declared.state.State.{State}
use Rattle.seuss_program.specs.declared.order.LastLine.{LastLine}
use Rattle.seuss_program.specs.declared.order.LastLine.TheVariants as L
use Rattle.seuss_program.specs.Reports.{name_of_action, outcome_line, last_line_of, state_lines, ending_line}

-- the lines of these actions, each with its outcome
abbrev pub tight_lines : Program → List ℕ → List Outcome → List ℕ
tight_lines p [] outcomes = []
tight_lines p (action ∷ actions) [] = []
tight_lines p (action ∷ actions) (outcome ∷ outcomes) =
    outcome_line (name_of_action p action) outcome ++ tight_lines p actions outcomes

-- how the attempts end, by the first one that trapped or was spent
abbrev pub tight_end : List ℕ → List Outcome → LastLine
tight_end [] outcomes = L.Done
tight_end (action ∷ actions) [] = L.Done
tight_end (action ∷ actions) (outcome ∷ outcomes) = last_line_of outcome action (tight_end actions outcomes)

-- A line for each attempt, the values of all variables, and how the attempts end.
abbrev pub tight_report : Program → List ℕ → List Outcome → State → List ℕ
tight_report p actions outcomes state = tight_lines p actions outcomes ++ state_lines p state
    ++ ending_line (name_of_action p) (tight_end actions outcomes)
