-- What the calls that follow the checks answer. Want of memory is free.
use Rattle.std.specs.Prelude.{◌≡◌, ℕ, ◌≤◌, List, map, Any, IsNone, Some, Result, Ok, Err}
use Rattle.report_text.specs.declared.refusals.Refused.TheVariants as R
use Rattle.seuss_program.specs.declared.program.Program.{Program}
use Rattle.seuss_run.specs.declared.halt.Halt.{Halt}
use Rattle.seuss_run.specs.declared.halt.Halt.TheVariants as H
use Rattle.seuss_run.specs.declared.words.Command.{Command}
use Rattle.seuss_run.specs.declared.answer.Answer.{Answer}
use Rattle.seuss_run.specs.Commands.{action_word}
use Rattle.seuss_run.specs.Stages.{Stage}
use Rattle.seuss_run.specs.Verdicts.{Task, action_number}
use Rattle.seuss_run.specs.Answers.{Does}

-- what was made, seen in this way, meets a check; or the check refuses for this reason
abbrev pub Meets : {A B M : Type 0} → Stage A B → A → (M → B) → Result M Halt → Type 0
Meets stage given view (Ok made) = stage given (Ok (view made))
Meets stage given view (Err (H.Refused why)) = stage given (Err why)
Meets stage given view (Err H.Memory) = Unit {0}

-- a check of what is given asks for a task, which was done for the command with this status and text; or it
-- refuses what is given for this reason
abbrev pub Performs : {A : Type 0} → Command → Stage A Task → A → Result Answer Halt → Type 0
Performs command stage given (Ok a) =
    (a.status ≤ 2) × (task : Task) × stage given (Ok task) × Does command task a.status a.text
Performs command stage given (Err (H.Refused why)) = stage given (Err why)
Performs command stage given (Err H.Memory) = Unit {0}

-- these are the numbers of the named actions, or one of the names is that of no action
abbrev pub NamesActions : Program → List (List ℕ × List ℕ) → Result (List ℕ) Halt → Type 0
NamesActions p names (Ok numbers) = map (λ n. action_number p (action_word n)) names ≡ map Some numbers
NamesActions p names (Err (H.Refused why)) =
    (why ≡ R.Action) × Any (λ n. IsNone (action_number p (action_word n))) names
NamesActions p names (Err H.Memory) = Unit {0}
