-- What is answered to what was done, and to what is refused.
use Rattle.std.proofs.Common.{◌≡◌, ℕ, ◌≤◌, List, inl, inr}
use Rattle.std.specs.Prelude.{Result, Ok, Err, IfOk}
use Rattle.seuss_run.specs.declared.words.Command.{Command}
use Rattle.seuss_run.specs.declared.answer.Answer.{Answer}
use Rattle.seuss_run.specs.declared.halt.Halt.{Halt}
use Rattle.seuss_run.specs.declared.halt.Halt.TheVariants as H
use Rattle.seuss_run.specs.Verdicts.{Task, IsVerdict}
use Rattle.seuss_run.specs.Answers.{Answers, Does}
use Rattle.seuss_run.specs.Askings.{IsLineOf}
use Rattle.seuss_run.specs.Loadings.{Performs}

-- the task was done
pub done : (command : Command) (bytes : List ℕ) (status : ℕ) (text : List ℕ) →
    (status ≤ 2) × (task : Task) × IsVerdict command bytes (Ok task) × Does command task status text →
    Answers command bytes status text
unfolding Answers
done command bytes status text did = inr did

-- the bytes are refused, or memory is wanting
pub halted : {E : Type 0} (command : Command) (bytes : List ℕ) (halt : Halt) (r : Result Answer E) →
    Performs command (IsVerdict command) bytes (Err halt) → IfOk r (IsLineOf halt) →
    IfOk r (λ a. Answers command bytes a.status a.text)
unfolding Answers
halted command bytes (H.Refused why) (Ok a) refused line = inl (line.0, why, refused, line.1)
halted command bytes H.Memory (Ok a) wanting line = absurd line
halted command bytes halt (Err e) performed line = tt
