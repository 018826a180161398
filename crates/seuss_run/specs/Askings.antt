-- What the words and the source ask of a call.
use Rattle.std.specs.Prelude.{◌≡◌, ℕ, ◌≤◌, List, length, Option}
use Rattle.report_text.specs.Refusals.{refusal}
use Rattle.seuss_run.specs.declared.answer.Answer.{Answer}
use Rattle.seuss_run.specs.declared.halt.Halt as H
use Rattle.seuss_run.specs.declared.halt.Halt.TheVariants as V
use Rattle.seuss_run.specs.declared.reading.TheConstants.{MOST_BYTES}
use Rattle.seuss_run.specs.declared.top.Asked as A
use Rattle.seuss_run.specs.declared.top.Asked.TheVariants.{Told, Read}
use Rattle.seuss_run.specs.declared.words.Command.{Command}
use Rattle.seuss_run.specs.Answers.{Answers, WereRead}
use Rattle.seuss_run.specs.Commands.{HasLimits, IsCommand}
use Rattle.seuss_run.specs.Readings.{TakesAll}
use Rattle.seuss_run.specs.Served.{AnswersWords}

-- the bytes of a command were read to their end; or there are too many, and this is the command's answer
abbrev pub HasRead : Command → Option (List ℕ) → Option (List ℕ) → A.Asked → Type 0
HasRead command left rest (Told a) =
    (bytes : List ℕ) × WereRead left rest bytes × Answers command bytes a.status a.text
HasRead command left rest (Read read bytes) =
    (read ≡ command) × (length bytes ≤ MOST_BYTES) × TakesAll left rest bytes

-- the words ask for a known command, whose bytes were read; or this is the whole answer to them
abbrev pub IsAsked : (Command → Type 0) → List (List ℕ) → Option (List ℕ) → Option (List ℕ) → A.Asked → Type 0
IsAsked Known words left rest (Told a) = AnswersWords Known words left rest a.status a.text
IsAsked Known words left rest (Read command bytes) = Known command × IsCommand words command
    × HasLimits command × (length bytes ≤ MOST_BYTES) × TakesAll left rest bytes

-- an answer with this status is told
abbrev pub IsTold : ℕ → A.Asked → Type 0
IsTold status (Told a) = a.status ≡ status
IsTold status (Read command bytes) = ⊥

-- the answer where a command halted: the line of the refusal
abbrev pub IsLineOf : H.Halt → Answer → Type 0
IsLineOf (V.Refused why) a = (a.status ≡ 3) × (a.text ≡ refusal why)
IsLineOf V.Memory a = ⊥
