-- What a call ends with, by its words and the bytes that were read.
use Rattle.std.specs.Prelude.{◌≡◌, ℕ, ◌≤◌, ◌⊎◌, List, length, codes, Option, Ok, Err}
use Rattle.seuss_program.specs.Attempts.{tight}
use Rattle.seuss_program.specs.Initials.{initial}
use Rattle.seuss_program.specs.Reports.{line}
use Rattle.seuss_print.specs.Canonical.{canonical_text}
use Rattle.report_text.specs.declared.refusals.Refused.{Refused}
use Rattle.report_text.specs.Refusals.{refusal}
use Rattle.report_text.specs.TightReports.{tight_report, tight_end}
use Rattle.report_text.specs.CheckTexts.{check_text}
use Rattle.seuss_run.specs.declared.words.Command.{Command}
use Rattle.seuss_run.specs.declared.words.Command.TheVariants as C
use Rattle.seuss_run.specs.Matrices.{IsMatrix}
use Rattle.seuss_run.specs.PropertyReports.{IsPropertyReport}
use Rattle.seuss_run.specs.Readings.{Takes, TakesAll, AreTooMany}
use Rattle.seuss_run.specs.Runs.{IsReport, status_of}
use Rattle.seuss_run.specs.Simulations.{IsSimulated}
use Rattle.seuss_run.specs.Verdicts.{Task, Printing, Checking, Comparing, Running, Attempting, Proving}
use Rattle.seuss_run.specs.Verdicts.{Loaded, IsVerdict}
use Rattle.seuss_run.specs.declared.reading.TheConstants.{MOST_BYTES}
use Rattle.seuss_run.specs.declared.words.TheConstants.{DEFAULT_BUDGET}

-- the named actions were attempted one after the other, each with the default budget: this is their report
abbrev pub IsTightReport : Loaded → List ℕ → ℕ → List ℕ → Type 0
IsTightReport given actions status text =
    let run = tight given.0 actions (initial given.0 given.1) DEFAULT_BUDGET in
    (text ≡ tight_report given.0 actions run.outcomes run.state) ×
    (status ≡ status_of (tight_end actions run.outcomes))

-- what a task writes, and the status that it ends with, for the words of the command
abbrev pub Does : Command → Task → ℕ → List ℕ → Type 0
Does (C.Run rounds workers budget) (Running given) status text =
    IsReport given.0 given.1 rounds budget status text
Does (C.Sim rounds width turns budget) (Running given) status text =
    IsSimulated given rounds width turns budget status text
Does (C.Tight names) (Attempting given actions) status text = IsTightReport given actions status text
Does C.Matrix (Comparing given) status text = (status ≡ 0) × IsMatrix given.0 text
Does C.Check (Checking given) status text = (status ≡ 0) × (text ≡ check_text given.0)
Does C.Print (Printing tree) status text = (status ≡ 0) × (text ≡ canonical_text tree)
Does C.Prove (Proving given) status text = (status ≡ 0) × IsPropertyReport given text
Does command task status text = ⊥

-- Status 3, and the line of a refusal; or status 0, 1 or 2, and what the command writes.
unfoldable pub Answers : Command → List ℕ → ℕ → List ℕ → Type 0
Answers command bytes status text =
    ((status ≡ 3) × (reason : Refused) × IsVerdict command bytes (Err reason) × (text ≡ refusal reason))
    ⊎ ((status ≤ 2) × (task : Task) × IsVerdict command bytes (Ok task) × Does command task status text)

-- a command has read these bytes by the time that it is done: each of these reads all of them
abbrev pub WasRead : Command → Option (List ℕ) → Option (List ℕ) → List ℕ → Type 0
WasRead (C.Run rounds workers budget) left rest bytes = TakesAll left rest bytes
WasRead (C.Sim rounds width turns budget) left rest bytes = TakesAll left rest bytes
WasRead (C.Tight actions) left rest bytes = TakesAll left rest bytes
WasRead C.Matrix left rest bytes = TakesAll left rest bytes
WasRead C.Check left rest bytes = TakesAll left rest bytes
WasRead C.Print left rest bytes = TakesAll left rest bytes
WasRead C.Prove left rest bytes = TakesAll left rest bytes

-- the bytes were read to their end, or more of them were taken than are read
abbrev pub WereRead : Option (List ℕ) → Option (List ℕ) → List ℕ → Type 0
WereRead left rest bytes =
    ((length bytes ≤ MOST_BYTES) × TakesAll left rest bytes) ⊎ (AreTooMany bytes × Takes left rest bytes)

-- Status 3: the bytes that were read are refused for a reason, whose line is the text.
pub record EndsRefused (command : Command) (left rest : Option (List ℕ)) (text : List ℕ) : Type 0 where
  pub bytes : List ℕ
  pub read : WereRead left rest bytes
  pub reason : Refused
  pub refused : IsVerdict command bytes (Err reason)
  pub told : text ≡ refusal reason

-- Status 0, 1 or 2: the bytes ask for a task, and the text is what the command does with it.
pub record EndsDone (command : Command) (left rest : Option (List ℕ)) (status : ℕ) (text : List ℕ) : Type 0
  where
    pub bytes : List ℕ
    pub read : WasRead command left rest bytes
    pub task : Task
    pub accepted : IsVerdict command bytes (Ok task)
    pub done : Does command task status text

-- a status below 4, and the whole text that a command writes with it
abbrev pub Ends : Command → Option (List ℕ) → Option (List ℕ) → ℕ → List ℕ → Type 0
Ends command left rest status text =
    ((status ≡ 3) × EndsRefused command left rest text)
    ⊎ ((status ≤ 2) × EndsDone command left rest status text)

-- the line that is written where the words are no command
abbrev pub usage : List ℕ
usage = line (codes "usage")
