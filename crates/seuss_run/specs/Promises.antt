-- What the program promises for its words, a definition for each clause of the call. `Known` are the
-- commands that the call serves, `left` and `rest` the bytes left to be read before the call and after it,
-- `before` and `now` the bytes written before it and after it, where the source and the sink tell them.
use Rattle.std.specs.Prelude.{◌≡◌, ℕ, ◌≤◌, ◌⊎◌, List, Option, Some, Ok, Err}
use Rattle.report_text.specs.declared.refusals.Refused.{Refused}
use Rattle.seuss_base.specs.Faults.{Rose}
use Rattle.seuss_base.specs.Sinks.{Adds}
use Rattle.seuss_run.specs.declared.words.Command.{Command}
use Rattle.seuss_run.specs.declared.words.Command.TheVariants as C
use Rattle.seuss_run.specs.Answers.{Ends, EndsDone, EndsRefused, usage}
use Rattle.seuss_run.specs.Commands.{IsCommand}
use Rattle.seuss_run.specs.Served.{Asks, HasNoCommand}
use Rattle.seuss_run.specs.Verdicts.{IsVerdict, Task}
use Rattle.seuss_run.specs.Writings.{AddsFront}

-- Status 0, 1 or 2: the words are a command, its bytes ask for a task, and what was written is the whole text
-- of what the command does with it.
pub record Done (Known : Command → Type 0) (words : List (List ℕ)) (left rest before now : Option (List ℕ))
    (status : ℕ) : Type 0 where
  pub command : Command
  pub known : Known command
  pub spelled : IsCommand words command
  pub text : List ℕ
  pub ends : EndsDone command left rest status text
  pub written : Adds before now text

-- Status 3: the words are a command, its bytes are refused at the first check that fails, and what was
-- written is the line of the refusal.
pub record RefusedSo (Known : Command → Type 0) (words : List (List ℕ))
    (left rest before now : Option (List ℕ)) : Type 0 where
  pub command : Command
  pub known : Known command
  pub spelled : IsCommand words command
  pub text : List ℕ
  pub ends : EndsRefused command left rest text
  pub written : Adds before now text

-- the bytes that a command is given are these: each of these commands reads them from the source
abbrev pub IsGiven : Command → Option (List ℕ) → List ℕ → Type 0
IsGiven (C.Run rounds workers budget) left bytes = left ≡ Some bytes
IsGiven (C.Sim rounds width turns budget) left bytes = left ≡ Some bytes
IsGiven (C.Tight actions) left bytes = left ≡ Some bytes
IsGiven C.Matrix left bytes = left ≡ Some bytes
IsGiven C.Check left bytes = left ≡ Some bytes
IsGiven C.Print left bytes = left ≡ Some bytes
IsGiven C.Prove left bytes = left ≡ Some bytes

-- what keeps a command from its end, by its status: a read or a write that failed, or want of memory
abbrev pub IsHindered : Command → ℕ → Type 0
IsHindered (C.Run rounds workers budget) status = 5 ≤ status
IsHindered (C.Sim rounds width turns budget) status = 5 ≤ status
IsHindered (C.Tight actions) status = 5 ≤ status
IsHindered C.Matrix status = 5 ≤ status
IsHindered C.Check status = 5 ≤ status
IsHindered C.Print status = 5 ≤ status
IsHindered C.Prove status = 5 ≤ status

-- a command whose bytes ask for a task is done, if nothing hinders it
abbrev pub Complete : (Command → Type 0) → List (List ℕ) → Option (List ℕ) → ℕ → Type 0
Complete Known words left status = (c : Command) (bytes : List ℕ) (task : Task) → Known c →
    IsCommand words c → IsGiven c left bytes → IsVerdict c bytes (Ok task) →
    (status ≤ 2) ⊎ IsHindered c status

-- a command whose bytes are refused ends so, if nothing hinders it
abbrev pub RefusedExactly : (Command → Type 0) → List (List ℕ) → Option (List ℕ) → ℕ → Type 0
RefusedExactly Known words left status = (c : Command) (bytes : List ℕ) (why : Refused) → Known c →
    IsCommand words c → IsGiven c left bytes → IsVerdict c bytes (Err why) →
    (status ≡ 3) ⊎ IsHindered c status

-- Status 4: the words are no command, nothing was read, and what was written is the line of the usage.
abbrev pub ToldUsage : {S : Type 0} → (Command → Type 0) → List (List ℕ) → S → S → Option (List ℕ) →
    Option (List ℕ) → Type 0
ToldUsage Known words source read before now =
    HasNoCommand Known words × (read ≡ source) × Adds before now usage

-- words that are no command are told so, if no write fails and memory isn't wanting
abbrev pub UsageExactly : (Command → Type 0) → List (List ℕ) → ℕ → Type 0
UsageExactly Known words status = HasNoCommand Known words → (status ≡ 4) ⊎ (6 ≤ status)

-- Status 5: a read failed, by the count of the source. The words aren't those of no command, and nothing was
-- written.
abbrev pub ReadFailed : {W : Type 0} → (Command → Type 0) → List (List ℕ) → ℕ → ℕ → W → W → Type 0
ReadFailed Known words faults more sink written =
    Rose faults more × (written ≡ sink) × (HasNoCommand Known words → ⊥)

-- a command ended with a whole text, of which a front was written
abbrev pub WroteFront : Command → Option (List ℕ) → Option (List ℕ) → Option (List ℕ) → Option (List ℕ) →
    Type 0
WroteFront command left rest before now =
    (status : ℕ) × (text : List ℕ) × Ends command left rest status text × AddsFront before now text

-- what a command leaves where a write fails: each of these has its whole text by then
abbrev pub LeftByFault : Command → Option (List ℕ) → Option (List ℕ) → Option (List ℕ) → Option (List ℕ) →
    Type 0
LeftByFault (C.Run rounds workers budget) left rest before now =
    WroteFront (C.Run rounds workers budget) left rest before now
LeftByFault (C.Sim rounds width turns budget) left rest before now =
    WroteFront (C.Sim rounds width turns budget) left rest before now
LeftByFault (C.Tight actions) left rest before now = WroteFront (C.Tight actions) left rest before now
LeftByFault C.Matrix left rest before now = WroteFront C.Matrix left rest before now
LeftByFault C.Check left rest before now = WroteFront C.Check left rest before now
LeftByFault C.Print left rest before now = WroteFront C.Print left rest before now
LeftByFault C.Prove left rest before now = WroteFront C.Prove left rest before now

-- after a write that failed: a front of the usage was written, or what the command leaves
abbrev pub AfterFault : (Command → Type 0) → List (List ℕ) → Option (List ℕ) → Option (List ℕ) →
    Option (List ℕ) → Option (List ℕ) → Type 0
AfterFault Known words left rest before now =
    (HasNoCommand Known words × AddsFront before now usage)
    ⊎ Asks Known words (λ c. LeftByFault c left rest before now)

-- Status 6: a write failed, by the count of the sink.
abbrev pub WriteFailed : (Command → Type 0) → List (List ℕ) → ℕ → ℕ → Option (List ℕ) → Option (List ℕ) →
    Option (List ℕ) → Option (List ℕ) → Type 0
WriteFailed Known words faults more left rest before now =
    Rose faults more × AfterFault Known words left rest before now

-- what a command has written where memory is wanting amid its text: none of these has written any of it
abbrev pub LeftByMemory : Command → Option (List ℕ) → Option (List ℕ) → Option (List ℕ) → Option (List ℕ) →
    Type 0
LeftByMemory (C.Run rounds workers budget) left rest before now = ⊥
LeftByMemory (C.Sim rounds width turns budget) left rest before now = ⊥
LeftByMemory (C.Tight actions) left rest before now = ⊥
LeftByMemory C.Matrix left rest before now = ⊥
LeftByMemory C.Check left rest before now = ⊥
LeftByMemory C.Print left rest before now = ⊥
LeftByMemory C.Prove left rest before now = ⊥

-- Status 7, want of memory: nothing was written, or what the command leaves.
abbrev pub AfterMemory : {W : Type 0} → (Command → Type 0) → List (List ℕ) → W → W → Option (List ℕ) →
    Option (List ℕ) → Option (List ℕ) → Option (List ℕ) → Type 0
AfterMemory Known words sink written left rest before now =
    (written ≡ sink) ⊎ Asks Known words (λ c. LeftByMemory c left rest before now)
