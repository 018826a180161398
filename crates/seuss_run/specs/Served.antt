-- Which commands a call knows, and what its words ask for.
use Rattle.std.specs.Prelude.{◌≡◌, ℕ, ◌⊎◌, List, Option}
use Rattle.seuss_run.specs.declared.top.Served.{Served}
use Rattle.seuss_run.specs.declared.top.Served.TheVariants.{All, Still}
use Rattle.seuss_run.specs.declared.words.Command.{Command}
use Rattle.seuss_run.specs.declared.words.Command.TheVariants as C
use Rattle.seuss_run.specs.Answers.{Ends, usage}
use Rattle.seuss_run.specs.Commands.{IsCommand}

-- a command that waits for no other thread
abbrev pub IsStill : Command → Type 0
IsStill (C.Run rounds workers budget) = ⊥
IsStill (C.Sim rounds width turns budget) = Unit {0}
IsStill (C.Tight actions) = Unit {0}
IsStill C.Matrix = Unit {0}
IsStill C.Check = Unit {0}
IsStill C.Print = Unit {0}
IsStill C.Prove = Unit {0}

-- any command
abbrev pub IsAny : Command → Type 0
IsAny command = Unit {0}

-- a call serves all commands, or those alone that wait for no other thread
abbrev pub Knows : Served → Command → Type 0
Knows All command = IsAny command
Knows Still command = IsStill command

-- the words are none of these commands
abbrev pub HasNoCommand : (Command → Type 0) → List (List ℕ) → Type 0
HasNoCommand Known words = (c : Command) → Known c → IsCommand words c → ⊥

-- the words are one of these commands, of which this holds
abbrev pub Asks : (Command → Type 0) → List (List ℕ) → (Command → Type 0) → Type 0
Asks Known words Holds = (c : Command) × Known c × IsCommand words c × Holds c

-- a status below 5 and the whole text that is written with it: that of the usage, or of the command
abbrev pub AnswersWords : (Command → Type 0) → List (List ℕ) → Option (List ℕ) → Option (List ℕ) → ℕ →
    List ℕ → Type 0
AnswersWords Known words left rest status text =
    ((status ≡ 4) × HasNoCommand Known words × (text ≡ usage))
    ⊎ Asks Known words (λ c. Ends c left rest status text)
