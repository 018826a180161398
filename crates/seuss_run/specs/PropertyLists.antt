-- The properties of a program among the bytes, and why a text is no list of them.
use Rattle.std.specs.Prelude.{◌≡◌, ℕ, ◌≤◌, List, length, Ok, Err}
use Rattle.seuss_text.specs.Limits.{IsTooLong, max_text}
use Rattle.seuss_program.specs.declared.program.Program.{Program}
use Rattle.safety_check.specs.declared.property.Property.{Property}
use Rattle.safety_texts.specs.Verdicts.{AreOf, IsBad}
use Rattle.report_text.specs.declared.refusals.Refused.{Refused}
use Rattle.report_text.specs.declared.refusals.Refused.TheVariants as R
use Rattle.seuss_run.specs.Stages.{Stage}

-- a program with a list of its properties
abbrev pub Claimed : Type 0
Claimed = Program × List Property

-- why a text is no list of properties of a program: its length, or the line of its first fault
abbrev pub IsPropertyFault : Program → List ℕ → Refused → Type 0
IsPropertyFault p text R.Long = IsTooLong text
IsPropertyFault p text (R.Property line) = (length text ≤ max_text) × IsBad p text line
IsPropertyFault p text why = ⊥

-- the properties that a text lists for the program beside it, or its first fault
abbrev pub has_properties : Stage (Program × List ℕ) Claimed
has_properties given (Ok found) =
    (found.0 ≡ given.0) × (length given.1 ≤ max_text) × AreOf given.0 given.1 found.1
has_properties given (Err why) = IsPropertyFault given.0 given.1 why
