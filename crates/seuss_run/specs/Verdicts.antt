-- What the bytes that were read mean for a command: a task, or the first reason to refuse them.
use Rattle.std.specs.Prelude.{◌≡◌, ℕ, ◌*◌, ◌<◌, ◌≤◌, max, ℤ, List, map, length, Option, Some, Result, Ok}
use Rattle.std.specs.Prelude.{Err, Any, IsNone}
use Rattle.std.specs.List.{position_from}
use Rattle.std.specs.Str.{bytes_eq}
use Rattle.seuss_text.specs.Rows.{AreTokens}
use Rattle.seuss_text.specs.Limits.{AreInLimits, max_text}
use Rattle.seuss_text.specs.Refusals.{BadByteAt, RangeAt}
use Rattle.seuss_text.specs.declared.token.Token.{Token}
use Rattle.seuss_parser.specs.Words.{words_of}
use Rattle.seuss_parser.specs.Answers.{Parses, IsSyntax, IsNesting}
use Rattle.seuss_parser.specs.Inputs.{IsInput, IsBadInput}
use Rattle.seuss_program.specs.declared.tree.Tree.{Tree}
use Rattle.seuss_program.specs.declared.program.ActionInfo.{ActionInfo}
use Rattle.seuss_program.specs.declared.program.Program.{Program}
use Rattle.seuss_program.specs.Orders.{slots_of}
use Rattle.seuss_program.specs.Reports.{action_name}
use Rattle.box_types.specs.Faults.{twice, unknown, wrong_kind, wrong_type, arguments, count}
use Rattle.call_order.specs.Calls.{partial_calls, total_calls}
use Rattle.call_order.specs.Answers.{IsCycleAt}
use Rattle.call_order.specs.Cycles.{HasNoCycle}
use Rattle.call_order.specs.Levels.{IsLevelled}
use Rattle.box_types.specs.Namings.{named}
use Rattle.seuss_program.specs.declared.state.Value.{Value}
use Rattle.seuss_program.specs.declared.state.Vars.{Vars}
use Rattle.commute_certs.specs.declared.why.Why.{Why}
use Rattle.commute_certs.specs.declared.verdict.Verdict.TheVariants as V
use Rattle.compat_matrix.specs.Certificates.{AllHold, IsRefused}
use Rattle.report_text.specs.declared.refusals.Refused.{Refused}
use Rattle.report_text.specs.declared.refusals.Refused.TheVariants as R
use Rattle.seuss_run.specs.declared.ends.TheConstants.{MOST_ATTEMPTS}
use Rattle.seuss_run.specs.declared.reading.TheConstants.{MOST_BYTES}
use Rattle.seuss_run.specs.declared.words.Command.{Command}
use Rattle.seuss_run.specs.declared.words.Command.TheVariants as C
use Rattle.seuss_run.specs.Commands.{action_word}
use Rattle.seuss_run.specs.PropertyLists.{Claimed, has_properties}
use Rattle.seuss_run.specs.Splits.{IsSplit}
use Rattle.seuss_run.specs.Stages.{Stage, makes, passes, first_of, second_of, ◌>=>◌}

-- a program with its input
abbrev pub Loaded : Type 0
Loaded = Program × List ℤ

-- what accepted bytes ask for
pub data Task : Type 0 where
  Printing : Tree → Task
  Checking : Loaded → Task
  Comparing : Loaded → Task
  Running : Loaded → Task
  Attempting : Loaded → List ℕ → Task
  Proving : Claimed → Task

-- more bytes than the limit aren't read
abbrev pub is_read : Stage (List ℕ) (List ℕ)
is_read bytes (Ok read) = (read ≡ bytes) × (length bytes ≤ MOST_BYTES)
is_read bytes (Err why) = (MOST_BYTES < length bytes) × (why ≡ R.Long)

-- every text has its two parts: the program, and the input after the first line `%%`
abbrev pub is_split : Stage (List ℕ) (List ℕ × List ℕ)
is_split bytes (Ok parts) = IsSplit bytes parts.0 parts.1
is_split bytes (Err why) = ⊥

-- the first fault of a text: its length, a byte that begins no token, or a token past its limit
abbrev pub IsTextFault : List ℕ → Refused → Type 0
IsTextFault text R.Long = max_text < length text
IsTextFault text (R.Byte line) = (length text ≤ max_text) × BadByteAt text line
IsTextFault text (R.Range line) = (length text ≤ max_text) × RangeAt text line
IsTextFault text why = ⊥

-- the tokens of a text, or its first fault
abbrev pub has_tokens : Stage (List ℕ) (List ℕ × List Token)
has_tokens text (Ok found) =
    (found.0 ≡ text) × (length text ≤ max_text) × AreTokens text found.1 × AreInLimits text found.1
has_tokens text (Err why) = IsTextFault text why

-- the first token that is refused
abbrev pub IsTreeFault : List ℕ × List Token → Refused → Type 0
IsTreeFault found (R.Syntax line) = IsSyntax (words_of found.0 found.1) line
IsTreeFault found (R.Nesting line) = IsNesting (words_of found.0 found.1) line
IsTreeFault found why = ⊥

-- the one tree that tokens spell, or the first of them that is refused
abbrev pub has_tree : Stage (List ℕ × List Token) Tree
has_tree found (Ok tree) = Parses (Ok tree) (words_of found.0 found.1)
has_tree found (Err why) = IsTreeFault found why

-- the tree of a text
abbrev pub is_spelled : Stage (List ℕ) Tree
is_spelled = has_tokens >=> has_tree

-- each check of names, kinds, types and counts of a tree, in this order
abbrev pub is_resolved : Stage Tree Tree
is_resolved = passes twice R.Twice >=> passes unknown R.Unknown >=> passes wrong_kind R.WrongKind >=>
    passes wrong_type R.WrongType >=> passes arguments R.Arguments >=> passes count R.Count

-- no box is given to itself, through any number of boxes; or the first that is stands on the line that is
-- told
abbrev pub has_no_cycle : Stage Tree Tree
has_no_cycle tree (Ok same) = (same ≡ tree) × HasNoCycle (named tree).boxes
has_no_cycle tree (Err why) = (line box : ℕ) × IsCycleAt tree line box × (why ≡ R.Cycle line)

-- the program of a tree: its names are numbered, and each box has its level
abbrev pub has_levels : Stage Tree Program
has_levels tree (Ok p) = IsLevelled (named tree) p
has_levels tree (Err why) = ⊥

-- each check of calls and boxes, in this order, and then the program of the tree
abbrev pub is_ordered : Stage Tree Program
is_ordered = passes partial_calls R.PartialCall >=> passes total_calls R.TotalCall >=> has_no_cycle >=>
    has_levels

-- the first fault of an input: its length, or a word that is no number
abbrev pub IsInputFault : List ℕ → Refused → Type 0
IsInputFault text R.Long = max_text < length text
IsInputFault text (R.Input line) = (length text ≤ max_text) × IsBadInput text line
IsInputFault text why = ⊥

-- the numbers of an input, or its first fault
abbrev pub has_input : Stage (List ℕ) (List ℤ)
has_input text (Ok numbers) = (length text ≤ max_text) × IsInput text numbers
has_input text (Err why) = IsInputFault text why

-- The first certificate in the order of the text that doesn't hold: from some state it fails, or it isn't
-- told by its cases whether it holds.
abbrev pub IsCertificateFault : Program → Refused → Type 0
IsCertificateFault p (R.CertificateNo line) =
    (vars : Vars) × (first second : List Value) × IsRefused p line (V.No vars first second)
IsCertificateFault p (R.CertificateUnclear line) = (why : Why) × IsRefused p line (V.Unclear why)
IsCertificateFault p why = ⊥

-- all certificates of a program hold, or the first one that doesn't
abbrev pub is_certified : Stage Program Program
is_certified p (Ok same) = (same ≡ p) × AllHold p
is_certified p (Err why) = IsCertificateFault p why

-- a program with its input: first the program is checked, then the input, then the certificates
abbrev pub is_loaded_parts : Stage (List ℕ × List ℕ) Loaded
is_loaded_parts = first_of (is_spelled >=> is_resolved >=> is_ordered) >=> second_of has_input >=>
    first_of is_certified

-- the program of the bytes that were read, with its input
abbrev pub is_loaded : Stage (List ℕ) Loaded
is_loaded = is_read >=> is_split >=> is_loaded_parts

-- a program with its properties: first the program is checked, then the properties, then the certificates
abbrev pub is_claimed_parts : Stage (List ℕ × List ℕ) Claimed
is_claimed_parts = first_of (is_spelled >=> is_resolved >=> is_ordered) >=> has_properties >=>
    first_of is_certified

-- the program of the bytes that were read, with the properties that stand in the place of its input
abbrev pub is_claimed : Stage (List ℕ) Claimed
is_claimed = is_read >=> is_split >=> is_claimed_parts

-- the tree of the program part alone
abbrev pub tree_of : Stage (List ℕ × List ℕ) Tree
tree_of = first_of is_spelled >=> makes (λ read. read.0)

-- the tree of the bytes that were read
abbrev pub has_tree_alone : Stage (List ℕ) Tree
has_tree_alone = is_read >=> is_split >=> tree_of

-- how many attempts a run of a program makes at the most; a round without slots counts as one
abbrev pub attempts_in : ℕ → Program → ℕ
attempts_in rounds p = rounds * max (length (slots_of p)) 1

-- a run has so many attempts at the most
abbrev pub is_short : ℕ → Stage Loaded Task
is_short rounds given (Ok task) = (task ≡ Running given) × (attempts_in rounds given.0 ≤ MOST_ATTEMPTS)
is_short rounds given (Err why) = (why ≡ R.Attempts) × (MOST_ATTEMPTS < attempts_in rounds given.0)

-- the number of the action that is printed so
abbrev pub action_number : Program → List ℕ → Option ℕ
action_number p word = position_from (λ (a : ActionInfo). bytes_eq (action_name p (Some a)) word) 0 p.actions

-- each word names an action of the program
abbrev pub are_actions : List (List ℕ × List ℕ) → Stage Loaded Task
are_actions names given (Ok task) =
    (numbers : List ℕ) × (task ≡ Attempting given numbers) ×
    (map (λ n. action_number given.0 (action_word n)) names ≡ map Some numbers)
are_actions names given (Err why) = (why ≡ R.Action) ×
    Any (λ n. IsNone (action_number given.0 (action_word n))) names

-- What a command is asked to do by the bytes, or why they are refused: the first check that fails counts.
unfoldable pub IsVerdict : Command → List ℕ → Result Task Refused → Type 0
IsVerdict C.Print = has_tree_alone >=> makes Printing
IsVerdict C.Matrix = is_loaded >=> makes Comparing
IsVerdict C.Check = is_loaded >=> makes Checking
IsVerdict (C.Run rounds workers budget) = is_loaded >=> is_short rounds
IsVerdict (C.Sim rounds width turns budget) = is_loaded >=> is_short rounds
IsVerdict (C.Tight actions) = is_loaded >=> are_actions actions
IsVerdict C.Prove = is_claimed >=> makes Proving
