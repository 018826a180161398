-- The report of a run, byte for byte. Each line ends with a line feed.
use Rattle.std.specs.Prelude.{ℕ, ◌+◌, ◌/◌, ◌==◌, ℤ, Bool, true, false, if◌then◌else◌, List, [], ◌∷◌, ◌++◌}
use Rattle.std.specs.Prelude.{length, map, filter, codes, slice_get, Option, None, Some}
use Rattle.std.specs.Fmt.{decimal, signed_decimal}
use Rattle.std.specs.List.{flat_map, range_with_len}
use Rattle.seuss_base.specs.declared.outcome.Trap.{Trap}
use Rattle.seuss_base.specs.declared.outcome.Trap.TheVariants as T
use Rattle.seuss_base.specs.declared.outcome.Outcome.{Outcome}
use Rattle.seuss_base.specs.declared.outcome.Outcome.TheVariants as O
use Rattle.seuss_program.specs.declared.tree.Ref.{Ref}
use Rattle.seuss_program.specs.declared.tree.Cat.{Cat}
use Rattle.seuss_program.specs.declared.tree.Proc.{Proc}
use Rattle.seuss_program.specs.declared.tree.Var.{Var}
use Rattle.seuss_program.specs.declared.program.Program.{Program}
use Rattle.seuss_program.specs.declared.program.BoxInfo.{BoxInfo}
use Rattle.seuss_program.specs.declared.program.ActionInfo.{ActionInfo}
use Rattle.seuss_program.specs.declared.state.Value.{Value}
use Rattle.seuss_program.specs.declared.state.Value.TheVariants as V
use Rattle.seuss_program.specs.declared.state.Vars.{Vars}
use Rattle.seuss_program.specs.declared.state.State.{State}
use Rattle.seuss_program.specs.declared.order.Placed.{Placed}
use Rattle.seuss_program.specs.declared.order.LastLine.{LastLine}
use Rattle.seuss_program.specs.declared.order.LastLine.TheVariants as L
use Rattle.seuss_program.specs.Programs.{procedure_of, cat_of}
use Rattle.seuss_program.specs.Orders.{slots_of}

-- a line with its line feed
abbrev pub line : List ℕ → List ℕ
line bytes = bytes ++ 10 ∷ []

-- the name of a trap
abbrev pub trap_text : Trap → List ℕ
trap_text T.Overflow = codes "overflow"
trap_text T.ZeroDivisor = codes "zero_divisor"
trap_text T.EmptySequence = codes "empty_sequence"
trap_text T.OutOfRange = codes "out_of_range"

-- the text of an outcome
abbrev pub outcome_text : Outcome → List ℕ
outcome_text O.Accepted = codes "accepted"
outcome_text O.Rejected = codes "rejected"
outcome_text (O.Trapped t) = codes "trapped " ++ trap_text t
outcome_text O.Spent = codes "spent"

-- numbers with one space between two
abbrev pub spaced : List ℤ → List ℕ
spaced [] = []
spaced (z ∷ zs) = signed_decimal z ++ flat_map (λ y. 32 ∷ signed_decimal y) zs

-- the text of a value
abbrev pub value_text : Value → List ℕ
value_text (V.Int z) = signed_decimal z
value_text (V.Bool true) = codes "true"
value_text (V.Bool false) = codes "false"
value_text (V.Seq zs) = codes "[" ++ spaced zs ++ codes "]"

-- the name of a box; one that isn't there has none
abbrev pub box_name : Option BoxInfo → List ℕ
box_name None = []
box_name (Some b) = b.name.text

-- the name of a procedure; one that isn't there has none
abbrev pub proc_name : Option (Proc Ref) → List ℕ
proc_name None = []
proc_name (Some q) = q.name.text

-- an action as BOX.ACTION
abbrev pub action_name : Program → Option ActionInfo → List ℕ
action_name p None = []
action_name p (Some a) = box_name (slice_get p.boxes a.box_number) ++ codes "."
    ++ proc_name (procedure_of p a.box_number a.procedure)

-- the name of an action by its number
abbrev pub name_of_action : Program → ℕ → List ℕ
name_of_action p action = action_name p (slice_get p.actions action)

-- the line of an outcome, with the name of what was attempted
abbrev pub outcome_line : List ℕ → Outcome → List ℕ
outcome_line name outcome = line (name ++ codes " " ++ outcome_text outcome)

-- the line of one attempt
abbrev pub attempt_line : Program → Placed → List ℕ
attempt_line p e = outcome_line (name_of_action p e.action) e.outcome

-- the attempts of a round of n slots, in the order of the run
abbrev pub of_round : ℕ → ℕ → List Placed → List Placed
of_round n round order = filter (λ (e : Placed). e.attempt / n == round) order

-- a round, as the number that is printed for it, and its attempts
abbrev pub round_text : Program → List Placed → ℕ → ℕ → List ℕ
round_text p order first round =
    line (codes "round " ++ decimal (first + round))
    ++ flat_map (attempt_line p) (of_round (length (slots_of p)) round order)

-- how a run ends, by the first attempt that stopped it
abbrev pub last_line_of : Outcome → ℕ → LastLine → LastLine
last_line_of O.Accepted action rest = rest
last_line_of O.Rejected action rest = rest
last_line_of (O.Trapped t) action rest = L.Trapped action t
last_line_of O.Spent action rest = L.Spent action

-- how a run ends, by the first attempt of its order that stopped it
abbrev pub last_line : List Placed → LastLine
last_line [] = L.Done
last_line (e ∷ es) = last_line_of e.outcome e.action (last_line es)

-- How many rounds are printed: all of them, or those up to the round that was stopped.
abbrev pub rounds_up_to : Outcome → ℕ → ℕ → ℕ
rounds_up_to O.Accepted round rest = rest
rounds_up_to O.Rejected round rest = rest
rounds_up_to (O.Trapped t) round rest = round + 1
rounds_up_to O.Spent round rest = round + 1

-- how many rounds of an order of n slots are printed
abbrev pub rounds_shown : ℕ → ℕ → List Placed → ℕ
rounds_shown n rounds [] = rounds
rounds_shown n rounds (e ∷ es) = rounds_up_to e.outcome (e.attempt / n) (rounds_shown n rounds es)

-- the rounds of an order, of which the first one is printed with this number
abbrev pub rounds_text : Program → List Placed → ℕ → ℕ → List ℕ
rounds_text p order first rounds =
    flat_map (round_text p order first) (range_with_len 0 (rounds_shown (length (slots_of p)) rounds order))

-- the line BOX.VAR = VALUE of one variable
abbrev pub var_line : List ℕ → Var → Value → List ℕ
var_line box v x = line (box ++ codes "." ++ v.name.text ++ codes " = " ++ value_text x)

-- the lines of the variables of a box, in the order of its cat
abbrev pub var_lines : List ℕ → List Var → List Value → List ℕ
var_lines box [] xs = []
var_lines box (v ∷ vs) [] = []
var_lines box (v ∷ vs) (x ∷ xs) = var_line box v x ++ var_lines box vs xs

-- the variables of a cat; a cat that isn't there has none
abbrev pub vars_in : Option (Cat Ref) → List Var
vars_in None = []
vars_in (Some c) = c.vars

-- the lines of all boxes, in order of declaration
abbrev pub box_lines : List (Cat Ref) → List BoxInfo → List Vars → List ℕ
box_lines cats [] state = []
box_lines cats (b ∷ bs) [] = []
box_lines cats (b ∷ bs) (vars ∷ state) =
    var_lines b.name.text (vars_in (slice_get cats b.cat)) vars.values ++ box_lines cats bs state

-- how attempts ended, with the name of the one that stopped them
abbrev pub ending_line : (ℕ → List ℕ) → LastLine → List ℕ
ending_line name_of L.Done = line (codes "done")
ending_line name_of (L.Trapped a t) = line (codes "trapped " ++ name_of a ++ codes " " ++ trap_text t)
ending_line name_of (L.Spent a) = line (codes "spent " ++ name_of a)

-- the last line of the report of a run
abbrev pub last_line_text : Program → LastLine → List ℕ
last_line_text p last = ending_line (name_of_action p) last

-- the lines of the values of all variables
abbrev pub state_lines : Program → State → List ℕ
state_lines p state = box_lines p.cats p.boxes state.boxes

-- the lines after the rounds: the values of all variables, and how the run ended
abbrev pub end_text : Program → LastLine → State → List ℕ
end_text p last state = state_lines p state ++ last_line_text p last

-- the report of a run of this many rounds
abbrev pub report : Program → ℕ → List Placed → State → List ℕ
report p rounds order state = rounds_text p order 1 rounds ++ end_text p (last_line order) state
