-- The command that words are. A number word is the decimal text of a number: no sign, no leading zero.
use Rattle.std.specs.Prelude.{◌≡◌, ◌<◌, ◌≤◌, All, ℕ, ◌-◌, Bool, ◌&&◌, ◌==◌, nat_le, nat_lt, if◌then◌else◌, List, [], ◌∷◌}
use Rattle.std.specs.Prelude.{◌++◌, length, codes, decimal, Option, None, Some, option_map, option_and_then}
use Rattle.std.specs.Prelude.{true, false, bytes_eq}
use Rattle.std.specs.List.{before_first, after_first}
use Rattle.std.specs.Str.Parse.{digits_value}
use Rattle.seuss_text.specs.Words.{kind_of}
use Rattle.seuss_text.specs.declared.token.TokenKind.{TokenKind}
use Rattle.seuss_text.specs.declared.token.TokenKind.TheVariants.{Name}
use Rattle.seuss_run.specs.declared.words.Command.{Command}
use Rattle.seuss_run.specs.declared.words.Command.TheVariants as C
use Rattle.seuss_run.specs.declared.words.TheConstants.{MOST_ROUNDS, MOST_WIDTH, MOST_TURNS, MOST_BUDGET}
use Rattle.seuss_run.specs.declared.words.TheConstants.{DEFAULT_BUDGET, MOST_ACTIONS, MOST_WORKERS}

-- the number whose decimal text a word is, where it is one from the least to the most
abbrev pub number_in : ℕ → ℕ → List ℕ → Option ℕ
number_in least most word =
    let n = digits_value 10 word in
    if bytes_eq (decimal n) word && (nat_le least n && nat_le n most) then Some n else None

-- what is made of each item of a list, where something is made of each
abbrev pub each_in : {A B : Type 0} → (A → Option B) → List A → Option (List B)
each_in read [] = Some []
each_in read (x ∷ xs) = option_and_then (λ y. option_map (λ ys. y ∷ ys) (each_in read xs)) (read x)

-- `[BUDGET]`
abbrev pub budget_in : List (List ℕ) → Option ℕ
budget_in [] = Some DEFAULT_BUDGET
budget_in (budget ∷ []) = number_in 1 MOST_BUDGET budget
budget_in words = None

-- `ROUNDS WORKERS [BUDGET]`
abbrev pub run_of : List (List ℕ) → Option Command
run_of (rounds ∷ (workers ∷ others)) =
    option_and_then (λ r. option_and_then (λ w. option_map (λ b. C.Run r w b) (budget_in others))
    (number_in 1 MOST_WORKERS workers)) (number_in 1 MOST_ROUNDS rounds)
run_of words = None

-- the worker of a turn, which a byte names: `0` to `9`, and `a` to `f` for 10 to 15
abbrev pub worker_in : ℕ → ℕ → Option ℕ
worker_in width byte =
    let worker = if nat_le 48 byte && nat_le byte 57 then byte - 48 else
    (if nat_le 97 byte && nat_le byte 102 then byte - 87 else width) in
    if nat_lt worker width then Some worker else None

-- `TURNS`: `-` for none, or 1 to 4,096 digits
abbrev pub turns_in : ℕ → List ℕ → Option (List ℕ)
turns_in width turns =
    if bytes_eq turns (codes "-") then Some [] else
    (if nat_le 1 (length turns) && nat_le (length turns) MOST_TURNS then each_in (worker_in width) turns
    else None)

-- `ROUNDS WIDTH TURNS [BUDGET]`
abbrev pub sim_of : List (List ℕ) → Option Command
sim_of (rounds ∷ (width ∷ (turns ∷ others))) =
    option_and_then (λ r. option_and_then (λ w. option_and_then (λ ts. option_map (λ b. C.Sim r w ts b)
    (budget_in others)) (turns_in w turns)) (number_in 1 MOST_WIDTH width)) (number_in 1 MOST_ROUNDS rounds)
sim_of words = None

-- a whole text is a name of the notation, of any length
abbrev pub is_name_kind : Option TokenKind → Bool
is_name_kind (Some Name) = true
is_name_kind kind = false

-- the names of a box and of its action as one word, with a point between
abbrev pub action_word : List ℕ × List ℕ → List ℕ
action_word names = names.0 ++ codes "." ++ names.1

-- `BOX.ACTION`: the names of a box and of its action, with a point between
abbrev pub action_in : List ℕ → Option (List ℕ × List ℕ)
action_in word =
    let owner = before_first (λ b. b == 46) word in
    let action = after_first (λ b. b == 46) word in
    if is_name_kind (kind_of owner) && is_name_kind (kind_of action) then Some (owner, action) else None

-- words BOX.ACTION
abbrev pub tight_of : List (List ℕ) → Option Command
tight_of words =
    if nat_le (length words) MOST_ACTIONS then option_map C.Tight (each_in action_in words) else None

-- a command with no words after it
abbrev pub alone : Command → List (List ℕ) → Option Command
alone command [] = Some command
alone command words = None

-- the command with this name and these words, where it is one that waits for no other thread
abbrev pub still_of : List ℕ → List (List ℕ) → Option Command
still_of name words =
    if bytes_eq name (codes "sim") then sim_of words else
    (if bytes_eq name (codes "tight") then tight_of words else
    (if bytes_eq name (codes "matrix") then alone C.Matrix words else
    (if bytes_eq name (codes "check") then alone C.Check words else
    (if bytes_eq name (codes "print") then alone C.Print words else
    (if bytes_eq name (codes "prove") then alone C.Prove words else None)))))

-- The command that words are.
unfoldable pub command_of : List (List ℕ) → Option Command
command_of [] = None
command_of (name ∷ words) = if bytes_eq name (codes "run") then run_of words else still_of name words

-- the words are those of the command
abbrev pub IsCommand : List (List ℕ) → Command → Type 0
IsCommand words command = command_of words ≡ Some command

-- the numbers of a run by workers are within their limits
pub record AreRunLimits (rounds workers budget : ℕ) : Type 0 where
  pub few_rounds : rounds ≤ MOST_ROUNDS
  pub some_workers : 1 ≤ workers
  pub few_workers : workers ≤ MOST_WORKERS
  pub some_budget : 1 ≤ budget
  pub small_budget : budget ≤ MOST_BUDGET

-- the numbers of a run by turns are within their limits
pub record AreTurnLimits (rounds width : ℕ) (turns : List ℕ) (budget : ℕ) : Type 0 where
  pub few_rounds : rounds ≤ MOST_ROUNDS
  pub some_width : 1 ≤ width
  pub small_width : width ≤ MOST_WIDTH
  pub workers : All (λ w. w < width) turns
  pub some_budget : 1 ≤ budget
  pub small_budget : budget ≤ MOST_BUDGET

-- the numbers of a command are within their limits
abbrev pub HasLimits : Command → Type 0
HasLimits (C.Run rounds workers budget) = AreRunLimits rounds workers budget
HasLimits (C.Sim rounds width turns budget) = AreTurnLimits rounds width turns budget
HasLimits (C.Tight actions) = Unit {0}
HasLimits C.Matrix = Unit {0}
HasLimits C.Check = Unit {0}
HasLimits C.Print = Unit {0}
HasLimits C.Prove = Unit {0}
