-- Reading: what is found at the front of words, with the room for marks as in `Phrases`, or where and why
-- reading stops.
use Rattle.std.specs.Prelude.{◌≡◌, ℕ, zero, suc, Bool, true, false, cond, List, [], ◌∷◌, length, Option}
use Rattle.std.specs.Prelude.{Some, None}
use Rattle.std.specs.Prelude.{Result, Ok, Err}
use Rattle.seuss_parser.specs.declared.stop.Stop.{Stop}
use Rattle.seuss_parser.specs.declared.stop.Stop.TheVariants as stops
use Rattle.seuss_parser.specs.declared.word.Word.{Word}

infixl 10 ◌>>=◌
infixl 10 ◌>>◌
-- why reading stops: the next word goes on nothing, or there is none; or it passes a limit
pub data Fault : Type 0 where
  Unexpected : Fault
  TooDeep : Fault

-- a value, the room that is left and the words after it; or a refusal, and the words from the refused one
-- on
pub data Read (A : Type 0) : Type 0 where
  Got : A → ℕ → List Word → Read A
  Refused : Fault → List Word → Read A

-- what is read, by the room and the words
abbrev pub Reading : Type 0 → Type 0
Reading A = ℕ → List Word → Read A

-- what a call answered is what was read, with what it left, unless memory ran out
abbrev pub Gives : {A : Type 0} → Result A Stop → ℕ → List Word → Read A → Type 0
Gives (Ok value) left rest read = read ≡ Got value left rest
Gives (Err stops.Unexpected) left rest read = read ≡ Refused Unexpected rest
Gives (Err stops.TooDeep) left rest read = read ≡ Refused TooDeep rest
Gives (Err stops.Memory) left rest read = Unit {0}

-- what was read, and what is read after it
abbrev pub read_then : {A B : Type 0} → Read A → (A → Reading B) → Read B
read_then (Got value left rest) next = next value left rest
read_then (Refused fault rest) next = Refused fault rest

-- the value of a word that may pass a limit, and the words after it
abbrev pub got_word : {A : Type 0} → Bool → ℕ → Word → List Word → Option A → Read A
got_word passes left word rest None = Refused Unexpected (word ∷ rest)
got_word passes left word rest (Some value) =
    cond passes (Refused TooDeep (word ∷ rest)) (Got value left rest)

-- the next word, which passes a limit here or doesn't
abbrev pub one_word : {A : Type 0} → (Word → Option A) → Bool → Reading A
one_word reads passes room [] = Refused Unexpected []
one_word reads passes room (word ∷ rest) = got_word passes room word rest (reads word)

-- the value of a mark, which is refused where there is no room
abbrev pub got_mark : {A : Type 0} → ℕ → Word → List Word → Option A → Read A
got_mark zero word rest found = got_word true 0 word rest found
got_mark (suc left) word rest found = got_word false left word rest found

-- the next word, as a mark
abbrev pub one_mark : {A : Type 0} → (Word → Option A) → Reading A
one_mark reads room [] = Refused Unexpected []
one_mark reads room (word ∷ rest) = got_mark room word rest (reads word)

-- nothing more, with this value
abbrev pub ends : {A : Type 0} → A → Reading A
ends value room words = Got value room words

-- one of two, by how the words begin
abbrev pub either : {A : Type 0} → (List Word → Bool) → Reading A → Reading A → Reading A
either starts first second room words = cond (starts words) (first room words) (second room words)

-- what was read, changed
abbrev pub read_as : {A B : Type 0} → (A → B) → Read A → Read B
read_as change read = read_then read (λ value left rest. Got (change value) left rest)

-- one, where the words begin so
abbrev pub optional : {A : Type 0} → (List Word → Bool) → Reading A → Reading (Option A)
optional starts one room words = cond (starts words) (read_as Some (one room words)) (Got None room words)

-- one more value at the front
abbrev pub with_front : {A : Type 0} → A → Read (List A) → Read (List A)
with_front value read = read_then read (λ values left rest. Got (value ∷ values) left rest)

-- as long as the words begin so, at most so many times
abbrev pub many_up_to : {A : Type 0} → ℕ → (List Word → Bool) → Reading A → Reading (List A)
many_up_to zero starts one room words = Got [] room words
many_up_to (suc n) starts one room words =
    cond (starts words)
    (read_then (one room words) (λ value left rest. with_front value (many_up_to n starts one left rest)))
    (Got [] room words)

-- as long as the words begin so
abbrev pub many : {A : Type 0} → (List Word → Bool) → Reading A → Reading (List A)
many starts one room words = many_up_to (length words) starts one room words

-- an expression that no other one contains, with room for so many marks
abbrev pub whole : {A : Type 0} → ℕ → Reading A → Reading A
whole marks one room words = read_then (one marks words) (λ value left rest. Got value room rest)

-- for the `do` of a reading
abbrev pub ◌>>=◌ : {A B : Type 0} → Reading A → (A → Reading B) → Reading B
(one >>= next) room words = read_then (one room words) next

-- where the first value doesn't matter
abbrev pub ◌>>◌ : {A B : Type 0} → Reading A → Reading B → Reading B
(one >> next) room words = read_then (one room words) (λ value. next)
