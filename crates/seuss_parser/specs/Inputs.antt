-- What an input is: words with white space between them, each of which is a number.
use Rattle.std.specs.Prelude.{◌≡◌, ℕ, ◌+◌, ◌^◌, ◌<◌, ◌≤◌, ◌==◌, ◌⊎◌, ℤ, pos, neg_ℤ, IsTrue, not, List, []}
use Rattle.std.specs.Prelude.{◌∷◌, ◌++◌, length, filter, All, Any, Result, Ok, Err}
use Rattle.std.specs.List.{slice_split}
use Rattle.seuss_text.specs.Bytes.{line_feed, is_white}
use Rattle.seuss_text.specs.Limits.{decimal_value, max_text, IsTooLong}
use Rattle.seuss_text.specs.Words.{is_digits}
use Rattle.seuss_parser.specs.declared.input.refusal.InputRefusal.{InputRefusal}
use Rattle.seuss_parser.specs.declared.input.refusal.InputRefusal.TheVariants.{Bad, TooLong, Memory}

-- the lines of a text, without their line feeds
abbrev pub lines_of : List ℕ → List (List ℕ)
lines_of text = slice_split (λ b. b == line_feed) text

-- the parts that have a byte
abbrev pub filled : List (List ℕ) → List (List ℕ)
filled parts = filter (λ part. not (length part == 0)) parts

-- the words of a text: what stands between its white space
abbrev pub words_of : List ℕ → List (List ℕ)
words_of text = filled (slice_split is_white text)

-- the byte that stands before the digits of a negative number
abbrev pub minus : ℕ
minus = 45

-- decimal digits, with a minus in front or without, that stand for this number of 64 bits
abbrev pub IsNumber : List ℕ → ℤ → Type 0
IsNumber word z =
    (IsTrue (is_digits word) × (decimal_value word < 2 ^ 63) × (z ≡ pos (decimal_value word)))
    ⊎ ((digits : List ℕ) × (word ≡ minus ∷ digits) × IsTrue (is_digits digits) ×
    (decimal_value digits ≤ 2 ^ 63) × (z ≡ neg_ℤ (pos (decimal_value digits))))

-- the words stand for these numbers, each for the one in its place
abbrev pub AreNumbers : List (List ℕ) → List ℤ → Type 0
AreNumbers [] [] = Unit {0}
AreNumbers [] (z ∷ zs) = ⊥
AreNumbers (word ∷ words) [] = ⊥
AreNumbers (word ∷ words) (z ∷ zs) = IsNumber word z × AreNumbers words zs

-- the text is the input of these numbers: its words stand for them
abbrev pub IsInput : List ℕ → List ℤ → Type 0
IsInput text numbers = AreNumbers (words_of text) numbers

-- the word stands for no number
abbrev pub IsNoNumber : List ℕ → Type 0
IsNoNumber word = (z : ℤ) → IsNumber word z → ⊥

-- The line of the first word that stands for no number, counted from 1: on the lines before it each word
-- stands for a number, and on it one doesn't.
pub record IsBadInput (text : List ℕ) (line : ℕ) : Type 0 where
  pub before : List (List ℕ)
  pub bad : List ℕ
  pub behind : List (List ℕ)
  pub spelled : lines_of text ≡ before ++ bad ∷ behind
  pub numbers : All (λ passed. (zs : List ℤ) × IsInput passed zs) before
  pub no_number : Any IsNoNumber (words_of bad)
  pub line_is : line ≡ length before + 1

-- What a text is read as: the numbers of the input that it is, or why it is none, or want of memory.
abbrev pub ReadsInput : Result (List ℤ) InputRefusal → List ℕ → Type 0
ReadsInput (Ok numbers) text = (length text ≤ max_text) × IsInput text numbers
ReadsInput (Err (Bad line)) text = (length text ≤ max_text) × IsBadInput text line
ReadsInput (Err TooLong) text = IsTooLong text
ReadsInput (Err Memory) text = Unit {0}
