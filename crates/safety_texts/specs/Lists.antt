-- Lists of properties, as they are written: `"cat" NAME ":" expr`, any number of times. Places are numbers
-- of words, counted from 0.
use Rattle.std.specs.Prelude.{◌≡◌, ◌⊎◌, ℕ, ◌+◌, List, [], ◌∷◌, slice_get, Option, None, Some, Result, Ok}
use Rattle.std.specs.Prelude.{Err}
use Rattle.seuss_parser.specs.SingleExpressions.{ParsesExpression}
use Rattle.seuss_parser.specs.Words.{as_symbol, as_name}
use Rattle.seuss_parser.specs.declared.refusal.ParseRefusal.TheVariants as P
use Rattle.seuss_parser.specs.declared.symbol.Symbol.TheVariants as S
use Rattle.seuss_parser.specs.declared.word.Word.{Word}
use Rattle.seuss_program.specs.declared.tree.Name.{Name}
use Rattle.safety_texts.specs.declared.texts.PropertyText.{PropertyText}

-- what a word is read as, or else its line
abbrev pub read_or : {A : Type 0} → Option A → ℕ → Result A ℕ
read_or (Some value) line = Ok value
read_or None line = Err line

-- what is read at a word that is wanted behind one on this line, or the line of the refusal: that of another
-- word, and where there is none, that of the last one
abbrev pub wanted : {A : Type 0} → (Word → Option A) → ℕ → Option Word → Result A ℕ
wanted reads line None = Err line
wanted reads line (Some word) = read_or (reads word) word.line

-- one reading after the other, up to the first refusal
abbrev pub and_then : {A B : Type 0} → Result A ℕ → (A → Result B ℕ) → Result B ℕ
and_then (Ok value) next = next value
and_then (Err line) next = Err line

-- the head of a property from a place on, `"cat" NAME ":"`: the name, or the line of the refusal
abbrev pub head : List Word → ℕ → Result Name ℕ
head words at =
    and_then (wanted (as_symbol S.Cat) 1 (slice_get words at)) (λ line.
    and_then (wanted as_name line (slice_get words (at + 1))) (λ name.
    and_then (wanted (as_symbol S.Colon) name.line (slice_get words (at + 2))) (λ colon. Ok name)))

-- one property from a place on, and the place behind it
pub record IsOne (words : List Word) (at : ℕ) (text : PropertyText) (next : ℕ) : Type 0 where
  pub head : head words at ≡ Ok text.cat
  pub expr : ParsesExpression (Ok (text.expr, next)) words (at + 3)

-- from a place on there is no expression: no list goes on with the word on this line, or the text ends
-- within the expression with a word on it, or the word on it passes the limit of marks
abbrev pub IsNoExpression : List Word → ℕ → ℕ → Type 0
IsNoExpression words at line =
    ParsesExpression (Err (P.Syntax line)) words at ⊎ ParsesExpression (Err (P.Nesting line)) words at

-- behind the head of a property from a place on there is no expression
pub record HasNoExpression (words : List Word) (at line : ℕ) : Type 0 where
  pub cat : Name
  pub head : head words at ≡ Ok cat
  pub none : IsNoExpression words (at + 3) line

-- from a place on there is no property, by the line of the first word with which none goes on, or that
-- passes the limit of marks, or by that of the last word, where the text ends within it
abbrev pub IsNone : List Word → ℕ → ℕ → Type 0
IsNone words at line = (head words at ≡ Err line) ⊎ HasNoExpression words at line

-- What the words from a place on are: a list of properties, or none, by this line.
pub data AreList (words : List Word) : ℕ → Result (List PropertyText) ℕ → Type 0 where
  Ended : (at : ℕ) → slice_get words at ≡ None → AreList words at (Ok [])
  Stopped : (at : ℕ) (word : Word) (line : ℕ) → slice_get words at ≡ Some word → IsNone words at line →
      AreList words at (Err line)
  Further : (at : ℕ) (word : Word) (text : PropertyText) (next : ℕ) (texts : List PropertyText) →
      slice_get words at ≡ Some word → IsOne words at text next → AreList words next (Ok texts) →
      AreList words at (Ok (text ∷ texts))
  StoppedFurther : (at : ℕ) (word : Word) (text : PropertyText) (next line : ℕ) →
      slice_get words at ≡ Some word → IsOne words at text next → AreList words next (Err line) →
      AreList words at (Err line)
