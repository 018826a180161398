-- One expression, which is read from a word on: the words that are taken, and what is answered.
use Rattle.std.specs.Prelude.{◌≡◌, ℕ, ◌+◌, true, List, [], ◌∷◌, ◌++◌, length, drop, All, Result, Ok, Err}
use Rattle.seuss_parser.specs.Phrases.{Piece, words_in, AreKept}
use Rattle.seuss_parser.specs.Spelling.{IsWord}
use Rattle.seuss_parser.specs.Grammar.{IsWholeExpression}
use Rattle.seuss_parser.specs.Answers.{last_line}
use Rattle.seuss_parser.specs.WholeReading.{front_line}
use Rattle.seuss_parser.specs.declared.refusal.ParseRefusal.{ParseRefusal}
use Rattle.seuss_parser.specs.declared.refusal.ParseRefusal.TheVariants.{Syntax, Nesting, Memory}
use Rattle.seuss_parser.specs.declared.word.Word.{Word}
use Rattle.seuss_program.specs.declared.tree.Expr.{Expr}
use Rattle.seuss_program.specs.declared.tree.Name.{Name}

-- the pieces are this expression, limits apart, and no other expression contains it
pub record DerivesExpression (pieces : List Piece) (value : Expr Name) : Type 0 where
  pub brackets : ℕ
  pub unused : ℕ
  pub derives : IsWholeExpression brackets value 0 pieces unused

-- the words are this expression, and none of them passes a limit
pub record AreExpression (words : List Word) (value : Expr Name) : Type 0 where
  pub pieces : List Piece
  pub derives : DerivesExpression pieces value
  pub kept : AreKept pieces
  pub words_are : words_in pieces ≡ words

-- some expression begins with these pieces
pub record BeginsExpression (pieces : List Piece) : Type 0 where
  pub rest : List Piece
  pub words : All IsWord (words_in rest)
  pub value : Expr Name
  pub derives : DerivesExpression (pieces ++ rest) value

-- some expression begins with these words, limits apart
pub record MayBegin (words : List Word) : Type 0 where
  pub pieces : List Piece
  pub begins : BeginsExpression pieces
  pub words_are : words_in pieces ≡ words

-- some expression begins with these words, and none of them passes a limit there
pub record AreBegun (words : List Word) : Type 0 where
  pub pieces : List Piece
  pub kept : AreKept pieces
  pub words_are : words_in pieces ≡ words
  pub begins : BeginsExpression pieces

-- no expression begins with these words and the next one, or there is none
abbrev pub AreEnded : List Word → List Word → Type 0
AreEnded front [] = Unit {0}
AreEnded front (word ∷ rest) = MayBegin (front ++ word ∷ []) → ⊥

-- The words that are taken of some: an expression begins with all of them, and none with one more.
pub record AreTaken (words front rest : List Word) : Type 0 where
  pub words_are : words ≡ front ++ rest
  pub begun : AreBegun front
  pub ended : AreEnded front rest

-- The words that are taken from this place on are this one expression, and the next place is behind them.
pub record IsExpressionAt (words : List Word) (from : ℕ) (value : Expr Name) (next : ℕ) : Type 0 where
  pub front : List Word
  pub rest : List Word
  pub taken : AreTaken (drop from words) front rest
  pub is_this : AreExpression front value
  pub only_this : (other : Expr Name) → AreExpression front other → other ≡ value
  pub next_is : next ≡ from + length front

-- The words that are taken from this place on are no expression, limits apart. The line is that of the word
-- that ended them, or that of the end of the text.
pub record IsNoExpressionAt (words : List Word) (from line : ℕ) : Type 0 where
  pub front : List Word
  pub rest : List Word
  pub taken : AreTaken (drop from words) front rest
  pub none : (pieces : List Piece) (value : Expr Name) → DerivesExpression pieces value →
      words_in pieces ≡ front → ⊥
  pub line_is : line ≡ front_line rest (last_line words)

-- Every expression that begins with these words and this one has it past the limit, and there is one.
pub record PassesMarks (front : List Word) (word : Word) : Type 0 where
  pub pieces : List Piece
  pub kept : AreKept pieces
  pub words_are : words_in pieces ≡ front
  pub begins : BeginsExpression (pieces ++ record { word = word; passes = true } ∷ [])
  pub always : (others : List Piece) (last : Piece) → BeginsExpression (others ++ last ∷ []) →
      words_in others ≡ front → last.word ≡ word → last.passes ≡ true

-- the first word from this place on that passes the limit of marks
pub record IsTooDeepAt (words : List Word) (from line : ℕ) : Type 0 where
  pub front : List Word
  pub word : Word
  pub rest : List Word
  pub words_are : drop from words ≡ front ++ word ∷ rest
  pub line_is : line ≡ word.line
  pub passes : PassesMarks front word

-- what is answered for the words of a text from a place on: the one expression that those taken are, with
-- the place behind it, or the line of the refusal
abbrev pub ParsesExpression : Result (Expr Name × ℕ) ParseRefusal → List Word → ℕ → Type 0
ParsesExpression (Ok (value, next)) words from = IsExpressionAt words from value next
ParsesExpression (Err (Syntax line)) words from = IsNoExpressionAt words from line
ParsesExpression (Err (Nesting line)) words from = IsTooDeepAt words from line
ParsesExpression (Err Memory) words from = Unit {0}

-- an answer that says something of the words: memory didn't run out
abbrev pub SaysOfWords : Result (Expr Name × ℕ) ParseRefusal → Type 0
SaysOfWords (Ok found) = Unit {0}
SaysOfWords (Err (Syntax line)) = Unit {0}
SaysOfWords (Err (Nesting line)) = Unit {0}
SaysOfWords (Err Memory) = ⊥
