-- What the parser answers, and where a refusal stands.
use Rattle.std.specs.Prelude.{◌≡◌, ℕ, true, List, [], ◌∷◌, ◌++◌, Result, Ok, Err}
use Rattle.seuss_parser.specs.Phrases.{Piece, words_in, AreKept}
use Rattle.seuss_parser.specs.Spelling.{Derives, AreProgram, BeginsProgram, IsViable}
use Rattle.seuss_parser.specs.declared.refusal.ParseRefusal.{ParseRefusal}
use Rattle.seuss_parser.specs.declared.refusal.ParseRefusal.TheVariants.{Syntax, Nesting, Memory}
use Rattle.seuss_parser.specs.declared.word.Word.{Word}
use Rattle.seuss_program.specs.declared.tree.Tree.{Tree}

-- some program begins with these words, and none of them passes a limit there
pub record IsBeginning (words : List Word) : Type 0 where
  pub pieces : List Piece
  pub kept : AreKept pieces
  pub words_are : words_in pieces ≡ words
  pub begins : BeginsProgram pieces

-- the line of the last word, or 1 where there is none
abbrev pub last_line : List Word → ℕ
last_line [] = 1
last_line (word ∷ []) = word.line
last_line (word ∷ next ∷ words) = last_line (next ∷ words)

-- no program goes on after these words with the next one, which stands on this line; or they are the whole
-- text, and no program
abbrev pub IsNotGoneOn : List Word → List Word → ℕ → Type 0
IsNotGoneOn front [] line = (line ≡ last_line front) ×
    ((pieces : List Piece) (tree : Tree) → Derives pieces tree → words_in pieces ≡ front → ⊥)
IsNotGoneOn front (word ∷ rest) line = (line ≡ word.line) × (IsViable (front ++ word ∷ []) → ⊥)

-- the first word with which no program continues the words before it, or the end of them
pub record IsSyntax (words : List Word) (line : ℕ) : Type 0 where
  pub front : List Word
  pub rest : List Word
  pub words_are : words ≡ front ++ rest
  pub begins : IsBeginning front
  pub ends : IsNotGoneOn front rest line

-- Every program that begins with these words and this one has it past a limit, and there is one.
pub record Passes (front : List Word) (word : Word) : Type 0 where
  pub pieces : List Piece
  pub kept : AreKept pieces
  pub words_are : words_in pieces ≡ front
  pub begins : BeginsProgram (pieces ++ record { word = word; passes = true } ∷ [])
  pub always : (others : List Piece) (last : Piece) → BeginsProgram (others ++ last ∷ []) →
      words_in others ≡ front → last.word ≡ word → last.passes ≡ true

-- the first word that passes a limit
pub record IsNesting (words : List Word) (line : ℕ) : Type 0 where
  pub front : List Word
  pub word : Word
  pub rest : List Word
  pub words_are : words ≡ front ++ word ∷ rest
  pub line_is : line ≡ word.line
  pub passes : Passes front word

-- what the parser answers for these words: the one tree that they are, or the place of the refusal
abbrev pub Parses : Result Tree ParseRefusal → List Word → Type 0
Parses (Ok tree) words = AreProgram words tree × ((other : Tree) → AreProgram words other → other ≡ tree)
Parses (Err (Syntax line)) words = IsSyntax words line
Parses (Err (Nesting line)) words = IsNesting words line
Parses (Err Memory) words = Unit {0}

-- an answer that says something of the words: memory didn't run out
abbrev pub IsAnswered : Result Tree ParseRefusal → Type 0
IsAnswered (Ok tree) = Unit {0}
IsAnswered (Err (Syntax line)) = Unit {0}
IsAnswered (Err (Nesting line)) = Unit {0}
IsAnswered (Err Memory) = ⊥
