-- What a text spells, and which words some program begins with.
use Rattle.std.specs.Prelude.{◌≡◌, ℕ, List, ◌++◌, All}
use Rattle.seuss_text.specs.Rows.{AreTokens}
use Rattle.seuss_text.specs.Limits.{AreInLimits}
use Rattle.seuss_text.specs.declared.token.Token.{Token}
use Rattle.seuss_text.specs.declared.token.TokenKind.{TokenKind}
use Rattle.seuss_program.specs.declared.tree.Tree.{Tree}
use Rattle.seuss_parser.specs.declared.word.Word.{Word}
use Rattle.seuss_parser.specs.Words.{words_of, IsSortOf}
use Rattle.seuss_parser.specs.Phrases.{Piece, words_in, AreKept}
use Rattle.seuss_parser.specs.Grammar.{IsProgram}

-- The pieces are a program with this tree, limits apart. Outside of expressions there is no room for marks.
pub record Derives (pieces : List Piece) (tree : Tree) : Type 0 where
  pub brackets : ℕ
  pub blocks : ℕ
  pub unused : ℕ
  pub derives : IsProgram brackets blocks tree 0 pieces unused

-- the words are a program with this tree, and none of them passes a limit
pub record AreProgram (words : List Word) (tree : Tree) : Type 0 where
  pub pieces : List Piece
  pub derives : Derives pieces tree
  pub kept : AreKept pieces
  pub words_are : words_in pieces ≡ words

-- The text spells the tree: it has tokens within their limits, whose words are a program with this tree.
pub record Spells (text : List ℕ) (tree : Tree) : Type 0 where
  pub tokens : List Token
  pub are_tokens : AreTokens text tokens
  pub in_limits : AreInLimits text tokens
  pub derives : AreProgram (words_of text tokens) tree

-- a word that a token may be
pub record IsWord (word : Word) : Type 0 where
  pub bytes : List ℕ
  pub kind : TokenKind
  pub is : IsSortOf bytes kind word.sort

-- some program begins with these pieces
pub record BeginsProgram (pieces : List Piece) : Type 0 where
  pub rest : List Piece
  pub words : All IsWord (words_in rest)
  pub tree : Tree
  pub derives : Derives (pieces ++ rest) tree

-- some program begins with these words, limits apart
pub record IsViable (words : List Word) : Type 0 where
  pub pieces : List Piece
  pub begins : BeginsProgram pieces
  pub words_are : words_in pieces ≡ words
