-- Which words stand in a place of an expression: to the left and right of an operator, after `not` and
-- after a minus. Each place wants a level, which is a production of the grammar.
use Rattle.std.specs.Prelude.{◌≡◌, ℕ, zero, suc, List, map}
use Rattle.seuss_parser.specs.Phrases.{Phrase, Piece, words_in, AreKept}
use Rattle.seuss_parser.specs.Grammar.{IsPrimary, IsUnary, IsProduct, IsSum, IsComparison, IsNegation}
use Rattle.seuss_parser.specs.Grammar.{IsConjunction, IsDisjunction, IsExpression}
use Rattle.seuss_parser.specs.declared.word.Word.{Word}
use Rattle.seuss_parser.specs.declared.word.Sort.{Sort}
use Rattle.seuss_program.specs.declared.tree.Name.{Name}
use Rattle.seuss_program.specs.declared.tree.Expr.{Expr}
use Rattle.seuss_print.specs.Lines as L

-- the production of a level, by what may stand in brackets
abbrev pub IsOfLevel : Phrase (Expr Name) → ℕ → Phrase (Expr Name)
IsOfLevel Inner zero = IsDisjunction Inner
IsOfLevel Inner (suc zero) = IsConjunction Inner
IsOfLevel Inner (suc (suc zero)) = IsNegation Inner
IsOfLevel Inner (suc (suc (suc zero))) = IsComparison Inner
IsOfLevel Inner (suc (suc (suc (suc zero)))) = IsSum Inner
IsOfLevel Inner (suc (suc (suc (suc (suc zero))))) = IsProduct Inner
IsOfLevel Inner (suc (suc (suc (suc (suc (suc zero)))))) = IsUnary Inner
IsOfLevel Inner (suc (suc (suc (suc (suc (suc (suc n))))))) = IsPrimary Inner

-- in a place of this level these tokens are the expression, but for lines
pub record StandsAt (level : ℕ) (tokens : List Sort) (e : Expr Name) : Type 0 where
  pub brackets : ℕ
  pub room : ℕ
  pub left : ℕ
  pub other : Expr Name
  pub pieces : List Piece
  pub derives : IsOfLevel (IsExpression brackets) level other room pieces left
  pub kept : AreKept pieces
  pub tokens_are : map (λ (w : Word). w.sort) (words_in pieces) ≡ tokens
  pub same : L.expression other ≡ L.expression e
