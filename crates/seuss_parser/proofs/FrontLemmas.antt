-- What is found in a table for the symbol of the next word is what the word means there.
use Rattle.std.proofs.Common.{◌≡◌, ℕ, List, [], ◌∷◌, Option, Some, None, is_some, refl, ap, subst, ◌∙◌}
use Rattle.std.proofs.Common.{Result}
use Rattle.seuss_parser.specs.Readings.{Read, Gives, got_mark, one_mark}
use Rattle.seuss_parser.specs.Words.{meaning_of, marked_as}
use Rattle.seuss_parser.specs.CommonReading.{read_mark_of}
use Rattle.seuss_parser.specs.Fronts.{begins_with_one_of}
use Rattle.seuss_parser.specs.Levels.{operators}
use Rattle.seuss_parser.specs.Cursor.{symbol_in, front_symbol}
use Rattle.seuss_parser.specs.declared.level.Level.{Level}
use Rattle.seuss_parser.specs.declared.level.Level.TheVariants as L
use Rattle.seuss_parser.specs.declared.stop.Stop.{Stop}
use Rattle.seuss_parser.specs.declared.symbol.Symbol.{Symbol}
use Rattle.seuss_parser.specs.declared.symbol.Symbol.TheVariants as S
use Rattle.seuss_parser.specs.declared.word.Marked.{Marked}
use Rattle.seuss_parser.specs.declared.word.Sort.{Sort}
use Rattle.seuss_parser.specs.declared.word.Sort.TheVariants.{Fixed, Name as Named, Number}
use Rattle.seuss_parser.specs.declared.word.Word.{Word}

module _ {A : Type 0} (table : Symbol → Option A) (other : table S.Other ≡ None) where
  meaning-symbol : (line : ℕ) (sort : Sort) →
      marked_as line (table (symbol_in sort)) ≡ meaning_of table line sort
  meaning-symbol line (Fixed symbol) = refl
  meaning-symbol line (Named text) = ap (marked_as line) other
  meaning-symbol line (Number value) = ap (marked_as line) other

  -- the next word means something exactly where its symbol does
  pub front-begins : (words : List Word) →
      is_some (table (front_symbol words)) ≡ begins_with_one_of table words
  front-begins [] = ap is_some other
  front-begins (word ∷ words) = by_sort word.sort
    where
      by_sort : (sort : Sort) → is_some (table (symbol_in sort)) ≡ is_some (meaning_of table 0 sort)
      by_sort (Fixed symbol) = by_meaning (table symbol)
        where
          by_meaning : (found : Option A) → is_some found ≡ is_some (marked_as 0 found)
          by_meaning None = refl
          by_meaning (Some a) = refl
      by_sort (Named text) = ap is_some other
      by_sort (Number value) = ap is_some other

  -- as a mark it is read as what its symbol means
  pub front-mark : (room : ℕ) (words : List Word) →
      one_mark (λ word. marked_as word.line (table (front_symbol words))) room words ≡
      read_mark_of table room words
  front-mark room [] = refl
  front-mark room (word ∷ words) = ap (got_mark room word words) (meaning-symbol word.line word.sort)

-- no operator is the symbol of no keyword and no sign
pub operators-other : (level : Level) → operators level S.Other ≡ None
operators-other L.Or = refl
operators-other L.And = refl
operators-other L.Comparison = refl
operators-other L.Sum = refl
operators-other L.Product = refl

-- the call that takes what was found in a table reads what the table has
pub mark-reads : {A : Type 0} (table : Symbol → Option A) → table S.Other ≡ None →
    (room : ℕ) (words : List Word)
    (found : Option A) (symbol : Symbol) (result : Result (Marked A) Stop) (left : ℕ) (rest : List Word) →
    found ≡ table symbol → symbol ≡ front_symbol words →
    Gives result left rest (one_mark (λ word. marked_as word.line found) room words) →
    Gives result left rest (read_mark_of table room words)
mark-reads {A} table other room words found symbol result left rest is at gives =
    let same : found ≡ table (front_symbol words) = is ∙ ap table at in
    subst (λ (read : Read (Marked A)). Gives result left rest read) (front-mark table other room words)
    (subst (λ f. Gives result left rest (one_mark (λ word. marked_as word.line f) room words)) same gives)
