-- Chains of operators and comparisons, from the calls for their parts.
use Rattle.std.proofs.Common.{◌≡◌, ℕ, true, false, List, refl, sym, subst, Result}
use Rattle.seuss_parser.specs.Readings.{Reading, Gives, Got}
use Rattle.seuss_parser.specs.ExpressionReading.{read_chain, read_behind, read_product, read_sum}
use Rattle.seuss_parser.specs.ExpressionReading.{read_comparison}
use Rattle.seuss_parser.specs.ExpressionReading.{read_conjunction}
use Rattle.seuss_parser.specs.Fronts.{begins_with_one_of}
use Rattle.seuss_parser.specs.Levels.{operators, read_part, read_level, read_links}
use Rattle.seuss_parser.specs.Trees.{two}
use Rattle.seuss_parser.specs.declared.level.Level.{Level}
use Rattle.seuss_parser.specs.declared.level.Level.TheVariants as L
use Rattle.seuss_parser.specs.declared.stop.Stop.{Stop}
use Rattle.seuss_parser.specs.declared.word.Behind.{Behind}
use Rattle.seuss_parser.specs.declared.word.Word.{Word}
use Rattle.seuss_program.specs.declared.tree.Name.{Name}
use Rattle.seuss_program.specs.declared.tree.Expr.{Expr}
use Rattle.seuss_parser.proofs.LoopLemmas.{HandsOn}

module _ (inner : Reading (Expr Name)) (room : ℕ) (words : List Word) where
  -- a part of a level is a chain of the next one
  pub part-Or : (level : Level) (result : Result (Expr Name) Stop) (left : ℕ) (rest : List Word) →
      level ≡ L.Or → Gives result left rest (read_level L.And inner room words) →
      Gives result left rest (read_part level inner room words)
  unfolding read_conjunction
  part-Or level result left rest is gives =
      subst (λ l. Gives result left rest (read_part l inner room words)) (sym is) gives

  pub part-Comparison : (level : Level) (result : Result (Expr Name) Stop) (left : ℕ) (rest : List Word) →
      level ≡ L.Comparison → Gives result left rest (read_level L.Sum inner room words) →
      Gives result left rest (read_part level inner room words)
  unfolding read_sum
  part-Comparison level result left rest is gives =
      subst (λ l. Gives result left rest (read_part l inner room words)) (sym is) gives

  pub part-Sum : (level : Level) (result : Result (Expr Name) Stop) (left : ℕ) (rest : List Word) →
      level ≡ L.Sum → Gives result left rest (read_level L.Product inner room words) →
      Gives result left rest (read_part level inner room words)
  unfolding read_product
  part-Sum level result left rest is gives =
      subst (λ l. Gives result left rest (read_part l inner room words)) (sym is) gives

  -- a first part and what stands behind it are a chain
  pub chain-links : (level : Level) (first : Expr Name) (left : ℕ) (rest : List Word)
      (result : Result (Expr Name) Stop) (later : ℕ) (behind : List Word) →
      read_part level inner room words ≡ Got first left rest →
      Gives result later behind (read_links level inner first left rest) →
      Gives result later behind (read_level level inner room words)
  unfolding read_chain
  chain-links level first left rest result later behind read gives = rw read gives

  -- a comparison is refused where its left sum is
  pub comparison-left : HandsOn (read_level L.Sum inner room words) (read_comparison inner room words)
  unfolding read_comparison read_sum
  comparison-left fault rest refused = rw refused refl

  module _ (sum : Expr Name) (left : ℕ) (rest : List Word)
      (first : read_level L.Sum inner room words ≡ Got sum left rest) where
    -- it is one sum where no sign of a comparison stands behind it
    pub comparison-plain : begins_with_one_of (operators L.Comparison) rest ≡ false →
        read_comparison inner room words ≡ Got sum left rest
    unfolding read_comparison read_sum
    comparison-plain begins = rw (first, begins) refl

    module _ (begins : begins_with_one_of (operators L.Comparison) rest ≡ true) where
      -- else it is two, or is refused where the second one is
      pub comparison-two : (next : Behind) (whole : Expr Name) (later : ℕ) (behind : List Word) →
          read_behind (operators L.Comparison) (read_part L.Comparison inner) left rest ≡
          Got next later behind →
          whole ≡ two next.op sum next.part → read_comparison inner room words ≡ Got whole later behind
      unfolding read_comparison read_sum
      comparison-two next whole later behind second is = rw (is, first, begins, second) refl

      pub comparison-right :
          HandsOn (read_behind (operators L.Comparison) (read_part L.Comparison inner) left rest)
          (read_comparison inner room words)
      unfolding read_comparison read_sum
      comparison-right fault behind refused = rw (first, begins, refused) refl
