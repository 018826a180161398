-- Reading an expression sees the words that it takes and the next one alone.
use Rattle.std.proofs.Common.{◌≡◌, ◌≤◌, ◌+◌, ◌∷◌, ◌++◌, ℕ, zero, suc, true, List, [], refl, arith}
use Rattle.std.proofs.Common.{Option, Some, None, Bool, false, cond, ap, sym, ◌∙◌, length, length-append}
use Rattle.std.specs.Prelude.{is_some, if◌then◌else◌}
use Rattle.seuss_parser.specs.Readings.{Read, Got, Refused, Reading, Unexpected, TooDeep, read_then, one_mark}
use Rattle.seuss_parser.specs.Readings.{ends, either, optional, many, got_mark, read_as}
use Rattle.seuss_parser.specs.Words.{as_symbol, as_name, as_numeral, as_one_of, is_symbol, meaning_of}
use Rattle.seuss_parser.specs.Words.{marked_as}
use Rattle.seuss_parser.specs.Grammar.{max_marks}
use Rattle.seuss_parser.specs.CommonReading.{read_symbol, read_mark, read_one_of, read_mark_of, read_name}
use Rattle.seuss_parser.specs.CommonReading.{read_numeral}
use Rattle.seuss_parser.specs.ExpressionReading.{read_number, read_truth, read_value_name, read_empty}
use Rattle.seuss_parser.specs.ExpressionReading.{read_behind, read_chain, read_bracketed, read_function}
use Rattle.seuss_parser.specs.ExpressionReading.{read_pair_function, read_primary, read_unary, read_product}
use Rattle.seuss_parser.specs.ExpressionReading.{read_sum, read_comparison, read_negation}
use Rattle.seuss_parser.specs.ExpressionReading.{read_conjunction, read_disjunction, read_expression}
use Rattle.seuss_parser.specs.ExpressionReading.{most_brackets, read_whole_expression}
use Rattle.seuss_parser.specs.Fronts.{begins_with, begins_with_one_of, begins_with_name, begins_with_number}
use Rattle.seuss_parser.specs.Trees.{disjunction, conjunction, comparison, addition, multiplication}
use Rattle.seuss_parser.specs.Trees.{function, pair_function, truth, expression, grouped, compared}
use Rattle.seuss_parser.specs.Trees.{negated, minus, bracketed}
use Rattle.seuss_parser.specs.declared.symbol.Symbol.{Symbol}
use Rattle.seuss_parser.specs.declared.symbol.Symbol.TheVariants as S
use Rattle.seuss_parser.specs.declared.word.Behind.{Behind}
use Rattle.seuss_parser.specs.declared.word.Marked.{Marked}
use Rattle.seuss_parser.specs.declared.word.Sort.{Sort}
use Rattle.seuss_parser.specs.declared.word.Sort.TheVariants.{Fixed, Name as Named, Number}
use Rattle.seuss_parser.specs.declared.word.Word.{Word}
use Rattle.seuss_program.specs.declared.tree.Name.{Name}
use Rattle.seuss_program.specs.declared.tree.Expr.{Expr}
use Rattle.seuss_program.specs.declared.tree.Node.TheVariants as N
use Rattle.seuss_program.specs.declared.tree.Op.{Op}
use Rattle.seuss_parser.proofs.Sets.{the_symbol, the_names, the_numbers}
use Rattle.seuss_parser.proofs.FirstSets.{the_table}
use Rattle.seuss_parser.proofs.WordTests.{tests-symbol, tests-table, tests-name, tests-number}
use Rattle.seuss_parser.proofs.CutReads.{Again, Cuts, IsNoneAtEnd, IsReady, cut-word, cut-mark, cut-then}
use Rattle.seuss_parser.proofs.CutReads.{cut-last, cut-either, cut-perhaps, cut-whole}
use Rattle.seuss_parser.proofs.CutMany.{cut-many}

-- a mark that is right here isn't unexpected
marked : {A : Type 0} (reads : Word → Option A) (room : ℕ) (word : Word) (words rest : List Word)
    (value : A) → reads word ≡ Some value → one_mark reads room (word ∷ words) ≡ Refused Unexpected rest → ⊥
marked reads zero word words rest value is read =
    let at : Refused TooDeep (word ∷ words) ≡ Refused Unexpected rest =
    ap (λ o. got_mark zero word words o) (sym is) ∙ read in
    absurd (cc)
marked reads (suc left) word words rest value is read =
    let at : Got value left words ≡ Refused Unexpected rest =
    ap (λ o. got_mark (suc left) word words o) (sym is) ∙ read in
    absurd (cc)

-- nor is one with something behind it, where the words behind it are fewer
marked-then : {A B : Type 0} (reads : Word → Option A) (next : A → Reading B) (cuts : (x : A) → Cuts (next x))
    (room : ℕ) (word : Word) (words : List Word) (value : A) → reads word ≡ Some value →
    read_then (one_mark reads room (word ∷ words)) next ≡ Refused Unexpected (word ∷ words) → ⊥
marked-then reads next cuts zero word words value is read =
    let at : Refused TooDeep (word ∷ words) ≡ Refused Unexpected (word ∷ words) =
    ap (λ o. read_then (got_mark zero word words o) next) (sym is) ∙ read in
    absurd (cc)
marked-then {A} {B} reads next cuts (suc left) word words value is read =
    too-long (next value left words) ((cuts value).at left words)
    (ap (λ o. read_then (got_mark (suc left) word words o) next) (sym is) ∙ read)
  where
    too-long : (r : Read B) → Again (next value) left words r → r ≡ Refused Unexpected (word ∷ words) → ⊥
    too-long (Got found room rest) again same = absurd (cc)
    too-long (Refused TooDeep rest) again same = absurd (cc)
    too-long (Refused Unexpected rest) again same =
        let rest_is : rest ≡ word ∷ words = cc in
        let long : length words ≡ length (again.taken ++ rest) = ap (λ ws. length ws) again.words_are in
        let parts : length (again.taken ++ rest) ≡ length again.taken + length rest =
        length-append again.taken rest in
        let behind : length rest ≡ suc (length words) = ap (λ ws. length ws) rest_is in
        absurd (omega arith)

ready-mark : (symbol : Symbol) → IsReady (begins_with symbol) (read_mark symbol)
ready-mark symbol = record {
  at = λ room word words is read. marked (as_symbol symbol) room word words (word ∷ words) word.line
      (ap (λ b. cond b (Some word.line) None) is) read;
}

-- a word of a table stands for something
table-value : {A : Type 0} (table : Symbol → Option A) (line : ℕ) (sort : Sort) →
    is_some (meaning_of table 0 sort) ≡ true → (value : Marked A) × (meaning_of table line sort ≡ Some value)
table-value {A} table line (Fixed symbol) is = by_found (table symbol) is
  where
    by_found : (o : Option A) → is_some (marked_as 0 o) ≡ true →
        (value : Marked A) × (marked_as line o ≡ Some value)
    by_found None is = absurd (cc)
    by_found (Some a) is = (record { is = a; line = line }, refl)
table-value table line (Named text) is = absurd (cc)
table-value table line (Number value) is = absurd (cc)

-- chains, by their parts
module _ (ops : Symbol → Option Op) (part : Reading (Expr Name)) (cuts : Cuts part) where
  cut-behind : Cuts (read_behind ops part)
  unfolding read_behind
  cut-behind = cut-then (cut-mark (as_one_of ops))
      (λ op. cut-last (λ found. record { op = op.is; part = found }) cuts)

  none-behind : IsNoneAtEnd (read_behind ops part)
  unfolding read_behind
  none-behind = record { at = λ room. refl }

  ready-behind : IsReady (begins_with_one_of ops) (read_behind ops part)
  unfolding read_behind
  ready-behind = record {
    at = λ room word words is read.
        let value = table-value ops word.line word.sort is in
        marked-then (as_one_of ops)
        (λ op. λ r ws. read_then (part r ws) (λ found. ends (record { op = op.is; part = found })))
        (λ op. cut-last (λ found. record { op = op.is; part = found }) cuts)
        room word words value.0 value.1 read;
  }

  cut-chain : Cuts (read_chain ops part)
  unfolding read_chain
  cut-chain = cut-then cuts (λ first. cut-last (λ others. grouped first others)
      (cut-many (begins_with_one_of ops) (the_table ops) (tests-table ops) (read_behind ops part)
      none-behind ready-behind cut-behind))

cut-number : Cuts read_number
unfolding read_number
cut-number = cut-last (λ number. expression number.line (N.Int number.value)) (cut-word as_numeral false)

cut-truth : Cuts read_truth
unfolding read_truth
cut-truth = cut-last (λ word. expression word.line (N.Bool word.is)) (cut-word (as_one_of truth) false)

cut-value_name : Cuts read_value_name
unfolding read_value_name
cut-value_name = cut-last (λ name. expression name.line (N.Name name)) (cut-word as_name false)

cut-empty : Cuts read_empty
unfolding read_empty
cut-empty = cut-then (cut-mark (as_symbol S.OpenSquare))
    (λ line. cut-last (λ close. expression line N.Empty) (cut-word (as_symbol S.CloseSquare) false))

-- expressions, by those that may stand in brackets
module _ (inner : Reading (Expr Name)) (cuts : Cuts inner) where
  cut-bracketed : Cuts (read_bracketed inner)
  unfolding read_bracketed
  cut-bracketed = cut-then (cut-mark (as_symbol S.Open)) (λ line. cut-then cuts
      (λ found. cut-last (λ close. bracketed line found) (cut-word (as_symbol S.Close) false)))

  cut-function : Cuts (read_function inner)
  unfolding read_function
  cut-function = cut-then (cut-mark (as_one_of function)) (λ word. cut-then (cut-mark (as_symbol S.Open))
      (λ line. cut-then cuts (λ part. cut-last (λ close. expression word.line (N.One word.is part))
      (cut-word (as_symbol S.Close) false))))

  cut-pair_function : Cuts (read_pair_function inner)
  unfolding read_pair_function
  cut-pair_function = cut-then (cut-mark (as_one_of pair_function)) (λ word.
      cut-then (cut-mark (as_symbol S.Open)) (λ line. cut-then cuts (λ left.
      cut-then (cut-word (as_symbol S.Comma) false) (λ comma. cut-then cuts (λ right.
      cut-last (λ close. expression word.line (N.Two word.is left right))
      (cut-word (as_symbol S.Close) false))))))

  abbrev read_pairs : Reading (Expr Name)
  read_pairs = either (begins_with_one_of function) (read_function inner) (read_pair_function inner)

  abbrev read_brackets : Reading (Expr Name)
  read_brackets = either (begins_with S.Open) (read_bracketed inner) read_pairs

  abbrev read_squares : Reading (Expr Name)
  read_squares = either (begins_with S.OpenSquare) read_empty read_brackets

  abbrev read_values : Reading (Expr Name)
  read_values = either begins_with_name read_value_name read_squares

  abbrev read_truths : Reading (Expr Name)
  read_truths = either (begins_with_one_of truth) read_truth read_values

  cut-pairs : Cuts read_pairs
  unfolding read_function read_pair_function
  cut-pairs = cut-either (begins_with_one_of function) (the_table function) (tests-table function)
      (read_function inner) (read_pair_function inner) (record { at = λ room. refl })
      (record { at = λ room. refl }) cut-function cut-pair_function

  cut-brackets : Cuts read_brackets
  unfolding read_bracketed read_function read_pair_function
  cut-brackets = cut-either (begins_with S.Open) (the_symbol S.Open) (tests-symbol S.Open)
      (read_bracketed inner) read_pairs (record { at = λ room. refl }) (record { at = λ room. refl })
      cut-bracketed cut-pairs

  cut-squares : Cuts read_squares
  unfolding read_empty read_bracketed read_function read_pair_function
  cut-squares = cut-either (begins_with S.OpenSquare) (the_symbol S.OpenSquare) (tests-symbol S.OpenSquare)
      read_empty read_brackets (record { at = λ room. refl }) (record { at = λ room. refl })
      cut-empty cut-brackets

  cut-values : Cuts read_values
  unfolding read_value_name read_empty read_bracketed read_function read_pair_function
  cut-values = cut-either begins_with_name the_names tests-name read_value_name read_squares
      (record { at = λ room. refl }) (record { at = λ room. refl }) cut-value_name cut-squares

  cut-truths : Cuts read_truths
  unfolding read_truth read_value_name read_empty read_bracketed read_function read_pair_function
  cut-truths = cut-either (begins_with_one_of truth) (the_table truth) (tests-table truth)
      read_truth read_values (record { at = λ room. refl }) (record { at = λ room. refl })
      cut-truth cut-values

  cut-primary : Cuts (read_primary inner)
  unfolding read_primary read_number read_truth read_value_name read_empty read_bracketed read_function
      read_pair_function
  cut-primary = cut-either begins_with_number the_numbers tests-number read_number read_truths
      (record { at = λ room. refl }) (record { at = λ room. refl }) cut-number cut-truths

  cut-unary : Cuts (read_unary inner)
  unfolding read_unary
  cut-unary = cut-then (cut-many (begins_with S.Minus) (the_symbol S.Minus) (tests-symbol S.Minus)
      (read_mark S.Minus) (record { at = λ room. refl }) (ready-mark S.Minus)
      (cut-mark (as_symbol S.Minus))) (λ lines. cut-last (λ part. minus lines part) cut-primary)

  cut-product : Cuts (read_product inner)
  unfolding read_product
  cut-product = cut-chain multiplication (read_unary inner) cut-unary

  cut-sum : Cuts (read_sum inner)
  unfolding read_sum
  cut-sum = cut-chain addition (read_product inner) cut-product

  -- a comparison's second part
  abbrev read_compared : Reading Behind
  read_compared = read_behind comparison (read_sum inner)

  ready-compared : IsReady (begins_with_one_of comparison)
      (λ room words. read_as Some (read_compared room words))
  ready-compared = record {
    at = λ room word words is read. by_read room word words is
        (read_compared room (word ∷ words)) refl read;
  }
    where
      by_read : (room : ℕ) (word : Word) (words : List Word) →
          begins_with_one_of comparison (word ∷ words) ≡ true → (r : Read Behind) →
          read_compared room (word ∷ words) ≡ r → read_as Some r ≡ Refused Unexpected (word ∷ words) → ⊥
      by_read room word words is (Got value left rest) found read = absurd (cc)
      by_read room word words is (Refused TooDeep rest) found read = absurd (cc)
      by_read room word words is (Refused Unexpected rest) found read =
          let same : rest ≡ word ∷ words = cc in
          (ready-behind comparison (read_sum inner) cut-sum).at room word words is
          (found ∙ ap (λ ws. Refused Unexpected ws) same)

  none-compared : IsNoneAtEnd (λ room words. read_as Some (read_compared room words))
  unfolding read_behind
  none-compared = record { at = λ room. refl }

  cut-comparison : Cuts (read_comparison inner)
  unfolding read_comparison
  cut-comparison = cut-then cut-sum (λ left. cut-last (λ right. compared left right)
      (cut-perhaps (begins_with_one_of comparison) (the_table comparison) (tests-table comparison)
      (λ room words. read_as Some (read_compared room words)) None none-compared ready-compared
      (cut-last Some (cut-behind comparison (read_sum inner) cut-sum))))

  cut-negation : Cuts (read_negation inner)
  unfolding read_negation
  cut-negation = cut-then (cut-many (begins_with S.Not) (the_symbol S.Not) (tests-symbol S.Not)
      (read_mark S.Not) (record { at = λ room. refl }) (ready-mark S.Not)
      (cut-mark (as_symbol S.Not))) (λ lines. cut-last (λ part. negated lines part) cut-comparison)

  cut-conjunction : Cuts (read_conjunction inner)
  unfolding read_conjunction
  cut-conjunction = cut-chain conjunction (read_negation inner) cut-negation

  cut-disjunction : Cuts (read_disjunction inner)
  unfolding read_disjunction
  cut-disjunction = cut-chain disjunction (read_conjunction inner) cut-conjunction

cut-expression : (depth : ℕ) → Cuts (read_expression depth)
cut-expression zero = record { at = λ room words. tt }
cut-expression (suc depth) = record {
  at = λ room words. (cut-disjunction (read_expression depth) (cut-expression depth)).at room words;
}

-- whatever is read as a whole expression is read again of fewer words
pub cut-whole_expression : Cuts read_whole_expression
unfolding read_whole_expression
cut-whole_expression = cut-whole max_marks (read_expression most_brackets) (cut-expression most_brackets)
