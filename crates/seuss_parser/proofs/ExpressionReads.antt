-- Reading expressions tells of the expressions of the grammar.
use Rattle.std.proofs.Common.{◌≡◌, ℕ, zero, suc, ◌≤◌, ◌<◌, Bool, true, false, List, [], refl}
use Rattle.std.proofs.Common.{subst, Option, arith}
use Rattle.std.specs.Prelude.{is_some, not}
use Rattle.std.proofs.lemmas.List.Elements.{All-head}
use Rattle.seuss_parser.specs.Phrases.{Piece, AreKept, Phrase, Either, OneMark}
use Rattle.seuss_parser.specs.Readings.{Reading, either}
use Rattle.seuss_parser.specs.Words.{as_symbol, as_name, as_numeral, as_one_of}
use Rattle.seuss_parser.specs.Grammar.{IsMark, IsMarkOf, IsNumber, IsTruth}
use Rattle.seuss_parser.specs.Grammar.{IsValueName, IsEmpty, IsBehind, IsChain, IsBracketed, IsFunction}
use Rattle.seuss_parser.specs.Grammar.{IsPairFunction, IsPrimary, IsUnary, IsProduct, IsSum, IsComparison}
use Rattle.seuss_parser.specs.Grammar.{IsNegation, IsConjunction, IsDisjunction, IsExpression}
use Rattle.seuss_parser.specs.CommonReading.{read_mark, read_mark_of}
use Rattle.seuss_parser.specs.ExpressionReading.{read_number, read_truth, read_value_name, read_empty}
use Rattle.seuss_parser.specs.ExpressionReading.{read_behind}
use Rattle.seuss_parser.specs.ExpressionReading.{read_chain, read_bracketed, read_function}
use Rattle.seuss_parser.specs.ExpressionReading.{read_pair_function}
use Rattle.seuss_parser.specs.ExpressionReading.{read_primary, read_unary, read_product, read_sum}
use Rattle.seuss_parser.specs.ExpressionReading.{read_comparison}
use Rattle.seuss_parser.specs.ExpressionReading.{read_negation, read_conjunction, read_disjunction}
use Rattle.seuss_parser.specs.ExpressionReading.{read_expression}
use Rattle.seuss_parser.specs.Fronts.{begins_with, begins_with_one_of, begins_with_name, begins_with_number}
use Rattle.seuss_parser.specs.Trees.{disjunction, conjunction, comparison, addition, multiplication}
use Rattle.seuss_parser.specs.Trees.{function, pair_function, truth, expression, grouped, compared}
use Rattle.seuss_parser.specs.Trees.{negated, minus}
use Rattle.seuss_parser.specs.Trees.{bracketed}
use Rattle.seuss_parser.specs.declared.symbol.Symbol.{Symbol}
use Rattle.seuss_parser.specs.declared.symbol.Symbol.TheVariants as S
use Rattle.seuss_parser.specs.declared.word.Word.{Word}
use Rattle.seuss_program.specs.declared.tree.Name.{Name}
use Rattle.seuss_program.specs.declared.tree.Expr.{Expr}
use Rattle.seuss_program.specs.declared.tree.Node.TheVariants as N
use Rattle.seuss_program.specs.declared.tree.Op.{Op}
use Rattle.seuss_parser.proofs.Sets.{Sorts, Part, part-self, part-everything, everything, others}
use Rattle.seuss_parser.proofs.Sets.{the_symbol, the_names, the_numbers, joined, or_also}
use Rattle.seuss_parser.proofs.Tells.{Reads, Sample, Firsts}
use Rattle.seuss_parser.proofs.ThenReads.{sample-then}
use Rattle.seuss_parser.proofs.WordReads.{WordSample, reads-word, reads-mark}
use Rattle.seuss_parser.proofs.ChoiceReads.{reads-as, reads-then, reads-then_at, reads-either}
use Rattle.seuss_parser.proofs.ChoiceReads.{sample-either}
use Rattle.seuss_parser.proofs.RepeatReads.{reads-many, reads-optional, sample-many, sample-optional}
use Rattle.seuss_parser.proofs.FirstSets.{symbol-in, name-in, numeral-in, table-in, the_table, firsts-word}
use Rattle.seuss_parser.proofs.FirstSets.{firsts-mark, firsts-then, firsts-either, firsts-many_then}
use Rattle.seuss_parser.proofs.FirstSets.{leads-firsts, leads-only, leads-then, leads-many, leads-optional}
use Rattle.seuss_parser.proofs.WordTests.{tests-symbol, tests-table, tests-name, tests-number}
use Rattle.seuss_parser.proofs.CommonReads.{leads-anything, after, last, reads-symbol, firsts-symbol}
use Rattle.seuss_parser.proofs.CommonReads.{sample-only}
use Rattle.seuss_parser.proofs.Samples.{sample-name, sample-numeral, sample-truth, sample-OpenSquare}
use Rattle.seuss_parser.proofs.Samples.{sample-CloseSquare, sample-Open, sample-Close, sample-Comma}
use Rattle.seuss_parser.proofs.Samples.{sample-Minus}
use Rattle.seuss_parser.proofs.Samples.{sample-Not, sample-function, sample-pair_function}
use Rattle.seuss_parser.proofs.Samples.{sample-disjunction}
use Rattle.seuss_parser.proofs.Samples.{sample-conjunction, sample-comparison, sample-addition}
use Rattle.seuss_parser.proofs.Samples.{sample-multiplication}

-- what may follow the parts of an expression: no operator that would go on with them
abbrev pub may_follow : (Symbol → Bool) → Sorts
may_follow test = record { symbols = λ s. not (test s); names = true; numbers = true }

abbrev pub behind_product : Sorts
behind_product = may_follow (λ s. is_some (multiplication s))

abbrev pub behind_sum : Sorts
behind_sum = may_follow (λ s. or_also (is_some (addition s)) (is_some (multiplication s)))

abbrev pub behind_comparison : Sorts
behind_comparison = may_follow (λ s. or_also (is_some (comparison s))
    (or_also (is_some (addition s)) (is_some (multiplication s))))

abbrev pub behind_conjunction : Sorts
behind_conjunction = may_follow (λ s. or_also (is_some (conjunction s)) (or_also (is_some (comparison s))
    (or_also (is_some (addition s)) (is_some (multiplication s)))))

abbrev pub operator : Symbol → Bool
operator s = or_also (is_some (disjunction s)) (or_also (is_some (conjunction s))
    (or_also (is_some (comparison s)) (or_also (is_some (addition s)) (is_some (multiplication s)))))

abbrev pub behind_expression : Sorts
behind_expression = may_follow operator

-- the words that expressions begin with
abbrev pub pairs_first : Sorts
pairs_first = joined (the_table function) (the_table pair_function)

abbrev pub brackets_first : Sorts
brackets_first = joined (the_symbol S.Open) pairs_first

abbrev pub squares_first : Sorts
squares_first = joined (the_symbol S.OpenSquare) brackets_first

abbrev pub values_first : Sorts
values_first = joined the_names squares_first

abbrev pub truths_first : Sorts
truths_first = joined (the_table truth) values_first

abbrev pub primary_first : Sorts
primary_first = joined the_numbers truths_first

abbrev pub unary_first : Sorts
unary_first = joined (the_symbol S.Minus) primary_first

abbrev pub expression_first : Sorts
expression_first = joined (the_symbol S.Not) unary_first

pub reads-mark_of : {A : Type 0} (table : Symbol → Option A) (depth : ℕ) → WordSample (as_one_of table) →
    Reads (IsMarkOf table) (IsMarkOf table) (read_mark_of table) depth everything
reads-mark_of table depth sample = reads-mark (as_one_of table) sample depth

-- a mark that is within the limit takes room
pub mark-falls : {A : Type 0} (reads : Word → Option A) (inner : ℕ) (value : A) (room : ℕ) (ps : List Piece)
    (left : ℕ) → OneMark reads value room ps left → AreKept ps → left ≤ room → room < suc inner →
    left < inner
mark-falls reads inner value zero ps left mark kept low fits =
    let is : true ≡ false = All-head (λ (p : Piece). p.passes ≡ false) _ []
    (subst AreKept mark.spelled kept) in
    absurd (cc)
mark-falls reads inner value (suc room) ps left mark kept low fits =
    let falls : left ≡ room = mark.room_falls in
    omega arith

reads-number : (depth : ℕ) → Reads IsNumber IsNumber read_number depth everything
unfolding IsNumber read_number
reads-number depth = last (λ number. expression number.line (N.Int number.value))
    (reads-word as_numeral sample-numeral depth false)

firsts-number : Firsts IsNumber the_numbers
unfolding IsNumber
firsts-number = firsts-then (firsts-word numeral-in false)

reads-truth : (depth : ℕ) → Reads IsTruth IsTruth read_truth depth everything
unfolding IsTruth read_truth
reads-truth depth = last (λ word. expression word.line (N.Bool word.is))
    (reads-word (as_one_of truth) sample-truth depth false)

firsts-truth : Firsts IsTruth (the_table truth)
unfolding IsTruth
firsts-truth = firsts-then (firsts-word (table-in truth) false)

reads-value_name : (depth : ℕ) → Reads IsValueName IsValueName read_value_name depth everything
unfolding IsValueName read_value_name
reads-value_name depth = last (λ name. expression name.line (N.Name name))
    (reads-word as_name sample-name depth false)

firsts-value_name : Firsts IsValueName the_names
unfolding IsValueName
firsts-value_name = firsts-then (firsts-word name-in false)

reads-empty : (depth : ℕ) → Reads IsEmpty IsEmpty read_empty depth everything
unfolding IsEmpty read_empty
reads-empty depth = after (reads-mark (as_symbol S.OpenSquare) sample-OpenSquare depth)
    (λ line. last (λ close. expression line N.Empty) (reads-symbol S.CloseSquare depth sample-CloseSquare))

firsts-empty : Firsts IsEmpty (the_symbol S.OpenSquare)
unfolding IsEmpty
firsts-empty = firsts-then (firsts-mark (symbol-in S.OpenSquare))

-- chains, by their parts
module _ (ops : Symbol → Option Op) (sample : WordSample (as_one_of ops)) where
  firsts-behind : (R : Phrase (Expr Name)) → Firsts (IsBehind ops R) (the_table ops)
  unfolding IsBehind
  firsts-behind R = firsts-then (firsts-mark (table-in ops))

  pub firsts-chain : {R : Phrase (Expr Name)} {first : Sorts} → Firsts R first → Firsts (IsChain ops R) first
  unfolding IsChain
  firsts-chain firsts = firsts-then firsts

  pub sample-chain : {R : Phrase (Expr Name)} → Sample R → Sample (IsChain ops R)
  unfolding IsChain
  sample-chain item = sample-then item (λ x. sample-then sample-many (λ xs. sample-only (grouped x xs)))

  module _ (P Q : Phrase (Expr Name)) (one : Reading (Expr Name)) (depth : ℕ) (may behind : Sorts)
      (item : Reads P Q one depth may) where
    pub reads-behind : Reads (IsBehind ops P) (IsBehind ops Q) (read_behind ops one) depth may
    unfolding IsBehind read_behind
    reads-behind = after (reads-mark_of ops depth sample)
        (λ op. last (λ part. record { op = op.is; part = part }) item)

    pub reads-chain : Part (the_table ops) may → Part behind may → Part behind (others (the_table ops)) →
        Reads (IsChain ops P) (IsChain ops Q) (read_chain ops one) depth behind
    unfolding IsChain read_chain
    reads-chain operators part fails = reads-then item (λ x. last (λ xs. grouped x xs)
        (reads-many (IsBehind ops P) (IsBehind ops Q) (read_behind ops one) (begins_with_one_of ops) depth
        may
        behind (the_table ops) (the_table ops) (tests-table ops) reads-behind (firsts-behind P)
        (firsts-behind Q)
        (part-self (the_table ops)) fails part operators))
        (λ x. leads-then (leads-many (firsts-behind Q) operators part) (λ xs. leads-only (part-self behind)))

-- the words that expressions begin with, whatever stands in brackets
module _ (R : Phrase (Expr Name)) where
  firsts-bracketed : Firsts (IsBracketed R) (the_symbol S.Open)
  unfolding IsBracketed
  firsts-bracketed = firsts-then (firsts-mark (symbol-in S.Open))

  firsts-function : Firsts (IsFunction R) (the_table function)
  unfolding IsFunction
  firsts-function = firsts-then (firsts-mark (table-in function))

  firsts-pair_function : Firsts (IsPairFunction R) (the_table pair_function)
  unfolding IsPairFunction
  firsts-pair_function = firsts-then (firsts-mark (table-in pair_function))

  abbrev Pairs : Phrase (Expr Name)
  Pairs = Either (IsFunction R) (IsPairFunction R)

  abbrev Brackets : Phrase (Expr Name)
  Brackets = Either (IsBracketed R) Pairs

  abbrev Squares : Phrase (Expr Name)
  Squares = Either IsEmpty Brackets

  abbrev Values : Phrase (Expr Name)
  Values = Either IsValueName Squares

  abbrev Truths : Phrase (Expr Name)
  Truths = Either IsTruth Values

  firsts-pairs : Firsts Pairs pairs_first
  firsts-pairs = firsts-either firsts-function firsts-pair_function

  firsts-brackets : Firsts Brackets brackets_first
  firsts-brackets = firsts-either firsts-bracketed firsts-pairs

  firsts-squares : Firsts Squares squares_first
  firsts-squares = firsts-either firsts-empty firsts-brackets

  firsts-values : Firsts Values values_first
  firsts-values = firsts-either firsts-value_name firsts-squares

  firsts-truths : Firsts Truths truths_first
  firsts-truths = firsts-either firsts-truth firsts-values

  firsts-primary : Firsts (IsPrimary R) primary_first
  unfolding IsPrimary
  firsts-primary = firsts-either firsts-number firsts-truths

  firsts-unary : Firsts (IsUnary R) unary_first
  unfolding IsUnary
  firsts-unary = firsts-many_then (firsts-mark (symbol-in S.Minus)) (λ lines. firsts-then firsts-primary)

  firsts-product : Firsts (IsProduct R) unary_first
  unfolding IsProduct
  firsts-product = firsts-chain multiplication sample-multiplication firsts-unary

  firsts-sum : Firsts (IsSum R) unary_first
  unfolding IsSum
  firsts-sum = firsts-chain addition sample-addition firsts-product

  firsts-comparison : Firsts (IsComparison R) unary_first
  unfolding IsComparison
  firsts-comparison = firsts-then firsts-sum

  firsts-negation : Firsts (IsNegation R) expression_first
  unfolding IsNegation
  firsts-negation = firsts-many_then (firsts-mark (symbol-in S.Not)) (λ lines. firsts-then firsts-comparison)

  firsts-conjunction : Firsts (IsConjunction R) expression_first
  unfolding IsConjunction
  firsts-conjunction = firsts-chain conjunction sample-conjunction firsts-negation

  pub firsts-disjunction : Firsts (IsDisjunction R) expression_first
  unfolding IsDisjunction
  firsts-disjunction = firsts-chain disjunction sample-disjunction firsts-conjunction

  -- a number is an expression
  pub sample-disjunction_of : Sample (IsDisjunction R)
  unfolding IsDisjunction IsConjunction IsNegation IsComparison IsSum IsProduct IsUnary IsPrimary
  sample-disjunction_of =
      sample-chain disjunction sample-disjunction (sample-chain conjunction sample-conjunction
      (sample-then sample-many (λ nots. sample-then
      (sample-then (sample-chain addition sample-addition (sample-chain multiplication sample-multiplication
      (sample-then sample-many (λ lines. sample-then (sample-either (reads-number 0).sample)
      (λ part. sample-only (minus lines part))))))
      (λ left. sample-then sample-optional (λ right. sample-only (compared left right))))
      (λ part. sample-only (negated nots part)))))

module _ (P Q : Phrase (Expr Name)) (one : Reading (Expr Name)) (depth : ℕ)
    (inner : Reads P Q one depth behind_expression) where
  reads-bracketed : Reads (IsBracketed P) (IsBracketed Q) (read_bracketed one) (suc depth) everything
  unfolding IsBracketed read_bracketed
  reads-bracketed = reads-then_at (reads-mark (as_symbol S.Open) sample-Open (suc depth))
      (λ line. reads-then inner
      (λ part. last (λ close. bracketed line part) (reads-symbol S.Close depth sample-Close))
      (λ part. leads-firsts everything (firsts-then (firsts-symbol S.Close)) (record { shown = refl })))
      (λ line. leads-anything) (mark-falls (as_symbol S.Open) depth)

  reads-function : Reads (IsFunction P) (IsFunction Q) (read_function one) (suc depth) everything
  unfolding IsFunction read_function
  reads-function = after (reads-mark_of function (suc depth) sample-function) (λ word.
      reads-then_at (reads-mark (as_symbol S.Open) sample-Open (suc depth))
      (λ line. reads-then inner
      (λ part. last (λ close. expression word.line (N.One word.is part))
      (reads-symbol S.Close depth sample-Close))
      (λ part. leads-firsts everything (firsts-then (firsts-symbol S.Close)) (record { shown = refl })))
      (λ line. leads-anything) (mark-falls (as_symbol S.Open) depth))

  reads-pair_function : Reads (IsPairFunction P) (IsPairFunction Q) (read_pair_function one) (suc depth)
      everything
  unfolding IsPairFunction read_pair_function
  reads-pair_function = after (reads-mark_of pair_function (suc depth) sample-pair_function) (λ word.
      reads-then_at (reads-mark (as_symbol S.Open) sample-Open (suc depth))
      (λ line. reads-then inner
      (λ left. after (reads-symbol S.Comma depth sample-Comma) (λ comma. reads-then inner
      (λ right. last (λ close. expression word.line (N.Two word.is left right))
      (reads-symbol S.Close depth sample-Close))
      (λ right. leads-firsts everything (firsts-then (firsts-symbol S.Close)) (record { shown = refl }))))
      (λ left. leads-firsts everything (firsts-then (firsts-symbol S.Comma)) (record { shown = refl })))
      (λ line. leads-anything) (mark-falls (as_symbol S.Open) depth))

  reads-pairs : Reads (Pairs P) (Pairs Q)
      (either (begins_with_one_of function) (read_function one) (read_pair_function one)) (suc depth)
      everything
  reads-pairs = reads-either (begins_with_one_of function) (the_table function) (tests-table function)
      (IsFunction P) (IsFunction Q) (IsPairFunction P) (IsPairFunction Q) (read_function one)
      (read_pair_function one) (suc depth) everything everything everything (the_table function)
      (the_table pair_function) reads-function reads-pair_function (firsts-function Q)
      (leads-firsts everything (firsts-pair_function Q) (part-self (the_table pair_function)))
      (part-self everything) (part-self everything) (part-self (the_table function))
      (record { shown = refl })

  abbrev read_pairs : Reading (Expr Name)
  read_pairs = either (begins_with_one_of function) (read_function one) (read_pair_function one)

  abbrev read_brackets : Reading (Expr Name)
  read_brackets = either (begins_with S.Open) (read_bracketed one) read_pairs

  abbrev read_squares : Reading (Expr Name)
  read_squares = either (begins_with S.OpenSquare) read_empty read_brackets

  abbrev read_values : Reading (Expr Name)
  read_values = either begins_with_name read_value_name read_squares

  abbrev read_truths : Reading (Expr Name)
  read_truths = either (begins_with_one_of truth) read_truth read_values

  reads-brackets : Reads (Brackets P) (Brackets Q) read_brackets (suc depth) everything
  reads-brackets = reads-either (begins_with S.Open) (the_symbol S.Open) (tests-symbol S.Open)
      (IsBracketed P) (IsBracketed Q) (Pairs P) (Pairs Q) (read_bracketed one) read_pairs (suc depth)
      everything everything everything (the_symbol S.Open) pairs_first reads-bracketed reads-pairs
      (firsts-bracketed Q) (leads-firsts everything (firsts-pairs Q) (part-self pairs_first))
      (part-self everything) (part-self everything) (part-self (the_symbol S.Open)) (record { shown = refl })

  reads-squares : Reads (Squares P) (Squares Q) read_squares (suc depth) everything
  reads-squares = reads-either (begins_with S.OpenSquare) (the_symbol S.OpenSquare)
      (tests-symbol S.OpenSquare)
      IsEmpty IsEmpty (Brackets P) (Brackets Q) read_empty read_brackets (suc depth)
      everything everything everything (the_symbol S.OpenSquare) brackets_first (reads-empty (suc depth))
      reads-brackets firsts-empty (leads-firsts everything (firsts-brackets Q) (part-self brackets_first))
      (part-self everything) (part-self everything) (part-self (the_symbol S.OpenSquare))
      (record { shown = refl })

  reads-values : Reads (Values P) (Values Q) read_values (suc depth) everything
  reads-values = reads-either begins_with_name the_names tests-name
      IsValueName IsValueName (Squares P) (Squares Q) read_value_name read_squares (suc depth)
      everything everything everything the_names squares_first (reads-value_name (suc depth))
      reads-squares firsts-value_name (leads-firsts everything (firsts-squares Q) (part-self squares_first))
      (part-self everything) (part-self everything) (part-self the_names) (record { shown = refl })

  reads-truths : Reads (Truths P) (Truths Q) read_truths (suc depth) everything
  reads-truths = reads-either (begins_with_one_of truth) (the_table truth) (tests-table truth)
      IsTruth IsTruth (Values P) (Values Q) read_truth read_values (suc depth)
      everything everything everything (the_table truth) values_first (reads-truth (suc depth))
      reads-values firsts-truth (leads-firsts everything (firsts-values Q) (part-self values_first))
      (part-self everything) (part-self everything) (part-self (the_table truth)) (record { shown = refl })

  reads-primary : Reads (IsPrimary P) (IsPrimary Q) (read_primary one) (suc depth) everything
  unfolding IsPrimary read_primary
  reads-primary = reads-either begins_with_number the_numbers tests-number
      IsNumber IsNumber (Truths P) (Truths Q) read_number read_truths (suc depth)
      everything everything everything the_numbers truths_first (reads-number (suc depth))
      reads-truths firsts-number (leads-firsts everything (firsts-truths Q) (part-self truths_first))
      (part-self everything) (part-self everything) (part-self the_numbers) (record { shown = refl })

  reads-unary : Reads (IsUnary P) (IsUnary Q) (read_unary one) (suc depth) everything
  unfolding IsUnary read_unary
  reads-unary = reads-then (reads-many (IsMark S.Minus) (IsMark S.Minus) (read_mark S.Minus)
      (begins_with S.Minus) (suc depth) everything primary_first (the_symbol S.Minus) (the_symbol S.Minus)
      (tests-symbol S.Minus) (reads-mark (as_symbol S.Minus) sample-Minus (suc depth))
      (firsts-mark (symbol-in S.Minus)) (firsts-mark (symbol-in S.Minus)) (part-self (the_symbol S.Minus))
      (record { shown = refl }) (part-everything primary_first) (part-everything (the_symbol S.Minus)))
      (λ lines. last (λ part. minus lines part) reads-primary)
      (λ lines. leads-firsts everything (firsts-then (firsts-primary Q)) (part-self primary_first))

  reads-product : Reads (IsProduct P) (IsProduct Q) (read_product one) (suc depth) behind_product
  unfolding IsProduct read_product
  reads-product = reads-chain multiplication sample-multiplication (IsUnary P) (IsUnary Q) (read_unary one)
      (suc depth) everything behind_product reads-unary (part-everything (the_table multiplication))
      (part-everything behind_product) (record { shown = refl })

  reads-sum : Reads (IsSum P) (IsSum Q) (read_sum one) (suc depth) behind_sum
  unfolding IsSum read_sum
  reads-sum = reads-chain addition sample-addition (IsProduct P) (IsProduct Q) (read_product one)
      (suc depth) behind_product behind_sum reads-product (record { shown = refl }) (record { shown = refl })
      (record { shown = refl })

  reads-comparison : Reads (IsComparison P) (IsComparison Q) (read_comparison one) (suc depth)
      behind_comparison
  unfolding IsComparison read_comparison
  reads-comparison = reads-then reads-sum (λ left. last (λ right. compared left right)
      (reads-optional (IsBehind comparison (IsSum P)) (IsBehind comparison (IsSum Q))
      (read_behind comparison (read_sum one)) (begins_with_one_of comparison) (suc depth) behind_sum
      behind_comparison (the_table comparison) (the_table comparison) (tests-table comparison)
      (reads-behind comparison sample-comparison (IsSum P) (IsSum Q) (read_sum one) (suc depth) behind_sum
      behind_comparison reads-sum) (firsts-behind comparison sample-comparison (IsSum Q))
      (part-self (the_table comparison)) (record { shown = refl }) (record { shown = refl })))
      (λ left. leads-then (leads-optional (firsts-behind comparison sample-comparison (IsSum Q))
      (record { shown = refl }) (record { shown = refl }))
      (λ right. leads-only (part-self behind_comparison)))

  reads-negation : Reads (IsNegation P) (IsNegation Q) (read_negation one) (suc depth) behind_comparison
  unfolding IsNegation read_negation
  reads-negation = reads-then (reads-many (IsMark S.Not) (IsMark S.Not) (read_mark S.Not)
      (begins_with S.Not) (suc depth) everything unary_first (the_symbol S.Not) (the_symbol S.Not)
      (tests-symbol S.Not) (reads-mark (as_symbol S.Not) sample-Not (suc depth))
      (firsts-mark (symbol-in S.Not)) (firsts-mark (symbol-in S.Not)) (part-self (the_symbol S.Not))
      (record { shown = refl }) (part-everything unary_first) (part-everything (the_symbol S.Not)))
      (λ lines. last (λ part. negated lines part) reads-comparison)
      (λ lines. leads-firsts behind_comparison (firsts-then (firsts-comparison Q)) (part-self unary_first))

  reads-conjunction : Reads (IsConjunction P) (IsConjunction Q) (read_conjunction one) (suc depth)
      behind_conjunction
  unfolding IsConjunction read_conjunction
  reads-conjunction = reads-chain conjunction sample-conjunction (IsNegation P) (IsNegation Q)
      (read_negation one)
      (suc depth) behind_comparison behind_conjunction reads-negation (record { shown = refl })
      (record { shown = refl }) (record { shown = refl })

  pub reads-disjunction : Reads (IsDisjunction P) (IsDisjunction Q) (read_disjunction one) (suc depth)
      behind_expression
  unfolding IsDisjunction read_disjunction
  reads-disjunction = reads-chain disjunction sample-disjunction (IsConjunction P) (IsConjunction Q)
      (read_conjunction one) (suc depth) behind_conjunction behind_expression reads-conjunction
      (record { shown = refl }) (record { shown = refl }) (record { shown = refl })

-- Reading to a depth tells of expressions one bracket deeper, and of those of any depth.
pub reads-expression : (depth any : ℕ) →
    Reads (IsExpression (suc depth)) (IsExpression any) (read_expression depth) depth behind_expression
reads-expression zero any = record {
  sample = sample-disjunction_of (IsExpression 0);
  tells = λ room words fits. absurd (omega arith);
}
reads-expression (suc depth) zero = reads-as (λ value room ps left phrase. phrase)
    (λ value room ps left phrase. absurd phrase) (part-self behind_expression)
    (reads-disjunction (IsExpression (suc depth)) (IsExpression 0) (read_expression depth) depth
    (reads-expression depth 0))
reads-expression (suc depth) (suc any) = reads-disjunction (IsExpression (suc depth)) (IsExpression any)
    (read_expression depth) depth (reads-expression depth any)
