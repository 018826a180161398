-- Words made into phrases of lists.
use Rattle.std.proofs.Common.{◌≡◌, ℕ, suc, ◌+◌, ◌≤◌, List, [], ◌∷◌, ◌++◌, map, Option, Some, None, ap, sym}
use Rattle.std.proofs.Common.{refl, ◌∙◌, arith, append-nil}
use Rattle.std.specs.List.{AllByRecursion, flat_map}
use Rattle.seuss_parser.specs.Trees.{listed}
use Rattle.seuss_parser.specs.Words.{as_symbol}
use Rattle.seuss_parser.specs.Phrases.{Phrase, Many, Optional, Only, ◌>>=◌, ◌>>◌}
use Rattle.seuss_parser.specs.Grammar.{IsSymbol, IsNext, IsSeparated, IsPerhapsSeparated, IsGroup}
use Rattle.seuss_parser.specs.Grammar.{IsPerhapsGroup, IsArguments, IsExpression, IsWholeExpression}
use Rattle.seuss_parser.specs.Grammar.{max_marks}
use Rattle.seuss_parser.specs.declared.word.Sort.TheVariants.{Fixed}
use Rattle.seuss_parser.specs.declared.symbol.Symbol.TheVariants as S
use Rattle.seuss_program.specs.declared.tree.Name.{Name}
use Rattle.seuss_program.specs.declared.tree.Expr.{Expr}
use Rattle.seuss_print.specs.Lines as F
use Rattle.seuss_print.specs.Items.{Item, tokens_in, bracketed, separated, behind_comma, perhaps_bracketed}
use Rattle.seuss_print.specs.Expressions.{expression}
use Rattle.seuss_print.specs.Printable.{HasFewMarks, marks_in}
use Rattle.seuss_print.proofs.Costs.{tokens-append, bracketed-tokens}
use Rattle.seuss_print.proofs.Makes.{Makes, makes-as, makes-then, word-makes, makes-only, makes-none}
use Rattle.seuss_print.proofs.Makes.{makes-some, makes-row, makes-whole, kept_option}
use Rattle.seuss_print.proofs.WordSorts.{none-some, some-same}
use Rattle.seuss_print.proofs.MadeExpressions.{nothing, reads-symbol, expression-placed, expression-whole}

pub tokens-flat : {A : Type 0} (print : A → List Item) (as_ : List A) →
    flat_map (λ a. tokens_in (print a)) as_ ≡ tokens_in (flat_map print as_)
tokens-flat print [] = refl
tokens-flat print (a ∷ as_) = ap (λ sorts. tokens_in (print a) ++ sorts) (tokens-flat print as_)
    ∙ sym (tokens-append (print a) (flat_map print as_))

-- the words of a printed value are a phrase of it, and take no room
abbrev pub Spelled : {A C : Type 0} → Phrase A → (A → C) → (A → List Item) → A → Type 0
Spelled P keep print a = Makes P keep a (tokens_in (print a)) 0

abbrev pub kept_list : {A C : Type 0} → (A → C) → List A → List C
kept_list keep as_ = map keep as_

-- how deep brackets stand in an expression, and in several
abbrev pub depth_of : Expr Name → ℕ
depth_of e = suc (expression-placed e).enough

abbrev pub depth_of_all : List (Expr Name) → ℕ
depth_of_all [] = 0
depth_of_all (e ∷ es) = depth_of e + depth_of_all es

pub whole-expression : (e : Expr Name) (brackets : ℕ) → depth_of e ≤ brackets → HasFewMarks e →
    Spelled (IsWholeExpression brackets) F.expression expression e
unfolding IsWholeExpression
whole-expression e brackets h few =
    makes-whole (IsExpression brackets) F.expression max_marks e (tokens_in (expression e))
    (marks_in (expression e)) few (expression-whole e brackets h)

pub whole-expressions : (es : List (Expr Name)) (brackets : ℕ) → depth_of_all es ≤ brackets →
    AllByRecursion HasFewMarks es →
    AllByRecursion (λ e. Spelled (IsWholeExpression brackets) F.expression expression e) es
whole-expressions [] brackets h few = tt
whole-expressions (e ∷ es) brackets h few = (
  whole-expression e brackets (omega (arith, h)) few.0,
  whole-expressions es brackets (omega (arith, h))
      few.1,
)

-- what is kept of a list that may be left out
pub listed-some : {A C : Type 0} (keep : List A → List C) (o : Option (List A)) (as_ : List A) →
    kept_option keep o ≡ Some (keep as_) → keep (listed o) ≡ keep as_
listed-some keep None as_ h = absurd (none-some _ h)
listed-some keep (Some bs) as_ h = some-same _ _ h

pub listed-none : {A C : Type 0} (keep : List A → List C) (o : Option (List A)) →
    kept_option keep o ≡ None → keep (listed o) ≡ keep []
listed-none keep None h = refl
listed-none keep (Some bs) h = absurd (none-some _ (sym h))

-- a list that may be left out, behind which comes nothing
module _ {A C : Type 0} (P : Phrase (List A)) (keep : List A → List C) (print : List A → List Item) where
  pub listed-made : (as_ : List A) → Spelled P keep print as_ →
      Makes (Optional P >>= (λ (o : Option (List A)). Only (listed o))) keep as_ (tokens_in (print as_)) 0
  listed-made as_ x = makes-as _ keep as_ (tokens_in (print as_) ++ []) (tokens_in (print as_)) (0 + 0) 0
      (append-nil (tokens_in (print as_))) (omega arith)
      (makes-then (Optional P) _ (kept_option keep) keep (Some as_) as_ (tokens_in (print as_)) [] 0 0
      (makes-some P keep as_ (tokens_in (print as_)) 0 x) (λ o is.
      makes-only (listed o) as_ keep (listed-some keep o as_ is)))

  pub unlisted-made : Makes (Optional P >>= (λ (o : Option (List A)). Only (listed o))) keep [] [] 0
  unlisted-made = makes-as _ keep [] ([] ++ []) [] (0 + 0) 0 refl (omega arith)
      (makes-then (Optional P) _ (kept_option keep) keep None [] [] [] 0 0 (makes-none P keep) (λ o is.
      makes-only (listed o) [] keep (listed-none keep o is)))

module _ {A C : Type 0} (P : Phrase A) (keep : A → C) (print : A → List Item) where
  abbrev Each : List A → Type 0
  Each as_ = AllByRecursion (Spelled P keep print) as_

  pub made-row : (as_ : List A) → Each as_ → Spelled (Many P) (kept_list keep)
      (λ (as_ : List A). flat_map print as_) as_
  made-row as_ all = makes-as (Many P) (kept_list keep) as_ _ _ 0 0 (tokens-flat print as_) refl
      (makes-row P keep (λ a. tokens_in (print a)) as_ all)

  made-next : (a : A) → Spelled P keep print a → Spelled (IsNext P) keep (behind_comma print) a
  unfolding IsNext
  made-next a x = word-makes (as_symbol S.Comma) nothing 0 (Fixed S.Comma) (reads-symbol S.Comma) _ keep a
      (tokens_in (print a)) 0 (λ line same. x)

  made-nexts : (as_ : List A) → Each as_ → AllByRecursion (Spelled (IsNext P) keep (behind_comma print)) as_
  made-nexts [] all = tt
  made-nexts (a ∷ as_) all = (made-next a all.0, made-nexts as_ all.1)

  nexts-row : (as_ : List A) → Each as_ → Spelled (Many (IsNext P)) (kept_list keep)
      (λ (as_ : List A). flat_map (behind_comma print) as_) as_
  nexts-row as_ all = makes-as (Many (IsNext P)) (kept_list keep) as_ _ _ 0 0
      (tokens-flat (behind_comma print) as_) refl
      (makes-row (IsNext P) keep (λ a. tokens_in (behind_comma print a)) as_ (made-nexts as_ all))

  pub made-separated : (a : A) (others : List A) → Each (a ∷ others) →
      Spelled (IsSeparated P) (kept_list keep) (separated print) (a ∷ others)
  unfolding IsSeparated
  made-separated a others all =
      makes-as _ (kept_list keep) (a ∷ others)
      (tokens_in (print a) ++ tokens_in (flat_map (behind_comma print) others)) _ (0 + 0) 0
      (sym (tokens-append (print a) (flat_map (behind_comma print) others))) (omega arith)
      (makes-then P _ keep (kept_list keep) a (a ∷ others) (tokens_in (print a))
      (tokens_in (flat_map (behind_comma print) others)) 0 0 all.0 (λ x same.
      makes-as _ (kept_list keep) (a ∷ others) (tokens_in (flat_map (behind_comma print) others) ++ []) _
      (0 + 0) 0 (append-nil _) (omega arith)
      (makes-then (Many (IsNext P)) _ (kept_list keep) (kept_list keep) others (a ∷ others)
      (tokens_in (flat_map (behind_comma print) others)) [] 0 0 (nexts-row others all.1) (λ xs is.
      makes-only _ _ (kept_list keep) (ap (λ c. c ∷ map keep xs) same ∙ ap (λ cs. keep a ∷ cs) is)))))

  pub made-perhaps-separated : (as_ : List A) → Each as_ →
      Spelled (IsPerhapsSeparated P) (kept_list keep) (separated print) as_
  unfolding IsPerhapsSeparated
  made-perhaps-separated [] all = unlisted-made (IsSeparated P) (kept_list keep) (separated print)
  made-perhaps-separated (a ∷ others) all = listed-made (IsSeparated P) (kept_list keep) (separated print)
      (a ∷ others) (made-separated a others all)

  abbrev pub in_brackets : List A → List Item
  in_brackets as_ = bracketed (separated print as_)

  made-arguments-of : (Q : Phrase (List A)) (as_ : List A) →
      Spelled Q (kept_list keep) (separated print) as_ →
      Makes (IsSymbol S.Open >> (Q >>= (λ (items : List A). IsSymbol S.Close >> Only items)))
      (kept_list keep) as_ (tokens_in (in_brackets as_)) 0
  made-arguments-of Q as_ x =
      makes-as _ (kept_list keep) as_
      (Fixed S.Open ∷ (tokens_in (separated print as_) ++ Fixed S.Close ∷ [])) _ (0 + 0) 0
      (sym (bracketed-tokens (separated print as_))) (omega arith)
      (word-makes (as_symbol S.Open) nothing 0 (Fixed S.Open) (reads-symbol S.Open) _ (kept_list keep) as_ _
      (0 + 0) (λ l was.
      makes-then Q _ (kept_list keep) (kept_list keep) as_ as_ (tokens_in (separated print as_))
      (Fixed S.Close ∷ []) 0 0 x (λ xs is.
      word-makes (as_symbol S.Close) nothing 0 (Fixed S.Close) (reads-symbol S.Close) _ (kept_list keep) as_
      [] 0 (λ k were.
      makes-only xs as_ (kept_list keep) is))))

  pub made-arguments : (as_ : List A) → Each as_ → Spelled (IsArguments P) (kept_list keep) in_brackets as_
  unfolding IsArguments
  made-arguments as_ all = made-arguments-of (IsPerhapsSeparated P) as_ (made-perhaps-separated as_ all)

  made-group : (a : A) (others : List A) → Each (a ∷ others) →
      Spelled (IsGroup P) (kept_list keep) in_brackets (a ∷ others)
  unfolding IsGroup
  made-group a others all = made-arguments-of (IsSeparated P) (a ∷ others) (made-separated a others all)

  pub made-perhaps-group : (as_ : List A) → Each as_ →
      Spelled (IsPerhapsGroup P) (kept_list keep) (perhaps_bracketed print) as_
  unfolding IsPerhapsGroup
  made-perhaps-group [] all = unlisted-made (IsGroup P) (kept_list keep) in_brackets
  made-perhaps-group (a ∷ others) all = listed-made (IsGroup P) (kept_list keep) in_brackets (a ∷ others)
      (made-group a others all)
