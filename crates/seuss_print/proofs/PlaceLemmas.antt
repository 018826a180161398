-- An expression stands in parentheses exactly where its words without them are something else, or nothing.
use Rattle.std.proofs.Common.{◌≡◌, ℕ, zero, suc, ◌+◌, ◌≤◌, Bool, true, false, nat_lt, if◌then◌else◌, List}
use Rattle.std.proofs.Common.{[], ◌∷◌, length, All, ap, subst, sym, refl, ◌∙◌, arith, length-append}
use Rattle.std.specs.List.{AllByRecursion}
use Rattle.std.proofs.lemmas.List.Elements.{recursion_from_All, All-from_recursion}
use Rattle.seuss_parser.specs.Phrases.{Piece, words_in}
use Rattle.seuss_parser.specs.Grammar.{IsExpression}
use Rattle.seuss_parser.specs.declared.word.Word.{Word}
use Rattle.seuss_parser.specs.declared.word.Sort.{Sort}
use Rattle.seuss_parser.specs.declared.word.Sort.TheVariants.{Fixed}
use Rattle.seuss_parser.specs.declared.symbol.Symbol.TheVariants as S
use Rattle.seuss_program.specs.declared.tree.Name.{Name}
use Rattle.seuss_program.specs.declared.tree.Expr.{Expr}
use Rattle.seuss_print.specs.Places.{IsOfLevel, StandsAt}
use Rattle.seuss_print.specs.Items.{Item, bracketed, tokens_in}
use Rattle.seuss_print.specs.Expressions.{Printed, printed, at_level, expression}
use Rattle.seuss_print.specs.Printable.{IsWithinLimit, marks_in}
use Rattle.seuss_print.proofs.Costs.{bracketed-tokens}
use Rattle.seuss_print.proofs.Gives.{Gives, AreFine}
use Rattle.seuss_print.proofs.Makes.{sorts_of, PassesNone}
use Rattle.seuss_print.proofs.MadeExpressions.{expression-placed}
use Rattle.seuss_print.proofs.ParsedExpressions.{Fits, gives-primary, gives-unary, gives-product, gives-sum}
use Rattle.seuss_print.proofs.ParsedExpressions.{gives-comparison, gives-negation, gives-conjunction}
use Rattle.seuss_print.proofs.ParsedExpressions.{gives-disjunction, gives-expression}
use Rattle.seuss_print.proofs.Unlined.{same-printed}

gives-level : (b p room : ℕ) → p ≤ 7 → Gives (IsOfLevel (IsExpression b) p) room (Fits p room)
gives-level b zero room h = gives-disjunction (IsExpression b) (gives-expression b) room
gives-level b (suc zero) room h = gives-conjunction (IsExpression b) (gives-expression b) room
gives-level b (suc (suc zero)) room h = gives-negation (IsExpression b) (gives-expression b) room
gives-level b (suc (suc (suc zero))) room h = gives-comparison (IsExpression b) (gives-expression b) room
gives-level b (suc (suc (suc (suc zero)))) room h = gives-sum (IsExpression b) (gives-expression b) room
gives-level b (suc (suc (suc (suc (suc zero))))) room h =
    gives-product (IsExpression b) (gives-expression b) room
gives-level b (suc (suc (suc (suc (suc (suc zero)))))) room h =
    gives-unary (IsExpression b) (gives-expression b) room
gives-level b (suc (suc (suc (suc (suc (suc (suc zero))))))) room h =
    gives-primary (IsExpression b) (gives-expression b) room
gives-level b (suc (suc (suc (suc (suc (suc (suc (suc n)))))))) room h = absurd (omega (arith, h))

good-pieces : (pieces : List Piece) → AllByRecursion PassesNone pieces →
    AllByRecursion IsWithinLimit (sorts_of (words_in pieces)) → AreFine pieces
good-pieces [] kept good = tt
good-pieces (p ∷ ps) kept good = (record { kept = kept.0; good = good.0 }, good-pieces ps kept.1 good.1)

sorts-length : (pieces : List Piece) → length (sorts_of (words_in pieces)) ≡ length pieces
sorts-length [] = refl
sorts-length (p ∷ ps) = ap (λ n. suc n) (sorts-length ps)

-- an expression takes no fewer words in a place than are printed there
fewest : (p : ℕ) (e : Expr Name) (tokens : List Sort) → p ≤ 7 → AllByRecursion IsWithinLimit tokens →
    StandsAt p tokens e →
    length (tokens_in (at_level p (printed e))) ≤ length tokens
fewest p e tokens h good s =
    let fine : AreFine s.pieces = good-pieces s.pieces (recursion_from_All PassesNone s.pieces s.kept)
    (subst (λ ts. AllByRecursion IsWithinLimit ts) (sym s.tokens_are) good) in
    let cost = (gives-level s.brackets p s.room h).of s.other s.pieces s.left s.derives fine in
    let same : printed s.other ≡ printed e = sym (same-printed s.other)
    ∙ (ap printed s.same ∙ same-printed e) in
    let few : length (tokens_in (at_level p (printed e))) ≤ length s.pieces =
    subst (λ (x : Printed). length (tokens_in (at_level p x)) ≤ length s.pieces) same cost.short.few in
    omega (arith, few, sorts-length s.pieces, ap (λ (ts : List Sort). length ts) s.tokens_are)

bracketed-length : (items : List Item) → length (tokens_in (bracketed items)) ≡ length (tokens_in items) + 2
bracketed-length items = ap (λ (ts : List Sort). length ts) (bracketed-tokens items)
    ∙ omega (arith, length-append (tokens_in items) (Fixed S.Close ∷ []))

too-few : (items : List Item) → length (tokens_in (bracketed items)) ≤ length (tokens_in items) → ⊥
too-few items h = omega (arith, h, bracketed-length items)

bare-place : (b : Bool) (items : List Item) → (b ≡ true → ⊥) → (if b then bracketed items else items) ≡ items
bare-place true items h = absurd (h refl)
bare-place false items h = refl

-- where the words of an expression stand in a place by themselves, it is printed without parentheses
pub stands-bare : (p : ℕ) (e : Expr Name) → p ≤ 7 → All IsWithinLimit (tokens_in (expression e)) →
    StandsAt p (tokens_in (expression e)) e →
    at_level p (printed e) ≡ expression e
stands-bare p e h good s =
    let items : List Item = expression e in
    let few = fewest p e (tokens_in items) h (recursion_from_All IsWithinLimit (tokens_in items) good) s in
    bare-place (nat_lt (printed e).level p) items (λ is. too-few items
    (subst (λ b. length (tokens_in (if b then bracketed items else items)) ≤ length (tokens_in items)) is
    few))

-- words of these sorts, on line 0
lined : List Sort → List Word
lined [] = []
lined (s ∷ ss) = record { line = 0; sort = s } ∷ lined ss

lined-sorts : (ss : List Sort) → sorts_of (lined ss) ≡ ss
unfolding lined
lined-sorts [] = refl
lined-sorts (s ∷ ss) = ap (λ ts. s ∷ ts) (lined-sorts ss)

-- an expression stands in each place as it is printed there
pub stands-printed : (p : ℕ) (e : Expr Name) → p ≤ 7 → StandsAt p (tokens_in (at_level p (printed e))) e
stands-printed p e h =
    let x = expression-placed e in
    let items : List Item = at_level p (printed e) in
    let made = (x.of x.enough (omega arith) p h).of (lined (tokens_in items))
    (lined-sorts (tokens_in items)) (marks_in items + 0) 0 refl in
    record {
      brackets = x.enough;
      room = marks_in items + 0;
      left = 0;
      other = made.other;
      pieces = made.pieces;
      derives = made.derives;
      kept = All-from_recursion PassesNone made.pieces made.kept;
      tokens_are = ap sorts_of made.words_are ∙ lined-sorts (tokens_in items);
      same = made.same;
    }
