-- What phrases of names, numbers and lists give.
use Rattle.std.proofs.Common.{ℕ, suc, ◌+◌, false, List, [], ◌∷◌, length, arith}
use Rattle.std.specs.List.{AllByRecursion, flat_map}
use Rattle.seuss_parser.specs.Trees.{listed}
use Rattle.seuss_parser.specs.Words.{as_name, as_symbol}
use Rattle.seuss_parser.specs.Phrases.{Phrase, Many}
use Rattle.seuss_parser.specs.Grammar.{IsName, IsNext, IsSeparated, IsPerhapsSeparated, IsGroup}
use Rattle.seuss_parser.specs.Grammar.{IsPerhapsGroup, IsArguments, IsExpression, IsWholeExpression}
use Rattle.seuss_parser.specs.Grammar.{max_marks}
use Rattle.seuss_parser.specs.declared.symbol.Symbol.TheVariants as S
use Rattle.seuss_parser.specs.declared.word.Sort.TheVariants.{Fixed, Name as Named}
use Rattle.seuss_program.specs.declared.tree.Name.{Name}
use Rattle.seuss_print.specs.Items.{Item, named, bracketed, separated, behind_comma, perhaps_bracketed}
use Rattle.seuss_print.specs.Expressions.{expression, printed}
use Rattle.seuss_print.specs.Printable.{HasFewMarks}
use Rattle.seuss_print.proofs.Costs.{Short, short-append, short-more, short-none, short-cons, short-space}
use Rattle.seuss_print.proofs.Costs.{short-bracketed, cost-bare}
use Rattle.seuss_print.proofs.Gives.{Gives, Claim, gives-word, gives-then, word-then, gives-only}
use Rattle.seuss_print.proofs.Gives.{gives-optional, gives-many, gives-whole}
use Rattle.seuss_print.proofs.WordSorts.{good-name}
use Rattle.seuss_print.proofs.ParsedExpressions.{Fits, gives-expression}

-- a value that is printed so, with no more tokens than there are words, and of which this holds
pub record Gave {A : Type 0} (print : A → List Item) (R : A → Type 0) (a : A) (left n : ℕ) : Type 0 where
  pub short : Short (print a) n
  pub is : R a

-- nothing more is known
abbrev pub Always : {A : Type 0} → A → Type 0
Always a = Unit {0}

abbrev pub only_name : Name → List Item
only_name name = named name ∷ []

pub gives-name : (room : ℕ) → Gives IsName room (Gave only_name Always)
gives-name room = record {
  of = λ a pieces left d fine.
      let w = (gives-word as_name false room).of a pieces left d fine in
      record {
        short = short-more _ 1 (length pieces) (omega (arith, w.one))
            (short-cons (Named a.text) [] 0 (good-name w.is.word a w.is.good w.is.read) short-none);
        is =
            tt;
      };
}

pub gives-whole-expression : (brackets room : ℕ) →
    Gives (IsWholeExpression brackets) room (Gave expression HasFewMarks)
unfolding IsWholeExpression
gives-whole-expression brackets room = record {
  of = λ e pieces left d fine.
      let w = (gives-whole max_marks (IsExpression brackets) room (Fits 0 max_marks)
      (gives-expression brackets max_marks)).of e pieces left d fine in
      let cost = cost-bare (printed e) max_marks w.unused (length pieces) w.is in
      record { short = cost.short; is = omega (arith, cost.marks) };
}

-- lists of items
module _ {A : Type 0} (P : Phrase A) (print : A → List Item) (R : A → Type 0)
    (g : (room : ℕ) → Gives P room (Gave print R)) where
  -- a row of values that are printed one behind the other
  abbrev Row : Claim (List A)
  Row = Gave (λ (as_ : List A). flat_map print as_) (AllByRecursion R)

  pub gives-row : (room : ℕ) → Gives (Many P) room Row
  gives-row room = gives-many P (λ room. Gave print R) (λ room. Row) g
      (λ room. record { short = short-none; is = tt })
      (λ a as_ room mid left n m x xs. record
      { short = short-append (print a) (flat_map print as_) n m x.short xs.short; is = (x.is, xs.is) })
      room

  gives-next : (room : ℕ) → Gives (IsNext P) room (Gave (behind_comma print) R)
  unfolding IsNext
  gives-next room = word-then (as_symbol S.Comma) _ room _ false (λ line w kept. record {
    of = λ a pieces left d fine.
        let x = (g room).of a pieces left d fine in
        record {
          short = short-cons (Fixed S.Comma) _ (length pieces) tt
              (short-space _ (length pieces) x.short);
          is = x.is;
        };
  })

module _ {A : Type 0} (P : Phrase A) (print : A → List Item) (R : A → Type 0)
    (g : (room : ℕ) → Gives P room (Gave print R)) where
  pub gives-separated : (room : ℕ) → Gives (IsSeparated P) room (Gave (separated print) (AllByRecursion R))
  unfolding IsSeparated
  gives-separated room = gives-then P _ room (Gave print R) _ (g room) (λ a mid n x.
      gives-then _ _ mid (Row (IsNext P) (behind_comma print) R (gives-next P print R g)) _
      (gives-row (IsNext P) (behind_comma print) R (gives-next P print R g) mid) (λ others left m xs.
      gives-only _ left _ (record {
        short = short-more _ (n + m) (n + (m + 0)) (omega arith)
            (short-append (print a) (flat_map (behind_comma print) others) n m x.short xs.short);
        is = (x.is, xs.is);
      })))

  pub gives-perhaps-separated : (room : ℕ) → Gives (IsPerhapsSeparated P) room
      (Gave (separated print) (AllByRecursion R))
  unfolding IsPerhapsSeparated
  gives-perhaps-separated room = gives-then _ _ room
      (λ items left n. Gave (separated print) (AllByRecursion R) (listed items) left n) _
      (gives-optional _ room _ (record { short = short-none; is = tt })
      (record { of = λ a pieces left d fine. (gives-separated room).of a pieces left d fine }))
      (λ items left n x. gives-only _ left _
      (record { short = short-more _ n (n + 0) (omega arith) x.short; is = x.is }))

  abbrev pub in_brackets : List A → List Item
  in_brackets as_ = bracketed (separated print as_)

  pub gives-arguments : (room : ℕ) → Gives (IsArguments P) room (Gave in_brackets (AllByRecursion R))
  unfolding IsArguments
  gives-arguments room = word-then (as_symbol S.Open) _ room _ false (λ line w kept.
      gives-then _ _ room (Gave (separated print) (AllByRecursion R)) _ (gives-perhaps-separated room)
      (λ items mid n x.
      word-then (as_symbol S.Close) _ mid _ false (λ other v was.
      gives-only _ mid _ (record {
        short = short-more _ (n + 2) (suc (n + 1)) (omega arith)
            (short-bracketed (separated print items) n x.short);
        is = x.is;
      }))))

  gives-group : (room : ℕ) → Gives (IsGroup P) room (Gave in_brackets (AllByRecursion R))
  unfolding IsGroup
  gives-group room = word-then (as_symbol S.Open) _ room _ false (λ line w kept.
      gives-then _ _ room (Gave (separated print) (AllByRecursion R)) _ (gives-separated room)
      (λ items mid n x.
      word-then (as_symbol S.Close) _ mid _ false (λ other v was.
      gives-only _ mid _ (record {
        short = short-more _ (n + 2) (suc (n + 1)) (omega arith)
            (short-bracketed (separated print items) n x.short);
        is = x.is;
      }))))

  perhaps-short : (items : List A) (n : ℕ) → Short (in_brackets items) n →
      Short (perhaps_bracketed print items) n
  perhaps-short [] n a = short-more [] 0 n (omega arith) short-none
  perhaps-short (a ∷ others) n x = x

  pub gives-perhaps-group : (room : ℕ) → Gives (IsPerhapsGroup P) room
      (Gave (perhaps_bracketed print) (AllByRecursion R))
  unfolding IsPerhapsGroup
  gives-perhaps-group room = gives-then _ _ room
      (λ items left n. Gave (perhaps_bracketed print) (AllByRecursion R) (listed items) left n) _
      (gives-optional _ room _ (record { short = short-none; is = tt }) (record {
        of = λ a pieces left d fine.
            let x = (gives-group room).of a pieces left d fine in
            record { short = perhaps-short a (length pieces) x.short; is = x.is };
      }))
      (λ items left n x. gives-only _ left _
      (record { short = short-more _ n (n + 0) (omega arith) x.short; is = x.is }))
