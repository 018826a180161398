-- How many tokens and marks items have, beside the words of a phrase.
use Rattle.std.proofs.Common.{◌≡◌, ℕ, zero, suc, ◌+◌, ◌≤◌, Bool, true, false, List, [], ◌∷◌, ◌++◌, length}
use Rattle.std.proofs.Common.{ap, subst, sym, refl, ◌∙◌, arith, cond, nat_lt, if◌then◌else◌, append-nil}
use Rattle.std.specs.List.{AllByRecursion}
use Rattle.std.proofs.lemmas.List.Sums.{sum_by-cons}
use Rattle.seuss_parser.specs.declared.symbol.Symbol.{Symbol}
use Rattle.seuss_parser.specs.declared.symbol.Symbol.TheVariants as S
use Rattle.seuss_parser.specs.declared.word.Sort.{Sort}
use Rattle.seuss_parser.specs.declared.word.Sort.TheVariants.{Fixed}
use Rattle.seuss_print.specs.Items.{Item, Token, Space, LineFeed, symbol, tokens_in, indented, line}
use Rattle.seuss_print.specs.Items.{bracketed}
use Rattle.seuss_print.specs.Expressions.{Printed, at_level}
use Rattle.seuss_print.specs.Printable.{IsWithinLimit, counts, marks_in, is_mark}
use Rattle.seuss_print.proofs.Lists.{all_append, all_left}

-- the tokens of these items are within their limits, and there are at most so many
pub record Short (items : List Item) (count : ℕ) : Type 0 where
  pub good : AllByRecursion IsWithinLimit (tokens_in items)
  pub few : length (tokens_in items) ≤ count

-- and there is room for their marks, with so much left
pub record Cost (items : List Item) (room left count : ℕ) : Type 0 where
  pub short : Short items count
  pub marks : marks_in items + left ≤ room

pub tokens-append : (xs ys : List Item) → tokens_in (xs ++ ys) ≡ tokens_in xs ++ tokens_in ys
tokens-append [] ys = refl
tokens-append (Token sort ∷ xs) ys = ap (λ sorts. sort ∷ sorts) (tokens-append xs ys)
tokens-append (Space ∷ xs) ys = tokens-append xs ys
tokens-append (LineFeed ∷ xs) ys = tokens-append xs ys

tokens-length : (xs ys : List Item) → length (tokens_in (xs ++ ys))
    ≡ length (tokens_in xs) + length (tokens_in ys)
tokens-length [] ys = omega arith
tokens-length (Token sort ∷ xs) ys = omega (arith, tokens-length xs ys)
tokens-length (Space ∷ xs) ys = tokens-length xs ys
tokens-length (LineFeed ∷ xs) ys = tokens-length xs ys

pub marks-token : (sort : Sort) (items : List Item) (b : Bool) → counts sort ≡ b →
    marks_in (Token sort ∷ items) ≡ cond b 1 0 + marks_in items
marks-token sort items b h =
    sum_by-cons (λ s. cond (counts s) 1 0) sort (tokens_in items) ∙ ap (λ b. cond b 1 0 + marks_in items) h

pub marks-append : (xs ys : List Item) → marks_in (xs ++ ys) ≡ marks_in xs + marks_in ys
marks-append [] ys = omega arith
marks-append (Token sort ∷ xs) ys =
    omega (
      arith,
      marks-token sort (xs ++ ys) (counts sort) refl,
      marks-token sort xs (counts sort) refl,
      marks-append xs ys,
    )
marks-append (Space ∷ xs) ys = marks-append xs ys
marks-append (LineFeed ∷ xs) ys = marks-append xs ys

pub short-append : (xs ys : List Item) (n m : ℕ) → Short xs n → Short ys m → Short (xs ++ ys) (n + m)
short-append xs ys n m a b = record {
  good = subst (λ sorts. AllByRecursion IsWithinLimit sorts) (sym (tokens-append xs ys))
      (all_append IsWithinLimit (tokens_in xs) (tokens_in ys) a.good b.good);
  few = omega (arith, tokens-length xs ys, a.few, b.few);
}

pub short-more : (xs : List Item) (n m : ℕ) → n ≤ m → Short xs n → Short xs m
short-more xs n m h a = record { good = a.good; few = omega (arith, h, a.few) }

pub short-none : Short [] 0
short-none = record { good = tt; few = omega arith }

pub short-token : (sort : Sort) → IsWithinLimit sort → Short (Token sort ∷ []) 1
short-token sort good = record { good = (good, tt); few = omega arith }

pub short-symbol : (s : Symbol) → Short (symbol s ∷ []) 1
short-symbol s = record { good = (tt, tt); few = omega arith }

pub cost-append : (xs ys : List Item) (room mid left n m : ℕ) → Cost xs room mid n → Cost ys mid left m →
    Cost (xs ++ ys) room left (n + m)
cost-append xs ys room mid left n m a b = record {
  short = short-append xs ys n m a.short b.short;
  marks = omega (arith, marks-append xs ys, a.marks, b.marks);
}

-- a token that is no mark, and one that may be a mark
pub cost-token : (sort : Sort) (room : ℕ) → IsWithinLimit sort → counts sort ≡ false →
    Cost (Token sort ∷ []) room room 1
cost-token sort room good none = record {
  short = short-token sort good;
  marks = omega (arith, marks-token sort [] false none);
}

pub cost-symbol : (s : Symbol) (room left : ℕ) → is_mark s ≡ false → room ≡ left →
    Cost (symbol s ∷ []) room left 1
cost-symbol s room left none same = record {
  short = short-symbol s;
  marks = omega (arith, marks-token (Fixed s) [] false none, same);
}

one-at-most : (b : Bool) → cond b 1 0 ≤ 1
one-at-most true = omega arith
one-at-most false = omega arith

pub cost-mark : (s : Symbol) (room left : ℕ) → room ≡ suc left → Cost (symbol s ∷ []) room left 1
cost-mark s room left h = record {
  short = short-symbol s;
  marks = omega (arith, marks-token (Fixed s) [] (is_mark s) refl, one-at-most (is_mark s), h);
}

pub cost-more : (xs : List Item) (room room' left left' n m : ℕ) → room ≤ room' → left' ≤ left → n ≤ m →
    Cost xs room left n → Cost xs room' left' m
cost-more xs room room' left left' n m r l h a = record {
  short = short-more xs n m h a.short;
  marks = omega (arith, a.marks, r, l);
}

-- brackets cost two tokens and a mark
pub bracketed-tokens : (items : List Item) → tokens_in (bracketed items) ≡ Fixed S.Open
    ∷ (tokens_in items ++ Fixed S.Close ∷ [])
bracketed-tokens items = ap (λ sorts. Fixed S.Open ∷ sorts) (tokens-append items (symbol S.Close ∷ []))

pub bracketed-marks : (items : List Item) → marks_in (bracketed items) ≡ suc (marks_in items)
bracketed-marks items =
    omega (
      arith,
      marks-append items (symbol S.Close ∷ []),
      marks-token (Fixed S.Close) [] false refl,
      marks-token (Fixed S.Open) (items ++ symbol S.Close ∷ []) true refl,
    )

pub cost-bracketed : (items : List Item) (room left n : ℕ) → Cost items room left n →
    Cost (bracketed items) (suc room) left (n + 2)
cost-bracketed items room left n a = record {
  short = record {
    good = subst (λ sorts. AllByRecursion IsWithinLimit sorts) (sym (bracketed-tokens items))
        (tt, all_append IsWithinLimit (tokens_in items) (Fixed S.Close ∷ []) a.short.good (tt, tt));
    few = omega (
      arith,
      a.short.few,
      ap length (bracketed-tokens items),
      tokens-length items
          (symbol S.Close ∷ []),
    );
  };
  marks = omega (arith, bracketed-marks items, a.marks);
}

pub cost-inside : (items : List Item) (room left n : ℕ) → Cost (bracketed items) room left n →
    Cost items room left n
cost-inside items room left n a = record {
  short = record {
    good = all_left IsWithinLimit (tokens_in items) (Fixed S.Close ∷ [])
        (subst (λ sorts. AllByRecursion IsWithinLimit sorts) (bracketed-tokens items) a.short.good).1;
    few = omega (arith, a.short.few, tokens-length items (symbol S.Close ∷ []));
  };
  marks = omega (arith, bracketed-marks items, a.marks);
}

-- a part in a place that wants less costs no more
lower : (b c : Bool) (items : List Item) (room left n : ℕ) → (b ≡ true → c ≡ true) →
    Cost (if c then bracketed items else items) room left n →
    Cost (if b then bracketed items else items) room left n
lower true true items room left n h a = a
lower true false items room left n h a = absurd (grind (arith, h refl))
lower false true items room left n h a = cost-inside items room left n a
lower false false items room left n h a = a

less-above : (a p q : ℕ) → p ≤ q → nat_lt a p ≡ true → nat_lt a q ≡ true
less-above a p q h t = grind arith

pub cost-lower : (part : Printed) (p q room left n : ℕ) → p ≤ q → Cost (at_level q part) room left n →
    Cost (at_level p part) room left n
cost-lower part p q room left n h a =
    lower (nat_lt part.level p) (nat_lt part.level q) part.items room left n (less-above part.level p q h) a

-- a part costs at most its brackets more, wherever it stands
bracketed-or-not : (b : Bool) (items : List Item) (room left n : ℕ) → Cost items room left n →
    Cost (if b then bracketed items else items) (suc room) left (n + 2)
bracketed-or-not true items room left n a = cost-bracketed items room left n a
bracketed-or-not false items room left n a = cost-more items room (suc room) left left n (n + 2)
    (omega arith) (omega arith) (omega arith) a

none-below : (a : ℕ) → nat_lt a 0 ≡ false
none-below a = grind arith

pub cost-bare : (part : Printed) (room left n : ℕ) → Cost (at_level 0 part) room left n →
    Cost part.items room left n
cost-bare part room left n a =
    subst (λ b. Cost (if b then bracketed part.items else part.items) room left n) (none-below part.level) a

pub cost-anywhere : (part : Printed) (p room left n : ℕ) → Cost (at_level 0 part) room left n →
    Cost (at_level p part) (suc room) left (n + 2)
cost-anywhere part p room left n a = bracketed-or-not (nat_lt part.level p) part.items room left n
    (cost-bare part room left n a)

pub short-same : (xs ys : List Item) (n : ℕ) → tokens_in xs ≡ tokens_in ys → Short xs n → Short ys n
short-same xs ys n same a = record {
  good = subst (λ sorts. AllByRecursion IsWithinLimit sorts) same a.good;
  few = omega (arith, ap (λ sorts. length sorts) same, a.few);
}

pub short-bracketed : (items : List Item) (n : ℕ) → Short items n → Short (bracketed items) (n + 2)
short-bracketed items n a =
    (cost-bracketed items (marks_in items) 0 n (record { short = a; marks = omega arith })).short

-- a token, a space and a line before items
pub short-cons : (sort : Sort) (items : List Item) (n : ℕ) → IsWithinLimit sort → Short items n →
    Short (Token sort ∷ items) (suc n)
short-cons sort items n good a = record { good = (good, a.good); few = omega (arith, a.few) }

pub short-space : (items : List Item) (n : ℕ) → Short items n → Short (Space ∷ items) n
short-space items n a = record { good = a.good; few = a.few }

indented-tokens : (depth : ℕ) → tokens_in (indented depth) ≡ []
indented-tokens zero = refl
indented-tokens (suc depth) = indented-tokens depth

pub line-tokens : (depth : ℕ) (items : List Item) → tokens_in (line depth items) ≡ tokens_in items
line-tokens depth items =
    tokens-append (indented depth ++ items) (LineFeed ∷ [])
    ∙ (append-nil (tokens_in (indented depth ++ items))
    ∙ (tokens-append (indented depth) items ∙ ap (λ sorts. sorts ++ tokens_in items)
    (indented-tokens depth)))

pub short-line : (depth : ℕ) (items : List Item) (n : ℕ) → Short items n → Short (line depth items) n
short-line depth items n a = short-same items (line depth items) n (sym (line-tokens depth items)) a
