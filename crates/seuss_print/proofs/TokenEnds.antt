-- Where a token ends: which bytes may follow it.
use Rattle.std.proofs.Common.{◌≡◌, ℕ, pos, negsuc, ◌^◌, ◌≤◌, ◌<◌, Bool, true, false, cond, not, ◌&&◌, List}
use Rattle.std.proofs.Common.{[], ◌∷◌, ◌++◌, length, refl, sym, ap, ◌∙◌, subst, inl, inr, arith, Some, None}
use Rattle.std.specs.Prelude.{nat_le}
use Rattle.std.specs.List.{list_all}
use Rattle.std.specs.Char.{is_ascii_alphabetic, is_ascii_digit}
use Rattle.std.specs.Fmt.{decimal}
use Rattle.std.specs.Str.{bytes_eq, all_ascii_digits}
use Rattle.std.proofs.lemmas.Fmt.{digits_decimal, digits_value-decimal, decimal_nonempty}
use Rattle.std.proofs.lemmas.Str.Parse.{numerals_by_value, tells_all_ascii_digits}
use Rattle.std.proofs.lemmas.Slice.Eq.{bytes_eq-Decides}
use Rattle.std.proofs.lemmas.List.Folds.{list_all-append}
use Rattle.std.proofs.lemmas.Bool.{and_parts, and_from, and_left, and_right, or_cases, cases_Bool}
use Rattle.std.proofs.lemmas.Bool.{both_ways, true≢false, false_from_ne_true, cond-true, cond-false}
use Rattle.std.proofs.lemmas.Bool.{not-true}
use Rattle.std.proofs.lemmas.Bool.Decides.{nat_tests}
use Rattle.seuss_text.specs.Bytes.{is_white, is_name_byte}
use Rattle.seuss_text.specs.Words.{signs, keywords, is_among, kind_of, IsLongest}
use Rattle.seuss_text.specs.Limits.{IsInLimit}
use Rattle.seuss_text.specs.declared.token.TokenKind.{TokenKind}
use Rattle.seuss_text.specs.declared.token.TokenKind.TheVariants as K
use Rattle.seuss_parser.specs.Symbols.{keyword_of, sign_of}
use Rattle.seuss_parser.specs.Words.{sort_of}
use Rattle.seuss_parser.specs.declared.symbol.Symbol.{Symbol}
use Rattle.seuss_parser.specs.declared.symbol.Symbol.TheVariants as S
use Rattle.seuss_parser.specs.declared.word.Sort.{Sort}
use Rattle.seuss_parser.specs.declared.word.Sort.TheVariants.{Fixed, Name as Named, Number}
use Rattle.seuss_print.specs.Items.{token_text}
use Rattle.seuss_print.specs.Printable.{IsWithinLimit}
use Rattle.seuss_print.proofs.WordSorts.{none-some}

-- a byte that signs are made of: no letter, digit or `_`, no white space, and not the one of comments
abbrev pub is_sign_byte : ℕ → Bool
is_sign_byte b = not (is_name_byte b) && (not (is_white b) && not (nat_le b 35 && nat_le 35 b))

-- one such byte or two
abbrev pub is_sign_shape : List ℕ → Bool
is_sign_shape [] = false
is_sign_shape (a ∷ []) = is_sign_byte a
is_sign_shape (a ∷ b ∷ []) = is_sign_byte a && is_sign_byte b
is_sign_shape (a ∷ b ∷ c ∷ bs) = false

-- what passes for each word of a table passes for a word that is among them
passes_among : (p : List ℕ → Bool) (table : List (List ℕ)) (word : List ℕ) → list_all p table ≡ true →
    is_among table word ≡ true → p word ≡ true
passes_among p [] word all among = absurd (true≢false (sym among))
passes_among p (w ∷ ws) word all among =
    elim (or_cases (bytes_eq w word) (is_among ws word) among) [
      | inl same ↦ ap p (sym ((bytes_eq-Decides w word).0 same)) ∙ (and_parts _ _ all).0
      | inr later ↦ passes_among p ws word (and_parts _ _ all).1 later
    ]

sign_shape : (word : List ℕ) → is_among signs word ≡ true → is_sign_shape word ≡ true
unfolding signs
sign_shape word among = passes_among is_sign_shape signs word refl among

sign_first : (b : ℕ) (bs : List ℕ) → is_sign_shape (b ∷ bs) ≡ true → is_sign_byte b ≡ true
sign_first a [] h = h
sign_first a (b ∷ []) h = (and_parts _ _ h).0
sign_first a (b ∷ c ∷ bs) h = absurd (true≢false (sym h))

no_sign : (word : List ℕ) → is_sign_shape word ≡ false → is_among signs word ≡ false
no_sign word shapeless = false_from_ne_true _ (λ among. both_ways _ shapeless (sign_shape word among))

named_no_sign : (b : ℕ) (bs : List ℕ) → is_name_byte b ≡ true → is_among signs (b ∷ bs) ≡ false
named_no_sign b bs name =
    false_from_ne_true _ (λ among. both_ways _
    (not-true _ (and_parts _ _ (sign_first b bs (sign_shape (b ∷ bs) among))).0) name)

letter_is_named : (b : ℕ) → is_ascii_alphabetic b ≡ true → is_name_byte b ≡ true
letter_is_named b h = grind (arith, nat_tests)

digit_is_named : (b : ℕ) → is_ascii_digit b ≡ true → is_name_byte b ≡ true
digit_is_named b h = grind (arith, nat_tests)

letter_no_digit : (b : ℕ) → is_ascii_alphabetic b ≡ true → is_ascii_digit b ≡ false
letter_no_digit b h = grind (arith, nat_tests)

digit_no_letter : (b : ℕ) → is_ascii_digit b ≡ true → is_ascii_alphabetic b ≡ false
digit_no_letter b h = grind (arith, nat_tests)

nameless_no_digit : (b : ℕ) → is_name_byte b ≡ false → is_ascii_digit b ≡ false
nameless_no_digit b h = grind (arith, nat_tests)

nameless_no_letter : (b : ℕ) → is_name_byte b ≡ false → is_ascii_alphabetic b ≡ false
nameless_no_letter b h = grind (arith, nat_tests)

letters_none : (b : ℕ) (bs : List ℕ) → is_ascii_alphabetic b ≡ true → list_all is_name_byte bs ≡ false →
    kind_of (b ∷ bs) ≡ None
letters_none b bs letter other =
    cond-false _ _ _ (and_right _ _ other) ∙ cond-false _ _ _ (and_left _ _ (letter_no_digit b letter)) ∙
    cond-false _ _ _ (named_no_sign b bs (letter_is_named b letter))

digits_none : (b : ℕ) (bs : List ℕ) → is_ascii_digit b ≡ true → list_all is_ascii_digit bs ≡ false →
    kind_of (b ∷ bs) ≡ None
digits_none b bs digit other =
    cond-false _ _ _ (and_left _ _ (digit_no_letter b digit)) ∙ cond-false _ _ _ (and_right _ _ other) ∙
    cond-false _ _ _ (named_no_sign b bs (digit_is_named b digit))

digits_kind : (b : ℕ) (bs : List ℕ) → is_ascii_digit b ≡ true → list_all is_ascii_digit bs ≡ true →
    kind_of (b ∷ bs) ≡ Some K.Number
digits_kind b bs digit all = cond-false _ _ _ (and_left _ _ (digit_no_letter b digit)) ∙
    cond-true _ _ _ (and_from _ _ digit all)

other_kind : (b : ℕ) (bs : List ℕ) → is_ascii_alphabetic b ≡ false → is_ascii_digit b ≡ false →
    kind_of (b ∷ bs) ≡ cond (is_among signs (b ∷ bs)) (Some K.Sign) None
other_kind b bs no_letter no_digit = cond-false _ _ _ (and_left _ _ no_letter) ∙
    cond-false _ _ _ (and_left _ _ no_digit)

nothing_none : kind_of [] ≡ None
nothing_none = cond-false _ _ _ (no_sign [] refl)

-- a test that fails for a byte fails for each row with it
row-fails : (p : ℕ → Bool) (xs : List ℕ) (b : ℕ) (more_ : List ℕ) → p b ≡ false →
    list_all p (xs ++ b ∷ more_) ≡ false
row-fails p xs b more_ h = list_all-append p xs (b ∷ more_) ∙ and_right _ _ (and_left _ _ h)

-- behind a word that begins as names do comes a byte that no name goes on with
word-ends : (x : ℕ) (xs : List ℕ) (b : ℕ) (more_ : List ℕ) → is_name_byte x ≡ true → is_name_byte b ≡ false →
    kind_of (x ∷ xs ++ b ∷ more_) ≡ None
word-ends x xs b more_ name stop =
    elim (cases_Bool (is_ascii_alphabetic x)) [
      | inl letter ↦ letters_none x (xs ++ b ∷ more_) letter (row-fails is_name_byte xs b more_ stop)
      | inr plain ↦
          elim (cases_Bool (is_ascii_digit x)) [
            | inl digit ↦ digits_none x (xs ++ b ∷ more_) digit
                (row-fails is_ascii_digit xs b more_ (nameless_no_digit b stop))
            | inr bare ↦ other_kind x (xs ++ b ∷ more_) plain bare
                ∙ cond-false _ _ _ (named_no_sign x (xs ++ b ∷ more_) name)
          ]
    ]

-- behind a sign comes a byte that stands in none
shape-ends : (x : ℕ) (xs : List ℕ) (b : ℕ) (more_ : List ℕ) → is_sign_byte b ≡ false →
    is_sign_shape (x ∷ xs ++ b ∷ more_) ≡ false
shape-ends x [] b [] h = and_right _ _ h
shape-ends x [] b (c ∷ more_) h = refl
shape-ends x (y ∷ []) b more_ h = refl
shape-ends x (y ∷ z ∷ zs) b more_ h = refl

sign-ends : (x : ℕ) (xs : List ℕ) (b : ℕ) (more_ : List ℕ) → is_name_byte x ≡ false →
    is_sign_byte b ≡ false → kind_of (x ∷ xs ++ b ∷ more_) ≡ None
sign-ends x xs b more_ plain stop =
    other_kind x (xs ++ b ∷ more_) (nameless_no_letter x plain) (nameless_no_digit x plain)
    ∙ cond-false _ _ _ (no_sign (x ∷ xs ++ b ∷ more_) (shape-ends x xs b more_ stop))

-- a sign of one byte, which begins no sign with the byte behind it
one-ends : (x b : ℕ) (more_ : List ℕ) → is_name_byte x ≡ false → is_among signs (x ∷ b ∷ []) ≡ false →
    kind_of (x ∷ b ∷ more_) ≡ None
one-ends x b [] plain none = other_kind x (b ∷ []) (nameless_no_letter x plain) (nameless_no_digit x plain)
    ∙ cond-false _ _ _ none
one-ends x b (c ∷ more_) plain none = other_kind x (b ∷ c ∷ more_) (nameless_no_letter x plain)
    (nameless_no_digit x plain) ∙ cond-false _ _ _ (no_sign (x ∷ b ∷ c ∷ more_) refl)

-- the bytes that come next are none that a name goes on with
abbrev pub Stops : List ℕ → Type 0
Stops [] = Unit {0}
Stops (b ∷ rest) = is_name_byte b ≡ false

-- a byte that begins no sign behind a minus
abbrev pub FollowsMinus : ℕ → Type 0
FollowsMinus b = is_among signs (45 ∷ b ∷ []) ≡ false

pub named-follows : (b : ℕ) → is_name_byte b ≡ true → FollowsMinus b
named-follows b name = no_sign (45 ∷ b ∷ [])
    (and_right (is_sign_byte 45) _
    (and_left _ (not (is_white b) && not (nat_le b 35 && nat_le 35 b)) (ap (λ t. not t) name)))

pub open-follows : FollowsMinus 40
unfolding signs
open-follows = refl

pub square-follows : FollowsMinus 91
unfolding signs
square-follows = refl

pub minus-follows : FollowsMinus 45
unfolding signs
minus-follows = refl

first-same : (x y : ℕ) (xs ys : List ℕ) → x ∷ xs ≡ y ∷ ys → x ≡ y
first-same x y xs ys h = cc

pub longest-word : (word : List ℕ) (x : ℕ) (xs rest : List ℕ) → word ≡ x ∷ xs → is_name_byte x ≡ true →
    Stops rest → IsLongest word rest
longest-word word x xs [] same name stop b more_ after h = absurd (empty_row b (more_ ++ after) h)
  where
    empty_row : (b : ℕ) (bs : List ℕ) → [] ≡ b ∷ bs → ⊥
    empty_row b bs h = cc
longest-word word x xs (c ∷ rest) same name stop b more_ after h =
    subst (λ (w : List ℕ). kind_of (w ++ b ∷ more_) ≡ None) (sym same)
    (word-ends x xs b more_ name
    (subst (λ y. is_name_byte y ≡ false) (first-same c b rest (more_ ++ after) h) stop))

pub longest-before : (word : List ℕ) (x : ℕ) (xs : List ℕ) (c : ℕ) (rest : List ℕ) → word ≡ x ∷ xs →
    is_name_byte x ≡ false → is_sign_byte c ≡ false → IsLongest word (c ∷ rest)
longest-before word x xs c rest same plain stop b more_ after h =
    subst (λ (w : List ℕ). kind_of (w ++ b ∷ more_) ≡ None) (sym same)
    (sign-ends x xs b more_ plain
    (subst (λ y. is_sign_byte y ≡ false) (first-same c b rest (more_ ++ after) h) stop))

-- a sign that begins no longer one
pub longest-alone : (x : ℕ) (rest : List ℕ) → is_name_byte x ≡ false →
    ((b : ℕ) → is_among signs (x ∷ b ∷ []) ≡ false) → IsLongest (x ∷ []) rest
longest-alone x rest plain none b more_ after h = one-ends x b more_ plain (none b)

pub longest-minus : (c : ℕ) (rest : List ℕ) → FollowsMinus c → IsLongest (45 ∷ []) (c ∷ rest)
longest-minus c rest none b more_ after h =
    one-ends 45 b more_ refl
    (subst (λ y. is_among signs (45 ∷ y ∷ []) ≡ false) (first-same c b rest (more_ ++ after) h) none)

pub open-alone : (b : ℕ) → is_among signs (40 ∷ b ∷ []) ≡ false
unfolding signs
open-alone b = refl

pub close-alone : (b : ℕ) → is_among signs (41 ∷ b ∷ []) ≡ false
unfolding signs
close-alone b = refl

pub square-alone : (b : ℕ) → is_among signs (91 ∷ b ∷ []) ≡ false
unfolding signs
square-alone b = refl

pub unsquare-alone : (b : ℕ) → is_among signs (93 ∷ b ∷ []) ≡ false
unfolding signs
unsquare-alone b = refl

pub comma-alone : (b : ℕ) → is_among signs (44 ∷ b ∷ []) ≡ false
unfolding signs
comma-alone b = refl

pub dot-alone : (b : ℕ) → is_among signs (46 ∷ b ∷ []) ≡ false
unfolding signs
dot-alone b = refl

-- a symbol that has a text
abbrev pub Known : Sort → Type 0
Known (Fixed S.Other) = ⊥
Known (Fixed symbol) = Unit {0}
Known (Named text) = Unit {0}
Known (Number z) = Unit {0}

-- the text of a printed token is a token of its sort, within its limit
pub record Tells (sort : Sort) : Type 0 where
  pub kind : TokenKind
  pub is : kind_of (token_text sort) ≡ Some kind
  pub sort_is : sort_of kind (token_text sort) ≡ sort
  pub limit : IsInLimit kind (token_text sort)

symbol-tells : (s : Symbol) → Known (Fixed s) → Tells (Fixed s)
unfolding keywords signs keyword_of sign_of
symbol-tells S.Seuss h = record { kind = K.Keyword; is = refl; sort_is = refl; limit = tt }
symbol-tells S.Cat h = record { kind = K.Keyword; is = refl; sort_is = refl; limit = tt }
symbol-tells S.Box h = record { kind = K.Keyword; is = refl; sort_is = refl; limit = tt }
symbol-tells S.Var h = record { kind = K.Keyword; is = refl; sort_is = refl; limit = tt }
symbol-tells S.Total h = record { kind = K.Keyword; is = refl; sort_is = refl; limit = tt }
symbol-tells S.Partial h = record { kind = K.Keyword; is = refl; sort_is = refl; limit = tt }
symbol-tells S.Action h = record { kind = K.Keyword; is = refl; sort_is = refl; limit = tt }
symbol-tells S.Is h = record { kind = K.Keyword; is = refl; sort_is = refl; limit = tt }
symbol-tells S.When h = record { kind = K.Keyword; is = refl; sort_is = refl; limit = tt }
symbol-tells S.Let h = record { kind = K.Keyword; is = refl; sort_is = refl; limit = tt }
symbol-tells S.If h = record { kind = K.Keyword; is = refl; sort_is = refl; limit = tt }
symbol-tells S.Then h = record { kind = K.Keyword; is = refl; sort_is = refl; limit = tt }
symbol-tells S.Else h = record { kind = K.Keyword; is = refl; sort_is = refl; limit = tt }
symbol-tells S.While h = record { kind = K.Keyword; is = refl; sort_is = refl; limit = tt }
symbol-tells S.Do h = record { kind = K.Keyword; is = refl; sort_is = refl; limit = tt }
symbol-tells S.End h = record { kind = K.Keyword; is = refl; sort_is = refl; limit = tt }
symbol-tells S.Semi h = record { kind = K.Keyword; is = refl; sort_is = refl; limit = tt }
symbol-tells S.Int h = record { kind = K.Keyword; is = refl; sort_is = refl; limit = tt }
symbol-tells S.Bool h = record { kind = K.Keyword; is = refl; sort_is = refl; limit = tt }
symbol-tells S.Seq h = record { kind = K.Keyword; is = refl; sort_is = refl; limit = tt }
symbol-tells S.True h = record { kind = K.Keyword; is = refl; sort_is = refl; limit = tt }
symbol-tells S.False h = record { kind = K.Keyword; is = refl; sort_is = refl; limit = tt }
symbol-tells S.And h = record { kind = K.Keyword; is = refl; sort_is = refl; limit = tt }
symbol-tells S.Or h = record { kind = K.Keyword; is = refl; sort_is = refl; limit = tt }
symbol-tells S.Not h = record { kind = K.Keyword; is = refl; sort_is = refl; limit = tt }
symbol-tells S.First h = record { kind = K.Keyword; is = refl; sort_is = refl; limit = tt }
symbol-tells S.Last h = record { kind = K.Keyword; is = refl; sort_is = refl; limit = tt }
symbol-tells S.Rest h = record { kind = K.Keyword; is = refl; sort_is = refl; limit = tt }
symbol-tells S.Front h = record { kind = K.Keyword; is = refl; sort_is = refl; limit = tt }
symbol-tells S.Back h = record { kind = K.Keyword; is = refl; sort_is = refl; limit = tt }
symbol-tells S.Len h = record { kind = K.Keyword; is = refl; sort_is = refl; limit = tt }
symbol-tells S.At h = record { kind = K.Keyword; is = refl; sort_is = refl; limit = tt }
symbol-tells S.Add h = record { kind = K.Keyword; is = refl; sort_is = refl; limit = tt }
symbol-tells S.Assign h = record { kind = K.Sign; is = refl; sort_is = refl; limit = tt }
symbol-tells S.Arrow h = record { kind = K.Sign; is = refl; sort_is = refl; limit = tt }
symbol-tells S.NegativeArrow h = record { kind = K.Sign; is = refl; sort_is = refl; limit = tt }
symbol-tells S.NotEqual h = record { kind = K.Sign; is = refl; sort_is = refl; limit = tt }
symbol-tells S.LessOrEqual h = record { kind = K.Sign; is = refl; sort_is = refl; limit = tt }
symbol-tells S.GreaterOrEqual h = record { kind = K.Sign; is = refl; sort_is = refl; limit = tt }
symbol-tells S.WrapPlus h = record { kind = K.Sign; is = refl; sort_is = refl; limit = tt }
symbol-tells S.WrapMinus h = record { kind = K.Sign; is = refl; sort_is = refl; limit = tt }
symbol-tells S.Colon h = record { kind = K.Sign; is = refl; sort_is = refl; limit = tt }
symbol-tells S.Semicolon h = record { kind = K.Sign; is = refl; sort_is = refl; limit = tt }
symbol-tells S.Comma h = record { kind = K.Sign; is = refl; sort_is = refl; limit = tt }
symbol-tells S.Dot h = record { kind = K.Sign; is = refl; sort_is = refl; limit = tt }
symbol-tells S.Open h = record { kind = K.Sign; is = refl; sort_is = refl; limit = tt }
symbol-tells S.Close h = record { kind = K.Sign; is = refl; sort_is = refl; limit = tt }
symbol-tells S.OpenSquare h = record { kind = K.Sign; is = refl; sort_is = refl; limit = tt }
symbol-tells S.CloseSquare h = record { kind = K.Sign; is = refl; sort_is = refl; limit = tt }
symbol-tells S.Equal h = record { kind = K.Sign; is = refl; sort_is = refl; limit = tt }
symbol-tells S.Less h = record { kind = K.Sign; is = refl; sort_is = refl; limit = tt }
symbol-tells S.Greater h = record { kind = K.Sign; is = refl; sort_is = refl; limit = tt }
symbol-tells S.Plus h = record { kind = K.Sign; is = refl; sort_is = refl; limit = tt }
symbol-tells S.Minus h = record { kind = K.Sign; is = refl; sort_is = refl; limit = tt }
symbol-tells S.Times h = record { kind = K.Sign; is = refl; sort_is = refl; limit = tt }
symbol-tells S.Divide h = record { kind = K.Sign; is = refl; sort_is = refl; limit = tt }
symbol-tells S.Remainder h = record { kind = K.Sign; is = refl; sort_is = refl; limit = tt }
symbol-tells S.Other h = absurd h

all-digits : (ds : List ℕ) → all_ascii_digits ds ≡ true → list_all is_ascii_digit ds ≡ true
all-digits [] h = refl
all-digits (d ∷ ds) h = and_from _ _ (and_parts _ _ h).0 (all-digits ds (and_parts _ _ h).1)

small : (n : ℕ) → n ≤ 9223372036854775807 → n < 2 ^ 64
small n h = omega (arith, h)

-- the digits of a number
pub record Digits (ds : List ℕ) : Type 0 where
  pub first : ℕ
  pub others : List ℕ
  pub are : ds ≡ first ∷ others
  pub digit : is_ascii_digit first ≡ true
  pub all : list_all is_ascii_digit others ≡ true

digits-from : (ds : List ℕ) → all_ascii_digits ds ≡ true → 0 < length ds → Digits ds
digits-from [] h some = absurd (omega (arith, some))
digits-from (d ∷ ds) h some = record {
  first = d;
  others = ds;
  are = refl;
  digit = (and_parts _ _ h).0;
  all =
      all-digits ds (and_parts _ _ h).1;
}

pub number-digits : (n : ℕ) → n ≤ 9223372036854775807 → Digits (decimal n)
number-digits n h = digits-from (decimal n)
    (digits_decimal (numerals_by_value (λ ds. all_ascii_digits ds ≡ true) tells_all_ascii_digits) n
    (small n h))
    (decimal_nonempty n (small n h))

number-tells : (n : ℕ) → n ≤ 9223372036854775807 → Tells (Number (pos n))
number-tells n h =
    let ds = number-digits n h in
    let value = digits_value-decimal
    (numerals_by_value (λ ds. all_ascii_digits ds ≡ true) tells_all_ascii_digits) n (small n h) in
    record {
      kind = K.Number;
      is = subst (λ ds. kind_of ds ≡ Some K.Number) (sym ds.are)
          (digits_kind ds.first ds.others ds.digit ds.all);
      sort_is = ap (λ k. Number (pos k)) value;
      limit = subst (λ k. k ≤ 9223372036854775807) (sym value) h;
    }

pub tells : (sort : Sort) → Known sort → IsWithinLimit sort → Tells sort
tells (Fixed s) known good = symbol-tells s known
tells (Named text) known good = record { kind = K.Name; is = good.0; sort_is = refl; limit = good.1 }
tells (Number (pos n)) known good = number-tells n good
tells (Number (negsuc n)) known good = absurd good

-- a token that begins as names do
pub record IsWordLike (sort : Sort) : Type 0 where
  pub first : ℕ
  pub others : List ℕ
  pub text : token_text sort ≡ first ∷ others
  pub name : is_name_byte first ≡ true
  pub known : Known sort

no-name : (t : Bool) → cond t (Some K.Sign) None ≡ Some K.Name → ⊥
no-name true h = cc
no-name false h = cc

name-first : (b : ℕ) (bs : List ℕ) → kind_of (b ∷ bs) ≡ Some K.Name → is_name_byte b ≡ true
name-first b bs h =
    elim (cases_Bool (is_name_byte b)) [
      | inl name ↦ name
      | inr plain ↦ absurd
          (no-name (is_among signs (b ∷ bs))
          (sym (other_kind b bs (nameless_no_letter b plain) (nameless_no_digit b plain)) ∙ h))
    ]

pub name-like : (text : List ℕ) → IsWithinLimit (Named text) → IsWordLike (Named text)
name-like [] good = absurd (none-some _ (sym nothing_none ∙ good.0))
name-like (b ∷ bs) good = record
    { first = b; others = bs; text = refl; name = name-first b bs good.0; known = tt }

pub number-like : (n : ℕ) → IsWithinLimit (Number (pos n)) → IsWordLike (Number (pos n))
number-like n good = let ds = number-digits n good in
    record {
      first = ds.first;
      others = ds.others;
      text = ds.are;
      name = digit_is_named ds.first ds.digit;
      known = tt;
    }
