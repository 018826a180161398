-- Which words stand at the front of a text.
use Rattle.std.proofs.Common.{◌≡◌, ◌≢◌, ℕ, suc, ◌+◌, ◌≤◌, Bool, true, false, cond, not, ◌&&◌, ◌⊎◌, List, []}
use Rattle.std.proofs.Common.{◌∷◌, ◌++◌, length, take, drop, refl, sym, ap, ◌∙◌, subst, inl, inr, arith}
use Rattle.std.proofs.Common.{Some, None, Option}
use Rattle.std.specs.Prelude.{nat_le, ◌==◌}
use Rattle.std.specs.List.{list_all, prefix_len, slice_get, AllPass}
use Rattle.std.specs.Char.{is_ascii_alphabetic, is_ascii_digit}
use Rattle.std.specs.Str.{bytes_eq}
use Rattle.std.proofs.lemmas.Slice.Eq.{bytes_eq-Decides}
use Rattle.std.proofs.lemmas.List.Folds.{list_all-append}
use Rattle.std.proofs.lemmas.Bool.{and_parts, and_from, and_left, and_right, or_cases, cases_Bool}
use Rattle.std.proofs.lemmas.Bool.{both_ways, true≢false, false_from_ne_true, cond-true, cond-false}
use Rattle.std.proofs.lemmas.Bool.{not-true}
use Rattle.std.proofs.lemmas.Bool.Decides.{nat_tests}
use Rattle.std.proofs.lemmas.List.Sums.{prefix_len-le-length, AllPass-from_list_all}
use Rattle.seuss_text.specs.Bytes.{is_white, is_name_byte}
use Rattle.seuss_text.specs.Words.{signs, keywords, is_among, kind_of, IsLongest, BeginsNoToken}
use Rattle.seuss_text.specs.Reading.{IsFrontWord, sign_len}
use Rattle.seuss_text.specs.declared.token.TokenKind.{TokenKind}
use Rattle.seuss_text.specs.declared.token.TokenKind.TheVariants.{Name, Number, Sign, Keyword}

-- a byte that signs are made of: no letter, digit or `_`, no white space, and not the one of comments
abbrev pub is_mark : ℕ → Bool
is_mark b = not (is_name_byte b) && (not (is_white b) && not (nat_le b 35 && nat_le 35 b))

-- one mark or two
abbrev pub is_sign_shape : List ℕ → Bool
is_sign_shape [] = false
is_sign_shape (a ∷ []) = is_mark a
is_sign_shape (a ∷ b ∷ []) = is_mark a && is_mark b
is_sign_shape (a ∷ b ∷ c ∷ bs) = false

-- what passes for each word of a table passes for a word that is among them
passes_among : (p : List ℕ → Bool) (table : List (List ℕ)) (word : List ℕ) → list_all p table ≡ true →
    is_among table word ≡ true → p word ≡ true
passes_among p [] word all among = absurd (true≢false (sym among))
passes_among p (w ∷ ws) word all among =
    elim (or_cases (bytes_eq w word) (is_among ws word) among) [
      | inl same ↦ ap p (sym ((bytes_eq-Decides w word).0 same)) ∙ (and_parts _ _ all).0
      | inr later ↦ passes_among p ws word (and_parts _ _ all).1 later
    ]

-- each sign has one mark or two
pub sign_shape : (word : List ℕ) → is_among signs word ≡ true → is_sign_shape word ≡ true
unfolding signs
sign_shape word among = passes_among is_sign_shape signs word refl among

-- a sign begins with a mark
pub sign_mark : (b : ℕ) (bs : List ℕ) → is_sign_shape (b ∷ bs) ≡ true → is_mark b ≡ true
sign_mark a [] h = h
sign_mark a (b ∷ []) h = (and_parts _ _ h).0
sign_mark a (b ∷ c ∷ bs) h = absurd (true≢false (sym h))

-- what has not the shape of a sign is none
no_sign : (word : List ℕ) → is_sign_shape word ≡ false → is_among signs word ≡ false
no_sign word shapeless = false_from_ne_true _ (λ among. both_ways _ shapeless (sign_shape word among))

-- a word that begins with what names go on with is no sign
named_no_sign : (b : ℕ) (bs : List ℕ) → is_name_byte b ≡ true → is_among signs (b ∷ bs) ≡ false
named_no_sign b bs named =
    false_from_ne_true _ (λ among. both_ways _
    (not-true _ (and_parts _ _ (sign_mark b bs (sign_shape (b ∷ bs) among))).0) named)

letter_is_named : (b : ℕ) → is_ascii_alphabetic b ≡ true → is_name_byte b ≡ true
letter_is_named b h = grind (arith, nat_tests)

digit_is_named : (b : ℕ) → is_ascii_digit b ≡ true → is_name_byte b ≡ true
digit_is_named b h = grind (arith, nat_tests)

letter_no_digit : (b : ℕ) → is_ascii_alphabetic b ≡ true → is_ascii_digit b ≡ false
letter_no_digit b h = grind (arith, nat_tests)

digit_no_letter : (b : ℕ) → is_ascii_digit b ≡ true → is_ascii_alphabetic b ≡ false
digit_no_letter b h = grind (arith, nat_tests)

-- the kind of a word by its first byte
pub letters_kind : (b : ℕ) (bs : List ℕ) → is_ascii_alphabetic b ≡ true → list_all is_name_byte bs ≡ true →
    kind_of (b ∷ bs) ≡ Some (cond (is_among keywords (b ∷ bs)) Keyword Name)
letters_kind b bs letter all = cond-true _ _ _ (and_from _ _ letter all)

letters_none : (b : ℕ) (bs : List ℕ) → is_ascii_alphabetic b ≡ true → list_all is_name_byte bs ≡ false →
    kind_of (b ∷ bs) ≡ None
letters_none b bs letter other =
    cond-false _ _ _ (and_right _ _ other) ∙ cond-false _ _ _ (and_left _ _ (letter_no_digit b letter)) ∙
    cond-false _ _ _ (named_no_sign b bs (letter_is_named b letter))

pub digits_kind : (b : ℕ) (bs : List ℕ) → is_ascii_digit b ≡ true → list_all is_ascii_digit bs ≡ true →
    kind_of (b ∷ bs) ≡ Some Number
digits_kind b bs digit all = cond-false _ _ _ (and_left _ _ (digit_no_letter b digit)) ∙
    cond-true _ _ _ (and_from _ _ digit all)

digits_none : (b : ℕ) (bs : List ℕ) → is_ascii_digit b ≡ true → list_all is_ascii_digit bs ≡ false →
    kind_of (b ∷ bs) ≡ None
digits_none b bs digit other =
    cond-false _ _ _ (and_left _ _ (digit_no_letter b digit)) ∙ cond-false _ _ _ (and_right _ _ other) ∙
    cond-false _ _ _ (named_no_sign b bs (digit_is_named b digit))

-- a byte that is no letter and no digit begins signs alone
pub other_kind : (b : ℕ) (bs : List ℕ) → is_ascii_alphabetic b ≡ false → is_ascii_digit b ≡ false →
    kind_of (b ∷ bs) ≡ cond (is_among signs (b ∷ bs)) (Some Sign) None
other_kind b bs no_letter no_digit = cond-false _ _ _ (and_left _ _ no_letter) ∙
    cond-false _ _ _ (and_left _ _ no_digit)

pub nothing_none : kind_of [] ≡ None
nothing_none = cond-false _ _ _ (no_sign [] refl)

module _ (p : ℕ → Bool) where
  one_more : (n : ℕ) → 1 + n ≡ suc n
  one_more n = omega arith

  pub take_run : (x : ℕ) (xs : List ℕ) → p x ≡ true → take (prefix_len p (x ∷ xs)) (x ∷ xs) ≡ x ∷ take
      (prefix_len p xs) xs
  take_run x xs good = ap (λ t. take (cond t (1 + prefix_len p xs) 0) (x ∷ xs)) good ∙
      ap (λ n. take n (x ∷ xs)) (one_more (prefix_len p xs))

  pub drop_run : (x : ℕ) (xs : List ℕ) → p x ≡ true → drop (prefix_len p (x ∷ xs)) (x ∷ xs) ≡ drop
      (prefix_len p xs) xs
  drop_run x xs good = ap (λ t. drop (cond t (1 + prefix_len p xs) 0) (x ∷ xs)) good ∙
      ap (λ n. drop n (x ∷ xs)) (one_more (prefix_len p xs))

  -- each byte of a run passes
  run_passes : (xs : List ℕ) → list_all p (take (prefix_len p xs) xs) ≡ true
  run_passes [] = refl
  run_passes (x ∷ xs) =
      elim (cases_Bool (p x)) [
        | inl good ↦ ap (list_all p) (take_run x xs good) ∙ and_from _ _ good (run_passes xs)
        | inr bad ↦ ap (λ t. list_all p (take (cond t (1 + prefix_len p xs) 0) (x ∷ xs))) bad
      ]

  -- the byte behind a run doesn't
  run_stops : (xs : List ℕ) (c : ℕ) (more : List ℕ) → drop (prefix_len p xs) xs ≡ c ∷ more → p c ≡ false
  run_stops [] c more e = cc
  run_stops (x ∷ xs) c more e =
      elim (cases_Bool (p x)) [
        | inl good ↦ run_stops xs c more (sym (drop_run x xs good) ∙ e)
        | inr bad ↦
            let whole : x ∷ xs ≡ c ∷ more =
            sym (ap (λ t. drop (cond t (1 + prefix_len p xs) 0) (x ∷ xs)) bad) ∙ e in
            let same : x ≡ c = cc in
            ap p (sym same) ∙ bad
      ]

  -- a run behind a first byte is as long as possible, where that byte begins nothing but such runs
  pub run_longest : (b : ℕ) (bs : List ℕ) →
      ((cs : List ℕ) → list_all p cs ≡ false → kind_of (b ∷ cs) ≡ None) →
      IsLongest (b ∷ take (prefix_len p bs) bs) (drop (prefix_len p bs) bs)
  run_longest b bs none c more after e =
      none (take (prefix_len p bs) bs ++ c ∷ more)
      (list_all-append p (take (prefix_len p bs) bs) (c ∷ more) ∙
      and_right _ _ (and_left _ _ (run_stops bs c (more ++ after) e)))

-- the longest sign at the front
two_longest : (a b : ℕ) (rest : List ℕ) → is_ascii_alphabetic a ≡ false → is_ascii_digit a ≡ false →
    IsLongest (a ∷ b ∷ []) rest
two_longest a b rest no_letter no_digit c more after e =
    other_kind a (b ∷ c ∷ more) no_letter no_digit ∙ cond-false _ _ _ (no_sign (a ∷ b ∷ c ∷ more) refl)

one_longest : (a b : ℕ) (rest : List ℕ) → is_ascii_alphabetic a ≡ false → is_ascii_digit a ≡ false →
    is_among signs (a ∷ b ∷ []) ≡ false →
    IsLongest (a ∷ []) (b ∷ rest)
one_longest a b rest no_letter no_digit no_two c [] after e =
    let same : b ≡ c = cc in
    other_kind a (c ∷ []) no_letter no_digit ∙ cond-false _ _ _
    (ap (λ x. is_among signs (a ∷ x ∷ [])) (sym same) ∙ no_two)
one_longest a b rest no_letter no_digit no_two c (d ∷ more) after e =
    two_longest a c (d ∷ more ++ after) no_letter no_digit d more after refl

last_longest : (word : List ℕ) → IsLongest word []
last_longest word c more after e = cc

-- a run of what names are made of, behind a letter, is the longest token at the front
pub letters_front : (text : List ℕ) (b len : ℕ) → slice_get text 0 ≡ Some b → is_ascii_alphabetic b ≡ true →
    len ≡ prefix_len is_name_byte text → IsFrontWord text
    (cond (is_among keywords (take len text)) Keyword Name) len
letters_front [] b len first letter e = cc
letters_front (x ∷ xs) b len first letter e =
    let same : b ≡ x = cc in
    let here = letter ∙ refl in
    let begins : is_ascii_alphabetic x ≡ true = ap is_ascii_alphabetic (sym same) ∙ letter in
    let named = letter_is_named x begins in
    let n = prefix_len is_name_byte xs in
    let word : take len (x ∷ xs) ≡ x ∷ take n xs = ap (λ k. take k (x ∷ xs)) e ∙
    take_run is_name_byte x xs named in
    let rest : drop len (x ∷ xs) ≡ drop n xs = ap (λ k. drop k (x ∷ xs)) e ∙
    drop_run is_name_byte x xs named in
    record {
      within = subst (λ k. k ≤ length (x ∷ xs)) (sym e) (prefix_len-le-length is_name_byte (x ∷ xs));
      kind_is = subst (λ w. kind_of w ≡ Some (cond (is_among keywords w) Keyword Name)) (sym word)
          (letters_kind x (take n xs) begins (run_passes is_name_byte xs));
      longest = subst (λ w. IsLongest w (drop len (x ∷ xs))) (sym word)
          (subst (IsLongest (x ∷ take n xs)) (sym rest)
          (run_longest is_name_byte x xs (λ cs. letters_none x cs begins)));
    }

-- a run of digits is the longest token at the front
pub digits_front : (text : List ℕ) (b len : ℕ) → slice_get text 0 ≡ Some b → is_ascii_digit b ≡ true →
    len ≡ prefix_len is_ascii_digit text → IsFrontWord text Number len
digits_front [] b len first digit e = cc
digits_front (x ∷ xs) b len first digit e =
    let same : b ≡ x = cc in
    let begins : is_ascii_digit x ≡ true = ap is_ascii_digit (sym same) ∙ digit in
    let n = prefix_len is_ascii_digit xs in
    let word : take len (x ∷ xs) ≡ x ∷ take n xs = ap (λ k. take k (x ∷ xs)) e ∙
    take_run is_ascii_digit x xs begins in
    let rest : drop len (x ∷ xs) ≡ drop n xs = ap (λ k. drop k (x ∷ xs)) e ∙
    drop_run is_ascii_digit x xs begins in
    record {
      within = subst (λ k. k ≤ length (x ∷ xs)) (sym e) (prefix_len-le-length is_ascii_digit (x ∷ xs));
      kind_is = subst (λ w. kind_of w ≡ Some Number) (sym word)
          (digits_kind x (take n xs) begins (run_passes is_ascii_digit xs));
      longest = subst (λ w. IsLongest w (drop len (x ∷ xs))) (sym word)
          (subst (IsLongest (x ∷ take n xs)) (sym rest)
          (run_longest is_ascii_digit x xs (λ cs. digits_none x cs begins)));
    }

-- the longest sign at the front is the longest token there
pub sign_front : (text : List ℕ) (b len : ℕ) → slice_get text 0 ≡ Some b →
    is_ascii_alphabetic b ≡ false → is_ascii_digit b ≡ false →
    sign_len text ≡ Some len → IsFrontWord text Sign len
sign_front [] b len first no_letter no_digit e = cc
sign_front (x ∷ []) b len first no_letter no_digit e =
    let same : b ≡ x = cc in
    let plain : is_ascii_alphabetic x ≡ false = ap is_ascii_alphabetic (sym same) ∙ no_letter in
    let bare : is_ascii_digit x ≡ false = ap is_ascii_digit (sym same) ∙ no_digit in
    go (is_among signs (x ∷ [])) refl plain bare e
  where
    go : (t : Bool) → is_among signs (x ∷ []) ≡ t → is_ascii_alphabetic x ≡ false →
        is_ascii_digit x ≡ false →
        cond t (Some 1) None ≡ Some len → IsFrontWord (x ∷ []) Sign len
    go false h plain bare e = cc
    go true h plain bare e =
        let one : 1 ≡ len = cc in
        subst (IsFrontWord (x ∷ []) Sign) one (record {
          within = omega arith;
          kind_is = other_kind x [] plain bare ∙ cond-true _ _ _ h;
          longest = last_longest (x ∷ []);
        })
sign_front (x ∷ y ∷ rest) b len first no_letter no_digit e =
    let same : b ≡ x = cc in
    let plain : is_ascii_alphabetic x ≡ false = ap is_ascii_alphabetic (sym same) ∙ no_letter in
    let bare : is_ascii_digit x ≡ false = ap is_ascii_digit (sym same) ∙ no_digit in
    go (is_among signs (x ∷ y ∷ [])) (is_among signs (x ∷ [])) refl refl plain bare e
  where
    go : (t u : Bool) → is_among signs (x ∷ y ∷ []) ≡ t → is_among signs (x ∷ []) ≡ u →
        is_ascii_alphabetic x ≡ false → is_ascii_digit x ≡ false →
        cond t (Some 2) (cond u (Some 1) None) ≡ Some len → IsFrontWord (x ∷ y ∷ rest) Sign len
    go true u h k plain bare e =
        let two : 2 ≡ len = cc in
        subst (IsFrontWord (x ∷ y ∷ rest) Sign) two (record {
          within = omega arith;
          kind_is = other_kind x (y ∷ []) plain bare ∙ cond-true _ _ _ h;
          longest = two_longest x y rest plain bare;
        })
    go false true h k plain bare e =
        let one : 1 ≡ len = cc in
        subst (IsFrontWord (x ∷ y ∷ rest) Sign) one (record {
          within = omega arith;
          kind_is = other_kind x [] plain bare ∙ cond-true _ _ _ k;
          longest = one_longest x y rest plain bare h;
        })
    go false false h k plain bare e = cc

-- a byte that begins no sign, and is no letter and no digit, begins no token
none_from_signs : (x : ℕ) (xs : List ℕ) → is_ascii_alphabetic x ≡ false → is_ascii_digit x ≡ false →
    ((word rest : List ℕ) → xs ≡ word ++ rest → is_among signs (x ∷ word) ≡ false) → BeginsNoToken (x ∷ xs)
none_from_signs x xs plain bare none [] rest spelled = nothing_none
none_from_signs x xs plain bare none (a ∷ word) rest spelled =
    let same : x ≡ a = cc in
    let tail : xs ≡ word ++ rest = cc in
    subst (λ b. kind_of (b ∷ word) ≡ None) same (other_kind x word plain bare ∙
    cond-false _ _ _ (none word rest tail))

-- without a sign of one byte or two, none stands at the front
no_sign_behind : (x : ℕ) (xs : List ℕ) → sign_len (x ∷ xs) ≡ None → (word rest : List ℕ) →
    xs ≡ word ++ rest → is_among signs (x ∷ word) ≡ false
no_sign_behind x [] e [] rest spelled = go (is_among signs (x ∷ [])) refl e
  where
    go : (t : Bool) → is_among signs (x ∷ []) ≡ t → cond {A = Option ℕ} t (Some 1) None ≡ None →
        is_among signs (x ∷ []) ≡ false
    go false h e = h
    go true h e = cc
no_sign_behind x [] e (c ∷ word) rest spelled = cc
no_sign_behind x (y ∷ more) e word rest spelled = go (is_among signs (x ∷ y ∷ []))
    (is_among signs (x ∷ [])) refl refl e word spelled
  where
    go : (t u : Bool) → is_among signs (x ∷ y ∷ []) ≡ t → is_among signs (x ∷ []) ≡ u →
        cond {A = Option ℕ} t (Some 2) (cond u (Some 1) None) ≡ None → (word : List ℕ) →
        y ∷ more ≡ word ++ rest → is_among signs (x ∷ word) ≡ false
    go true u h k e word spelled = cc
    go false true h k e word spelled = cc
    go false false h k e [] spelled = k
    go false false h k e (c ∷ []) spelled =
        let same : y ≡ c = cc in
        subst (λ b. is_among signs (x ∷ b ∷ []) ≡ false) same h
    go false false h k e (c ∷ d ∷ word) spelled = no_sign (x ∷ c ∷ d ∷ word) refl

-- where no sign stands at the front, and no letter or digit, no token does
pub none_front : (text : List ℕ) (b : ℕ) → slice_get text 0 ≡ Some b → is_ascii_alphabetic b ≡ false →
    is_ascii_digit b ≡ false →
    sign_len text ≡ None → BeginsNoToken text
none_front [] b first no_letter no_digit e = cc
none_front (x ∷ xs) b first no_letter no_digit e =
    let same : b ≡ x = cc in
    none_from_signs x xs (ap is_ascii_alphabetic (sym same) ∙ no_letter)
    (ap is_ascii_digit (sym same) ∙ no_digit) (no_sign_behind x xs e)

-- nothing begins no token
pub none_empty : (text : List ℕ) → slice_get text 0 ≡ None → BeginsNoToken text
none_empty (x ∷ xs) first word rest spelled = cc
none_empty [] first [] rest spelled = nothing_none
none_empty [] first (a ∷ word) rest spelled = cc

-- a word of letters, digits and `_`
pub record IsLetters (b : ℕ) (bs : List ℕ) (kind : TokenKind) : Type 0 where
  pub letter : is_ascii_alphabetic b ≡ true
  pub all : list_all is_name_byte bs ≡ true
  pub kind_is : kind ≡ cond (is_among keywords (b ∷ bs)) Keyword Name

-- a word of digits
pub record IsDigits (b : ℕ) (bs : List ℕ) (kind : TokenKind) : Type 0 where
  pub digit : is_ascii_digit b ≡ true
  pub all : list_all is_ascii_digit bs ≡ true
  pub kind_is : kind ≡ Number

-- a word of marks
pub record IsMarks (b : ℕ) (bs : List ℕ) (kind : TokenKind) : Type 0 where
  pub shape : is_sign_shape (b ∷ bs) ≡ true
  pub kind_is : kind ≡ Sign

-- a token is a word of letters, of digits or of marks
pub word_shape : (b : ℕ) (bs : List ℕ) (kind : TokenKind) → kind_of (b ∷ bs) ≡ Some kind →
    IsLetters b bs kind ⊎ (IsDigits b bs kind ⊎ IsMarks b bs kind)
word_shape b bs kind e =
    elim (cases_Bool (is_ascii_alphabetic b)) [
      | inl letter ↦
          elim (cases_Bool (list_all is_name_byte bs)) [
            | inl all ↦
                let h : Some kind ≡ Some (cond (is_among keywords (b ∷ bs)) Keyword Name) = sym e ∙
                letters_kind b bs letter all in
                inl (record { letter = letter; all = all; kind_is = cc })
            | inr other ↦ let h : Some kind ≡ None = sym e ∙ letters_none b bs letter other in cc
          ]
      | inr plain ↦
          elim (cases_Bool (is_ascii_digit b)) [
            | inl digit ↦
                elim (cases_Bool (list_all is_ascii_digit bs)) [
                  | inl all ↦
                      let h : Some kind ≡ Some Number = sym e ∙ digits_kind b bs digit all in
                      inr (inl (record { digit = digit; all = all; kind_is = cc }))
                  | inr other ↦ let h : Some kind ≡ None = sym e ∙ digits_none b bs digit other in cc
                ]
            | inr bare ↦
                elim (cases_Bool (is_among signs (b ∷ bs))) [
                  | inl among ↦
                      let h : Some kind ≡ Some Sign = sym e ∙ other_kind b bs plain bare ∙
                      cond-true _ _ _ among in
                      inr (inr (record { shape = sign_shape (b ∷ bs) among; kind_is = cc }))
                  | inr absent ↦ let h : Some kind ≡ None = sym e ∙ other_kind b bs plain bare ∙
                      cond-false _ _ _ absent in cc
                ]
          ]
    ]

name_no_number : (t : Bool) → cond t Keyword Name ≢ Number
name_no_number true e = cc
name_no_number false e = cc

-- a number is a row of digits
pub number_digits : (word : List ℕ) → kind_of word ≡ Some Number → AllPass is_ascii_digit word
number_digits [] e = let h : None ≡ Some Number = sym nothing_none ∙ e in cc
number_digits (b ∷ bs) e =
    elim (word_shape b bs Number e) [
      | inl letters ↦ absurd (name_no_number _ (sym letters.kind_is))
      | inr (inl digits) ↦ AllPass-from_list_all is_ascii_digit (b ∷ bs)
          (and_from _ _ digits.digit digits.all)
      | inr (inr marks) ↦ let h : Number ≡ Sign = marks.kind_is in cc
    ]

-- the longest front whose items all pass is everything where all items pass
pub all_in_front : {A : Type 0} (p : A → Bool) (xs : List A) → (prefix_len p xs == length xs) ≡ list_all p xs
all_in_front p [] = refl
all_in_front p (x ∷ xs) = first (p x) (all_in_front p xs)
  where
    first : (b : Bool) → (prefix_len p xs == length xs) ≡ list_all p xs →
        (cond b (1 + prefix_len p xs) 0 == suc (length xs)) ≡ (b && list_all p xs)
    first true same = grind (same, arith, nat_tests)
    first false same = grind (arith, nat_tests)
