-- Which token comes next, and that it is one.
use Rattle.std.proofs.Common.{◌≡◌, ℕ, ◌+◌, Bool, true, false, cond, not, ◌&&◌, ◌⊎◌, List, [], ◌∷◌, ◌++◌}
use Rattle.std.proofs.Common.{length, refl, sym, ap, ◌∙◌, subst, inl, inr, append-nil, arith, eqb, leb}
use Rattle.std.proofs.Common.{Some, None}
use Rattle.std.specs.Prelude.{count_by}
use Rattle.std.specs.List.{list_all}
use Rattle.std.specs.Char.{is_ascii_alphabetic, is_ascii_digit}
use Rattle.std.proofs.lemmas.Bool.{and_parts, true≢false, not-true, ne_eqb}
use Rattle.std.proofs.lemmas.Bool.Decides.{nat_tests}
use Rattle.std.proofs.lemmas.List.{append_cancel_right, append_cancel_left}
use Rattle.std.proofs.lemmas.List.Sums.{sum_by-cons}
use Rattle.seuss_text.specs.Bytes.{line_feed, is_white, is_name_byte}
use Rattle.seuss_text.specs.Gaps.{IsGap, IsLastGap}
use Rattle.seuss_text.specs.Words.{kind_of, IsLongest}
use Rattle.seuss_text.specs.Rows.{line_after, Stands}
use Rattle.seuss_text.specs.Refusals.{HasBadByte}
use Rattle.seuss_text.specs.Reading.{after_gap}
use Rattle.seuss_text.specs.declared.token.Token.{Token}
use Rattle.seuss_text.specs.declared.token.TokenKind.{TokenKind}
use Rattle.seuss_text.proofs.GapLemmas.{IsSolid, gap_skips, solid_stays, last_gap_ends}
use Rattle.seuss_text.proofs.WordLemmas.{is_mark, is_sign_shape, sign_mark, word_shape, nothing_none}

letter_solid : (b : ℕ) → is_ascii_alphabetic b ≡ true → IsSolid b
letter_solid b h = record { not_white = grind (arith, nat_tests); no_comment = grind (arith, nat_tests) }

digit_solid : (b : ℕ) → is_ascii_digit b ≡ true → IsSolid b
digit_solid b h = record { not_white = grind (arith, nat_tests); no_comment = grind (arith, nat_tests) }

mark_solid : (b : ℕ) → is_mark b ≡ true → IsSolid b
mark_solid b h = record {
  not_white = not-true _ (and_parts _ _ (and_parts _ _ h).1).0;
  no_comment = λ e. true≢false (sym (and_parts _ _ (and_parts _ _ h).1).1 ∙
      ap (λ x. not (leb x 35 && leb 35 x)) e);
}

-- a token begins with a byte that begins no part of a gap
pub word_begins : (word : List ℕ) (kind : TokenKind) → kind_of word ≡ Some kind → (b : ℕ) ×
    (bs : List ℕ) × (word ≡ b ∷ bs) × IsSolid b
word_begins [] kind e = let h : None ≡ Some kind = sym nothing_none ∙ e in cc
word_begins (b ∷ bs) kind e = (
  b,
  bs,
  refl,
  elim (word_shape b bs kind e) [
    | inl letters ↦ letter_solid b letters.letter
    | inr (inl digits) ↦ digit_solid b digits.digit
    | inr (inr marks) ↦ mark_solid b (sign_mark b bs marks.shape)
  ],
)

-- the number of line feeds
abbrev pub feeds : List ℕ → ℕ
feeds bytes = count_by (λ b. eqb b line_feed) bytes

-- one more byte that is no line feed
no_feed_more : (b : ℕ) (bs : List ℕ) → eqb b line_feed ≡ false → feeds bs ≡ 0 → feeds (b ∷ bs) ≡ 0
no_feed_more b bs e h = sum_by-cons (λ x. cond (eqb x line_feed) 1 0) b bs ∙ (λ i. cond (e i) 1 0 + h i)

-- bytes that pass a test that no line feed passes have none
no_feeds : (p : ℕ → Bool) → ((b : ℕ) → p b ≡ true → eqb b line_feed ≡ false) → (bs : List ℕ) →
    list_all p bs ≡ true → feeds bs ≡ 0
no_feeds p none [] all = refl
no_feeds p none (b ∷ bs) all = no_feed_more b bs (none b (and_parts _ _ all).0)
    (no_feeds p none bs (and_parts _ _ all).1)

letter_no_feed : (b : ℕ) → is_ascii_alphabetic b ≡ true → eqb b line_feed ≡ false
letter_no_feed b h = grind (arith, nat_tests)

digit_no_feed : (b : ℕ) → is_ascii_digit b ≡ true → eqb b line_feed ≡ false
digit_no_feed b h = grind (arith, nat_tests)

named_no_feed : (b : ℕ) → is_name_byte b ≡ true → eqb b line_feed ≡ false
named_no_feed b h = grind (arith, nat_tests)

mark_no_feed : (b : ℕ) → is_mark b ≡ true → eqb b line_feed ≡ false
mark_no_feed b h = ne_eqb b line_feed (λ e. true≢false (ap is_white (sym e) ∙ (mark_solid b h).not_white))

marks_no_feed : (word : List ℕ) → is_sign_shape word ≡ true → feeds word ≡ 0
marks_no_feed [] h = refl
marks_no_feed (a ∷ []) h = no_feed_more a [] (mark_no_feed a h) refl
marks_no_feed (a ∷ b ∷ []) h =
    no_feed_more a (b ∷ []) (mark_no_feed a (and_parts _ _ h).0)
    (no_feed_more b [] (mark_no_feed b (and_parts _ _ h).1) refl)
marks_no_feed (a ∷ b ∷ c ∷ bs) h = absurd (true≢false (sym h))

-- a token has no line feed
pub word_no_feed : (word : List ℕ) (kind : TokenKind) → kind_of word ≡ Some kind → feeds word ≡ 0
word_no_feed [] kind e = refl
word_no_feed (b ∷ bs) kind e =
    elim (word_shape b bs kind e) [
      | inl letters ↦ no_feed_more b bs (letter_no_feed b letters.letter)
          (no_feeds is_name_byte named_no_feed bs letters.all)
      | inr (inl digits) ↦ no_feed_more b bs (digit_no_feed b digits.digit)
          (no_feeds is_ascii_digit digit_no_feed bs digits.all)
      | inr (inr marks) ↦ marks_no_feed (b ∷ bs) marks.shape
    ]

-- behind its gap stands a token
pub skip_to : (text gap word rest : List ℕ) (kind : TokenKind) → text ≡ gap ++ (word ++ rest) →
    IsGap gap → kind_of word ≡ Some kind →
    after_gap text false ≡ word ++ rest
skip_to text gap word rest kind e is_gap k =
    let w = word_begins word kind k in
    let stays : after_gap (word ++ rest) false ≡ word ++ rest =
    subst (λ v. after_gap (v ++ rest) false ≡ v ++ rest) (sym w.2) (solid_stays w.0 (w.1 ++ rest) w.3) in
    ap (λ t. after_gap t false) e ∙ gap_skips (word ++ rest) is_gap ∙ stays

-- two ways to cut a list in two
fork : (a b c d : List ℕ) → a ++ b ≡ c ++ d →
    ((m : List ℕ) × (c ≡ a ++ m) × (b ≡ m ++ d)) ⊎ ((m : List ℕ) × (a ≡ c ++ m) × (d ≡ m ++ b))
fork [] b c d e = inl (c, refl, e)
fork (x ∷ a) b [] d e = inr (x ∷ a, refl, sym e)
fork (x ∷ a) b (y ∷ c) d e =
    let same : x ≡ y = cc in
    let tail : a ++ b ≡ c ++ d = cc in
    elim (fork a b c d tail) [
      | inl (m, f, g) ↦ inl (m, (λ i. sym same i ∷ f i), g)
      | inr (m, f, g) ↦ inr (m, (λ i. same i ∷ f i), g)
    ]

-- a longest token is no shorter than another
no_longer : (a m d : List ℕ) (kind : TokenKind) → IsLongest a (m ++ d) → kind_of (a ++ m) ≡ Some kind →
    m ≡ []
no_longer a [] d kind longest k = refl
no_longer a (x ∷ m) d kind longest k = let h : None ≡ Some kind = sym (longest x m d refl) ∙ k in cc

-- there is one longest token
longest_same : (a b c d : List ℕ) (k l : TokenKind) → a ++ b ≡ c ++ d → kind_of a ≡ Some k →
    kind_of c ≡ Some l → IsLongest a b → IsLongest c d → a ≡ c
longest_same a b c d k l e ka kc la lc =
    elim (fork a b c d e) [
      | inl (m, f, g) ↦
          let none : m ≡ [] = no_longer a m d l (subst (IsLongest a) g la) (ap kind_of (sym f) ∙ kc) in
          sym (f ∙ ap (λ x. a ++ x) none ∙ append-nil a)
      | inr (m, f, g) ↦
          let none : m ≡ [] = no_longer c m b k (subst (IsLongest c) g lc) (ap kind_of (sym f) ∙ ka) in
          f ∙ ap (λ x. c ++ x) none ∙ append-nil c
    ]

-- two tokens that come next are one
pub record AreSame (gap word rest gap' word' rest' : List ℕ) (token token' : Token) : Type 0 where
  pub gaps : gap ≡ gap'
  pub words : word ≡ word'
  pub rests : rest ≡ rest'
  pub tokens : token ≡ token'

pub next_same : (before text gap word rest gap' word' rest' : List ℕ) (token token' : Token) →
    text ≡ gap ++ (word ++ rest) → Stands before gap word rest token →
    text ≡ gap' ++ (word' ++ rest') → Stands before gap' word' rest' token' →
    AreSame gap word rest gap' word' rest' token token'
next_same before text gap word rest gap' word' rest' token token' e s e' s' =
    let left : word ++ rest ≡ word' ++ rest' =
    sym (skip_to text gap word rest token.kind e s.is_gap s.kind) ∙
    skip_to text gap' word' rest' token'.kind e' s'.is_gap s'.kind in
    let words : word ≡ word' =
    longest_same word rest word' rest' token.kind token'.kind left s.kind s'.kind s.longest s'.longest in
    let rests : rest ≡ rest' = append_cancel_left word rest rest'
    (left ∙ ap (λ w. w ++ rest') (sym words)) in
    let gaps : gap ≡ gap' = append_cancel_right gap gap' (word ++ rest)
    (sym e ∙ e' ∙ ap (λ w. gap' ++ w) (sym left)) in
    let kinds : Some token.kind ≡ Some token'.kind = sym s.kind ∙ ap kind_of words ∙ s'.kind in
    let kind : token.kind ≡ token'.kind = cc in
    let start : token.start ≡ token'.start = s.start ∙ ap (λ g. length (before ++ g)) gaps ∙ sym s'.start in
    let stop : token.stop ≡ token'.stop = s.stop ∙ (λ i. start i + length (words i)) ∙ sym s'.stop in
    let line : token.line ≡ token'.line = s.line ∙ ap (λ g. line_after (before ++ g)) gaps ∙ sym s'.line in
    record {
      gaps = gaps;
      words = words;
      rests = rests;
      tokens =
          λ i. record { kind = kind i; start = start i; stop = stop i; line = line i };
    }

-- no token comes next
unfoldable pub Stops : List ℕ → List ℕ → Type 0
Stops passed text = (gap word rest : List ℕ) (token : Token) → text ≡ gap ++ (word ++ rest) →
    Stands passed gap word rest token → ⊥

pub last_stops : (passed text : List ℕ) → IsLastGap text → Stops passed text
unfolding Stops
last_stops passed text last gap word rest token e s =
    let w = word_begins word token.kind s.kind in
    let h : [] ≡ w.0 ∷ w.1 ++ rest = sym (last_gap_ends text last) ∙
    skip_to text gap word rest token.kind e s.is_gap s.kind ∙ ap (λ v. v ++ rest) w.2 in
    cc

-- behind its gap stands a bad byte
pub skip_to_bad : (passed text : List ℕ) (line : ℕ) (bad : HasBadByte passed text line) →
    after_gap text false ≡ bad.byte ∷ bad.after
skip_to_bad passed text line bad =
    ap (λ t. after_gap t false) bad.spelled ∙ gap_skips (bad.byte ∷ bad.after) bad.is_gap ∙
    solid_stays bad.byte bad.after (record { not_white = bad.not_white; no_comment = bad.no_comment })

pub bad_stops : (passed text : List ℕ) (line : ℕ) → HasBadByte passed text line → Stops passed text
unfolding Stops
bad_stops passed text line bad gap word rest token e s =
    let h : bad.byte ∷ bad.after ≡ word ++ rest = sym (skip_to_bad passed text line bad) ∙
    skip_to text gap word rest token.kind e s.is_gap s.kind in
    let k : None ≡ Some token.kind = sym (bad.none word rest h) ∙ s.kind in
    cc

-- a bad byte stands on one line, and behind the last gap none stands
pub bad_same : (passed text : List ℕ) (m n : ℕ) → HasBadByte passed text m → HasBadByte passed text n → m ≡ n
bad_same passed text m n a b =
    let left : a.byte ∷ a.after ≡ b.byte ∷ b.after = sym (skip_to_bad passed text m a) ∙
    skip_to_bad passed text n b in
    let gaps : a.gap ≡ b.gap = append_cancel_right a.gap b.gap (a.byte ∷ a.after)
    (sym a.spelled ∙ b.spelled ∙ ap (λ w. b.gap ++ w) (sym left)) in
    a.line_is ∙ ap (λ g. line_after (passed ++ g)) gaps ∙ sym b.line_is

pub last_no_bad : (passed text : List ℕ) (n : ℕ) → IsLastGap text → HasBadByte passed text n → ⊥
last_no_bad passed text n last bad =
    let h : [] ≡ bad.byte ∷ bad.after = sym (last_gap_ends text last) ∙ skip_to_bad passed text n bad in
    cc
