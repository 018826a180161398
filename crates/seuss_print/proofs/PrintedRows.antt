-- The tokens of a printed text are those that were printed.
use Rattle.std.proofs.Common.{◌≡◌, ℕ, ◌+◌, ◌-◌, List, [], ◌∷◌, ◌++◌, length, take, drop, ap, subst, sym}
use Rattle.std.proofs.Common.{refl, ◌∙◌, arith, append_assoc, append-nil, inl}
use Rattle.std.specs.List.{AllByRecursion, slice_range}
use Rattle.std.specs.Prelude.{IsTrue}
use Rattle.seuss_text.specs.Bytes.{is_white}
use Rattle.seuss_text.specs.Gaps.{IsGap, nothing, white}
use Rattle.seuss_text.specs.Words.{IsLongest}
use Rattle.seuss_text.specs.Rows as R
use Rattle.seuss_text.specs.Rows.{Stands, Row, AreTokens, line_after}
use Rattle.seuss_text.specs.Limits.{IsInLimit, IsTokenInLimit}
use Rattle.seuss_text.specs.declared.token.Token.{Token as TextToken}
use Rattle.seuss_parser.specs.Words.{words_of, sort_of}
use Rattle.seuss_print.specs.Items.{Item, Token, Space, LineFeed, token_text, text_of, tokens_in}
use Rattle.seuss_print.specs.Printable.{IsWithinLimit}
use Rattle.seuss_print.proofs.Lists.{all_append}
use Rattle.seuss_print.proofs.Makes.{sorts_of}
use Rattle.seuss_print.proofs.TokenEnds.{tells}
use Rattle.seuss_print.proofs.Apart.{Apart}

abbrev AreWhite : List ℕ → Type 0
AreWhite bytes = AllByRecursion (λ b. IsTrue (is_white b)) bytes

gap-from : (bytes : List ℕ) → AreWhite bytes → IsGap bytes
gap-from [] all = nothing
gap-from (b ∷ bytes) all = white all.0 (gap-from bytes all.1)

drop-front : (front xs : List ℕ) → drop (length front) (front ++ xs) ≡ xs
drop-front [] xs = refl
drop-front (x ∷ front) xs = drop-front front xs

take-front : (word back : List ℕ) → take (length word) (word ++ back) ≡ word
take-front [] back = refl
take-front (x ∷ word) back = ap (λ (bytes : List ℕ). x ∷ bytes) (take-front word back)

plus-minus : (m n : ℕ) → m + n - m ≡ n
plus-minus m n = omega arith

-- a slice behind other bytes
slice-behind : (front word back : List ℕ) → slice_range (front ++ (word ++ back)) (length front)
    (length front + length word) ≡ word
slice-behind front word back =
    ap (λ n. take n (drop (length front) (front ++ (word ++ back))))
    (plus-minus (length front) (length word))
    ∙ (ap (λ (bytes : List ℕ). take (length word) bytes) (drop-front front (word ++ back))
    ∙ take-front word back)

-- the tokens of the items that are left, behind these bytes and a gap
record Rows (items : List Item) (before gap text : List ℕ) : Type 0 where
  tokens : List TextToken
  passed : List ℕ
  rest : List ℕ
  row : Row tokens before (gap ++ text_of items) passed rest
  is_gap : IsGap rest
  sorts : sorts_of (words_of text tokens) ≡ tokens_in items
  limits : AllByRecursion (λ token. IsTokenInLimit text token) tokens

rows : (items : List Item) (before gap text : List ℕ) → AreWhite gap → Apart items [] →
    AllByRecursion IsWithinLimit (tokens_in items) →
    text ≡ before ++ (gap ++ text_of items) → Rows items before gap text
rows [] before gap text white_ apart good whole = record {
  tokens = [];
  passed = before;
  rest = gap ++ [];
  row = (refl, refl);
  is_gap = subst IsGap (sym (append-nil gap)) (gap-from gap white_);
  sorts = refl;
  limits = tt;
}
rows (Token sort ∷ items) before gap text white_ apart good whole =
    let word : List ℕ = token_text sort in
    let t = tells sort apart.0 good.0 in
    let token : TextToken = record {
      kind = t.kind;
      start = length (before ++ gap);
      stop = length (before ++ gap) + length word;
      line = line_after (before ++ gap);
    } in
    let next = rows items (before ++ (gap ++ word)) [] text tt apart.2 good.1
    (whole ∙ (ap (λ (bytes : List ℕ). before ++ bytes) (sym (append_assoc gap word (text_of items)))
    ∙ sym (append_assoc before (gap ++ word) (text_of items)))) in
    let here : R.token_text text token ≡ word =
    ap (λ (bytes : List ℕ). slice_range bytes token.start token.stop)
    (whole ∙ sym (append_assoc before gap (word ++ text_of items)))
    ∙ slice-behind (before ++ gap) word (text_of items) in
    record {
      tokens = token ∷ next.tokens;
      passed = next.passed;
      rest = next.rest;
      row = (
        gap,
        word,
        text_of items,
        refl,
        record {
          is_gap = gap-from gap white_;
          kind = t.is;
          longest = subst (IsLongest word) (append-nil (text_of items)) apart.1;
          start = refl;
          stop = refl;
          line = refl;
        },
        next.row,
      );
      is_gap = next.is_gap;
      sorts = ap (λ s. s ∷ sorts_of (words_of text next.tokens))
          (ap (λ (bytes : List ℕ). sort_of t.kind bytes) here ∙ t.sort_is)
          ∙ ap (λ ss. sort ∷ ss) next.sorts;
      limits = (subst (IsInLimit t.kind) (sym here) t.limit, next.limits);
    }
rows (Space ∷ items) before gap text white_ apart good whole =
    let next = rows items before (gap ++ 32 ∷ []) text
    (all_append (λ b. IsTrue (is_white b)) gap (32 ∷ []) white_ (refl, tt)) apart good
    (whole ∙ ap (λ (bytes : List ℕ). before ++ bytes) (sym (append_assoc gap (32 ∷ []) (text_of items)))) in
    record {
      tokens = next.tokens;
      passed = next.passed;
      rest = next.rest;
      row = subst (λ (bytes : List ℕ). Row next.tokens before bytes next.passed next.rest)
          (append_assoc gap (32 ∷ []) (text_of items)) next.row;
      is_gap = next.is_gap;
      sorts = next.sorts;
      limits = next.limits;
    }
rows (LineFeed ∷ items) before gap text white_ apart good whole =
    let next = rows items before (gap ++ 10 ∷ []) text
    (all_append (λ b. IsTrue (is_white b)) gap (10 ∷ []) white_ (refl, tt)) apart good
    (whole ∙ ap (λ (bytes : List ℕ). before ++ bytes) (sym (append_assoc gap (10 ∷ []) (text_of items)))) in
    record {
      tokens = next.tokens;
      passed = next.passed;
      rest = next.rest;
      row = subst (λ (bytes : List ℕ). Row next.tokens before bytes next.passed next.rest)
          (append_assoc gap (10 ∷ []) (text_of items)) next.row;
      is_gap = next.is_gap;
      sorts = next.sorts;
      limits = next.limits;
    }

-- the tokens of a printed text
pub record Printed (items : List Item) : Type 0 where
  pub tokens : List TextToken
  pub are : AreTokens (text_of items) tokens
  pub sorts : sorts_of (words_of (text_of items) tokens) ≡ tokens_in items
  pub limits : AllByRecursion (λ token. IsTokenInLimit (text_of items) token) tokens

pub printed-tokens : (items : List Item) → Apart items [] → AllByRecursion IsWithinLimit (tokens_in items) →
    Printed items
printed-tokens items apart good =
    let all = rows items [] [] (text_of items) tt apart good refl in
    record {
      tokens = all.tokens;
      are = (all.passed, all.rest, all.row, inl all.is_gap);
      sorts = all.sorts;
      limits = all.limits;
    }
