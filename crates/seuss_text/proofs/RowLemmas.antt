-- Rows of tokens: what they pass, and that a text has one reading.
use Rattle.std.proofs.Common.{◌≡◌, ℕ, zero, suc, ◌-◌, ◌<◌, ◌≤◌, ◌⊎◌, List, [], ◌∷◌, ◌++◌, length, take}
use Rattle.std.proofs.Common.{get_or, refl, sym, ap, ◌∙◌, subst, inl, inr, append_assoc, append-nil}
use Rattle.std.proofs.Common.{length-append, arith, Some}
use Rattle.std.specs.Prelude.{All}
use Rattle.std.proofs.lemmas.List.{get_or_at, get_or_append_left, same_from_push, take_at, drop_at}
use Rattle.std.proofs.lemmas.List.Elements.{All-cons}
use Rattle.seuss_text.specs.Words.{kind_of}
use Rattle.seuss_text.specs.Limits.{IsTokenInLimit, AreInLimits}
use Rattle.seuss_text.specs.Rows.{Stands, Row, AreTokens, token_text, RiseFrom}
use Rattle.seuss_text.specs.Refusals.{HasBadByte, BadByteAt, RangeAt}
use Rattle.seuss_text.specs.declared.token.Token.{Token}
use Rattle.seuss_text.proofs.NextLemmas.{word_begins, next_same, Stops, last_stops, bad_stops, bad_same}
use Rattle.seuss_text.proofs.NextLemmas.{last_no_bad}

-- what a row passes stands at the front of the text
pub row_whole : (tokens : List Token) (before text passed rest : List ℕ) →
    Row tokens before text passed rest → before ++ text ≡ passed ++ rest
row_whole [] before text passed rest row = λ i. sym row.0 i ++ sym row.1 i
row_whole (token ∷ tokens) before text passed rest (gap, word, after, e, s, row) =
    ap (λ t. before ++ t) (e ∙ sym (append_assoc gap word after)) ∙
    sym (append_assoc before (gap ++ word) after) ∙
    row_whole tokens (before ++ (gap ++ word)) after passed rest row

-- a row goes on with the token that comes next
pub row_push : (tokens : List Token) (before text passed rest gap word after : List ℕ) (token : Token) →
    Row tokens before text passed rest →
    rest ≡ gap ++ (word ++ after) → Stands passed gap word after token →
    Row (tokens ++ token ∷ []) before text (passed ++ (gap ++ word)) after
row_push [] before text passed rest gap word after token row e s = (
  gap,
  word,
  after,
  sym row.1 ∙ e,
  subst (λ p. Stands p gap word after token) row.0 s,
  (ap (λ p. p ++ (gap ++ word)) row.0, refl),
)
row_push (t ∷ tokens) before text passed rest gap word after token (g, w, a, f, r, row) e s =
    (g, w, a, f, r, row_push tokens (before ++ (g ++ w)) a passed rest gap word after token row e s)

-- the second row is the first one and goes on behind it
GoesOn : List Token → List ℕ → List ℕ → List Token → List ℕ → List ℕ → Type 0
GoesOn xs p r ys q s = (zs : List Token) × (ys ≡ xs ++ zs) × Row zs p r q s

-- of two rows at the front of one text, one goes on behind the other
one_ahead : (xs ys : List Token) (before text p r q s : List ℕ) → Row xs before text p r →
    Row ys before text q s →
    GoesOn xs p r ys q s ⊎ GoesOn ys q s xs p r
unfolding GoesOn
one_ahead [] ys before text p r q s left right =
    inl (
      ys,
      refl,
      subst (λ t. Row ys p t q s) (sym left.1)
          (subst (λ b. Row ys b text q s) (sym left.0) right),
    )
one_ahead (x ∷ xs) [] before text p r q s left right =
    inr (
      x ∷ xs,
      refl,
      subst (λ t. Row (x ∷ xs) q t p r) (sym right.1)
          (subst (λ b. Row (x ∷ xs) b text p r) (sym right.0) left),
    )
one_ahead (x ∷ xs) (y ∷ ys) before text p r q s (gap, word, after, e, st, left)
    (gap', word', after', e', st', right) =
    let same = next_same before text gap word after gap' word' after' x y e st e' st' in
    let place : before ++ (gap' ++ word') ≡ before ++ (gap ++ word) =
    λ i. before ++ (sym same.gaps i ++ sym same.words i) in
    let moved : Row ys (before ++ (gap ++ word)) after q s =
    subst (λ t. Row ys (before ++ (gap ++ word)) t q s) (sym same.rests)
    (subst (λ b. Row ys b after' q s) place right) in
    elim (one_ahead xs ys (before ++ (gap ++ word)) after p r q s left moved) [
      | inl (zs, f, row) ↦ inl (zs, (λ i. sym same.tokens i ∷ f i), row)
      | inr (zs, f, row) ↦ inr (zs, (λ i. same.tokens i ∷ f i), row)
    ]

-- where no token comes next, a row doesn't go on
stops_here : (zs : List Token) (p r q s : List ℕ) → Stops p r → Row zs p r q s → (zs ≡ []) × (q ≡ p) ×
    (s ≡ r)
unfolding Stops
stops_here [] p r q s stop row = (refl, row.0, row.1)
stops_here (z ∷ zs) p r q s stop (gap, word, after, e, st, row) = absurd (stop gap word after z e st)

-- two rows behind which no token comes next are one
pub rows_same : (xs ys : List Token) (before text p r q s : List ℕ) → Row xs before text p r →
    Stops p r → Row ys before text q s → Stops q s →
    (xs ≡ ys) × (p ≡ q) × (r ≡ s)
unfolding GoesOn
rows_same xs ys before text p r q s left stop right stop' =
    elim (one_ahead xs ys before text p r q s left right) [
      | inl (zs, e, row) ↦
          let h = stops_here zs p r q s stop row in
          (sym (e ∙ ap (λ z. xs ++ z) h.0 ∙ append-nil xs), sym h.1, sym h.2)
      | inr (zs, e, row) ↦
          let h = stops_here zs q s p r stop' row in
          (e ∙ ap (λ z. ys ++ z) h.0 ∙ append-nil ys, h.1, h.2)
    ]

-- a text has one list of tokens
pub tokens_same : (text : List ℕ) (xs ys : List Token) → AreTokens text xs → AreTokens text ys → xs ≡ ys
tokens_same text xs ys (p, r, row, last) (q, s, row', last') =
    (rows_same xs ys [] text p r q s row (last_stops p r last) row' (last_stops q s last')).0

-- a bad byte stands on one line, and where one stands a text has no tokens
pub bad_byte_same : (text : List ℕ) (m n : ℕ) → BadByteAt text m → BadByteAt text n → m ≡ n
bad_byte_same text m n (xs, p, r, row, limits, bad) (ys, q, s, row', limits', bad') =
    let h = rows_same xs ys [] text p r q s row (bad_stops p r m bad) row' (bad_stops q s n bad') in
    bad_same p r m n bad (subst (λ t. HasBadByte p t n) (sym h.2)
    (subst (λ b. HasBadByte b s n) (sym h.1) bad'))

pub tokens_no_bad_byte : (text : List ℕ) (xs : List Token) (n : ℕ) → AreTokens text xs → BadByteAt text n → ⊥
tokens_no_bad_byte text xs n (p, r, row, last) (ys, q, s, row', limits, bad) =
    let h = rows_same xs ys [] text p r q s row (last_stops p r last) row' (bad_stops q s n bad) in
    last_no_bad p r n last (subst (λ t. HasBadByte p t n) (sym h.2)
    (subst (λ b. HasBadByte b s n) (sym h.1) bad))

-- a token among those within their limits is within its limit
among_limits : (text : List ℕ) (xs zs : List Token) (t : Token) → AreInLimits text (xs ++ t ∷ zs) →
    IsTokenInLimit text t
among_limits text xs zs t limits =
    let here : length xs < length (xs ++ t ∷ zs) = omega (arith, length-append xs (t ∷ zs)) in
    subst (IsTokenInLimit text) (get_or_at xs t zs t (length xs) refl) (limits (length xs) t here)

-- A row that ends with a token past its limit isn't at the front of one that keeps the limits.
past_behind : (text : List ℕ) (xs ys : List Token) (t : Token) (p r q s : List ℕ) →
    Row (xs ++ t ∷ []) [] text p r → ¬ IsTokenInLimit text t →
    Row ys [] text q s → Stops q s → AreInLimits text ys → ⊥
unfolding GoesOn
past_behind text xs ys t p r q s left past right stop limits =
    elim (one_ahead (xs ++ t ∷ []) ys [] text p r q s left right) [
      | inl (zs, e, row) ↦ past (among_limits text xs zs t
          (subst (AreInLimits text) (e ∙ append_assoc xs (t ∷ []) zs) limits))
      | inr (zs, e, row) ↦
          let h = stops_here zs q s p r stop row in
          past (among_limits text xs [] t
          (subst (AreInLimits text) (sym (e ∙ ap (λ z. ys ++ z) h.0 ∙ append-nil ys)) limits))
    ]

pub tokens_no_range : (text : List ℕ) (xs : List Token) (n : ℕ) → AreTokens text xs →
    AreInLimits text xs → RangeAt text n → ⊥
tokens_no_range text xs n (p, r, row, last) limits (ys, t, q, s, row', limits', past, line) =
    past_behind text ys xs t q s p r row' past row (last_stops p r last) limits

pub bad_byte_no_range : (text : List ℕ) (m n : ℕ) → BadByteAt text m → RangeAt text n → ⊥
bad_byte_no_range text m n (xs, p, r, row, limits, bad) (ys, t, q, s, row', limits', past, line) =
    past_behind text ys xs t q s p r row' past row (bad_stops p r m bad) limits

-- two first tokens past their limits are one
past_same : (text : List ℕ) (xs ys zs : List Token) (t u : Token) →
    ys ++ u ∷ [] ≡ (xs ++ t ∷ []) ++ zs → AreInLimits text ys → ¬ IsTokenInLimit text t → t ≡ u
past_same text xs ys [] t u e limits past =
    sym (same_from_push ys xs u t (e ∙ append-nil (xs ++ t ∷ []))).1
past_same text xs ys (z ∷ zs) t u e limits past =
    let f : ys ++ u ∷ [] ≡ xs ++ t ∷ z ∷ zs = e ∙ append_assoc xs (t ∷ []) (z ∷ zs) in
    let here : length xs < length ys =
    omega (arith, ap length f, length-append ys (u ∷ []), length-append xs (t ∷ z ∷ zs)) in
    let is : get_or ys (length xs) t ≡ t =
    sym (get_or_append_left ys (u ∷ []) t (length xs) here) ∙ ap (λ l. get_or l (length xs) t) f ∙
    get_or_at xs t (z ∷ zs) t (length xs) refl in
    absurd (past (subst (IsTokenInLimit text) is (limits (length xs) t here)))

pub range_same : (text : List ℕ) (m n : ℕ) → RangeAt text m → RangeAt text n → m ≡ n
unfolding GoesOn
range_same text m n (xs, t, p, r, row, limits, past, line) (ys, u, q, s, row', limits', past', line') =
    let same : t ≡ u =
    elim (one_ahead (xs ++ t ∷ []) (ys ++ u ∷ []) [] text p r q s row row') [
      | inl (zs, e, more) ↦ past_same text xs ys zs t u e limits' past
      | inr (zs, e, more) ↦ sym (past_same text ys xs zs u t e limits past')
    ] in
    line ∙ ap (λ x. x.line) same ∙ sym line'

-- the text of a token is its word
pub text_is : (before gap word rest : List ℕ) (token : Token) → Stands before gap word rest token →
    token_text (before ++ (gap ++ (word ++ rest))) token ≡ word
text_is before gap word rest token s =
    let whole : before ++ (gap ++ (word ++ rest)) ≡ (before ++ gap) ++ (word ++ rest) =
    sym (append_assoc before gap (word ++ rest)) in
    let long : length word ≡ token.stop - token.start = omega (arith, s.stop) in
    ap (λ t. token_text t token) whole ∙
    ap (λ t. take (token.stop - token.start) t)
    (drop_at (before ++ gap) (word ++ rest) token.start (sym s.start)) ∙
    take_at word rest (token.stop - token.start) long

-- the tokens of a row have the kinds of their texts
pub row_kinds : (tokens : List Token) (before text passed rest : List ℕ) →
    Row tokens before text passed rest →
    All (λ token. kind_of (token_text (before ++ text) token) ≡ Some token.kind) tokens
row_kinds [] before text passed rest row = λ k d lt. absurd (omega arith)
row_kinds (token ∷ tokens) before text passed rest (gap, word, after, e, s, row) =
    let whole : before ++ text ≡ before ++ (gap ++ (word ++ after)) = ap (λ t. before ++ t) e in
    let moved : (before ++ (gap ++ word)) ++ after ≡ before ++ text =
    append_assoc before (gap ++ word) after ∙ ap (λ t. before ++ t) (append_assoc gap word after) ∙
    sym whole in
    All-cons (λ x. kind_of (token_text (before ++ text) x) ≡ Some x.kind) token tokens
    (ap (λ t. kind_of (token_text t token)) whole ∙ ap kind_of (text_is before gap word after token s) ∙
    s.kind)
    (subst (λ t. All (λ x. kind_of (token_text t x) ≡ Some x.kind) tokens) moved
    (row_kinds tokens (before ++ (gap ++ word)) after passed rest row))

-- the tokens of a row rise
pub row_rises : (tokens : List Token) (before text passed rest : List ℕ) →
    Row tokens before text passed rest →
    RiseFrom (length before) tokens (length (before ++ text))
row_rises [] before text passed rest row = omega (arith, length-append before text)
row_rises (token ∷ tokens) before text passed rest (gap, word, after, e, s, row) =
    let w = word_begins word token.kind s.kind in
    let long : 0 < length word = omega (arith, ap length w.2) in
    let whole : (before ++ (gap ++ word)) ++ after ≡ before ++ text =
    append_assoc before (gap ++ word) after ∙ ap (λ t. before ++ t) (append_assoc gap word after ∙ sym e) in
    let stop : length (before ++ (gap ++ word)) ≡ token.stop =
    omega (
      arith,
      s.start,
      s.stop,
      length-append before gap,
      length-append before (gap ++ word),
      length-append gap word,
    ) in (
      omega (arith, s.start, length-append before gap),
      omega (arith, s.stop),
      subst (λ n. RiseFrom n tokens (length (before ++ text))) stop
          (subst (λ t. RiseFrom (length (before ++ (gap ++ word))) tokens (length t)) whole
          (row_rises tokens (before ++ (gap ++ word)) after passed rest row)),
    )

-- tokens that rise lie before the end
rise_end : (tokens : List Token) (place end : ℕ) → RiseFrom place tokens end → place ≤ end
rise_end [] place end rise = rise
rise_end (token ∷ tokens) place end rise =
    omega (arith, rise.0, rise.1, rise_end tokens token.stop end rise.2)

rise_within : (tokens : List Token) (place end : ℕ) → RiseFrom place tokens end →
    (k : ℕ) (d : Token) → k < length tokens → ((get_or tokens k d).start ≤ (get_or tokens k d).stop) ×
    ((get_or tokens k d).stop ≤ end)
rise_within [] place end rise k d lt = absurd (omega arith)
rise_within (token ∷ tokens) place end rise zero d lt =
    (omega (arith, rise.1), rise_end tokens token.stop end rise.2)
rise_within (token ∷ tokens) place end rise (suc k) d lt =
    rise_within tokens token.stop end rise.2 k d (omega arith)

-- each token lies within its text, where its kind is that of its word
pub token_within : (text : List ℕ) (tokens : List Token) → AreTokens text tokens → (k : ℕ) (d : Token) →
    k < length tokens →
    ((get_or tokens k d).start ≤ (get_or tokens k d).stop) × ((get_or tokens k d).stop ≤ length text)
token_within text tokens (passed, rest, row, last) k d lt =
    rise_within tokens 0 (length text) (row_rises tokens [] text passed rest row) k d lt

pub token_kind : (text : List ℕ) (tokens : List Token) → AreTokens text tokens → (k : ℕ) (d : Token) →
    k < length tokens →
    kind_of (token_text text (get_or tokens k d)) ≡ Some (get_or tokens k d).kind
token_kind text tokens (passed, rest, row, last) k d lt = row_kinds tokens [] text passed rest row k d lt
