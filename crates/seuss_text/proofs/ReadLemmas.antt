-- The reader's loop: where it stands, and what its next step makes of that.
use Rattle.std.proofs.Common.{◌≡◌, ℕ, ◌-◌, ◌<◌, ◌≤◌, List, [], ◌∷◌, ◌++◌, length, take, drop, refl, sym, ap}
use Rattle.std.proofs.Common.{◌∙◌, subst, length-append, length-take-le, take-append-drop, arith, cond, eqb}
use Rattle.std.proofs.Common.{Some, None, Ok, Err}
use Rattle.std.proofs.lemmas.List.{take_at, drop_at, take_rest}
use Rattle.std.specs.Prelude.{Option, Result}
use Rattle.std.proofs.lemmas.List.Elements.{All-push}
use Rattle.std.proofs.lemmas.List.Sums.{sum_by-append}
use Rattle.seuss_text.specs.Rows.{line_after, Stands, Row, AreTokens, token_text}
use Rattle.seuss_text.specs.Limits.{IsInLimit, IsTokenInLimit, AreInLimits}
use Rattle.seuss_text.specs.Reading.{Steps, Reads}
use Rattle.seuss_text.specs.declared.refusal.TextRefusal.{TextRefusal}
use Rattle.seuss_text.specs.declared.refusal.TextRefusal.TheVariants.{BadByte, Range, TooLong, Memory}
use Rattle.seuss_text.specs.declared.token.Token.{Token}
use Rattle.seuss_text.proofs.NextLemmas.{word_begins, word_no_feed}
use Rattle.seuss_text.proofs.RowLemmas.{row_whole, row_push, text_is}

-- the tokens read so far stand before this place, which is on this line
pub record IsAt (text : List ℕ) (tokens : List Token) (place line : ℕ) : Type 0 where
  pub row : Row tokens [] text (take place text) (drop place text)
  pub limits : AreInLimits text tokens
  pub within : place ≤ length text
  pub line_is : line ≡ line_after (take place text)

-- at first nothing is read
pub at_start : (text : List ℕ) → IsAt text [] 0 1
at_start text = record {
  row = (refl, refl);
  limits = λ k d lt. absurd (omega arith);
  within =
      omega arith;
  line_is = refl;
}

-- the text as its parts round a token
parts : (text : List ℕ) (place : ℕ) (gap word rest : List ℕ) → drop place text ≡ gap ++ (word ++ rest) →
    take place text ++ (gap ++ (word ++ rest)) ≡ text
parts text place gap word rest e = ap (λ t. take place text ++ t) (sym e) ∙ take-append-drop place text

-- the text of the next token is its word
next_text : (text : List ℕ) (place : ℕ) (gap word rest : List ℕ) (token : Token) →
    drop place text ≡ gap ++ (word ++ rest) →
    Stands (take place text) gap word rest token → token_text text token ≡ word
next_text text place gap word rest token e s =
    ap (λ t. token_text t token) (sym (parts text place gap word rest e)) ∙
    text_is (take place text) gap word rest token s

-- the next token ends what is read
pub at_next : (text : List ℕ) (tokens : List Token) (place line : ℕ) (token : Token) →
    IsAt text tokens place line →
    Steps (take place text) (drop place text) (Ok (Some token)) →
    IsAt text (tokens ++ token ∷ []) token.stop token.line × (place < token.stop)
at_next text tokens place line token is (gap, word, rest, e, s, limit) =
    let p = take place text in
    let row = row_push tokens [] text p (drop place text) gap word rest token is.row e s in
    let whole : text ≡ (p ++ (gap ++ word)) ++ rest = row_whole (tokens ++ token ∷ []) [] text
    (p ++ (gap ++ word)) rest row in
    let front : length p ≡ place = length-take-le place text is.within in
    let long : length (p ++ (gap ++ word)) ≡ token.stop =
    omega (
      arith,
      s.start,
      s.stop,
      length-append p gap,
      length-append p (gap ++ word),
      length-append gap word,
    ) in
    let passed : take token.stop text ≡ p ++ (gap ++ word) = ap (take token.stop) whole ∙
    take_at (p ++ (gap ++ word)) rest token.stop long in
    let left : drop token.stop text ≡ rest = ap (drop token.stop) whole ∙
    drop_at (p ++ (gap ++ word)) rest token.stop long in
    let w = word_begins word token.kind s.kind in
    let nonempty : 0 < length word = omega (arith, ap length w.2) in (
      record {
        row = subst (λ t. Row (tokens ++ token ∷ []) [] text (take token.stop text) t) (sym left)
            (subst (λ b. Row (tokens ++ token ∷ []) [] text b rest) (sym passed) row);
        limits = All-push (IsTokenInLimit text) tokens token is.limits
            (subst (IsInLimit token.kind) (sym (next_text text place gap word rest token e s)) limit);
        within = omega (arith, ap length whole, long, length-append (p ++ (gap ++ word)) rest);
        line_is = s.line ∙ omega (
          arith,
          sum_by-append (λ b. cond (eqb b 10) 1 0) p gap,
          sum_by-append (λ b. cond (eqb b 10) 1 0) p (gap ++ word),
          sum_by-append (λ b. cond (eqb b 10) 1 0) gap word,
          word_no_feed word token.kind s.kind,
        ) ∙ ap line_after (sym passed);
      },
      omega (arith, s.start, s.stop, length-append p gap),
    )

-- where only a gap is left, the tokens read are those of the text
pub at_end : (text : List ℕ) (tokens : List Token) (place line : ℕ) → IsAt text tokens place line →
    Steps (take place text) (drop place text) (Ok None) → AreTokens text tokens × AreInLimits text tokens
at_end text tokens place line is last = ((take place text, drop place text, is.row, last), is.limits)

-- a fault of the step is a fault of the text
pub at_fault : (text : List ℕ) (tokens : List Token) (place line : ℕ) (refusal : TextRefusal) →
    IsAt text tokens place line →
    Steps (take place text) (drop place text) (Err refusal) → Reads text (Err refusal)
at_fault text tokens place line (BadByte n) is bad =
    (tokens, take place text, drop place text, is.row, is.limits, bad)
at_fault text tokens place line (Range n) is (token, gap, word, rest, e, s, past, l) = (
  tokens,
  token,
  take place text ++ (gap ++ word),
  rest,
  row_push tokens [] text (take place text) (drop place text) gap word rest token is.row e s,
  is.limits,
  (λ limit. past (subst (IsInLimit token.kind) (next_text text place gap word rest token e s) limit)),
  l,
)
at_fault text tokens place line TooLong is h = h
at_fault text tokens place line Memory is h = tt

-- the step behind what is read
pub step_at : (text : List ℕ) (tokens : List Token) (place line : ℕ)
    (step answer : Result (Option Token) TextRefusal) → IsAt text tokens place line →
    ((before : List ℕ) → place ≡ length before → line ≡ line_after before →
    Steps before (take (length text - place) (drop place text)) step) →
    step ≡ answer → Steps (take place text) (drop place text) answer
step_at text tokens place line step answer is steps e =
    subst (Steps (take place text) (drop place text)) e
    (subst (λ t. Steps (take place text) t step) (take_rest text place)
    (steps (take place text) (sym (length-take-le place text is.within)) is.line_is))
