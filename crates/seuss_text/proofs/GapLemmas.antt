-- Which gaps stand at the front of a text.
use Rattle.std.proofs.Common.{◌≡◌, ◌≢◌, ℕ, Bool, true, false, cond, not, ◌⊎◌, List, [], ◌∷◌, ◌++◌, refl}
use Rattle.std.proofs.Common.{sym, ap, ◌∙◌, subst, inl, inr, append_assoc, append-nil, arith, eqb}
use Rattle.std.proofs.lemmas.Bool.{cond-true, cond-false, eqb-true, eqb-false, ne_eqb}
use Rattle.std.proofs.lemmas.Bool.Decides.{nat_tests}
use Rattle.seuss_text.specs.Bytes.{line_feed, hash, is_white}
use Rattle.seuss_text.specs.Gaps.{IsOnOneLine, IsGap, nothing, white, comment, IsLastGap}
use Rattle.seuss_text.specs.Reading.{after_gap}

-- no part of a gap begins with this byte
pub record IsSolid (b : ℕ) : Type 0 where
  pub not_white : is_white b ≡ false
  pub no_comment : b ≢ hash

-- the byte that begins a comment is not white
white_no_hash : (b : ℕ) → is_white b ≡ true → eqb b hash ≡ false
white_no_hash b h = grind (arith, nat_tests)

-- behind a comment that is open, its line is passed
line_skips : (line rest : List ℕ) → IsOnOneLine line → after_gap (line ++ rest) true ≡ after_gap rest true
line_skips [] rest h = refl
line_skips (b ∷ line) rest h =
    ap (λ t. after_gap (line ++ rest) (not t)) (ne_eqb b line_feed h.0) ∙ line_skips line rest h.1

-- a gap is passed
pub gap_skips : {gap : List ℕ} (rest : List ℕ) → IsGap gap →
    after_gap (gap ++ rest) false ≡ after_gap rest false
gap_skips rest nothing = refl
gap_skips rest (white {b} {gap} h g) =
    cond-false _ _ _ (white_no_hash b h) ∙ cond-true _ _ _ h ∙ gap_skips rest g
gap_skips rest (comment bytes gap e one g) =
    ap (λ w. after_gap (w ++ rest) false) e ∙
    ap (λ w. after_gap w true) (append_assoc bytes (line_feed ∷ gap) rest) ∙
    line_skips bytes (line_feed ∷ gap ++ rest) one ∙ gap_skips rest g

-- a byte that begins no part of a gap stays
pub solid_stays : (b : ℕ) (bs : List ℕ) → IsSolid b → after_gap (b ∷ bs) false ≡ b ∷ bs
solid_stays b bs solid = cond-false _ _ _ (ne_eqb b hash solid.no_comment) ∙ cond-false _ _ _ solid.not_white

-- the last gap is passed whole
pub last_gap_ends : (bytes : List ℕ) → IsLastGap bytes → after_gap bytes false ≡ []
last_gap_ends bytes (inl gap) = ap (λ w. after_gap w false) (sym (append-nil bytes)) ∙ gap_skips [] gap
last_gap_ends bytes (inr (gap, line, is_gap, one, e)) =
    ap (λ w. after_gap w false) e ∙ gap_skips (hash ∷ line) is_gap ∙
    ap (λ w. after_gap w true) (sym (append-nil line)) ∙
    line_skips line [] one

-- A solid byte and these bytes follow the gap at the front, or the line of an open comment and the gap
-- behind it.
Follows : Bool → List ℕ → ℕ → List ℕ → Type 0
Follows false text b bs = (gap : List ℕ) × IsGap gap × (text ≡ gap ++ b ∷ bs) × IsSolid b
Follows true text b bs =
    (line gap : List ℕ) × IsOnOneLine line × IsGap gap × (text ≡ line ++ line_feed ∷ (gap ++ b ∷ bs)) ×
    IsSolid b

-- the byte before what follows decides: inside a comment, and outside
follows_inside : (x : ℕ) (xs : List ℕ) (b : ℕ) (bs : List ℕ) →
    ((t : Bool) → after_gap xs t ≡ b ∷ bs → Follows t xs b bs) → (t : Bool) → eqb x line_feed ≡ t →
    after_gap xs (not t) ≡ b ∷ bs → Follows true (x ∷ xs) b bs
unfolding Follows
follows_inside x xs b bs again true h e =
    let f = again false e in
    ([], f.0, tt, f.1, (λ i. eqb-true x line_feed h i ∷ f.2 i), f.3)
follows_inside x xs b bs again false h e =
    let f = again true e in
    (x ∷ f.0, f.1, (eqb-false x line_feed h, f.2), f.3, ap (λ w. x ∷ w) f.4, f.5)

follows_outside : (x : ℕ) (xs : List ℕ) (b : ℕ) (bs : List ℕ) →
    ((t : Bool) → after_gap xs t ≡ b ∷ bs → Follows t xs b bs) → (t u : Bool) → eqb x hash ≡ t →
    is_white x ≡ u →
    cond t (after_gap xs true) (cond u (after_gap xs false) (x ∷ xs)) ≡ b ∷ bs → Follows false (x ∷ xs) b bs
unfolding Follows
follows_outside x xs b bs again true u h k e =
    let f = again true e in (
      hash ∷ f.0 ++ line_feed ∷ f.1,
      comment f.0 f.1 refl f.2 f.3,
      (λ i. eqb-true x hash h i ∷ f.4 i) ∙ ap (λ w. hash ∷ w)
          (sym (append_assoc f.0 (line_feed ∷ f.1) (b ∷ bs))),
      f.5,
    )
follows_outside x xs b bs again false true h k e =
    let f = again false e in
    (x ∷ f.0, white k f.1, ap (λ w. x ∷ w) f.2, f.3)
follows_outside x xs b bs again false false h k e =
    let same : x ≡ b = cc in
    ([], nothing, e, subst IsSolid same (record { not_white = k; no_comment = eqb-false x hash h }))

follows : (text : List ℕ) (open_comment : Bool) (b : ℕ) (bs : List ℕ) →
    after_gap text open_comment ≡ b ∷ bs → Follows open_comment text b bs
follows [] open_comment b bs e = cc
follows (x ∷ xs) true b bs e = follows_inside x xs b bs (λ t. follows xs t b bs) (eqb x line_feed) refl e
follows (x ∷ xs) false b bs e = follows_outside x xs b bs (λ t. follows xs t b bs) (eqb x hash)
    (is_white x) refl refl e

-- Nothing follows the gap at the front, or the line of an open comment and the gap behind it.
Ends : Bool → List ℕ → Type 0
Ends false text = IsLastGap text
Ends true text = IsOnOneLine text ⊎ ((line gap : List ℕ) × IsOnOneLine line × IsLastGap gap ×
    (text ≡ line ++ line_feed ∷ gap))

-- a white byte before the last gap is one with it
white_last : (x : ℕ) (xs : List ℕ) → is_white x ≡ true → IsLastGap xs → IsLastGap (x ∷ xs)
white_last x xs h (inl gap) = inl (white h gap)
white_last x xs h (inr (gap, line, is_gap, one, e)) = inr
    (x ∷ gap, line, white h is_gap, one, ap (λ w. x ∷ w) e)

-- a comment before the last gap is one with it
comment_last : (line gap : List ℕ) → IsOnOneLine line → IsLastGap gap →
    IsLastGap (hash ∷ line ++ line_feed ∷ gap)
comment_last line gap one (inl is_gap) = inl (comment line gap refl one is_gap)
comment_last line gap one (inr (front, last, is_gap, one_last, e)) =
    inr (
      hash ∷ line ++ line_feed ∷ front,
      last,
      comment line front refl one is_gap,
      one_last,
      ap (λ w. hash ∷ line ++ line_feed ∷ w) e ∙ ap (λ w. hash ∷ w)
          (sym (append_assoc line (line_feed ∷ front) (hash ∷ last))),
    )

-- the byte before decides: inside a comment, and outside
ends_inside : (x : ℕ) (xs : List ℕ) → ((t : Bool) → after_gap xs t ≡ [] → Ends t xs) → (t : Bool) →
    eqb x line_feed ≡ t →
    after_gap xs (not t) ≡ [] → Ends true (x ∷ xs)
unfolding Ends
ends_inside x xs again true h e = inr ([], xs, tt, again false e, ap (λ b. b ∷ xs) (eqb-true x line_feed h))
ends_inside x xs again false h e =
    elim (again true e) [
      | inl one ↦ inl (eqb-false x line_feed h, one)
      | inr (line, gap, one, last, f) ↦ inr
          (x ∷ line, gap, (eqb-false x line_feed h, one), last, ap (λ w. x ∷ w) f)
    ]

ends_outside : (x : ℕ) (xs : List ℕ) → ((t : Bool) → after_gap xs t ≡ [] → Ends t xs) → (t u : Bool) →
    eqb x hash ≡ t → is_white x ≡ u →
    cond t (after_gap xs true) (cond u (after_gap xs false) (x ∷ xs)) ≡ [] → IsLastGap (x ∷ xs)
unfolding Ends
ends_outside x xs again true u h k e =
    subst (λ b. IsLastGap (b ∷ xs)) (sym (eqb-true x hash h))
    (elim (again true e) [
      | inl one ↦ inr ([], xs, nothing, one, refl)
      | inr (line, gap, one, last, f) ↦ subst (λ w. IsLastGap (hash ∷ w)) (sym f)
          (comment_last line gap one last)
    ])
ends_outside x xs again false true h k e = white_last x xs k (again false e)
ends_outside x xs again false false h k e = cc

ends : (text : List ℕ) (open_comment : Bool) → after_gap text open_comment ≡ [] → Ends open_comment text
unfolding Ends
ends [] false e = inl nothing
ends [] true e = inl tt
ends (x ∷ xs) true e = ends_inside x xs (ends xs) (eqb x line_feed) refl e
ends (x ∷ xs) false e = ends_outside x xs (ends xs) (eqb x hash) (is_white x) refl refl e

-- where nothing is left behind the gap at the front, the text is its last gap
pub last_gap : (text : List ℕ) → after_gap text false ≡ [] → IsLastGap text
unfolding Ends
last_gap text e = ends text false e

-- what is left behind the gap at the front begins with a solid byte
pub gap_before : (text : List ℕ) (b : ℕ) (bs : List ℕ) → after_gap text false ≡ b ∷ bs →
    (gap : List ℕ) × IsGap gap × (text ≡ gap ++ b ∷ bs) × IsSolid b
unfolding Follows
gap_before text b bs e = follows text false b bs e
