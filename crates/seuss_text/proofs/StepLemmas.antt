-- One step of the reader: the gap at the front and the word behind it.
use Rattle.std.proofs.Common.{◌≡◌, ◌≢◌, ℕ, ◌+◌, false, List, [], ◌∷◌, ◌++◌, length, take, drop, refl, sym}
use Rattle.std.proofs.Common.{ap, ◌∙◌, subst, length-append, length-take-le, take-append-drop, arith, cond}
use Rattle.std.proofs.Common.{eqb}
use Rattle.std.proofs.lemmas.List.{append_cancel_right, nil_from_length}
use Rattle.std.proofs.lemmas.List.Sums.{sum_by-append}
use Rattle.seuss_text.specs.Gaps.{IsGap, IsLastGap}
use Rattle.seuss_text.specs.Words.{BeginsNoToken}
use Rattle.seuss_text.specs.Rows.{line_after, Stands}
use Rattle.seuss_text.specs.Refusals.{HasBadByte}
use Rattle.seuss_text.specs.Reading.{after_gap, IsFrontWord}
use Rattle.seuss_text.specs.declared.token.TokenKind.{TokenKind}
use Rattle.seuss_text.proofs.GapLemmas.{IsSolid, last_gap, gap_before}
use Rattle.seuss_text.proofs.NextLemmas.{feeds}

-- the front of the text is the gap there, and the back is what is left behind it
pub record IsCut (text front back : List ℕ) : Type 0 where
  pub whole : front ++ back ≡ text
  pub left : back ≡ after_gap text false

pub cut_at : (text front back : List ℕ) (n : ℕ) → front ≡ take n text → back ≡ drop n text →
    drop n text ≡ after_gap text false → IsCut text front back
cut_at text front back n f b e = record { whole = (λ i. f i ++ b i) ∙ take-append-drop n text; left = b ∙ e }

-- nothing is left behind the last gap
pub cut_ends : (text front back : List ℕ) → IsCut text front back → length back ≡ 0 → IsLastGap text
cut_ends text front back cut empty = last_gap text (sym cut.left ∙ nil_from_length back empty)

-- the front is a gap where something is left, which begins with a solid byte
pub cut_gap : (text front : List ℕ) (b : ℕ) (bs : List ℕ) → IsCut text front (b ∷ bs) → IsGap front ×
    IsSolid b
cut_gap text front b bs cut =
    let found = gap_before text b bs (sym cut.left) in
    (subst IsGap (append_cancel_right found.0 front (b ∷ bs) (sym found.2 ∙ sym cut.whole)) found.1, found.3)

-- the line goes on over the line feeds of the gap
line_on : (before front : List ℕ) (line n : ℕ) → line ≡ line_after before → n ≡ feeds front →
    line + n ≡ line_after (before ++ front)
line_on before front line n l e = omega (arith, l, e, sum_by-append (λ b. cond (eqb b 10) 1 0) before front)

-- where no token begins behind the gap stands a bad byte
pub cut_bad : (before text front back : List ℕ) (line n : ℕ) → IsCut text front back → length back ≢ 0 →
    line ≡ line_after before →
    n ≡ feeds front → BeginsNoToken back → HasBadByte before text (line + n)
cut_bad before text front [] line n cut full l e none = absurd (full refl)
cut_bad before text front (b ∷ bs) line n cut full l e none =
    let gap = cut_gap text front b bs cut in
    record {
      gap = front;
      byte = b;
      after = bs;
      spelled = sym cut.whole;
      is_gap = gap.0;
      not_white = gap.1.not_white;
      no_comment = gap.1.no_comment;
      none = none;
      line_is = line_on before front line n l e;
    }

-- where a token begins behind the gap, it stands there
pub cut_word : (before text front back : List ℕ) (place line n len : ℕ) (kind : TokenKind) →
    IsCut text front back → length back ≢ 0 →
    place ≡ length before → line ≡ line_after before → n ≡ feeds front → IsFrontWord back kind len →
    (text ≡ front ++ (take len back ++ drop len back)) ×
    Stands before front (take len back) (drop len back)
    (record {
      kind = kind;
      start = place + length front;
      stop = place + length front + len;
      line =
          line + n;
    })
cut_word before text front [] place line n len kind cut full p l e word = absurd (full refl)
cut_word before text front (b ∷ bs) place line n len kind cut full p l e word = (
  sym (ap (λ t. front ++ t) (take-append-drop len (b ∷ bs)) ∙ cut.whole),
  record {
    is_gap = (cut_gap text front b bs cut).0;
    kind = word.kind_is;
    longest = word.longest;
    start = omega (arith, p, length-append before front);
    stop = ap (λ k. place + length front + k) (sym (length-take-le len (b ∷ bs) word.within));
    line = line_on before front line n l e;
  },
)
