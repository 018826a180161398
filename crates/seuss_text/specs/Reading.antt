-- What the parts of the reader find at the front of a text.
use Rattle.std.specs.Prelude.{◌≡◌, ℕ, ◌≤◌, ◌==◌, Bool, true, false, not, if◌then◌else◌, List, [], ◌∷◌, ◌++◌}
use Rattle.std.specs.Prelude.{length, take, drop, Option, Some, None, Result, Ok, Err}
use Rattle.seuss_text.specs.Bytes.{line_feed, hash, is_white}
use Rattle.seuss_text.specs.Gaps.{IsLastGap}
use Rattle.seuss_text.specs.Limits.{IsInLimit, AreInLimits}
use Rattle.seuss_text.specs.Refusals.{HasBadByte, BadByteAt, RangeAt}
use Rattle.seuss_text.specs.Rows.{Stands, AreTokens}
use Rattle.seuss_text.specs.Words.{signs, is_among, kind_of, IsLongest}
use Rattle.seuss_text.specs.declared.refusal.TextRefusal.{TextRefusal}
use Rattle.seuss_text.specs.declared.refusal.TextRefusal.TheVariants.{BadByte, Range, TooLong, Memory}
use Rattle.seuss_text.specs.declared.token.Token.{Token}
use Rattle.seuss_text.specs.declared.token.TokenKind.{TokenKind}
use Rattle.seuss_text.specs.declared.token.Tokens.{Tokens}

-- the first `len` bytes are a token of this kind, as long as possible
pub record IsFrontWord (text : List ℕ) (kind : TokenKind) (len : ℕ) : Type 0 where
  pub within : len ≤ length text
  pub kind_is : kind_of (take len text) ≡ Some kind
  pub longest : IsLongest (take len text) (drop len text)

-- how many bytes the longest sign at the front has
abbrev pub sign_len : List ℕ → Option ℕ
sign_len [] = None
sign_len (a ∷ []) = if is_among signs (a ∷ []) then Some 1 else None
sign_len (a ∷ b ∷ rest) =
    if is_among signs (a ∷ b ∷ []) then Some 2 else (if is_among signs (a ∷ []) then Some 1 else None)

-- What is left after the white space and comments at the front, where a comment is open there or not.
abbrev pub after_gap : List ℕ → Bool → List ℕ
after_gap [] open_comment = []
after_gap (b ∷ bs) true = after_gap bs (not (b == line_feed))
after_gap (b ∷ bs) false =
    if b == hash then after_gap bs true else (if is_white b then after_gap bs false else b ∷ bs)

-- The next step of the reader after `before`: a token within its limit, the end, or a fault.
abbrev pub Steps : List ℕ → List ℕ → Result (Option Token) TextRefusal → Type 0
Steps before text (Ok None) = IsLastGap text
Steps before text (Ok (Some token)) =
    (gap word rest : List ℕ) × (text ≡ gap ++ (word ++ rest)) × Stands before gap word rest token ×
    IsInLimit token.kind word
Steps before text (Err (BadByte line)) = HasBadByte before text line
Steps before text (Err (Range line)) =
    (token : Token) × (gap word rest : List ℕ) × (text ≡ gap ++ (word ++ rest)) ×
    Stands before gap word rest token ×
    ¬ IsInLimit token.kind word × (line ≡ token.line)
Steps before text (Err TooLong) = ⊥
Steps before text (Err Memory) = ⊥

-- What the reader answers for a text that isn't too long, unless memory is refused.
abbrev pub Reads : List ℕ → Result Tokens TextRefusal → Type 0
Reads text (Ok found) = AreTokens text found.list × AreInLimits text found.list
Reads text (Err (BadByte line)) = BadByteAt text line
Reads text (Err (Range line)) = RangeAt text line
Reads text (Err TooLong) = ⊥
Reads text (Err Memory) = Unit {0}
