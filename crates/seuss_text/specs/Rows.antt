-- Which tokens a text has.
use Rattle.std.specs.Prelude.{◌≡◌, ℕ, ◌+◌, ◌<◌, ◌≤◌, ◌==◌, List, [], ◌∷◌, ◌++◌, length, count_by, Some}
use Rattle.std.specs.List.{slice_range}
use Rattle.seuss_text.specs.Bytes.{line_feed}
use Rattle.seuss_text.specs.Gaps.{IsGap, IsLastGap}
use Rattle.seuss_text.specs.Words.{kind_of, IsLongest}
use Rattle.seuss_text.specs.declared.token.Token.{Token}

-- the line of what stands after these bytes: 1, and the number of line feeds before it
abbrev pub line_after : List ℕ → ℕ
line_after before = 1 + count_by (λ b. b == line_feed) before

-- After `before` come a gap, the word of this token, as long as possible, and the rest of the text.
pub record Stands (before gap word rest : List ℕ) (token : Token) : Type 0 where
  pub is_gap : IsGap gap
  pub kind : kind_of word ≡ Some token.kind
  pub longest : IsLongest word rest
  pub start : token.start ≡ length (before ++ gap)
  pub stop : token.stop ≡ token.start + length word
  pub line : token.line ≡ line_after (before ++ gap)

-- These tokens stand one after the other at the front of `text`, after which `rest` is left. What
-- stands before the text is `before`, and what stands before the rest is `passed`.
abbrev pub Row : List Token → List ℕ → List ℕ → List ℕ → List ℕ → Type 0
Row [] before text passed rest = (passed ≡ before) × (rest ≡ text)
Row (token ∷ tokens) before text passed rest =
    (gap word after : List ℕ) × (text ≡ gap ++ (word ++ after)) × Stands before gap word after token ×
    Row tokens (before ++ (gap ++ word)) after passed rest

-- These are the tokens of the text: after them nothing is left but a gap.
abbrev pub AreTokens : List ℕ → List Token → Type 0
AreTokens text tokens = (passed rest : List ℕ) × Row tokens [] text passed rest × IsLastGap rest

-- the text of a token: its slice of the source
abbrev pub token_text : List ℕ → Token → List ℕ
token_text text token = slice_range text token.start token.stop

-- from this place on each token has at least one byte, and none begins before the one before it ends
abbrev pub RiseFrom : ℕ → List Token → ℕ → Type 0
RiseFrom place [] end = place ≤ end
RiseFrom place (token ∷ tokens) end = (place ≤ token.start) × (token.start < token.stop) ×
    RiseFrom token.stop tokens end
