-- Where a text is refused.
use Rattle.std.specs.Prelude.{◌≡◌, ◌≢◌, ℕ, false, List, [], ◌∷◌, ◌++◌, ◌⊎◌, Result, MatchResult}
use Rattle.seuss_text.specs.Bytes.{hash, is_white}
use Rattle.seuss_text.specs.Gaps.{IsGap}
use Rattle.seuss_text.specs.Words.{BeginsNoToken}
use Rattle.seuss_text.specs.Rows.{line_after, Row}
use Rattle.seuss_text.specs.Limits.{IsTokenInLimit, AreInLimits}
use Rattle.seuss_text.specs.declared.token.Token.{Token}
use Rattle.seuss_text.specs.declared.token.Tokens.{Tokens}
use Rattle.seuss_text.specs.declared.refusal.TextRefusal.{TextRefusal}
use Rattle.seuss_text.specs.declared.refusal.TextRefusal.TheVariants.{Memory}

-- After `passed` come a gap and, at this line, a byte that begins no token.
pub record HasBadByte (passed rest : List ℕ) (line : ℕ) : Type 0 where
  pub gap : List ℕ
  pub byte : ℕ
  pub after : List ℕ
  pub spelled : rest ≡ gap ++ byte ∷ after
  pub is_gap : IsGap gap
  pub not_white : is_white byte ≡ false
  pub no_comment : byte ≢ hash
  pub none : BeginsNoToken (byte ∷ after)
  pub line_is : line ≡ line_after (passed ++ gap)

-- After some tokens within their limits comes, at this line, a byte that begins no token.
abbrev pub BadByteAt : List ℕ → ℕ → Type 0
BadByteAt text line =
    (tokens : List Token) × (passed rest : List ℕ) × Row tokens [] text passed rest ×
    AreInLimits text tokens ×
    HasBadByte passed rest line

-- After some tokens within their limits comes, at this line, one that is past its limit.
abbrev pub RangeAt : List ℕ → ℕ → Type 0
RangeAt text line =
    (tokens : List Token) × (token : Token) × (passed rest : List ℕ) ×
    Row (tokens ++ token ∷ []) [] text passed rest ×
    AreInLimits text tokens × ¬ IsTokenInLimit text token × (line ≡ token.line)

-- the answer is exactly these tokens, or want of memory
abbrev pub Finds : Result Tokens TextRefusal → List Token → Type 0
Finds answer tokens = MatchResult answer (λ found. found.list ≡ tokens) (λ refusal. refusal ≡ Memory)

-- the answer is this refusal, or want of memory
abbrev pub Refuses : Result Tokens TextRefusal → TextRefusal → Type 0
Refuses answer cause = MatchResult answer (λ found. ⊥) (λ refusal. (refusal ≡ cause) ⊎ (refusal ≡ Memory))
