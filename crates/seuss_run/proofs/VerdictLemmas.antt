-- The checks of the bytes give one answer each, by the laws of the crates that make them.
use Rattle.std.proofs.Common.{◌≡◌, ℕ, ◌<◌, ◌≤◌, List, length, refl, sym, ap, ◌∙◌, arith}
use Rattle.std.specs.Prelude.{Ok, Err}
use Rattle.seuss_text.specs.Rows.{AreTokens}
use Rattle.seuss_text.specs.Limits.{AreInLimits, max_text}
use Rattle.seuss_text.specs.Refusals.{BadByteAt, RangeAt}
use Rattle.seuss_text.specs.declared.token.Token.{Token}
use Rattle.report_text.specs.declared.refusals.Refused.{Refused}
use Rattle.report_text.specs.declared.refusals.Refused.TheVariants as R
use Rattle.seuss_run.specs.Splits.{IsSplit}
use Rattle.seuss_run.specs.Stages.{IsOne}
use Rattle.seuss_run.specs.Verdicts.{is_read, is_split, has_tokens, IsTextFault}

-- few bytes, or more than are read
pub one_read : IsOne is_read
one_read bytes (Ok a) (Ok b) (is, few) (again, few') = ap Ok (is ∙ sym again)
one_read bytes (Ok a) (Err why) (is, few) (long, told) = absurd (omega (arith, few, long))
one_read bytes (Err why) (Ok a) (long, told) (is, few) = absurd (omega (arith, few, long))
one_read bytes (Err why) (Err cause) (long, told) (long', told') = ap Err (told ∙ sym told')

-- bytes are split in one way
pub one_split_of : ((bytes program other input behind : List ℕ) → IsSplit bytes program input →
    IsSplit bytes other behind →
    (program ≡ other) × (input ≡ behind)) → IsOne is_split
one_split_of law bytes (Ok (program, input)) (Ok (other, behind)) is again =
    let same = law bytes program other input behind is again in cc (same.0, same.1)
one_split_of law bytes (Ok parts) (Err why) is again = absurd again
one_split_of law bytes (Err why) other is again = absurd is

-- the faults of a text: its length, a byte that begins no token, or a token past its limit
pub data IsFault (text : List ℕ) (why : Refused) : Type 0 where
  too_long : max_text < length text → why ≡ R.Long → IsFault text why
  bad_byte : (line : ℕ) → length text ≤ max_text → BadByteAt text line → why ≡ R.Byte line → IsFault text why
  past : (line : ℕ) → length text ≤ max_text → RangeAt text line → why ≡ R.Range line → IsFault text why

pub fault_of : (text : List ℕ) (why : Refused) → IsTextFault text why → IsFault text why
fault_of text R.Long fault = too_long fault refl
fault_of text (R.Byte n) fault = bad_byte n fault.0 fault.1 refl
fault_of text (R.Range n) fault = past n fault.0 fault.1 refl
fault_of text (R.Syntax n) fault = absurd fault
fault_of text (R.Nesting n) fault = absurd fault
fault_of text (R.Twice n) fault = absurd fault
fault_of text (R.Unknown n) fault = absurd fault
fault_of text (R.WrongKind n) fault = absurd fault
fault_of text (R.WrongType n) fault = absurd fault
fault_of text (R.Arguments n) fault = absurd fault
fault_of text (R.Count n) fault = absurd fault
fault_of text (R.PartialCall n) fault = absurd fault
fault_of text (R.TotalCall n) fault = absurd fault
fault_of text (R.Cycle n) fault = absurd fault
fault_of text (R.Input n) fault = absurd fault
fault_of text (R.Property n) fault = absurd fault
fault_of text (R.CertificateNo n) fault = absurd fault
fault_of text (R.CertificateUnclear n) fault = absurd fault
fault_of text R.Attempts fault = absurd fault
fault_of text R.Action fault = absurd fault

-- what `seuss_text` says of the faults of a text
pub record OneFault : Type 0 where
  pub bad_byte : (text : List ℕ) (m n : ℕ) → BadByteAt text m → BadByteAt text n → m ≡ n
  pub range : (text : List ℕ) (m n : ℕ) → RangeAt text m → RangeAt text n → m ≡ n
  pub one_kind : (text : List ℕ) (m n : ℕ) → BadByteAt text m → RangeAt text n → ⊥
  pub no_bad_byte : (text : List ℕ) (tokens : List Token) (n : ℕ) → AreTokens text tokens →
      BadByteAt text n → ⊥
  pub no_range : (text : List ℕ) (tokens : List Token) (n : ℕ) → AreTokens text tokens →
      AreInLimits text tokens → RangeAt text n → ⊥

module _ (law : OneFault) (reading : (text : List ℕ) (xs ys : List Token) → AreTokens text xs →
    AreTokens text ys → xs ≡ ys) where
  -- a text with tokens has no fault
  no_fault : (text : List ℕ) (tokens : List Token) (why : Refused) → length text ≤ max_text →
      AreTokens text tokens →
      AreInLimits text tokens → IsFault text why → ⊥
  no_fault text tokens why short are within (too_long long is) = omega (arith, short, long)
  no_fault text tokens why short are within (bad_byte line s bad is) =
      law.no_bad_byte text tokens line are bad
  no_fault text tokens why short are within (past line s range is) =
      law.no_range text tokens line are within range

  one_fault : (text : List ℕ) (why cause : Refused) → IsFault text why → IsFault text cause → why ≡ cause
  one_fault text why cause (too_long long is) (too_long long' is') = is ∙ sym is'
  one_fault text why cause (too_long long is) (bad_byte line s bad is') = absurd (omega (arith, long, s))
  one_fault text why cause (too_long long is) (past line s range is') = absurd (omega (arith, long, s))
  one_fault text why cause (bad_byte line s bad is) (too_long long is') = absurd (omega (arith, long, s))
  one_fault text why cause (bad_byte line s bad is) (bad_byte n s' bad' is') =
      is ∙ ap R.Byte (law.bad_byte text line n bad bad') ∙ sym is'
  one_fault text why cause (bad_byte line s bad is) (past n s' range is') =
      absurd (law.one_kind text line n bad range)
  one_fault text why cause (past line s range is) (too_long long is') = absurd (omega (arith, long, s))
  one_fault text why cause (past line s range is) (bad_byte n s' bad is') =
      absurd (law.one_kind text n line bad range)
  one_fault text why cause (past line s range is) (past n s' range' is') =
      is ∙ ap R.Range (law.range text line n range range') ∙ sym is'

  -- a text has its tokens, or one fault
  pub one_has_tokens : IsOne has_tokens
  one_has_tokens text (Ok (t, xs)) (Ok (u, ys)) (is, short, are, within) (is', short', are', within') =
      let same : t ≡ u = is ∙ sym is' in let tokens : xs ≡ ys = reading text xs ys are are' in
      cc (same, tokens)
  one_has_tokens text (Ok (t, xs)) (Err why) (is, short, are, within) fault =
      absurd (no_fault text xs why short are within (fault_of text why fault))
  one_has_tokens text (Err why) (Ok (t, xs)) fault (is, short, are, within) =
      absurd (no_fault text xs why short are within (fault_of text why fault))
  one_has_tokens text (Err why) (Err cause) fault again =
      ap Err (one_fault text why cause (fault_of text why fault) (fault_of text cause again))
