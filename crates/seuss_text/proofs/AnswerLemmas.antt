-- What a text decides about the reader's answer.
use Rattle.std.proofs.Common.{ℕ, List, [], length, ap, refl, inl, inr, Ok, Err}
use Rattle.std.specs.Prelude.{IfOk, Result}
use Rattle.seuss_text.specs.Rows.{AreTokens, RiseFrom}
use Rattle.seuss_text.specs.Limits.{AreInLimits}
use Rattle.seuss_text.specs.Refusals.{BadByteAt, RangeAt, Finds, Refuses}
use Rattle.seuss_text.specs.Reading.{Reads}
use Rattle.seuss_text.specs.declared.refusal.TextRefusal.{TextRefusal}
use Rattle.seuss_text.specs.declared.refusal.TextRefusal.TheVariants.{BadByte, Range, TooLong, Memory}
use Rattle.seuss_text.specs.declared.token.Token.{Token}
use Rattle.seuss_text.specs.declared.token.Tokens.{Tokens}
use Rattle.seuss_text.proofs.RowLemmas.{row_rises, tokens_same, bad_byte_same, tokens_no_bad_byte}
use Rattle.seuss_text.proofs.RowLemmas.{tokens_no_range, bad_byte_no_range, range_same}

-- the tokens that are answered rise
pub answer_rises : (text : List ℕ) (answer : Result Tokens TextRefusal) → Reads text answer →
    IfOk answer (λ found. RiseFrom 0 found.list (length text))
answer_rises text (Ok found) ((passed, rest, row, last), limits) =
    row_rises found.list [] text passed rest row
answer_rises text (Err refusal) reads = tt

-- a text with tokens within their limits is answered by them
pub answer_finds : (text : List ℕ) (answer : Result Tokens TextRefusal) (tokens : List Token) →
    Reads text answer → AreTokens text tokens →
    AreInLimits text tokens → Finds answer tokens
answer_finds text (Ok found) tokens reads are limits = tokens_same text found.list tokens reads.0 are
answer_finds text (Err (BadByte n)) tokens reads are limits =
    absurd (tokens_no_bad_byte text tokens n are reads)
answer_finds text (Err (Range n)) tokens reads are limits =
    absurd (tokens_no_range text tokens n are limits reads)
answer_finds text (Err TooLong) tokens reads are limits = absurd reads
answer_finds text (Err Memory) tokens reads are limits = refl

-- a text with a bad byte behind tokens within their limits is refused for it
pub answer_bad_byte : (text : List ℕ) (answer : Result Tokens TextRefusal) (line : ℕ) →
    Reads text answer → BadByteAt text line →
    Refuses answer (BadByte line)
answer_bad_byte text (Ok found) line reads bad = tokens_no_bad_byte text found.list line reads.0 bad
answer_bad_byte text (Err (BadByte n)) line reads bad =
    inl (ap BadByte (bad_byte_same text n line reads bad))
answer_bad_byte text (Err (Range n)) line reads bad = absurd (bad_byte_no_range text line n bad reads)
answer_bad_byte text (Err TooLong) line reads bad = absurd reads
answer_bad_byte text (Err Memory) line reads bad = inr refl

-- a text with a token past its limit behind tokens within theirs is refused for it
pub answer_range : (text : List ℕ) (answer : Result Tokens TextRefusal) (line : ℕ) → Reads text answer →
    RangeAt text line →
    Refuses answer (Range line)
answer_range text (Ok found) line reads past = tokens_no_range text found.list line reads.0 reads.1 past
answer_range text (Err (BadByte n)) line reads past = absurd (bad_byte_no_range text n line reads past)
answer_range text (Err (Range n)) line reads past = inl (ap Range (range_same text n line reads past))
answer_range text (Err TooLong) line reads past = absurd reads
answer_range text (Err Memory) line reads past = inr refl
