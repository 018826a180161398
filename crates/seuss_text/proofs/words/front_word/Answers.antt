-- What the first byte says of the longest token at the front.
use Rattle.std.proofs.Common.{sym}
use Rattle.seuss_text.proofs.WordLemmas.{none_empty, none_front, letters_front, digits_front, sign_front}
use Rattle.seuss_text.proofs.words.front_word.Goals as goal

pub returns-in_err-first : goal.returns-in_err-first
returns-in_err-first c = rw c.from_residual.ensures
    (none_empty c.args.text.now (sym c.in_err-first.ensures.value))

pub returns-in_err-len : goal.returns-in_err-len
returns-in_err-len c =
    rw c.from_residual-in_err-len.ensures
    (none_front c.args.text.now _ (sym c.in_ok-first.ensures.value)
    (sym c.if-is_ascii_alphabetic.ensures.value)
    (sym c.if-is_ascii_digit.ensures.value) (sym c.in_err-len.ensures))

pub returns-then-is_ascii_alphabetic : goal.returns-then-is_ascii_alphabetic
returns-then-is_ascii_alphabetic c =
    rw c.letters_kind.ensures
    (letters_front c.args.text.now _ _ (sym c.in_ok-first.ensures.value)
    (sym c.if-is_ascii_alphabetic.ensures.value) c.letters_len-len.ensures)

pub returns-then-is_ascii_digit : goal.returns-then-is_ascii_digit
returns-then-is_ascii_digit c =
    digits_front c.args.text.now _ _ (sym c.in_ok-first.ensures.value)
    (sym c.if-is_ascii_digit.ensures.value) c.digits_len.ensures

pub returns-in_ok-len : goal.returns-in_ok-len
returns-in_ok-len c =
    sign_front c.args.text.now _ _ (sym c.in_ok-first.ensures.value)
    (sym c.if-is_ascii_alphabetic.ensures.value)
    (sym c.if-is_ascii_digit.ensures.value) (sym c.in_ok-len.ensures)
