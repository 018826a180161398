-- The last word of a list, by its place.
use Rattle.std.proofs.Common.{◌≡◌, ℕ, zero, suc, ◌<◌, ◌-◌, List, [], ◌∷◌, length, slice_index_or, ap, arith}
use Rattle.std.proofs.Common.{slice_get, Some, sym, subst}
use Rattle.seuss_text.specs.declared.token.Token.{Token}
use Rattle.seuss_parser.specs.Words.{words_of}
use Rattle.seuss_parser.specs.Answers.{last_line}
use Rattle.seuss_parser.specs.declared.word.Word.{Word}

last_line-at : (words : List Word) (n : ℕ) (word : Word) → length words ≡ suc n →
    word ≡ slice_index_or words n word → word.line ≡ last_line words
last_line-at [] n word long at = absurd (omega arith)
last_line-at (first ∷ []) zero word long at = ap (λ (w : Word). w.line) at
last_line-at (first ∷ []) (suc n) word long at = absurd (omega arith)
last_line-at (first ∷ next ∷ words) zero word long at = absurd (omega arith)
last_line-at (first ∷ next ∷ words) (suc n) word long at =
    last_line-at (next ∷ words) n word (omega arith) at

-- the word at the last place has the last line
pub last_line-last : (words : List Word) (long : ℕ) (word : Word) → length words ≡ long → 0 < long →
    word ≡ slice_index_or words (long - 1) word → word.line ≡ last_line words
last_line-last words long word is some at = last_line-at words (long - 1) word (omega arith) at

-- the line of the last token is that of the last word
pub tokens-last : (text : List ℕ) (tokens : List Token) (token : Token) →
    slice_get tokens (length tokens - 1) ≡ Some token → token.line ≡ last_line (words_of text tokens)
tokens-last text [] token at = absurd (cc)
tokens-last text (first ∷ []) token at =
    let same : first ≡ token = cc at in sym (ap (λ (t : Token). t.line) same)
tokens-last text (first ∷ next ∷ tokens) token at =
    let before : length (first ∷ next ∷ tokens) - 1 ≡ suc (length (next ∷ tokens) - 1) = omega arith in
    tokens-last text (next ∷ tokens) token
    (subst (λ (n : ℕ). slice_get (first ∷ next ∷ tokens) n ≡ Some token) before at)
