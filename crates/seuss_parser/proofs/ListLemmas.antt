-- Facts about words and pieces, one behind the other.
use Rattle.std.proofs.Common.{◌≡◌, List, [], ◌∷◌, ◌++◌, refl, ap, ◌∙◌, length, ◌≤◌, append_assoc}
use Rattle.std.proofs.Common.{length-append, arith, ◌+◌}
use Rattle.seuss_parser.specs.Phrases.{Piece, words_in}
use Rattle.seuss_parser.specs.declared.word.Word.{Word}
use Rattle.seuss_parser.proofs.Tells.{Alike}

pub append-nothing : {A : Type 0} (xs : List A) → xs ++ [] ≡ xs
append-nothing [] = refl
append-nothing (x ∷ xs) = ap (λ ys. x ∷ ys) (append-nothing xs)

pub words_in-append : (front back : List Piece) → words_in (front ++ back) ≡ words_in front ++ words_in back
words_in-append [] back = refl
words_in-append (piece ∷ front) back = ap (λ ws. piece.word ∷ ws) (words_in-append front back)

-- the words of pieces behind others, and what follows
pub words_in-append_then : (front back : List Piece) (rest : List Word) →
    words_in (front ++ back) ++ rest ≡ words_in front ++ (words_in back ++ rest)
words_in-append_then front back rest =
    ap (λ ws. ws ++ rest) (words_in-append front back) ∙ append_assoc (words_in front) (words_in back) rest

tail_same : {A : Type 0} (x y : A) (xs ys : List A) → x ∷ xs ≡ y ∷ ys → xs ≡ ys
tail_same x y xs ys same = cc

pub append-cancel : {A : Type 0} (front xs ys : List A) → front ++ xs ≡ front ++ ys → xs ≡ ys
append-cancel [] xs ys same = same
append-cancel (x ∷ front) xs ys same = append-cancel front xs ys
    (tail_same x x (front ++ xs) (front ++ ys) same)

-- words that are alike are so behind the same ones
pub alike-behind : (front rest behind : List Word) → Alike rest behind →
    Alike (front ++ rest) (front ++ behind)
alike-behind [] rest behind alike = alike
alike-behind (word ∷ front) rest behind alike = refl

pub length-rest : (front rest words : List Word) → words ≡ front ++ rest → length rest ≤ length words
length-rest front rest words are =
    let long : length words ≡ length (front ++ rest) = ap (λ ws. length ws) are in
    let both : length (front ++ rest) ≡ length front + length rest = length-append front rest in
    omega arith
