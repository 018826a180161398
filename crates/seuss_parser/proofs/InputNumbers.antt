-- Which numbers words stand for.
use Rattle.std.proofs.Common.{◌≡◌, ℕ, zero, suc, ◌+◌, ◌<◌, true, false, ℤ, pos, List, [], ◌∷◌, ◌++◌, length}
use Rattle.std.proofs.Common.{get_or, refl, sym, ap, ◌∙◌, subst, inl, inr, arith, length-append}
use Rattle.std.specs.Prelude.{neg_ℤ, IsTrue, All, Any}
use Rattle.seuss_text.specs.Limits.{decimal_value}
use Rattle.std.specs.List.{flat_map}
use Rattle.std.proofs.lemmas.List.{get_or-append-add, get_or_append_left}
use Rattle.std.proofs.lemmas.List.Elements.{All-nil, All-cons}
use Rattle.seuss_text.specs.Words.{is_digits}
use Rattle.seuss_parser.specs.Inputs.{words_of, minus, IsNumber, IsNoNumber, AreNumbers}

-- a word stands for one number
number_same : (word : List ℕ) (z y : ℤ) → IsNumber word z → IsNumber word y → z ≡ y
number_same word z y (inl a) (inl b) = a.2 ∙ sym b.2
number_same word z y (inl a) (inr (digits, spelled, are, within, value)) =
    let none : false ≡ true = subst (λ w. IsTrue (is_digits w)) spelled a.0 in cc
number_same word z y (inr (digits, spelled, are, within, value)) (inl b) =
    let none : false ≡ true = subst (λ w. IsTrue (is_digits w)) spelled b.0 in cc
number_same word z y (inr (digits, spelled, are, within, value))
    (inr (others, spelled', are', within', value')) =
    let e : minus ∷ digits ≡ minus ∷ others = sym spelled ∙ spelled' in
    let same : digits ≡ others = cc in
    value ∙ ap (λ ds. neg_ℤ (pos (decimal_value ds))) same ∙ sym value'

pub numbers_same : (words : List (List ℕ)) (zs ys : List ℤ) → AreNumbers words zs → AreNumbers words ys →
    zs ≡ ys
numbers_same [] [] [] a b = refl
numbers_same [] (z ∷ zs) ys a b = absurd a
numbers_same [] [] (y ∷ ys) a b = absurd b
numbers_same (word ∷ words) [] ys a b = absurd a
numbers_same (word ∷ words) (z ∷ zs) [] a b = absurd b
numbers_same (word ∷ words) (z ∷ zs) (y ∷ ys) a b =
    let e : z ≡ y = number_same word z y a.0 b.0 in
    let es : zs ≡ ys = numbers_same words zs ys a.1 b.1 in cc

-- words behind one another
pub numbers_append : (words others : List (List ℕ)) (zs ys : List ℤ) → AreNumbers words zs →
    AreNumbers others ys → AreNumbers (words ++ others) (zs ++ ys)
numbers_append [] others [] ys a b = b
numbers_append [] others (z ∷ zs) ys a b = absurd a
numbers_append (word ∷ words) others [] ys a b = absurd a
numbers_append (word ∷ words) others (z ∷ zs) ys a b = (a.0, numbers_append words others zs ys a.1 b)

-- the words stand for numbers
abbrev pub HasNumbers : List (List ℕ) → Type 0
HasNumbers words = (zs : List ℤ) × AreNumbers words zs

numbers_front : (words others : List (List ℕ)) (zs : List ℤ) → AreNumbers (words ++ others) zs →
    HasNumbers words
numbers_front [] others zs a = ([], tt)
numbers_front (word ∷ words) others [] a = absurd a
numbers_front (word ∷ words) others (z ∷ zs) a =
    let f = numbers_front words others zs a.1 in (z ∷ f.0, (a.0, f.1))

numbers_back : (words others : List (List ℕ)) (zs : List ℤ) → AreNumbers (words ++ others) zs →
    HasNumbers others
numbers_back [] others zs a = (zs, a)
numbers_back (word ∷ words) others [] a = absurd a
numbers_back (word ∷ words) others (z ∷ zs) a = numbers_back words others zs a.1

-- where all words stand for numbers, those of each line do
pub lines_have : (lines : List (List ℕ)) (zs : List ℤ) → AreNumbers (flat_map words_of lines) zs →
    All (λ line. HasNumbers (words_of line)) lines
lines_have [] zs a = All-nil (λ line. HasNumbers (words_of line))
lines_have (line ∷ lines) zs a =
    let back = numbers_back (words_of line) (flat_map words_of lines) zs a in
    All-cons (λ line. HasNumbers (words_of line)) line lines
    (numbers_front (words_of line) (flat_map words_of lines) zs a) (lines_have lines back.0 back.1)

-- the word at a place stands for a number
number_at : (words : List (List ℕ)) (zs : List ℤ) (k : ℕ) (d : List ℕ) → AreNumbers words zs →
    k < length words →
    (z : ℤ) × IsNumber (get_or words k d) z
number_at [] zs k d a less = absurd (omega arith)
number_at (word ∷ words) [] k d a less = absurd a
number_at (word ∷ words) (z ∷ zs) zero d a less = (z, a.0)
number_at (word ∷ words) (z ∷ zs) (suc k) d a less = number_at words zs k d a.1 (omega arith)

-- words that stand for numbers have none that stands for no number
pub all_numbers : (words : List (List ℕ)) → HasNumbers words → Any IsNoNumber words → ⊥
all_numbers words (zs, a) (k, word, less, here, bad) =
    let n = number_at words zs k word a less in bad n.0 (subst (λ w. IsNumber w n.0) here n.1)

-- a word that stands for no number, among others
pub any_in : (before words behind : List (List ℕ)) → Any IsNoNumber words →
    Any IsNoNumber (before ++ (words ++ behind))
any_in before words behind (k, word, less, here, bad) = (
  length before + k,
  word,
  omega (arith, length-append before (words ++ behind), length-append words behind),
  get_or-append-add before (words ++ behind) k word ∙ get_or_append_left words behind word k less ∙ here,
  bad,
)
