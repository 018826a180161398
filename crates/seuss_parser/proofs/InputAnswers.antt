-- A text is read in one way.
use Rattle.std.proofs.Common.{◌≡◌, ◌≢◌, ℕ, ◌<◌, ℤ, List, [], ◌∷◌, length, get_or, refl, sym, ap, ◌∙◌, subst}
use Rattle.std.proofs.Common.{arith, Ok, Err, length-append}
use Rattle.std.specs.Prelude.{Result}
use Rattle.std.proofs.Math.ListN.{get_or-append}
use Rattle.std.proofs.Math.Seq.{get_or-append_seam}
use Rattle.seuss_parser.specs.Inputs.{lines_of, words_of, AreNumbers, IsBadInput, ReadsInput}
use Rattle.seuss_parser.specs.declared.input.refusal.InputRefusal.{InputRefusal}
use Rattle.seuss_parser.specs.declared.input.refusal.InputRefusal.TheVariants.{Bad, TooLong, Memory}
use Rattle.seuss_parser.proofs.InputNumbers.{HasNumbers, numbers_same, lines_have, all_numbers}
use Rattle.seuss_parser.proofs.InputWords.{words_by_line}

-- the bad line stands behind those before it
bad_here : (text : List ℕ) (line : ℕ) (b : IsBadInput text line) →
    get_or (lines_of text) (length b.before) [] ≡ b.bad
bad_here text line b =
    ap (λ ls. get_or ls (length b.before) []) b.spelled ∙ get_or-append_seam b.before b.bad b.behind []

-- a text that is all numbers has no bad line
bad_no_numbers : (text : List ℕ) (line : ℕ) (zs : List ℤ) → IsBadInput text line →
    AreNumbers (words_of text) zs → ⊥
bad_no_numbers text line zs b a =
    let have = lines_have (lines_of text) zs (subst (λ ws. AreNumbers ws zs) (words_by_line text) a) in
    let less : length b.before < length (lines_of text) =
    omega (arith, ap length b.spelled, length-append b.before (b.bad ∷ b.behind)) in
    all_numbers (words_of b.bad)
    (subst (λ l. HasNumbers (words_of l)) (bad_here text line b)
    (have (length b.before) [] less)) b.no_number

-- no bad line stands before another
not_before : (text : List ℕ) (n m : ℕ) (a : IsBadInput text n) (b : IsBadInput text m) →
    length a.before < length b.before → ⊥
not_before text n m a b less =
    let there : get_or b.before (length a.before) [] ≡ a.bad =
    sym (get_or-append b.before (b.bad ∷ b.behind) [] (length a.before) less) ∙
    ap (λ ls. get_or ls (length a.before) []) (sym b.spelled) ∙ bad_here text n a in
    all_numbers (words_of a.bad)
    (subst (λ l. HasNumbers (words_of l)) there (b.numbers (length a.before) [] less)) a.no_number

-- there is one bad line
bad_same : (text : List ℕ) (n m : ℕ) → IsBadInput text n → IsBadInput text m → n ≡ m
bad_same text n m a b =
    let up : length a.before < length b.before → ⊥ = not_before text n m a b in
    let down : length b.before < length a.before → ⊥ = not_before text m n b a in
    omega (arith, a.line_is, b.line_is)

-- two answers that aren't want of memory are the same
pub reads_same : (text : List ℕ) (a b : Result (List ℤ) InputRefusal) → ReadsInput a text →
    ReadsInput b text → a ≢ Err Memory → b ≢ Err Memory → a ≡ b
reads_same text (Err Memory) b r s p q = absurd (p refl)
reads_same text (Ok zs) (Err Memory) r s p q = absurd (q refl)
reads_same text (Err (Bad n)) (Err Memory) r s p q = absurd (q refl)
reads_same text (Err TooLong) (Err Memory) r s p q = absurd (q refl)
reads_same text (Ok zs) (Ok ys) r s p q = ap Ok (numbers_same (words_of text) zs ys r.1 s.1)
reads_same text (Ok zs) (Err (Bad m)) r s p q = absurd (bad_no_numbers text m zs s.1 r.1)
reads_same text (Err (Bad n)) (Ok ys) r s p q = absurd (bad_no_numbers text n ys r.1 s.1)
reads_same text (Err (Bad n)) (Err (Bad m)) r s p q = ap (λ k. Err (Bad k)) (bad_same text n m r.1 s.1)
reads_same text (Ok zs) (Err TooLong) r s p q = absurd (omega (arith, r.0))
reads_same text (Err TooLong) (Ok ys) r s p q = absurd (omega (arith, s.0))
reads_same text (Err (Bad n)) (Err TooLong) r s p q = absurd (omega (arith, r.0))
reads_same text (Err TooLong) (Err (Bad m)) r s p q = absurd (omega (arith, s.0))
reads_same text (Err TooLong) (Err TooLong) r s p q = refl
