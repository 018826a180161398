-- Reading an input part by part and line by line.
use Rattle.std.proofs.Common.{◌≡◌, ℕ, ◌+◌, ◌<◌, ◌≤◌, ℤ, List, [], ◌∷◌, ◌++◌, length, get_or, take, drop}
use Rattle.std.proofs.Common.{refl, sym, ap, ◌∙◌, subst, arith, append_assoc, append-nil, Err}
use Rattle.std.specs.Prelude.{Any}
use Rattle.std.specs.List.{flat_map}
use Rattle.std.proofs.lemmas.Grind.{flat_map-append}
use Rattle.seuss_text.specs.Limits.{max_text}
use Rattle.seuss_parser.specs.Inputs.{lines_of, words_of, filled, AreNumbers, IsNoNumber, ReadsInput}
use Rattle.seuss_parser.specs.InputLines.{Puts}
use Rattle.seuss_parser.specs.declared.input.refusal.InputRefusal.{InputRefusal}
use Rattle.seuss_parser.specs.declared.input.refusal.InputRefusal.TheVariants.{Bad, TooLong, Memory}
use Rattle.seuss_parser.proofs.InputNumbers.{numbers_append, lines_have, any_in}
use Rattle.seuss_parser.proofs.InputWords.{filled_there, filled_more, words_by_line, item_there}

-- the numbers of these words stand behind those from before
abbrev pub Stand : List (List ℕ) → List ℤ → List ℤ → Type 0
Stand words old new = (zs : List ℤ) × AreNumbers words zs × (new ≡ old ++ zs)

-- the numbers of some more words
pub stand_more : (words others all : List (List ℕ)) (old mid new : List ℤ) → Stand words old mid →
    Stand others mid new → all ≡ words ++ others → Stand all old new
stand_more words others all old mid new (zs, a, e) (ys, b, f) whole = (
  zs ++ ys,
  subst (λ ws. AreNumbers ws (zs ++ ys)) (sym whole) (numbers_append words others zs ys a b),
  f ∙ ap (λ xs. xs ++ ys) e ∙ append_assoc old zs ys,
)

-- the numbers of one more part
pub part_put : (parts all : List (List ℕ)) (part : List ℕ) (old mid new : List ℤ) →
    Stand (filled parts) old mid → Stand (filled (part ∷ [])) mid new → all ≡ parts ++ part ∷ [] →
    Stand (filled all) old new
part_put parts all part old mid new a b e =
    stand_more (filled parts) (filled (part ∷ [])) (filled all) old mid new a b
    (ap filled e ∙ filled_more parts (part ∷ []))

-- a part that is refused is refused in its line
pub part_refused : (all front : List (List ℕ)) (part : List ℕ) (n line : ℕ) (mid new old' new' : List ℤ)
    (refusal : InputRefusal) → Puts (filled (part ∷ [])) line mid new (Err refusal) →
    front ≡ take n all → (n < length all) × (part ≡ get_or all n part) →
    Puts (filled all) line old' new' (Err refusal)
part_refused all front part n line mid new old' new' (Bad k) (e, bad) prefix (less, here) = (
  e,
  subst (λ ps. Any IsNoNumber ps)
      (sym (ap filled (item_there all front n part prefix less here) ∙
      filled_more front (part ∷ drop (n + 1) all) ∙
      ap (λ ys. filled front ++ ys) (filled_more (part ∷ []) (drop (n + 1) all))))
      (any_in (filled front) (filled (part ∷ [])) (filled (drop (n + 1) all)) bad),
)
part_refused all front part n line mid new old' new' TooLong put prefix there = absurd put
part_refused all front part n line mid new old' new' Memory put prefix there = tt

-- a part with a byte that is no number is a word that is none
pub part_bad : (part : List ℕ) → 0 < length part → IsNoNumber part → Any IsNoNumber (filled (part ∷ []))
part_bad part some bad =
    subst (λ ps. Any IsNoNumber ps) (sym (filled_there [] [] part some))
    (0, part, omega arith, refl, bad)

-- the numbers of one more line
pub line_put : (lines all : List (List ℕ)) (line : List ℕ) (old new : List ℤ) →
    AreNumbers (flat_map words_of lines) old → Stand (words_of line) old new → all ≡ lines ++ line ∷ [] →
    AreNumbers (flat_map words_of all) new
line_put lines all line old new a (zs, b, e) whole =
    subst (λ ls. AreNumbers (flat_map words_of ls) new) (sym whole)
    (subst (λ ws. AreNumbers ws new)
    (sym (flat_map-append words_of lines (line ∷ []) ∙
    ap (λ ws. flat_map words_of lines ++ ws) (append-nil (words_of line))))
    (subst (λ xs. AreNumbers (flat_map words_of lines ++ words_of line) xs) (sym e)
    (numbers_append (flat_map words_of lines) (words_of line) old zs a b)))

-- a line that is refused is the first one that is bad
pub line_refused : (text : List ℕ) (front : List (List ℕ)) (line : List ℕ) (n k : ℕ) (old new : List ℤ)
    (refusal : InputRefusal) → length text ≤ max_text → Puts (words_of line) k old new (Err refusal) →
    AreNumbers (flat_map words_of front) old → k ≡ n + 1 → front ≡ take n (lines_of text) →
    (n < length (lines_of text)) × (line ≡ get_or (lines_of text) n line) → n ≡ length front →
    ReadsInput (Err refusal) text
line_refused text front line n k old new (Bad at) short (e, bad) a count prefix (less, here) len = (
  short,
  record {
    before = front;
    bad = line;
    behind = drop (n + 1) (lines_of text);
    spelled = item_there (lines_of text) front n line prefix less here;
    numbers = lines_have front old a;
    no_number = bad;
    line_is = omega arith;
  },
)
line_refused text front line n k old new TooLong short put a count prefix there len = absurd put
line_refused text front line n k old new Memory short put a count prefix there len = tt

-- behind the last line all words are read
pub all_read : (text : List ℕ) (lines : List (List ℕ)) (numbers : List ℤ) →
    AreNumbers (flat_map words_of lines) numbers → lines ≡ lines_of text → AreNumbers (words_of text) numbers
all_read text lines numbers a e =
    subst (λ ws. AreNumbers ws numbers) (ap (λ ls. flat_map words_of ls) e ∙ sym (words_by_line text)) a
