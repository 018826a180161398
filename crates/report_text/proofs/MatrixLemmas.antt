-- The lines of certificates and of rows of levels, written one after the other.
use Rattle.std.proofs.Common.{◌≡◌, ◌⊎◌, ℕ, zero, suc, ◌+◌, List, [], ◌∷◌, ◌++◌, ◌<◌, get_or, length, map}
use Rattle.std.proofs.Common.{take, drop, refl, sym, ◌∙◌, ap, inl, inr, arith, append_assoc}
use Rattle.std.proofs.lemmas.List.{length-append, length-map, length-drop}
use Rattle.std.specs.List.{flat_map, range_with_len}
use Rattle.seuss_base.specs.declared.level.Level.{Level}
use Rattle.seuss_program.specs.declared.tree.Ref.{Ref}
use Rattle.seuss_program.specs.declared.tree.Cat.{Cat}
use Rattle.seuss_program.specs.declared.tree.Semi.{Semi}
use Rattle.report_text.specs.MatrixTexts.{certificate_line, certificate_lines, certificates}
use Rattle.report_text.proofs.WritingLemmas.{piece_written, none_left}
use Rattle.report_text.proofs.RoundLemmas.{flat_map_range_more}

-- certificates of a cat, each with the cat
abbrev pub of_cat : Cat Ref → List (Semi Ref) → List (Cat Ref × Semi Ref)
of_cat c semis = map (λ (s : Semi Ref). (c, s)) semis

-- the line of the first of the certificates that are left is written
pub certificate_written : (c : Cat Ref) (s : Semi Ref) (level : Level) (ss ss' : List (Semi Ref))
    (ls ls' : List Level)
    (text after whole : List ℕ) → ss ≡ s ∷ ss' → ls ≡ level ∷ ls' →
    after ≡ text ++ certificate_line c s level →
    text ++ certificate_lines (of_cat c ss) ls ≡ whole →
    after ++ certificate_lines (of_cat c ss') ls' ≡ whole
certificate_written c s level ss ss' ls ls' text after whole first second written e =
    piece_written text (certificate_line c s level) (certificate_lines (of_cat c ss) ls)
    (certificate_lines (of_cat c ss') ls') after whole written (rw (first, second) refl) e

-- where no certificate or no level is left, the text is the whole
pub certificates_all : (c : Cat Ref) (ss : List (Semi Ref)) (ls : List Level) (text whole : List ℕ) →
    (ss ≡ []) ⊎ (ls ≡ []) → text ++ certificate_lines (of_cat c ss) ls ≡ whole → text ≡ whole
certificates_all c ss ls text whole (inl none) e =
    none_left text (certificate_lines (of_cat c ss) ls) whole (rw none refl) e
certificates_all c [] ls text whole (inr none) e = none_left text [] whole refl e
certificates_all c (s ∷ ss) ls text whole (inr none) e =
    none_left text (certificate_lines (of_cat c (s ∷ ss)) ls) whole (rw none refl) e

-- with a level for each certificate, the lines of two parts are those of the whole
lines_split : (xs ys : List (Cat Ref × Semi Ref)) (ls : List Level) → length ls ≡ length xs + length ys →
    certificate_lines (xs ++ ys) ls
    ≡ certificate_lines xs (take (length xs) ls) ++ certificate_lines ys (drop (length xs) ls)
lines_split [] ys ls many = refl
lines_split (x ∷ xs) ys [] many = absurd (omega (arith, many))
lines_split (x ∷ xs) ys (level ∷ ls) many =
    ap (λ bs. certificate_line x.0 x.1 level ++ bs) (lines_split xs ys ls (omega (arith, many)))
    ∙ sym (append_assoc (certificate_line x.0 x.1 level) (certificate_lines xs (take (length xs) ls))
    (certificate_lines ys (drop (length xs) ls)))

-- the certificates from a cat on are its own and those after it
certificates_from : (cats : List (Cat Ref)) (at : ℕ) (c : Cat Ref) → at < length cats →
    c ≡ get_or cats at c →
    certificates (drop at cats) ≡ of_cat c c.semis ++ certificates (drop (at + 1) cats)
certificates_from [] at c within is = absurd (omega (arith, within))
certificates_from (d ∷ ds) zero c within is =
    let same : d ≡ c = sym is in ap (λ (x : Cat Ref). of_cat x x.semis ++ certificates ds) same
certificates_from (d ∷ ds) (suc at) c within is =
    let more : suc at + 1 ≡ suc (at + 1) = omega arith in
    rw more (certificates_from ds at c (omega (arith, within)) is)

-- what is written of the cats so far, and the levels that are left for the others
pub record HasWritten (cats : List (Cat Ref)) (at : ℕ) (rest : List Level) (text whole : List ℕ) : Type 0
  where
    pub written : text ++ certificate_lines (certificates (drop at cats)) rest ≡ whole
    pub many : length rest ≡ length (certificates (drop at cats))

-- a cat has at most as many certificates as levels are left
pub enough_levels : (cats : List (Cat Ref)) (at : ℕ) (c : Cat Ref) (rest : List Level) (text whole : List ℕ)
    →
    HasWritten cats at rest text whole → at < length cats → c ≡ get_or cats at c →
    length rest ≡ length c.semis + length (certificates (drop (at + 1) cats))
enough_levels cats at c rest text whole h within is =
    h.many ∙ ap length (certificates_from cats at c within is)
    ∙ length-append (of_cat c c.semis) (certificates (drop (at + 1) cats))
    ∙ ap (λ n. n + length (certificates (drop (at + 1) cats)))
    (length-map c.semis (λ (s : Semi Ref). (c, s)))

-- the lines of a cat's certificates are written
pub cat_written : (cats : List (Cat Ref)) (at : ℕ) (c : Cat Ref) (rest now later : List Level)
    (text after whole : List ℕ) → HasWritten cats at rest text whole → at < length cats →
    c ≡ get_or cats at c →
    now ≡ take (length c.semis) rest → later ≡ drop (length c.semis) rest →
    after ≡ text ++ certificate_lines (of_cat c c.semis) now → HasWritten cats (at + 1) later after whole
cat_written cats at c rest now later text after whole h within is front back lined =
    let more = enough_levels cats at c rest text whole h within is in
    let own : length (of_cat c c.semis) ≡ length c.semis = length-map c.semis (λ (s : Semi Ref). (c, s)) in
    let split : certificate_lines (certificates (drop at cats)) rest
    ≡ certificate_lines (of_cat c c.semis) now ++ certificate_lines (certificates (drop (at + 1) cats))
    later =
    ap (λ xs. certificate_lines xs rest) (certificates_from cats at c within is)
    ∙ lines_split (of_cat c c.semis) (certificates (drop (at + 1) cats)) rest
    (more ∙ ap (λ n. n + length (certificates (drop (at + 1) cats))) (sym own))
    ∙ rw (own, front, back) refl in
    record {
      written = piece_written text (certificate_lines (of_cat c c.semis) now)
          (certificate_lines (certificates (drop at cats)) rest)
          (certificate_lines (certificates (drop (at + 1) cats)) later) after whole lined split h.written;
      many = rw back (length-drop (length c.semis) rest ∙ omega (arith, more));
    }

-- one more piece after those of the numbers so far
pub number_written : (f : ℕ → List ℕ) (n : ℕ) (start text after : List ℕ) →
    text ≡ start ++ flat_map f (range_with_len 0 n) → after ≡ text ++ f n →
    after ≡ start ++ flat_map f (range_with_len 0 (n + 1))
number_written f n start text after so_far written =
    written ∙ ap (λ bs. bs ++ f n) so_far ∙ append_assoc start (flat_map f (range_with_len 0 n)) (f n)
    ∙ ap (λ bs. start ++ bs) (sym (flat_map_range_more f n))
