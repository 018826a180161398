-- The levels of certificates: one for each line `semi`.
use Rattle.std.proofs.Common.{◌≡◌, ℕ, ◌+◌, List, [], ◌∷◌, map, length, refl, sym, ap, ◌∙◌}
use Rattle.std.proofs.lemmas.List.{length-map, length-append}
use Rattle.std.proofs.lemmas.Slice.Zip.{AllZip-long}
use Rattle.seuss_program.specs.declared.tree.Ref.{Ref}
use Rattle.seuss_program.specs.declared.tree.Cat.{Cat}
use Rattle.seuss_program.specs.declared.tree.Semi.{Semi}
use Rattle.seuss_program.specs.declared.program.Program.{Program}
use Rattle.compat_matrix.specs.declared.certificate.Certificate.{Certificate}
use Rattle.compat_matrix.specs.Certificates.{Written, written_from, written, IsOf, AreCertificates}
use Rattle.report_text.specs.MatrixTexts.{certificates}

-- a certificate with its cat, and with its number too
abbrev of_cat : Cat Ref → Semi Ref → Cat Ref × Semi Ref
of_cat c s = (c, s)

abbrev of_number : ℕ → Cat Ref → Semi Ref → Written
of_number number c s = (number, (c, s))

-- there are as many certificates of cats with the numbers of the cats as without
counted : (number : ℕ) (cats : List (Cat Ref)) →
    length (written_from number cats) ≡ length (certificates cats)
counted number [] = refl
counted number (c ∷ cs) =
    let behind = written_from (number + 1) cs in
    length-append (map (of_number number c) c.semis) behind
    ∙ (ap (λ k. k + length behind)
    (length-map c.semis (of_number number c) ∙ sym (length-map c.semis (of_cat c)))
    ∙ (ap (λ k. length (map (of_cat c) c.semis) + k) (counted (number + 1) cs)
    ∙ sym (length-append (map (of_cat c) c.semis) (certificates cs))))

-- there are as many levels as lines of certificates
pub as_many_levels : (p : Program) (es : List Certificate) → AreCertificates p es →
    length (map (λ (e : Certificate). e.level) es) ≡ length (certificates p.cats)
as_many_levels p es are =
    length-map es (λ (e : Certificate). e.level)
    ∙ (AllZip-long IsOf (written p) es are ∙ counted 0 p.cats)
