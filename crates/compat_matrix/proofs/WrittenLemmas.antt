-- The certificates of a program in the order of the text.
use Rattle.std.proofs.Common.{◌≡◌, ℕ, suc, ◌+◌, ◌≤◌, List, [], ◌∷◌, ◌++◌, length, drop, map, Some, All, Err}
use Rattle.std.proofs.Common.{refl, sym, ap, ◌∙◌, subst, arith, append_assoc, append-nil}
use Rattle.std.specs.Prelude.{slice_get}
use Rattle.std.specs.List.{AllZip}
use Rattle.std.proofs.lemmas.Option.{slice_get_within, get_or_from_slice_get}
use Rattle.std.proofs.lemmas.List.{drop_all}
use Rattle.std.proofs.lemmas.List.Elements.{All-nil, All-cons}
use Rattle.std.proofs.Math.Seq.{drop-cons}
use Rattle.seuss_program.specs.declared.tree.Ref.{Ref}
use Rattle.seuss_program.specs.declared.tree.Semi.{Semi}
use Rattle.seuss_program.specs.declared.tree.Cat.{Cat}
use Rattle.seuss_program.specs.declared.program.Program.{Program}
use Rattle.commute_certs.specs.declared.verdict.Verdict.{Verdict}
use Rattle.commute_certs.specs.declared.verdict.Verdict.TheVariants as V
use Rattle.compat_matrix.specs.declared.certificate.Certificate.{Certificate}
use Rattle.compat_matrix.specs.declared.refusal.MatrixRefusal.{MatrixRefusal}
use Rattle.compat_matrix.specs.declared.refusal.MatrixRefusal.TheVariants as M
use Rattle.compat_matrix.specs.Certificates.{Written, written, written_from, HasYes, Fails, IsRefused, IsOf}
use Rattle.compat_matrix.specs.Certificates.{AreCertificates, Refuses}
use Rattle.compat_matrix.specs.Deciding.{Answers, SoFar}

-- what is left from a place on begins with what stands there
drop_there : {X : Type 0} (xs : List X) (at : ℕ) (x : X) → slice_get xs at ≡ Some x →
    drop at xs ≡ x ∷ drop (at + 1) xs
drop_there xs at x there =
    let next : suc at ≡ at + 1 = omega arith in
    drop-cons xs at x (slice_get_within xs at x there)
    ∙ (ap (λ y. y ∷ drop (suc at) xs) (get_or_from_slice_get xs at x x there)
    ∙ ap (λ n. x ∷ drop n xs) next)

-- one certificate more by numbers
zip_push : (ws : List Written) (es : List Certificate) (one : Written) (e : Certificate) →
    AllZip IsOf ws es → IsOf one e → AllZip IsOf (ws ++ one ∷ []) (es ++ e ∷ [])
zip_push [] [] one e zip is = (is, tt)
zip_push [] (x ∷ es) one e zip is = absurd zip
zip_push (w ∷ ws) [] one e zip is = absurd zip
zip_push (w ∷ ws) (x ∷ es) one e zip is = (zip.0, zip_push ws es one e zip.1 is)

-- certificates by numbers hold
pub all_hold : (ws : List Written) (es : List Certificate) → AllZip IsOf ws es → All HasYes ws
all_hold [] [] zip = All-nil HasYes
all_hold [] (e ∷ es) zip = absurd zip
all_hold (w ∷ ws) [] zip = absurd zip
all_hold (w ∷ ws) (e ∷ es) zip = All-cons HasYes w ws (e.level, zip.0.decided) (all_hold ws es zip.1)

-- the certificates of a cat from a place on, and those of the cats behind it
abbrev pub rest_of : Program → ℕ → Cat Ref → ℕ → List Written
rest_of p cat own at =
    map (λ (s : Semi Ref). (cat, (own, s))) (drop at own.semis)
    ++ written_from (cat + 1) (drop (cat + 1) p.cats)

module _ (p : Program) where
  -- before the first certificate
  pub none_yet : SoFar p (written p) []
  none_yet = record { before = []; split = refl; decided = tt }

  -- one certificate more
  next : (rest : List Written) (es : List Certificate) (one : Written) (e : Certificate) →
      SoFar p (one ∷ rest) es → IsOf one e → SoFar p rest (es ++ e ∷ [])
  next rest es one e so_far is = record {
    before = so_far.before ++ one ∷ [];
    split = so_far.split ∙ sym (append_assoc so_far.before (one ∷ []) rest);
    decided = zip_push so_far.before es one e so_far.decided is;
  }

  -- behind the last certificate
  pub are_all : (es : List Certificate) → SoFar p [] es → AreCertificates p es
  are_all es so_far =
      subst (λ ws. AllZip IsOf ws es) (sym (so_far.split ∙ append-nil so_far.before)) so_far.decided

  -- the next certificate is the first one that doesn't hold
  first_refused : (rest : List Written) (es : List Certificate) (one : Written) (line : ℕ)
      (verdict : Verdict) → SoFar p (one ∷ rest) es → Fails one line verdict → IsRefused p line verdict
  first_refused rest es one line verdict so_far fails = record {
    before = so_far.before;
    one = one;
    behind = rest;
    split = so_far.split;
    earlier = all_hold so_far.before es so_far.decided;
    fails = fails;
  }

  -- the next certificate doesn't hold, or memory was refused
  refuses : (rest : List Written) (es : List Certificate) (one : Written) (refusal : MatrixRefusal) →
      SoFar p (one ∷ rest) es → Answers one (Err refusal) → Refuses p refusal
  refuses rest es one (M.No line vars first second) so_far fails =
      first_refused rest es one line (V.No vars first second) so_far fails
  refuses rest es one (M.Unclear line why) so_far fails =
      first_refused rest es one line (V.Unclear why) so_far fails
  refuses rest es one M.Memory so_far fails = tt

  module _ (cat : ℕ) (own : Cat Ref) where
    -- from a cat on its own certificates stand first
    pub into_cat : (es : List Certificate) → slice_get p.cats cat ≡ Some own →
        SoFar p (written_from cat (drop cat p.cats)) es → SoFar p (rest_of p cat own 0) es
    into_cat es there so_far =
        subst (λ cs. SoFar p (written_from cat cs) es) (drop_there p.cats cat own there) so_far

    -- behind the last certificate of a cat stand those of the next one
    pub out_of_cat : (es : List Certificate) (at : ℕ) → length own.semis ≤ at →
        SoFar p (rest_of p cat own at) es → SoFar p (written_from (cat + 1) (drop (cat + 1) p.cats)) es
    out_of_cat es at past so_far =
        subst (λ ss. SoFar p (map (λ (s : Semi Ref). (cat, (own, s))) ss
        ++ written_from (cat + 1) (drop (cat + 1) p.cats)) es)
        (drop_all at own.semis past) so_far

    -- the certificate at a place of a cat stands first
    at_place : (es : List Certificate) (at : ℕ) (semi : Semi Ref) → slice_get own.semis at ≡ Some semi →
        SoFar p (rest_of p cat own at) es → SoFar p ((cat, (own, semi)) ∷ rest_of p cat own (at + 1)) es
    at_place es at semi among so_far =
        subst (λ ss. SoFar p (map (λ (s : Semi Ref). (cat, (own, s))) ss
        ++ written_from (cat + 1) (drop (cat + 1) p.cats)) es)
        (drop_there own.semis at semi among) so_far

    -- the certificate at a place of a cat holds
    pub next_of_cat : (es : List Certificate) (at : ℕ) (semi : Semi Ref) (e : Certificate) →
        slice_get own.semis at ≡ Some semi → IsOf (cat, (own, semi)) e →
        SoFar p (rest_of p cat own at) es → SoFar p (rest_of p cat own (at + 1)) (es ++ e ∷ [])
    next_of_cat es at semi e among is so_far =
        next (rest_of p cat own (at + 1)) es (cat, (own, semi)) e (at_place es at semi among so_far) is

    -- the certificate at a place of a cat doesn't hold
    pub refused_of_cat : (es : List Certificate) (at : ℕ) (semi : Semi Ref) (refusal : MatrixRefusal) →
        slice_get own.semis at ≡ Some semi → Answers (cat, (own, semi)) (Err refusal) →
        SoFar p (rest_of p cat own at) es → Refuses p refusal
    refused_of_cat es at semi refusal among fails so_far =
        refuses (rest_of p cat own (at + 1)) es (cat, (own, semi)) refusal (at_place es at semi among so_far)
        fails
