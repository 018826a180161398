-- The levels of certificates that hold are sound.
use Rattle.std.proofs.Common.{arith, ◌≡◌, ◌≢◌, ℕ, suc, ◌+◌, Bool, true, false, ◌&&◌, if◌then◌else◌, List}
use Rattle.std.proofs.Common.{[], ◌∷◌, map, All, Option, None, Some, option_and_then, refl, sym, ap, subst}
use Rattle.std.proofs.Common.{◌∙◌}
use Rattle.std.specs.Prelude.{slice_get, ◌==◌}
use Rattle.std.specs.List.{AllZip}
use Rattle.std.proofs.lemmas.Bool.{eqb-true, and_parts}
use Rattle.std.proofs.lemmas.List.Elements.{All-nil, All-head, All-tail, All-append, All-map}
use Rattle.seuss_base.specs.declared.level.Level.{Level}
use Rattle.seuss_base.specs.declared.level.Level.TheVariants.{Never}
use Rattle.seuss_program.specs.declared.tree.Ref.{Ref}
use Rattle.seuss_program.specs.declared.tree.Ref.TheVariants as R
use Rattle.seuss_program.specs.declared.tree.Semi.{Semi}
use Rattle.seuss_program.specs.declared.tree.Cat.{Cat}
use Rattle.seuss_program.specs.declared.tree.Proc.{Proc}
use Rattle.seuss_program.specs.declared.program.Program.{Program}
use Rattle.seuss_program.specs.declared.program.BoxInfo.{BoxInfo}
use Rattle.seuss_program.specs.Programs.{procedure_of, cat_of}
use Rattle.seuss_program.specs.Keeping.{method_at}
use Rattle.method_code.specs.Codes.{cat_number}
use Rattle.shape_terms.specs.Cases.{Pair, pair_with}
use Rattle.commute_certs.specs.declared.verdict.Verdict.TheVariants.{Yes}
use Rattle.commute_certs.specs.Verdicts.{IsVerdict}
use Rattle.compat_matrix.specs.declared.certificate.Certificate.{Certificate}
use Rattle.compat_matrix.specs.Certified.{Commute}
use Rattle.compat_matrix.specs.Certificates.{Written, written, written_from, IsOf, AreCertificates, names}
use Rattle.compat_matrix.specs.Certificates.{levels_of}
use Rattle.compat_matrix.proofs.NamedMethods.{paired}
use Rattle.compat_matrix.proofs.Refusals.{some_same}

-- a certificate stands with the cat of its number
abbrev AtHome : Program → Written → Type 0
AtHome p one = slice_get p.cats one.0 ≡ Some one.1.0

-- the certificates of cats, where the first one of these stands at this number
home : (p : Program) (number : ℕ) (cats : List (Cat Ref)) →
    ((k : ℕ) (c : Cat Ref) → slice_get cats k ≡ Some c → slice_get p.cats (number + k) ≡ Some c) →
    All (AtHome p) (written_from number cats)
home p number [] places = All-nil (AtHome p)
home p number (c ∷ cats) places =
    All-append (AtHome p) (map (λ (s : Semi Ref). (number, (c, s))) c.semis) (written_from (number + 1) cats)
    (All-map (AtHome p) (λ (s : Semi Ref). (number, (c, s))) c.semis (λ k d less. here))
    (home p (number + 1) cats behind)
  where
    here : slice_get p.cats number ≡ Some c
    here = let e : number + 0 ≡ number = omega arith in
        subst (λ n. slice_get p.cats n ≡ Some c) e (places 0 c refl)

    behind : (k : ℕ) (d : Cat Ref) → slice_get cats k ≡ Some d → slice_get p.cats (number + 1 + k) ≡ Some d
    behind k d there = let e : number + suc k ≡ number + 1 + k = omega arith in
        subst (λ n. slice_get p.cats n ≡ Some d) e (places (suc k) d there)

-- the certificate whose level is found
record FoundIn (p : Program) (cat first second : ℕ) (level : Level) : Type 0 where
  one : Written
  entry : Certificate
  there : AtHome p one
  is : IsOf one entry
  named : names entry cat first second ≡ true
  level_is : entry.level ≡ level

-- the first certificate that names both has their level
find : (p : Program) (ws : List Written) (es : List Certificate) (cat first second : ℕ) (level : Level) →
    All (AtHome p) ws → AllZip IsOf ws es →
    levels_of es cat first second ≡ level → level ≢ Never → FoundIn p cat first second level
find p [] [] cat first second level places are h no_never = absurd (no_never (sym h))
find p [] (e ∷ es) cat first second level places are h no_never = absurd are
find p (w ∷ ws) [] cat first second level places are h no_never = absurd are
find p (w ∷ ws) (e ∷ es) cat first second level places are h no_never =
    by (names e cat first second) refl h
    (λ k. find p ws es cat first second level (All-tail (AtHome p) w ws places) are.1 k no_never)
  where
    by : (b : Bool) → names e cat first second ≡ b →
        (if b then e.level else levels_of es cat first second) ≡ level →
        (levels_of es cat first second ≡ level → FoundIn p cat first second level) →
        FoundIn p cat first second level
    by true is h others = record {
      one = w;
      entry = e;
      there = All-head (AtHome p) w ws places;
      is = are.0;
      named = is;
      level_is = h;
    }
    by false is h others = others h

-- the cat of a box and the pair of a certificate
record Sits (p : Program) (box number : ℕ) (q : Proc Ref) : Type 0 where
  own : Cat Ref
  cat : cat_of p box ≡ Some own
  there : slice_get own.procs number ≡ Some q
  numbered : slice_get p.cats (cat_number (slice_get p.boxes box)) ≡ Some own

-- a procedure of a box stands in the cat of the box
sits : (p : Program) (box number : ℕ) (q : Proc Ref) → procedure_of p box number ≡ Some q →
    Sits p box number q
sits p box number q h = by_box (slice_get p.boxes box) refl h
  where
    by_cat : (b : BoxInfo) → slice_get p.boxes box ≡ Some b → (o : Option (Cat Ref)) →
        slice_get p.cats b.cat ≡ o →
        option_and_then (λ (c : Cat Ref). slice_get c.procs number) o ≡ Some q → Sits p box number q
    by_cat b is None cat h = absurd (none_some h)
      where
        none_some : None ≡ Some q → ⊥
        none_some h = cc
    by_cat b is (Some c) cat h = record {
      own = c;
      cat = ap (λ (o : Option BoxInfo). option_and_then (λ (b : BoxInfo). slice_get p.cats b.cat) o) is
          ∙ cat;
      there = h;
      numbered = ap (λ (o : Option BoxInfo). slice_get p.cats (cat_number o)) is ∙ cat;
    }

    by_box : (o : Option BoxInfo) → slice_get p.boxes box ≡ o →
        option_and_then (λ (c : Cat Ref). slice_get c.procs number)
        (option_and_then (λ (b : BoxInfo). slice_get p.cats b.cat) o) ≡ Some q → Sits p box number q
    by_box None is h = absurd (none_some h)
      where
        none_some : None ≡ Some q → ⊥
        none_some h = cc
    by_box (Some b) is h = by_cat b is (slice_get p.cats b.cat) refl h

-- Where certificates hold, two methods of a cat commute at the level that these give them.
pub sound : (p : Program) (es : List Certificate) →
    ((pair : Pair) (level : Level) (box first second : ℕ) → cat_of p box ≡ Some pair.cat →
    procedure_of p box first ≡ Some pair.first →
    procedure_of p box second ≡ Some pair.second → IsVerdict pair (Yes level) →
    Commute p box first second pair.first pair.second level) →
    AreCertificates p es →
    (box first second : ℕ) (m n : Proc Ref) (level : Level) →
    procedure_of p box first ≡ Some m → procedure_of p box second ≡ Some n →
    levels_of es (cat_number (slice_get p.boxes box)) first second ≡ level → level ≢ Never →
    Commute p box first second m n level
sound p es law are box first second m n level here other found no_never =
    let number = cat_number (slice_get p.boxes box) in
    let places : All (AtHome p) (written p) = home p 0 p.cats (λ k c there. from_start k c there) in
    let f : FoundIn p number first second level =
    find p (written p) es number first second level places are found no_never in
    let semi = f.one.1.1 in
    let decided = f.is.decided in
    let s : Sits p box first m = sits p box first m here in
    let t : Sits p box second n = sits p box second n other in
    let one = and_parts (f.entry.cat == number)
    ((f.entry.first == first) && (f.entry.second == second)) f.named in
    let two = and_parts (f.entry.first == first) (f.entry.second == second) one.1 in
    let cat : f.one.0 ≡ number = sym f.is.same_cat ∙ eqb-true f.entry.cat number one.0 in
    let first_is : f.entry.first ≡ first = eqb-true f.entry.first first two.0 in
    let second_is : f.entry.second ≡ second = eqb-true f.entry.second second two.1 in
    let own : f.one.1.0 ≡ s.own =
    some_same f.one.1.0 s.own (sym f.there ∙ (ap (λ k. slice_get p.cats k) cat ∙ s.numbered)) in
    let own_too : t.own ≡ s.own = some_same t.own s.own (sym t.cat ∙ s.cat) in
    let m_there : method_at semi.first f.one.1.0 ≡ Some m =
    ap (λ r. method_at r f.one.1.0) (f.is.first ∙ ap (λ k. R.Method k) first_is)
    ∙ (ap (λ (c : Cat Ref). slice_get c.procs first) own ∙ s.there) in
    let n_there : method_at semi.second f.one.1.0 ≡ Some n =
    ap (λ r. method_at r f.one.1.0) (f.is.second ∙ ap (λ k. R.Method k) second_is)
    ∙ (ap (λ (c : Cat Ref). slice_get c.procs second) (own ∙ sym own_too) ∙ t.there) in
    let made = pair_with f.one.1.0 semi.hints m n in
    let pair : decided.pair ≡ made =
    some_same decided.pair made (sym decided.about ∙ paired f.one.1.0 semi m n m_there n_there) in
    let verdict : IsVerdict made (Yes level) =
    subst (λ l. IsVerdict made (Yes l)) f.level_is
    (subst (λ (q : Pair). IsVerdict q (Yes f.entry.level)) pair decided.is) in
    law made level box first second (s.cat ∙ ap (λ (c : Cat Ref). Some c) (sym own))
    here other verdict
  where
    from_start : (k : ℕ) (c : Cat Ref) → slice_get p.cats k ≡ Some c → slice_get p.cats (0 + k) ≡ Some c
    from_start k c there = let e : k ≡ 0 + k = omega arith in
        subst (λ n. slice_get p.cats n ≡ Some c) e there
