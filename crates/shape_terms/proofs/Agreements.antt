-- Points that agree on the atoms, rests and bools of the first places, and points that are changed at one
-- place.
use Rattle.std.proofs.Common.{◌≡◌, ℕ, zero, suc, ◌+◌, ◌*◌, ◌-◌, ◌<◌, ◌≤◌, arith, Bool, true, false, ltb}
use Rattle.std.proofs.Common.{eqb, List, [], ◌∷◌, length, get_or, refl, sym, ap, ◌∙◌}
use Rattle.std.specs.Prelude.{All, if◌then◌else◌}
use Rattle.std.specs.Int.{w64, int_wrap}
use Rattle.std.specs.Int.RustNames.{FitsSigned}
use Rattle.std.proofs.lemmas.Bool.{lt-ltb, le-ltb, ne_eqb, eq-eqb}
use Rattle.std.proofs.lemmas.Int.{int_wrap_fits}
use Rattle.std.proofs.lemmas.List.Elements.{All-head, All-tail}
use Rattle.std.proofs.Math.Facts.{sfits_lit}
use Rattle.std.proofs.Math.IntN.{ℤ, pos}
use Rattle.shape_terms.specs.Points.{Point, HasNumbers}
use Rattle.shape_terms.specs.Numbers.{number, atom}
use Rattle.shape_terms.specs.Sequences.{numbers}
use Rattle.shape_terms.specs.Cases.{atoms_from}
use Rattle.shape_terms.proofs.LengthLemmas.{number_of_atom}

-- points that agree below a place
pub record Agree (place : ℕ) (p q : Point) : Type 0 where
  pub atoms : (k : ℕ) → k < 8 * place → p.atoms k ≡ q.atoms k
  pub rests : (r : ℕ) → r < place → p.rests r ≡ q.rests r
  pub truths : (k : ℕ) → k < place → p.truths k ≡ q.truths k

pub agree_below : (n m : ℕ) (p q : Point) → n ≤ m → Agree m p q → Agree n p q
agree_below n m p q h same = record {
  atoms = λ k l. same.atoms k (omega arith);
  rests = λ k l. same.rests k (omega arith);
  truths = λ k l. same.truths k (omega arith);
}

pub agree_on : (n : ℕ) (p q r : Point) → Agree n p q → Agree n q r → Agree n p r
agree_on n p q r a b = record {
  atoms = λ k l. a.atoms k l ∙ b.atoms k l;
  rests = λ k l. a.rests k l ∙ b.rests k l;
  truths = λ k l. a.truths k l ∙ b.truths k l;
}

pub agree_back : (n : ℕ) (p q : Point) → Agree n p q → Agree n q p
agree_back n p q a = record {
  atoms = λ k l. sym (a.atoms k l);
  rests = λ k l. sym (a.rests k l);
  truths = λ k l. sym (a.truths k l);
}

pub agree_self : (n : ℕ) (p : Point) → Agree n p p
agree_self n p = record { atoms = λ k l. refl; rests = λ k l. refl; truths = λ k l. refl }

-- the point with these numbers for the atoms from a place on, and this sequence and this bool for its rest
-- and its bool
abbrev pub with_place : ℕ → List ℤ → List ℤ → Bool → Point → Point
with_place place atoms rest truth q = record {
  atoms = λ k. if ltb k (8 * place) then q.atoms k else get_or atoms (k - 8 * place) (pos 0);
  rests = λ r. if eqb r place then rest else q.rests r;
  truths = λ k. if eqb k place then truth else q.truths k;
}

pub agree_with : (place : ℕ) (atoms rest : List ℤ) (truth : Bool) (q : Point) →
    Agree place q (with_place place atoms rest truth q)
agree_with place atoms rest truth q = record {
  atoms =
      λ k l.
      sym (ap (λ b. if b then q.atoms k else get_or atoms (k - 8 * place) (pos 0)) (lt-ltb k (8 * place) l));
  rests = λ k l. sym (ap (λ b. if b then rest else q.rests k) (ne_eqb k place (λ e. absurd (omega arith))));
  truths =
      λ k l. sym (ap (λ b. if b then truth else q.truths k) (ne_eqb k place (λ e. absurd (omega arith))));
}

fits_at : (ws : List ℤ) (i : ℕ) → All (FitsSigned w64) ws → FitsSigned w64 (get_or ws i (pos 0))
fits_at [] i all = sfits_lit tt
fits_at (w ∷ ws) zero all = All-head (FitsSigned w64) w ws all
fits_at (w ∷ ws) (suc i) all = fits_at ws i (All-tail (FitsSigned w64) w ws all)

either_fits : (b : Bool) (x y : ℤ) → FitsSigned w64 x → FitsSigned w64 y →
    FitsSigned w64 (if b then x else y)
either_fits true x y h k = h
either_fits false x y h k = k

either_all : (b : Bool) (xs ys : List ℤ) → All (FitsSigned w64) xs → All (FitsSigned w64) ys →
    All (FitsSigned w64) (if b then xs else ys)
either_all true xs ys h k = h
either_all false xs ys h k = k

pub numbers_with : (place : ℕ) (atoms rest : List ℤ) (truth : Bool) (q : Point) →
    All (FitsSigned w64) atoms → All (FitsSigned w64) rest →
    HasNumbers q → HasNumbers (with_place place atoms rest truth q)
numbers_with place atoms rest truth q a r has = record {
  atoms =
      λ k.
      either_fits (ltb k (8 * place)) (q.atoms k) (get_or atoms (k - 8 * place) (pos 0)) (has.atoms k)
      (fits_at atoms (k - 8 * place) a);
  rests = λ k. either_all (eqb k place) rest (q.rests k) r (has.rests k);
}

pub atom_with : (place : ℕ) (atoms rest : List ℤ) (truth : Bool) (q : Point) (i : ℕ) →
    (with_place place atoms rest truth q).atoms (8 * place + i) ≡ get_or atoms i (pos 0)
atom_with place atoms rest truth q i =
    ap (λ b. if b then q.atoms (8 * place + i) else get_or atoms (8 * place + i - 8 * place) (pos 0))
    (le-ltb (8 * place + i) (8 * place) (omega arith))
    ∙ ap (λ k. get_or atoms k (pos 0)) (back (8 * place) i)
  where
    back : (a i : ℕ) → a + i - a ≡ i
    back a i = omega arith

pub rest_with : (place : ℕ) (atoms rest : List ℤ) (truth : Bool) (q : Point) →
    (with_place place atoms rest truth q).rests place ≡ rest
rest_with place atoms rest truth q = ap (λ b. if b then rest else q.rests place) (eq-eqb place place refl)

pub truth_with : (place : ℕ) (atoms rest : List ℤ) (truth : Bool) (q : Point) →
    (with_place place atoms rest truth q).truths place ≡ truth
truth_with place atoms rest truth q = ap (λ b. if b then truth else q.truths place) (eq-eqb place place refl)

-- atoms that stand for these numbers
pub atoms_are : (ws : List ℤ) (first : ℕ) (p : Point) → All (FitsSigned w64) ws →
    ((i : ℕ) → i < length ws → p.atoms (first + i) ≡ get_or ws i (pos 0)) →
    numbers (atoms_from first (length ws)) p ≡ ws
atoms_are [] first p all h = refl
atoms_are (w ∷ ws) first p all h = ap (λ z. z ∷ numbers (atoms_from (first + 1) (length ws)) p)
    (number_of_atom first p ∙ ap (int_wrap w64) (ap p.atoms (none_more first) ∙ h 0 (omega arith))
    ∙ int_wrap_fits w64 w (All-head (FitsSigned w64) w ws all))
    ∙ ap (λ zs. w ∷ zs)
    (atoms_are ws (first + 1) p (All-tail (FitsSigned w64) w ws all)
    (λ i l. ap p.atoms (one_on first i) ∙ h (suc i) (omega arith)))
  where
    none_more : (n : ℕ) → n ≡ n + 0
    none_more n = omega arith

    one_on : (n i : ℕ) → n + 1 + i ≡ n + suc i
    one_on n i = omega arith

-- atoms stand for the same numbers at points that agree on them
pub atoms_same : (first many : ℕ) (p q : Point) → ((k : ℕ) → k < first + many → p.atoms k ≡ q.atoms k) →
    numbers (atoms_from first many) p ≡ numbers (atoms_from first many) q
atoms_same first zero p q h = refl
atoms_same first (suc many) p q h =
    ap (λ z. z ∷ numbers (atoms_from (first + 1) many) p)
    (number_of_atom first p ∙ ap (int_wrap w64) (h first (omega arith)) ∙ sym (number_of_atom first q))
    ∙ ap (λ zs. number (atom first) q ∷ zs) (atoms_same (first + 1) many p q (λ k l. h k (omega arith)))
