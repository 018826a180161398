-- Each value of a place is that of one of its cases, at a point that keeps the places before.
use Rattle.std.proofs.Common.{◌≡◌, ℕ, zero, suc, ◌+◌, ◌*◌, ◌-◌, ◌<◌, ◌≤◌, inl, inr, arith, Bool, true}
use Rattle.std.proofs.Common.{false, ltb, List, [], ◌∷◌, ◌++◌, length, take, drop, map, refl, sym, ap, ◌∙◌}
use Rattle.std.proofs.Common.{subst}
use Rattle.std.specs.Prelude.{All}
use Rattle.std.specs.List.{range_with_len}
use Rattle.std.specs.Int.{w64, int_wrap}
use Rattle.std.specs.Int.RustNames.{FitsSigned}
use Rattle.std.proofs.lemmas.Int.{int_wrap_fits}
use Rattle.std.proofs.lemmas.Bool.{ltb-true, ltb-false}
use Rattle.std.proofs.lemmas.List.{append_assoc, take-append-drop, length-take-le, length-drop}
use Rattle.std.proofs.lemmas.List.{get_or_append_left, get_or-append-add}
use Rattle.std.proofs.lemmas.List.Elements.{All-nil, All-cons, All-take, All-drop, All-append}
use Rattle.std.proofs.Math.IntN.{ℤ, pos}
use Rattle.seuss_program.specs.declared.state.Value.{Value}
use Rattle.seuss_program.specs.declared.state.Value.TheVariants as V
use Rattle.seuss_program.specs.declared.tree.Kind.{Kind}
use Rattle.seuss_program.specs.declared.tree.Kind.TheVariants as K
use Rattle.seuss_program.specs.Keeping.{kind_of}
use Rattle.shape_terms.specs.declared.symbol.Symbol.{Symbol}
use Rattle.shape_terms.specs.declared.symbol.Symbol.TheVariants as S
use Rattle.shape_terms.specs.Points.{Point, HasNumbers}
use Rattle.shape_terms.specs.Numbers.{atom}
use Rattle.shape_terms.specs.Sequences.{numbers}
use Rattle.shape_terms.specs.Symbols.{value_at}
use Rattle.shape_terms.proofs.Bits.{HasBits}
use Rattle.shape_terms.specs.Cases.{atoms_from, exact_choice, long_choice, sequence_choices, var_choices}
use Rattle.shape_terms.proofs.LengthLemmas.{number_of_atom}
use Rattle.shape_terms.proofs.Members.{Within, within_left, within_right, within_map}
use Rattle.shape_terms.proofs.Agreements.{Agree, with_place, agree_with, agree_self, numbers_with}
use Rattle.shape_terms.proofs.Agreements.{atom_with, rest_with, truth_with, atoms_are, atoms_same}

-- a symbol that depends on the places below one alone
abbrev pub IsLocal : ℕ → Symbol → Type 0
IsLocal place s = (p q : Point) → Agree place p q → value_at s p ≡ value_at s q

-- one of some symbols stands for a value, at a point that agrees with another one below a place
pub record Chosen (place : ℕ) (symbols : List Symbol) (x : Value) (q : Point) : Type 0 where
  pub symbol : Symbol
  pub within : Within symbols symbol
  pub point : Point
  pub numbers : HasNumbers point
  pub agrees : Agree place q point
  pub value : value_at symbol point ≡ x
  pub alone : IsLocal (place + 1) symbol

none_added : (n : ℕ) → n ≡ n + 0
none_added n = omega arith

atom_local : (place : ℕ) → IsLocal (place + 1) (S.Number (atom (8 * place)))
atom_local place p q same =
    ap V.Int (number_of_atom (8 * place) p ∙ ap (int_wrap w64) (same.atoms (8 * place) (omega arith))
    ∙ sym (number_of_atom (8 * place) q))

choose_number : (place : ℕ) (z : ℤ) (q : Point) → FitsSigned w64 z → HasNumbers q →
    Chosen place (S.Number (atom (8 * place)) ∷ []) (V.Int z) q
choose_number place z q fits has =
    let ones : All (FitsSigned w64) (z ∷ []) =
    All-cons (FitsSigned w64) z [] fits (All-nil (FitsSigned w64)) in
    record {
      symbol = S.Number (atom (8 * place));
      within = inl refl;
      point = with_place place (z ∷ []) [] false q;
      numbers = numbers_with place (z ∷ []) [] false q ones (All-nil (FitsSigned w64)) has;
      agrees = agree_with place (z ∷ []) [] false q;
      value = ap V.Int (number_of_atom (8 * place) (with_place place (z ∷ []) [] false q)
          ∙ ap (int_wrap w64)
          (ap (with_place place (z ∷ []) [] false q).atoms (none_added (8 * place))
          ∙ atom_with place (z ∷ []) [] false q 0)
          ∙ int_wrap_fits w64 z fits);
      alone = atom_local place;
    }

told : (b : Bool) → Within (S.Truth true ∷ S.Truth false ∷ []) (S.Truth b)
told true = inl refl
told false = inr (inl refl)

choose_told : (place : ℕ) (b : Bool) (q : Point) → HasNumbers q →
    Chosen place (S.Truth true ∷ S.Truth false ∷ []) (V.Bool b) q
choose_told place b q has = record {
  symbol = S.Truth b;
  within = told b;
  point = q;
  numbers = has;
  agrees = agree_self place q;
  value = refl;
  alone = λ p r same. refl;
}

choose_untold : (place : ℕ) (b : Bool) (q : Point) → HasNumbers q →
    Chosen place (S.Untold place ∷ []) (V.Bool b) q
choose_untold place b q has = record {
  symbol = S.Untold place;
  within = inl refl;
  point = with_place place [] [] b q;
  numbers = numbers_with place [] [] b q (All-nil (FitsSigned w64)) (All-nil (FitsSigned w64)) has;
  agrees = agree_with place [] [] b q;
  value = ap V.Bool (truth_with place [] [] b q);
  alone = λ p r same. ap V.Bool (same.truths place (omega arith));
}

exact_local : (place n : ℕ) → n ≤ 8 → IsLocal (place + 1) (exact_choice place n)
exact_local place n h p q same = ap V.Seq (atoms_same (8 * place) n p q (λ k l. same.atoms k (omega arith)))

in_range : (first many n : ℕ) → n < many → Within (range_with_len first many) (first + n)
in_range first zero n h = absurd (omega arith)
in_range first (suc many) zero h = inl (none_added first)
in_range first (suc many) (suc n) h =
    inr (subst (Within (range_with_len (first + 1) many)) (one_on first n)
    (in_range (first + 1) many n (omega arith)))
  where
    one_on : (n i : ℕ) → n + 1 + i ≡ n + suc i
    one_on n i = omega arith

choose_exact : (place front back : ℕ) (zs : List ℤ) (q : Point) → front + back ≤ 8 →
    length zs < front + back → All (FitsSigned w64) zs → HasNumbers q →
    Chosen place (sequence_choices place front back) (V.Seq zs) q
choose_exact place front back zs q few short fits has = record {
  symbol = exact_choice place (length zs);
  within =
      within_left (map (exact_choice place) (range_with_len 0 (front + back)))
      (long_choice place front back ∷ []) (exact_choice place (length zs))
      (within_map (exact_choice place) (range_with_len 0 (front + back)) (length zs)
      (subst (Within (range_with_len 0 (front + back))) (from_none (length zs))
      (in_range 0 (front + back) (length zs) short)));
  point = with_place place zs [] false q;
  numbers = numbers_with place zs [] false q fits (All-nil (FitsSigned w64)) has;
  agrees = agree_with place zs [] false q;
  value =
      ap V.Seq (atoms_are zs (8 * place) (with_place place zs [] false q) fits
      (λ i l. atom_with place zs [] false q i));
  alone = exact_local place (length zs) (omega arith);
}
  where
    from_none : (n : ℕ) → 0 + n ≡ n
    from_none n = omega arith

long_local : (place front back : ℕ) → front + back ≤ 8 → IsLocal (place + 1) (long_choice place front back)
long_local place front back few p q same = ap V.Seq
    (ap (λ l. l ++ p.rests place ++ numbers (atoms_from (8 * place + front) back) p)
    (atoms_same (8 * place) front p q (λ k l. same.atoms k (omega arith)))
    ∙ ap (λ l. numbers (atoms_from (8 * place) front) q ++ l ++ numbers
    (atoms_from (8 * place + front) back) p) (same.rests place (omega arith))
    ∙ ap (λ l. numbers (atoms_from (8 * place) front) q ++ q.rests place ++ l)
    (atoms_same (8 * place + front) back p q (λ k l. same.atoms k (omega arith))))

-- a sequence in three parts
choose_parts : (place : ℕ) (us ms ws : List ℤ) (q : Point) → length us + length ws ≤ 8 →
    All (FitsSigned w64) us → All (FitsSigned w64) ms →
    All (FitsSigned w64) ws → HasNumbers q →
    Chosen place (sequence_choices place (length us) (length ws)) (V.Seq (us ++ ms ++ ws)) q
choose_parts place us ms ws q few fu fm fw has =
    let p : Point = with_place place (us ++ ws) ms false q in
    record {
      symbol = long_choice place (length us) (length ws);
      within =
          within_right (map (exact_choice place) (range_with_len 0 (length us + length ws)))
          (long_choice place (length us) (length ws) ∷ [])
          (long_choice place (length us) (length ws)) (inl refl);
      point = p;
      numbers = numbers_with place (us ++ ws) ms false q (All-append (FitsSigned w64) us ws fu fw) fm has;
      agrees = agree_with place (us ++ ws) ms false q;
      value = ap V.Seq
          (ap (λ l. l ++ p.rests place ++ numbers (atoms_from (8 * place + length us) (length ws)) p)
          (atoms_are us (8 * place) p fu
          (λ i l. atom_with place (us ++ ws) ms false q i ∙ get_or_append_left us ws (pos 0) i l))
          ∙ ap (λ l. us ++ l ++ numbers (atoms_from (8 * place + length us) (length ws)) p)
          (rest_with place (us ++ ws) ms false q)
          ∙ ap (λ l. us ++ ms ++ l) (atoms_are ws (8 * place + length us) p fw (λ i l.
          ap p.atoms (joined (8 * place) (length us) i)
          ∙ atom_with place (us ++ ws) ms false q (length us + i) ∙ get_or-append-add us ws i (pos 0))));
      alone = long_local place (length us) (length ws) few;
    }
  where
    joined : (a b i : ℕ) → a + b + i ≡ a + (b + i)
    joined a b i = omega arith

choose_long : (place front back : ℕ) (zs : List ℤ) (q : Point) → front + back ≤ 8 →
    front + back ≤ length zs → All (FitsSigned w64) zs → HasNumbers q →
    Chosen place (sequence_choices place front back) (V.Seq zs) q
choose_long place front back zs q few long fits has =
    let ds : List ℤ = drop front zs in
    let n : ℕ = length ds - back in
    let fd : All (FitsSigned w64) ds = All-drop (FitsSigned w64) front zs fits in
    let front_is : length (take front zs) ≡ front = length-take-le front zs (omega arith) in
    let back_is : length (drop n ds) ≡ back =
    length-drop n ds
    ∙ whole (length ds) back (subst (λ m. back ≤ m) (sym (length-drop front zs)) (omega arith)) in
    subst (λ l. Chosen place (sequence_choices place front back) (V.Seq l) q)
    (append_assoc (take front zs) (take n ds) (drop n ds)
    ∙ ap (λ l. take front zs ++ l) (take-append-drop n ds) ∙ take-append-drop front zs)
    (subst (λ b. Chosen place (sequence_choices place front b)
    (V.Seq (take front zs ++ take n ds ++ drop n ds)) q) back_is
    (subst (λ f. Chosen place (sequence_choices place f (length (drop n ds)))
    (V.Seq (take front zs ++ take n ds ++ drop n ds)) q) front_is
    (choose_parts place (take front zs) (take n ds) (drop n ds) q
    (subst (λ f. f + length (drop n ds) ≤ 8) (sym front_is) (subst (λ b. front + b ≤ 8) (sym back_is) few))
    (All-take (FitsSigned w64) front zs fits) (All-take (FitsSigned w64) n ds fd)
    (All-drop (FitsSigned w64) n ds fd) has)))
  where
    whole : (m b : ℕ) → b ≤ m → m - (m - b) ≡ b
    whole m b h = omega arith

choose_sequence : (place front back : ℕ) (zs : List ℤ) (q : Point) → front + back ≤ 8 →
    All (FitsSigned w64) zs → HasNumbers q →
    (b : Bool) → ltb (length zs) (front + back) ≡ b →
    Chosen place (sequence_choices place front back) (V.Seq zs) q
choose_sequence place front back zs q few fits has true e =
    choose_exact place front back zs q few (ltb-true (length zs) (front + back) e) fits has
choose_sequence place front back zs q few fits has false e =
    choose_long place front back zs q few (ltb-false (length zs) (front + back) e) fits has

pub choose : (kind : Kind) (place : ℕ) (in_text : Bool) (front back : ℕ) (x : Value) (q : Point) →
    front + back ≤ 8 → kind_of x ≡ kind → HasBits x →
    HasNumbers q → Chosen place (var_choices kind place in_text front back) x q
choose K.Int place in_text front back (V.Int z) q few e bits has = choose_number place z q bits has
choose K.Int place in_text front back (V.Bool b) q few e bits has = absurd (cc)
choose K.Int place in_text front back (V.Seq zs) q few e bits has = absurd (cc)
choose K.Bool place true front back (V.Bool b) q few e bits has = choose_told place b q has
choose K.Bool place false front back (V.Bool b) q few e bits has = choose_untold place b q has
choose K.Bool place in_text front back (V.Int z) q few e bits has = absurd (cc)
choose K.Bool place in_text front back (V.Seq zs) q few e bits has = absurd (cc)
choose K.Seq place true front back (V.Seq zs) q few e bits has =
    choose_sequence place front back zs q few bits has (ltb (length zs) (front + back)) refl
choose K.Seq place false front back (V.Seq zs) q few e bits has =
    choose_sequence place 0 0 zs q (omega arith) bits has (ltb (length zs) (0 + 0)) refl
choose K.Seq place in_text front back (V.Int z) q few e bits has = absurd (cc)
choose K.Seq place in_text front back (V.Bool b) q few e bits has = absurd (cc)
