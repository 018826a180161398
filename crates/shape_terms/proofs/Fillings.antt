-- Rows of symbols for rows of values.
use Rattle.std.proofs.Common.{◌≡◌, ℕ, suc, ◌+◌, arith, inl, List, [], ◌∷◌, ◌++◌, length, map, refl, sym, ap}
use Rattle.std.proofs.Common.{◌∙◌, subst}
use Rattle.std.proofs.lemmas.List.{append_assoc, append-nil, map_push}
use Rattle.seuss_program.specs.declared.state.Value.{Value}
use Rattle.shape_terms.specs.declared.symbol.Symbol.{Symbol}
use Rattle.shape_terms.specs.Points.{Point, HasNumbers}
use Rattle.shape_terms.specs.Symbols.{value_at, values_at}
use Rattle.shape_terms.specs.Cases.{rows_before, rows_after}
use Rattle.shape_terms.proofs.Members.{Within, within_map, within_flat}
use Rattle.shape_terms.proofs.Agreements.{Agree, agree_below, agree_on, agree_back, agree_self}
use Rattle.shape_terms.proofs.ChosenLemmas.{Chosen}

-- a row among rows that stands for values at a point, and depends on the places below one alone
pub record RowFor (place : ℕ) (rows : List (List Symbol)) (values : List Value) (q : Point) : Type 0 where
  pub row : List Symbol
  pub within : Within rows row
  pub value : values_at row q ≡ values
  pub alone : (p r : Point) → Agree place p r → values_at row p ≡ values_at row r

pub no_row : (place : ℕ) (q : Point) → RowFor place ([] ∷ []) [] q
no_row place q = record { row = []; within = inl refl; value = refl; alone = λ p r same. refl }

values_push : (row : List Symbol) (s : Symbol) (p : Point) →
    values_at (row ++ s ∷ []) p ≡ values_at row p ++ value_at s p ∷ []
values_push row s p = map_push (λ (s : Symbol). value_at s p) row s

one_further : (place : ℕ) (rows : List (List Symbol)) (symbols : List Symbol) (us : List Value) (x : Value)
    (q : Point) → RowFor place rows us q →
    (c : Chosen place symbols x q) → RowFor (place + 1) (rows_before rows symbols) (us ++ x ∷ []) c.point
one_further place rows symbols us x q r c = record {
  row = r.row ++ c.symbol ∷ [];
  within =
      within_flat (λ (row : List Symbol). map (λ (s : Symbol). row ++ s ∷ []) symbols) rows r.row
      (r.row ++ c.symbol ∷ []) r.within
      (within_map (λ (s : Symbol). r.row ++ s ∷ []) symbols c.symbol c.within);
  value = values_push r.row c.symbol c.point
      ∙ ap (λ l. l ++ value_at c.symbol c.point ∷ [])
      (r.alone c.point q (agree_back place q c.point c.agrees) ∙ r.value)
      ∙ ap (λ v. us ++ v ∷ []) c.value;
  alone = λ p t same. values_push r.row c.symbol p
      ∙ ap (λ l. l ++ value_at c.symbol p ∷ [])
      (r.alone p t (agree_below place (place + 1) p t (omega arith) same))
      ∙ ap (λ v. values_at r.row t ++ v ∷ []) (c.alone p t same) ∙ sym (values_push r.row c.symbol t);
}

-- each value has a case among those of its place, whatever the point of the places before is
abbrev pub CanChoose : ℕ → List (List Symbol) → List Value → Type 0
CanChoose place [] [] = Unit {0}
CanChoose place [] (x ∷ xs) = ⊥
CanChoose place (c ∷ cs) [] = ⊥
CanChoose place (c ∷ cs) (x ∷ xs) =
    ((q : Point) → HasNumbers q → Chosen place c x q) × CanChoose (place + 1) cs xs

-- a row for all values, at a point that agrees with another one below the first place
pub record Filled (place end : ℕ) (rows : List (List Symbol)) (xs : List Value) (q : Point) : Type 0 where
  pub point : Point
  pub numbers : HasNumbers point
  pub agrees : Agree place q point
  pub found : RowFor end rows xs point

pub fill : (choices : List (List Symbol)) (xs : List Value) (place : ℕ) (rows : List (List Symbol))
    (us : List Value) (q : Point) →
    CanChoose place choices xs → HasNumbers q → RowFor place rows us q →
    Filled place (place + length choices) (rows_after rows choices) (us ++ xs) q
fill [] [] place rows us q can has r = record {
  point = q;
  numbers = has;
  agrees = agree_self place q;
  found =
      subst (λ n. RowFor n rows (us ++ []) q) (none_added place)
      (subst (λ l. RowFor place rows l q) (sym (append-nil us)) r);
}
  where
    none_added : (n : ℕ) → n ≡ n + 0
    none_added n = omega arith
fill [] (x ∷ xs) place rows us q can has r = absurd can
fill (c ∷ cs) [] place rows us q can has r = absurd can
fill (c ∷ cs) (x ∷ xs) place rows us q can has r =
    let chosen : Chosen place c x q = can.0 q has in
    let more : Filled (place + 1) (place + 1 + length cs) (rows_after (rows_before rows c) cs)
    ((us ++ x ∷ []) ++ xs) chosen.point =
    fill cs xs (place + 1) (rows_before rows c) (us ++ x ∷ []) chosen.point can.1 chosen.numbers
    (one_further place rows c us x q r chosen) in
    record {
      point = more.point;
      numbers = more.numbers;
      agrees =
          agree_on place q chosen.point more.point chosen.agrees
          (agree_below place (place + 1) chosen.point more.point (omega arith) more.agrees);
      found =
          subst (λ n. RowFor n (rows_after (rows_before rows c) cs) (us ++ x ∷ xs) more.point)
          (one_on place (length cs))
          (subst (λ l. RowFor (place + 1 + length cs) (rows_after (rows_before rows c) cs) l more.point)
          (append_assoc us (x ∷ []) xs) more.found);
    }
  where
    one_on : (n i : ℕ) → n + 1 + i ≡ n + suc i
    one_on n i = omega arith
