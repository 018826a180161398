-- The rows of places: one symbol of each.
use Rattle.std.proofs.Common.{◌≡◌, inl, inr, List, [], ◌∷◌, ◌++◌, map, refl, sym, ap, ◌∙◌, subst}
use Rattle.std.proofs.lemmas.List.{append_assoc, append-nil}
use Rattle.shape_terms.specs.declared.symbol.Symbol.{Symbol}
use Rattle.shape_terms.specs.Points.{Point}
use Rattle.shape_terms.specs.Symbols.{value_at, values_at}
use Rattle.shape_terms.specs.Cases.{rows_before, rows_after, rows_of}
use Rattle.shape_terms.proofs.Members.{Within, within_map_back, within_flat_back}

-- one of each
abbrev pub Picks : List (List Symbol) → List Symbol → Type 0
Picks [] [] = Unit {0}
Picks [] (s ∷ ss) = ⊥
Picks (c ∷ cs) [] = ⊥
Picks (c ∷ cs) (s ∷ ss) = Within c s × Picks cs ss

-- a row that goes on behind one of some rows
record GoesOn (rows choices : List (List Symbol)) (row : List Symbol) : Type 0 where
  pub before : List Symbol
  pub picked : List Symbol
  pub within : Within rows before
  pub picks : Picks choices picked
  pub whole : row ≡ before ++ picked

goes_on : (choices rows : List (List Symbol)) (row : List Symbol) → Within (rows_after rows choices) row →
    GoesOn rows choices row
goes_on [] rows row h =
    record { before = row; picked = []; within = h; picks = tt; whole = sym (append-nil row) }
goes_on (c ∷ cs) rows row h =
    let more : GoesOn (rows_before rows c) cs row = goes_on cs (rows_before rows c) row h in
    let from : (r : List Symbol) × Within rows r × Within (map (λ (s : Symbol). r ++ s ∷ []) c) more.before =
    within_flat_back
    (λ (r : List Symbol). map (λ (s : Symbol). r ++ s ∷ []) c) rows more.before more.within in
    let one : (s : Symbol) × Within c s × (from.0 ++ s ∷ [] ≡ more.before) =
    within_map_back (λ (s : Symbol). from.0 ++ s ∷ []) c more.before from.2 in
    record {
      before = from.0;
      picked = one.0 ∷ more.picked;
      within = from.1;
      picks = (one.1, more.picks);
      whole =
          more.whole ∙ ap (λ l. l ++ more.picked) (sym one.2) ∙ append_assoc from.0 (one.0 ∷ []) more.picked;
    }

pub picks_of_row : (choices : List (List Symbol)) (row : List Symbol) → Within (rows_of choices) row →
    Picks choices row
picks_of_row choices row h =
    let on : GoesOn ([] ∷ []) choices row = goes_on choices ([] ∷ []) row h in
    subst (Picks choices) (sym (on.whole ∙ ap (λ l. l ++ on.picked) (none on.before on.within))) on.picks
  where
    none : (r : List Symbol) → Within ([] ∷ []) r → r ≡ []
    none r (inl e) = sym e
    none r (inr h) = absurd h

-- symbols of which no two have the same value, at whatever points
abbrev pub IsUnique : List Symbol → Type 0
IsUnique symbols =
    (s t : Symbol) (p q : Point) → Within symbols s → Within symbols t → value_at s p ≡ value_at t q → s ≡ t

abbrev pub AreUnique : List (List Symbol) → Type 0
AreUnique [] = Unit {0}
AreUnique (c ∷ cs) = IsUnique c × AreUnique cs

pub unique_picks : (choices : List (List Symbol)) → AreUnique choices → (ss ts : List Symbol) (p q : Point) →
    Picks choices ss → Picks choices ts →
    values_at ss p ≡ values_at ts q → ss ≡ ts
unique_picks [] unique [] [] p q a b e = refl
unique_picks [] unique [] (t ∷ ts) p q a b e = absurd b
unique_picks [] unique (s ∷ ss) ts p q a b e = absurd a
unique_picks (c ∷ cs) unique [] ts p q a b e = absurd a
unique_picks (c ∷ cs) unique (s ∷ ss) [] p q a b e = absurd b
unique_picks (c ∷ cs) unique (s ∷ ss) (t ∷ ts) p q a b e =
    let here : value_at s p ≡ value_at t q = cc in
    let there : values_at ss p ≡ values_at ts q = cc in
    ap (λ x. x ∷ ss) (unique.0 s t p q a.0 b.0 here)
    ∙ ap (λ l. t ∷ l) (unique_picks cs unique.1 ss ts p q a.1 b.1 there)
