-- A box of a level has boxes of every lower level below it, so levels are fewer than boxes.
use Rattle.std.proofs.Common.{◌≡◌, ℕ, zero, suc, ◌+◌, ◌≤◌, ◌<◌, ◌⊎◌, Bool, true, false, if◌then◌else◌}
use Rattle.std.proofs.Common.{nat_eq, List, [], ◌∷◌, map, length, Option, None, Some, refl, sym, ap, ◌∙◌}
use Rattle.std.proofs.Common.{subst, inl, inr, arith}
use Rattle.std.proofs.lemmas.Bool.{cases_lt}
use Rattle.std.proofs.lemmas.List.{length-map}
use Rattle.std.specs.Prelude.{slice_get}
use Rattle.seuss_program.specs.declared.program.Program.{Program}
use Rattle.seuss_program.specs.declared.program.BoxInfo.{BoxInfo}
use Rattle.seuss_program.specs.Programs.{level_of, level_in}
use Rattle.seuss_program.specs.Keeping.{Keeps, KeepsBox, above}
use Rattle.method_code.proofs.Places.{get_all}

-- nothing is not something
none_some : {A : Type 0} (x : A) → None ≡ Some x → ⊥
none_some x h = cc

-- a number stands in a list
abbrev pub Stands : ℕ → List ℕ → Type 0
Stands k [] = ⊥
Stands k (n ∷ ns) = (n ≡ k) ⊎ Stands k ns

-- the numbers but one
without : ℕ → List ℕ → List ℕ
without k [] = []
without k (n ∷ ns) = if nat_eq n k then without k ns else n ∷ without k ns

-- without a number a list is no longer
without_less : (k : ℕ) (ns : List ℕ) → length (without k ns) ≤ length ns
unfolding without
without_less k [] = omega arith
without_less k (n ∷ ns) = by (nat_eq n k) (without_less k ns)
  where
    by : (b : Bool) → length (without k ns) ≤ length ns →
        length (if b then without k ns else n ∷ without k ns) ≤ suc (length ns)
    by true h = omega (arith, h)
    by false h = omega (arith, h)

-- without a number that stands in it a list is shorter
without_fewer : (k : ℕ) (ns : List ℕ) → Stands k ns → length (without k ns) < length ns
unfolding without
without_fewer k [] s = elim s [ ]
without_fewer k (n ∷ ns) (inl e) = by (nat_eq n k) (grind (arith, e)) (without_less k ns)
  where
    by : (b : Bool) → b ≡ true → length (without k ns) ≤ length ns →
        length (if b then without k ns else n ∷ without k ns) < suc (length ns)
    by true t h = omega (arith, h)
    by false t h = grind (arith, t)
without_fewer k (n ∷ ns) (inr s) = by (nat_eq n k) (without_fewer k ns s)
  where
    by : (b : Bool) → length (without k ns) < length ns →
        length (if b then without k ns else n ∷ without k ns) < suc (length ns)
    by true h = omega (arith, h)
    by false h = omega (arith, h)

-- a lower number still stands in it
without_stands : (k j : ℕ) (ns : List ℕ) → j < k → Stands j ns → Stands j (without k ns)
unfolding without
without_stands k j [] less s = elim s [ ]
without_stands k j (n ∷ ns) less (inl e) = by (nat_eq n k) (grind (arith, e, less))
  where
    by : (b : Bool) → b ≡ false → Stands j (if b then without k ns else n ∷ without k ns)
    by true t = grind (arith, t)
    by false t = inl e
without_stands k j (n ∷ ns) less (inr s) = by (nat_eq n k) (without_stands k j ns less s)
  where
    by : (b : Bool) → Stands j (without k ns) → Stands j (if b then without k ns else n ∷ without k ns)
    by true h = h
    by false h = inr h

-- where all numbers up to one stand in a list, it is longer than that
pub all_below : (k : ℕ) (ns : List ℕ) → ((j : ℕ) → j ≤ k → Stands j ns) → k < length ns
all_below zero ns h = some ns (h 0 (omega arith))
  where
    some : (ns : List ℕ) → Stands 0 ns → 0 < length ns
    some [] s = elim s [ ]
    some (n ∷ ns) s = omega arith
all_below (suc k) ns h =
    let fewer = without_fewer (suc k) ns (h (suc k) (omega arith)) in
    let rest = all_below k (without (suc k) ns)
    (λ j le. without_stands (suc k) j ns (omega (arith, le)) (h j (omega (arith, le)))) in
    omega (arith, fewer, rest)

-- what is above all numbers is one more than one of them
above_is : (k : ℕ) (ns : List ℕ) → above ns ≡ suc k → Stands k ns
above_is k [] h = grind (arith, h)
above_is k (x ∷ ns) h = by (cases_lt (x + 1) (above ns)) (above_is k ns)
  where
    by : (x + 1 < above ns) ⊎ (above ns ≤ x + 1) → (above ns ≡ suc k → Stands k ns) → (x ≡ k) ⊎ Stands k ns
    by (inl less) go = inr (go (omega (arith, h, less)))
    by (inr less) go = inl (omega (arith, h, less))

-- a number among images is the image of one
stands_map : (f : ℕ → ℕ) (k : ℕ) (ns : List ℕ) → Stands k (map f ns) → (n : ℕ) × (f n ≡ k)
stands_map f k [] s = elim s [ ]
stands_map f k (n ∷ ns) (inl e) = (n, e)
stands_map f k (n ∷ ns) (inr s) = stands_map f k ns s

-- the level of a box stands among the levels of all
level_among : (boxes : List BoxInfo) (n : ℕ) (b : BoxInfo) → slice_get boxes n ≡ Some b →
    Stands b.level (map (λ (x : BoxInfo). x.level) boxes)
level_among [] n b h = absurd (none_some b h)
level_among (x ∷ boxes) zero b h = inl (same h)
  where
    same : Some x ≡ Some b → x.level ≡ b.level
    same h = let e : x ≡ b = cc in ap (λ (y : BoxInfo). y.level) e
level_among (x ∷ boxes) (suc n) b h = inr (level_among boxes n b h)

module _ (p : Program) (keeps : Keeps p) where
  -- the levels of boxes, and that of no box
  abbrev levels : List ℕ
  levels = 0 ∷ map (λ (b : BoxInfo). b.level) p.boxes

  -- the level of any number stands among the levels
  level_stands : (box : ℕ) → Stands (level_of p box) levels
  level_stands box = by (slice_get p.boxes box) refl
    where
      by : (o : Option BoxInfo) → slice_get p.boxes box ≡ o → Stands (level_in o) levels
      by None e = inl refl
      by (Some b) e = inr (level_among p.boxes box b e)

  -- every level up to that of a box is the level of some box
  lower_levels : (level box j : ℕ) → level_of p box ≡ level → j ≤ level → Stands j levels
  lower_levels zero box j e le = subst (λ n. Stands n levels) (omega (arith, e, le)) (level_stands box)
  lower_levels (suc level) box j e le = by (λ next same lower. lower_levels level next j same lower)
      (cases_lt level j) (slice_get p.boxes box) refl
    where
      by : ((next : ℕ) → level_of p next ≡ level → j ≤ level → Stands j levels) →
          (level < j) ⊎ (j ≤ level) → (o : Option BoxInfo) → slice_get p.boxes box ≡ o → Stands j levels
      by go (inl top) o found = subst (λ n. Stands n levels) (omega (arith, e, le, top)) (level_stands box)
      by go (inr lower) None found = let none : level_of p box ≡ 0 = ap level_in found in
          absurd (omega (arith, e, none))
      by go (inr lower) (Some b) found =
          let here : level_of p box ≡ b.level = ap level_in found in
          let below = stands_map (level_of p) level b.given
          (above_is level (map (level_of p) b.given)
          (sym (get_all (KeepsBox p) p.boxes box b found keeps.boxes).level ∙ (sym here ∙ e))) in
          go below.0 below.1 lower

  -- a checked program has levels up to 128
  pub levels_few : (box : ℕ) → level_of p box ≤ 128
  levels_few box =
      let less = all_below (level_of p box) levels (λ j le. lower_levels (level_of p box) box j refl le) in
      omega (arith, less, length-map p.boxes (λ (b : BoxInfo). b.level), keeps.few_boxes)
