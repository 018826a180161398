-- A program has one level for each of its boxes, by what the boxes are given alone.
use Rattle.std.specs.Prelude.{◌≡◌, ℕ, zero, suc, ◌<◌, ◌≤◌, List, [], ◌∷◌, map, slice_get, All}
use Rattle.std.specs.Prelude.{Option, None, Some, option_map}
use Rattle.std.proofs.Common.{refl, sym, ap, subst, ◌∙◌, arith}
use Rattle.std.proofs.lemmas.Option.{slice_get_within, slice_get-map, get_or_from_slice_get}
use Rattle.seuss_program.specs.declared.program.BoxInfo.{BoxInfo}
use Rattle.seuss_program.specs.declared.program.Program.{Program}
use Rattle.seuss_program.specs.Programs.{level_of, level_in}
use Rattle.seuss_program.specs.Keeping.{above}
use Rattle.call_order.specs.LevelLists.{levelled_at}
use Rattle.call_order.specs.Levels.{IsLevelled, without_level}

-- a fact on all boxes, at one of them
at-box : (P : BoxInfo → Type 0) (bs : List BoxInfo) (k : ℕ) (b : BoxInfo) → All P bs →
    slice_get bs k ≡ Some b → P b
at-box P bs k b all h = subst P (get_or_from_slice_get bs k b b h) (all k b (slice_get_within bs k b h))

-- numbers that are the same below a bound are the same where what is above them is within the bound
same-below : (f g : ℕ → ℕ) (n : ℕ) (xs : List ℕ) → ((x : ℕ) → f x < n → g x ≡ f x) →
    above (map f xs) ≤ n → map g xs ≡ map f xs
same-below f g n [] h within = refl
same-below f g n (x ∷ xs) h within =
    let here : g x ≡ f x = h x (omega (arith, within)) in
    let rest : map g xs ≡ map f xs = same-below f g n xs h (omega (arith, within)) in
    ap (λ y. y ∷ map g xs) here ∙ ap (λ ys. f x ∷ ys) rest

-- boxes that are the same without their levels, with the same level
box-same : (b c : BoxInfo) → without_level b ≡ without_level c → b.level ≡ c.level → b ≡ c
box-same b c h e =
    ap (λ (x : BoxInfo). levelled_at x b.level) h ∙ ap (λ level. levelled_at (without_level c) level) e

-- lists of boxes that are the same without their levels, with the same levels
boxes-same : (bs cs : List BoxInfo) → map without_level bs ≡ map without_level cs →
    ((k : ℕ) → level_in (slice_get bs k) ≡ level_in (slice_get cs k)) → bs ≡ cs
boxes-same [] [] h levels = refl
boxes-same [] (c ∷ cs) h levels = absurd (cc)
boxes-same (b ∷ bs) [] h levels = absurd (cc)
boxes-same (b ∷ bs) (c ∷ cs) h levels =
    let first : without_level b ≡ without_level c = cc in
    let others : map without_level bs ≡ map without_level cs = cc in
    ap (λ x. x ∷ bs) (box-same b c first (levels 0))
    ∙ ap (λ xs. c ∷ xs) (boxes-same bs cs others (λ k. levels (suc k)))

-- programs of the same parts
program-same : (p q : Program) → p.cats ≡ q.cats → p.boxes ≡ q.boxes → p.actions ≡ q.actions → p ≡ q
program-same p q cats boxes actions =
    ap (λ x. record { cats = x; boxes = p.boxes; actions = p.actions }) cats
    ∙ (ap (λ x. record { cats = q.cats; boxes = x; actions = p.actions }) boxes
    ∙ ap (λ x. record { cats = q.cats; boxes = q.boxes; actions = x }) actions)

module _ (named one other : Program) (first : IsLevelled named one) (second : IsLevelled named other) where
  -- both have the same boxes but for their levels
  same-boxes : map without_level one.boxes ≡ map without_level other.boxes
  same-boxes = first.boxes ∙ sym second.boxes

  -- and so at each number
  same-at : (box : ℕ) →
      option_map without_level (slice_get one.boxes box)
      ≡ option_map without_level (slice_get other.boxes box)
  same-at box =
      sym (slice_get-map without_level one.boxes box)
      ∙ (ap (λ (bs : List BoxInfo). slice_get bs box) same-boxes
      ∙ slice_get-map without_level other.boxes box)

  -- a box has the same level in both, where each box of a lower level has
  next-same : (n box : ℕ) (b c : Option BoxInfo) → slice_get one.boxes box ≡ b →
      slice_get other.boxes box ≡ c → option_map without_level b ≡ option_map without_level c →
      level_in b < suc n → ((g : ℕ) → level_of one g < n → level_of other g ≡ level_of one g) →
      level_in c ≡ level_in b
  next-same n box None None h e same less lower = refl
  next-same n box None (Some c) h e same less lower = absurd (cc)
  next-same n box (Some b) None h e same less lower = absurd (cc)
  next-same n box (Some b) (Some c) h e same less lower =
      let alike : without_level b ≡ without_level c = cc in
      let given : c.given ≡ b.given = sym (ap (λ (x : BoxInfo). x.given) alike) in
      let here : b.level ≡ above (map (level_of one) b.given) =
      at-box (λ (x : BoxInfo). x.level ≡ above (map (level_of one) x.given)) one.boxes box b first.levels h in
      let there : c.level ≡ above (map (level_of other) c.given) =
      at-box (λ (x : BoxInfo). x.level ≡ above (map (level_of other) x.given)) other.boxes box c
      second.levels e in
      there ∙ (ap (λ (gs : List ℕ). above (map (level_of other) gs)) given
      ∙ (ap above (same-below (level_of one) (level_of other) n b.given lower (omega (arith, here, less)))
      ∙ sym here))

  -- by levels from 0 on, each box has the same level in both
  level-same : (n box : ℕ) → level_of one box < n → level_of other box ≡ level_of one box
  level-same zero box less = absurd (omega (arith, less))
  level-same (suc n) box less =
      next-same n box (slice_get one.boxes box) (slice_get other.boxes box) refl refl (same-at box) less
      (level-same n)

  -- so they are one
  pub one_levelling : one ≡ other
  one_levelling =
      program-same one other (first.cats ∙ sym second.cats)
      (boxes-same one.boxes other.boxes same-boxes
      (λ k. sym (level-same (suc (level_of one k)) k (omega arith))))
      (first.actions ∙ sym second.actions)
