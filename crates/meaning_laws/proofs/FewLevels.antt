-- The level of a box is below the number of boxes, since below each level every lower one occurs.
use Rattle.std.proofs.Common.{◌≡◌, ◌≢◌, ℕ, zero, suc, ◌+◌, ◌<◌, ◌≤◌, nat_lt, nat_eq, Bool, true, false}
use Rattle.std.proofs.Common.{if◌then◌else◌, IsTrue, List, [], ◌∷◌, map, length, Option, None, Some, refl}
use Rattle.std.proofs.Common.{sym, ap, ◌∙◌, arith, true≢false}
use Rattle.std.specs.Prelude.{slice_get}
use Rattle.std.proofs.lemmas.Bool.{ltb-true, lt-ltb}
use Rattle.seuss_program.specs.declared.program.BoxInfo.{BoxInfo}
use Rattle.seuss_program.specs.declared.program.Program.{Program}
use Rattle.seuss_program.specs.declared.tree.Given.{Given}
use Rattle.seuss_program.specs.declared.tree.Ref.{Ref}
use Rattle.seuss_program.specs.Programs.{level_in, level_of}
use Rattle.seuss_program.specs.Keeping.{Keeps, KeepsBox, above, given_fit, is_box_of}
use Rattle.meaning_laws.proofs.CalledProcedures.{all-at, and-left, and-right, none-some, some-same}

-- how many boxes have a level below this one
abbrev below_count : ℕ → List BoxInfo → ℕ
below_count n [] = 0
below_count n (b ∷ bs) = (if nat_lt b.level n then 1 else 0) + below_count n bs

-- these are no more than there are boxes
below-most : (n : ℕ) (bs : List BoxInfo) → below_count n bs ≤ length bs
below-most n [] = omega arith
below-most n (b ∷ bs) = by (nat_lt b.level n) (below-most n bs)
  where
    by : (t : Bool) → below_count n bs ≤ length bs →
        (if t then 1 else 0) + below_count n bs ≤ length (b ∷ bs)
    by true h = omega (arith, h)
    by false h = omega (arith, h)

-- a box that is below a level is below the next one
next-test : (b : BoxInfo) (n : ℕ) →
    (if nat_lt b.level n then 1 else 0) ≤ (if nat_lt b.level (suc n) then 1 else 0)
next-test b n = by (nat_lt b.level n) (nat_lt b.level (suc n)) refl refl
  where
    by : (s t : Bool) → nat_lt b.level n ≡ s → nat_lt b.level (suc n) ≡ t →
        (if s then 1 else 0) ≤ (if t then 1 else 0)
    by true true h g = omega arith
    by false t h g = omega arith
    by true false h g =
        let less = ltb-true b.level n h in
        let more : b.level < suc n = omega (arith, less) in
        absurd (true≢false (sym (lt-ltb b.level (suc n) more) ∙ g))

-- at most as many boxes are below a level as below the next one
below-next : (n : ℕ) (bs : List BoxInfo) → below_count n bs ≤ below_count (suc n) bs
below-next n [] = omega arith
below-next n (b ∷ bs) = let here = next-test b n in let rest = below-next n bs in omega (arith, here, rest)

-- one more where a box has this level
one-more : (bs : List BoxInfo) (k : ℕ) (b : BoxInfo) (n : ℕ) → slice_get bs k ≡ Some b → b.level ≡ n →
    below_count n bs + 1 ≤ below_count (suc n) bs
one-more [] k b n at is = absurd (none-some b at)
one-more (x ∷ bs) zero b n at is = by (nat_lt x.level n) (nat_lt x.level (suc n)) refl refl (below-next n bs)
  where
    by : (s t : Bool) → nat_lt x.level n ≡ s → nat_lt x.level (suc n) ≡ t →
        below_count n bs ≤ below_count (suc n) bs →
        (if s then 1 else 0) + below_count n bs + 1 ≤ (if t then 1 else 0) + below_count (suc n) bs
    by true t h g rest =
        let less = ltb-true x.level n h in
        let same : x.level ≡ n = ap (λ (y : BoxInfo). y.level) (some-same at) ∙ is in
        absurd (omega (arith, less, same))
    by false true h g rest = omega (arith, rest)
    by false false h g rest =
        let same : x.level ≡ n = ap (λ (y : BoxInfo). y.level) (some-same at) ∙ is in
        let less : x.level < suc n = omega (arith, same) in
        absurd (true≢false (sym (lt-ltb x.level (suc n) less) ∙ g))
one-more (x ∷ bs) (suc k) b n at is =
    let here = next-test x n in let rest = one-more bs k b n at is in omega (arith, here, rest)

-- what is one more than a number and above others is above one of them that is this number
above-has : (f : ℕ → ℕ) (ns : List ℕ) (n : ℕ) → above (map f ns) ≡ suc n →
    (k t : ℕ) × (slice_get ns k ≡ Some t) × (f t ≡ n)
above-has f [] n h = absurd (omega (arith, h))
above-has f (x ∷ ns) n h = by (nat_eq (f x) n) refl (λ rest. above-has f ns n rest)
  where
    by : (b : Bool) → nat_eq (f x) n ≡ b →
        (above (map f ns) ≡ suc n → (k t : ℕ) × (slice_get ns k ≡ Some t) × (f t ≡ n)) →
        (k t : ℕ) × (slice_get (x ∷ ns) k ≡ Some t) × (f t ≡ n)
    by true e among = let same : f x ≡ n = grind (arith, e) in (0, x, refl, same)
    by false e among =
        let differ : f x ≢ n = grind (arith, e) in
        let rest : above (map f ns) ≡ suc n = omega (arith, h, differ) in
        let found = among rest in (suc found.0, found.1, found.2, found.3)

-- what stands for a box of a cat is a box
box-of : (o : Option BoxInfo) (name : Ref) → IsTrue (is_box_of o name) → (b : BoxInfo) × (o ≡ Some b)
box-of None name h = absurd (true≢false (sym h))
box-of (Some b) name h = (b, refl)

-- a given box is there
given-there : (boxes : List BoxInfo) (ns : List ℕ) (gs : List (Given Ref)) (k t : ℕ) →
    IsTrue (given_fit boxes ns gs) → slice_get ns k ≡ Some t → (b : BoxInfo) × (slice_get boxes t ≡ Some b)
given-there boxes [] gs k t h e = absurd (none-some t e)
given-there boxes (x ∷ ns) [] k t h e = absurd (true≢false (sym h))
given-there boxes (x ∷ ns) (g ∷ gs) zero t h e =
    let here = box-of (slice_get boxes x) g.cat
    (and-left (is_box_of (slice_get boxes x) g.cat) (given_fit boxes ns gs) h) in
    (here.0, ap (slice_get boxes) (sym (some-same e)) ∙ here.1)
given-there boxes (x ∷ ns) (g ∷ gs) (suc k) t h e =
    given-there boxes ns gs k t
    (and-right (is_box_of (slice_get boxes x) g.cat) (given_fit boxes ns gs) h) e

module _ (p : Program) (keeps : Keeps p) where
  -- below a box of a level there is a box of each lower level
  filled : (n box : ℕ) (b : BoxInfo) → slice_get p.boxes box ≡ Some b → b.level ≡ n →
      n + 1 ≤ below_count (suc n) p.boxes
  filled zero box b at is = let more = one-more p.boxes box b 0 at is in omega (arith, more)
  filled (suc n) box b at is =
      let kept : KeepsBox p b = all-at (KeepsBox p) p.boxes box b at keeps.boxes in
      let found = above-has (level_of p) b.given n (sym kept.level ∙ is) in
      let below = given-there p.boxes b.given kept.cat.0.given found.0 found.1 kept.cat.2 found.2 in
      let rest = filled n found.1 below.0 below.1 (sym (ap level_in below.1) ∙ found.3) in
      let more = one-more p.boxes box b (suc n) at is in
      omega (arith, more, rest)

  -- the level of a box that is there
  level-of-there : (box : ℕ) (b : BoxInfo) → slice_get p.boxes box ≡ Some b → b.level < length p.boxes
  level-of-there box b at =
      let many = filled b.level box b at refl in
      let most = below-most (suc b.level) p.boxes in
      omega (arith, many, most)

  -- the level of a box that is there is below the number of boxes
  pub level-below : (box : ℕ) → box < length p.boxes → level_of p box < length p.boxes
  level-below box within = by (slice_get p.boxes box) refl
    where
      by : (o : Option BoxInfo) → slice_get p.boxes box ≡ o → level_in o < length p.boxes
      by None at = omega (arith, within)
      by (Some b) at = level-of-there box b at

  -- and each level is below 128
  pub level-few : (box : ℕ) → level_of p box < 128
  level-few box = by (slice_get p.boxes box) refl
    where
      by : (o : Option BoxInfo) → slice_get p.boxes box ≡ o → level_in o < 128
      by None at = omega arith
      by (Some b) at = let less = level-of-there box b at in omega (arith, less, keeps.few_boxes)
