-- Levels after enough rounds are the levels of the boxes.
use Rattle.std.specs.Prelude.{◌≡◌, ℕ, zero, suc, ◌+◌, ◌<◌, ◌≤◌, Bool, List, [], ◌∷◌, ◌++◌, map, length}
use Rattle.std.specs.Prelude.{slice_index_or, slice_get, Contains, All}
use Rattle.std.proofs.Common.{refl, sym, ap, subst, ◌∙◌, arith}
use Rattle.seuss_program.specs.declared.program.BoxInfo.{BoxInfo}
use Rattle.seuss_program.specs.declared.program.Program.{Program}
use Rattle.seuss_program.specs.Programs.{level_of, level_in}
use Rattle.seuss_program.specs.Keeping.{above}
use Rattle.call_order.specs.Cycles.{given_of, GivesBoxes, HasNoCycle}
use Rattle.call_order.specs.Marks.{KnowsAllGiven}
use Rattle.call_order.specs.LevelLists.{AreLevels, level_at, level_above, next_levels, set_levels}
use Rattle.call_order.specs.Levels.{IsLevelled}
use Rattle.call_order.specs.Levels.{without_level}
use Rattle.call_order.proofs.LevelRounds.{levels_after}
use Rattle.call_order.proofs.MarkLemmas.{marked, marked-most, falls}

-- the level of a box in the next round
next-at : (boxes : List BoxInfo) (levels : List ℕ) (box : ℕ) →
    level_at (next_levels boxes levels) box ≡ level_above levels (given_of boxes box)
next-at [] levels box = refl
next-at (b ∷ bs) levels zero = refl
next-at (b ∷ bs) levels (suc box) = next-at bs levels box

-- the next round has a level for each box
next-length : (boxes : List BoxInfo) (levels : List ℕ) → length (next_levels boxes levels) ≡ length boxes
next-length [] levels = refl
next-length (b ∷ bs) levels = ap suc (next-length bs levels)

-- what is above small levels is small
above-small : (levels : List ℕ) (n : ℕ) (gs : List ℕ) → ((g : ℕ) → level_at levels g ≤ n) →
    level_above levels gs ≤ n + 1
above-small levels n [] h = omega arith
above-small levels n (g ∷ gs) h =
    let rest : level_above levels gs ≤ n + 1 = above-small levels n gs h in
    omega (arith, h g, rest)

-- after some rounds no level is greater than their number
after-small : (boxes : List BoxInfo) (r box : ℕ) → level_at (levels_after boxes r) box ≤ r
after-small boxes zero box = omega arith
after-small boxes (suc r) box =
    let same : level_at (levels_after boxes (suc r)) box
    ≡ level_above (levels_after boxes r) (given_of boxes box) =
    next-at boxes (levels_after boxes r) box in
    let small : level_above (levels_after boxes r) (given_of boxes box) ≤ r + 1 =
    above-small (levels_after boxes r) r (given_of boxes box) (after-small boxes r) in
    omega (arith, same, small)

-- after fewer than 1000 rounds no level is large
pub all_small : (boxes : List BoxInfo) (r : ℕ) (levels : List ℕ) → levels ≡ levels_after boxes r →
    r < 1000 → All (λ level. level < 1000) levels
all_small boxes r levels is h k d below =
    let same : slice_index_or levels k d ≡ level_at levels k = default levels k d 0 below in
    let small : level_at levels k ≤ r = subst (λ (l : List ℕ). level_at l k ≤ r) (sym is)
    (after-small boxes r k) in
    omega (arith, same, small, h)
  where
    default : (xs : List ℕ) (k d e : ℕ) → k < length xs → slice_index_or xs k d ≡ slice_index_or xs k e
    default [] k d e h = absurd (omega (arith, h))
    default (x ∷ xs) zero d e h = refl
    default (x ∷ xs) (suc k) d e h = default xs k d e (omega (arith, h))

-- levels above boxes that have the same levels are the same
above-same : (first second : List ℕ) (gs : List ℕ) →
    ((g : ℕ) → Contains gs g → level_at first g ≡ level_at second g) →
    level_above first gs ≡ level_above second gs
above-same first second [] h = refl
above-same first second (g ∷ gs) h =
    let here : level_at first g ≡ level_at second g = h g (0, omega arith, refl) in
    let rest : level_above first gs ≡ level_above second gs =
    above-same first second gs (λ k c. h k (suc c.0, omega (arith, c.1), c.2)) in
    omega (arith, here, rest)

module _ (boxes : List BoxInfo) (rows : List (List Bool)) (there : GivesBoxes boxes)
    (known : KnowsAllGiven boxes rows) (acyclic : HasNoCycle boxes) where
  -- how many boxes stand below a box
  rank : ℕ → ℕ
  rank box = marked (slice_index_or rows box [])

  -- a box keeps its level once there were more rounds than boxes below it
  settled : (r box : ℕ) → box < length boxes → rank box < r →
      level_at (levels_after boxes (suc r)) box ≡ level_at (levels_after boxes r) box
  unfolding rank
  settled zero box below few = absurd (omega (arith, few))
  settled (suc r) box below few =
      next-at boxes (levels_after boxes (suc r)) box
      ∙ (above-same (levels_after boxes (suc r)) (levels_after boxes r) (given_of boxes box)
      (λ g c. settled r g (there.there box g c)
      (let less : marked (slice_index_or rows g []) < marked (slice_index_or rows box []) =
      falls boxes rows acyclic there known box g below c in omega (arith, less, few)))
      ∙ sym (next-at boxes (levels_after boxes r) box))

  -- after more rounds than there are boxes the levels are right
  pub are_levels : (r : ℕ) (levels : List ℕ) → levels ≡ levels_after boxes r → length boxes < r →
      AreLevels boxes levels
  unfolding rank
  are_levels zero levels is h = absurd (omega (arith, h))
  are_levels (suc r) levels is h = subst (AreLevels boxes) (sym is) (record {
    count = next-length boxes (levels_after boxes r);
    each = λ box below.
        let few : marked (slice_index_or rows box []) < suc r =
        (let most : marked (slice_index_or rows box []) ≤ length (slice_index_or rows box []) =
        marked-most (slice_index_or rows box []) in
        let long : length (slice_index_or rows box []) ≡ length boxes = (known.each box below).count in
        omega (arith, most, long, h)) in
        sym (settled (suc r) box below few) ∙ next-at boxes (levels_after boxes (suc r)) box;
  })

-- nothing more changes no boxes
append-none : (bs : List BoxInfo) → bs ++ [] ≡ bs
append-none [] = refl
append-none (b ∷ bs) = ap (λ (l : List BoxInfo). b ∷ l) (append-none bs)

-- where no box is left, those with levels are all
pub none_left : (done all : List BoxInfo) (bs : List BoxInfo) (ns : List ℕ) →
    done ++ set_levels bs ns ≡ all → length bs ≡ 0 → done ≡ all
none_left done all [] ns h e = sym (append-none done) ∙ h
none_left done all (b ∷ bs) ns h e = absurd (omega (arith, e))

-- where no level is left, those with levels are all
pub no_level_left : (done all : List BoxInfo) (bs : List BoxInfo) (ns : List ℕ) →
    done ++ set_levels bs ns ≡ all → length ns ≡ 0 → done ≡ all
no_level_left done all [] ns h e = sym (append-none done) ∙ h
no_level_left done all (b ∷ bs) [] h e = sym (append-none done) ∙ h
no_level_left done all (b ∷ bs) (n ∷ ns) h e = absurd (omega (arith, e))

-- boxes with levels differ from those without in their levels alone
without : (bs : List BoxInfo) (ns : List ℕ) → length ns ≡ length bs →
    map without_level (set_levels bs ns) ≡ map without_level bs
without [] ns h = refl
without (b ∷ bs) [] h = absurd (omega (arith, h))
without (b ∷ bs) (n ∷ ns) h = ap (λ (l : List BoxInfo). without_level b ∷ l)
    (without bs ns (omega (arith, h)))

-- with levels there are as many boxes
pub set-length : (bs : List BoxInfo) (ns : List ℕ) → length ns ≡ length bs →
    length (set_levels bs ns) ≡ length bs
set-length [] ns h = refl
set-length (b ∷ bs) [] h = absurd (omega (arith, h))
set-length (b ∷ bs) (n ∷ ns) h = ap suc (set-length bs ns (omega (arith, h)))

-- the level that is set is that of the box
set-level : (bs : List BoxInfo) (ns : List ℕ) (k : ℕ) → length ns ≡ length bs →
    level_in (slice_get (set_levels bs ns) k) ≡ level_at ns k
set-level [] [] k h = refl
set-level [] (n ∷ ns) k h = absurd (omega (arith, h))
set-level (b ∷ bs) [] k h = absurd (omega (arith, h))
set-level (b ∷ bs) (n ∷ ns) zero h = refl
set-level (b ∷ bs) (n ∷ ns) (suc k) h = set-level bs ns k (omega (arith, h))

-- a box with its level has it, and is given the same boxes
set-box : (bs : List BoxInfo) (ns : List ℕ) (k : ℕ) (d : BoxInfo) → length ns ≡ length bs → k < length bs →
    ((slice_index_or (set_levels bs ns) k d).level ≡ level_at ns k)
    × ((slice_index_or (set_levels bs ns) k d).given ≡ given_of bs k)
set-box [] ns k d h below = absurd (omega (arith, below))
set-box (b ∷ bs) [] k d h below = absurd (omega (arith, h))
set-box (b ∷ bs) (n ∷ ns) zero d h below = (refl, refl)
set-box (b ∷ bs) (n ∷ ns) (suc k) d h below = set-box bs ns k d (omega (arith, h)) (omega (arith, below))

-- functions that are the same everywhere are so on a list
map-same : (f g : ℕ → ℕ) → ((k : ℕ) → f k ≡ g k) → (xs : List ℕ) → map f xs ≡ map g xs
map-same f g h [] = refl
map-same f g h (x ∷ xs) = let here : f x ≡ g x = h x in let rest : map f xs ≡ map g xs =
    map-same f g h xs in grind (arith, here, rest)

-- boxes whose levels are set have them right
pub levels_right : (bs : List BoxInfo) (ns : List ℕ) (p : Program) → AreLevels bs ns →
    p.boxes ≡ set_levels bs ns →
    All (λ (b : BoxInfo). b.level ≡ above (map (level_of p) b.given)) p.boxes
levels_right bs ns p right is = subst
    (λ (l : List BoxInfo). All (λ (b : BoxInfo). b.level ≡ above (map (level_of p) b.given)) l) (sym is)
    (λ k d below.
    let long : length (set_levels bs ns) ≡ length bs = set-length bs ns right.count in
    let under : k < length bs = omega (arith, below, long) in
    let parts = set-box bs ns k d right.count under in
    let same : (g : ℕ) → level_at ns g ≡ level_of p g =
    (λ g. sym (set-level bs ns g right.count) ∙ ap (λ (l : List BoxInfo). level_in (slice_get l g))
    (sym is)) in
    parts.0 ∙ (right.each k under ∙ (ap above (map-same (level_at ns) (level_of p) same (given_of bs k))
    ∙ ap (λ (l : List ℕ). above (map (level_of p) l)) (sym parts.1))))

-- a program with right levels is the named one with levels
pub is_levelled : (named p : Program) (ns : List ℕ) → AreLevels named.boxes ns →
    p.boxes ≡ set_levels named.boxes ns → p.cats ≡ named.cats → p.actions ≡ named.actions →
    IsLevelled named p
is_levelled named p ns right is cats actions = record {
  cats = cats;
  actions = actions;
  boxes = ap (map without_level) is ∙ without named.boxes ns right.count;
  levels = levels_right named.boxes ns p right is;
}
