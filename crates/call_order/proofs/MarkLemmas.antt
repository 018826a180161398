-- What marks spread to: after as many passes as there are boxes, exactly what a box is given.
use Rattle.std.specs.Prelude.{◌≡◌, ℕ, zero, suc, ◌+◌, ◌<◌, ◌≤◌, nat_lt, Bool, true, false, if◌then◌else◌}
use Rattle.std.specs.Prelude.{List, [], ◌∷◌, ◌++◌, length, slice_index_or, slice_set, Contains, All, ◌⊎◌}
use Rattle.std.proofs.Common.{inl, inr, refl, sym, ap, subst, ◌∙◌, arith}
use Rattle.seuss_program.specs.declared.program.BoxInfo.{BoxInfo}
use Rattle.call_order.specs.Cycles.{given_of, IsGivenThrough, IsGiven, IsCyclic, GivesBoxes, HasNoCycle}
use Rattle.call_order.specs.Marks.{IsMarked, no_marks, marked_with, spread_from, spread_below, spread_times}
use Rattle.call_order.specs.Marks.{KnowsGiven, KnowsAllGiven}

-- how many boxes are marked
pub marked : List Bool → ℕ
marked [] = 0
marked (m ∷ ms) = (if m then 1 else 0) + marked ms

-- a mark at a place
set-here : (ms : List Bool) (k : ℕ) → k < length ms → IsMarked (slice_set ms k true) k
set-here [] k h = absurd (omega (arith, h))
set-here (m ∷ ms) zero h = refl
set-here (m ∷ ms) (suc k) h = set-here ms k (omega (arith, h))

-- one more mark keeps the others
set-keeps : (ms : List Bool) (g k : ℕ) → IsMarked ms k → IsMarked (slice_set ms g true) k
set-keeps [] g k h = h
set-keeps (m ∷ ms) zero zero h = refl
set-keeps (m ∷ ms) zero (suc k) h = h
set-keeps (m ∷ ms) (suc g) zero h = h
set-keeps (m ∷ ms) (suc g) (suc k) h = set-keeps ms g k h

-- one more mark is the only one
set-only : (ms : List Bool) (g k : ℕ) → IsMarked (slice_set ms g true) k → IsMarked ms k ⊎ (k ≡ g)
set-only [] g k h = inl h
set-only (m ∷ ms) zero zero h = inr refl
set-only (m ∷ ms) zero (suc k) h = inl h
set-only (m ∷ ms) (suc g) zero h = inl h
set-only (m ∷ ms) (suc g) (suc k) h = elim (set-only ms g k h) [ inl a ↦ inl a | inr e ↦ inr (ap suc e) ]

-- one more mark doesn't change how many boxes there are
set-length : (ms : List Bool) (g : ℕ) → length (slice_set ms g true) ≡ length ms
set-length [] g = refl
set-length (m ∷ ms) zero = refl
set-length (m ∷ ms) (suc g) = ap suc (set-length ms g)

-- where one list of marks has each mark of another one of its length
Has : List Bool → List Bool → Type 0
Has now before = (k : ℕ) → IsMarked before k → IsMarked now k

-- marks with these boxes
with-length : (gs : List ℕ) (ms : List Bool) → length (marked_with gs ms) ≡ length ms
with-length [] ms = refl
with-length (g ∷ gs) ms = with-length gs (slice_set ms g true) ∙ set-length ms g

-- more marks keep the others
with-keeps : (gs : List ℕ) (ms : List Bool) (k : ℕ) → IsMarked ms k → IsMarked (marked_with gs ms) k
with-keeps [] ms k h = h
with-keeps (g ∷ gs) ms k h = with-keeps gs (slice_set ms g true) k (set-keeps ms g k h)

-- an item of a longer list is the first one or one of the others
among-cons : (g : ℕ) (gs : List ℕ) (k : ℕ) → Contains (g ∷ gs) k → (g ≡ k) ⊎ Contains gs k
among-cons g gs k (zero, below, is) = inl is
among-cons g gs k (suc i, below, is) = inr (i, omega (arith, below), is)

-- these boxes are marked
with-covers : (gs : List ℕ) (ms : List Bool) (k : ℕ) → Contains gs k → k < length ms →
    IsMarked (marked_with gs ms) k
with-covers [] ms k h below = absurd (omega (arith, h.1))
with-covers (g ∷ gs) ms k h below = elim (among-cons g gs k h) [
  | inl e ↦ with-keeps gs (slice_set ms g true) k
      (subst (λ j. IsMarked (slice_set ms j true) k) (sym e) (set-here ms k below))
  | inr c ↦ with-covers gs (slice_set ms g true) k c (subst (λ n. k < n) (sym (set-length ms g)) below)
]

-- these marks are the only ones
with-only : (gs : List ℕ) (ms : List Bool) (k : ℕ) → IsMarked (marked_with gs ms) k →
    IsMarked ms k ⊎ Contains gs k
with-only [] ms k h = inl h
with-only (g ∷ gs) ms k h = elim (with-only gs (slice_set ms g true) k h) [
  | inl a ↦ elim (set-only ms g k a) [ inl b ↦ inl b | inr e ↦ inr (0, omega arith, sym e) ]
  | inr c ↦ inr (suc c.0, omega (arith, c.1), c.2)
]

-- no box is marked
no-marks : (n k : ℕ) → IsMarked (no_marks n) k → ⊥
no-marks zero k h = absurd (cc)
no-marks (suc n) zero h = absurd (cc)
no-marks (suc n) (suc k) h = no-marks n k h

-- there are as many places for marks
pub no_marks_count : (n : ℕ) → length (no_marks n) ≡ n
no_marks_count zero = refl
no_marks_count (suc n) = ap suc (no_marks_count n)

-- marks count at most as many as there are places
pub marked-most : (ms : List Bool) → marked ms ≤ length ms
unfolding marked
marked-most [] = omega arith
marked-most (true ∷ ms) = let r : marked ms ≤ length ms = marked-most ms in omega (arith, r)
marked-most (false ∷ ms) = let r : marked ms ≤ length ms = marked-most ms in omega (arith, r)

-- more marks on all boxes are more on all but the first
tail-has : (m n : Bool) (ms ns : List Bool) → Has (n ∷ ns) (m ∷ ms) → Has ns ms
unfolding Has
tail-has m n ms ns h k is = h (suc k) is

-- more marks count for more
marked-more : (ms ns : List Bool) → length ms ≡ length ns → Has ns ms → (ms ≡ ns) ⊎ (marked ms < marked ns)
unfolding marked Has
marked-more [] [] e h = inl refl
marked-more [] (n ∷ ns) e h = absurd (omega (arith, e))
marked-more (m ∷ ms) [] e h = absurd (omega (arith, e))
marked-more (true ∷ ms) (true ∷ ns) e h = elim
    (marked-more ms ns (omega (arith, e)) (tail-has true true ms ns h)) [
      | inl same ↦ inl (ap (λ l. true ∷ l) same)
      | inr less ↦ inr (omega (arith, less))
    ]
marked-more (false ∷ ms) (false ∷ ns) e h = elim
    (marked-more ms ns (omega (arith, e)) (tail-has false false ms ns h)) [
      | inl same ↦ inl (ap (λ l. false ∷ l) same)
      | inr less ↦ inr (omega (arith, less))
    ]
marked-more (false ∷ ms) (true ∷ ns) e h = elim
    (marked-more ms ns (omega (arith, e)) (tail-has false true ms ns h)) [
      | inl same ↦ let c : marked ms ≡ marked ns = ap marked same in inr (omega (arith, c))
      | inr less ↦ inr (omega (arith, less))
    ]
marked-more (true ∷ ms) (false ∷ ns) e h = let bad : false ≡ true = h 0 refl in absurd (cc)

-- a marked place is there
marked-there : (ms : List Bool) (k : ℕ) → IsMarked ms k → k < length ms
marked-there [] k h = absurd (cc)
marked-there (m ∷ ms) zero h = omega arith
marked-there (m ∷ ms) (suc k) h = let r : k < length ms = marked-there ms k h in omega (arith, r)

module _ (boxes : List BoxInfo) where
  -- one box, by whether it is marked
  one : Bool → ℕ → List Bool → List Bool
  one t b ms = if t then marked_with (given_of boxes b) ms else ms

  -- a step keeps the marks
  one-keeps : (t : Bool) (b : ℕ) (ms : List Bool) (k : ℕ) → IsMarked ms k → IsMarked (one t b ms) k
  unfolding one
  one-keeps true b ms k h = with-keeps (given_of boxes b) ms k h
  one-keeps false b ms k h = h

  -- a step keeps how many boxes there are
  one-length : (t : Bool) (b : ℕ) (ms : List Bool) → length (one t b ms) ≡ length ms
  unfolding one
  one-length true b ms = with-length (given_of boxes b) ms
  one-length false b ms = refl

  -- a box spreads its marks where it is marked
  from-is : (b : ℕ) (ms : List Bool) → spread_from boxes b ms ≡ one (slice_index_or ms b false) b ms
  unfolding one
  from-is b ms = refl

  -- spreading from a box keeps the marks
  from-keeps : (b : ℕ) (ms : List Bool) (k : ℕ) → IsMarked ms k → IsMarked (spread_from boxes b ms) k
  from-keeps b ms k h = subst (λ l. IsMarked l k) (sym (from-is b ms))
      (one-keeps (slice_index_or ms b false) b ms k h)

  -- spreading from a box keeps how many boxes there are
  pub from-length : (b : ℕ) (ms : List Bool) → length (spread_from boxes b ms) ≡ length ms
  from-length b ms = ap (λ (l : List Bool). length l) (from-is b ms)
      ∙ one-length (slice_index_or ms b false) b ms

  -- spreading from the first boxes keeps the marks
  below-keeps : (n : ℕ) (ms : List Bool) (k : ℕ) → IsMarked ms k → IsMarked (spread_below boxes n ms) k
  below-keeps zero ms k h = h
  below-keeps (suc n) ms k h = from-keeps n (spread_below boxes n ms) k (below-keeps n ms k h)

  -- spreading from the first boxes keeps how many boxes there are
  below-length : (n : ℕ) (ms : List Bool) → length (spread_below boxes n ms) ≡ length ms
  below-length zero ms = refl
  below-length (suc n) ms = from-length n (spread_below boxes n ms) ∙ below-length n ms

  -- what a marked box is given is marked
  from-covers : (b g : ℕ) (ms : List Bool) → IsMarked ms b → Contains (given_of boxes b) g → g < length ms →
      IsMarked (spread_from boxes b ms) g
  from-covers b g ms h c below =
      subst (λ (t : Bool). IsMarked (if t then marked_with (given_of boxes b) ms else ms) g) (sym h)
      (with-covers (given_of boxes b) ms g c below)

  -- what a marked box among the first ones is given is marked
  below-covers : (n j g : ℕ) (ms : List Bool) → j < n → IsMarked ms j → Contains (given_of boxes j) g →
      g < length ms → IsMarked (spread_below boxes n ms) g
  below-covers zero j g ms h is c below = absurd (omega (arith, h))
  below-covers (suc n) j g ms h is c below = elim (last n j h) [
    | inl e ↦ subst (λ i. IsMarked (spread_from boxes i (spread_below boxes n ms)) g) e
        (from-covers j g (spread_below boxes n ms) (below-keeps n ms j is) c
        (subst (λ l. g < l) (sym (below-length n ms)) below))
    | inr less ↦ from-keeps n (spread_below boxes n ms) g (below-covers n j g ms less is c below)
  ]
    where
      last : (n j : ℕ) → j < suc n → (j ≡ n) ⊎ (j < n)
      last n j h = grind (arith, h)

  -- one box more
  snoc : (n f b k : ℕ) → IsGivenThrough boxes n f b → Contains (given_of boxes b) k →
      IsGivenThrough boxes (suc n) f k
  snoc zero f b k h c = (b, h, c)
  snoc (suc n) f b k (next, first, rest) c = (next, first, snoc n next b k rest c)

  -- only given boxes are marked
  Sound : ℕ → List Bool → Type 0
  Sound f ms = (k : ℕ) → IsMarked ms k → IsGiven boxes f k

  -- a step marks only what is given
  one-only : (f b : ℕ) (ms : List Bool) (t : Bool) → slice_index_or ms b false ≡ t → Sound f ms →
      Sound f (one t b ms)
  unfolding one Sound
  one-only f b ms false is sound k h = sound k h
  one-only f b ms true is sound k h = elim (with-only (given_of boxes b) ms k h) [
    | inl a ↦ sound k a
    | inr c ↦ let to = sound b is in (suc to.0, snoc to.0 f b k to.1 c)
  ]

  -- spreading from the first boxes marks only what is given
  below-only : (f n : ℕ) (ms : List Bool) → Sound f ms → Sound f (spread_below boxes n ms)
  below-only f zero ms sound = sound
  below-only f (suc n) ms sound =
      let m : List Bool = spread_below boxes n ms in
      subst (Sound f) (sym (from-is n m))
      (one-only f n m (slice_index_or m n false) refl (below-only f n ms sound))

  -- spreading several times marks only what is given
  times-only : (f r : ℕ) (ms : List Bool) → Sound f ms → Sound f (spread_times boxes r ms)
  times-only f zero ms sound = sound
  times-only f (suc r) ms sound = below-only f (length boxes) (spread_times boxes r ms)
      (times-only f r ms sound)

  -- spreading several times keeps the marks
  times-keeps : (r : ℕ) (ms : List Bool) (k : ℕ) → IsMarked ms k → IsMarked (spread_times boxes r ms) k
  times-keeps zero ms k h = h
  times-keeps (suc r) ms k h = below-keeps (length boxes) (spread_times boxes r ms) k (times-keeps r ms k h)

  -- spreading several times keeps how many boxes there are
  times-length : (r : ℕ) (ms : List Bool) → length (spread_times boxes r ms) ≡ length ms
  times-length zero ms = refl
  times-length (suc r) ms = below-length (length boxes) (spread_times boxes r ms) ∙ times-length r ms

  -- a pass changes nothing more
  pass : List Bool → List Bool
  pass ms = spread_below boxes (length boxes) ms

  -- one more time is the same before as after
  times-shift : (r : ℕ) (ms : List Bool) → spread_times boxes (suc r) ms ≡ spread_times boxes r (pass ms)
  unfolding pass
  times-shift zero ms = refl
  times-shift (suc r) ms = ap pass (times-shift r ms)

  -- where one pass marks nothing, no more do
  times-same : (r : ℕ) (ms : List Bool) → pass ms ≡ ms → spread_times boxes r ms ≡ ms
  unfolding pass
  times-same zero ms h = refl
  times-same (suc r) ms h = ap pass (times-same r ms h) ∙ h

  -- a pass marks nothing, or there are more marks
  pass-more : (ms : List Bool) → (ms ≡ pass ms) ⊎ (marked ms < marked (pass ms))
  unfolding pass Has
  pass-more ms = marked-more ms (pass ms) (sym (below-length (length boxes) ms))
      (below-keeps (length boxes) ms)

  -- a pass keeps how many boxes there are
  pass-length : (ms : List Bool) → length (pass ms) ≡ length ms
  unfolding pass
  pass-length ms = below-length (length boxes) ms

  -- after as many passes as there are boxes nothing is left to be marked
  stable : (r : ℕ) (ms : List Bool) → length ms ≤ r + marked ms →
      pass (spread_times boxes r ms) ≡ spread_times boxes r ms
  stable zero ms h = elim (pass-more ms) [
    | inl same ↦ sym same
    | inr less ↦ let most : marked (pass ms) ≤ length (pass ms) = marked-most (pass ms) in
        let same : length (pass ms) ≡ length ms = pass-length ms in
        absurd (omega (arith, h, less, most, same))
  ]
  stable (suc r) ms h = elim (pass-more ms) [
    | inl same ↦ let at : spread_times boxes (suc r) ms ≡ ms = times-same (suc r) ms (sym same) in
        ap pass at ∙ (sym same ∙ sym at)
    | inr less ↦ let same : length (pass ms) ≡ length ms = pass-length ms in
        let e : spread_times boxes (suc r) ms ≡ spread_times boxes r (pass ms) = times-shift r ms in
        ap pass e ∙ (stable r (pass ms) (omega (arith, h, less, same)) ∙ sym e)
  ]

  -- what is given through boxes is marked, where marks are closed
  reach : (marks : List Bool) →
      ((j g : ℕ) → IsMarked marks j → Contains (given_of boxes j) g → IsMarked marks g) →
      (n x k : ℕ) → ((g : ℕ) → Contains (given_of boxes x) g → IsMarked marks g) →
      IsGivenThrough boxes n x k → IsMarked marks k
  reach marks closed zero x k from c = from k c
  reach marks closed (suc n) x k from (next, c, rest) =
      reach marks closed n next k (λ g cg. closed next g (from next c) cg) rest

  -- the marks that a row begins with
  begun : ℕ → List Bool
  begun box = marked_with (given_of boxes box) (no_marks (length boxes))

  -- there is a mark for each box to begin with
  begun-length : (box : ℕ) → length (begun box) ≡ length boxes
  unfolding begun
  begun-length box = with-length (given_of boxes box) (no_marks (length boxes))
      ∙ no_marks_count (length boxes)

  -- the marks to begin with are on what is given
  begun-only : (box : ℕ) → Sound box (begun box)
  unfolding Sound begun
  begun-only box k h = elim (with-only (given_of boxes box) (no_marks (length boxes)) k h) [
    | inl a ↦ absurd (no-marks (length boxes) k a)
    | inr c ↦ (0, c)
  ]

  -- what is given is marked to begin with
  begun-covers : GivesBoxes boxes → (box g : ℕ) → Contains (given_of boxes box) g → IsMarked (begun box) g
  unfolding begun
  begun-covers gives box g c =
      with-covers (given_of boxes box) (no_marks (length boxes)) g c
      (subst (λ n. g < n) (sym (no_marks_count (length boxes))) (gives.there box g c))

  -- a row has exactly the boxes that its box is given
  row-known : GivesBoxes boxes → (box : ℕ) → (row : List Bool) →
      row ≡ spread_times boxes (length boxes) (begun box) → KnowsGiven boxes box row
  unfolding Sound pass
  row-known gives box row is = subst (KnowsGiven boxes box) (sym is) (
      let marks : List Bool = spread_times boxes (length boxes) (begun box) in
      let long : length marks ≡ length boxes = times-length (length boxes) (begun box) ∙ begun-length box in
      let same : pass marks ≡ marks = stable (length boxes) (begun box) (omega (arith, begun-length box)) in
      let closed : (j g : ℕ) → IsMarked marks j → Contains (given_of boxes j) g → IsMarked marks g =
      (λ j g h c. subst (λ l. IsMarked l g) same
      (below-covers (length boxes) j g marks (subst (λ n. j < n) long (marked-there marks j h)) h c
      (subst (λ n. g < n) (sym long) (gives.there j g c)))) in
      record {
        count = long;
        each = (λ other. (
          λ h. times-only box (length boxes) (begun box) (begun-only box) other h,
          λ given. reach marks closed given.0 box other
              (λ g c. times-keeps (length boxes) (begun box) g (begun-covers gives box g c)) given.1,
        ));
      })

  -- the marks of a box are exactly on what it is given
  pub row_known : GivesBoxes boxes → (box : ℕ) (given : List ℕ) (row : List Bool) →
      given ≡ given_of boxes box →
      row ≡ spread_times boxes (length boxes) (marked_with given (no_marks (length boxes))) →
      KnowsGiven boxes box row
  unfolding begun
  row_known gives box given row same is =
      row-known gives box row
      (is ∙ ap (λ (l : List ℕ). spread_times boxes (length boxes)
      (marked_with l (no_marks (length boxes)))) same)

  -- the next one of the first boxes
  pub spread_next : (n m : ℕ) (ms : List Bool) → m ≡ n + 1 →
      spread_below boxes m ms ≡ spread_from boxes n (spread_below boxes n ms)
  spread_next n m ms h = let e : m ≡ suc n = omega (arith, h) in ap (λ k. spread_below boxes k ms) e

  -- one more pass
  pub times_next : (n m : ℕ) (ms : List Bool) → m ≡ n + 1 →
      spread_times boxes m ms ≡ spread_below boxes (length boxes) (spread_times boxes n ms)
  times_next n m ms h = let e : m ≡ suc n = omega (arith, h) in ap (λ k. spread_times boxes k ms) e

  -- along given boxes fewer and fewer are marked, where there is no cycle
  pub falls : (rows : List (List Bool)) → HasNoCycle boxes → GivesBoxes boxes → KnowsAllGiven boxes rows →
      (box g : ℕ) → box < length boxes → Contains (given_of boxes box) g →
      marked (slice_index_or rows g []) < marked (slice_index_or rows box [])
  unfolding Has
  falls rows acyclic gives known box g below c =
      let upper : KnowsGiven boxes box (slice_index_or rows box []) = known.each box below in
      let lower : KnowsGiven boxes g (slice_index_or rows g []) = known.each g (gives.there box g c) in
      elim (marked-more (slice_index_or rows g []) (slice_index_or rows box [])
      (lower.count ∙ sym upper.count)
      (λ k h. let to = (lower.each k).0 h in (upper.each k).1 (suc to.0, (g, c, to.1)))) [
        | inl same ↦ absurd (acyclic.none g
            ((lower.each g).0 (subst (λ l. IsMarked l g) (sym same) ((upper.each g).1 (0, c)))))
        | inr less ↦ less
      ]

-- one mark more that isn't set
no-marks-push : (n : ℕ) → no_marks (suc n) ≡ no_marks n ++ false ∷ []
no-marks-push zero = refl
no-marks-push (suc n) = ap (λ l. false ∷ l) (no-marks-push n)

-- one more place without a mark
pub no_marks_next : (n m : ℕ) (ms : List Bool) → m ≡ n + 1 → ms ≡ no_marks n → ms ++ false ∷ [] ≡ no_marks m
no_marks_next n m ms h is =
    let e : m ≡ suc n = omega (arith, h) in
    ap (λ (l : List Bool). l ++ false ∷ []) is ∙ (sym (no-marks-push n) ∙ sym (ap no_marks e))

-- what a box is given, by the box
pub given_at : (boxes : List BoxInfo) (n : ℕ) (b : BoxInfo) → n < length boxes →
    (slice_index_or boxes n b).given ≡ given_of boxes n
given_at [] n b h = absurd (omega (arith, h))
given_at (x ∷ xs) zero b h = refl
given_at (x ∷ xs) (suc n) b h = given_at xs n b (omega (arith, h))

-- the numbers of given boxes are those of boxes
pub all_there : (boxes : List BoxInfo) (n : ℕ) (given : List ℕ) (count : ℕ) → GivesBoxes boxes →
    given ≡ given_of boxes n → count ≡ length boxes → All (λ g. g < count) given
all_there boxes n given count gives is long k d below =
    let c : Contains given (slice_index_or given k d) =
    (k, below, same given k d (slice_index_or given k d) below) in
    subst (λ c. slice_index_or given k d < c) (sym long)
    (gives.there n (slice_index_or given k d) (subst (λ l. Contains l (slice_index_or given k d)) is c))
  where
    same : (xs : List ℕ) (k d e : ℕ) → k < length xs → slice_index_or xs k e ≡ slice_index_or xs k d
    same [] k d e h = absurd (omega (arith, h))
    same (x ∷ xs) zero d e h = refl
    same (x ∷ xs) (suc k) d e h = same xs k d e (omega (arith, h))

-- what holds below a number and at it holds below the next one
pub below-next : (P : ℕ → Type 0) (n m : ℕ) → m ≡ n + 1 → ((k : ℕ) → k < n → P k) → P n → (k : ℕ) → k < m →
    P k
below-next P n m h all at k below = elim (last n k (omega (arith, h, below)))
    [ inl e ↦ subst P (sym e) at | inr less ↦ all k less ]
  where
    last : (n k : ℕ) → k < suc n → (k ≡ n) ⊎ (k < n)
    last n k h = grind (arith, h)

-- one row more
pub one_more_row : (boxes : List BoxInfo) (n : ℕ) (rows : List (List Bool)) (row : List Bool) →
    length rows ≡ n →
    ((k : ℕ) → k < n → KnowsGiven boxes k (slice_index_or rows k [])) → KnowsGiven boxes n row →
    (k : ℕ) → k < n + 1 → KnowsGiven boxes k (slice_index_or (rows ++ row ∷ []) k [])
one_more_row boxes n rows row count each new = below-next
    (λ k. KnowsGiven boxes k (slice_index_or (rows ++ row ∷ []) k [])) n (n + 1) refl
    (λ k h. subst (KnowsGiven boxes k) (sym (old rows k (omega (arith, h, count)))) (each k h))
    (subst (λ k. KnowsGiven boxes n (slice_index_or (rows ++ row ∷ []) k [])) count
    (subst (KnowsGiven boxes n) (sym (here rows)) new))
  where
    old : (rs : List (List Bool)) (k : ℕ) → k < length rs →
        slice_index_or (rs ++ row ∷ []) k [] ≡ slice_index_or rs k []
    old [] k h = absurd (omega (arith, h))
    old (r ∷ rs) zero h = refl
    old (r ∷ rs) (suc k) h = old rs k (omega (arith, h))

    here : (rs : List (List Bool)) → slice_index_or (rs ++ row ∷ []) (length rs) [] ≡ row
    here [] = refl
    here (r ∷ rs) = here rs

-- a box beyond the boxes is given none
none-beyond : (boxes : List BoxInfo) (n k : ℕ) → length boxes ≤ n → Contains (given_of boxes n) k → ⊥
none-beyond [] n k h c = omega (arith, c.1)
none-beyond (b ∷ bs) zero k h c = omega (arith, h)
none-beyond (b ∷ bs) (suc n) k h c = none-beyond bs n k (omega (arith, h)) c

-- what is given through others begins with a given box
starts : (boxes : List BoxInfo) (n box k : ℕ) → IsGivenThrough boxes n box k →
    (g : ℕ) × Contains (given_of boxes box) g
starts boxes zero box k h = (k, h)
starts boxes (suc n) box k h = (h.0, h.1)

-- there is no cycle where no box is in one
pub no_cycle_by : (boxes : List BoxInfo) (n : ℕ) → length boxes ≤ n →
    ((k : ℕ) → k < n → IsCyclic boxes k → ⊥) → HasNoCycle boxes
no_cycle_by boxes n h none = record {
  none = λ box cyclic. by_place box cyclic (nat_lt box n) refl;
}
  where
    by_place : (box : ℕ) → IsCyclic boxes box → (t : Bool) → nat_lt box n ≡ t → ⊥
    by_place box cyclic true is = none box (grind (arith, is)) cyclic
    by_place box cyclic false is = let first = starts boxes cyclic.0 box box cyclic.1 in
        none-beyond boxes box first.0 (grind (arith, is, h)) first.1

-- a box that its own row doesn't mark isn't in a cycle
pub not_cyclic : (boxes : List BoxInfo) (rows : List (List Bool)) (box : ℕ) (row : List Bool) →
    KnowsAllGiven boxes rows → box < length boxes → row ≡ slice_index_or rows box row →
    slice_index_or row box false ≡ false → IsCyclic boxes box → ⊥
not_cyclic boxes rows box row known below is not cyclic =
    let marks : IsMarked (slice_index_or rows box []) box = ((known.each box below).each box).1 cyclic in
    let same : row ≡ slice_index_or rows box [] =
    is ∙ default rows box row [] (subst (λ n. box < n) (sym known.count) below) in
    true-false (sym (subst (λ l. IsMarked l box) (sym same) marks) ∙ not)
  where
    true-false : true ≡ false → ⊥
    true-false e = absurd (cc)

    default : (rs : List (List Bool)) (k : ℕ) (d e : List Bool) → k < length rs →
        slice_index_or rs k d ≡ slice_index_or rs k e
    default [] k d e h = absurd (omega (arith, h))
    default (r ∷ rs) zero d e h = refl
    default (r ∷ rs) (suc k) d e h = default rs k d e (omega (arith, h))
