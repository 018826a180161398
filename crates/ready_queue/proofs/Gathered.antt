-- Where as many passes were finished as were started, all that were started were taken and finished.
use Rattle.std.proofs.Common.{◌≡◌, ℕ, ◌+◌, ◌<◌, ◌==◌, Bool, true, false, cond, List, [], ◌∷◌, ◌++◌, length}
use Rattle.std.proofs.Common.{refl, sym, ap, ◌∙◌, subst, arith, All}
use Rattle.std.specs.Prelude.{IsPermutation}
use Rattle.std.proofs.lemmas.Bool.Decides.{nat_tests}
use Rattle.std.proofs.lemmas.List.{length-append}
use Rattle.std.proofs.lemmas.List.Elements.{All-head, All-tail}
use Rattle.std.proofs.lemmas.List.Sums.{sum_by-cons}
use Rattle.std.proofs.lemmas.List.Sorted.{IsPermutation-refl, IsPermutation-trans, IsPermutation-cons}
use Rattle.std.proofs.lemmas.List.Sorted.{IsPermutation-append_right, IsPermutation-middle}
use Rattle.std.proofs.lemmas.List.Sorted.{length_permutation}
use Rattle.step_journal.specs.Rules.{once_below}
use Rattle.ready_queue.specs.declared.view.Mark.{Mark}
use Rattle.ready_queue.specs.declared.view.Row.{Row}
use Rattle.ready_queue.specs.Rules.{rows_of, pushed_in, taken_in}
use Rattle.ready_queue.specs.Gathers.{started_by, IsGathered}

-- what each of these seats started, one after the other
abbrev pub dealt : List Row → List Mark → List Mark
dealt [] started = []
dealt (r ∷ rows) started = started_by r.number started ++ dealt rows started

-- nothing, where nothing was started
dealt_nothing : (rows : List Row) → dealt rows [] ≡ []
dealt_nothing [] = refl
dealt_nothing (r ∷ rows) = dealt_nothing rows

module _ (m : Mark) (started : List Mark) where
  -- one item more is one of this seat, or none
  mine : (r : Row) (b : Bool) → (m.seat == r.number) ≡ b →
      started_by r.number (m ∷ started)
      ≡ cond b (m ∷ started_by r.number started) (started_by r.number started)
  mine r b is = ap (λ c. cond c (m ∷ started_by r.number started) (started_by r.number started)) is

  -- and its row counts, or doesn't
  counted : (r : Row) (rows : List Row) (b : Bool) → (m.seat == r.number) ≡ b →
      rows_of m.seat (r ∷ rows) ≡ cond b 1 0 + rows_of m.seat rows
  counted r rows b is =
      let turn : (r.number == m.seat) ≡ b = grind (arith, nat_tests) in
      omega (
        arith,
        sum_by-cons (λ (x : Row). cond (x.number == m.seat) 1 0) r rows,
        ap (λ (c : Bool). cond {A = ℕ} c 1 0) turn,
      )

  -- where no seat has its number the item is none of them
  none_more : (rows : List Row) → rows_of m.seat rows ≡ 0 → dealt rows (m ∷ started) ≡ dealt rows started
  none_more [] e = refl
  none_more (r ∷ rows) e = by_case (λ none. none_more rows none) (m.seat == r.number) refl
    where
      by_case : (rows_of m.seat rows ≡ 0 → dealt rows (m ∷ started) ≡ dealt rows started) → (b : Bool) →
          (m.seat == r.number) ≡ b → dealt (r ∷ rows) (m ∷ started) ≡ dealt (r ∷ rows) started
      by_case rest true is = absurd (omega (arith, counted r rows true is, e))
      by_case rest false is = (λ i. mine r false is i ++ rest (omega (arith, counted r rows false is, e)) i)

  -- where one seat has its number it is one of them
  one_more : (rows : List Row) → rows_of m.seat rows ≡ 1 →
      IsPermutation (dealt rows (m ∷ started)) (m ∷ dealt rows started)
  one_more [] e = absurd (omega arith)
  one_more (r ∷ rows) e = by_case (λ one. one_more rows one) (m.seat == r.number) refl
    where
      by_case : (rows_of m.seat rows ≡ 1 →
          IsPermutation (dealt rows (m ∷ started)) (m ∷ dealt rows started)) →
          (b : Bool) → (m.seat == r.number) ≡ b →
          IsPermutation (dealt (r ∷ rows) (m ∷ started)) (m ∷ dealt (r ∷ rows) started)
      by_case rest true is =
          let same : dealt (r ∷ rows) (m ∷ started) ≡ m ∷ dealt (r ∷ rows) started =
          (λ i. mine r true is i ++ none_more rows (omega (arith, counted r rows true is, e)) i) in
          subst (λ l. IsPermutation l (m ∷ dealt (r ∷ rows) started)) (sym same)
          (IsPermutation-refl (m ∷ dealt (r ∷ rows) started))
      by_case rest false is =
          subst (λ l. IsPermutation (l ++ dealt rows (m ∷ started)) (m ∷ dealt (r ∷ rows) started))
          (sym (mine r false is))
          (IsPermutation-trans _ _ _ (IsPermutation-append_right (started_by r.number started) _ _
          (rest (omega (arith, counted r rows false is, e))))
          (IsPermutation-middle (started_by r.number started) m (dealt rows started)))

-- where the seats have all numbers below some one, each once, all that was started by such seats is theirs
all_dealt : (rows : List Row) (given : ℕ) (started : List Mark) →
    ((n : ℕ) → rows_of n rows ≡ once_below n given) → All (λ m. m.seat < given) started →
    IsPermutation (dealt rows started) started
all_dealt rows given [] once below =
    subst (λ l. IsPermutation l []) (sym (dealt_nothing rows)) (IsPermutation-refl [])
all_dealt rows given (m ∷ started) once below =
    let mine : m.seat < given = All-head (λ (x : Mark). x.seat < given) m started below in
    let one : once_below m.seat given ≡ 1 = grind (arith, nat_tests) in
    IsPermutation-trans _ _ _ (one_more m started rows (once m.seat ∙ one))
    (IsPermutation-cons m _ _
    (all_dealt rows given started once (All-tail (λ (x : Mark). x.seat < given) m started below)))

-- where each seat has pushed what it started, all that was pushed is what each of them started
pushed_dealt : (rows : List Row) (started : List Mark) →
    All (λ r. r.pushed ≡ started_by r.number started) rows → pushed_in rows ≡ dealt rows started
pushed_dealt [] started h = refl
pushed_dealt (r ∷ rows) started h =
    (λ i. All-head (λ (x : Row). x.pushed ≡ started_by x.number started) r rows h i
    ++ pushed_dealt rows started (All-tail (λ (x : Row). x.pushed ≡ started_by x.number started) r rows h) i)

module _ (items : List Mark) (rows : List Row) (given : ℕ) (started : List Mark) (finished : ℕ)
    (g : IsGathered items rows given started finished) where
  -- what was pushed is what was started
  pushed_are : IsPermutation (pushed_in rows) started
  pushed_are =
      subst (λ l. IsPermutation l started) (sym (pushed_dealt rows started g.pushed))
      (all_dealt rows given started g.settled.each_once g.by_seats)

  -- so by their lengths nothing is left in the queue, and all that were taken were finished
  counts : (length items ≡ 0) × (finished ≡ length (taken_in rows))
  counts =
      let all = length_permutation (items ++ taken_in rows) (pushed_in rows) g.settled.handed in
      let put = length_permutation (pushed_in rows) started pushed_are in
      let both = length-append items (taken_in rows) in
      (omega (arith, all, put, both, g.within, g.many), omega (arith, all, put, both, g.within, g.many))

  -- the queue is empty
  pub empty : items ≡ []
  empty = nothing items counts.0
    where
      nothing : (l : List Mark) → length l ≡ 0 → l ≡ []
      nothing [] e = refl
      nothing (x ∷ l) e = absurd (omega arith)

  -- each pass that was started was taken once
  pub taken : IsPermutation (taken_in rows) started
  taken =
      IsPermutation-trans _ _ _
      (subst (λ l. IsPermutation (l ++ taken_in rows) (pushed_in rows)) empty g.settled.handed) pushed_are

  -- and finished
  pub all_finished : finished ≡ length (taken_in rows)
  all_finished = counts.1
