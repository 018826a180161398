-- Each item is pushed once, so it is taken once.
use Rattle.std.proofs.Common.{◌≡◌, ℕ, suc, ◌<◌, ◌≤◌, ◌==◌, ◌&&◌, Bool, true, false, cond, List, [], ◌∷◌}
use Rattle.std.proofs.Common.{◌++◌, refl, ap, ◌∙◌, subst, arith, All, sum_by, count_by}
use mathlib.Core.Option.{some}
use lib.ListN.{get_elem?}
use Rattle.std.specs.List.{AllPairs}
use Rattle.std.proofs.lemmas.Bool.Decides.{nat_tests}
use Rattle.std.proofs.lemmas.List.Elements.{All-head, All-tail}
use Rattle.std.proofs.lemmas.List.Kept.{AllPairs-from_increasing}
use Rattle.std.proofs.lemmas.List.Sums.{sum_by-cons, sum_by-append}
use Rattle.std.proofs.lemmas.List.Sorted.{sum_by-IsPermutation}
use Rattle.ready_queue.specs.declared.view.Mark.{Mark}
use Rattle.ready_queue.specs.declared.view.Row.{Row}
use Rattle.ready_queue.specs.declared.view.View.{View}
use Rattle.ready_queue.specs.declared.view.View.TheVariants.{Spent, Seated, First}
use Rattle.ready_queue.specs.Rules.{rows_in, rows_of, pushed_in, pushed_by, taken_by, all_of}
use Rattle.ready_queue.specs.Rules.{passes, is_item, taken_in, IsOwn, Fits, IsKept, IsSettled}
use Rattle.step_journal.proofs.Owns.{once_below-le}
use Rattle.step_journal.proofs.Totals.{total_le}

module _ (seat pass : ℕ) where
  -- 1 for an item of this seat and pass, else 0
  abbrev pub one : Mark → ℕ
  one m = cond (is_item seat pass m) 1 0

  -- 1 for an item of this pass, else 0
  abbrev pub of_pass : Mark → ℕ
  of_pass m = cond (m.ticket.pass == pass) 1 0

  -- no item of the pass is among later ones
  later : (ms : List Mark) → All (λ n. pass < n) (passes ms) → sum_by of_pass ms ≡ 0
  later [] h = refl
  later (m ∷ ms) h =
      let head : pass < m.ticket.pass = All-head (λ n. pass < n) m.ticket.pass (passes ms) h in
      let here : of_pass m ≡ 0 = grind (arith, nat_tests) in
      omega (
        arith,
        sum_by-cons of_pass m ms,
        here,
        later ms (All-tail (λ n. pass < n) m.ticket.pass (passes ms) h),
      )

  -- pass numbers that rise have each number once
  rising : (ms : List Mark) → AllPairs (λ x y. x < y) (passes ms) → sum_by of_pass ms ≤ 1
  rising [] h = omega arith
  rising (m ∷ ms) h =
      by_case (rising ms (λ i j d less within. h (suc i) (suc j) d (omega arith) (omega arith)))
      (m.ticket.pass == pass) refl
    where
      by_case : sum_by of_pass ms ≤ 1 → (b : Bool) → (m.ticket.pass == pass) ≡ b →
          sum_by of_pass (m ∷ ms) ≤ 1
      by_case rest true is =
          let same : m.ticket.pass ≡ pass = grind (arith, nat_tests) in
          let above : All (λ n. pass < n) (passes ms) =
          subst (λ p. All (λ n. p < n) (passes ms)) same
          (λ k d within. h 0 (suc k) d (omega arith) (omega arith)) in
          omega (arith, sum_by-cons of_pass m ms, ap (λ (b : Bool). cond {A = ℕ} b 1 0) is, later ms above)
      by_case rest false is =
          omega (arith, sum_by-cons of_pass m ms, ap (λ (b : Bool). cond {A = ℕ} b 1 0) is, rest)

  -- among items of another seat it is none
  foreign : (number : ℕ) (ms : List Mark) → (number == seat) ≡ false → All (λ m. m.seat ≡ number) ms →
      sum_by one ms ≡ 0
  foreign number [] other names = refl
  foreign number (m ∷ ms) other names =
      let name : m.seat ≡ number = All-head (λ (x : Mark). x.seat ≡ number) m ms names in
      let here : one m ≡ 0 =
      ap (λ n. cond {A = ℕ} ((n == seat) && (m.ticket.pass == pass)) 1 0) name
      ∙ ap (λ (b : Bool). cond {A = ℕ} (b && (m.ticket.pass == pass)) 1 0) other in
      omega (
        arith,
        sum_by-cons one m ms,
        here,
        foreign number ms other (All-tail (λ (x : Mark). x.seat ≡ number) m ms names),
      )

  -- an item of this seat and pass is one of this pass
  fewer : (m : Mark) → one m ≤ of_pass m
  fewer m = by_case (m.seat == seat) (m.ticket.pass == pass)
    where
      by_case : (a b : Bool) → cond {A = ℕ} (a && b) 1 0 ≤ cond b 1 0
      by_case true true = omega arith
      by_case true false = omega arith
      by_case false true = omega arith
      by_case false false = omega arith

  -- a row has pushed it once at most, and only where it has the seat's number
  in_row : (row : Row) → IsOwn row → sum_by one row.pushed ≤ cond (row.number == seat) 1 0
  in_row row own = by_case (row.number == seat) refl
    where
      by_case : (b : Bool) → (row.number == seat) ≡ b → sum_by one row.pushed ≤ cond b 1 0
      by_case true is =
          omega (
            arith,
            total_le one of_pass fewer row.pushed,
            rising row.pushed (AllPairs-from_increasing (passes row.pushed) own.rise),
          )
      by_case false is = omega (arith, foreign row.number row.pushed is own.names)

  -- and so have rows, as often as their numbers are this one
  pub in_rows : (rows : List Row) → All IsOwn rows → sum_by one (pushed_in rows) ≤ rows_of seat rows
  in_rows [] own = omega arith
  in_rows (r ∷ rows) own =
      omega (
        arith,
        sum_by-append one r.pushed (pushed_in rows),
        sum_by-cons (λ (x : Row). cond (x.number == seat) 1 0) r rows,
        in_row r (All-head IsOwn r rows own),
        in_rows rows (All-tail IsOwn r rows own),
      )

  -- and a view
  in_view : (given : ℕ) (v : View) → Fits given v → sum_by one (pushed_by v) ≤ rows_of seat (rows_in v)
  in_view given Spent fit = omega arith
  in_view given (Seated row) fit =
      omega (arith, sum_by-cons (λ (x : Row). cond (x.number == seat) 1 0) row [], in_row row fit)
  in_view given (First rows count) fit = in_rows rows fit.1

  -- and all views
  in_views : (given : ℕ) (views : List View) →
      ((id : ℕ) (v : View) → get_elem? views id ≡ some v → Fits given v) →
      sum_by one (all_of pushed_by views) ≤ sum_by (λ v. rows_of seat (rows_in v)) views
  in_views given [] fits = omega arith
  in_views given (v ∷ views) fits =
      omega (
        arith,
        sum_by-append one (pushed_by v) (all_of pushed_by views),
        sum_by-cons (λ u. rows_of seat (rows_in u)) v views,
        in_view given v (fits 0 v refl),
        in_views given views (λ id u at. fits (suc id) u at),
      )

  -- at every moment
  pub once : (items : List Mark) (views : List View) → IsKept items views →
      count_by (is_item seat pass) (items ++ all_of taken_by views) ≤ 1
  once items views kept =
      let s = kept.stands in
      omega (
        arith,
        sum_by-IsPermutation one (items ++ all_of taken_by views) (all_of pushed_by views) s.handed,
        in_views kept.given views s.fits,
        s.each_once seat,
        once_below-le seat kept.given,
      )

  -- and once all seats were joined
  pub once_settled : (items : List Mark) (rows : List Row) (given : ℕ) → IsSettled items rows given →
      count_by (is_item seat pass) (items ++ taken_in rows) ≤ 1
  once_settled items rows given s =
      omega (
        arith,
        sum_by-IsPermutation one (items ++ taken_in rows) (pushed_in rows) s.handed,
        in_rows rows s.own,
        s.each_once seat,
        once_below-le seat given,
      )
