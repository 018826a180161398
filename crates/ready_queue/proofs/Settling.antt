-- Once all seats are joined the first view knows the whole.
use Rattle.std.proofs.Common.{◌≡◌, ℕ, List, [], ◌∷◌, ◌++◌, length, set}
use Rattle.std.proofs.Common.{refl, ap, ◌∙◌, subst, arith, append-nil}
use mathlib.Core.Option.{some}
use lib.ListN.{get_elem?}
use Rattle.std.specs.Prelude.{IsPermutation, sum_by}
use Rattle.std.proofs.lemmas.List.Sums.{sum_by-cons}
use Rattle.step_journal.proofs.Totals.{total_set}
use Rattle.ready_queue.specs.declared.view.Mark.{Mark}
use Rattle.ready_queue.specs.declared.view.Row.{Row}
use Rattle.ready_queue.specs.declared.view.View.{View}
use Rattle.ready_queue.specs.declared.view.View.TheVariants.{Spent, Seated, First}
use Rattle.ready_queue.specs.Rules.{rows_in, rows_of, pushed_in, taken_in, pushed_by, taken_by, all_of}
use Rattle.ready_queue.specs.Rules.{Stands, IsSettled}
use Rattle.ready_queue.proofs.Alls.{apart}
use Rattle.ready_queue.proofs.Steps.{handed_on}

-- how many rows all these views have
abbrev rows_in_all : List View → ℕ
rows_in_all views = sum_by (λ u. length (rows_in u)) views

-- no rows
no_row : (rows : List Row) → length rows ≡ 0 → rows ≡ []
no_row [] e = refl
no_row (r ∷ rows) e = absurd (omega arith)

-- a view without rows has pushed nothing
pushed_none : (v : View) → length (rows_in v) ≡ 0 → pushed_by v ≡ []
pushed_none Spent e = refl
pushed_none (Seated row) e = absurd (omega arith)
pushed_none (First rows given) e = ap pushed_in (no_row rows e)

-- and has taken nothing
taken_none : (v : View) → length (rows_in v) ≡ 0 → taken_by v ≡ []
taken_none Spent e = refl
taken_none (Seated row) e = absurd (omega arith)
taken_none (First rows given) e = ap taken_in (no_row rows e)

-- where no view has rows, no number is that of a row
numbers_none : (k : ℕ) (views : List View) → rows_in_all views ≡ 0 →
    sum_by (λ u. rows_of k (rows_in u)) views ≡ 0
numbers_none k [] e = refl
numbers_none k (v ∷ views) e =
    let count = sum_by-cons (λ u. length (rows_in u)) v views in
    let here : length (rows_in v) ≡ 0 = omega (arith, e, count) in
    omega (
      arith,
      sum_by-cons (λ u. rows_of k (rows_in u)) v views,
      ap (rows_of k) (no_row (rows_in v) here),
      numbers_none k views (omega (arith, e, count)),
    )

-- what only views with rows have
module _ (f : View → List Mark) (blank : (v : View) → length (rows_in v) ≡ 0 → f v ≡ []) where
  -- where no view has rows none has anything
  all_none : (views : List View) → rows_in_all views ≡ 0 → all_of f views ≡ []
  all_none [] e = refl
  all_none (v ∷ views) e =
      let count = sum_by-cons (λ u. length (rows_in u)) v views in
      ap (λ l. l ++ all_of f views) (blank v (omega (arith, e, count)))
      ∙ all_none views (omega (arith, e, count))

  -- where only one view has rows, all that there is is what it has
  alone : (views : List View) (id : ℕ) (v : View) → rows_in_all (set views id Spent) ≡ 0 →
      get_elem? views id ≡ some v → IsPermutation (all_of f views) (f v)
  alone views id v e at =
      subst (IsPermutation (all_of f views)) (append-nil (f v))
      (subst (λ l. IsPermutation (all_of f views) (f v ++ l)) (all_none (set views id Spent) e)
      (apart f (blank Spent refl) views id v at))

-- the first view that has as many rows as numbers were given has them all
pub settled : (items : List Mark) (rows : List Row) (given : ℕ) (views : List View) (id : ℕ) →
    Stands items given views → get_elem? views id ≡ some (First rows given) → length rows ≡ given →
    IsSettled items rows given
settled items rows given views id s at all =
    let v : View = First rows given in
    let cleared = total_set (λ u. length (rows_in u)) views id v Spent at in
    let no_others : rows_in_all (set views id Spent) ≡ 0 = omega (arith, s.many, all, cleared) in
    record {
      own = (s.fits id v at).1;
      each_once = λ k. omega (
        arith,
        s.each_once k,
        total_set (λ u. rows_of k (rows_in u)) views id v Spent at,
        numbers_none k (set views id Spent) no_others,
      );
      handed = handed_on items _ _ _ _ s.handed (alone taken_by taken_none views id v no_others at)
          (alone pushed_by pushed_none views id v no_others at);
    }
