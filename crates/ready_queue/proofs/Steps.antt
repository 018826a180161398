-- The rule of the queue, after each kind of step.
use Rattle.std.proofs.Common.{◌≡◌, ◌≢◌, ℕ, ◌+◌, List, [], ◌∷◌, ◌++◌, length, set, cond, ◌==◌}
use Rattle.std.proofs.Common.{refl, sym, ◌∙◌, subst, ⊎_elim, arith}
use mathlib.Core.Option.{some}
use lib.ListN.{get_elem?}
use Rattle.std.specs.Prelude.{IsPermutation}
use Rattle.std.specs.List.Sorted.{IsStrictlyIncreasing}
use Rattle.std.proofs.lemmas.List.Elements.{All-cons, All-push}
use Rattle.std.proofs.lemmas.List.Sums.{sum_by-cons, sum_by_push}
use Rattle.std.proofs.lemmas.List.Sorted.{IsPermutation-refl, IsPermutation-sym, IsPermutation-trans}
use Rattle.std.proofs.lemmas.List.Sorted.{IsPermutation-cons, IsPermutation-append_right}
use Rattle.std.proofs.lemmas.List.Sorted.{IsPermutation-middle}
use Rattle.crossbeam_queue.proofs.Lists.{at_set, at_snoc, set_else}
use Rattle.step_journal.proofs.Owns.{once_below-suc}
use Rattle.step_journal.proofs.Totals.{total_set, total_two}
use Rattle.ready_queue.specs.declared.view.Mark.{Mark}
use Rattle.ready_queue.specs.declared.view.Row.{Row}
use Rattle.ready_queue.specs.declared.view.View.{View}
use Rattle.ready_queue.specs.declared.view.View.TheVariants.{Spent, Seated, First}
use Rattle.ready_queue.specs.Rules.{firsts_in, rows_in, rows_of, pushed_by, taken_by, all_of, passes}
use Rattle.ready_queue.specs.Rules.{IsOwn, Fits, Stands, IsKept, new_row, pushing, taking}
use Rattle.ready_queue.proofs.Alls.{same_set, more_set, all_push, merged, fronted}

-- what holds of each view, after a change of one
fits_set : {V : Type 0} (P : V → Type 0) (views : List V) (id : ℕ) (w : V) → P w →
    ((j : ℕ) (u : V) → j ≢ id → get_elem? views j ≡ some u → P u) → (j : ℕ) (u : V) →
    get_elem? (set views id w) j ≡ some u → P u
fits_set {V} P views id w here others j u at =
    ⊎_elim (λ (t : (j ≡ id) × (w ≡ u)). subst P t.1 here)
    (λ (t : (j ≢ id) × (get_elem? views j ≡ some u)). others j u t.0 t.1) (at_set views id j w u at)

-- and with one view more
fits_push : {V : Type 0} (P : V → Type 0) (views : List V) (w : V) → P w →
    ((j : ℕ) (u : V) → get_elem? views j ≡ some u → P u) → (j : ℕ) (u : V) →
    get_elem? (views ++ w ∷ []) j ≡ some u → P u
fits_push {V} P views w here others j u at =
    ⊎_elim (λ (t : get_elem? views j ≡ some u). others j u t) (λ (t : w ≡ u). subst P t here)
    (at_snoc views w u j at)

-- what the queue holds and what was taken is what was pushed, also in another order of the last two
pub handed_on : (items taken taken' pushed pushed' : List Mark) → IsPermutation (items ++ taken) pushed →
    IsPermutation taken taken' → IsPermutation pushed pushed' → IsPermutation (items ++ taken') pushed'
handed_on items taken taken' pushed pushed' handed t p =
    IsPermutation-trans _ _ _ (IsPermutation-append_right items _ _ (IsPermutation-sym _ _ t))
    (IsPermutation-trans _ _ _ handed p)

-- steps of a seat with this row, and of this item
module _ (items : List Mark) (given : ℕ) (row : Row) (m : Mark) where
  -- the item goes to the back of the queue
  pub pushed : (views : List View) (id : ℕ) → Stands items given views →
      get_elem? views id ≡ some (Seated row) → m.seat ≡ row.number →
      IsStrictlyIncreasing (passes (row.pushed ++ m ∷ [])) →
      Stands (items ++ m ∷ []) given (set views id (Seated (pushing row m)))
  pushed views id s at own rise =
      let v : View = Seated row in
      let w : View = Seated (pushing row m) in
      let taken = same_set taken_by refl views id v w at refl in
      let put = more_set pushed_by refl views id v w m at refl in
      record {
        one_first = omega (arith, s.one_first, total_set firsts_in views id v w at);
        fits = fits_set (Fits given) views id w (record {
          names = All-push (λ (n : Mark). n.seat ≡ row.number) row.pushed m (s.fits id v at).names own;
          rise = rise;
        }) (λ j u _ there. s.fits j u there);
        each_once = λ k. omega (
          arith,
          s.each_once k,
          total_set (λ u. rows_of k (rows_in u)) views id v w at,
          sum_by-cons (λ (r : Row). cond (r.number == k) 1 0) row [],
          sum_by-cons (λ (r : Row). cond (r.number == k) 1 0) (pushing row m) [],
        );
        many = omega (arith, s.many, total_set (λ u. length (rows_in u)) views id v w at);
        handed = IsPermutation-trans _ _ _ (fronted items m (all_of taken_by (set views id w)))
            (IsPermutation-trans _ _ _ (IsPermutation-cons m _ _
            (handed_on items _ _ _ _ s.handed taken (IsPermutation-refl _))) put);
      }

  -- it leaves at the front
  pub popped : (views : List View) (id : ℕ) → Stands (m ∷ items) given views →
      get_elem? views id ≡ some (Seated row) → Stands items given (set views id (Seated (taking row m)))
  popped views id s at =
      let v : View = Seated row in
      let w : View = Seated (taking row m) in
      let put = same_set pushed_by refl views id v w at refl in
      let taken = more_set taken_by refl views id v w m at refl in
      let before =
      IsPermutation-trans _ _ _ (IsPermutation-middle items m (all_of taken_by views)) s.handed in
      record {
        one_first = omega (arith, s.one_first, total_set firsts_in views id v w at);
        fits = fits_set (Fits given) views id w (record {
          names = (s.fits id v at).names;
          rise = (s.fits id v at).rise;
        }) (λ j u _ there. s.fits j u there);
        each_once = λ k. omega (
          arith,
          s.each_once k,
          total_set (λ u. rows_of k (rows_in u)) views id v w at,
          sum_by-cons (λ (r : Row). cond (r.number == k) 1 0) row [],
          sum_by-cons (λ (r : Row). cond (r.number == k) 1 0) (taking row m) [],
        );
        many = omega (arith, s.many, total_set (λ u. length (rows_in u)) views id v w at);
        handed = handed_on items _ _ _ _ before taken put;
      }

-- steps of the first view, with these rows and so many numbers given
module _ (items : List Mark) (rows : List Row) (given : ℕ) where
  -- the first view
  abbrev Pen : View
  Pen = First rows given

  -- the rule stands for the first view's count
  pub at_first : (views : List View) (id : ℕ) → IsKept items views → get_elem? views id ≡ some Pen →
      Stands items given views
  at_first views id kept at =
      subst (λ (g : ℕ). Stands items g views) (sym (kept.stands.fits id Pen at).0) kept.stands

  -- no other view is the first
  no_other : (views : List View) (id j : ℕ) (u : View) → Stands items given views →
      get_elem? views id ≡ some Pen → j ≢ id → get_elem? views j ≡ some u → firsts_in u ≡ 0
  no_other views id j u s at apart there =
      omega (arith, s.one_first, total_two firsts_in views id j Pen u apart at there)

  -- a seat with the next number is split off
  pub seated : (views : List View) (id : ℕ) → Stands items given views → get_elem? views id ≡ some Pen →
      Stands items (given + 1) (set views id (First rows (given + 1)) ++ Seated (new_row given) ∷ [])
  seated views id s at =
      let w : View = First rows (given + 1) in
      let n : View = Seated (new_row given) in
      let vs = set views id w in
      let handed = handed_on items _ _ _ _ s.handed (same_set taken_by refl views id Pen w at refl)
      (same_set pushed_by refl views id Pen w at refl) in
      record {
        one_first =
            omega (arith, s.one_first, sum_by_push firsts_in vs n, total_set firsts_in views id Pen w at);
        fits = fits_push (Fits (given + 1)) vs n unused
            (fits_set (Fits (given + 1)) views id w (refl, (s.fits id Pen at).1)
            (λ j u apart there. old u (no_other views id j u s at apart there) (s.fits j u there)));
        each_once = λ k. omega (
          arith,
          s.each_once k,
          sum_by_push (λ u. rows_of k (rows_in u)) vs n,
          total_set (λ u. rows_of k (rows_in u)) views id Pen w at,
          once_below-suc k given,
          sum_by-cons (λ (r : Row). cond (r.number == k) 1 0) (new_row given) [],
        );
        many = omega (
          arith,
          s.many,
          sum_by_push (λ u. length (rows_in u)) vs n,
          total_set (λ u. length (rows_in u)) views id Pen w at,
        );
        handed = subst (λ l. IsPermutation (items ++ l) (all_of pushed_by (vs ++ n ∷ [])))
            (sym (all_push taken_by refl vs n refl))
            (subst (IsPermutation (items ++ all_of taken_by vs)) (sym (all_push pushed_by refl vs n refl))
            handed);
      }
    where
      unused : IsOwn (new_row given)
      unused = record { names = λ k d h. absurd (omega arith); rise = λ k h. absurd (omega arith) }

      old : (u : View) → firsts_in u ≡ 0 → Fits given u → Fits (given + 1) u
      old Spent none fit = tt
      old (Seated row) none fit = fit
      old (First rs g) none fit = absurd (omega arith)

  -- a seat's row goes to the first view
  pub joined : (views : List View) (id other : ℕ) (row : Row) → Stands items given views →
      get_elem? views id ≡ some Pen → other ≢ id → get_elem? views other ≡ some (Seated row) →
      Stands items given (set (set views id (First (row ∷ rows) given)) other Spent)
  joined views id other row s at apart there =
      let w : View = First (row ∷ rows) given in
      let n : View = Seated row in
      let still : get_elem? (set views id w) other ≡ some n = set_else views id other w apart ∙ there in
      let own = λ (k : ℕ) (u : View). rows_of k (rows_in u) in
      record {
        one_first = omega (
          arith,
          s.one_first,
          total_set firsts_in views id Pen w at,
          total_set firsts_in (set views id w) other n Spent still,
        );
        fits = fits_set (Fits given) (set views id w) other Spent tt (λ j u _ e.
            fits_set (Fits given) views id w
            (refl, All-cons IsOwn row rows (s.fits other n there) (s.fits id Pen at).1)
            (λ k x _ f. s.fits k x f) j u e);
        each_once = λ k. omega (
          arith,
          s.each_once k,
          total_set (own k) views id Pen w at,
          total_set (own k) (set views id w) other n Spent still,
          sum_by-cons (λ (r : Row). cond (r.number == k) 1 0) row [],
          sum_by-cons (λ (r : Row). cond (r.number == k) 1 0) row rows,
        );
        many = omega (
          arith,
          s.many,
          total_set (λ u. length (rows_in u)) views id Pen w at,
          total_set (λ u. length (rows_in u)) (set views id w) other n Spent still,
        );
        handed = handed_on items _ _ _ _ s.handed
            (merged taken_by refl views id other Pen n w apart at there refl)
            (merged pushed_by refl views id other Pen n w apart at there refl);
      }
