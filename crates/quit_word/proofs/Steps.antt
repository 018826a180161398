-- Each kind of step keeps the rule of the word.
use Rattle.std.proofs.Common.{◌≡◌, ◌≢◌, ℕ, zero, suc, ◌+◌, ◌-◌, ◌^◌, ◌<◌, ◌≤◌, List, [], ◌∷◌, ◌++◌, length}
use Rattle.std.proofs.Common.{set, sum_by, count_by, All, Bool, true, false, ◌&&◌}
use Rattle.std.proofs.Common.{get_or, cond, ◌==◌, refl, sym, ap, ◌∙◌, subst, ⊎_elim, arith}
use Rattle.std.proofs.Common.{le_refl, Option, Some, None, length-append}
use mathlib.Core.Option.{some}
use prog.Atomic.{either}
use lib.ListN.{get_elem?}
use Rattle.std.proofs.lemmas.List.Elements.{All-head, All-tail}
use Rattle.std.proofs.lemmas.List.Sums.{sum_by-append, sum_by-cons, sum_by_push, count_by-le-length}
use Rattle.std.proofs.lemmas.Bool.Decides.{nat_tests}
use Rattle.atomic_table.specs.Table.{State, Me, step, Allows, Splits, Joins}
use Rattle.atomic_table.specs.Table.Act.{keeps}
use Rattle.atomic_table.proofs.Lists.{at_set, at_snoc, set_again, set_else, exchanged}
use Rattle.step_journal.specs.Rules.{once_below}
use Rattle.step_journal.proofs.Totals.{total_set, total_one, total_two, total_others}
use Rattle.quit_word.specs.declared.view.View.{View}
use Rattle.quit_word.specs.Rules.{Held, times_in, marks_in, size_of, firsts_in, once_named}
use Rattle.quit_word.specs.Rules.{Fits, Stands, IsKept, with_next, next_worker}
use Rattle.quit_word.specs.Rules.{unnumbered, both, either_seen, spent, seen_at, looked, Tells, Looks}
use Rattle.quit_word.specs.Rules.{marked_held, quitted, Quits}

-- what holds of each view, after a change of one
fits_set : {V : Type 0} (P : V → Type 0) (views : List V) (id : ℕ) (w : V) → P w →
    ((j : ℕ) (u : V) → get_elem? views j ≡ some u → P u) → (j : ℕ) (u : V) →
    get_elem? (set views id w) j ≡ some u → P u
fits_set {V} P views id w here others j u at =
    ⊎_elim (λ (t : (j ≡ id) × (w ≡ u)). subst P t.1 here)
    (λ (t : (j ≢ id) × (get_elem? views j ≡ some u)). others j u t.1) (at_set views id j w u at)

-- and with one view more
fits_push : {V : Type 0} (P : V → Type 0) (views : List V) (w : V) → P w →
    ((j : ℕ) (u : V) → get_elem? views j ≡ some u → P u) → (j : ℕ) (u : V) → get_elem? (views ++ w ∷ [])
    j ≡ some u → P u
fits_push {V} P views w here others j u at =
    ⊎_elim (λ (t : get_elem? views j ≡ some u). others j u t) (λ (t : w ≡ u). subst P t here)
    (at_snoc views w u j at)

-- 1 for true, 0 for false
abbrev bit : Bool → ℕ
bit b = cond b 1 0

-- nothing is not something
none_some : {A : Type 0} (x : A) → ◌≡◌ {A = Option A} None (Some x) → ⊥
none_some x e = cc e

-- equal options have equal values
some_same : {A : Type 0} (x y : A) → Some x ≡ Some y → x ≡ y
some_same x y e = cc e

-- nothing is marked there
unmarked_none : (m : ℕ) (held : Held) →
    All (λ h. h.1 ≡ false) held → count_by (λ (h : ℕ × Bool). (h.0 == m) && h.1) held ≡ 0
unmarked_none m [] none = refl
unmarked_none m (h ∷ hs) none =
    omega (
      arith,
      sum_by-cons (λ (x : ℕ × Bool). cond ((x.0 == m) && x.1) 1 0) h hs,
      one (h.0 == m) h.1 (All-head (λ (x : ℕ × Bool). x.1 ≡ false) h hs none),
      unmarked_none m hs (All-tail (λ (x : ℕ × Bool). x.1 ≡ false) h hs none),
    )
  where
    one : (b c : Bool) → c ≡ false → ◌≡◌ {A = ℕ} (cond (b && c) 1 0) 0
    one true true e = absurd (grind (arith, e))
    one true false e = refl
    one false c e = refl

-- at word 0 no number is named
nothing_named : (m : ℕ) → once_named m 0 ≡ 0
nothing_named m = grind (arith, nat_tests)

-- a word names its number once
named_once : (s : ℕ) → once_named s (suc s) ≡ 1
named_once s = grind (arith, nat_tests)

-- what is counted once below a number is below it
below_from_once : (m n : ℕ) → 1 ≤ once_below m n → m < n
below_from_once m n h = grind (arith, nat_tests)

-- a number is marked at most as often as it stands there
marks_le_times : (m : ℕ) (held : Held) →
    count_by (λ (h : ℕ × Bool). (h.0 == m) && h.1) held ≤ count_by (λ (h : ℕ × Bool). h.0 == m) held
marks_le_times m [] = le_refl 0
marks_le_times m (h ∷ hs) =
    omega (
      arith,
      sum_by-cons (λ (x : ℕ × Bool). cond ((x.0 == m) && x.1) 1 0) h hs,
      sum_by-cons (λ (x : ℕ × Bool). cond (x.0 == m) 1 0) h hs,
      one (h.0 == m) h.1,
      marks_le_times m hs,
    )
  where
    one : (b c : Bool) → bit (b && c) ≤ bit b
    one true true = le_refl 1
    one true false = omega arith
    one false c = le_refl 0

-- a count that is nowhere greater has no greater sum
total_le : {A : Type 0} (f g : A → ℕ) → ((x : A) → f x ≤ g x) → (xs : List A) → sum_by f xs ≤ sum_by g xs
total_le f g le [] = omega arith
total_le f g le (x ∷ xs) = omega (arith, sum_by-cons f x xs, sum_by-cons g x xs, le x, total_le f g le xs)

-- the number that the word names was given
named_given : (given word : ℕ) (words : List ℕ) (views : List View) → Stands given word words views →
    word ≤ given
named_given given zero words views s = omega arith
named_given given (suc k) words views s =
    let marked = s.marked k in
    let le = total_le (marks_in k) (times_in k) (λ v. marks_le_times k v.held) views in
    below_from_once k given (omega (arith, marked, named_once k, le, s.each_once k))

-- what a look tells is true
told : (given word : ℕ) (words : List ℕ) (views : List View) (id : ℕ) (v : View) →
    Stands given word words views →
    get_elem? views id ≡ some v → Tells word v
told given word words views id v s at = record {
  nobody = λ zero_is. nobody v.seen refl zero_is;
  unnamed = λ first all none. unnamed word refl first all none;
  few = omega (arith, named_given given word words views s, s.few);
}
  where
    nobody : (t : Option ℕ) → v.seen ≡ t → word ≡ 0 → v.seen ≡ None
    nobody None is zero_is = is
    nobody (Some k) is zero_is = absurd (omega (arith, (s.fits id v at).names k is, zero_is))

    unnamed : (n : ℕ) → word ≡ n → v.first ≡ true → size_of v ≡ v.given →
        All (λ h. h.1 ≡ false) v.held → n ≡ 0
    unnamed zero is first all none = refl
    unnamed (suc k) is first all none =
        let here = unmarked_none k v.held none in
        let others = total_others (marks_in k) size_of
        (λ u. count_by-le-length (λ (h : ℕ × Bool). (h.0 == k) && h.1) u.held) views id v at in
        let marked : sum_by (marks_in k) views ≡ 1 = s.marked k ∙ ap (once_named k) is ∙ named_once k in
        absurd (omega (arith, here, others, marked, s.all, (s.fits id v at).counts first, all))

-- the rule after a look
looked_stands : (given word : ℕ) (words : List ℕ) (views : List View) (id : ℕ) (v : View) (n : ℕ) →
    n ≡ word → Stands given word words views →
    get_elem? views id ≡ some v → Stands given word (set words 0 n) (set views id (looked n v))
looked_stands given word words views id v n n_is s at =
    let w = looked n v in
    record {
      word_is = subst (λ (ws : List ℕ).
          set ws 0 n ≡ word ∷ []) (sym s.word_is) (ap (λ (k : ℕ). k ∷ []) n_is);
      few = s.few;
      one_first = omega (arith, s.one_first, total_set firsts_in views id v w at);
      fits = fits_set (Fits given word) views id w
          (record { counts = (s.fits id v at).counts; names = names n n_is }) s.fits;
      each_once = λ m. omega (arith, s.each_once m, total_set (times_in m) views id v w at);
      all = omega (arith, s.all, total_set size_of views id v w at);
      marked = λ m. omega (arith, s.marked m, total_set (marks_in m) views id v w at);
    }
  where
    names : (k : ℕ) → k ≡ word → (t : ℕ) → seen_at k v.seen ≡ Some t → word ≡ t + 1
    names zero is t e = (s.fits id v at).names t e
    names (suc k) is t e = omega (arith, is, some_same k t e)

-- a look keeps the rule, and tells the truth
pub looks : {S : Type 0} (slots id : ℕ) (me : Me S View) →
    Allows (λ (s : State S View). IsKept s.words s.views) slots id me 0 (λ n.
    n) (Looks (step slots 0 0 0 mathlib.Core.Option.none) me)
looks {S} slots id me s kept homes at bound =
    let n_is : get_or s.words 0 0 ≡ kept.word = ap (λ (ws : List ℕ). get_or ws 0 0) kept.stands.word_is in (
      looked (get_or s.words 0 0) me.0,
      keeps,
      tt,
      record {
        given = kept.given;
        word = kept.word;
        stands = looked_stands kept.given kept.word s.words s.views id me.0 (get_or s.words 0 0) n_is
            kept.stands at;
      },
      (
        refl,
        subst (λ (n : ℕ). Tells n me.0) (sym n_is)
            (told kept.given kept.word s.words s.views id me.0 kept.stands at),
      ),
    )

-- the rule after a worker was split off
worker_stands : (given word : ℕ) (words : List ℕ) (views : List View) (id : ℕ) (v : View) → v.first ≡ true →
    v.given < 2 ^ 32 → Stands given word words views →
    get_elem? views id ≡ some v → Stands (given + 1) word words
    (set views id (with_next v) ++ next_worker v ∷ [])
worker_stands given word words views id v first room s at =
    let w = with_next v in
    let n = next_worker v in
    let given_is = (s.fits id v at).counts first in
    record {
      word_is = s.word_is;
      few = omega (arith, room, given_is);
      one_first = omega (
        arith,
        s.one_first,
        total_set firsts_in views id v w at,
        sum_by_push firsts_in (set views id w) n,
      );
      fits = fits_push (Fits (given + 1) word) (set views id w) n
          (record { counts = λ e. absurd (grind (arith, e)); names = λ t e. absurd (none_some t e) })
          (λ j u there. ⊎_elim (λ (t : (j ≡ id) × (w ≡ u)).
          subst (Fits (given + 1) word) t.1
          (record { counts = λ _. ap (λ k. k + 1) given_is; names = (s.fits id v at).names }))
          (λ (t : (j ≢ id) × (get_elem? views j ≡ some u)).
          record { counts = λ e. other j u t.0 t.1 u.first refl e; names = (s.fits j u t.1).names })
          (at_set views id j w u there));
      each_once = λ m. omega (
        arith,
        s.each_once m,
        total_set (times_in m) views id v w at,
        sum_by_push (times_in m) (set views id w) n,
        one_more m,
      );
      all = omega (arith, s.all, total_set size_of views id v w at, sum_by_push size_of (set views id w) n);
      marked = λ m. omega (
        arith,
        s.marked m,
        total_set (marks_in m) views id v w at,
        sum_by_push (marks_in m) (set views id w) n,
        unmarked m,
      );
    }
  where
    given_here : v.given ≡ given
    given_here = (s.fits id v at).counts first

    other : (j : ℕ) (u : View) → j ≢ id → get_elem? views j ≡ some u → (b : Bool) → u.first ≡ b →
        u.first ≡ true → u.given ≡ given + 1
    other j u apart there true is e =
        absurd (omega (
          arith,
          s.one_first,
          total_two firsts_in views id j v u apart at there,
          ap bit is,
          ap bit first,
        ))
    other j u apart there false is e = absurd (grind (arith, sym is ∙ e))

    one_more : (m : ℕ) → once_below m (given + 1) ≡ once_below m given + times_in m (next_worker v)
    one_more m = omega (
      arith,
      sum_by-cons
          (λ (h : ℕ × Bool). cond (h.0 == m) 1 0) (v.given, false) [],
      given_here,
      at_given m v.given given_here,
    )
      where
        at_given : (m g : ℕ) → g ≡ given → once_below m (given + 1) ≡ once_below m given + cond (g == m) 1 0
        at_given m g e = grind (arith, nat_tests)

    unmarked : (m : ℕ) → marks_in m (next_worker v) ≡ 0
    unmarked m = unmarked_none m ((v.given, false) ∷ []) (λ k d h. only k d h)
      where
        only : (k : ℕ) (d : ℕ × Bool) → k < 1 → (get_or ((v.given, false) ∷ []) k d).1 ≡ false
        only zero d h = refl
        only (suc k) d h = absurd (omega arith)

-- the split of a worker's view keeps the rule
pub workers : {S : Type 0} (id : ℕ) (v : View) → v.first ≡ true → v.given < 2 ^ 32 →
    Splits (λ (s : State S View). IsKept s.words s.views) id v (with_next v) (next_worker v)
workers {S} id v first room s kept at =
    record {
      given = kept.given + 1;
      word = kept.word;
      stands = worker_stands kept.given kept.word s.words s.views id v first room kept.stands at;
    }

-- the rule after a view without a number was split off
cell_stands : (given word : ℕ) (words : List ℕ) (views : List View) (id : ℕ) (v : View) →
    Stands given word words views →
    get_elem? views id ≡ some v → Stands given word words (set views id v ++ unnumbered v ∷ [])
cell_stands given word words views id v s at =
    let n = unnumbered v in
    subst (λ (vs : List View). Stands given word words (vs ++ n ∷ []))
    (sym (set_again views id v at)) (record {
      word_is = s.word_is;
      few = s.few;
      one_first = omega (arith, s.one_first, sum_by_push firsts_in views n);
      fits = fits_push (Fits given word) views n
          (record { counts = λ e. absurd (grind (arith, e)); names = (s.fits id v at).names }) s.fits;
      each_once = λ m. omega (arith, s.each_once m, sum_by_push (times_in m) views n);
      all = omega (arith, s.all, sum_by_push size_of views n);
      marked = λ m. omega (arith, s.marked m, sum_by_push (marks_in m) views n);
    })

-- the split of a view without a number keeps the rule
pub cells : {S : Type 0} (id : ℕ) (v : View) →
    Splits (λ (s : State S View). IsKept s.words s.views) id v v (unnumbered v)
cells {S} id v s kept at =
    record {
      given = kept.given;
      word = kept.word;
      stands = cell_stands kept.given kept.word s.words s.views id v kept.stands at;
    }

-- the rule after a view was joined into another one
joined_stands : (given word : ℕ) (words : List ℕ) (views : List View) (id other : ℕ) (v u : View) →
    u.first ≡ false → Stands given word words views →
    get_elem? views id ≡ some v → other ≢ id → get_elem? views other ≡ some u →
    Stands given word words (set (set views id (both v u)) other spent)
joined_stands given word words views id other v u second s at apart there =
    let w = both v u in
    let still : get_elem? (set views id w) other ≡ some u = set_else views id other w apart ∙ there in
    record {
      word_is = s.word_is;
      few = s.few;
      one_first = omega (
        arith,
        s.one_first,
        total_set firsts_in views id v w at,
        total_set firsts_in (set views id w) other u spent still,
        ap bit second,
      );
      fits = fits_set (Fits given word) (set views id w) other spent
          (record { counts = λ e. absurd (grind (arith, e)); names = λ t e. absurd (none_some t e) })
          (fits_set (Fits given word) views id w
          (record { counts = (s.fits id v at).counts; names = names v.seen refl }) s.fits);
      each_once = λ m. omega (
        arith,
        s.each_once m,
        total_set (times_in m) views id v w at,
        total_set (times_in m) (set views id w) other u spent still,
        sum_by-append (λ (h : ℕ × Bool). cond (h.0 == m) 1 0) u.held v.held,
      );
      all = omega (
        arith,
        s.all,
        total_set size_of views id v w at,
        total_set size_of (set views id w) other u spent still,
        length-append u.held v.held,
      );
      marked = λ m. omega (
        arith,
        s.marked m,
        total_set (marks_in m) views id v w at,
        total_set (marks_in m) (set views id w) other u spent still,
        sum_by-append (λ (h : ℕ × Bool). cond ((h.0 == m) && h.1) 1 0) u.held v.held,
      );
    }
  where
    names : (t : Option ℕ) → v.seen ≡ t → (k : ℕ) → either_seen v.seen u.seen ≡ Some k → word ≡ k + 1
    names None is k e = (s.fits other u there).names k (ap (λ o. either_seen o u.seen) (sym is) ∙ e)
    names (Some j) is k e = (s.fits id v at).names k (is ∙ ap (λ o. either_seen o u.seen) (sym is) ∙ e)

-- a join keeps the rule
pub joins : {S : Type 0} (id other : ℕ) (v u : View) → u.first ≡ false →
    Joins (λ (s : State S View). IsKept s.words s.views) id v other u (both v u) spent
joins {S} id other v u second s kept at apart there =
    let theirs : get_elem? s.views other ≡ some u = sym (set_else s.views id other (both v u) apart)
    ∙ there in
    record {
      given = kept.given;
      word = kept.word;
      stands = joined_stands kept.given kept.word s.words s.views id other v u second kept.stands at apart
          theirs;
    }

-- the rule after a number was put at the word
quit_stands : (k : ℕ) (b : Bool) (given : ℕ) (words : List ℕ) (views : List View) (id : ℕ) (v : View) →
    v.held ≡ (k, b) ∷ [] → Stands given 0 words views →
    get_elem? views id ≡ some v → Stands given (k + 1) (set words 0 (k + 1))
    (set views id (quitted (k + 1) 0 v))
quit_stands k b given words views id v held s at =
    let w = quitted (k + 1) 0 v in
    record {
      word_is = subst (λ (ws : List ℕ). set ws 0 (k + 1) ≡ (k + 1) ∷ []) (sym s.word_is) refl;
      few = s.few;
      one_first = omega (arith, s.one_first, total_set firsts_in views id v w at);
      fits = fits_set (Fits given (k + 1)) views id w
          (record {
            counts = (s.fits id v at).counts;
            names = λ t e. omega (arith, some_same ((k + 1) - 1) t e);
          })
          (λ j u there. record {
            counts = (s.fits j u there).counts;
            names = λ t e.
                absurd (omega (arith, (s.fits j u there).names t e));
          });
      each_once = λ m. omega (arith, s.each_once m, total_set (times_in m) views id v w at, same_times m);
      all = omega (
        arith,
        s.all,
        total_set size_of views id v w at,
        ap (λ hs. length (marked_held hs)) held,
        ap length held,
      );
      marked = λ m. omega (
        arith,
        s.marked m,
        total_set (marks_in m) views id v w at,
        total_one (marks_in m) views id v at,
        new_marks m,
        nothing_named m,
      );
    }
  where
    same_times : (m : ℕ) → count_by
        (λ (h : ℕ × Bool). h.0 == m) (marked_held v.held) ≡ count_by (λ (h : ℕ × Bool). h.0 == m) v.held
    same_times m = rw held refl

    mark_here : (m : ℕ) (c : Bool) → (k == m) ≡ c → once_named m 0 + cond (c && true) 1 0 ≡ once_named m
        (k + 1)
    mark_here m true e = grind (arith, nat_tests)
    mark_here m false e = grind (arith, nat_tests)

    new_marks : (m : ℕ) → once_named m 0 + count_by
        (λ (h : ℕ × Bool). (h.0 == m) && h.1) (marked_held v.held) ≡ once_named m (k + 1)
    new_marks m = rw held (omega (
      arith,
      sum_by-cons (λ (h : ℕ × Bool). cond ((h.0 == m) && h.1) 1 0) (k, true) [],
      mark_here m (k == m) refl,
    ))

-- and where another one stands there
seen_stands : (k b given word : ℕ) (words : List ℕ) (views : List View) (id : ℕ) (v : View) → word ≢ 0 →
    Stands given word words views →
    get_elem? views id ≡ some v → Stands given word (set words 0 word) (set views id (quitted k word v))
seen_stands k b given zero words views id v some_word s at = absurd (some_word refl)
seen_stands k b given (suc n) words views id v some_word s at =
    let w = quitted k (suc n) v in
    record {
      word_is = subst (λ (ws : List ℕ). set ws 0 (suc n) ≡ suc n ∷ []) (sym s.word_is) refl;
      few = s.few;
      one_first = omega (arith, s.one_first, total_set firsts_in views id v w at);
      fits = fits_set (Fits given (suc n)) views id w
          (record {
            counts = (s.fits id v at).counts;
            names = λ t e. omega (arith, some_same n t e);
          }) s.fits;
      each_once = λ m. omega (arith, s.each_once m, total_set (times_in m) views id v w at);
      all = omega (arith, s.all, total_set size_of views id v w at);
      marked = λ m. omega (arith, s.marked m, total_set (marks_in m) views id v w at);
    }

-- a quit keeps the rule
pub quits : {S : Type 0} (k : ℕ) (b : Bool) (slots id : ℕ) (me : Me S View) → me.0.held ≡ (k, b) ∷ [] →
    Allows (λ (s : State S View). IsKept s.words s.views) slots id me 0 (λ n.
    either (n == 0) (k + 1) n) (Quits (step slots 0 0 (k + 1) mathlib.Core.Option.none) me)
quits {S} k b slots id me held s kept homes at bound =
    let n_is : get_or s.words 0 0 ≡ kept.word = ap (λ (ws : List ℕ). get_or ws 0 0) kept.stands.word_is in (
      quitted (k + 1) (get_or s.words 0 0) me.0,
      keeps,
      tt,
      exchanged (get_or s.words 0 0) 0 (k + 1)
          (λ n. IsKept (set s.words 0 n) (set s.views id (quitted (k + 1) (get_or s.words 0 0) me.0)))
          (λ zero_is. record {
            given = kept.given;
            word = k + 1;
            stands = subst (λ (f : ℕ).
                Stands kept.given (k + 1) (set s.words 0 (k + 1)) (set s.views id (quitted (k + 1) f me.0)))
                (sym zero_is)
                (quit_stands k b kept.given s.words s.views id me.0 held
                (subst (λ (w : ℕ). Stands kept.given w s.words s.views) (sym n_is ∙ zero_is) kept.stands)
                at);
          })
          (λ some_word. record {
            given = kept.given;
            word = get_or s.words 0 0;
            stands = seen_stands (k + 1) 0 kept.given (get_or s.words 0 0) s.words s.views id me.0 some_word
                (subst (λ (w : ℕ). Stands kept.given w s.words s.views) (sym n_is) kept.stands) at;
          }),
      refl,
    )
