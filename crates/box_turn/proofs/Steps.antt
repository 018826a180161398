-- Each kind of step keeps the rule of a turn's table.
use Rattle.std.proofs.Common.{◌≡◌, ◌≢◌, ℕ, zero, suc, ◌+◌, ◌-◌, ◌<◌, List, [], ◌∷◌, ◌++◌, set}
use Rattle.std.proofs.Common.{true, false, ◌==◌, refl, sym, ap, ◌∙◌, subst, ⊎_elim, arith}
use Rattle.std.specs.Prelude.{Option, Some, None, slice_index}
use mathlib.Core.Option as maybe
use prog.Atomic.{either}
use lib.ListN.{get_elem?}
use Rattle.std.proofs.lemmas.List.Sums.{sum_by_push}
use Rattle.atomic_table.specs.Table.{State, Me, Act, Step, rest, step, stepped, Valid, carried_after, Allows}
use Rattle.atomic_table.specs.Table.{Splits, Joins}
use Rattle.atomic_table.specs.Table.Act.{keeps as act_keeps, takes as act_takes, gives as act_gives}
use Rattle.atomic_table.proofs.Lists.{at_set, at_snoc}
use Rattle.step_journal.proofs.Totals.{total_set, total_one}
use Rattle.box_turn.specs.declared.view.View.{View}
use Rattle.box_turn.specs.declared.view.View.TheVariants.{Spent, Live}
use Rattle.box_turn.specs.Rules.{parts_in, turns_in, Fits, Stands, IsKept, with_turn}
use Rattle.box_turn.specs.Rules.{with_one_less, one_part, with_parts_of, KeptBy, Takes, Gives}
use Rattle.box_turn.specs.Rules.{names_in, misses_in, holds_in}
use Rattle.box_turn.specs.Seats.{IsSeat, carried}

-- what holds of each view, after a change of one
fits_set : {V : Type 0} (P : V → Type 0) (views : List V) (id : ℕ) (w : V) → P w →
    ((j : ℕ) (u : V) → get_elem? views j ≡ maybe.some u → P u) → (j : ℕ) (u : V) →
    get_elem? (set views id w) j ≡ maybe.some u → P u
fits_set {V} P views id w here all j u at =
    ⊎_elim (λ (t : (j ≡ id) × (w ≡ u)). subst P t.1 here)
    (λ (t : (j ≢ id) × (get_elem? views j ≡ maybe.some u)). all j u t.1) (at_set views id j w u at)

-- and with one view more
fits_push : {V : Type 0} (P : V → Type 0) (views : List V) (w : V) → P w →
    ((j : ℕ) (u : V) → get_elem? views j ≡ maybe.some u → P u) → (j : ℕ) (u : V) →
    get_elem? (views ++ w ∷ []) j ≡ maybe.some u → P u
fits_push {V} P views w here all j u at =
    ⊎_elim (λ (t : get_elem? views j ≡ maybe.some u). all j u t) (λ (t : w ≡ u). subst P t here)
    (at_snoc views w u j at)

module _ {C N : Type 0} (keeps : N → C → Type 0) (names : N) (seats : ℕ) where
  -- a table whose word is this
  abbrev At : ℕ → List (maybe.Option (Option C)) → List (View N) → State (Option C) (View N)
  At word homes views = record { words = word ∷ []; homes = homes; views = views }

  -- the rule
  abbrev Kept : State (Option C) (View N) → Type 0
  Kept s = IsKept keeps names seats s

  -- where the rule holds the table has one word
  at_word : (s : State (Option C) (View N)) (kept : Kept s) → s ≡ At kept.word s.homes s.views
  at_word s kept = ap (λ ws. record { words = ws; homes = s.homes; views = s.views }) kept.stands.word_is

  module _ (known : N) (parts misses : ℕ) where
    -- a view that doesn't hold the turn
    abbrev Free : View N
    Free = Live known parts misses false

    -- the same view, holding it
    abbrev Holding : View N
    Holding = Live known parts misses true

    -- what a take asks of a table
    abbrev Taking : ℕ → ℕ → State (Option C) (View N) → Type 0
    Taking slots id s = (w : View N) × (a : Act (Option C)) × Valid s.homes [] a
        × Kept (stepped s 0 (either (slice_index s.words 0 == 0) 1 (slice_index s.words 0)) id [] w a)
        × Takes keeps (step slots 0 0 1 maybe.none) (Free, []) (slice_index s.words 0)
        (w, carried_after [] a)

    -- it is met at 0 and at 1
    taking : (slots id word : ℕ) (homes : List (maybe.Option (Option C))) (views : List (View N)) →
        Stands keeps names seats word (At word homes views) → get_elem? views id ≡ maybe.some Free →
        Taking slots id (At word homes views)
    taking slots id zero homes views s at =
        let l = s.lies in
        let fit = s.fits id Free at in
        subst (λ h. Taking slots id (At 0 h views)) (sym l.1) (
          Holding,
          act_takes 0 (Some l.0),
          refl,
          record {
            word = 1;
            stands = record {
              word_is = refl;
              lies = refl;
              fits = fits_set (Fits names) views id Holding fit s.fits;
              all_parts = omega (arith, s.all_parts, total_set parts_in views id Free Holding at);
              holders = omega (arith, s.holders, total_set turns_in views id Free Holding at);
            };
          },
          (l.0, subst (λ x. keeps x l.0) (sym fit.0) l.2, refl),
        )
    taking slots id (suc zero) homes views s at =
        let w : View N = Live known parts (misses + 1) false in
        let fit = s.fits id Free at in (
          w,
          act_keeps,
          tt,
          record {
            word = 1;
            stands = record {
              word_is = refl;
              lies = s.lies;
              fits = fits_set (Fits names) views id w fit s.fits;
              all_parts = omega (arith, s.all_parts, total_set parts_in views id Free w at);
              holders = omega (arith, s.holders, total_set turns_in views id Free w at);
            };
          },
          (refl, refl),
        )
    taking slots id (suc (suc n)) homes views s at = absurd s.lies

    -- a take keeps the rule
    pub takes : (slots id : ℕ) (me : Me (Option C) (View N)) → me ≡ (Free, []) →
        Allows Kept slots id me 0 (λ n. either (n == 0) 1 n) (Takes keeps (step slots 0 0 1 maybe.none) me)
    takes slots id me is =
        subst
        (λ me. Allows Kept slots id me 0 (λ n. either (n == 0) 1 n)
        (Takes keeps (step slots 0 0 1 maybe.none) me))
        (sym is)
        (λ s kept size at bound.
        subst (Taking slots id) (sym (at_word s kept))
        (taking slots id kept.word s.homes s.views
        (subst (λ t. Stands keeps names seats kept.word t) (at_word s kept) kept.stands) at))

    -- what a give asks of a table
    abbrev Giving : C → ℕ → ℕ → State (Option C) (View N) → Type 0
    Giving cell slots id s = (w : View N) × (a : Act (Option C)) × Valid s.homes ((0, Some cell) ∷ []) a
        × Kept (stepped s 0 0 id ((0, Some cell) ∷ []) w a)
        × Gives {S = Option C} (step slots 0 0 0 maybe.none) (Holding, (0, Some cell) ∷ []) 0
        (w, carried_after ((0, Some cell) ∷ []) a)

    -- it is met at 1, and at no other word does a view hold the turn
    giving : (cell : C) (slots id word : ℕ) (homes : List (maybe.Option (Option C)))
        (views : List (View N)) → keeps known cell → Stands keeps names seats word (At word homes views) →
        get_elem? views id ≡ maybe.some Holding → Giving cell slots id (At word homes views)
    giving cell slots id zero homes views kept s at =
        let one = total_one turns_in views id Holding at in
        let none = s.holders in absurd (omega arith)
    giving cell slots id (suc zero) homes views kept s at =
        let fit = s.fits id Holding at in
        subst (λ h. Giving cell slots id (At 1 h views)) (sym s.lies) (
          Free,
          act_gives,
          tt,
          record {
            word = 0;
            stands = record {
              word_is = refl;
              lies = (cell, refl, subst (λ x. keeps x cell) fit.0 kept);
              fits = fits_set (Fits names) views id Free fit s.fits;
              all_parts = omega (arith, s.all_parts, total_set parts_in views id Holding Free at);
              holders = omega (arith, s.holders, total_set turns_in views id Holding Free at);
            };
          },
          refl,
        )
    giving cell slots id (suc (suc n)) homes views kept s at = absurd s.lies

    -- a give keeps the rule
    pub gives : (cell : C) (slots id : ℕ) (me : Me (Option C) (View N)) →
        me ≡ (Holding, (0, Some cell) ∷ []) → keeps known cell →
        Allows Kept slots id me 0 (λ _. 0) (λ _. Gives {S = Option C} (step slots 0 0 0 maybe.none) me 0)
    gives cell slots id me is there =
        subst
        (λ me. Allows Kept slots id me 0 (λ _. 0)
        (λ _. Gives {S = Option C} (step slots 0 0 0 maybe.none) me 0))
        (sym is)
        (λ s kept size at bound.
        subst (Giving cell slots id) (sym (at_word s kept))
        (giving cell slots id kept.word s.homes s.views there
        (subst (λ t. Stands keeps names seats kept.word t) (at_word s kept) kept.stands) at))

    -- a split keeps the rule
    pub splits : (id : ℕ) (v : View N) → v ≡ Free → 1 < parts →
        Splits Kept id v (with_one_less v) (one_part v)
    splits id v is more = subst (λ v. Splits Kept id v (with_one_less v) (one_part v)) (sym is) (λ s kept at.
        let t = kept.stands in
        let w : View N = Live known (parts - 1) misses false in
        let o : View N = Live known 1 0 false in
        let fit = t.fits id Free at in
        record {
          word = kept.word;
          stands = record {
            word_is = t.word_is;
            lies = t.lies;
            fits = fits_push (Fits names) (set s.views id w) o (fit.0, omega arith)
                (fits_set (Fits names) s.views id w (fit.0, omega arith) t.fits);
            all_parts = omega (
              arith,
              t.all_parts,
              more,
              sum_by_push parts_in (set s.views id w) o,
              total_set parts_in s.views id Free w at,
            );
            holders = omega (
              arith,
              t.holders,
              sum_by_push turns_in (set s.views id w) o,
              total_set turns_in s.views id Free w at,
            );
          };
        })

    -- a join keeps the rule
    pub joins : (id other : ℕ) (v u : View N) (named : N) (more missed : ℕ) → v ≡ Free →
        u ≡ Live named more missed false → Joins Kept id v other u (with_parts_of v u) Spent
    joins id other v u named more missed is their =
        subst (λ v. Joins Kept id v other u (with_parts_of v u) Spent) (sym is)
        (subst (λ u. Joins Kept id Free other u (with_parts_of Free u) Spent) (sym their)
        (λ s kept at apart there.
        let t = kept.stands in
        let w : View N = Live known (parts + more) misses false in
        let o : View N = Live named more missed false in
        let fit = t.fits id Free at in
        record {
          word = kept.word;
          stands = record {
            word_is = t.word_is;
            lies = t.lies;
            fits = fits_set (Fits names) (set s.views id w) other Spent tt
                (fits_set (Fits names) s.views id w (fit.0, omega (arith, fit.1)) t.fits);
            all_parts = omega (
              arith,
              t.all_parts,
              total_set parts_in s.views id Free w at,
              total_set parts_in (set s.views id w) other o Spent there,
            );
            holders = omega (
              arith,
              t.holders,
              total_set turns_in s.views id Free w at,
              total_set turns_in (set s.views id w) other o Spent there,
            );
          };
        }))

-- a seat that doesn't hold the turn has no slot
pub free_is : {C N : Type 0} (any : N) (me : Me (Option C) (View N)) → IsSeat any me →
    holds_in me.0 ≡ false → me ≡ (Live (names_in any me.0) 1 (misses_in me.0) false, [])
free_is any me seat free =
    seat.me_is ∙ ap (λ h. (Live (names_in any me.0) 1 (misses_in me.0) h, carried h)) free

-- one that holds it has the slot, empty
pub holding_is : {C N : Type 0} (any : N) (me : Me (Option C) (View N)) → IsSeat any me →
    holds_in me.0 ≡ true → me ≡ (Live (names_in any me.0) 1 (misses_in me.0) true, (0, None) ∷ [])
holding_is any me seat held =
    seat.me_is ∙ ap (λ h. (Live (names_in any me.0) 1 (misses_in me.0) h, carried h)) held

-- a take that found 0 has the slot
pub took : {C N : Type 0} (keeps : N → C → Type 0) (st : Step (Option C))
    (before after : Me (Option C) (View N)) (n : ℕ) → Takes keeps st before n after → n ≡ 0 →
    (cell : C) × KeptBy keeps before.0 cell × (after ≡ (with_turn before.0, (0, Some cell) ∷ before.1))
took keeps st before after n t zero_found = subst (λ k. Takes keeps st before k after) zero_found t

-- the first of a list, before the rest
pub first_of : {S : Type 0} (x : ℕ × S) (xs ys : List (ℕ × S)) → ys ≡ x ∷ xs → ys ≡ x ∷ rest ys
first_of x xs ys is = is ∙ ap (λ zs. x ∷ zs) (sym (ap rest is))
