-- What the rule tells the seat that has all parts.
use Rattle.std.proofs.Common.{◌≡◌, ◌≢◌, ℕ, zero, suc, ◌<◌, List, [], ◌∷◌, ◌++◌, All, sum_by, false}
use Rattle.std.proofs.Common.{refl, sym, ap, ◌∙◌, subst, arith}
use Rattle.std.specs.Prelude.{Option, Some}
use mathlib.Core.Option as maybe
use lib.ListN.{get_elem?}
use Rattle.std.proofs.lemmas.List.Elements.{All-head, All-tail, All-nil, All-cons}
use Rattle.std.proofs.lemmas.List.Sums.{sum_by-cons}
use Rattle.atomic_table.specs.Table.{State, Final, Seen}
use Rattle.step_journal.proofs.Totals.{total_two}
use Rattle.box_turn.specs.declared.view.View.{View}
use Rattle.box_turn.specs.declared.view.View.TheVariants.{Spent, Live}
use Rattle.box_turn.specs.Rules.{parts_in, turns_in, Fits, Lies, IsKept}

-- what holds of all elements holds of the last one, and of those before it
pub All-popped : {A : Type 0} (P : A → Type 0) (all xs : List A) (x : A) → all ≡ xs ++ x ∷ [] → All P all →
    All P xs × P x
All-popped {A} P all xs x is h = popped xs (subst (All P) is h)
  where
    popped : (xs : List A) → All P (xs ++ x ∷ []) → All P xs × P x
    popped [] h = (All-nil P, All-head P x [] h)
    popped (y ∷ xs) h =
        let t = popped xs (All-tail P y (xs ++ x ∷ []) h) in
        (All-cons P y xs (All-head P y (xs ++ x ∷ []) h) t.0, t.1)

-- equal options have equal values
pub some_same : {A : Type 0} (x y : A) → Some x ≡ Some y → x ≡ y
some_same x y e = cc e

-- where a total isn't 0, one element isn't
some_counts : {A : Type 0} (f : A → ℕ) (xs : List A) → 0 < sum_by f xs →
    (j : ℕ) × (u : A) × (get_elem? xs j ≡ maybe.some u) × (0 < f u)
some_counts f [] some = absurd (omega arith)
some_counts {A} f (x ∷ xs) some = by_case (f x) refl (λ rest. some_counts f xs rest)
  where
    by_case : (n : ℕ) → f x ≡ n →
        (0 < sum_by f xs → (j : ℕ) × (u : A) × (get_elem? xs j ≡ maybe.some u) × (0 < f u)) →
        (j : ℕ) × (u : A) × (get_elem? (x ∷ xs) j ≡ maybe.some u) × (0 < f u)
    by_case zero is rest =
        let t = rest (omega (arith, some, is, sum_by-cons f x xs)) in (suc t.0, t.1, t.2, t.3)
    by_case (suc n) is rest = (0, x, refl, omega (arith, is))

module _ {C N : Type 0} (keeps : N → C → Type 0) (names : N) (seats : ℕ) where
  -- a view that holds the turn has a part
  turn_has_part : (v : View N) → Fits names v → 0 < turns_in v → 0 < parts_in v
  turn_has_part Spent fit some = some
  turn_has_part (Live known parts misses holds) fit some = fit.1

  -- where one seat has all parts and not the turn, no view holds it
  nobody : (s : State (Option C) (View N)) (id : ℕ) (known : N) (misses : ℕ) →
      IsKept keeps names seats s → get_elem? s.views id ≡ maybe.some (Live known seats misses false) →
      0 < sum_by turns_in s.views → ⊥
  nobody s id known misses kept at held =
      let mine : View N = Live known seats misses false in
      let t = kept.stands in
      let h = some_counts turns_in s.views held in
      let part = turn_has_part h.1 (t.fits h.0 h.1 h.2) h.3 in
      omega (
        arith,
        part,
        t.all_parts,
        total_two parts_in s.views id h.0 mine h.1 (other h.0 h.1 h.2 h.3) at h.2,
      )
    where
      other : (j : ℕ) (u : View N) → get_elem? s.views j ≡ maybe.some u → 0 < turns_in u → j ≢ id
      other j u there some same =
          let is : u ≡ Live known seats misses false =
          maybe.some-injective u (Live known seats misses false)
          (sym there ∙ ap (get_elem? s.views) same ∙ at) in
          absurd (omega (arith, some, ap turns_in is))

  -- so the value lies in the slot
  at_home : (s : State (Option C) (View N)) (id : ℕ) (known : N) (misses : ℕ) → IsKept keeps names seats s →
      get_elem? s.views id ≡ maybe.some (Live known seats misses false) →
      (cell : C) × (s.homes ≡ maybe.some (Some cell) ∷ []) × keeps names cell
  at_home s id known misses kept at = by_case kept.word refl kept.stands.lies
    where
      by_case : (n : ℕ) → kept.word ≡ n → Lies keeps names n s.homes →
          (cell : C) × (s.homes ≡ maybe.some (Some cell) ∷ []) × keeps names cell
      by_case zero is lies = lies
      by_case (suc n) is lies =
          absurd (nobody s id known misses kept at (omega (arith, is, kept.stands.holders)))

  -- and at the end it comes out of it
  pub comes_out : (id : ℕ) (v : View N) (known : N) (parts misses : ℕ) (ws : List ℕ) (xs : List (Option C))
      (x : Option C) → v ≡ Live known parts misses false → parts ≡ seats →
      Final (Seen (IsKept keeps names seats) id v) ws xs → get_elem? xs 0 ≡ maybe.some x →
      (cell : C) × (x ≡ Some cell) × keeps names cell
  comes_out id v known parts misses ws xs x is all final there =
      let s = final.0 in
      let at = final.1.1 ∙ ap maybe.some (is ∙ ap (λ q. Live known q misses false) all) in
      let l = at_home s id known misses final.1.0 at in
      let out = final.4 0 (Some l.0) (ap (λ h. get_elem? h 0) l.1) in
      (l.0, maybe.some-injective x (Some l.0) (sym there ∙ out), l.2)
