-- Attempts in the list of a run's events: rounds by places, and what is kept.
use Rattle.std.proofs.Common.{◌≡◌, ℕ, zero, suc, ◌+◌, ◌*◌, ◌<◌, ◌≤◌, ◌⊎◌, inl, inr, List, [], ◌∷◌, Bool}
use Rattle.std.proofs.Common.{true, false, ◌||◌, ◌&&◌, if◌then◌else◌, sym, subst, ap, refl, slice_get, Some}
use Rattle.std.proofs.Common.{arith, ◌∙◌, eq-eqb, ne_eqb}
use Rattle.std.specs.Prelude.{nat_lt, ◌/◌, ◌%◌}
use Rattle.std.specs.List.{list_any}
use Rattle.std.proofs.lemmas.Bool.{cases_eq, cases_lt, ltb-true, lt-ltb}
use Rattle.std.proofs.Math.Nat.{div-lt_iff_lt-mul, mul-le-mul_right}
use Rattle.seuss_base.specs.declared.outcome.PassEnd.{PassEnd}
use Rattle.compat_scheduler.specs.declared.ticket.Ticket.{Ticket}
use Rattle.compat_scheduler.specs.declared.ticket.FinishVerdict.TheVariants.{Kept, Void}
use Rattle.compat_scheduler.specs.Settings.{Setting, copies}
use Rattle.compat_scheduler.specs.Machines.{Machine, slot_at}
use Rattle.compat_scheduler.specs.Finishes.{is_ended}
use Rattle.compat_scheduler.specs.Runs.{Event, RoundsRise, round_of, started, times_kept, kept_by}
use Rattle.compat_scheduler.specs.Runs.{has_ended}
use Rattle.compat_scheduler.specs.Runs.Event.{Start, Finish}
use Rattle.loose_core.proofs.lists.Words.{In}

-- rounds never fall from a place to a later one
rounds_low : (s : Setting) (low : ℕ) (es : List Event) → RoundsRise s low es → (j : ℕ) (y : Event) →
    slice_get es j ≡ Some y → low ≤ round_of s y
rounds_low s low [] h j y e = cc e
rounds_low s low (x ∷ es) h zero y e =
    let q : x ≡ y = cc e in subst (λ (y : Event). low ≤ round_of s y) q h.0
rounds_low s low (x ∷ es) h (suc j) y e =
    let k = rounds_low s (round_of s x) es h.1 j y e in omega (arith, k, h.0)

-- a later event is of no earlier round
pub rounds_between : (s : Setting) (low : ℕ) (es : List Event) → RoundsRise s low es →
    (i j : ℕ) (x y : Event) → slice_get es i ≡ Some x → slice_get es j ≡ Some y →
    i < j → round_of s x ≤ round_of s y
rounds_between s low [] h i j x y a b l = cc a
rounds_between s low (z ∷ es) h i zero x y a b l = absurd (omega arith)
rounds_between s low (z ∷ es) h zero (suc j) x y a b l =
    let q : z ≡ x = cc a in
    subst (λ (x : Event). round_of s x ≤ round_of s y) q (rounds_low s (round_of s z) es h.1 j y b)
rounds_between s low (z ∷ es) h (suc i) (suc j) x y a b l =
    rounds_between s (round_of s z) es h.1 i j x y a b (omega arith)

-- a kept finish of an attempt counts
pub kept_some : (es : List Event) (i : ℕ) (t : Ticket) (e : PassEnd) →
    slice_get es i ≡ Some (Finish t e Kept) → 1 ≤ times_kept es t.attempt
kept_some [] i t e h = cc h
kept_some (x ∷ es) zero t e h =
    let q : x ≡ Finish t e Kept = cc h in
    subst (λ (x : Event). 1 ≤ kept_by x t.attempt + times_kept es t.attempt) (sym q)
    (subst (λ (b : Bool). 1 ≤ (if b then 1 else 0) + times_kept es t.attempt)
    (sym (eq-eqb t.attempt t.attempt refl)) (omega arith))
kept_some (x ∷ es) (suc i) t e h = let k = kept_some es i t e h in omega (arith, k)

-- two kept finishes of an attempt count twice
pub kept_twice : (es : List Event) (i j : ℕ) (t u : Ticket) (e f : PassEnd) → i < j →
    slice_get es i ≡ Some (Finish t e Kept) → slice_get es j ≡ Some (Finish u f Kept) →
    t.attempt ≡ u.attempt → 2 ≤ times_kept es t.attempt
kept_twice [] i j t u e f l a b same = cc a
kept_twice (x ∷ es) i zero t u e f l a b same = absurd (omega arith)
kept_twice (x ∷ es) zero (suc j) t u e f l a b same =
    let q : x ≡ Finish t e Kept = cc a in
    let k : 1 ≤ times_kept es t.attempt =
    subst (λ n. 1 ≤ times_kept es n) (sym same) (kept_some es j u f b) in
    subst (λ (x : Event). 2 ≤ kept_by x t.attempt + times_kept es t.attempt) (sym q)
    (subst (λ (c : Bool). 2 ≤ (if c then 1 else 0) + times_kept es t.attempt)
    (sym (eq-eqb t.attempt t.attempt refl)) (omega (arith, k)))
kept_twice (x ∷ es) (suc i) (suc j) t u e f l a b same =
    let k = kept_twice es i j t u e f (omega arith) a b same in omega (arith, k)

-- an attempt that is kept has a finish that keeps it
abbrev pub KeptAt : List Event → ℕ → Type 0
KeptAt es k =
    (i : ℕ) × (t : Ticket) × (e : PassEnd) × (slice_get es i ≡ Some (Finish t e Kept)) × (t.attempt ≡ k)

-- what counts has a finish that keeps it
pub kept_found : (es : List Event) (k : ℕ) → 1 ≤ times_kept es k → KeptAt es k
kept_found [] k h = absurd (omega arith)
kept_found (Start t ∷ es) k h = let r = kept_found es k (omega (arith, h)) in (suc r.0, r.1, r.2, r.3, r.4)
kept_found (Finish t e Void ∷ es) k h =
    let r = kept_found es k (omega (arith, h)) in (suc r.0, r.1, r.2, r.3, r.4)
kept_found (Finish t e Kept ∷ es) k h = go (cases_eq t.attempt k) (kept_found es k)
  where
    go : (t.attempt ≡ k) ⊎ (t.attempt ≡ k → ⊥) → (1 ≤ times_kept es k → KeptAt es k) →
        KeptAt (Finish t e Kept ∷ es) k
    go (inl same) rest = (0, t, e, refl, same)
    go (inr other) rest =
        let z : 1 ≤ 0 + times_kept es k =
        subst (λ (b : Bool). 1 ≤ (if b then 1 else 0) + times_kept es k) (ne_eqb t.attempt k other) h in
        let r = rest (omega (arith, z)) in (suc r.0, r.1, r.2, r.3, r.4)

-- what starts at a place is among what was started
pub in_started : (es : List Event) (i : ℕ) (t : Ticket) → slice_get es i ≡ Some (Start t) →
    In t (started es)
in_started [] i t h = cc h
in_started (Start u ∷ es) zero t h = let q : u ≡ t = cc h in inl (sym q)
in_started (Finish u e v ∷ es) zero t h = cc h
in_started (Start u ∷ es) (suc i) t h = inr (in_started es i t h)
in_started (Finish u e v ∷ es) (suc i) t h = in_started es i t h

-- what passes at a place passes somewhere
pub any_at : (test : Event → Bool) (es : List Event) (i : ℕ) (x : Event) → slice_get es i ≡ Some x →
    test x ≡ true → list_any test es ≡ true
any_at test [] i x h on = cc h
any_at test (y ∷ es) zero x h on = let q : y ≡ x = cc h in ap (λ b. b || list_any test es) (ap test q ∙ on)
any_at test (y ∷ es) (suc i) x h on = go (test y) (any_at test es i x h on)
  where
    go : (b : Bool) → list_any test es ≡ true → (b || list_any test es) ≡ true
    go true e = refl
    go false e = e

-- what passes somewhere passes at a place
pub any_found : (test : Event → Bool) (es : List Event) → list_any test es ≡ true →
    (i : ℕ) × (x : Event) × (slice_get es i ≡ Some x) × (test x ≡ true)
any_found test [] h = cc h
any_found test (y ∷ es) h = go (test y) refl h (any_found test es)
  where
    go : (b : Bool) → test y ≡ b → (b || list_any test es) ≡ true → (list_any test es ≡ true →
        (i : ℕ) × (x : Event) × (slice_get es i ≡ Some x) × (test x ≡ true)) →
        (i : ℕ) × (x : Event) × (slice_get (y ∷ es) i ≡ Some x) × (test x ≡ true)
    go true e h rest = (0, y, refl, e)
    go false e h rest = let r = rest h in (suc r.0, r.1, r.2, r.3)

-- attempts of rounds that are done have ended
pub done_ended : (s : Setting) (m : Machine) (k : ℕ) → k < m.round * copies s → has_ended s m k ≡ true
done_ended s m k h =
    ap (λ b. b || (nat_lt k ((m.round + 1) * copies s) && is_ended (slot_at m.slots (k % copies s))))
    (lt-ltb k (m.round * copies s) h)

-- what has ended is of no later round
pub ended_by_now : (s : Setting) (m : Machine) (k : ℕ) → has_ended s m k ≡ true → k / copies s ≤ m.round
ended_by_now s m k h = go (nat_lt k (m.round * copies s)) (nat_lt k ((m.round + 1) * copies s)) refl refl h
  where
    n : ℕ
    n = copies s

    by : k < (m.round + 1) * copies s → (0 < copies s) ⊎ (copies s ≤ 0) → k / copies s ≤ m.round
    by l (inl pos) = let d : k / copies s < m.round + 1 = (div-lt_iff_lt-mul pos).1 l in omega (arith, d)
    by l (inr none) =
        let z : copies s ≡ 0 = omega arith in
        let y : k < (m.round + 1) * 0 = subst (λ n. k < (m.round + 1) * n) z l in absurd (omega (arith, y))

    go : (a b : Bool) → nat_lt k (m.round * copies s) ≡ a → nat_lt k ((m.round + 1) * copies s) ≡ b →
        (a || (b && is_ended (slot_at m.slots (k % copies s)))) ≡ true → k / copies s ≤ m.round
    go true b e f h =
        let l = ltb-true k (m.round * copies s) e in
        by (more (m.round) (copies s) l) (cases_lt 0 (copies s))
      where
        more : (r n : ℕ) → k < r * n → k < (r + 1) * n
        more r n l = let z : r * n ≤ (r + 1) * n = mul-le-mul_right n (omega arith) in omega (arith, z)
    go false true e f h = by (ltb-true k ((m.round + 1) * copies s) f) (cases_lt 0 (copies s))
    go false false e f h = cc h
