-- Boxes together: what is legal at each box is made by the steps in a row.
use Rattle.std.proofs.Common.{◌≡◌, ℕ, zero, suc, ◌<◌, ◌⊎◌, inl, inr, List, [], ◌∷◌, ◌++◌, true, false, cond}
use Rattle.std.proofs.Common.{not, sym, subst, ap, refl, ◌==◌, length, slice_get, set, Option, Some, None}
use Rattle.std.proofs.Common.{arith, eq-eqb, true-eqb, map, ne_eqb, ◌∙◌}
use Rattle.std.specs.List.{AllByRecursion, filter}
use Rattle.std.proofs.lemmas.Bool.{cases_eq}
use Rattle.std.proofs.lemmas.List.{length-set}
use Rattle.step_journal.specs.Histories.{IsLegal as Legal}
use Rattle.loose_core.proofs.lists.Words.{Pairs, Exchanges}
use Rattle.loose_core.proofs.lists.Words.{on_box, Makes, Serial, Both, Boxwise, In}
use Rattle.loose_core.proofs.lists.Exchanges.{All-picked, All-weak, Pairs-filter, picked_first}
use Rattle.loose_core.proofs.lists.Exchanges.{Legal-append}
use Rattle.loose_core.proofs.lists.Rising.{All-In}

-- lists with the same at each place are one
pub same_by_get : {V : Type 0} (s t : List V) → ((b : ℕ) → slice_get s b ≡ slice_get t b) → s ≡ t
same_by_get [] [] h = refl
same_by_get [] (y ∷ t) h = cc (h 0)
same_by_get (x ∷ s) [] h = cc (h 0)
same_by_get (x ∷ s) (y ∷ t) h =
    let e = h 0 in
    let r : s ≡ t = same_by_get s t (λ b. h (suc b)) in cc

-- equal values
both_same : {V : Type 0} (o p : Option V) → Both (λ v w. v ≡ w) o p → o ≡ p
both_same None None h = refl
both_same None (Some w) h = absurd h
both_same (Some v) None h = absurd h
both_same (Some v) (Some w) h = ap Some h

-- what is set at a place stands there
pub set_here : {V : Type 0} (s : List V) (b : ℕ) (u : V) → b < length s → slice_get (set s b u) b ≡ Some u
set_here [] b u h = absurd (omega arith)
set_here (x ∷ s) zero u h = refl
set_here (x ∷ s) (suc b) u h = set_here s b u (omega arith)

-- the other places stay
pub set_there : {V : Type 0} (s : List V) (b c : ℕ) (u : V) → (c ≡ b → ⊥) →
    slice_get (set s b u) c ≡ slice_get s c
set_there [] b c u h = refl
set_there (x ∷ s) zero zero u h = absurd (h refl)
set_there (x ∷ s) zero (suc c) u h = refl
set_there (x ∷ s) (suc b) zero u h = refl
set_there (x ∷ s) (suc b) (suc c) u h = set_there s b c u (λ e. h (ap suc e))

-- each place below the length has an element
pub get_some : {V : Type 0} (s : List V) (b : ℕ) → b < length s → (v : V) × (slice_get s b ≡ Some v)
get_some [] b h = absurd (omega arith)
get_some (x ∷ s) zero h = (x, refl)
get_some (x ∷ s) (suc b) h = get_some s b (omega arith)

-- a weaker relation of both
pub Both-weak : {V : Type 0} (R Q : V → V → Type 0) (o p : Option V) → ((v w : V) → R v w → Q v w) →
    Both R o p → Both Q o p
Both-weak R Q None None f h = h
Both-weak R Q None (Some w) f h = h
Both-weak R Q (Some v) None f h = h
Both-weak R Q (Some v) (Some w) f h = f v w h

-- states between, where there is a value between at each box
pub midway : {V : Type 0} (A B : ℕ → V → V → Type 0) (s t : List V) → Boxwise (λ b v w. (u : V) × A b v u
    × B b u w) s t → (m : List V) × Boxwise A s m × Boxwise B m t
midway A B [] [] h = ([], λ b. tt, λ b. tt)
midway A B [] (y ∷ t) h = absurd (h 0)
midway A B (x ∷ s) [] h = absurd (h 0)
midway A B (x ∷ s) (y ∷ t) h =
    let r = midway (λ b. A (suc b)) (λ b. B (suc b)) s t (λ b. h (suc b)) in
    let f = h 0 in
    (f.0 ∷ r.0, elim [ zero ↦ f.1 | suc b ↦ r.1 b ], elim [ zero ↦ f.2 | suc b ↦ r.2 b ])

-- a step on the box is one of its entries
pub on_box_here : {E : Type 0} (b : ℕ) (e : E) (xs : List (ℕ × E)) →
    on_box b ((b, e) ∷ xs) ≡ e ∷ on_box b xs
on_box_here b e xs = rw (eq-eqb b b refl) refl

-- a step on another box is none
pub on_box_there : {E : Type 0} (b c : ℕ) (e : E) (xs : List (ℕ × E)) → (c ≡ b → ⊥) →
    on_box c ((b, e) ∷ xs) ≡ on_box c xs
on_box_there b c e xs h = rw (ne_eqb b c (λ p. h (sym p))) refl

-- where one has a value the other has one
pub both_some : {V : Type 0} (R : V → V → Type 0) (o p : Option V) (v : V) → o ≡ Some v → Both R o p →
    (w : V) × (p ≡ Some w) × R v w
both_some R None p v e h = cc e
both_some R (Some x) None v e h = absurd h
both_some R (Some x) (Some w) v e h =
    let q : x ≡ v = cc e in
    (w, refl, rw q at h)

-- what is legal at each box is made by the steps, one after the other
pub glued : {E V : Type 0} (does : ℕ → E → V → V → Type 0) (xs : List (ℕ × E)) (s t : List V) →
    AllByRecursion (λ x. x.0 < length s) xs → Boxwise (λ b v w. Legal (does b) v (on_box b xs) w) s t →
    Makes does s xs t
glued does [] s t all h = same_by_get s t (λ b. both_same (slice_get s b) (slice_get t b) (h b))
glued {E = E} {V = V} does ((b, e) ∷ xs) s t all h =
    let g = get_some s b all.0 in
    let at_b = Both-weak (λ v w. Legal (does b) v (on_box b ((b, e) ∷ xs)) w) (λ v w. Legal (does b) v
    (e ∷ on_box b xs) w) (slice_get s b) (slice_get t b) (λ v w l. rw (on_box_here b e xs) at l) (h b) in
    let k = both_some (λ v w. Legal (does b) v (e ∷ on_box b xs) w) (slice_get s b) (slice_get t b) g.0 g.1
    at_b in
    let here = k.2 in
    let u = here.0 in (
      g.0,
      u,
      g.1,
      here.1,
      glued does xs (set s b u) t
          (All-weak (λ x. x.0 < length s) (λ x. x.0 < length (set s b u)) xs (λ x p. rw (length-set s b u)
          p)
          all.1)
          (λ c. after c k.0 k.1 u here.2 (cases_eq c b)),
    )
  where
    after : (c : ℕ) (w : V) → slice_get t b ≡ Some w → (u : V) → Legal (does b) u (on_box b xs) w →
        (c ≡ b) ⊎ (c ≡ b → ⊥) → Both (λ v w. Legal (does c) v (on_box c xs) w) (slice_get (set s b u)
        c) (slice_get t c)
    after c w at_t u legal (inl same) = rw (same, set_here s b u all.0, at_t) legal
    after c w at_t u legal (inr other) =
        rw (set_there s b c u other)
        (Both-weak (λ v w. Legal (does c) v (on_box c ((b, e) ∷ xs)) w) (λ v w. Legal (does c) v
        (on_box c xs) w) (slice_get s c) (slice_get t c) (λ v w l. rw (on_box_there b c e xs other) at l)
        (h c))

-- a number that is not the first is one of the others
pub In_other : (x p : ℕ) (ps : List ℕ) → In x (p ∷ ps) → (x ≡ p → ⊥) → In x ps
In_other x p ps (inl e) other = absurd (other e)
In_other x p ps (inr h) other = h

-- a list of which no element can be is empty
none_left : {E : Type 0} (es : List E) → AllByRecursion (λ e. ⊥) es → es ≡ []
none_left [] all = refl
none_left (e ∷ es) all = absurd all.0

-- the entries of q are those of q among the entries of others than p
filter_other : {E : Type 0} (owner : E → ℕ) (p q : ℕ) (es : List E) → (q ≡ p → ⊥) →
    filter (λ e. owner e == q) (filter (λ e. not (owner e == p)) es) ≡ filter (λ e. owner e == q) es
filter_other owner p q [] other = refl
filter_other owner p q (e ∷ es) other = go (cases_eq (owner e) p) (filter_other owner p q es other)
  where
    go : (owner e ≡ p) ⊎ (owner e ≡ p → ⊥) → filter (λ x. owner x == q) (filter (λ x. not (owner x == p))
        es) ≡ filter (λ x. owner x == q) es → filter (λ x. owner x == q) (filter (λ x. not (owner x == p))
        (e ∷ es)) ≡ filter (λ x. owner x == q) (e ∷ es)
    go (inl same) ih = rw (same, eq-eqb p p refl, ne_eqb p q (λ r. other (sym r))) ih
    go (inr differs) ih = rw (ne_eqb (owner e) p differs) (ap (λ fs. cond (owner e == q) (e ∷ fs) fs) ih)

-- two states have as many boxes
pub length_boxwise : {V : Type 0} (R : ℕ → V → V → Type 0) (s t : List V) → Boxwise R s t →
    length s ≡ length t
length_boxwise R [] [] h = refl
length_boxwise R [] (y ∷ t) h = absurd (h 0)
length_boxwise R (x ∷ s) [] h = absurd (h 0)
length_boxwise R (x ∷ s) (y ∷ t) h = ap suc (length_boxwise (λ b. R (suc b)) s t (λ b. h (suc b)))

-- a weaker relation of each two
pub Pairs-weak : {E : Type 0} (P : E → Type 0) (R Q : E → E → Type 0) → ((e f : E) → P e → R e f → Q e f) →
    (es : List E) → AllByRecursion P es → Pairs R es → Pairs Q es
Pairs-weak P R Q f [] all pairs = tt
Pairs-weak P R Q f (e ∷ es) all pairs =
    (All-weak (R e) (Q e) es (λ x h. f e x all.0 h) pairs.0, Pairs-weak P R Q f es all.1 pairs.1)

-- numbers whose test fails differ
pub differs_off : (a p : ℕ) → (a == p) ≡ false → a ≡ p → ⊥
differs_off a p off e = cc (eq-eqb a p e, off)

-- so do those whose negated test holds
differs_not : (a p : ℕ) → not (a == p) ≡ true → a ≡ p → ⊥
differs_not a p on e = let q : not true ≡ true = subst (λ x. not x ≡ true) (eq-eqb a p e) on in cc q

-- The journals of the boxes, with entries of the passes of this order alone, are made by the passes one
-- after the other in this order,
-- where each entry that stands before one of a pass that is earlier in the order may change places with it.
pub serialized : {E V : Type 0} (does : ℕ → E → V → V → Type 0) (owner : E → ℕ) (before : ℕ → ℕ → Type 0)
    (steps : ℕ → List (ℕ × E)) (order : List ℕ) (journal : ℕ → List E) (s t : List V)
    → Pairs (λ p q. before p q × (q ≡ p → ⊥)) order
    → AllByRecursion (λ p. AllByRecursion (λ x. x.0 < length s) (steps p)) order
    → ((p b : ℕ) → In p order → filter (λ e. owner e == p) (journal b) ≡ on_box b (steps p))
    → ((b : ℕ) → AllByRecursion (λ e. In (owner e) order) (journal b))
    → ((b : ℕ) → Pairs (λ e f. (owner e ≡ owner f → ⊥) → before (owner f) (owner e) →
    Exchanges (does b) e f)
    (journal b))
    → Boxwise (λ b v w. Legal (does b) v (journal b) w) s t
    → Serial does s (map steps order) t
serialized does owner before steps [] journal s t sorted within own known exchange legal =
    same_by_get s t (λ b. both_same (slice_get s b) (slice_get t b)
    (Both-weak (λ v w. Legal (does b) v (journal b) w) (λ v w. v ≡ w) (slice_get s b) (slice_get t b)
    (λ v w l. rw (none_left (journal b) (known b)) at l) (legal b)))
serialized {E = E} {V = V} does owner before steps (p ∷ ps) journal s t sorted within own known exchange
    legal =
    let rest : ℕ → List E = λ b. filter (λ e. not (owner e == p)) (journal b) in
    let cut : (b : ℕ) (v w : V) → Legal (does b) v (journal b) w →
    (u : V) × Legal (does b) v (on_box b (steps p)) u × Legal (does b) u (rest b) w =
    λ b v w l. Legal-append (does b) (on_box b (steps p)) (rest b) v w
    (subst (λ xs. Legal (does b) v (xs ++ rest b) w) (own p b (inl refl)) (picked_first (does b)
    (λ e. owner e == p) (journal b) v w (swaps b) l)) in
    let mid =
    midway (λ b v w. Legal (does b) v (on_box b (steps p)) w) (λ b v w. Legal (does b) v (rest b) w) s t
    (λ b. Both-weak (λ v w. Legal (does b) v (journal b) w) (λ v w. (u : V) × Legal (does b) v
    (on_box b (steps p)) u × Legal (does b) u (rest b) w) (slice_get s b) (slice_get t b) (cut b)
    (legal b)) in
    let e : length s ≡ length mid.0 =
    length_boxwise (λ b v w. Legal (does b) v (on_box b (steps p)) w) s mid.0 mid.1 in (
      mid.0,
      glued does (steps p) s mid.0 within.0 mid.1,
      serialized does owner before steps ps rest mid.0 t sorted.1
          (subst (λ n. AllByRecursion (λ q. AllByRecursion (λ x. x.0 < n) (steps q)) ps) e within.1)
          (λ q b h. filter_other owner p q (journal b) (All-In (λ q. before p q × (q ≡ p → ⊥)) ps q sorted.0
          h).1 ∙ own q b (inr h))
          (λ b. All-picked (λ e. In (owner e) ps) (λ e. not (owner e == p)) (journal b)
          (All-weak (λ e. In (owner e) (p ∷ ps)) (λ e. not (owner e == p) ≡ true → In (owner e) ps)
          (journal b) (λ e h off. In_other (owner e) p ps h (differs_not (owner e) p off)) (known b)))
          (λ b. Pairs-filter (λ e f. (owner e ≡ owner f → ⊥) → before (owner f) (owner e) →
          Exchanges (does b) e f) (λ e. not (owner e == p)) (journal b) (exchange b))
          mid.2,
    )
  where
    swaps : (b : ℕ) → Pairs (λ e f. (owner e == p) ≡ false → (owner f == p) ≡ true →
        Exchanges (does b) e f) (journal b)
    swaps b =
        Pairs-weak (λ e. In (owner e) (p ∷ ps)) (λ e f. (owner e ≡ owner f → ⊥) →
        before (owner f) (owner e) → Exchanges (does b) e f) (λ e f. (owner e == p) ≡ false → (owner f == p)
        ≡ true → Exchanges (does b) e f)
        (λ e f known_e swap off on.
        let ne : owner e ≡ p → ⊥ = differs_off (owner e) p off in
        let at_p : owner f ≡ p = true-eqb (owner f) p (sym on) in
        swap (λ q. ne (q ∙ at_p)) (rw at_p (All-In (λ q. before p q × (q ≡ p → ⊥)) ps (owner e) sorted.0
        (In_other (owner e) p ps known_e ne)).0))
        (journal b) (known b) (exchange b)
