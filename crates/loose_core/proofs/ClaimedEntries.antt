-- The claims of the passes and the entries of the boxes.
use Rattle.std.proofs.Common.{◌≡◌, ℕ, zero, suc, ◌+◌, ◌<◌, ◌⊎◌, inl, inr, List, [], ◌∷◌, ◌++◌, sym, subst}
use Rattle.std.proofs.Common.{ap, refl, length, slice_get, Option, Some, None, arith, ◌∙◌, map}
use Rattle.std.specs.Prelude.{option_map}
use Rattle.std.specs.List.{filter_map, range_with_len}
use Rattle.std.proofs.lemmas.Bool.{cases_eq}
use Rattle.loose_records.specs.declared.record.BoxEntry.{BoxEntry}
use Rattle.loose_records.specs.declared.record.Claim.{Claim}
use Rattle.loose_records.specs.declared.record.PassRecord.{PassRecord}
use Rattle.loose_records.specs.declared.record.Record.{Record}
use Rattle.loose_records.specs.Entries.{journal, claimed, step_of}
use Rattle.method_code.specs.Records.{Recorded}
use Rattle.loose_core.proofs.lists.Words.{on_box, RisesFrom, In}
use Rattle.loose_core.proofs.lists.SerialRuns.{on_box_here, on_box_there}
use Rattle.loose_core.proofs.lists.Rising.{RisesFrom-lower}
use Rattle.loose_core.proofs.lists.Places.{some_same}
use Rattle.loose_core.proofs.SafeSteps.{recorded}

-- the entry that a claim names, with its box
abbrev pub entry_at : Record → Claim → Option (ℕ × BoxEntry)
entry_at r c = option_map (λ e. (c.box_number, e)) (slice_get (journal r c.box_number) c.place)

-- the entries of a pass, in its order
abbrev pub entries_of : Record → PassRecord → List (ℕ × BoxEntry)
entries_of r p = filter_map (entry_at r) p.claims

-- the steps of claims are those of their entries
pub steps_are : (r : Record) (cs : List Claim) → filter_map (claimed r) cs ≡ map recorded (filter_map
    (entry_at r) cs)
steps_are r [] = refl
steps_are r (c ∷ cs) = go (slice_get (journal r c.box_number) c.place) refl (steps_are r cs)
  where
    go : (o : Option BoxEntry) → slice_get (journal r c.box_number) c.place ≡ o →
        filter_map (claimed r) cs ≡ map recorded (filter_map (entry_at r) cs) →
        filter_map (claimed r) (c ∷ cs) ≡ map recorded (filter_map (entry_at r) (c ∷ cs))
    go None e h = rw e h
    go (Some x) e h = rw e (ap (λ (zs : List Recorded). step_of c.box_number x ∷ zs) h)

-- stamps that rise, each raised by one
pub suc_rises : {A : Type 0} (f : A → ℕ) (s : ℕ) (xs : List A) → RisesFrom f s xs →
    RisesFrom (λ x. suc (f x)) (suc s) xs
suc_rises f s [] h = tt
suc_rises f s (x ∷ xs) h = (omega (arith, h.0), suc_rises f (f x) xs h.1)

-- the number at a place of a row of numbers
pub number_at : (low n i k : ℕ) → slice_get (range_with_len low n) i ≡ Some k → k ≡ low + i
number_at low zero i k h = cc h
number_at low (suc n) zero k h = let q : low ≡ k = cc h in omega arith
number_at low (suc n) (suc i) k h = let q : k ≡ (low + 1) + i = number_at (low + 1) n i k h in omega arith

-- every claim names an entry
abbrev pub AllNamed : Record → List Claim → Type 0
AllNamed r cs =
    (k : ℕ) (x : Claim) → slice_get cs k ≡ Some x →
    (e : BoxEntry) × (slice_get (journal r x.box_number) x.place ≡ Some e)

-- the entry of a claim
named_at : (r : Record) (x : Claim) (e : BoxEntry) → slice_get (journal r x.box_number) x.place ≡ Some e →
    entry_at r x ≡ Some (x.box_number, e)
named_at r x e h = rw h refl

-- the entries of a claim and of others
named_cons : (r : Record) (x : Claim) (cs : List Claim) (e : BoxEntry) →
    slice_get (journal r x.box_number) x.place ≡ Some e → filter_map (entry_at r) (x ∷ cs) ≡ (
      x.box_number,
      e,
    ) ∷ filter_map (entry_at r) cs
named_cons r x cs e h = rw h refl

-- the entry at the number of a claim
pub entry_of_claim : (r : Record) (cs : List Claim) → AllNamed r cs → (k : ℕ) (x : Claim) (e : BoxEntry) →
    slice_get cs k ≡ Some x → slice_get (journal r x.box_number) x.place ≡ Some e →
    slice_get (filter_map (entry_at r) cs) k ≡ Some (x.box_number, e)
entry_of_claim r [] named k x e h g = cc h
entry_of_claim r (c ∷ cs) named zero x e h g =
    let q : c ≡ x = cc h in
    rw q (rw (named_cons r x cs e g) refl)
entry_of_claim r (c ∷ cs) named (suc k) x e h g =
    let n = named 0 c refl in
    rw (named_cons r c cs n.0 n.1) (entry_of_claim r cs (λ j. named (suc j)) k x e h g)

-- the claim at the number of an entry
pub claim_of_entry : (r : Record) (cs : List Claim) → AllNamed r cs → (k : ℕ) (y : ℕ × BoxEntry) →
    slice_get (filter_map (entry_at r) cs) k ≡ Some y → (x : Claim) × (slice_get cs k ≡ Some x) × (y.0
    ≡ x.box_number) × (slice_get (journal r x.box_number) x.place ≡ Some y.1)
claim_of_entry r [] named k y h = cc h
claim_of_entry r (c ∷ cs) named zero y h =
    let n = named 0 c refl in
    let h' : Some (c.box_number, n.0) ≡ Some y =
    subst (λ xs. slice_get xs 0 ≡ Some y) (named_cons r c cs n.0 n.1) h in
    let q : (c.box_number, n.0) ≡ y = some_same _ _ (Some (c.box_number, n.0)) refl h' in
    (c, refl, sym (ap (λ (y : ℕ × BoxEntry). y.0) q), n.1 ∙ ap (λ (y : ℕ × BoxEntry). Some y.1) q)
claim_of_entry r (c ∷ cs) named (suc k) y h =
    let n = named 0 c refl in
    claim_of_entry r cs (λ j. named (suc j)) k y (subst (λ xs. slice_get xs (suc k) ≡ Some y)
    (named_cons r c cs n.0 n.1) h)

-- as many entries as claims
pub length_entries : (r : Record) (cs : List Claim) → AllNamed r cs →
    length (filter_map (entry_at r) cs) ≡ length cs
length_entries r [] named = refl
length_entries r (c ∷ cs) named =
    let n = named 0 c refl in
    rw (named_cons r c cs n.0 n.1) (ap suc (length_entries r cs (λ j. named (suc j))))

-- the stamps of the entries of a pass rise
pub entries_rise : (r : Record) (cs : List Claim) (s f : ℕ) → ((k : ℕ) (x : Claim) → slice_get cs k
    ≡ Some x → (e : BoxEntry) × (slice_get (journal r x.box_number) x.place ≡ Some e) × (e.stamp ≡ x.stamp))
    → RisesFrom (λ s. s) s (map (λ (x : Claim). x.stamp) cs ++ (f ∷ [])) →
    RisesFrom (λ (y : ℕ × BoxEntry). y.1.stamp) s (filter_map (entry_at r) cs)
entries_rise r [] s f named rises = tt
entries_rise r (c ∷ cs) s f named rises =
    let n = named 0 c refl in
    rw (named_cons r c cs n.0 n.1) (
      rw n.2 rises.0,
      rw n.2 (entries_rise r cs c.stamp f (λ j. named (suc j))
          rises.1),
    )

-- the stamp of a claim lies between the start and the finish
pub claim_within : (cs : List Claim) (s f : ℕ) → RisesFrom (λ s. s) s (map (λ (x : Claim). x.stamp) cs
    ++ (f ∷ [])) → (k : ℕ) (x : Claim) → slice_get cs k ≡ Some x → (s < x.stamp) × (x.stamp < f)
claim_within [] s f rises k x h = cc h
claim_within (c ∷ []) s f rises zero x h =
    let q : c ≡ x = cc h in rw (← q) (rises.0, rises.1.0)
claim_within (c ∷ (d ∷ cs)) s f rises zero x h =
    let q : c ≡ x = cc h in
    let l = claim_within (d ∷ cs) c.stamp f rises.1 0 d refl in
    rw (← q) (rises.0, omega (arith, l.0, l.1))
claim_within (c ∷ cs) s f rises (suc k) x h =
    let l = claim_within cs c.stamp f rises.1 k x h in (omega (arith, rises.0, l.0), l.1)

-- an earlier claim has a lower stamp
pub claims_ordered : (cs : List Claim) (s f : ℕ) → RisesFrom (λ s. s) s (map (λ (x : Claim). x.stamp) cs
    ++ (f ∷ [])) → (j k : ℕ) (x y : Claim) → j < k → slice_get cs j ≡ Some x → slice_get cs k ≡ Some y →
    x.stamp < y.stamp
claims_ordered [] s f rises j k x y l hx hy = cc hx
claims_ordered (c ∷ cs) s f rises j zero x y l hx hy = absurd (omega arith)
claims_ordered (c ∷ cs) s f rises zero (suc k) x y l hx hy =
    let q : c ≡ x = cc hx in rw (← q) (claim_within cs c.stamp f rises.1 k y hy).0
claims_ordered (c ∷ cs) s f rises (suc j) (suc k) x y l hx hy =
    claims_ordered cs c.stamp f rises.1 j k x y (omega arith) hx hy

-- an entry of a box is one of the steps
pub In-on_box : {E : Type 0} (b : ℕ) (e : E) (xs : List (ℕ × E)) → In e (on_box b xs) → In (b, e) xs
In-on_box b e [] h = absurd h
In-on_box {E = E} b e ((c, f) ∷ xs) h = go (cases_eq b c) (In-on_box b e xs)
  where
    go : (b ≡ c) ⊎ (b ≡ c → ⊥) → (In e (on_box b xs) → In (b, e) xs) →
        (◌≡◌ {A = ℕ × E} (b, e) (c, f)) ⊎ In (b, e) xs
    go (inl q) rest =
        let h' : (e ≡ f) ⊎ In e (on_box b xs) = subst (λ ys. In e ys) (on_box_here b f xs)
        (subst (λ c. In e (on_box b ((c, f) ∷ xs))) (sym q) h) in
        elim h' [ inl p ↦ inl (cc (p, q)) | inr i ↦ inr (rest i) ]
    go (inr n) rest = inr (rest (subst (λ ys. In e ys) (on_box_there c b f xs n) h))

-- a step on a box is one of its entries
pub on_box-In : {E : Type 0} (b : ℕ) (e : E) (xs : List (ℕ × E)) → In (b, e) xs → In e (on_box b xs)
on_box-In b e [] h = absurd h
on_box-In {E = E} b e ((c, f) ∷ xs) h = go (cases_eq b c) h (on_box-In b e xs)
  where
    go : (b ≡ c) ⊎ (b ≡ c → ⊥) → (◌≡◌ {A = ℕ × E} (b, e) (c, f)) ⊎ In (b, e) xs →
        (In (b, e) xs → In e (on_box b xs)) → In e (on_box b ((c, f) ∷ xs))
    go (inl q) i rest =
        subst (λ c. In e (on_box b ((c, f) ∷ xs))) q (subst (λ ys. In e ys) (sym (on_box_here b f xs))
        (elim i [ inl p ↦ inl (ap (λ (y : ℕ × E). y.1) p) | inr j ↦ inr (rest j) ]))
    go (inr n) (inl p) rest = absurd (n (ap (λ (y : ℕ × E). y.0) p))
    go (inr n) (inr j) rest = subst (λ ys. In e ys) (sym (on_box_there c b f xs n)) (rest j)

-- the stamps of the steps on a box rise
pub on_box_rises : {E : Type 0} (stamp : E → ℕ) (b s : ℕ) (xs : List (ℕ × E)) →
    RisesFrom (λ y. stamp y.1) s xs → RisesFrom stamp s (on_box b xs)
on_box_rises stamp b s [] h = tt
on_box_rises stamp b s ((c, f) ∷ xs) h = go (cases_eq b c) (on_box_rises stamp b (stamp f) xs h.1)
  where
    go : (b ≡ c) ⊎ (b ≡ c → ⊥) → RisesFrom stamp (stamp f) (on_box b xs) →
        RisesFrom stamp s (on_box b ((c, f) ∷ xs))
    go (inl q) rest =
        subst (λ c. RisesFrom stamp s (on_box b ((c, f) ∷ xs))) q (rw (on_box_here b f xs) (h.0, rest))
    go (inr n) rest =
        rw (on_box_there c b f xs n) (RisesFrom-lower stamp s (stamp f) (on_box b xs) (omega (arith, h.0))
        rest)
