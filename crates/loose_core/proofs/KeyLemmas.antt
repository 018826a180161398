-- The keys of passes, one pass at a time.
use Rattle.std.proofs.Common.{◌≡◌, ℕ, zero, suc, ◌<◌, ◌≤◌, List, [], ◌∷◌, ◌++◌, Bool, true, false, cond, ap}
use Rattle.std.proofs.Common.{◌∙◌, sym, refl, map, length, take, get_or, arith}
use Rattle.std.specs.List.{filter}
use Rattle.std.proofs.lemmas.List.{take_all}
use Rattle.loose_records.specs.declared.record.PassRecord.{PassRecord}
use Rattle.loose_records.specs.declared.record.Record.{Record}
use Rattle.loose_records.specs.Orders.{is_kept, sort_by, insert_by, comes_before, commit_stamp, placed_of}
use Rattle.loose_records.specs.Orders.{commit_order}
use Rattle.seuss_program.specs.declared.order.Placed.{Placed}
use Rattle.std.specs.Ordering.{is_lt, nat_cmp, ordering_then}
use Rattle.std.specs.Prelude.{not, ◌||◌, ◌&&◌, ◌==◌, nat_lt, nat_le}
use Rattle.std.proofs.lemmas.Bool.Decides.{nat_tests}
use Rattle.loose_core.specs.declared.key.Key.{Key}
use Rattle.loose_core.specs.Keys.{key_of, keys_of, lower, in_order}

-- the keys of two lists together
pub keys-append : (xs ys : List PassRecord) → keys_of (xs ++ ys) ≡ keys_of xs ++ keys_of ys
keys-append [] ys = refl
keys-append (x ∷ xs) ys = go (is_kept x) (keys-append xs ys)
  where
    go : (b : Bool) → keys_of (xs ++ ys) ≡ keys_of xs ++ keys_of ys →
        map key_of (cond b (x ∷ filter is_kept (xs ++ ys)) (filter is_kept (xs ++ ys)))
        ≡ map key_of (cond b (x ∷ filter is_kept xs) (filter is_kept xs)) ++ keys_of ys
    go true e = ap (λ (ks : List Key). key_of x ∷ ks) e
    go false e = e

-- the keys of one pass more
pub keys_step : (xs : List PassRecord) (k : ℕ) (p : PassRecord) → k < length xs → p ≡ get_or xs k p →
    keys_of (take (suc k) xs) ≡ keys_of (take k xs) ++ keys_of (p ∷ [])
keys_step [] k p h e = absurd (omega arith)
keys_step (x ∷ xs) zero p h e = let q : x ≡ p = sym e in ap (λ (y : PassRecord). keys_of (y ∷ [])) q
keys_step (x ∷ xs) (suc k) p h e =
    keys-append (x ∷ []) (take (suc k) xs) ∙ (ap (λ (ks : List Key). keys_of (x ∷ []) ++ ks)
    (keys_step xs k p (omega arith) e) ∙ (assoc (keys_of (x ∷ [])) (keys_of (take k xs)) (keys_of (p ∷ []))
    ∙ ap (λ (ks : List Key). ks ++ keys_of (p ∷ [])) (sym (keys-append (x ∷ []) (take k xs)))))
  where
    assoc : (a b c : List Key) → a ++ (b ++ c) ≡ (a ++ b) ++ c
    assoc [] b c = refl
    assoc (x ∷ a) b c = ap (λ (ks : List Key). x ∷ ks) (assoc a b c)

-- the sort of the keys is the keys of the sort
pub keys_all : (xs : List PassRecord) (k : ℕ) → length xs ≤ k → keys_of (take k xs) ≡ keys_of xs
keys_all xs k h = ap keys_of (take_all k xs h)

-- a sort of what is kept of the elements
pub sort-map : {A B : Type 0} (f : A → B) (le : A → A → Bool) (lf : B → B → Bool) →
    ((x y : A) → lf (f x) (f y) ≡ le x y) → (xs : List A) → sort_by lf (map f xs) ≡ map f (sort_by le xs)
sort-map f le lf same [] = refl
sort-map {A} {B} f le lf same (x ∷ xs) =
    ap (insert_by lf (f x)) (sort-map f le lf same xs) ∙ inserted (sort_by le xs)
  where
    inserted : (ys : List A) → insert_by lf (f x) (map f ys) ≡ map f (insert_by le x ys)
    inserted [] = refl
    inserted (y ∷ ys) = go (le x y) (lf (f x) (f y)) (same x y) (inserted ys)
      where
        go : (a b : Bool) → b ≡ a → insert_by lf (f x) (map f ys) ≡ map f (insert_by le x ys) →
            cond b (f x ∷ f y ∷ map f ys) (f y ∷ insert_by lf (f x) (map f ys))
            ≡ map f (cond a (x ∷ y ∷ ys) (y ∷ insert_by le x ys))
        go true true e h = refl
        go false false e h = ap (λ (zs : List B). f y ∷ zs) h
        go true false e h = cc e
        go false true e h = cc e

-- what is printed of the keys is what is printed of the passes
map-through : (ps : List PassRecord) → map (λ (k : Key). k.placed) (map key_of ps) ≡ map placed_of ps
map-through [] = refl
map-through (p ∷ ps) = ap (λ (xs : List Placed). placed_of p ∷ xs) (map-through ps)

-- the order of the keys is that of the passes
lower_is : (p q : PassRecord) → not (lower (key_of q) (key_of p)) ≡ comes_before p q
lower_is p q = decide (commit_stamp p) (commit_stamp q) p.ticket.attempt q.ticket.attempt
  where
    decide : (a b m n : ℕ) → not (is_lt (ordering_then (nat_cmp b a) (nat_cmp n m)))
        ≡ (nat_lt a b || ((a == b) && nat_le m n))
    decide a b m n = grind (arith, nat_tests)

-- the sorted keys print the commit order
pub placed_in_order : (r : Record) →
    map (λ (k : Key). k.placed) (in_order (keys_of r.passes)) ≡ commit_order r
placed_in_order r =
    ap (map (λ (k : Key). k.placed)) (sort-map key_of comes_before (λ x y. not (lower y x)) lower_is
    (filter is_kept r.passes)) ∙ map-through (sort_by comes_before (filter is_kept r.passes))
