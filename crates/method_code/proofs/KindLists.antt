-- Values of given kinds, whose numbers have 64 bits, by a test on both lists.
use Rattle.std.proofs.Common.{◌≡◌, ℕ, zero, suc, pos, Bool, true, false, ◌&&◌, IsTrue, List, [], ◌∷◌, map}
use Rattle.std.proofs.Common.{refl, sym, ap, ◌∙◌, subst, true≢false}
use Rattle.std.proofs.lemmas.List.Elements.{All-nil, All-cons, All-head, All-tail}
use Rattle.std.proofs.lemmas.List.Sums.{AllPass-from_list_all, list_all-from_AllPass}
use Rattle.std.specs.Prelude.{All, slice_index_or}
use Rattle.std.specs.List.{list_all}
use Rattle.seuss_program.specs.declared.tree.Kind.{Kind}
use Rattle.seuss_program.specs.declared.tree.Kind.TheVariants as KV
use Rattle.seuss_program.specs.declared.state.Value.{Value}
use Rattle.seuss_program.specs.declared.state.Value.TheVariants as V
use Rattle.seuss_program.specs.Values.{fits, int_of, HasSize}
use Rattle.seuss_program.specs.Keeping.{AreOf, kind_of, is_kind}
use Rattle.meaning_laws.specs.Kinds.{IsOf}
use Rattle.method_code.proofs.Simulation.{and_left, and_right}

-- whether each number of a value has 64 bits
abbrev pub has_size : Value → Bool
has_size (V.Int z) = fits z
has_size (V.Bool b) = true
has_size (V.Seq zs) = list_all fits zs

-- whether a value has a kind and numbers of 64 bits, and values do, one for each kind
abbrev pub has_kind : Kind → Value → Bool
has_kind k v = is_kind k (kind_of v) && has_size v

-- values have these kinds, one by one
abbrev pub have_kinds : List Kind → List Value → Bool
have_kinds [] [] = true
have_kinds [] (v ∷ vs) = false
have_kinds (k ∷ ks) [] = false
have_kinds (k ∷ ks) (v ∷ vs) = has_kind k v && have_kinds ks vs

-- two tests that hold hold together
pub both_true : (a b : Bool) → IsTrue a → IsTrue b → IsTrue (a && b)
both_true true b x y = y
both_true false b x y = absurd (true≢false (sym x))

-- a kind is the same as itself
kind_same : (k : Kind) → is_kind k k ≡ true
kind_same KV.Int = refl
kind_same KV.Bool = refl
kind_same KV.Seq = refl

-- kinds that the test takes for the same are the same
kind_is : (k j : Kind) → IsTrue (is_kind k j) → j ≡ k
kind_is KV.Int KV.Int h = refl
kind_is KV.Int KV.Bool h = absurd (true≢false (sym h))
kind_is KV.Int KV.Seq h = absurd (true≢false (sym h))
kind_is KV.Bool KV.Int h = absurd (true≢false (sym h))
kind_is KV.Bool KV.Bool h = refl
kind_is KV.Bool KV.Seq h = absurd (true≢false (sym h))
kind_is KV.Seq KV.Int h = absurd (true≢false (sym h))
kind_is KV.Seq KV.Bool h = absurd (true≢false (sym h))
kind_is KV.Seq KV.Seq h = refl

-- the test of the numbers says that they have 64 bits
to_size : (v : Value) → IsTrue (has_size v) → HasSize v
to_size (V.Int z) h = h
to_size (V.Bool b) h = tt
to_size (V.Seq zs) h = AllPass-from_list_all fits zs h

-- and it holds where they do
of_size : (v : Value) → HasSize v → IsTrue (has_size v)
of_size (V.Int z) h = h
of_size (V.Bool b) h = refl
of_size (V.Seq zs) h = list_all-from_AllPass fits zs h

-- the test says that a value is of the kind
to_kind : (k : Kind) (v : Value) → IsTrue (has_kind k v) → IsOf v k
to_kind k v h = (
  kind_is k (kind_of v) (and_left (is_kind k (kind_of v)) (has_size v) h),
  to_size v (and_right (is_kind k (kind_of v)) (has_size v) h),
)

-- and it holds where the value is
pub of_kind : (k : Kind) (v : Value) → IsOf v k → IsTrue (has_kind k v)
of_kind k v h = both_true (is_kind k (kind_of v)) (has_size v)
    (subst (λ j. IsTrue (is_kind k j)) (sym h.0) (kind_same k)) (of_size v h.1)

-- values are of their own kinds
own_kinds : (vs : List Value) → All HasSize vs → IsTrue (have_kinds (map kind_of vs) vs)
own_kinds [] h = refl
own_kinds (v ∷ vs) h = both_true (has_kind (kind_of v) v) (have_kinds (map kind_of vs) vs)
    (of_kind (kind_of v) v (refl, All-head HasSize v vs h)) (own_kinds vs (All-tail HasSize v vs h))

-- the test of both lists says that the values are of the kinds
pub to_kinds : (ks : List Kind) (vs : List Value) → IsTrue (have_kinds ks vs) → AreOf vs ks
to_kinds [] [] h = record { kinds = refl; sizes = All-nil HasSize }
to_kinds [] (v ∷ vs) h = absurd (true≢false (sym h))
to_kinds (k ∷ ks) [] h = absurd (true≢false (sym h))
to_kinds (k ∷ ks) (v ∷ vs) h =
    let first = to_kind k v (and_left (has_kind k v) (have_kinds ks vs) h) in
    let rest = to_kinds ks vs (and_right (has_kind k v) (have_kinds ks vs) h) in
    record {
      kinds = ap (λ j. j ∷ map kind_of vs) first.0 ∙ ap (λ l. k ∷ l) rest.kinds;
      sizes = All-cons HasSize v vs first.1 rest.sizes;
    }

-- and it holds where they are
pub of_kinds : (ks : List Kind) (vs : List Value) → AreOf vs ks → IsTrue (have_kinds ks vs)
of_kinds ks vs h = subst (λ l. IsTrue (have_kinds l vs)) h.kinds (own_kinds vs h.sizes)

-- the number that a value of a kind is has 64 bits
number_of_value : (v : Value) → IsTrue (has_size v) → IsTrue (fits (int_of v))
number_of_value (V.Int z) h = h
number_of_value (V.Bool b) h = refl
number_of_value (V.Seq zs) h = refl

-- and so has the number at each place of such values
pub number_fits : (ks : List Kind) (vs : List Value) (n : ℕ) → IsTrue (have_kinds ks vs) →
    IsTrue (fits (int_of (slice_index_or vs n (V.Int (pos 0)))))
number_fits [] [] n h = refl
number_fits [] (v ∷ vs) n h = absurd (true≢false (sym h))
number_fits (k ∷ ks) [] n h = refl
number_fits (k ∷ ks) (v ∷ vs) zero h = number_of_value v
    (and_right (is_kind k (kind_of v)) (has_size v) (and_left (has_kind k v) (have_kinds ks vs) h))
number_fits (k ∷ ks) (v ∷ vs) (suc n) h = number_fits ks vs n
    (and_right (has_kind k v) (have_kinds ks vs) h)
