-- Where lists of symbols differ, by where two of their symbols do.
use Rattle.std.proofs.Common.{◌≡◌, ◌≢◌, ℕ, ◌+◌, ◌<◌, ◌≤◌, true, false, List, length, take, get_or, Option}
use Rattle.std.proofs.Common.{Some, sym, ap, subst, ◌∙◌}
use Rattle.std.specs.Option.{is_some}
use Rattle.std.proofs.lemmas.List.{get_or-map, take_all, take_more_same}
use Rattle.std.proofs.lemmas.List.{length-map}
use Rattle.seuss_program.specs.declared.state.Value.TheVariants as V
use Rattle.shape_terms.specs.declared.apart.Apart.{Apart}
use Rattle.shape_terms.specs.declared.apart.Apart.TheVariants as A
use Rattle.shape_terms.specs.declared.symbol.Symbol.{Symbol}
use Rattle.shape_terms.specs.Points.{Point, TellsApart, point_of}
use Rattle.shape_terms.specs.Symbols.{value_at, values_at}
use Rattle.shape_terms.proofs.PointLemmas.{zero_fits}
use Rattle.shape_terms.proofs.PartLemmas.{told_by_part, not_told}

got_value : (xs : List Symbol) (n : ℕ) (d : Symbol) (p : Point) → n < length xs →
    get_or (values_at xs p) n (V.Bool false) ≡ value_at (get_or xs n d) p
got_value xs n d p h = get_or-map (λ (s : Symbol). value_at s p) xs n d (V.Bool false) h

count_values : (xs : List Symbol) (p : Point) → length (values_at xs p) ≡ length xs
count_values xs p = length-map xs (λ (s : Symbol). value_at s p)

-- lists that are equal are equal at each place
pub symbol_apart : (xs ys : List Symbol) (n : ℕ) (x y : Symbol) (o : Option Apart) → n < length xs →
    n < length ys → x ≡ get_or xs n x → y ≡ get_or ys n y →
    is_some o ≡ true → TellsApart (value_at x) (value_at y) o → TellsApart (values_at xs) (values_at ys) o
symbol_apart xs ys n x y o h k is is' some told =
    told_by_part (value_at x) (value_at y) (values_at xs) (values_at ys) o some
    (λ p same. ap (λ s. value_at s p) is ∙ sym (got_value xs n x p h)
    ∙ ap (λ vs. get_or vs n (V.Bool false)) same
    ∙ got_value ys n y p k ∙ sym (ap (λ s. value_at s p) is')) told

-- and one place more
pub symbol_same : (xs ys : List Symbol) (n : ℕ) (x y : Symbol) (o : Option Apart) → n < length xs →
    n < length ys → x ≡ get_or xs n x → y ≡ get_or ys n y →
    is_some o ≡ false → TellsApart (value_at x) (value_at y) o →
    ((p : Point) → take n (values_at xs p) ≡ take n (values_at ys p)) →
    (p : Point) → take (n + 1) (values_at xs p) ≡ take (n + 1) (values_at ys p)
symbol_same xs ys n x y o h k is is' none told before p =
    take_more_same (values_at xs p) (values_at ys p) n (V.Bool false)
    (subst (λ m. n < m) (sym (count_values xs p)) h) (subst (λ m. n < m) (sym (count_values ys p)) k)
    (before p)
    (got_value xs n x p h ∙ ap (λ s. value_at s p) (sym is)
    ∙ not_told (value_at x) (value_at y) o none told p
    ∙ ap (λ s. value_at s p) is' ∙ sym (got_value ys n y p k))

pub all_symbols : (xs ys : List Symbol) (n : ℕ) → length xs ≤ n → length xs ≡ length ys →
    ((p : Point) → take n (values_at xs p) ≡ take n (values_at ys p)) → (p : Point) →
    values_at xs p ≡ values_at ys p
all_symbols xs ys n h same before p =
    sym (take_all n (values_at xs p) (subst (λ m. m ≤ n) (sym (count_values xs p)) h)) ∙ before p
    ∙ take_all n (values_at ys p) (subst (λ m. m ≤ n) (same ∙ sym (count_values ys p)) h)

-- lists that aren't as long differ anywhere
pub lengths_apart : (xs ys : List Symbol) → length xs ≢ length ys →
    TellsApart (values_at xs) (values_at ys) (Some A.Zero)
lengths_apart xs ys h = (
  zero_fits,
  λ e.
      h (sym (count_values xs (point_of A.Zero)) ∙ ap length e ∙ count_values ys (point_of A.Zero)),
)
