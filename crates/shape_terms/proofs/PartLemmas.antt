-- Where sequence forms differ.
use Rattle.std.proofs.Common.{◌≡◌, ◌≢◌, ℕ, ◌+◌, ◌<◌, ◌≤◌, ap, sym, subst, ◌∙◌, refl, arith, Bool, true}
use Rattle.std.proofs.Common.{false, List, [], ◌∷◌, ◌++◌, length, take, get_or, Option, None, Some, eqb}
use Rattle.std.specs.Prelude.{slice_get, if◌then◌else◌}
use Rattle.std.specs.Option.{is_some}
use Rattle.std.specs.Int.{w64}
use Rattle.std.specs.Int.RustNames.{FitsSigned}
use Rattle.std.proofs.lemmas.List.{get_or-map, get_or_at, get_or_append_left, append_assoc}
use Rattle.std.proofs.lemmas.List.{append_cancel_left, take_at, take_all, take_more_same}
use Rattle.std.proofs.lemmas.Bool.{ne_eqb, eq-eqb}
use Rattle.std.proofs.lemmas.Option.{get_or_from_slice_get}
use Rattle.std.proofs.Math.IntN.{ℤ, pos}
use Rattle.std.proofs.Math.Facts.{sfits_lit}
use Rattle.shape_terms.specs.declared.apart.Apart.{Apart}
use Rattle.shape_terms.specs.declared.apart.Apart.TheVariants as A
use Rattle.shape_terms.specs.declared.num_form.NumForm.{NumForm}
use Rattle.shape_terms.specs.declared.shape.Shape.{Shape}
use Rattle.shape_terms.specs.declared.shape.Shape.TheVariants as S
use Rattle.shape_terms.specs.Points.{Point, TellsApart, point_of}
use Rattle.shape_terms.specs.Numbers.{number}
use Rattle.shape_terms.specs.Sequences.{numbers, items, least}
use Rattle.shape_terms.proofs.PointLemmas.{zero_fits, rest_fits, rest_here}
use Rattle.shape_terms.proofs.ApartLemmas.{number_at_rest}
use Rattle.shape_terms.proofs.LengthLemmas.{length_of_numbers, length_of_long}

-- what tells parts apart tells the wholes apart
pub told_by_part : {A B : Type 0} (f g : Point → A) (whole other : Point → B) (o : Option Apart) →
    is_some o ≡ true →
    ((p : Point) → whole p ≡ other p → f p ≡ g p) → TellsApart f g o → TellsApart whole other o
told_by_part f g whole other None some same told = cc
told_by_part f g whole other (Some at) some same told = (told.0, λ e. told.1 (same (point_of at) e))

pub not_told : {A : Type 0} (f g : Point → A) (o : Option Apart) → is_some o ≡ false → TellsApart f g o →
    (p : Point) → f p ≡ g p
not_told f g None none told = told
not_told f g (Some at) none told = cc

got_of_numbers : (xs : List NumForm) (n : ℕ) (d : NumForm) (p : Point) → n < length xs →
    get_or (numbers xs p) n (pos 0) ≡ number (get_or xs n d) p
got_of_numbers xs n d p h = get_or-map (λ (form : NumForm). number form p) xs n d (pos 0) h

-- lists that are equal are equal at each place
pub element_apart : (xs ys : List NumForm) (n : ℕ) (x y : NumForm) (o : Option Apart) → n < length xs →
    n < length ys →
    x ≡ get_or xs n x → y ≡ get_or ys n y → is_some o ≡ true → TellsApart (number x) (number y) o →
    TellsApart (numbers xs) (numbers ys) o
element_apart xs ys n x y o h k is is' some told =
    told_by_part (number x) (number y) (numbers xs) (numbers ys) o some
    (λ p same. ap (λ f. number f p) is ∙ sym (got_of_numbers xs n x p h)
    ∙ ap (λ zs. get_or zs n (pos 0)) same
    ∙ got_of_numbers ys n y p k ∙ sym (ap (λ f. number f p) is')) told

-- and one place more
pub element_same : (xs ys : List NumForm) (n : ℕ) (x y : NumForm) (o : Option Apart) → n < length xs →
    n < length ys →
    x ≡ get_or xs n x → y ≡ get_or ys n y → is_some o ≡ false → TellsApart (number x) (number y) o →
    ((p : Point) → take n (numbers xs p) ≡ take n (numbers ys p)) →
    (p : Point) → take (n + 1) (numbers xs p) ≡ take (n + 1) (numbers ys p)
element_same xs ys n x y o h k is is' none told before p =
    take_more_same (numbers xs p) (numbers ys p) n (pos 0)
    (subst (λ m. n < m) (sym (length_of_numbers xs p)) h)
    (subst (λ m. n < m) (sym (length_of_numbers ys p)) k) (before p)
    (got_of_numbers xs n x p h ∙ ap (λ f. number f p) (sym is) ∙ not_told (number x) (number y) o none told p
    ∙ ap (λ f. number f p) is' ∙ sym (got_of_numbers ys n y p k))

pub all_places : (xs ys : List NumForm) (n : ℕ) → length xs ≤ n → length xs ≡ length ys →
    ((p : Point) → take n (numbers xs p) ≡ take n (numbers ys p)) → (p : Point) → numbers xs p ≡ numbers ys p
all_places xs ys n h same before p =
    sym (take_all n (numbers xs p) (subst (λ m. m ≤ n) (sym (length_of_numbers xs p)) h)) ∙ before p
    ∙ take_all n (numbers ys p) (subst (λ m. m ≤ n) (same ∙ sym (length_of_numbers ys p)) h)

split_long : (xs ys : List NumForm) (r : ℕ) (p : Point) →
    items (S.Long xs r ys) p ≡ numbers xs p ++ (p.rests r ++ numbers ys p)
split_long xs ys r p = append_assoc (numbers xs p) (p.rests r) (numbers ys p)

same_fronts : (xs ys zs ws : List NumForm) (r : ℕ) (p : Point) → length xs ≡ length zs →
    items (S.Long xs r ys) p ≡ items (S.Long zs r ws) p → numbers xs p ≡ numbers zs p
same_fronts xs ys zs ws r p same e =
    sym (take_at (numbers xs p) (p.rests r ++ numbers ys p) (length xs) (length_of_numbers xs p))
    ∙ ap (take (length xs)) (sym (split_long xs ys r p) ∙ e ∙ split_long zs ws r p)
    ∙ take_at (numbers zs p) (p.rests r ++ numbers ws p) (length xs) (length_of_numbers zs p ∙ sym same)

-- the fronts differ
pub fronts_apart : (xs ys zs ws : List NumForm) (r : ℕ) (o : Option Apart) → length xs ≡ length zs →
    is_some o ≡ true →
    TellsApart (numbers xs) (numbers zs) o → TellsApart (items (S.Long xs r ys)) (items (S.Long zs r ws)) o
fronts_apart xs ys zs ws r o same some told =
    told_by_part (numbers xs) (numbers zs) (items (S.Long xs r ys)) (items (S.Long zs r ws)) o some
    (λ p e. same_fronts xs ys zs ws r p same e) told

-- the fronts don't differ: the backs are what differs
pub backs_apart : (xs ys zs ws : List NumForm) (r : ℕ) (o : Option Apart) →
    ((p : Point) → numbers xs p ≡ numbers zs p) →
    TellsApart (numbers ys) (numbers ws) o → TellsApart (items (S.Long xs r ys)) (items (S.Long zs r ws)) o
backs_apart xs ys zs ws r None same told =
    λ p.
    ap (λ l. l ++ p.rests r ++ numbers ys p) (same p) ∙ ap (λ l. numbers zs p ++ p.rests r ++ l) (told p)
backs_apart xs ys zs ws r (Some at) same told = (
  told.0,
  λ e. told.1 (append_cancel_left (numbers zs (point_of at) ++ (point_of at).rests r)
      (numbers ys (point_of at)) (numbers ws (point_of at))
      (ap (λ l. l ++ (point_of at).rests r ++ numbers ys (point_of at)) (sym (same (point_of at))) ∙ e)),
)

length_at_zero : (s : Shape) → length (items s (point_of A.Zero)) ≡ least s
length_at_zero (S.Exact xs) = length_of_numbers xs (point_of A.Zero)
length_at_zero (S.Long xs r ys) =
    length_of_long xs ys r (point_of A.Zero) ∙ nothing_more (length xs + length ys)
  where
    nothing_more : (n : ℕ) → n + 0 ≡ n
    nothing_more n = omega arith

-- forms with other least lengths
pub leasts_apart : (s t : Shape) → least s ≢ least t → TellsApart (items s) (items t) (Some A.Zero)
leasts_apart s t h = (zero_fits, λ e. h (sym (length_at_zero s) ∙ ap length e ∙ length_at_zero t))

abbrev pub one_if : Bool → ℕ
one_if true = 1
one_if false = 0

-- how much longer than its least length a form is where a rest has one number
abbrev pub longer_by : ℕ → Shape → ℕ
longer_by r (S.Exact xs) = 0
longer_by r (S.Long xs s ys) = one_if (eqb s r)

length_at_rest : (s : Shape) (r : ℕ) (z : ℤ) →
    length (items s (point_of (A.Rest r z))) ≡ least s + longer_by r s
length_at_rest (S.Exact xs) r z = length_of_numbers xs (point_of (A.Rest r z)) ∙ nothing_more (length xs)
  where
    nothing_more : (n : ℕ) → n ≡ n + 0
    nothing_more n = omega arith
length_at_rest (S.Long xs s ys) r z =
    length_of_long xs ys s (point_of (A.Rest r z)) ∙ ap (λ n. length xs + length ys + n) (by_bool (eqb s r))
  where
    by_bool : (b : Bool) → length (if b then z ∷ [] else []) ≡ one_if b
    by_bool true = refl
    by_bool false = refl

-- forms of the same least length, of which one is longer
pub longers_apart : (s t : Shape) (r : ℕ) → least s ≡ least t → longer_by r s ≢ longer_by r t →
    TellsApart (items s) (items t) (Some (A.Rest r (pos 0)))
longers_apart s t r same h = (
  rest_fits r (pos 0) (sfits_lit tt),
  λ e. h (cancelled _ _ _ _ same
      (sym (length_at_rest s r (pos 0)) ∙ ap length e ∙ length_at_rest t r (pos 0))),
)
  where
    cancelled : (a b c d : ℕ) → a ≡ b → a + c ≡ b + d → c ≡ d
    cancelled a b c d e f = omega arith

at_crossing : (xs ys : List NumForm) (r : ℕ) (z : ℤ) →
    get_or (items (S.Long xs r ys) (point_of (A.Rest r z))) (length xs) (pos 0) ≡ z
at_crossing xs ys r z =
    let p : Point = point_of (A.Rest r z) in
    ap (λ l. get_or l (length xs) (pos 0))
    (split_long xs ys r p ∙ ap (λ l. numbers xs p ++ (l ++ numbers ys p)) (rest_here r z))
    ∙ get_or_at (numbers xs p) z (numbers ys p) (pos 0) (length xs) (length_of_numbers xs p)

in_front : (xs ys : List NumForm) (r n : ℕ) (x : NumForm) (p : Point) → n < length xs →
    slice_get xs n ≡ Some x →
    get_or (items (S.Long xs r ys) p) n (pos 0) ≡ number x p
in_front xs ys r n x p h is = ap (λ l. get_or l n (pos 0)) (split_long xs ys r p)
    ∙ get_or_append_left (numbers xs p) (p.rests r ++ numbers ys p) (pos 0) n
    (subst (λ m. n < m) (sym (length_of_numbers xs p)) h)
    ∙ got_of_numbers xs n x p h ∙ ap (λ f. number f p) (get_or_from_slice_get xs n x x is)

-- the rest of one begins where the front of the other one has an element
pub crossing_apart : (xs ys zs ws : List NumForm) (r : ℕ) (x : NumForm) (z : ℤ) → length xs < length zs →
    slice_get zs (length xs) ≡ Some x →
    FitsSigned w64 z → ((y : ℤ) → number x (point_of (A.Rest r y)) ≢ z) →
    TellsApart (items (S.Long xs r ys)) (items (S.Long zs r ws)) (Some (A.Rest r z))
crossing_apart xs ys zs ws r x z h is fits other = (
  rest_fits r z fits,
  λ e. other z
      (sym (in_front zs ws r (length xs) x (point_of (A.Rest r z)) h is)
      ∙ ap (λ l. get_or l (length xs) (pos 0)) (sym e) ∙ at_crossing xs ys r z),
)

longer_here : (r : ℕ) → one_if (eqb r r) ≡ 1
longer_here r = ap one_if (eq-eqb r r refl)

longer_there : (s r : ℕ) → s ≢ r → one_if (eqb s r) ≡ 0
longer_there s r h = ap one_if (ne_eqb s r h)

none_is_one : (n m : ℕ) → n ≡ 0 → m ≡ 1 → n ≡ m → ⊥
none_is_one n m e f g = absurd (omega arith)

pub exact_and_long : (xs ys zs : List NumForm) (r : ℕ) → length xs ≡ length ys + length zs →
    TellsApart (items (S.Exact xs)) (items (S.Long ys r zs)) (Some (A.Rest r (pos 0)))
exact_and_long xs ys zs r same =
    longers_apart (S.Exact xs) (S.Long ys r zs) r same
    (none_is_one 0 (one_if (eqb r r)) refl (longer_here r))

pub long_and_exact : (xs ys zs : List NumForm) (r : ℕ) → length ys + length zs ≡ length xs →
    TellsApart (items (S.Long ys r zs)) (items (S.Exact xs)) (Some (A.Rest r (pos 0)))
long_and_exact xs ys zs r same =
    longers_apart (S.Long ys r zs) (S.Exact xs) r same
    (λ e. none_is_one 0 (one_if (eqb r r)) refl (longer_here r) (sym e))

pub other_rests : (xs ys zs ws : List NumForm) (r s : ℕ) → length xs + length ys ≡ length zs + length ws →
    s ≢ r →
    TellsApart (items (S.Long xs r ys)) (items (S.Long zs s ws)) (Some (A.Rest r (pos 0)))
other_rests xs ys zs ws r s same h = longers_apart (S.Long xs r ys) (S.Long zs s ws) r same
    (λ e. none_is_one (one_if (eqb s r)) (one_if (eqb r r)) (longer_there s r h) (longer_here r) (sym e))

pub told_back : {A : Type 0} (f g : Point → A) (o : Option Apart) → TellsApart f g o → TellsApart g f o
told_back f g None told = λ p. sym (told p)
told_back f g (Some at) told = (told.0, λ e. told.1 (sym e))

-- a number that a form isn't where a rest has one number, whichever that is
pub other_at_rest : (form : NumForm) (r : ℕ) (z : ℤ) → z ≢ number form (point_of (A.Rest r (pos 0))) →
    (x : ℤ) → number form (point_of (A.Rest r x)) ≢ z
other_at_rest form r z h x e = h (sym e ∙ number_at_rest form r x ∙ sym (number_at_rest form r (pos 0)))

-- what is told of the same parts
pub told_of_same : {xs ys zs ws xs' ys' zs' ws' : List NumForm} (r : ℕ) (o : Option Apart) → xs' ≡ xs →
    ys' ≡ ys → zs' ≡ zs → ws' ≡ ws →
    TellsApart (items (S.Long xs' r ys')) (items (S.Long zs' r ws')) o →
    TellsApart (items (S.Long xs r ys)) (items (S.Long zs r ws)) o
told_of_same {xs} {ys} {zs} {ws} {xs'} {ys'} {zs'} {ws'} r o e f g h told =
    subst (λ l. TellsApart (items (S.Long l r ys)) (items (S.Long zs r ws)) o) e
    (subst (λ l. TellsApart (items (S.Long xs' r l)) (items (S.Long zs r ws)) o) f
    (subst (λ l. TellsApart (items (S.Long xs' r ys')) (items (S.Long l r ws)) o) g
    (subst (λ l. TellsApart (items (S.Long xs' r ys')) (items (S.Long zs' r l)) o) h told)))
