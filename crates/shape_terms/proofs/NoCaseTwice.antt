-- No case stands twice among the cases of a certificate.
use Rattle.std.proofs.Common.{◌≡◌, ℕ, zero, suc, ◌*◌, ◌+◌, ◌≤◌, ◌⊎◌, inl, inr, ⊎_elim, arith, Bool, true}
use Rattle.std.proofs.Common.{false, ◌||◌, List, [], ◌∷◌, ◌++◌, length, map, Some, refl, sym, ap}
use Rattle.std.proofs.Common.{◌∙◌, subst}
use Rattle.std.specs.Prelude.{slice_get}
use Rattle.std.specs.List.{AllByRecursion, flat_map, range_with_len}
use Rattle.std.proofs.lemmas.List.{same_from_push}
use Rattle.std.proofs.lemmas.Option.{none-some, get_or_from_slice_get, slice_get_within}
use Rattle.seuss_program.specs.declared.tree.Kind.{Kind}
use Rattle.seuss_program.specs.declared.tree.Kind.TheVariants as K
use Rattle.seuss_program.specs.declared.tree.Ref.{Ref}
use Rattle.seuss_program.specs.declared.tree.Var.{Var}
use Rattle.seuss_program.specs.declared.tree.Param.{Param}
use Rattle.seuss_program.specs.declared.tree.Proc.{Proc}
use Rattle.seuss_program.specs.declared.tree.Hint.{Hint}
use Rattle.shape_terms.specs.declared.symbol.Symbol.{Symbol}
use Rattle.shape_terms.specs.declared.symbol.Symbol.TheVariants as S
use Rattle.shape_terms.specs.declared.case.Case.{Case}
use Rattle.shape_terms.specs.Numbers.{atom}
use Rattle.shape_terms.specs.Texts.{in_form}
use Rattle.shape_terms.specs.Cases.{atoms_from, exact_choice, long_choice, sequence_choices, depth_of}
use Rattle.shape_terms.specs.Cases.{var_choices, vars_choices, param_choices, rows_before, rows_after}
use Rattle.shape_terms.specs.Cases.{rows_of, cases_with, cases_from, cases_between, Pair, choices_of_vars}
use Rattle.shape_terms.specs.Cases.{choices_of_first, choices_of_second, cases_of}
use Rattle.shape_terms.proofs.Members.{Within, within_append_back, within_map_back, within_flat_back}
use Rattle.shape_terms.proofs.Members.{within_at}
use Rattle.shape_terms.proofs.Distinct.{length_of_atoms}

-- no element of a list stands twice in it
abbrev pub NoneTwice : {X : Type 0} → List X → Type 0
NoneTwice [] = Unit {0}
NoneTwice (x ∷ xs) = (Within xs x → ⊥) × NoneTwice xs

-- none stands twice in a list of one element
none_twice_one : {X : Type 0} (x : X) → NoneTwice (x ∷ [])
none_twice_one x = (λ (w : ⊥). w, tt)

-- none stands twice in two lists that share no element, one behind the other
none_twice_append : {X : Type 0} (xs ys : List X) → NoneTwice xs → NoneTwice ys →
    ((x : X) → Within xs x → Within ys x → ⊥) → NoneTwice (xs ++ ys)
none_twice_append [] ys h k apart = k
none_twice_append (x ∷ xs) ys h k apart = (
  λ (w : Within (xs ++ ys) x).
      ⊎_elim h.0 (λ (r : Within ys x). apart x (inl refl) r) (within_append_back xs ys x w),
  none_twice_append xs ys h.1 k (λ y a b. apart y (inr a) b),
)

-- none stands twice among the images of a function that gives different ones for different elements
none_twice_map : {X Y : Type 0} (f : X → Y) → ((x y : X) → f x ≡ f y → x ≡ y) → (xs : List X) →
    NoneTwice xs → NoneTwice (map f xs)
none_twice_map f same [] h = tt
none_twice_map {X} f same (x ∷ xs) h = (
  λ (w : Within (map f xs) (f x)).
      let found : (y : X) × Within xs y × (f y ≡ f x) = within_map_back f xs (f x) w in
      h.0 (subst (Within xs) (same found.0 x found.2) found.1),
  none_twice_map f same xs h.1,
)

-- nor in the lists, one behind the other, of a function whose lists for different elements share none
none_twice_flat : {X Y : Type 0} (f : X → List Y) → ((x : X) → NoneTwice (f x)) →
    ((x z : X) (y : Y) → Within (f x) y → Within (f z) y → x ≡ z) → (xs : List X) →
    NoneTwice xs → NoneTwice (flat_map f xs)
none_twice_flat f one apart [] h = tt
none_twice_flat {X} f one apart (x ∷ xs) h =
    none_twice_append (f x) (flat_map f xs) (one x) (none_twice_flat f one apart xs h.1) (λ y a b.
    let found : (z : X) × Within xs z × Within (f z) y = within_flat_back f xs y b in
    h.0 (subst (Within xs) (sym (apart x found.0 y a found.2)) found.1))

-- what stands at a place is within the list
found_within : {X : Type 0} (xs : List X) (i : ℕ) (x : X) → slice_get xs i ≡ Some x → Within xs x
found_within xs i x e =
    within_at xs i x (slice_get_within xs i x e) (get_or_from_slice_get xs i x x e)

-- what stands at two places of a list, where none stands twice, stands at one
same_place : {X : Type 0} (xs : List X) (i j : ℕ) (x : X) → NoneTwice xs → slice_get xs i ≡ Some x →
    slice_get xs j ≡ Some x → i ≡ j
same_place [] i j x h e f = absurd (none-some x e)
same_place (y ∷ ys) zero zero x h e f = refl
same_place (y ∷ ys) zero (suc j) x h e f = absurd (h.0 (found_within ys j y (f ∙ sym e)))
same_place (y ∷ ys) (suc i) zero x h e f = absurd (h.0 (found_within ys i y (e ∙ sym f)))
same_place (y ∷ ys) (suc i) (suc j) x h e f = ap suc (same_place ys i j x h.1 e f)

-- the numbers of a range from one on are not below it
from_first : (first many x : ℕ) → Within (range_with_len first many) x → first ≤ x
from_first first zero x h = absurd h
from_first first (suc many) x (inl e) = omega arith
from_first first (suc many) x (inr h) =
    let on : first + 1 ≤ x = from_first (first + 1) many x h in omega arith

-- no number stands twice in a range
none_twice_range : (first many : ℕ) → NoneTwice (range_with_len first many)
none_twice_range first zero = tt
none_twice_range first (suc many) = (
  λ (w : Within (range_with_len (first + 1) many) first).
      omega (arith, from_first (first + 1) many first w),
  none_twice_range (first + 1) many,
)

-- no case of a sequence stands twice: they differ in length, or one has all lengths from there on
none_twice_sequence : (place front back : ℕ) → NoneTwice (sequence_choices place front back)
none_twice_sequence place front back =
    none_twice_append (map (exact_choice place) (range_with_len 0 (front + back)))
    (long_choice place front back ∷ [])
    (none_twice_map (exact_choice place) same_length (range_with_len 0 (front + back))
    (none_twice_range 0 (front + back))) (none_twice_one (long_choice place front back)) apart
  where
    same_length : (m n : ℕ) → exact_choice place m ≡ exact_choice place n → m ≡ n
    same_length m n e =
        let same : atoms_from (8 * place) m ≡ atoms_from (8 * place) n = cc in
        sym (length_of_atoms (8 * place) m) ∙ ap length same ∙ length_of_atoms (8 * place) n

    not_long : (n : ℕ) → exact_choice place n ≡ long_choice place front back → ⊥
    not_long n e = cc

    apart : (s : Symbol) → Within (map (exact_choice place) (range_with_len 0 (front + back))) s →
        Within (long_choice place front back ∷ []) s → ⊥
    apart s a (inl e) =
        let found : (n : ℕ) × Within (range_with_len 0 (front + back)) n × (exact_choice place n ≡ s) =
        within_map_back (exact_choice place) (range_with_len 0 (front + back)) s a in
        not_long found.0 (found.2 ∙ sym e)
    apart s a (inr b) = b

-- true and false differ
none_twice_truth : NoneTwice (S.Truth true ∷ S.Truth false ∷ [])
none_twice_truth = (other, none_twice_one (S.Truth false))
  where
    other : Within (S.Truth false ∷ []) (S.Truth true) → ⊥
    other (inl e) = cc
    other (inr h) = h

-- no case of a variable stands twice
none_twice_choice : (kind : Kind) (place : ℕ) (in_text : Bool) (front back : ℕ) →
    NoneTwice (var_choices kind place in_text front back)
none_twice_choice K.Int place in_text front back = none_twice_one (S.Number (atom (8 * place)))
none_twice_choice K.Bool place true front back = none_twice_truth
none_twice_choice K.Bool place false front back = none_twice_one (S.Untold place)
none_twice_choice K.Seq place true front back = none_twice_sequence place front back
none_twice_choice K.Seq place false front back = none_twice_sequence place 0 0

-- no case of a place stands twice, at each of some places
abbrev AreNoneTwice : List (List Symbol) → Type 0
AreNoneTwice choices = AllByRecursion (λ (symbols : List Symbol). NoneTwice symbols) choices

-- no case of a place stands twice, at each variable
none_twice_vars : (place : ℕ) (m n : Proc Ref) (hints : List (Hint Ref)) (vars : List Var) →
    AreNoneTwice (vars_choices place m n hints vars)
none_twice_vars place m n hints [] = tt
none_twice_vars place m n hints (v ∷ vs) = (
  none_twice_choice v.kind place (in_form place m.form || in_form place n.form) (depth_of true place hints)
      (depth_of false place hints),
  none_twice_vars (place + 1) m n hints vs,
)

-- no case of a place stands twice, at each parameter
none_twice_params : (place : ℕ) (params : List Param) → AreNoneTwice (param_choices place params)
none_twice_params place [] = tt
none_twice_params place (x ∷ xs) =
    (none_twice_choice x.kind place true 0 0, none_twice_params (place + 1) xs)

-- no row stands twice among rows that differ, each with each of some symbols behind it
none_twice_before : (symbols : List Symbol) (rows : List (List Symbol)) → NoneTwice symbols →
    NoneTwice rows → NoneTwice (rows_before rows symbols)
none_twice_before symbols rows one h =
    none_twice_flat longer (λ row. none_twice_map (λ (s : Symbol). row ++ s ∷ []) (same_end row) symbols one)
    same_row rows h
  where
    longer : List Symbol → List (List Symbol)
    longer row = map (λ (s : Symbol). row ++ s ∷ []) symbols

    same_end : (row : List Symbol) (s t : Symbol) → row ++ s ∷ [] ≡ row ++ t ∷ [] → s ≡ t
    same_end row s t e = (same_from_push row row s t e).1

    same_row : (row other made : List Symbol) → Within (longer row) made → Within (longer other) made →
        row ≡ other
    same_row row other made a b =
        let x : (s : Symbol) × Within symbols s × (row ++ s ∷ [] ≡ made) =
        within_map_back (λ (s : Symbol). row ++ s ∷ []) symbols made a in
        let y : (s : Symbol) × Within symbols s × (other ++ s ∷ [] ≡ made) =
        within_map_back (λ (s : Symbol). other ++ s ∷ []) symbols made b in
        (same_from_push row other x.0 y.0 (x.2 ∙ sym y.2)).0

-- no row stands twice among rows that differ, with each way to take one of each behind them
none_twice_after : (choices rows : List (List Symbol)) → AreNoneTwice choices → NoneTwice rows →
    NoneTwice (rows_after rows choices)
none_twice_after [] rows each h = h
none_twice_after (symbols ∷ more) rows each h =
    none_twice_after more (rows_before rows symbols) each.1 (none_twice_before symbols rows each.0 h)

-- no row of some places stands twice
none_twice_rows : (choices : List (List Symbol)) → AreNoneTwice choices → NoneTwice (rows_of choices)
none_twice_rows choices each = none_twice_after choices ([] ∷ []) each (none_twice_one {X = List Symbol} [])

-- no case stands twice among those of rows that differ
none_twice_between : (rows firsts seconds : List (List Symbol)) → NoneTwice rows → NoneTwice firsts →
    NoneTwice seconds → NoneTwice (cases_between rows firsts seconds)
none_twice_between rows firsts seconds h f s =
    none_twice_flat (λ (vars : List Symbol). cases_from vars firsts seconds) one_vars
    (λ x z c a b. sym (vars_of x c a) ∙ vars_of z c b) rows h
  where
    made : List Symbol → List Symbol → List Symbol → Case
    made vars first second = record { vars = vars; first = first; second = second }

    parts_of : (vars first : List Symbol) (c : Case) → Within (cases_with vars first seconds) c →
        (c.vars ≡ vars) × (c.first ≡ first)
    parts_of vars first c w =
        let found : (second : List Symbol) × Within seconds second × (made vars first second ≡ c) =
        within_map_back (made vars first) seconds c w in
        (sym (ap (λ (d : Case). d.vars) found.2), sym (ap (λ (d : Case). d.first) found.2))

    vars_of : (vars : List Symbol) (c : Case) → Within (cases_from vars firsts seconds) c → c.vars ≡ vars
    vars_of vars c w =
        let found : (first : List Symbol) × Within firsts first × Within (cases_with vars first seconds) c =
        within_flat_back (λ (first : List Symbol). cases_with vars first seconds) firsts c w in
        (parts_of vars found.0 c found.2).0

    one_first : (vars first : List Symbol) → NoneTwice (cases_with vars first seconds)
    one_first vars first =
        none_twice_map (made vars first) (λ x y e. ap (λ (d : Case). d.second) e) seconds s

    one_vars : (vars : List Symbol) → NoneTwice (cases_from vars firsts seconds)
    one_vars vars = none_twice_flat (λ (first : List Symbol). cases_with vars first seconds) (one_first vars)
        (λ x z c a b. sym (parts_of vars x c a).1 ∙ (parts_of vars z c b).1) firsts f

-- no case stands twice among the cases of a certificate
none_twice_cases : (pair : Pair) → NoneTwice (cases_of pair)
none_twice_cases pair = none_twice_between (rows_of (choices_of_vars pair)) (rows_of (choices_of_first pair))
    (rows_of (choices_of_second pair))
    (none_twice_rows (choices_of_vars pair)
    (none_twice_vars 0 pair.first pair.second pair.hints pair.cat.vars))
    (none_twice_rows (choices_of_first pair) (none_twice_params (length pair.cat.vars) pair.first.params))
    (none_twice_rows (choices_of_second pair)
    (none_twice_params (length pair.cat.vars + length pair.first.params) pair.second.params))

-- a case of a certificate has one place
pub one_place : (pair : Pair) (i j : ℕ) (c : Case) → slice_get (cases_of pair) i ≡ Some c →
    slice_get (cases_of pair) j ≡ Some c → i ≡ j
one_place pair i j c e f = same_place (cases_of pair) i j c (none_twice_cases pair) e f
