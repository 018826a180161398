-- What the calls that take from a sequence mean at every point.
use Rattle.std.proofs.Common.{◌≡◌, ℕ, suc, ◌+◌, ◌-◌, arith, ap, sym, subst, ◌∙◌, refl, List, [], ◌∷◌, ◌++◌}
use Rattle.std.proofs.Common.{length, Result, Ok, Err}
use Rattle.std.specs.Prelude.{slice_get}
use Rattle.std.proofs.lemmas.List.{append_assoc, map_push, take_at, length_push}
use Rattle.seuss_program.specs.Values.{Evaluated, measure}
use Rattle.seuss_program.specs.declared.state.Value.TheVariants.{Int, Seq}
use Rattle.seuss_program.specs.declared.tree.Fun.TheVariants.{First, Last, Rest, Front}
use Rattle.shape_terms.specs.declared.apart.Apart.TheVariants as A
use Rattle.shape_terms.specs.declared.num_form.NumForm.{NumForm}
use Rattle.shape_terms.specs.declared.shape.Shape.{Shape}
use Rattle.shape_terms.specs.declared.shape.Shape.TheVariants as S
use Rattle.shape_terms.specs.declared.refusal.FormRefusal.{FormRefusal}
use Rattle.shape_terms.specs.declared.refusal.FormRefusal.TheVariants as R
use Rattle.shape_terms.specs.Points.{Point, point_of}
use Rattle.shape_terms.specs.Numbers.{number}
use Rattle.shape_terms.specs.Sequences.{numbers, items, first, last, rest, front, shown, taken, start_of}
use Rattle.shape_terms.specs.Sequences.{add, Answers, TakesNumber, TakesItems}
use Rattle.shape_terms.proofs.PointLemmas.{zero_fits}
use Rattle.shape_terms.proofs.EndLemmas.{by_last, got_last, last_of_push, front_of_push, some_within}

-- what is said of an answer holds of what the call returns
pub number_taken : (taking : Point → Evaluated) (said returned : Result NumForm FormRefusal) →
    TakesNumber taking said →
    Answers returned said → TakesNumber taking returned
number_taken taking said (Ok form) means e = subst (TakesNumber taking) e means
number_taken taking said (Err R.MayBeEmpty) means e = subst (TakesNumber taking) e means
number_taken taking said (Err R.NotShown) means e = subst (TakesNumber taking) e means
number_taken taking said (Err R.Memory) means e = tt

pub items_taken : (taking : Point → Evaluated) (said returned : Result Shape FormRefusal) →
    TakesItems taking said →
    Answers returned said → TakesItems taking returned
items_taken taking said (Ok form) means e = subst (TakesItems taking) e means
items_taken taking said (Err R.MayBeEmpty) means e = subst (TakesItems taking) e means
items_taken taking said (Err R.NotShown) means e = subst (TakesItems taking) e means
items_taken taking said (Err R.Memory) means e = tt

pub first_means : (s : Shape) → TakesNumber (λ p. measure First (items s p)) (first s)
first_means (S.Exact []) = (point_of A.Zero, zero_fits, refl)
first_means (S.Exact (x ∷ xs)) = λ p. refl
first_means (S.Long [] r []) = (point_of A.Zero, zero_fits, refl)
first_means (S.Long [] r (y ∷ ys)) = λ p. some_within (p.rests r) (numbers ys p) (number y p) _
first_means (S.Long (x ∷ xs) r ys) = λ p. refl

pub rest_means : (s : Shape) → TakesItems (λ p. measure Rest (items s p)) (rest s)
rest_means (S.Exact []) = (point_of A.Zero, zero_fits, refl)
rest_means (S.Exact (x ∷ xs)) = λ p. refl
rest_means (S.Long [] r []) = (point_of A.Zero, zero_fits, refl)
rest_means (S.Long [] r (y ∷ ys)) = λ p. some_within (p.rests r) (numbers ys p) (number y p) _
rest_means (S.Long (x ∷ xs) r ys) = λ p. refl

numbers_push : (xs : List NumForm) (x : NumForm) (p : Point) →
    numbers (xs ++ x ∷ []) p ≡ numbers xs p ++ number x p ∷ []
numbers_push xs x p = map_push (λ (form : NumForm). number form p) xs x

-- the items of a form with one more form at the end
pub items_push : (xs ys : List NumForm) (r : ℕ) (y : NumForm) (p : Point) →
    items (S.Long xs r (ys ++ y ∷ [])) p ≡ items (S.Long xs r ys) p ++ number y p ∷ []
items_push xs ys r y p = ap (λ zs. numbers xs p ++ p.rests r ++ zs) (numbers_push ys y p)
    ∙ sym (append_assoc (numbers xs p ++ p.rests r) (numbers ys p) (number y p ∷ []))

last_shown : (zs : List NumForm) (z : NumForm) (others : ℕ) (taking : Point → Evaluated) →
    ((p : Point) → taking p ≡ Ok (Int (number z p))) →
    TakesNumber taking (shown (slice_get (zs ++ z ∷ []) (length (zs ++ z ∷ []) - 1)) others)
last_shown zs z others taking means =
    subst (λ o. TakesNumber taking (shown o others)) (sym (got_last zs z)) means

nothing_at_back : (xs : List NumForm) (r : ℕ) →
    TakesNumber (λ p. measure Last (items (S.Long xs r []) p)) (last (S.Long xs r []))
nothing_at_back [] r = (point_of A.Zero, zero_fits, refl)
nothing_at_back (x ∷ xs) r = λ p e. cc

pub last_means : (s : Shape) → TakesNumber (λ p. measure Last (items s p)) (last s)
last_means (S.Exact xs) =
    by_last (λ zs. TakesNumber (λ p. measure Last (items (S.Exact zs) p)) (last (S.Exact zs)))
    (point_of A.Zero, zero_fits, refl)
    (λ zs z. last_shown zs z 0 _
    (λ p. ap (measure Last) (numbers_push zs z p) ∙ last_of_push (numbers zs p) (number z p))) xs
last_means (S.Long xs r ys) =
    by_last (λ zs. TakesNumber (λ p. measure Last (items (S.Long xs r zs) p)) (last (S.Long xs r zs)))
    (nothing_at_back xs r)
    (λ zs z. last_shown zs z (length xs) _
    (λ p. ap (measure Last) (items_push xs zs r z p) ∙ last_of_push (items (S.Long xs r zs) p) (number z p)))
    ys

-- a list without the last one, which was put there
start_of_push : (zs : List NumForm) (z : NumForm) (others : ℕ) → start_of (zs ++ z ∷ []) others ≡ Ok zs
start_of_push [] z others = refl
start_of_push (y ∷ zs) z others =
    ap made (take_at (y ∷ zs) (z ∷ []) (length (zs ++ z ∷ []))
    (longer (length zs) (length (zs ++ z ∷ [])) (length_push zs z)))
  where
    made : List NumForm → Result (List NumForm) FormRefusal
    made l = Ok l

    longer : (n m : ℕ) → m ≡ n + 1 → suc n ≡ m
    longer n m e = omega arith

front_shown : (made : List NumForm → Shape) (zs : List NumForm) (z : NumForm) (others : ℕ)
    (taking : Point → Evaluated) →
    ((p : Point) → taking p ≡ Ok (Seq (items (made zs) p))) →
    TakesItems taking (taken made (start_of (zs ++ z ∷ []) others))
front_shown made zs z others taking means =
    subst (λ o. TakesItems taking (taken made o)) (sym (start_of_push zs z others)) means

no_front : (xs : List NumForm) (r : ℕ) →
    TakesItems (λ p. measure Front (items (S.Long xs r []) p)) (front (S.Long xs r []))
no_front [] r = (point_of A.Zero, zero_fits, refl)
no_front (x ∷ xs) r = λ p e. cc

pub front_means : (s : Shape) → TakesItems (λ p. measure Front (items s p)) (front s)
front_means (S.Exact xs) =
    by_last (λ zs. TakesItems (λ p. measure Front (items (S.Exact zs) p)) (front (S.Exact zs)))
    (point_of A.Zero, zero_fits, refl)
    (λ zs z. front_shown S.Exact zs z 0 _
    (λ p. ap (measure Front) (numbers_push zs z p) ∙ front_of_push (numbers zs p) (number z p))) xs
front_means (S.Long xs r ys) =
    by_last (λ zs. TakesItems (λ p. measure Front (items (S.Long xs r zs) p)) (front (S.Long xs r zs)))
    (no_front xs r)
    (λ zs z. front_shown (λ l. S.Long xs r l) zs z (length xs) _
    (λ p. ap (measure Front) (items_push xs zs r z p)
    ∙ front_of_push (items (S.Long xs r zs) p) (number z p))) ys

-- one more element at the end
pub add_means : (s : Shape) (x : NumForm) (p : Point) → items s p ++ number x p ∷ [] ≡ items (add s x) p
add_means (S.Exact xs) x p = sym (numbers_push xs x p)
add_means (S.Long xs r ys) x p = sym (items_push xs ys r x p)
