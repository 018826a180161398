-- What `at` means at every point.
use Rattle.std.proofs.Common.{◌≡◌, ℕ, zero, suc, ap, sym, subst, ◌∙◌, refl, Bool, true, false, List, []}
use Rattle.std.proofs.Common.{◌∷◌, ◌++◌, Option, None, Some, Result, Ok, Err}
use Rattle.std.specs.Prelude.{slice_get, nat_lt, if◌then◌else◌}
use Rattle.std.specs.Option.{option_map}
use Rattle.std.proofs.lemmas.Option.{slice_get-map}
use Rattle.std.proofs.Math.IntN.{ℤ, pos, negsuc}
use Rattle.seuss_program.specs.Values.{element, found as found_value}
use Rattle.shape_terms.specs.declared.apart.Apart.TheVariants as A
use Rattle.shape_terms.specs.declared.num_form.NumForm.{NumForm}
use Rattle.shape_terms.specs.declared.shape.Shape.{Shape}
use Rattle.shape_terms.specs.declared.shape.Shape.TheVariants as S
use Rattle.shape_terms.specs.declared.refusal.FormRefusal.{FormRefusal}
use Rattle.shape_terms.specs.declared.refusal.FormRefusal.TheVariants as R
use Rattle.shape_terms.specs.Points.{Point, point_of}
use Rattle.shape_terms.specs.Numbers.{number}
use Rattle.shape_terms.specs.Rows.{SaysLiteral}
use Rattle.shape_terms.specs.Sequences.{numbers, items, least, found, shown_at, at_literal, Answers, TakesAt}

-- what is said of an answer holds of what the call returns
pub at_taken : (s : Shape) (index : NumForm) (said returned : Result NumForm FormRefusal) →
    TakesAt s index said →
    Answers returned said → TakesAt s index returned
at_taken s index said (Ok form) means e = subst (TakesAt s index) e means
at_taken s index said (Err R.MayBeEmpty) means e = subst (TakesAt s index) e means
at_taken s index said (Err R.NotShown) means e = subst (TakesAt s index) e means
at_taken s index said (Err R.Memory) means e = tt

got_before : {X : Type 0} (xs ys : List X) (n : ℕ) (x : X) → slice_get xs n ≡ Some x →
    slice_get (xs ++ ys) n ≡ Some x
got_before [] ys n x e = cc
got_before (z ∷ xs) ys zero x e = e
got_before (z ∷ xs) ys (suc n) x e = got_before xs ys n x e

got_number : (xs : List NumForm) (n : ℕ) (x : NumForm) (p : Point) → slice_get xs n ≡ Some x →
    slice_get (numbers xs p) n ≡ Some (number x p)
got_number xs n x p e =
    slice_get-map (λ (form : NumForm). number form p) xs n
    ∙ ap (option_map (λ (form : NumForm). number form p)) e

found_is : (o : Option NumForm) (x : NumForm) → found o ≡ Ok x → o ≡ Some x
found_is None x e = cc
found_is (Some y) x e = cc

found_shows : (o : Option NumForm) → found o ≡ Err R.MayBeEmpty → ⊥
found_shows None e = cc
found_shows (Some y) e = cc

got_item : (s : Shape) (n : ℕ) (x : NumForm) (p : Point) → shown_at s n ≡ Ok x →
    slice_get (items s p) n ≡ Some (number x p)
got_item (S.Exact xs) n x p e = got_number xs n x p (found_is (slice_get xs n) x e)
got_item (S.Long xs r ys) n x p e =
    got_before (numbers xs p ++ p.rests r) (numbers ys p) n (number x p)
    (got_before (numbers xs p) (p.rests r) n (number x p)
    (got_number xs n x p (found_is (slice_get xs n) x e)))

never_empty : (s : Shape) (n : ℕ) → shown_at s n ≡ Err R.MayBeEmpty → ⊥
never_empty (S.Exact xs) n e = found_shows (slice_get xs n) e
never_empty (S.Long xs r ys) n e = found_shows (slice_get xs n) e

shown_means : (s : Shape) (index : NumForm) (n : ℕ) → nat_lt n (least s) ≡ true →
    ((p : Point) → number index p ≡ pos n) →
    (r : Result NumForm FormRefusal) → shown_at s n ≡ r → TakesAt s index r
shown_means s index n within value (Ok x) e =
    λ p. ap (element (items s p)) (value p) ∙ ap found_value (got_item s n x p e)
shown_means s index n within value (Err R.MayBeEmpty) e = absurd (never_empty s n e)
shown_means s index n within value (Err R.NotShown) e = record { place = n; within = within; value = value }
shown_means s index n within value (Err R.Memory) e = tt

same_place : (n m : ℕ) → pos n ≡ pos m → n ≡ m
same_place n m e = cc

no_negative : (n m : ℕ) → pos n ≡ negsuc m → ⊥
no_negative n m e = cc

within_means : (s : Shape) (index : NumForm) (n : ℕ) → ((p : Point) → number index p ≡ pos n) → (b : Bool) →
    nat_lt n (least s) ≡ b →
    TakesAt s index (if b then shown_at s n else Err R.MayBeEmpty)
within_means s index n value true e = shown_means s index n e value (shown_at s n) refl
within_means s index n value false e = λ is. true_is_false
    (sym is.within
    ∙ ap (λ k. nat_lt k (least s))
    (same_place is.place n (sym (is.value (point_of A.Zero)) ∙ value (point_of A.Zero))) ∙ e)
  where
    true_is_false : true ≡ false → ⊥
    true_is_false e = cc

pub at_means : (s : Shape) (index : NumForm) (o : Option ℤ) → SaysLiteral index o →
    TakesAt s index (at_literal s o)
at_means s index None never = λ is. never (pos is.place) (λ p fits. is.value p)
at_means s index (Some (negsuc n)) always =
    λ is. no_negative is.place n (sym (is.value (point_of A.Zero)) ∙ always (point_of A.Zero))
at_means s index (Some (pos n)) always = within_means s index n always (nat_lt n (least s)) refl
