-- What the views have, one after the other, after a change at one place.
use Rattle.std.proofs.Common.{◌≡◌, ◌≢◌, ℕ, zero, suc, List, [], ◌∷◌, ◌++◌, set, refl, sym, ap, ◌∙◌, subst}
use Rattle.std.proofs.Common.{append_assoc, append-nil}
use mathlib.Core.Option.{some, some-injective, some-ne-none}
use lib.ListN.{get_elem?}
use Rattle.std.specs.Prelude.{IsPermutation}
use Rattle.std.proofs.lemmas.List.{set_comm, set-set}
use Rattle.std.proofs.lemmas.List.Sorted.{IsPermutation-refl, IsPermutation-sym, IsPermutation-trans}
use Rattle.std.proofs.lemmas.List.Sorted.{IsPermutation-cons, IsPermutation-append_left}
use Rattle.std.proofs.lemmas.List.Sorted.{IsPermutation-append_right, IsPermutation-append_comm}
use Rattle.std.proofs.lemmas.List.Sorted.{IsPermutation-middle}
use Rattle.crossbeam_queue.proofs.Lists.{set_else}
use Rattle.ready_queue.specs.declared.view.View.{View}
use Rattle.ready_queue.specs.declared.view.View.TheVariants.{Spent}
use Rattle.ready_queue.specs.Rules.{all_of}

module _ {A : Type 0} where
  -- what stands at a place after a change there
  pub here_set : (xs : List A) (i : ℕ) (v w : A) → get_elem? xs i ≡ some v →
      get_elem? (set xs i w) i ≡ some w
  here_set [] i v w e = absurd (some-ne-none v (sym e))
  here_set (x ∷ xs) zero v w e = refl
  here_set (x ∷ xs) (suc i) v w e = here_set xs i v w e

  -- the first two of three lists change places
  pub turned : (a b c : List A) → IsPermutation (a ++ (b ++ c)) (b ++ (a ++ c))
  turned a b c =
      let h : IsPermutation ((a ++ b) ++ c) ((b ++ a) ++ c) =
      IsPermutation-append_left c _ _ (IsPermutation-append_comm a b) in
      subst (λ l. IsPermutation l (b ++ (a ++ c))) (append_assoc a b c)
      (subst (IsPermutation ((a ++ b) ++ c)) (append_assoc b a c) h)

  -- an element goes from the end of a list to the front
  pub fronted : (a : List A) (x : A) (b : List A) → IsPermutation ((a ++ x ∷ []) ++ b) (x ∷ (a ++ b))
  fronted a x b =
      subst (λ l. IsPermutation l (x ∷ (a ++ b))) (sym (append_assoc a (x ∷ []) b))
      (IsPermutation-middle a x b)

module _ {X : Type 0} (f : View → List X) (nothing : f Spent ≡ []) where
  -- what one view has, and what the others have
  pub apart : (views : List View) (i : ℕ) (v : View) → get_elem? views i ≡ some v →
      IsPermutation (all_of f views) (f v ++ all_of f (set views i Spent))
  apart [] i v e = absurd (some-ne-none v (sym e))
  apart (x ∷ xs) zero v e =
      subst (λ l. IsPermutation (f x ++ all_of f xs) (f v ++ (l ++ all_of f xs))) (sym nothing)
      (subst (λ y. IsPermutation (f x ++ all_of f xs) (f y ++ all_of f xs)) (some-injective x v e)
      (IsPermutation-refl (f x ++ all_of f xs)))
  apart (x ∷ xs) (suc i) v e =
      IsPermutation-trans _ _ _ (IsPermutation-append_right (f x) _ _ (apart xs i v e))
      (turned (f x) (f v) (all_of f (set xs i Spent)))

  -- the same after a change of that view
  pub apart_set : (views : List View) (i : ℕ) (v w : View) → get_elem? views i ≡ some v →
      IsPermutation (all_of f (set views i w)) (f w ++ all_of f (set views i Spent))
  apart_set views i v w e =
      subst (λ l. IsPermutation (all_of f (set views i w)) (f w ++ all_of f l)) (set-set views i w Spent)
      (apart (set views i w) i w (here_set views i v w e))

  -- a change that leaves what the view has
  pub same_set : (views : List View) (i : ℕ) (v w : View) → get_elem? views i ≡ some v → f w ≡ f v →
      IsPermutation (all_of f views) (all_of f (set views i w))
  same_set views i v w e same =
      IsPermutation-trans _ _ _ (apart views i v e)
      (IsPermutation-sym _ _ (subst (λ l. IsPermutation (all_of f (set views i w))
      (l ++ all_of f (set views i Spent))) same (apart_set views i v w e)))

  -- a change by which the view has one more
  pub more_set : (views : List View) (i : ℕ) (v w : View) (x : X) → get_elem? views i ≡ some v →
      f w ≡ f v ++ x ∷ [] → IsPermutation (x ∷ all_of f views) (all_of f (set views i w))
  more_set views i v w x e more =
      let rest = all_of f (set views i Spent) in
      IsPermutation-trans _ _ _ (IsPermutation-cons x _ _ (apart views i v e))
      (IsPermutation-trans _ _ _ (IsPermutation-sym _ _ (fronted (f v) x rest))
      (IsPermutation-sym _ _ (subst (λ l. IsPermutation (all_of f (set views i w)) (l ++ rest)) more
      (apart_set views i v w e))))

  -- one view more, which has nothing
  pub all_push : (views : List View) (w : View) → f w ≡ [] → all_of f (views ++ w ∷ []) ≡ all_of f views
  all_push [] w e = append-nil (f w) ∙ e
  all_push (v ∷ views) w e = ap (λ l. f v ++ l) (all_push views w e)

  -- what a view has goes to another one
  pub merged : (views : List View) (i j : ℕ) (v u w : View) → j ≢ i → get_elem? views i ≡ some v →
      get_elem? views j ≡ some u → f w ≡ f u ++ f v →
      IsPermutation (all_of f views) (all_of f (set (set views i w) j Spent))
  merged views i j v u w n at there both =
      let still : get_elem? (set views i Spent) j ≡ some u = set_else views i j Spent n ∙ there in
      let rest = all_of f (set (set views i Spent) j Spent) in
      let one = apart views i v at in
      let two = apart (set views i Spent) j u still in
      let before : IsPermutation (all_of f views) (f v ++ (f u ++ rest)) =
      IsPermutation-trans _ _ _ one (IsPermutation-append_right (f v) _ _ two) in
      let mine : get_elem? (set views j Spent) i ≡ some v = set_else views j i Spent (λ e. n (sym e)) ∙ at in
      let after : IsPermutation (all_of f (set (set views j Spent) i w))
      (f w ++ all_of f (set (set views j Spent) i Spent)) = apart_set (set views j Spent) i v w mine in
      let after' : IsPermutation (all_of f (set (set views i w) j Spent)) ((f u ++ f v) ++ rest) =
      subst (λ l. IsPermutation (all_of f (set (set views i w) j Spent)) (l ++ rest)) both
      (subst (λ l. IsPermutation (all_of f (set (set views i w) j Spent)) (f w ++ all_of f l))
      (sym (set_comm views i j Spent Spent (λ e. n (sym e))))
      (subst (λ l. IsPermutation (all_of f l) (f w ++ all_of f (set (set views j Spent) i Spent)))
      (sym (set_comm views i j w Spent (λ e. n (sym e)))) after)) in
      IsPermutation-trans _ _ _ before (IsPermutation-trans _ _ _ (turned (f v) (f u) rest)
      (IsPermutation-sym _ _ (subst (λ l. IsPermutation (all_of f (set (set views i w) j Spent)) l)
      (append_assoc (f u) (f v) rest) after')))
