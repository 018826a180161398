-- How a list of properties goes on from a place.
use Rattle.std.proofs.Common.{◌≡◌, ℕ, zero, suc, ◌+◌, ◌<◌, ◌≤◌}
use Rattle.std.proofs.Common.{List, [], ◌∷◌, ◌++◌, length, Option, None, Some}
use Rattle.std.proofs.Common.{Result, Ok, Err, refl, sym, ap}
use Rattle.std.proofs.Common.{subst, ◌∙◌, arith, append_assoc, append-nil, inr}
use Rattle.std.specs.Prelude.{slice_get, IsErrAnd}
use Rattle.seuss_parser.specs.SingleExpressions.{ParsesExpression}
use Rattle.seuss_parser.specs.declared.word.Word.{Word}
use Rattle.seuss_program.specs.declared.tree.Expr.{Expr}
use Rattle.seuss_program.specs.declared.tree.Name.{Name}
use Rattle.safety_texts.specs.declared.refusal.PropertyRefusal.{PropertyRefusal}
use Rattle.safety_texts.specs.declared.refusal.PropertyRefusal.TheVariants as R
use Rattle.safety_texts.specs.declared.texts.PropertyText.{PropertyText}
use Rattle.safety_texts.specs.Lists.{AreList, Ended, Stopped, Further, StoppedFurther, IsOne, IsNone}
use Rattle.safety_texts.specs.Lists.{IsNoExpression, head}
use Rattle.safety_texts.specs.Readings.{in_front, IsReached, ReadsOne, ReadsList}

-- a place below the length has an item, and one beyond has none
pub there : {A : Type 0} (xs : List A) (at : ℕ) → at < length xs → (x : A) × (slice_get xs at ≡ Some x)
there [] at below = absurd (omega arith)
there (x ∷ xs) zero below = (x, refl)
there (x ∷ xs) (suc at) below = there xs at (omega arith)

pub beyond : {A : Type 0} (xs : List A) (at : ℕ) → length xs ≤ at → slice_get xs at ≡ None
beyond [] at past = refl
beyond (x ∷ xs) zero past = absurd (omega arith)
beyond (x ∷ xs) (suc at) past = beyond xs at (omega arith)

-- an item stands below the length
pub below : {A : Type 0} (xs : List A) (at : ℕ) (x : A) → slice_get xs at ≡ Some x → at < length xs
below [] at x is = absurd (cc)
below (y ∷ xs) zero x is = omega arith
below (y ∷ xs) (suc at) x is = let h : at < length xs = below xs at x is in omega (arith, h)

module _ (words : List Word) where
  -- nothing stands before the first word
  pub reached_none : IsReached words [] 0
  reached_none = record { goes_on = λ found list. subst (AreList words 0) (same found) list }
    where
      same : (found : Result (List PropertyText) ℕ) → found ≡ in_front [] found
      same (Ok texts) = refl
      same (Err line) = refl

  -- one more property
  pub reached_more : (before : List PropertyText) (at : ℕ) (text : PropertyText) (next : ℕ) →
      at < length words → IsOne words at text next → IsReached words before at →
      IsReached words (before ++ text ∷ []) next
  reached_more before at text next within one reached = record { goes_on = by }
    where
      by : (found : Result (List PropertyText) ℕ) → AreList words next found →
          AreList words 0 (in_front (before ++ text ∷ []) found)
      by (Ok texts) list =
          let word = there words at within in
          subst (λ (ts : List PropertyText). AreList words 0 (Ok ts))
          (sym (append_assoc before (text ∷ []) texts))
          (reached.goes_on (Ok (text ∷ texts)) (Further at word.0 text next texts word.1 one list))
      by (Err line) list =
          let word = there words at within in
          reached.goes_on (Err line) (StoppedFurther at word.0 text next line word.1 one list)

  -- at the end of the words all are there
  pub reached_all : (before : List PropertyText) (at : ℕ) → length words ≤ at → IsReached words before at →
      AreList words 0 (Ok before)
  reached_all before at past reached =
      subst (λ (ts : List PropertyText). AreList words 0 (Ok ts)) (append-nil before)
      (reached.goes_on (Ok []) (Ended at (beyond words at past)))

  -- where there is no property, there is no list
  pub reached_stop : (before : List PropertyText) (at line : ℕ) → at < length words → IsNone words at line →
      IsReached words before at → AreList words 0 (Err line)
  reached_stop before at line within none reached =
      let word = there words at within in
      reached.goes_on (Err line) (Stopped at word.0 line word.1 none)

-- where no expression stands behind a head, there is no property
pub missing : (words others : List Word) (at line : ℕ) (cat : Name) → words ≡ others →
    head words at ≡ Ok cat → IsNoExpression others (at + 3) line → IsNone words at line
missing words others at line cat same begins none = inr (record {
  cat = cat;
  head = begins;
  none = subst (λ ws. IsNoExpression ws (at + 3) line) (sym same) none;
})

-- where one stands there, there is a property
pub one_by : (words others : List Word) (at next : ℕ) (cat : Name) (expr : Expr Name) → words ≡ others →
    head words at ≡ Ok cat → ParsesExpression (Ok (expr, next)) others (at + 3) →
    IsOne words at (record { cat = cat; expr = expr }) next × (at < next)
one_by words others at next cat expr same begins found = (
  record {
    head = begins;
    expr = subst (λ ws. ParsesExpression (Ok (expr, next)) ws (at + 3)) (sym same) found;
  },
  let far : next ≡ (at + 3) + length found.front = found.next_is in omega arith,
)

-- why no property was read is why there is no list
pub stopped_by : (words : List Word) (before : List PropertyText) (at : ℕ) (why : PropertyRefusal)
    (made : Result (List PropertyText) PropertyRefusal) → IsErrAnd made (λ cause. cause ≡ why) →
    at < length words → ReadsOne words at (Err why) → IsReached words before at → ReadsList words made
stopped_by words before at why (Ok texts) is within none reached = absurd is
stopped_by words before at why (Err cause) is within none reached =
    subst (λ w. ReadsList words (Err w)) (sym is) (by why none)
  where
    by : (why : PropertyRefusal) → ReadsOne words at (Err why) → ReadsList words (Err why)
    by R.TooLong none = absurd none
    by (R.Bad line) none = reached_stop words before at line within none reached
    by R.Memory none = tt
