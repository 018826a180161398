-- Each case has a number below their count, and each such number is that of a case.
use Rattle.std.proofs.Common.{◌≡◌, ℕ, zero, suc, ◌+◌, ◌*◌, ◌<◌, ◌/◌, ◌%◌, List, [], ◌∷◌, map, length}
use Rattle.std.proofs.Common.{refl, sym, ap, subst, ◌∙◌, arith}
use Rattle.std.specs.Prelude.{slice_index_or}
use Rattle.std.specs.List.{Contains}
use Rattle.std.proofs.Math.Nat.{max-eq_right}
use Rattle.std.proofs.lemmas.Nat.{mul-add-lt, div-mul-add, mod-mul-add, div_below, mod_below}
use Rattle.std.proofs.lemmas.List.{get_or_default}
use Rattle.std.proofs.lemmas.List.Elements.{Contains-get_or}
use Rattle.safety_check.specs.declared.region.Region.{Region}
use Rattle.safety_check.specs.declared.region.Region.TheVariants.{Anything}
use Rattle.safety_check.specs.Cases.{IsRow, product}
use Rattle.safety_judge.specs.Rows.{base, row_at, left_of}

-- how many rows there are
abbrev pub rows : List (List Region) → ℕ
rows choices = product (map (λ (rs : List Region). length rs) choices)

-- a place with regions has as many digits as regions
base-is : (choices : List Region) → 0 < length choices → base choices ≡ length choices
base-is choices h = max-eq_right h

-- a number whose row this is, and which leaves this number behind it
pub record Numbered (choices : List (List Region)) (row : List Region) (k : ℕ) : Type 0 where
  pub number : ℕ
  pub below : number < rows choices * suc k
  pub row_is : row_at choices number ≡ row
  pub left_is : left_of choices number ≡ k

-- a product of three in another order
turned : (a b c : ℕ) → a * (b * c) ≡ (a * b) * c
turned a b c = omega arith

-- one more place in front, by the number of the others
in-front-at : (c : List Region) (cs : List (List Region)) (r : Region) (rs : List Region) (k d n : ℕ)
    (tail : Numbered cs rs k) → d < length c → slice_index_or c d r ≡ r → n / base c ≡ tail.number →
    n % base c ≡ d → n < length c * (rows cs * suc k) → Numbered (c ∷ cs) (r ∷ rs) k
in-front-at c cs r rs k d n tail within is quotient digit fits = record {
  number = n;
  below = subst (λ m. n < m) (turned (length c) (rows cs) (suc k)) fits;
  row_is = (λ i. slice_index_or c (digit i) Anything ∷ row_at cs (quotient i))
      ∙ (ap (λ x. x ∷ row_at cs tail.number) (get_or_default c d Anything r within ∙ is)
      ∙ ap (λ xs. r ∷ xs) tail.row_is);
  left_is = ap (left_of cs) quotient ∙ tail.left_is;
}

-- one more place in front
in-front : (c : List Region) (cs : List (List Region)) (r : Region) (rs : List Region) (k : ℕ) →
    Contains c r → Numbered cs rs k → Numbered (c ∷ cs) (r ∷ rs) k
in-front c cs r rs k (d, within, is) tail =
    let some : 0 < length c = omega (arith, within) in
    let same : base c ≡ length c = base-is c some in
    let low : d < base c = subst (λ b. d < b) (sym same) within in
    let n : ℕ = tail.number * base c + d in
    let fits : n < base c * (rows cs * suc k) =
    mul-add-lt tail.number (base c) d (rows cs * suc k) tail.below low in
    in-front-at c cs r rs k d n tail within is (div-mul-add tail.number (base c) d low)
    (mod-mul-add tail.number (base c) d low) (subst (λ b. n < b * (rows cs * suc k)) same fits)

-- each row has a number
pub numbered : (choices : List (List Region)) (row : List Region) (k : ℕ) → IsRow choices row →
    Numbered choices row k
numbered [] [] k is = record { number = k; below = omega arith; row_is = refl; left_is = refl }
numbered [] (r ∷ rs) k is = absurd is
numbered (c ∷ cs) [] k is = absurd is
numbered (c ∷ cs) (r ∷ rs) k is = in-front c cs r rs k is.0 (numbered cs rs k is.1)

-- the row of a number is one, and leaves this much behind it
pub record Within (choices : List (List Region)) (n k : ℕ) : Type 0 where
  pub row : IsRow choices (row_at choices n)
  pub left : left_of choices n < k

-- a place without regions leaves no row
none-left : (p k n : ℕ) → n < (0 * p) * k → ⊥
none-left p k n h = omega (arith, h)

-- one more place in front, where the others have rows
within-front : (c : List Region) (cs : List (List Region)) (n k len : ℕ) → length c ≡ len →
    n < (len * rows cs) * k → ((m : ℕ) → m < rows cs * k → Within cs m k) → Within (c ∷ cs) n k
within-front c cs n k zero same h others = absurd (none-left (rows cs) k n h)
within-front c cs n k (suc m) same h others =
    let some : 0 < length c = omega (arith, same) in
    let is : base c ≡ length c = base-is c some in
    let low : n % base c < length c =
    subst (λ b. n % base c < b) is (mod_below n (base c) (subst (λ b. 0 < b) (sym is) some)) in
    let there : n < (length c * rows cs) * k = subst (λ l. n < (l * rows cs) * k) (sym same) h in
    let order : (length c * rows cs) * k ≡ (rows cs * k) * length c = omega arith in
    let less : n / length c < rows cs * k =
    div_below n (length c) (rows cs * k) some (subst (λ x. n < x) order there) in
    let tail : Within cs (n / base c) k =
    others (n / base c) (subst (λ b. n / b < rows cs * k) (sym is) less) in
    record { row = (Contains-get_or c (n % base c) Anything low, tail.row); left = tail.left }

-- each number below their count has a row
pub within : (choices : List (List Region)) (n k : ℕ) → n < rows choices * k → Within choices n k
within [] n k h = record { row = tt; left = omega (arith, h) }
within (c ∷ cs) n k h = within-front c cs n k (length c) refl h (λ m less. within cs m k less)
