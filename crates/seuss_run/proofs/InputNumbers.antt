-- The numbers of an input have 64 bits.
use Rattle.std.proofs.Common.{ℕ, zero, suc, ◌<◌, ◌≤◌, ◌^◌, ℤ, pos, neg_ℤ, List, [], ◌∷◌, inl, inr}
use Rattle.std.proofs.Common.{subst, sym, arith}
use Rattle.std.specs.Prelude.{All, IsTrue}
use Rattle.std.proofs.lemmas.Bool.Decides.{nat_tests}
use Rattle.std.proofs.lemmas.List.Elements.{All-nil, All-cons}
use Rattle.seuss_parser.specs.Inputs.{IsNumber, AreNumbers}
use Rattle.seuss_program.specs.Values.{fits}

-- a number without a minus, and one with it
positive_fits : (n : ℕ) → n < 2 ^ 63 → IsTrue (fits (pos n))
positive_fits n small = grind (arith, nat_tests)

negative_fits : (n : ℕ) → n ≤ 2 ^ 63 → IsTrue (fits (neg_ℤ (pos n)))
negative_fits zero small = grind (arith, nat_tests)
negative_fits (suc n) small = grind (arith, nat_tests)

number_fits : (word : List ℕ) (z : ℤ) → IsNumber word z → IsTrue (fits z)
number_fits word z (inl (digits, small, is)) =
    subst (λ y. IsTrue (fits y)) (sym is) (positive_fits _ small)
number_fits word z (inr (digits, spelled, are, small, is)) =
    subst (λ y. IsTrue (fits y)) (sym is) (negative_fits _ small)

-- the numbers of words
pub numbers_fit : (words : List (List ℕ)) (zs : List ℤ) → AreNumbers words zs →
    All (λ z. IsTrue (fits z)) zs
numbers_fit [] [] are = All-nil (λ z. IsTrue (fits z))
numbers_fit [] (z ∷ zs) are = absurd are
numbers_fit (word ∷ words) [] are = absurd are
numbers_fit (word ∷ words) (z ∷ zs) are =
    All-cons (λ y. IsTrue (fits y)) z zs (number_fits word z are.0) (numbers_fit words zs are.1)
