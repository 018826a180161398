-- Stamps by the rule of the clocks.
use Rattle.std.proofs.Common.{◌≡◌, ℕ, zero, suc, ◌+◌, ◌<◌, ◌≤◌, List, [], ◌∷◌, ◌++◌, length, arith, get_or, subst, sym}
use Rattle.std.specs.Prelude.{All, max, ◌^◌}
use Rattle.loose_records.specs.Entries.{AreStamps}
use Rattle.loose_records.specs.Turns.{clock_of}
use Rattle.loose_records.proofs.Lists.{stamps_push}

-- no stamp is above the clock of all
low : (stamps : List ℕ) (k : ℕ) (d : ℕ) → k < length stamps → get_or stamps k d ≤ clock_of stamps
low [] k d l = absurd (omega arith)
low (x ∷ xs) zero d l = omega arith
low (x ∷ xs) (suc k) d l = let h = low xs k d (omega arith) in omega (arith, h)

-- the stamp after the clock of a list is above all of it
pub object_rises : (clock : ℕ) (stamps : List ℕ) →
    All (λ (a : ℕ). a < 1 + max clock (clock_of stamps)) stamps
object_rises clock stamps k d l = let h = low stamps k d l in omega (arith, h)

-- so it is where the list is the first of the two
pub pass_rises : (clock : ℕ) (stamps : List ℕ) → All (λ (a : ℕ). a < 1 + max (clock_of stamps) clock) stamps
pass_rises clock stamps k d l = let h = low stamps k d l in omega (arith, h)

-- the stamp after both clocks, at the end of the stamps of a journal, keeps them stamps
pub stamps_after : (clock : ℕ) (stamps : List ℕ) (now : ℕ) → AreStamps stamps →
    now ≡ 1 + max clock (clock_of stamps) → now < 2 ^ 63 → AreStamps (stamps ++ now ∷ [])
stamps_after clock stamps now are is fits = stamps_push stamps now are (record {
  above = subst (λ (n : ℕ). All (λ (a : ℕ). a < n) stamps) (sym is) (object_rises clock stamps);
  small = fits;
})

-- a stamp above the clock of a list is the clock of the longer list
pub clock_push : (stamps : List ℕ) (now : ℕ) → clock_of stamps < now →
    clock_of (stamps ++ now ∷ []) ≡ now
clock_push [] now above = omega arith
clock_push (stamp ∷ stamps) now above =
    let rest = clock_push stamps now (omega (arith, above)) in omega (arith, above, rest)
