-- Where an action that is printed in a certain way stands among the actions.
use Rattle.std.proofs.Common.{◌≡◌, ℕ, zero, suc, ◌+◌, ◌<◌, Bool, true, false, cond, List, [], ◌∷◌, length}
use Rattle.std.proofs.Common.{drop, ap, subst, arith}
use Rattle.std.specs.Prelude.{slice_get, Some}
use Rattle.std.specs.List.{position_from}
use Rattle.std.specs.Str.{bytes_eq}
use Rattle.seuss_program.specs.declared.program.Program.{Program}
use Rattle.seuss_program.specs.declared.program.ActionInfo.{ActionInfo}
use Rattle.seuss_program.specs.Reports.{action_name}

module _ (p : Program) (word : List ℕ) where
  -- whether the action is printed as this word
  abbrev pub is_printed : ActionInfo → Bool
  is_printed a = bytes_eq (action_name p (Some a)) word

  -- the action here is printed so
  pub found_here : (xs : List ActionInfo) (i n : ℕ) → i < length xs →
      bytes_eq (action_name p (slice_get xs i)) word ≡ true → position_from is_printed n (drop i xs) ≡ Some n
  found_here [] i n within is = absurd (omega (arith, within))
  found_here (x ∷ xs) zero n within is = ap (λ b. cond b (Some n) (position_from is_printed (n + 1) xs)) is
  found_here (x ∷ xs) (suc i) n within is = found_here xs i n (omega (arith, within)) is

  -- the action here isn't printed so
  pub found_behind : (xs : List ActionInfo) (i n : ℕ) → i < length xs →
      bytes_eq (action_name p (slice_get xs i)) word ≡ false →
      position_from is_printed n (drop i xs) ≡ position_from is_printed (n + 1) (drop (i + 1) xs)
  found_behind [] i n within is = absurd (omega (arith, within))
  found_behind (x ∷ xs) zero n within is = ap (λ b. cond b (Some n) (position_from is_printed (n + 1) xs)) is
  found_behind (x ∷ xs) (suc i) n within is =
      let next : suc (i + 1) ≡ suc i + 1 = omega arith in
      subst (λ k. position_from is_printed n (drop i xs) ≡ position_from is_printed (n + 1)
      (drop k (x ∷ xs))) next
      (found_behind xs i n (omega (arith, within)) is)
