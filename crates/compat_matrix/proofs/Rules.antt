-- Every two procedures have a level by the rule.
use Rattle.std.proofs.Common.{◌≡◌, ℕ, zero, suc, ◌<◌, ◌≤◌, ◌⊎◌, inl, inr, Bool, true, false, IsTrue, refl}
use Rattle.std.proofs.Common.{sym, subst, arith, true≢false}
use Rattle.std.proofs.lemmas.Bool.{cases_lt}
use Rattle.seuss_base.specs.declared.level.Level.{Level}
use Rattle.seuss_base.specs.declared.level.Level.TheVariants.{Never, Loose, Firm}
use Rattle.seuss_base.specs.Levels.{rank}
use Rattle.seuss_program.specs.declared.tree.Ref.{Ref}
use Rattle.seuss_program.specs.declared.tree.Form.{Form}
use Rattle.method_code.specs.declared.frame.End.{End}
use Rattle.method_code.specs.Beside.{asks}
use Rattle.effect_sets.specs.Effects.{tests, reads, writes, has_early, has_late}
use Rattle.compat_matrix.specs.declared.part.Part.{Part}
use Rattle.compat_matrix.specs.declared.part.Part.TheVariants.{Line, Tail}
use Rattle.compat_matrix.specs.Rule.{Meets, TestsWritten, MayBeLate, KeepsApart, IsRule, Tested, Apart}
use Rattle.compat_matrix.specs.Rule.{Certified, Free}

true_or_not : (b : Bool) → (b ≡ true) ⊎ (b ≡ true → ⊥)
true_or_not true = inl refl
true_or_not false = inr (λ h. absurd (true≢false (sym h)))

-- whether sets have a variable in common among the first ones
meets_below : (left right : ℕ → Bool) (n : ℕ) → n ≤ 32 →
    Meets left right ⊎ ((v : ℕ) → v < n → left v ≡ true → right v ≡ true → ⊥)
meets_below left right zero le = inr (λ v h a b. absurd (omega (arith, h)))
meets_below left right (suc n) le = by (meets_below left right n (omega (arith, le))) (true_or_not (left n))
    (true_or_not (right n))
  where
    by : Meets left right ⊎ ((v : ℕ) → v < n → left v ≡ true → right v ≡ true → ⊥) → (left n ≡ true) ⊎
        (left n ≡ true → ⊥) → (right n ≡ true) ⊎ (right n ≡ true → ⊥) →
        Meets left right ⊎ ((v : ℕ) → v < suc n → left v ≡ true → right v ≡ true → ⊥)
    by (inl h) l r = inl h
    by (inr h) (inl a) (inl b) = inl (n, omega (arith, le), a, b)
    by (inr h) (inr a) r = inr (λ v less x y. last v less x y (cases_lt v n))
      where
        last : (v : ℕ) → v < suc n → left v ≡ true → right v ≡ true → (v < n) ⊎ (n ≤ v) → ⊥
        last v less x y (inl lower) = h v lower x y
        last v less x y (inr same) = let e : v ≡ n = omega (arith, less, same) in
            a (subst (λ k. left k ≡ true) e x)
    by (inr h) (inl a) (inr b) = inr (λ v less x y. last v less x y (cases_lt v n))
      where
        last : (v : ℕ) → v < suc n → left v ≡ true → right v ≡ true → (v < n) ⊎ (n ≤ v) → ⊥
        last v less x y (inl lower) = h v lower x y
        last v less x y (inr same) = let e : v ≡ n = omega (arith, less, same) in
            b (subst (λ k. right k ≡ true) e y)

pub meets_or_not : (left right : ℕ → Bool) → Meets left right ⊎ (Meets left right → ⊥)
meets_or_not left right = by (meets_below left right 32 (omega arith))
  where
    by : Meets left right ⊎ ((v : ℕ) → v < 32 → left v ≡ true → right v ≡ true → ⊥) → Meets left right ⊎
        (Meets left right → ⊥)
    by (inl h) = inl h
    by (inr h) = inr (λ m. h m.0 m.1 m.2 m.3)

line_or_not : (part : Part) → (part ≡ Line) ⊎ (part ≡ Line → ⊥)
line_or_not Line = inl refl
line_or_not Tail = inr (λ h. cc)

tail_or_not : (part : Part) → (part ≡ Tail) ⊎ (part ≡ Tail → ⊥)
tail_or_not Tail = inl refl
tail_or_not Line = inr (λ h. cc)

module _ (part other : Part) (m n : Form Ref) where
  pub tested_or_not : TestsWritten part m n ⊎ (TestsWritten part m n → ⊥)
  tested_or_not = by (line_or_not part) (true_or_not (has_early m)) (meets_or_not (λ v. tests v m)
      (λ v. writes v n))
    where
      by : (part ≡ Line) ⊎ (part ≡ Line → ⊥) → (has_early m ≡ true) ⊎ (has_early m ≡ true → ⊥) →
          Meets (λ v. tests v m) (λ v. writes v n) ⊎ (Meets (λ v. tests v m) (λ v. writes v n) → ⊥) →
          TestsWritten part m n ⊎ (TestsWritten part m n → ⊥)
      by (inl l) (inl e) (inl h) = inl (record { line = l; early = e; meets = h })
      by (inr l) e h = inr (λ t. l t.line)
      by (inl l) (inr e) h = inr (λ t. e t.early)
      by (inl l) (inl e) (inr h) = inr (λ t. h t.meets)

  pub late_or_not : MayBeLate other n ⊎ (MayBeLate other n → ⊥)
  late_or_not = by (tail_or_not other) (true_or_not (has_late n))
    where
      neither : (other ≡ Tail → ⊥) → (has_late n ≡ true → ⊥) → (other ≡ Tail) ⊎ (has_late n ≡ true) → ⊥
      neither t l (inl h) = t h
      neither t l (inr h) = l h

      by : (other ≡ Tail) ⊎ (other ≡ Tail → ⊥) → (has_late n ≡ true) ⊎ (has_late n ≡ true → ⊥) →
          MayBeLate other n ⊎ (MayBeLate other n → ⊥)
      by (inl t) l = inl (inl t)
      by (inr t) (inl l) = inl (inr l)
      by (inr t) (inr l) = inr (neither t l)

  pub apart_or_not : KeepsApart m n ⊎ (KeepsApart m n → ⊥)
  apart_or_not =
      by (meets_or_not (λ v. writes v m) (λ v. reads v n)) (meets_or_not (λ v. writes v m)
      (λ v. writes v n)) (meets_or_not (λ v. writes v n) (λ v. reads v m))
    where
      by : Meets (λ v. writes v m) (λ v. reads v n) ⊎ (Meets (λ v. writes v m) (λ v. reads v n) → ⊥) →
          Meets (λ v. writes v m) (λ v. writes v n) ⊎ (Meets (λ v. writes v m) (λ v. writes v n) → ⊥) →
          Meets (λ v. writes v n) (λ v. reads v m) ⊎ (Meets (λ v. writes v n) (λ v. reads v m) → ⊥) →
          KeepsApart m n ⊎ (KeepsApart m n → ⊥)
      by (inl a) b c = inr (λ k. k.writes_reads a)
      by (inr a) (inl b) c = inr (λ k. k.writes_writes b)
      by (inr a) (inr b) (inl c) = inr (λ k. k.reads_writes c)
      by (inr a) (inr b) (inr c) = inl (record { writes_reads = a; writes_writes = b; reads_writes = c })

  -- the rule gives them a level
  pub rule_of : (certified : Level) → (found : Level) × IsRule part other m n certified found
  rule_of certified = by tested_or_not late_or_not apart_or_not
    where
      by : TestsWritten part m n ⊎ (TestsWritten part m n → ⊥) → MayBeLate other n ⊎ (MayBeLate other n →
          ⊥) → KeepsApart m n ⊎ (KeepsApart m n → ⊥) →
          (found : Level) × IsRule part other m n certified found
      by (inl t) l k = (Never, Tested t)
      by (inr t) (inl l) (inl k) = (Firm, Apart t l k)
      by (inr t) (inl l) (inr k) = (certified, Certified t l k)
      by (inr t) (inr l) k = (Firm, Free t l)

pub rank_never : (level : Level) → rank level ≤ 0 → level ≡ Never
rank_never Never h = refl
rank_never Loose h = absurd (omega (arith, h))
rank_never Firm h = absurd (omega (arith, h))

-- a level asks what a lower one asks
pub asks_more : (level wanted : Level) (end : End) → rank wanted ≤ rank level → IsTrue (asks wanted end) →
    IsTrue (asks level end)
asks_more level Never end h a = absurd (true≢false (sym a))
asks_more Never Loose end h a = absurd (omega (arith, h))
asks_more Loose Loose end h a = a
asks_more Firm Loose end h a = refl
asks_more Never Firm end h a = absurd (omega (arith, h))
asks_more Loose Firm end h a = absurd (omega (arith, h))
asks_more Firm Firm end h a = refl
