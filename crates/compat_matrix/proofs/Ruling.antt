-- The rule by sets as bits is the rule.
use Rattle.std.proofs.Common.{◌≡◌, ◌≢◌, ℕ, zero, suc, ◌/◌, ◌%◌, ◌^◌, ◌<◌, inl, inr, min, Bool, true, false}
use Rattle.std.proofs.Common.{not, ◌||◌, ◌&&◌, if◌then◌else◌, refl, sym, ap, ◌∙◌, arith, true≢false}
use Rattle.std.specs.Prelude.{bit_and, ◌==◌}
use Rattle.std.specs.Int.{bit_at}
use Rattle.std.proofs.lemmas.Nat.{and_le_r, and_comm}
use Rattle.std.proofs.lemmas.Nat.Bits.{bit_at_and, bit_at-lt, bit_at-zero, bit_at-suc, bit_at_lowest}
use Rattle.std.proofs.lemmas.Bool.{eqb-true, eq-eqb}
use Rattle.seuss_base.specs.declared.level.Level.{Level}
use Rattle.seuss_base.specs.declared.level.Level.TheVariants.{Never, Firm}
use Rattle.seuss_program.specs.declared.tree.Ref.{Ref}
use Rattle.seuss_program.specs.declared.tree.Proc.{Proc}
use Rattle.effect_sets.specs.Effects.{IsEffects, has_bit, tests, reads, writes}
use Rattle.compat_matrix.proofs.Parts.{and_left, and_right}
use Rattle.compat_matrix.specs.declared.part.Part.{Part}
use Rattle.compat_matrix.specs.declared.part.Part.TheVariants.{Line, Tail}
use Rattle.compat_matrix.specs.declared.member.Member.{Member}
use Rattle.compat_matrix.specs.Rule.{Meets, TestsWritten, MayBeLate, KeepsApart, IsRule, Tested, Apart}
use Rattle.compat_matrix.specs.Rule.{Certified, Free}
use Rattle.compat_matrix.specs.Rules.{shares, is_line, tests_written, may_be_late, keeps_apart, ruled}

-- a number of k bits that isn't 0 has a bit
some_bit : (k n : ℕ) → n < 2 ^ k → n ≢ 0 → (i : ℕ) × (i < k) × (bit_at n i ≡ 1)
some_bit zero n less some = absurd (some (omega (arith, less)))
some_bit (suc k) n less some = by (n % 2) refl (omega arith) (some_bit k (n / 2) half)
  where
    half : n / 2 < 2 ^ k
    half = omega (arith, less)

    by : (b : ℕ) → n % 2 ≡ b → b < 2 → (n / 2 ≢ 0 → (i : ℕ) × (i < k) × (bit_at (n / 2) i ≡ 1)) →
        (i : ℕ) × (i < suc k) × (bit_at n i ≡ 1)
    by zero e l rest =
        let found = rest (λ h. some (omega (arith, h, e))) in
        (suc found.0, omega (arith, found.1), bit_at-suc n found.0 ∙ found.2)
    by (suc zero) e l rest = (0, omega arith, bit_at_lowest n ∙ e)
    by (suc (suc b)) e l rest = absurd (omega (arith, l))

both_one : (x y : ℕ) → x < 2 → y < 2 → min x y ≡ 1 → (x ≡ 1) × (y ≡ 1)
both_one x y a b e = (omega (arith, e, a, b), omega (arith, e, a, b))

-- sets that share an element meet
module _ (a b : ℕ) (small : b < 2 ^ 32) (left right : ℕ → Bool) (is_left : (v : ℕ) → v < 32 →
    has_bit a v ≡ left v) (is_right : (v : ℕ) → v < 32 → has_bit b v ≡ right v) where
  shared : shares a b ≡ true → Meets left right
  shared h = (
    found.0,
    found.1,
    sym (is_left found.0 found.1) ∙ eq-eqb (bit_at a found.0) 1 ones.0,
    sym (is_right found.0 found.1) ∙ eq-eqb (bit_at b found.0) 1 ones.1,
  )
    where
      some : bit_and a b ≢ 0
      some e = by (bit_and a b == 0) (eq-eqb (bit_and a b) 0 e) h
        where
          by : (t : Bool) → t ≡ true → not t ≡ true → ⊥
          by true e h = true≢false (sym h)
          by false e h = true≢false (sym e)

      found : (i : ℕ) × (i < 32) × (bit_at (bit_and a b) i ≡ 1)
      found = some_bit 32 (bit_and a b) (omega (arith, and_le_r a b, small)) some

      ones : (bit_at a found.0 ≡ 1) × (bit_at b found.0 ≡ 1)
      ones = both_one (bit_at a found.0) (bit_at b found.0) (bit_at-lt a found.0) (bit_at-lt b found.0)
          (sym (bit_at_and a b found.0) ∙ found.2)

  unshared : shares a b ≡ false → Meets left right → ⊥
  unshared h m = by (bit_and a b == 0) refl h
    where
      one : bit_at (bit_and a b) m.0 ≡ 1
      one =
          let x : bit_at a m.0 ≡ 1 = eqb-true (bit_at a m.0) 1 (is_left m.0 m.1 ∙ m.2) in
          let y : bit_at b m.0 ≡ 1 = eqb-true (bit_at b m.0) 1 (is_right m.0 m.1 ∙ m.3) in
          bit_at_and a b m.0 ∙ omega (arith, x, y)

      by : (t : Bool) → (bit_and a b == 0) ≡ t → not t ≡ false → ⊥
      by true e h =
          let none : bit_at (bit_and a b) m.0 ≡ 0 = ap (λ n. bit_at n m.0) (eqb-true (bit_and a b) 0 e)
          ∙ bit_at-zero m.0 in
          omega (arith, none, one)
      by false e h = true≢false h

and_both : (b c : Bool) → b && c ≡ false → b ≡ true → c ≡ true → ⊥
and_both true c h e f = true≢false (sym f ∙ h)
and_both false c h e f = true≢false (sym e)

not_true : (b : Bool) → not b ≡ true → b ≡ false
not_true true h = absurd (true≢false (sym h))
not_true false h = refl

line_is : (part : Part) → is_line part ≡ true → part ≡ Line
line_is Line h = refl
line_is Tail h = absurd (true≢false (sym h))

line_true : (part : Part) → part ≡ Line → is_line part ≡ true
line_true Line h = refl
line_true Tail h = cc

module _ (x y : Member) (m n : Proc Ref) (first : IsEffects m x.effects) (second : IsEffects n y.effects)
    (small_first : x.effects.writes < 2 ^ 32) (small_second : y.effects.writes < 2 ^ 32) where
  tested_true : tests_written x y ≡ true → TestsWritten x.part m.form n.form
  tested_true h =
      let rest = and_right (is_line x.part) _ h in
      record {
        line = line_is x.part (and_left (is_line x.part) _ h);
        early = sym first.early ∙ and_left x.effects.has_early _ rest;
        meets = shared x.effects.tests y.effects.writes small_second (λ v. tests v m.form)
            (λ v. writes v n.form) first.tests second.writes (and_right x.effects.has_early _ rest);
      }

  tested_false : tests_written x y ≡ false → TestsWritten x.part m.form n.form → ⊥
  tested_false h t =
      and_both (is_line x.part) (x.effects.has_early && shares x.effects.tests y.effects.writes) h
      (line_true x.part t.line) (early_shares (shares x.effects.tests y.effects.writes) refl)
    where
      early_shares : (b : Bool) → shares x.effects.tests y.effects.writes ≡ b →
          x.effects.has_early && b ≡ true
      early_shares true e = ap (λ c. c && true) (first.early ∙ t.early)
      early_shares false e = absurd (unshared x.effects.tests y.effects.writes small_second
          (λ v. tests v m.form) (λ v. writes v n.form) first.tests second.writes e t.meets)

  late_true : may_be_late y ≡ true → MayBeLate y.part n.form
  late_true h = by y.part refl h
    where
      by : (part : Part) → y.part ≡ part → not (is_line part) || y.effects.has_late ≡ true →
          MayBeLate y.part n.form
      by Line e h = inr (sym second.late ∙ h)
      by Tail e h = inl e

  late_false : may_be_late y ≡ false → MayBeLate y.part n.form → ⊥
  late_false h (inl e) = true≢false (ap (λ part. not (is_line part) || y.effects.has_late) (sym e) ∙ h)
  late_false h (inr l) = by (not (is_line y.part)) h
    where
      by : (b : Bool) → b || y.effects.has_late ≡ false → ⊥
      by true h = true≢false h
      by false h = true≢false (sym (second.late ∙ l) ∙ h)

  apart_true : keeps_apart x y ≡ true → KeepsApart m.form n.form
  apart_true h =
      let rest = and_right (not (shares x.effects.writes y.effects.reads)) _ h in
      record {
        writes_reads = λ meets.
            unshared y.effects.reads x.effects.writes small_first (λ v. reads v n.form)
            (λ v. writes v m.form) second.reads first.writes
            (swap x.effects.writes y.effects.reads ∙ not_true (shares x.effects.writes y.effects.reads)
            (and_left (not (shares x.effects.writes y.effects.reads)) _ h)) (
              meets.0,
              meets.1,
              meets.3,
              meets.2,
            );
        writes_writes =
            unshared x.effects.writes y.effects.writes small_second (λ v. writes v m.form)
            (λ v. writes v n.form) first.writes second.writes
            (not_true (shares x.effects.writes y.effects.writes)
            (and_left (not (shares x.effects.writes y.effects.writes)) _ rest));
        reads_writes = λ meets.
            unshared x.effects.reads y.effects.writes small_second (λ v. reads v m.form)
            (λ v. writes v n.form) first.reads second.writes
            (swap y.effects.writes x.effects.reads ∙ not_true (shares y.effects.writes x.effects.reads)
            (and_right (not (shares x.effects.writes y.effects.writes)) _ rest)) (
              meets.0,
              meets.1,
              meets.3,
              meets.2,
            );
      }
    where
      swap : (a b : ℕ) → shares b a ≡ shares a b
      swap a b = ap (λ k. not (k == 0)) (and_comm b a)

  apart_false : keeps_apart x y ≡ false → KeepsApart m.form n.form → ⊥
  apart_false h k = true≢false (sym all ∙ h)
    where
      swap : (a b : ℕ) → shares b a ≡ shares a b
      swap a b = ap (λ k. not (k == 0)) (and_comm b a)

      apart : (a b : ℕ) → b < 2 ^ 32 → (left right : ℕ → Bool) → ((v : ℕ) → v < 32 → has_bit a v ≡ left v) →
          ((v : ℕ) → v < 32 → has_bit b v ≡ right v) → (Meets left right → ⊥) → shares a b ≡ false
      apart a b small left right is_left is_right none = by (shares a b) refl
        where
          by : (t : Bool) → shares a b ≡ t → shares a b ≡ false
          by true e = absurd (none (shared a b small left right is_left is_right e))
          by false e = e

      first_apart : shares x.effects.writes y.effects.reads ≡ false
      first_apart = sym (swap x.effects.writes y.effects.reads) ∙ apart y.effects.reads x.effects.writes
          small_first (λ v. reads v n.form) (λ v. writes v m.form) second.reads first.writes
          (λ meets. k.writes_reads (meets.0, meets.1, meets.3, meets.2))

      both_apart : shares x.effects.writes y.effects.writes ≡ false
      both_apart = apart x.effects.writes y.effects.writes small_second (λ v. writes v m.form)
          (λ v. writes v n.form) first.writes second.writes k.writes_writes

      last_apart : shares y.effects.writes x.effects.reads ≡ false
      last_apart = sym (swap y.effects.writes x.effects.reads) ∙ apart x.effects.reads y.effects.writes
          small_second (λ v. reads v m.form) (λ v. writes v n.form) first.reads second.writes
          (λ meets. k.reads_writes (meets.0, meets.1, meets.3, meets.2))

      all : keeps_apart x y ≡ true
      all =
          ap (λ b. not b && (not (shares x.effects.writes y.effects.writes) && not
          (shares y.effects.writes x.effects.reads))) first_apart
          ∙ (ap (λ b. not b && not (shares y.effects.writes x.effects.reads)) both_apart
          ∙ ap not last_apart)

  -- the level of two members is that of their procedures by the rule
  pub rule_is : (certified : Level) → IsRule x.part y.part m.form n.form certified (ruled x y certified)
  rule_is certified = by (tests_written x y) (may_be_late y) (keeps_apart x y) refl refl refl
    where
      by : (t l k : Bool) → tests_written x y ≡ t → may_be_late y ≡ l → keeps_apart x y ≡ k →
          IsRule x.part y.part m.form n.form certified (if t then Never else
          (if not l || k then Firm else certified))
      by true l k et el ek = Tested (tested_true et)
      by false false k et el ek = Free (tested_false et) (late_false el)
      by false true true et el ek = Apart (tested_false et) (late_true el) (apart_true ek)
      by false true false et el ek = Certified (tested_false et) (late_true el) (apart_false ek)
