-- A certificate that doesn't hold, and the first one of a program.
use Rattle.std.proofs.Common.{◌≡◌, ℕ, List, [], ◌∷◌, ◌++◌, Some, All, refl, sym, ap, ◌∙◌, subst, arith}
use Rattle.std.specs.List.{Contains}
use Rattle.std.proofs.lemmas.List.Elements.{All-head, All-tail, All-contains, Contains-append_right}
use Rattle.seuss_base.specs.declared.level.Level.{Level}
use Rattle.seuss_program.specs.declared.program.Program.{Program}
use Rattle.shape_terms.specs.Cases.{Pair}
use Rattle.commute_certs.specs.declared.verdict.Verdict.{Verdict}
use Rattle.commute_certs.specs.declared.verdict.Verdict.TheVariants.{Yes}
use Rattle.commute_certs.specs.Verdicts.{IsVerdict}
use Rattle.compat_matrix.specs.Certificates.{Written, written, Decided, HasYes, Fails, IsRefused}

-- what stands in one option is one
pub some_same : {X : Type 0} (x y : X) → Some x ≡ Some y → x ≡ y
some_same x y h = cc

-- what is decided of one certificate is decided of one pair of methods
pub not_both : (verdict other : Verdict) →
    ((pair : Pair) → IsVerdict pair verdict → IsVerdict pair other → ⊥) →
    (one : Written) → Decided one verdict → Decided one other → ⊥
not_both verdict other law one is also =
    let same : also.pair ≡ is.pair = some_same also.pair is.pair (sym also.about ∙ is.about) in
    law is.pair is.is (subst (λ (pair : Pair). IsVerdict pair other) same also.is)

-- a certificate of which something is decided that no level allows
pub fails : (verdict : Verdict) →
    ((pair : Pair) (level : Level) → IsVerdict pair (Yes level) → IsVerdict pair verdict → ⊥) →
    (one : Written) → Decided one verdict → Fails one one.1.1.line verdict
fails verdict law one decided = record {
  same_line = refl;
  decided = decided;
  never = λ held. not_both (Yes held.0) verdict (λ pair. law pair held.0) one held.1 decided;
}

-- the first one of a list that fails is one
first_failing : {X : Type 0} (P : X → Type 0) (before other : List X) (x y : X) (behind more : List X) →
    before ++ x ∷ behind ≡ other ++ y ∷ more → All P before → All P other → (P x → ⊥) → (P y → ⊥) → x ≡ y
first_failing P [] [] x y behind more same holds too fails never = cc
first_failing P [] (b ∷ other) x y behind more same holds too fails never =
    let is : b ≡ x = cc in
    absurd (fails (subst P is (All-head P b other too)))
first_failing P (a ∷ before) [] x y behind more same holds too fails never =
    let is : a ≡ y = cc in
    absurd (never (subst P is (All-head P a before holds)))
first_failing P (a ∷ before) (b ∷ other) x y behind more same holds too fails never =
    let rest : before ++ x ∷ behind ≡ other ++ y ∷ more = cc in
    first_failing P before other x y behind more rest (All-tail P a before holds)
    (All-tail P b other too) fails never

module _ (p : Program) (line : ℕ) (verdict : Verdict) (refused : IsRefused p line verdict) where
  -- where each certificate holds none is refused
  pub none_refused : All HasYes (written p) → ⊥
  none_refused hold = refused.fails.never (All-contains HasYes (written p) refused.one hold there)
    where
      there : Contains (written p) refused.one
      there = subst (λ ws. Contains ws refused.one) (sym refused.split)
          (Contains-append_right refused.before (refused.one ∷ refused.behind) refused.one
          (0, omega arith, refl))

  module _ (other : ℕ) (two : Verdict) (also : IsRefused p other two) where
    -- one certificate is refused
    same_one : refused.one ≡ also.one
    same_one = first_failing HasYes refused.before also.before refused.one also.one refused.behind
        also.behind (sym refused.split ∙ also.split) refused.earlier also.earlier
        refused.fails.never also.fails.never

    -- one line is refused
    pub one_line : line ≡ other
    one_line = sym refused.fails.same_line
        ∙ (ap (λ (one : Written). one.1.1.line) same_one ∙ also.fails.same_line)

    -- one kind of verdict is told
    pub one_kind : ((pair : Pair) → IsVerdict pair verdict → IsVerdict pair two → ⊥) → ⊥
    one_kind law = not_both verdict two law also.one
        (subst (λ (one : Written). Decided one verdict) same_one refused.fails.decided) also.fails.decided
