-- The certificates of a program hold, or are refused in one way.
use Rattle.std.proofs.Common.{◌≡◌, ℕ, List, refl, sym, ap, ◌∙◌}
use Rattle.std.specs.Prelude.{Ok, Err}
use Rattle.seuss_program.specs.declared.program.Program.{Program}
use Rattle.seuss_program.specs.declared.state.Value.{Value}
use Rattle.seuss_program.specs.declared.state.Vars.{Vars}
use Rattle.commute_certs.specs.declared.why.Why.{Why}
use Rattle.commute_certs.specs.declared.verdict.Verdict.{Verdict}
use Rattle.commute_certs.specs.declared.verdict.Verdict.TheVariants as V
use Rattle.compat_matrix.specs.Certificates.{AllHold, IsRefused}
use Rattle.report_text.specs.declared.refusals.Refused.{Refused}
use Rattle.report_text.specs.declared.refusals.Refused.TheVariants as R
use Rattle.seuss_run.specs.Stages.{IsOne}
use Rattle.seuss_run.specs.Verdicts.{is_certified, IsCertificateFault}

-- the faults of certificates: one that fails from a state, or one that isn't told
data IsFault (p : Program) (why : Refused) : Type 0 where
  fails : (line : ℕ) (vars : Vars) (first second : List Value) → IsRefused p line (V.No vars first second) →
      why ≡ R.CertificateNo line → IsFault p why
  unclear : (line : ℕ) (cause : Why) → IsRefused p line (V.Unclear cause) →
      why ≡ R.CertificateUnclear line → IsFault p why

-- a refusal for the certificates is one of these faults
fault_of : (p : Program) (why : Refused) → IsCertificateFault p why → IsFault p why
fault_of p R.Long fault = absurd fault
fault_of p (R.Byte n) fault = absurd fault
fault_of p (R.Range n) fault = absurd fault
fault_of p (R.Syntax n) fault = absurd fault
fault_of p (R.Nesting n) fault = absurd fault
fault_of p (R.Twice n) fault = absurd fault
fault_of p (R.Unknown n) fault = absurd fault
fault_of p (R.WrongKind n) fault = absurd fault
fault_of p (R.WrongType n) fault = absurd fault
fault_of p (R.Arguments n) fault = absurd fault
fault_of p (R.Count n) fault = absurd fault
fault_of p (R.PartialCall n) fault = absurd fault
fault_of p (R.TotalCall n) fault = absurd fault
fault_of p (R.Cycle n) fault = absurd fault
fault_of p (R.Input n) fault = absurd fault
fault_of p (R.Property n) fault = absurd fault
fault_of p (R.CertificateNo n) (vars, first, second, refused) = fails n vars first second refused refl
fault_of p (R.CertificateUnclear n) (cause, refused) = unclear n cause refused refl
fault_of p R.Attempts fault = absurd fault
fault_of p R.Action fault = absurd fault

-- what `compat_matrix` says of certificates that are refused
pub record OneRefusal : Type 0 where
  pub none : (p : Program) (line : ℕ) (verdict : Verdict) → AllHold p → IsRefused p line verdict → ⊥
  pub line : (p : Program) (line other : ℕ) (verdict two : Verdict) →
      IsRefused p line verdict → IsRefused p other two → line ≡ other
  pub kind : (p : Program) (line other : ℕ) (vars : Vars) (first second : List Value) (why : Why) →
      IsRefused p line (V.No vars first second) → IsRefused p other (V.Unclear why) → ⊥

module _ (law : OneRefusal) where
  -- where all certificates hold, none is refused
  no_fault : (p : Program) (why : Refused) → AllHold p → IsFault p why → ⊥
  no_fault p why hold (fails line vars first second refused is) =
      law.none p line (V.No vars first second) hold refused
  no_fault p why hold (unclear line cause refused is) = law.none p line (V.Unclear cause) hold refused

  -- certificates are refused for one reason
  one_fault : (p : Program) (why other : Refused) → IsFault p why → IsFault p other → why ≡ other
  one_fault p why other (fails line vars first second refused is) (fails n ws xs ys refused' is') =
      let same = law.line p line n (V.No vars first second) (V.No ws xs ys) refused refused' in
      is ∙ ap R.CertificateNo same ∙ sym is'
  one_fault p why other (fails line vars first second refused is) (unclear n cause refused' is') =
      absurd (law.kind p line n vars first second cause refused refused')
  one_fault p why other (unclear line cause refused is) (fails n vars first second refused' is') =
      absurd (law.kind p n line vars first second cause refused' refused)
  one_fault p why other (unclear line cause refused is) (unclear n cause' refused' is') =
      let same = law.line p line n (V.Unclear cause) (V.Unclear cause') refused refused' in
      is ∙ ap R.CertificateUnclear same ∙ sym is'

  -- the certificates of a program hold, or one reason is given
  pub one_certified : IsOne is_certified
  one_certified p (Ok a) (Ok b) (is, hold) (is', hold') = ap Ok (is ∙ sym is')
  one_certified p (Ok a) (Err why) (is, hold) fault = absurd (no_fault p why hold (fault_of p why fault))
  one_certified p (Err why) (Ok a) fault (is, hold) = absurd (no_fault p why hold (fault_of p why fault))
  one_certified p (Err why) (Err other) fault again =
      ap Err (one_fault p why other (fault_of p why fault) (fault_of p other again))
