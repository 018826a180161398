-- A text lists the properties of a program in one way.
use Rattle.std.proofs.Common.{◌≡◌, ℕ, ◌≤◌, List, length, refl, sym, ap, ◌∙◌}
use Rattle.std.specs.Prelude.{Result, Ok, Err}
use Rattle.seuss_text.specs.Limits.{IsTooLong, max_text}
use Rattle.seuss_program.specs.declared.program.Program.{Program}
use Rattle.safety_check.specs.declared.property.Property.{Property}
use Rattle.safety_texts.specs.declared.refusal.PropertyRefusal.{PropertyRefusal}
use Rattle.safety_texts.specs.declared.refusal.PropertyRefusal.TheVariants as P
use Rattle.safety_texts.specs.Verdicts.{IsBad, IsAnswered, IsVerdict}
use Rattle.report_text.specs.declared.refusals.Refused.{Refused}
use Rattle.report_text.specs.declared.refusals.Refused.TheVariants as R
use Rattle.seuss_run.specs.PropertyLists.{IsPropertyFault, has_properties}
use Rattle.seuss_run.specs.Stages.{IsOne}

-- the faults of a list of properties: the length of its text, or the line of the first one
data IsFault (p : Program) (text : List ℕ) (why : Refused) : Type 0 where
  too_long : IsTooLong text → why ≡ R.Long → IsFault p text why
  bad : (line : ℕ) → length text ≤ max_text → IsBad p text line → why ≡ R.Property line → IsFault p text why

-- a refusal for the properties is one of these faults
fault_of : (p : Program) (text : List ℕ) (why : Refused) → IsPropertyFault p text why → IsFault p text why
fault_of p text R.Long fault = too_long fault refl
fault_of p text (R.Byte n) fault = absurd fault
fault_of p text (R.Range n) fault = absurd fault
fault_of p text (R.Syntax n) fault = absurd fault
fault_of p text (R.Nesting n) fault = absurd fault
fault_of p text (R.Twice n) fault = absurd fault
fault_of p text (R.Unknown n) fault = absurd fault
fault_of p text (R.WrongKind n) fault = absurd fault
fault_of p text (R.WrongType n) fault = absurd fault
fault_of p text (R.Arguments n) fault = absurd fault
fault_of p text (R.Count n) fault = absurd fault
fault_of p text (R.PartialCall n) fault = absurd fault
fault_of p text (R.TotalCall n) fault = absurd fault
fault_of p text (R.Cycle n) fault = absurd fault
fault_of p text (R.Input n) fault = absurd fault
fault_of p text (R.Property n) (within, is) = bad n within is refl
fault_of p text (R.CertificateNo n) fault = absurd fault
fault_of p text (R.CertificateUnclear n) fault = absurd fault
fault_of p text R.Attempts fault = absurd fault
fault_of p text R.Action fault = absurd fault

-- what `safety_texts` says of the answers to a text
abbrev pub OneList : Type 0
OneList = (p : Program) (text : List ℕ) (one other : Result (List Property) PropertyRefusal) →
    IsVerdict p text one → IsVerdict p text other → IsAnswered one → IsAnswered other → one ≡ other

module _ (law : OneList) where
  -- a text has one first fault
  one_fault : (p : Program) (text : List ℕ) (why other : Refused) → IsFault p text why →
      IsFault p text other → why ≡ other
  one_fault p text why other (too_long long is) (too_long long' is') = is ∙ sym is'
  one_fault p text why other (too_long long is) (bad n within fault is') =
      absurd (cc (law p text (Err P.TooLong) (Err (P.Bad n)) long (within, fault) tt tt))
  one_fault p text why other (bad m within fault is) (too_long long is') =
      absurd (cc (law p text (Err (P.Bad m)) (Err P.TooLong) (within, fault) long tt tt))
  one_fault p text why other (bad m within fault is) (bad n within' fault' is') =
      let same : m ≡ n =
      cc (law p text (Err (P.Bad m)) (Err (P.Bad n)) (within, fault) (within', fault') tt tt) in
      is ∙ (ap R.Property same ∙ sym is')

  -- a list of properties has no fault
  no_fault : (p : Program) (text : List ℕ) (properties : List Property) (why : Refused) →
      IsVerdict p text (Ok properties) → IsFault p text why → ⊥
  no_fault p text properties why are (too_long long is) =
      cc (law p text (Ok properties) (Err P.TooLong) are long tt tt)
  no_fault p text properties why are (bad n within fault is) =
      cc (law p text (Ok properties) (Err (P.Bad n)) are (within, fault) tt tt)

  -- a text lists its properties, or has one first fault
  pub one_properties : IsOne has_properties
  one_properties given (Ok (p, xs)) (Ok (q, ys)) (is, short, are) (is', short', are') =
      let programs : p ≡ q = is ∙ sym is' in
      let lists : xs ≡ ys = cc (law given.0 given.1 (Ok xs) (Ok ys) (short, are) (short', are') tt tt) in
      cc (programs, lists)
  one_properties given (Ok (p, xs)) (Err why) (is, short, are) fault =
      absurd (no_fault given.0 given.1 xs why (short, are) (fault_of given.0 given.1 why fault))
  one_properties given (Err why) (Ok (p, xs)) fault (is, short, are) =
      absurd (no_fault given.0 given.1 xs why (short, are) (fault_of given.0 given.1 why fault))
  one_properties given (Err why) (Err cause) fault again =
      ap Err (one_fault given.0 given.1 why cause (fault_of given.0 given.1 why fault)
      (fault_of given.0 given.1 cause again))
