-- The number of the commit step of a pass.
use Rattle.std.proofs.Common.{◌≡◌, ℕ, ◌<◌, ◌≤◌, ◌⊎◌, inl, inr, Bool, true, false, sym, ap, subst}
use Rattle.std.proofs.Common.{length, slice_get, Some, None, arith, ◌∙◌, refl}
use Rattle.std.specs.Prelude.{option_map, Option}
use Rattle.std.proofs.lemmas.Bool.{cases_lt}
use Rattle.std.proofs.lemmas.Option.{slice_get_within}
use Rattle.method_code.specs.Codes.{compiled}
use Rattle.method_code.specs.Kinds.{Commit, kind_of, calls_early}
use Rattle.method_code.specs.Records.{Recorded}
use Rattle.loose_records.specs.declared.record.Claim.{Claim}
use Rattle.loose_records.specs.declared.record.PassRecord.{PassRecord}
use Rattle.loose_records.specs.declared.record.Record.{Record}
use Rattle.loose_records.specs.Entries.{claimed, step_of, steps_of}
use Rattle.loose_records.specs.Settings.{RunSetting}
use Rattle.loose_records.specs.LooseRecords.{IsCommitStep}
use Rattle.loose_records.specs.Growing.{CommitsAt}
use Rattle.turn_runs.specs.Hands.{IsFirstOther}
use Rattle.turn_runs.proofs.ListLemmas.{at-within}
use Rattle.turn_runs.proofs.PassLengths.{AreNamed, steps_length, step_at}

module _ (s : RunSetting) (r : Record) (pass : PassRecord) (named : AreNamed r pass.claims) (number : ℕ)
    (first : IsFirstOther r pass.claims number) (c : CommitsAt s r pass) where
  -- what has a kind is there
  some_of : (o : Option Recorded) →
      option_map (λ (e : Recorded). kind_of (compiled s.program) e.before e.end) o ≡ Some Commit →
      (e : Recorded) × (o ≡ Some e)
  some_of None h = cc h
  some_of (Some e) h = (e, refl)

  -- a call isn't both
  clash : {X : Type 0} (b : Bool) → b ≡ true → b ≡ false → X
  clash b p q = cc (p, q)

  -- the step of a claim
  named_step : (k : ℕ) → k < length pass.claims → (x : Claim) × (e : Recorded)
      × (slice_get pass.claims k ≡ Some x) × (claimed r x ≡ Some e)
      × (slice_get (steps_of r pass) k ≡ Some e)
  named_step k within =
      let x = at-within pass.claims k within in
      let n = named k x.0 x.1 in
      let is : claimed r x.0 ≡ Some (step_of x.0.box_number n.0) = ap (option_map (step_of x.0.box_number)) n.1
      in
      (x.0, step_of x.0.box_number n.0, x.1, is, step_at r pass.claims named k x.0 x.1 ∙ is)

  -- the first step that doesn't end by the call of a preprocedure is the commit step
  pub number_is : number ≡ c.commit
  number_is =
      let e = some_of (slice_get (steps_of r pass) c.commit) c.committed in
      let within = slice_get_within (steps_of r pass) c.commit e.0 e.1 in
      let many = steps_length r pass.claims named in
      go (cases_lt number c.commit) (cases_lt c.commit number) (omega (arith, within, many))
    where
      low : number < c.commit → c.commit < length pass.claims → number ≡ c.commit
      low l within =
          let n = named_step number (omega (arith, l, within)) in
          clash (calls_early n.1.end) (c.earlier number n.1 l n.4) (first.here n.0 n.1 n.2 n.3)

      high : c.commit < number → c.commit < length pass.claims → number ≡ c.commit
      high l within =
          let n = named_step c.commit within in
          clash (calls_early n.1.end) (first.earlier c.commit n.0 n.1 l n.2 n.3) (c.here n.1 n.4)

      go : (number < c.commit) ⊎ (c.commit ≤ number) → (c.commit < number) ⊎ (number ≤ c.commit) →
          c.commit < length pass.claims → number ≡ c.commit
      go (inl l) q within = low l within
      go (inr l) (inl q) within = high q within
      go (inr l) (inr q) within = omega (arith, l, q)

  -- so it is a commit step
  pub is_commit : IsCommitStep s (steps_of r pass) number
  is_commit = subst (IsCommitStep s (steps_of r pass)) (sym number_is) c.committed
