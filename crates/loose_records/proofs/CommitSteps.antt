-- The commit step of a pass whose steps are over.
use Rattle.std.proofs.Common.{◌≡◌, ℕ, zero, suc, ◌<◌, ◌≤◌, ◌⊎◌, inl, inr, Bool, true, false, List, [], ◌∷◌}
use Rattle.std.proofs.Common.{◌++◌, sym, subst, ap, refl, length, slice_get, Some, None, arith, ◌∙◌, map}
use Rattle.std.proofs.Common.{replicate}
use Rattle.std.specs.Prelude.{option_map}
use Rattle.std.specs.List.{filter_map}
use Rattle.std.proofs.lemmas.Bool.{cases_lt}
use Rattle.std.proofs.lemmas.List.{get_or_past}
use Rattle.std.proofs.lemmas.Option.{slice_get-map}
use Rattle.seuss_base.specs.declared.outcome.PassEnd.{PassEnd}
use Rattle.seuss_program.specs.declared.program.Program.{Program}
use Rattle.seuss_program.specs.declared.program.ActionInfo.{ActionInfo}
use Rattle.seuss_program.specs.declared.state.Value.{Value}
use Rattle.seuss_program.specs.Programs.{vars_of}
use Rattle.method_code.specs.declared.activation.Activation.{Activation}
use Rattle.method_code.specs.Codes.{compiled}
use Rattle.method_code.specs.Steps.{Stepped}
use Rattle.method_code.specs.Chains.{begun}
use Rattle.method_code.specs.Kinds.{Kind, Early, Commit, Late, kind_by, kind_of, is_late, calls_early}
use Rattle.method_code.specs.Kinds.{IsAction, steps_made, pass_end, kinds_of, IsInOrder}
use Rattle.method_code.specs.Records.{Recorded, does, ChainsTo, AreMade, made_of}
use Rattle.compat_scheduler.specs.Machines.{Machine}
use Rattle.step_journal.specs.Histories.{IsLegal}
use Rattle.loose_records.specs.declared.record.BoxEntry.{BoxEntry}
use Rattle.loose_records.specs.declared.record.Claim.{Claim}
use Rattle.loose_records.specs.declared.record.PassRecord.{PassRecord}
use Rattle.loose_records.specs.declared.record.Record.{Record}
use Rattle.loose_records.specs.Entries.{gives, journal, claimed, steps_of}
use Rattle.loose_records.specs.Settings.{RunSetting}
use Rattle.loose_records.specs.Growing.{Status, Through, IsOpenPass, IsGrowing, CommitsAt}

-- an entry of a legal history was made from some variables
legal_at : {E V : Type 0} (does : E → V → V → Type 0) (v w : V) (es : List E) → IsLegal does v es w →
    (k : ℕ) (e : E) → slice_get es k ≡ Some e → (u : V) × (z : V) × does e u z
legal_at does v w [] legal k e h = cc h
legal_at {E} does v w (f ∷ es) legal zero e h =
    let q : f ≡ e = cc h in (v, legal.0, subst (λ (e : E). does e v legal.0) q legal.1)
legal_at does v w (f ∷ es) legal (suc k) e h = legal_at does legal.0 w es legal.2 k e h

-- the kind of a recorded step
abbrev pub kind_in : Program → Recorded → Kind
kind_in p e = kind_of (compiled p) e.before e.end

-- the kinds of steps that are made are those of the recorded ones
kinds_are : (p : Program) (es : List Recorded) (row : List (List Value)) → AreMade (compiled p) es row →
    kinds_of (compiled p) (made_of p es row) ≡ map (kind_in p) es
kinds_are p [] row m = refl
kinds_are p (x ∷ xs) [] m = absurd m
kinds_are p (x ∷ xs) (v ∷ row) m =
    ap (λ (s : Stepped). kind_of (compiled p) x.before s.end ∷ kinds_of (compiled p) (made_of p xs row))
    m.0.1
    ∙ ap (λ (ks : List Kind). kind_in p x ∷ ks) (kinds_are p xs row m.1)

-- so many early steps, the commit step, so many late ones
abbrev phased : ℕ → ℕ → List Kind
phased early late = replicate early Early ++ Commit ∷ replicate late Late

-- the commit step stands after the early ones
at_early : (early late : ℕ) → slice_get (phased early late) early ≡ Some Commit
at_early zero late = refl
at_early (suc n) late = at_early n late

-- before it all are early
before_early : (early late k : ℕ) → k < early → slice_get (phased early late) k ≡ Some Early
before_early zero late k h = absurd (omega arith)
before_early (suc n) late zero h = refl
before_early (suc n) late (suc k) h = before_early n late k (omega arith)

-- none of the late ones is a commit step
all_late : (n k : ℕ) → slice_get (replicate n Late) k ≡ Some Commit → ⊥
all_late zero k h = cc h
all_late (suc n) zero h = cc h
all_late (suc n) (suc k) h = all_late n k h

-- there is one commit step
only_commit : (early late k : ℕ) → slice_get (phased early late) k ≡ Some Commit → k ≡ early
only_commit zero late zero e = refl
only_commit zero late (suc k) e = absurd (all_late late k e)
only_commit (suc n) late zero e = cc e
only_commit (suc n) late (suc k) e = ap suc (only_commit n late k e)

-- an early step calls a preprocedure
early_calls : (late calls : Bool) → kind_by late calls ≡ Early → calls ≡ true
early_calls true calls h = cc h
early_calls false true h = refl
early_calls false false h = cc h

-- a commit step does not
commit_calls : (late calls : Bool) → kind_by late calls ≡ Commit → calls ≡ false
commit_calls true calls h = cc h
commit_calls false true h = cc h
commit_calls false false h = refl

-- the laws of compiled code that are used
pub record PassLaws (p : Program) : Type 0 where
  pub in_order : (a : ActionInfo) (row : List (List Value)) (budget : ℕ) (end : PassEnd) → IsAction p a →
      pass_end p row (begun p a) budget ≡ Some end →
      IsInOrder (kinds_of (compiled p) (steps_made p row (begun p a) budget))
  pub is_action : (number : ℕ) (a : ActionInfo) → slice_get p.actions number ≡ Some a → IsAction p a
  pub ended : (a : Activation) (budget : ℕ) (es : List Recorded) (row : List (List Value)) (end : PassEnd) →
      ChainsTo p a budget es end → AreMade (compiled p) es row → pass_end p row a budget ≡ Some end
  pub made : (a : Activation) (budget : ℕ) (es : List Recorded) (row : List (List Value)) (end : PassEnd) →
      ChainsTo p a budget es end → AreMade (compiled p) es row →
      steps_made p row a budget ≡ made_of p es row

module _ (s : RunSetting) (r : Record) (statuses : List Status) (m : Machine)
    (g : IsGrowing s r statuses m) where
  -- the entry of a claim was made from some variables
  made_at : (c : Claim) (e : BoxEntry) → slice_get (journal r c.box_number) c.place ≡ Some e →
      (v : List Value) × (w : List Value) × gives (compiled s.program) c.box_number e v w
  made_at c e h = go (cases_lt c.box_number (length r.boxes))
    where
      go : (c.box_number < length r.boxes) ⊎ (length r.boxes ≤ c.box_number) →
          (v : List Value) × (w : List Value) × gives (compiled s.program) c.box_number e v w
      go (inl l) =
          legal_at (gives (compiled s.program) c.box_number) (vars_of r.first c.box_number)
          (vars_of r.last c.box_number) (journal r c.box_number) (g.legal c.box_number l) c.place e h
      go (inr l) =
          let z : None ≡ Some e = subst (λ (es : List BoxEntry). slice_get es c.place ≡ Some e)
          (get_or_past r.boxes c.box_number [] l) h in cc z

  -- variables from which the steps of claims are made
  pub row_of : (cs : List Claim) → ((k : ℕ) (c : Claim) → slice_get cs k ≡ Some c →
      (e : BoxEntry) × (slice_get (journal r c.box_number) c.place ≡ Some e)) →
      (row : List (List Value)) × AreMade (compiled s.program) (filter_map (claimed r) cs) row
  row_of [] named = ([], tt)
  row_of (c ∷ cs) named =
      let n = named 0 c refl in
      let v = made_at c n.0 n.1 in
      let rest = row_of cs (λ k. named (suc k)) in
      (v.0 ∷ rest.0, rw n.1 ((v.1, v.2), rest.1))

  -- a pass whose steps are over has a commit step
  pub commits : PassLaws s.program → (i : ℕ) (pass : PassRecord) (end : PassEnd) →
      slice_get r.passes i ≡ Some pass → slice_get statuses i ≡ Some (Through end) → CommitsAt s r pass
  commits laws i pass end at status =
      let is : IsOpenPass s r pass (Through end) = g.passes i pass (Through end) at status in
      let row = row_of pass.claims (λ k c h. let n = is.claims k c h in (n.entry, n.there)) in
      let over = laws.ended (begun s.program is.action) s.budget (steps_of r pass) row.0 end is.comes row.1 in
      let same = laws.made (begun s.program is.action) s.budget (steps_of r pass) row.0 end is.comes row.1 in
      let o = laws.in_order is.action row.0 s.budget end
      (laws.is_action pass.ticket.action is.action is.there) over in
      let kinds : map (kind_in s.program) (steps_of r pass) ≡ phased o.0 o.1 =
      sym (kinds_are s.program (steps_of r pass) row.0 row.1) ∙ (ap (kinds_of (compiled s.program))
      (sym same) ∙ o.2) in
      let place : (k : ℕ) → option_map (kind_in s.program) (slice_get (steps_of r pass) k)
      ≡ slice_get (phased o.0 o.1) k =
      λ k. sym (slice_get-map (kind_in s.program) (steps_of r pass) k)
      ∙ ap (λ (ks : List Kind). slice_get ks k) kinds in
      record {
        commit = o.0;
        committed = place o.0 ∙ at_early o.0 o.1;
        earlier = λ k e h f. early_calls (is_late (compiled s.program) e.before) (calls_early e.end)
            (got (kind_in s.program e) Early (sym (ap (option_map (kind_in s.program)) f)
            ∙ (place k ∙ before_early o.0 o.1 k h)));
        here = λ e f. commit_calls (is_late (compiled s.program) e.before) (calls_early e.end)
            (got (kind_in s.program e) Commit (sym (ap (option_map (kind_in s.program)) f)
            ∙ (place o.0 ∙ at_early o.0 o.1)));
        only = λ k h. only_commit o.0 o.1 k (sym (place k) ∙ h);
      }
    where
      got : (a b : Kind) → Some a ≡ Some b → a ≡ b
      got a b h = cc h
