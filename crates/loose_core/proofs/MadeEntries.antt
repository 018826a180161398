-- Each entry was made from a frame of the code on variables of its box: by induction on the stamps.
use Rattle.std.proofs.Common.{◌≡◌, ℕ, zero, suc, ◌<◌, ◌≤◌, ◌⊎◌, inl, inr, List, [], ◌∷◌, ◌++◌, sym, subst}
use Rattle.std.proofs.Common.{ap, refl, length, slice_get, Some, None, arith, ◌∙◌, map}
use Rattle.std.proofs.lemmas.Bool.{cases_lt}
use Rattle.std.proofs.lemmas.List.{get_or_past}
use Rattle.seuss_program.specs.declared.program.Program.{Program}
use Rattle.seuss_program.specs.declared.state.Value.{Value}
use Rattle.seuss_program.specs.Programs.{vars_of}
use Rattle.method_code.specs.Codes.{compiled}
use Rattle.method_code.specs.Frames.{HasVars, IsFrame}
use Rattle.method_code.specs.Chains.{begun}
use Rattle.method_code.specs.Records.{ChainsTo}
use Rattle.step_journal.specs.Histories.{IsLegal}
use Rattle.loose_records.specs.declared.record.BoxEntry.{BoxEntry}
use Rattle.loose_records.specs.declared.record.Claim.{Claim}
use Rattle.loose_records.specs.declared.record.PassRecord.{PassRecord}
use Rattle.loose_records.specs.declared.record.Record.{Record}
use Rattle.loose_records.specs.Entries.{gives, journal}
use Rattle.loose_records.specs.Settings.{RunSetting, IsSetting}
use Rattle.loose_records.specs.LooseRecords.{IsPass, IsLoose}
use Rattle.loose_core.proofs.lists.Words.{RisesFrom, In}
use Rattle.loose_core.proofs.LowerLaws.{StepLaws, SchedLaws}
use Rattle.loose_core.proofs.lists.Places.{some_same, rising_from, rising_above}
use Rattle.loose_core.proofs.lists.Rising.{In-get, get-In, RisesFrom-above}
use Rattle.loose_core.proofs.ClaimedEntries.{entries_of, AllNamed, entry_of_claim, claim_of_entry}
use Rattle.loose_core.proofs.ClaimedEntries.{claims_ordered}
use Rattle.loose_core.proofs.ClaimedEntries.{steps_are}
use Rattle.loose_core.proofs.SafeSteps.{IsMade, keeps_vars, recorded}
use Rattle.loose_core.proofs.FramedSteps.{Found, framed}

-- a loose record in a setting, with the laws
pub record Facts (s : RunSetting) (r : Record) : Type 0 where
  pub setting : IsSetting s
  pub steps : StepLaws s.program
  pub sched : SchedLaws s.scheduler
  pub loose : IsLoose s r

-- the stamp of an entry, counted from 1
abbrev pub tick : BoxEntry → ℕ
tick e = suc e.stamp

-- the stamps of a pass rise from its start to its finish
pub pass_rises : (s : RunSetting) (r : Record) (p : PassRecord) (is : IsPass s r p) →
    RisesFrom (λ s. s) is.start (map (λ (x : Claim). x.stamp) p.claims ++ (is.finish ∷ []))
pass_rises s r p is =
    rising_from is.start (map (λ (x : Claim). x.stamp) p.claims ++ (is.finish ∷ [])) is.rising

-- the claims of a pass name entries
pub named_of : (s : RunSetting) (r : Record) (p : PassRecord) → IsPass s r p → AllNamed r p.claims
named_of s r p is k x h = let n = is.claims k x h in (n.entry, n.there)

-- the entries of a pass chain from its beginning to its end
pub pass_chain : (s : RunSetting) (r : Record) (p : PassRecord) (is : IsPass s r p) →
    ChainsTo s.program (begun s.program is.action) s.budget (map recorded (entries_of r p)) p.end
pass_chain s r p is =
    subst (λ es. ChainsTo s.program (begun s.program is.action) s.budget es p.end) (steps_are r p.claims)
    is.chain

-- a journal past the last box is empty
pub journal_past : (r : Record) (b : ℕ) → length r.boxes ≤ b → journal r b ≡ []
journal_past r b h = get_or_past r.boxes b [] h

-- what stands in the journal of a box is on a box of the record
pub journal_within : (r : Record) (b k : ℕ) (e : BoxEntry) → slice_get (journal r b) k ≡ Some e →
    b < length r.boxes
journal_within r b k e h = go (cases_lt b (length r.boxes))
  where
    go : (b < length r.boxes) ⊎ (length r.boxes ≤ b) → b < length r.boxes
    go (inl l) = l
    go (inr l) =
        let z : None ≡ Some e = subst (λ es. slice_get es k ≡ Some e) (journal_past r b l) h in cc z

-- the variables before an entry, where the entries with lower stamps are from frames of the code
state_at : (p : Program) → StepLaws p →
    (b : ℕ) (v w : List Value) (s : ℕ) (es : List BoxEntry) (e : BoxEntry) → HasVars p b v →
    IsLegal (gives (compiled p) b) v es w → RisesFrom tick s es → ((y : BoxEntry) → In y es →
    y.stamp < e.stamp → IsFrame p b y.before) →
    In e es → Found p (b, e)
state_at p laws b v w s [] e vars legal rises frames i = absurd i
state_at p laws b v w s (f ∷ es) e vars legal rises frames (inl same) =
    (v, legal.0, vars, subst (λ (f : BoxEntry). gives (compiled p) b f v legal.0) (sym same) legal.1)
state_at p laws b v w s (f ∷ es) e vars legal rises frames (inr i) =
    let lower : suc f.stamp < suc e.stamp = RisesFrom-above tick (suc f.stamp) es rises.1 e i in
    state_at p laws b legal.0 w (suc f.stamp) es e
    (keeps_vars p laws b f v legal.0 (frames f (inl refl) (omega (arith, lower))) vars legal.1) legal.2
    rises.1 (λ y j k. frames y (inr j) k) i

module _ (s : RunSetting) (r : Record) (g : Facts s r) where
  -- the stamps of the journal of a box rise
  pub box_rises : (b : ℕ) → RisesFrom tick 0 (journal r b)
  box_rises b = go (cases_lt b (length r.boxes))
    where
      go : (b < length r.boxes) ⊎ (length r.boxes ≤ b) → RisesFrom tick 0 (journal r b)
      go (inl l) =
          rising_above (λ (e : BoxEntry). e.stamp) 0 (journal r b) (λ x k e. omega arith)
          (g.loose.stamps b l).rising
      go (inr l) = subst (RisesFrom tick 0) (sym (journal_past r b l)) tt

  -- each entry with a lower stamp is made on variables of its box
  abbrev pub Below : ℕ → Type 0
  Below n = (b : ℕ) (e : BoxEntry) → In e (journal r b) → e.stamp < n → IsMade s.program (b, e)

  -- where an entry stands: its pass, and its place there
  pub record Standing (b : ℕ) (e : BoxEntry) : Type 0 where
    pub pass : PassRecord
    pub at_pass : slice_get r.passes e.pass ≡ Some pass
    pub is : IsPass s r pass
    pub claim : Claim
    pub at_claim : slice_get pass.claims e.number ≡ Some claim
    pub stamp : claim.stamp ≡ e.stamp
    pub at_entry : slice_get (entries_of r pass) e.number ≡ Some (b, e)

  -- each entry stands so
  pub standing : (b : ℕ) (e : BoxEntry) → In e (journal r b) → Standing b e
  standing b e i =
      let j = In-get e (journal r b) i in
      let k = g.loose.claimed b j.0 e j.1 in
      let is = g.loose.passes e.pass k.pass k.there in
      let at_journal : slice_get (journal r k.claim.box_number) k.claim.place ≡ Some e =
      subst (λ q. slice_get (journal r k.claim.box_number) q ≡ Some e) (sym k.at)
      (subst (λ q. slice_get (journal r q) j.0 ≡ Some e) (sym k.on) j.1) in
      let own = is.claims e.number k.claim k.here in
      let same : own.entry ≡ e =
      some_same own.entry e (slice_get (journal r k.claim.box_number) k.claim.place) own.there at_journal in
      record {
        pass = k.pass;
        at_pass = k.there;
        is = is;
        claim = k.claim;
        at_claim = k.here;
        stamp = sym own.when ∙ ap (λ (e : BoxEntry). e.stamp) same;
        at_entry = subst (λ q. slice_get (entries_of r k.pass) e.number ≡ Some (q, e)) k.on
            (entry_of_claim r k.pass.claims (named_of s r k.pass is) e.number k.claim e k.here at_journal);
      }

  -- an entry of a pass stands in the journal of its box, with the stamp of its claim
  pub entry_stands : (p : PassRecord) (is : IsPass s r p) (k : ℕ) (y : ℕ × BoxEntry) →
      slice_get (entries_of r p) k ≡ Some y →
      (x : Claim) × (slice_get p.claims k ≡ Some x) × In y.1 (journal r y.0) × (y.1.stamp ≡ x.stamp)
  entry_stands p is k y at_y =
      let x = claim_of_entry r p.claims (named_of s r p is) k y at_y in
      let o = is.claims k x.0 x.1 in
      let at_box : slice_get (journal r y.0) x.0.place ≡ Some y.1 =
      subst (λ b. slice_get (journal r b) x.0.place ≡ Some y.1) (sym x.2) x.3 in (
        x.0,
        x.1,
        get-In y.1 (journal r y.0) x.0.place at_box,
        sym (ap (λ (e : BoxEntry). e.stamp) (some_same o.entry y.1 (slice_get (journal r x.0.box_number)
            x.0.place) o.there x.3)) ∙ o.when,
      )

  -- the variables before an entry, where those with lower stamps are made
  found_at : (n b : ℕ) (e : BoxEntry) → In e (journal r b) → e.stamp < suc n → Below n →
      Found s.program (b, e)
  found_at n b e i h below =
      let j = In-get e (journal r b) i in
      let l = journal_within r b j.0 e j.1 in
      state_at s.program g.steps b (vars_of r.first b) (vars_of r.last b) 0 (journal r b) e
      (g.loose.first.values b (omega (arith, l, g.loose.many, g.loose.first.count))) (g.loose.legal b l)
      (box_rises b)
      (λ y q k. (below b y q (omega (arith, h, k))).2.1) i

  -- the same of each number, by induction
  made_below : (n : ℕ) → Below n
  made_below zero b e i h = absurd (omega arith)
  made_below (suc n) b e i h = go (made_below n)
    where
      go : Below n → IsMade s.program (b, e)
      go below =
          let at = standing b e i in
          let f = found_at n b e i h below in
          let frame = framed s.program g.steps at.is.action (g.steps.is_action at.pass.ticket.action
          at.is.action at.is.there) s.budget (entries_of r at.pass) at.pass.end
          (pass_chain s r at.pass at.is) e.number (b, e) at.at_entry (λ j y l at_y. earlier at j y l
          at_y (cases_lt j e.number)) in
          (record { values = f.0 }, record { values = f.1 }, (f.2, frame, f.3))
        where
          earlier : (at : Standing b e) (j : ℕ) (y : ℕ × BoxEntry) → j ≤ e.number →
              slice_get (entries_of r at.pass) j ≡ Some y → (j < e.number) ⊎ (e.number ≤ j) →
              Found s.program y
          earlier at j y l at_y (inl lt) =
              let o = entry_stands at.pass at.is j y at_y in
              let lower : o.0.stamp < at.claim.stamp =
              claims_ordered at.pass.claims at.is.start at.is.finish (pass_rises s r at.pass at.is) j
              e.number o.0 at.claim lt o.1 at.at_claim in
              let m = below y.0 y.1 o.2 (omega (arith, h, lower, o.3, at.stamp)) in
              (m.0.values, m.1.values, m.2.0, m.2.2)
          earlier at j y l at_y (inr ge) =
              let jk : j ≡ e.number = omega arith in
              let same : (b, e) ≡ y = some_same (b, e) y (slice_get (entries_of r at.pass) e.number)
              at.at_entry (subst (λ j. slice_get (entries_of r at.pass) j ≡ Some y) jk at_y) in
              subst (Found s.program) same (found_at n b e i h below)

  -- each entry of a loose record is made on variables of its box, from a frame of the code
  pub all_made : (b : ℕ) (e : BoxEntry) → In e (journal r b) → IsMade s.program (b, e)
  all_made b e i = made_below (suc e.stamp) b e i (omega arith)
