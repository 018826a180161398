-- How many steps an open pass has.
use Rattle.std.proofs.Common.{◌≡◌, ℕ, zero, suc, ◌<◌, ◌≤◌, ◌⊎◌, inl, inr, List, [], ◌∷◌, sym, ap, refl}
use Rattle.std.proofs.Common.{length, slice_get, Some, None, arith, ◌∙◌, subst}
use Rattle.std.specs.List.{filter_map}
use Rattle.std.proofs.lemmas.Bool.{cases_lt}
use Rattle.std.proofs.lemmas.List.{get_or_past}
use Rattle.seuss_base.specs.declared.outcome.PassEnd.{PassEnd}
use Rattle.seuss_program.specs.declared.program.Program.{Program}
use Rattle.seuss_program.specs.declared.program.ActionInfo.{ActionInfo}
use Rattle.seuss_program.specs.declared.state.Value.{Value}
use Rattle.seuss_program.specs.Programs.{vars_of}
use Rattle.method_code.specs.declared.frame.Frame.{Frame}
use Rattle.method_code.specs.declared.activation.Activation.{Activation}
use Rattle.method_code.specs.Codes.{compiled}
use Rattle.method_code.specs.Steps.{Stepped, step}
use Rattle.method_code.specs.Chains.{Turned, turned, begun}
use Rattle.method_code.specs.Kinds.{pass_end, end_on}
use Rattle.method_code.specs.Records.{Recorded, does, LeadsTo, AreMade}
use Rattle.compat_scheduler.specs.Machines.{Machine}
use Rattle.step_journal.specs.Histories.{IsLegal}
use Rattle.loose_records.specs.declared.record.BoxEntry.{BoxEntry}
use Rattle.loose_records.specs.declared.record.Claim.{Claim}
use Rattle.loose_records.specs.declared.record.PassRecord.{PassRecord}
use Rattle.loose_records.specs.declared.record.Record.{Record}
use Rattle.loose_records.specs.Entries.{gives, journal, claimed, steps_of}
use Rattle.loose_records.specs.Settings.{RunSetting}
use Rattle.loose_records.specs.Growing.{Status, Going, IsOpenPass, IsGrowing}

module _ (p : Program) where
  -- a step from this frame and budget is as it is recorded
  stepped : (e : Recorded) (frame : Frame) (budget : ℕ) (v w : List Value) → e.before ≡ frame →
      e.budget_before ≡ budget → does (compiled p) e v w → step (compiled p) frame budget v
      ≡ record { vars = w; frame = e.after; budget = e.budget_after; end = e.end }
  stepped e frame budget v w f b d = ap (λ (x : Frame). step (compiled p) x budget v) (sym f)
      ∙ (ap (λ (n : ℕ). step (compiled p) e.before n v) (sym b) ∙ d)

  -- an open pass isn't over
  still_open : (es : List Recorded) (row : List (List Value)) (a : Activation) (budget : ℕ) (b : Activation)
      (left : ℕ) → LeadsTo p a budget es b left → AreMade (compiled p) es row →
      pass_end p row a budget ≡ None
  still_open [] [] a budget b left leads made = refl
  still_open [] (v ∷ row) a budget b left leads made = absurd made
  still_open (e ∷ es) [] a budget b left leads made = absurd made
  still_open (e ∷ es) (v ∷ row) a budget b left leads made =
      ap (λ (s : Stepped). end_on (turned p (record a { frame = s.frame }) s.end) s.budget (pass_end p row))
      (stepped e a.frame budget v made.0.0 leads.1 leads.2 made.0.1)
      ∙ (ap (λ (t : Turned). end_on t e.budget_after (pass_end p row)) leads.3.1
      ∙ still_open es row leads.3.0 e.budget_after b left leads.3.2 made.1)

-- as many variables as steps
made_length : (p : Program) (es : List Recorded) (row : List (List Value)) → AreMade (compiled p) es row →
    length row ≡ length es
made_length p [] [] m = refl
made_length p [] (v ∷ row) m = absurd m
made_length p (e ∷ es) [] m = absurd m
made_length p (e ∷ es) (v ∷ row) m = ap suc (made_length p es row m.1)

-- each claim names an entry
abbrev pub AreNamed : Record → List Claim → Type 0
AreNamed r cs = (k : ℕ) (c : Claim) → slice_get cs k ≡ Some c →
    (e : BoxEntry) × (slice_get (journal r c.box_number) c.place ≡ Some e)

-- as many steps as claims
pub steps_length : (r : Record) (cs : List Claim) → AreNamed r cs →
    length (filter_map (claimed r) cs) ≡ length cs
steps_length r [] named = refl
steps_length r (c ∷ cs) named =
    let n = named 0 c refl in rw n.1 (ap suc (steps_length r cs (λ k. named (suc k))))

-- the steps of claims, by their places
pub step_at : (r : Record) (cs : List Claim) → AreNamed r cs → (k : ℕ) (c : Claim) →
    slice_get cs k ≡ Some c → slice_get (filter_map (claimed r) cs) k ≡ claimed r c
step_at r [] named k c at = cc at
step_at r (d ∷ cs) named zero c at =
    let n = named 0 d refl in
    let e : d ≡ c = cc at in
    subst (λ (x : Claim). slice_get (filter_map (claimed r) (d ∷ cs)) 0 ≡ claimed r x) e (rw n.1 refl)
step_at r (d ∷ cs) named (suc k) c at =
    let n = named 0 d refl in rw n.1 (step_at r cs (λ k. named (suc k)) k c at)

-- an entry of a legal history was made from some variables
legal_at : {E V : Type 0} (makes : E → V → V → Type 0) (v w : V) (es : List E) → IsLegal makes v es w →
    (k : ℕ) (e : E) → slice_get es k ≡ Some e → (u : V) × (z : V) × makes e u z
legal_at makes v w [] legal k e h = cc h
legal_at {E} makes v w (f ∷ es) legal zero e h =
    let q : f ≡ e = cc h in (v, legal.0, subst (λ (e : E). makes e v legal.0) q legal.1)
legal_at makes v w (f ∷ es) legal (suc k) e h = legal_at makes legal.0 w es legal.2 k e h

-- so was the entry of a claim
made_at : (s : RunSetting) (r : Record) (statuses : List Status) (m : Machine) → IsGrowing s r statuses m →
    (box place : ℕ) (e : BoxEntry) → slice_get (journal r box) place ≡ Some e →
    (v : List Value) × (w : List Value) × gives (compiled s.program) box e v w
made_at s r statuses m g box place e h = go (cases_lt box (length r.boxes))
  where
    go : (box < length r.boxes) ⊎ (length r.boxes ≤ box) →
        (v : List Value) × (w : List Value) × gives (compiled s.program) box e v w
    go (inl l) =
        legal_at (gives (compiled s.program) box) (vars_of r.first box) (vars_of r.last box) (journal r box)
        (g.legal box l) place e h
    go (inr l) =
        let z : None ≡ Some e = subst (λ (es : List BoxEntry). slice_get es place ≡ Some e)
        (get_or_past r.boxes box [] l) h in cc z

-- variables from which the steps of claims are made
row_of : (s : RunSetting) (r : Record) (statuses : List Status) (m : Machine) → IsGrowing s r statuses m →
    (cs : List Claim) → AreNamed r cs →
    (row : List (List Value)) × AreMade (compiled s.program) (filter_map (claimed r) cs) row
row_of s r statuses m g [] named = ([], tt)
row_of s r statuses m g (c ∷ cs) named =
    let n = named 0 c refl in
    let v = made_at s r statuses m g c.box_number c.place n.0 n.1 in
    let rest = row_of s r statuses m g cs (λ k. named (suc k)) in
    (v.0 ∷ rest.0, rw n.1 ((v.1, v.2), rest.1))

-- an open pass has fewer than 2,000,300 steps
pub open_is_short : (s : RunSetting) (r : Record) (statuses : List Status) (m : Machine) →
    IsGrowing s r statuses m → ((a : ActionInfo) (row : List (List Value)) (budget : ℕ) →
    budget ≤ 1000000 → 2000300 ≤ length row → (end : PassEnd) × (pass_end s.program row (begun s.program a)
    budget ≡ Some end)) → s.budget ≤ 1000000 → (p : PassRecord) (at : Activation) (left : ℕ) →
    IsOpenPass s r p (Going at left) → length p.claims < 2000300
open_is_short s r statuses m g in_time small p at left is = go (cases_lt (length p.claims) 2000300)
  where
    named : AreNamed r p.claims
    named k c h = let n = is.claims k c h in (n.entry, n.there)

    go : (length p.claims < 2000300) ⊎ (2000300 ≤ length p.claims) → length p.claims < 2000300
    go (inl l) = l
    go (inr l) =
        let row = row_of s r statuses m g p.claims named in
        let long = made_length s.program (steps_of r p) row.0 row.1 in
        let many = steps_length r p.claims named in
        let x = in_time is.action row.0 s.budget small (omega (arith, l, long, many)) in
        let over = x.1 in
        let open_yet = still_open s.program (steps_of r p) row.0 (begun s.program is.action) s.budget at left
        is.comes row.1 in
        cc (over, open_yet)
