-- How many events a record in the making has.
use Rattle.std.proofs.Common.{◌≡◌, ℕ, zero, suc, ◌+◌, ◌*◌, ◌<◌, ◌≤◌, ◌⊎◌, inl, inr, List, [], ◌∷◌, sym, ap}
use Rattle.std.proofs.Common.{refl, length, slice_get, Some, None, arith, ◌∙◌, map, take}
use Rattle.std.specs.Prelude.{sum_by}
use Rattle.std.specs.List.{filter_map}
use Rattle.std.proofs.lemmas.Bool.{cases_lt}
use Rattle.std.proofs.lemmas.List.{length-take-le, length-map}
use Rattle.std.proofs.lemmas.List.Sums.{sum_by-cons}
use Rattle.seuss_base.specs.declared.outcome.PassEnd.{PassEnd}
use Rattle.seuss_program.specs.declared.program.Program.{Program}
use Rattle.seuss_program.specs.declared.program.ActionInfo.{ActionInfo}
use Rattle.seuss_program.specs.declared.state.Value.{Value}
use Rattle.method_code.specs.declared.frame.Frame.{Frame}
use Rattle.method_code.specs.declared.activation.Activation.{Activation}
use Rattle.method_code.specs.Codes.{compiled}
use Rattle.method_code.specs.Steps.{Stepped, step}
use Rattle.method_code.specs.Chains.{Turned, Next, Over, turned, begun}
use Rattle.method_code.specs.Kinds.{pass_end, end_on}
use Rattle.method_code.specs.Records.{Recorded, does, ChainsTo, LeadsTo, AreMade}
use Rattle.compat_scheduler.specs.Machines.{Machine, running_count}
use Rattle.compat_scheduler.specs.Runs.{Event, started, finishes_in}
use Rattle.compat_scheduler.specs.Runs.Event.{Start, Finish}
use Rattle.loose_records.specs.declared.record.BoxEntry.{BoxEntry}
use Rattle.loose_records.specs.declared.record.Claim.{Claim}
use Rattle.loose_records.specs.declared.record.PassRecord.{PassRecord}
use Rattle.loose_records.specs.declared.record.Record.{Record}
use Rattle.loose_records.specs.Entries.{event_of, events_of, journal, claimed, steps_of}
use Rattle.loose_records.specs.Settings.{RunSetting}
use Rattle.loose_records.specs.LooseRecords.{NamesEntry}
use Rattle.loose_records.specs.Growing.{Status, Going, Through, Finished, IsPassAt, IsGrowing}
use Rattle.loose_records.specs.Stamps.{events_in}
use Rattle.loose_records.proofs.Lists.{at-within}
use Rattle.loose_records.proofs.CommitSteps.{row_of}
use Rattle.std.proofs.lemmas.Option.{slice_get_within}

module _ (p : Program) where
  -- what a step leaves
  abbrev left_by : Recorded → List Value → Stepped
  left_by e w = record { vars = w; frame = e.after; budget = e.budget_after; end = e.end }

  -- a step from this frame and budget is as it is recorded
  stepped : (e : Recorded) (frame : Frame) (budget : ℕ) (v w : List Value) → e.before ≡ frame →
      e.budget_before ≡ budget → does (compiled p) e v w → step (compiled p) frame budget v ≡ left_by e w
  stepped e frame budget v w f b d = ap (λ x. step (compiled p) x budget v) (sym f)
      ∙ (ap (λ n. step (compiled p) e.before n v) (sym b) ∙ d)

  -- where a pass turns after a step
  abbrev after : Activation → Recorded → Turned
  after a e = turned p (record a { frame = e.after }) e.end

  -- a pass isn't over before its last step
  not_yet : (es : List Recorded) (row : List (List Value)) (a : Activation) (budget : ℕ) (end : PassEnd)
      (k : ℕ) → ChainsTo p a budget es end →
      AreMade (compiled p) es row → k < length es → pass_end p (take k row) a budget ≡ None
  not_yet [] row a budget end k c m l = absurd c
  not_yet (e ∷ es) [] a budget end k c m l = absurd m
  not_yet (e ∷ es) (v ∷ row) a budget end zero c m l = refl
  not_yet (e ∷ es) (v ∷ row) a budget end (suc k) c m l =
      ap (λ (s : Stepped). end_on (turned p (record a { frame = s.frame }) s.end) s.budget
      (pass_end p (take k row)))
      (stepped e a.frame budget v m.0.0 c.1 c.2 m.0.1)
      ∙ by c.3 (λ next h. not_yet es row next e.budget_after end k h m.1 (omega (arith, l)))
    where
      by : ((es ≡ []) × (after a e ≡ Over end)) ⊎ ((next : Activation) × (after a e ≡ Next next)
          × ChainsTo p next e.budget_after es end) →
          ((next : Activation) → ChainsTo p next e.budget_after es end → pass_end p (take k row) next
          e.budget_after ≡ None) →
          end_on (after a e) e.budget_after (pass_end p (take k row)) ≡ None
      by (inl x) rest = let z : length es ≡ 0 = ap length x.0 in absurd (omega (arith, z, l))
      by (inr y) rest =
          ap (λ (t : Turned). end_on t e.budget_after (pass_end p (take k row))) y.1 ∙ rest y.0 y.2

  -- an open pass isn't over
  still_open : (es : List Recorded) (row : List (List Value)) (a : Activation) (budget : ℕ) (b : Activation)
      (left : ℕ) (k : ℕ) → LeadsTo p a budget es b left →
      AreMade (compiled p) es row → k ≤ length es → pass_end p (take k row) a budget ≡ None
  still_open [] [] a budget b left zero c m l = refl
  still_open [] [] a budget b left (suc k) c m l = refl
  still_open [] (v ∷ row) a budget b left k c m l = absurd m
  still_open (e ∷ es) [] a budget b left k c m l = absurd m
  still_open (e ∷ es) (v ∷ row) a budget b left zero c m l = refl
  still_open (e ∷ es) (v ∷ row) a budget b left (suc k) c m l =
      ap (λ (s : Stepped). end_on (turned p (record a { frame = s.frame }) s.end) s.budget
      (pass_end p (take k row)))
      (stepped e a.frame budget v m.0.0 c.1 c.2 m.0.1)
      ∙ (ap (λ (t : Turned). end_on t e.budget_after (pass_end p (take k row))) c.3.1
      ∙ still_open es row c.3.0 e.budget_after b left k c.3.2 m.1 (omega (arith, l)))

-- as many variables as steps
made_length : (p : Program) (es : List Recorded) (row : List (List Value)) → AreMade (compiled p) es row →
    length row ≡ length es
made_length p [] [] m = refl
made_length p [] (v ∷ row) m = absurd m
made_length p (e ∷ es) [] m = absurd m
made_length p (e ∷ es) (v ∷ row) m = ap suc (made_length p es row m.1)

-- as many steps as claims
steps_length : (r : Record) (cs : List Claim) → ((k : ℕ) (c : Claim) → slice_get cs k ≡ Some c →
    (e : BoxEntry) × (slice_get (journal r c.box_number) c.place ≡ Some e)) →
    length (filter_map (claimed r) cs) ≡ length cs
steps_length r [] named = refl
steps_length r (c ∷ cs) named =
    let n = named 0 c refl in rw n.1 (ap suc (steps_length r cs (λ k. named (suc k))))

module _ (s : RunSetting) (r : Record) (statuses : List Status) (m : Machine) (g : IsGrowing s r statuses m)
    (in_time : (a : ActionInfo) (row : List (List Value)) (budget : ℕ) → budget ≤ 1000000 →
    2000300 ≤ length row → (end : PassEnd) × (pass_end s.program row (begun s.program a) budget ≡ Some end))
    (small : s.budget ≤ 1000000) where
  -- the entry that a claim names
  named : (p : PassRecord) → ((k : ℕ) (c : Claim) → slice_get p.claims k ≡ Some c → NamesEntry r p k c) →
      (k : ℕ) (c : Claim) → slice_get p.claims k ≡ Some c →
      (e : BoxEntry) × (slice_get (journal r c.box_number) c.place ≡ Some e)
  named p names k c h = let n = names k c h in (n.entry, n.there)

  -- no pass of 2,000,300 steps goes on
  clash : (a : ActionInfo) (row : List (List Value)) → 2000300 ≤ length row →
      pass_end s.program (take 2000300 row) (begun s.program a) s.budget ≡ None → ⊥
  clash a row l none =
      let x = in_time a (take 2000300 row) s.budget small (omega (arith, length-take-le 2000300 row l)) in
      let e = x.1 in cc (e, none)

  -- a pass that is over has at most 2,000,300 steps
  chain_short : (p : PassRecord) (a : ActionInfo) (end : PassEnd) →
      ((k : ℕ) (c : Claim) → slice_get p.claims k ≡ Some c → NamesEntry r p k c) →
      ChainsTo s.program (begun s.program a) s.budget (steps_of r p) end → length p.claims ≤ 2000300
  chain_short p a end names chain = go (cases_lt 2000300 (length p.claims))
    where
      go : (2000300 < length p.claims) ⊎ (length p.claims ≤ 2000300) → length p.claims ≤ 2000300
      go (inr l) = l
      go (inl l) =
          let row = row_of s r statuses m g p.claims (named p names) in
          let long = made_length s.program (steps_of r p) row.0 row.1 in
          let many = steps_length r p.claims (named p names) in
          absurd (clash a row.0 (omega (arith, l, long, many))
          (not_yet s.program (steps_of r p) row.0 (begun s.program a) s.budget end 2000300 chain row.1
          (omega (arith, l, many))))

  -- so has one that goes on
  open_short : (p : PassRecord) (a : ActionInfo) (b : Activation) (left : ℕ) →
      ((k : ℕ) (c : Claim) → slice_get p.claims k ≡ Some c → NamesEntry r p k c) →
      LeadsTo s.program (begun s.program a) s.budget (steps_of r p) b left → length p.claims ≤ 2000300
  open_short p a b left names leads = go (cases_lt 2000300 (length p.claims))
    where
      go : (2000300 < length p.claims) ⊎ (length p.claims ≤ 2000300) → length p.claims ≤ 2000300
      go (inr l) = l
      go (inl l) =
          let row = row_of s r statuses m g p.claims (named p names) in
          let long = made_length s.program (steps_of r p) row.0 row.1 in
          let many = steps_length r p.claims (named p names) in
          absurd (clash a row.0 (omega (arith, l, long, many))
          (still_open s.program (steps_of r p) row.0 (begun s.program a) s.budget b left 2000300 leads
          row.1 (omega (arith, l, many))))

  -- and each pass
  pass_short : (p : PassRecord) (status : Status) → IsPassAt s r p status → length p.claims ≤ 2000300
  pass_short p (Going at left) is = open_short p is.action at left is.claims is.comes
  pass_short p (Through end) is = chain_short p is.action end is.claims is.comes
  pass_short p Finished is = chain_short p is.action p.end is.claims is.chain

  -- the sum of the steps of all passes
  sum_short : (ps : List PassRecord) → ((i : ℕ) (p : PassRecord) → slice_get ps i ≡ Some p →
      length p.claims ≤ 2000300) →
      sum_by (λ (p : PassRecord). length p.claims) ps ≤ 2000300 * length ps
  sum_short [] each = omega arith
  sum_short (p ∷ ps) each =
      let a = each 0 p refl in
      let b = sum_short ps (λ i. each (suc i)) in
      omega (arith, a, b, sum_by-cons (λ (p : PassRecord). length p.claims) p ps)

  -- each event is a start or a finish
  both_kinds : (es : List Event) → length es ≡ length (started es) + finishes_in es
  both_kinds [] = refl
  both_kinds (Start t ∷ es) = let h = both_kinds es in omega (arith, h)
  both_kinds (Finish t e v ∷ es) = let h = both_kinds es in omega (arith, h)

  -- at most 2,000,302 events for each pass
  pub few_events : length (started (events_of r)) ≡ finishes_in (events_of r) + running_count m →
      events_in r ≤ 2000302 * length r.passes
  few_events count =
      let a = sum_short r.passes (λ i p h.
      let w = slice_get_within r.passes i p h in
      let x = at-within statuses i (omega (arith, w, g.each)) in
      pass_short p x.0 (g.passes i p x.0 h x.1)) in
      let b = both_kinds (events_of r) in
      let c : length (map (λ (p : PassRecord). p.ticket) r.passes) ≡ length (started (events_of r)) =
      ap length g.tickets in
      let d = length-map r.passes (λ (p : PassRecord). p.ticket) in
      let e = length-map r.sched event_of in
      omega (arith, a, b, c, d, e, count)
