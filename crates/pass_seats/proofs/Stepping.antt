-- What a seat keeps of its passes when one of them makes a step.
use Rattle.std.proofs.Common.{◌≡◌, ◌≢◌, ℕ, zero, suc, ◌<◌, ◌≤◌, ◌⊎◌, inl, inr, ⊎_elim, List, [], ◌∷◌, ◌++◌}
use Rattle.std.proofs.Common.{sym, ap, ◌∙◌, refl, subst, length, arith, set, Bool, true, false}
use Rattle.std.proofs.Common.{◌==◌, Option, Some, None, if◌then◌else◌}
use Rattle.std.specs.Prelude.{slice_get, option_map}
use Rattle.std.specs.List.{cons_option}
use Rattle.std.proofs.lemmas.Option.{slice_get_within}
use Rattle.std.proofs.lemmas.List.{map-append}
use Rattle.std.proofs.lemmas.List.Elements.{filter_map-append}
use Rattle.std.proofs.lemmas.Bool.Decides.{nat_tests}
use Rattle.seuss_base.specs.declared.outcome.PassEnd.{PassEnd}
use Rattle.seuss_program.specs.declared.program.Program.{Program}
use Rattle.seuss_program.specs.declared.state.Value.{Value}
use Rattle.method_code.specs.declared.method.Method.{Method}
use Rattle.method_code.specs.declared.frame.End.{End}
use Rattle.method_code.specs.declared.activation.Activation.{Activation}
use Rattle.method_code.specs.Chains.{Turned, Next, Over, turned, begun}
use Rattle.method_code.specs.Kinds.{calls_early}
use Rattle.method_code.specs.Records.{Recorded, LeadsTo, IsStepFrom}
use Rattle.method_code.proofs.RecordLemmas.{leads_on, leads_over}
use Rattle.step_journal.specs.Histories.{Log, IsNoteOf}
use Rattle.loose_records.specs.declared.record.BoxEntry.{BoxEntry}
use Rattle.loose_records.specs.declared.record.Claim.{Claim}
use Rattle.loose_records.specs.Entries.{step_of, AreStamps}
use Rattle.loose_records.specs.Turns.{clock_of}
use Rattle.pass_seats.proofs.Lists.{at-append, at-push, push-cases, set-here, set-other, at-map}
use Rattle.loose_records.proofs.Clocks.{stamps_after, clock_push}
use Rattle.box_lock.specs.Cells.{log_stamps}
use Rattle.pass_seats.specs.declared.pass.Done.{Done}
use Rattle.pass_seats.specs.declared.pass.Place.{Place}
use Rattle.pass_seats.specs.declared.pass.Progress as P
use Rattle.pass_seats.specs.declared.pass.Progress.TheVariants as V
use Rattle.pass_seats.specs.declared.pass.SeatPass.{SeatPass}
use Rattle.pass_seats.specs.Names.{Names}
use Rattle.pass_seats.specs.Passes.{IsSeatPass, IsClaim, IsWithin, ComesTo, CommitsSoFar, AreEarly, HasDone}
use Rattle.pass_seats.specs.Passes.{log_at, step_at, steps_of, stamps_of}
use Rattle.pass_seats.specs.Seats.{SeatState, IsWhole, IsClaimed, logs_of, is_done}
use Rattle.pass_seats.specs.Steps.{Steps, GoesOn, moved, commit_after}
use Rattle.pass_seats.proofs.Lists.{none_some, some_same, at-prefix, read-at, set-cases, count-set, bit}
use Rattle.pass_seats.proofs.Lists.{filter_map-same, filter_map-full}
use Rattle.pass_seats.proofs.Owns.{own-within}

-- what was seen at the box of a place that has changed
pub log-here : (places : List Place) (b : ℕ) (p q : Place) → slice_get places b ≡ Some q →
    log_at (logs_of (set places b p)) b ≡ p.note.seen
log-here places b p q at =
    read-at (logs_of (set places b p)) b p.note.seen []
    (at-map (λ (r : Place). r.note.seen) (set places b p) b p (set-here places b q p at))

-- and at another box
pub log-else : (places : List Place) (b j : ℕ) (p : Place) → j ≢ b →
    log_at (logs_of (set places b p)) j ≡ log_at (logs_of places) j
log-else [] b j p apart = refl
log-else (q ∷ places) zero zero p apart = absurd (apart refl)
log-else (q ∷ places) zero (suc j) p apart = refl
log-else (q ∷ places) (suc b) zero p apart = refl
log-else (q ∷ places) (suc b) (suc j) p apart = log-else places b j p (λ e. apart (ap suc e))

-- logs that grow keep what claims name
module _ (logs new : List (Log BoxEntry)) (grows : (b i : ℕ) (x : ℕ × BoxEntry) → slice_get (log_at logs b) i
    ≡ Some x → slice_get (log_at new b) i ≡ Some x) (me : ℕ) where
  -- a claim names what it named
  claim-grows : (pass i : ℕ) (c : Claim) → IsClaim logs me pass i c → IsClaim new me pass i c
  claim-grows pass i c x = record {
    entry = x.entry;
    there = grows c.box_number c.place (me, x.entry) x.there;
    own = x.own;
    at = x.at;
    when = x.when;
  }

  -- the steps are what they were
  steps-grow : (pass : ℕ) (claims : List Claim) →
      ((i : ℕ) (c : Claim) → slice_get claims i ≡ Some c → IsClaim logs me pass i c) →
      steps_of logs claims ≡ steps_of new claims
  steps-grow pass claims are = filter_map-same (step_at logs) (step_at new) claims (λ i c at.
      let x = are i c at in
      let read = option_map (λ (q : ℕ × BoxEntry). step_of c.box_number q.1) in
      ap read x.there ∙ sym (ap read (grows c.box_number c.place (me, x.entry) x.there)))

  -- a pass is what it was
  pub pass-grows : (names : Names) (p : SeatPass) → IsSeatPass names me logs p → IsSeatPass names me new p
  pass-grows names p is =
      let same = steps-grow p.ticket.pass p.claims is.claims in
      record {
        action = is.action;
        there = is.there;
        claims = λ i c at. claim-grows p.ticket.pass i c (is.claims i c at);
        stamps = is.stamps;
        clock_is = is.clock_is;
        comes = subst (λ (es : List Recorded). ComesTo names.setting.program
            (begun names.setting.program is.action) names.setting.budget es p.over p) same is.comes;
        commit = subst (λ (es : List Recorded). CommitsSoFar es p.commit) same is.commit;
        within = is.within;
        journal = is.journal;
        maker = is.maker;
        pair = is.pair;
        start = is.start;
        done = is.done;
      }

-- claims name as many steps
steps-many : (logs : List (Log BoxEntry)) (me pass : ℕ) (claims : List Claim) →
    ((i : ℕ) (c : Claim) → slice_get claims i ≡ Some c → IsClaim logs me pass i c) →
    length (steps_of logs claims) ≡ length claims
steps-many logs me pass claims are = filter_map-full (step_at logs) claims (λ i c at.
    let x = are i c at in (
      step_of c.box_number x.entry,
      ap (option_map (λ (q : ℕ × BoxEntry). step_of c.box_number q.1)) x.there,
    ))

-- steps with one more step
module _ (steps : List Recorded) (e : Recorded) where
  -- early ones, with one more that is early
  early-push : AreEarly (length steps) steps → calls_early e.end ≡ true →
      AreEarly (length (steps ++ e ∷ [])) (steps ++ e ∷ [])
  early-push early is = record { each = λ i x less at. by i x (push-cases steps e x i at) }
    where
      by : (i : ℕ) (x : Recorded) → (slice_get steps i ≡ Some x) ⊎ ((i ≡ length steps) × (e ≡ x)) →
          calls_early x.end ≡ true
      by i x (inl h) = early.each i x (slice_get_within steps i x h) h
      by i x (inr h) = subst (λ (y : Recorded). calls_early y.end ≡ true) h.1 is

  -- the first ones stay early
  early-stay : (k : ℕ) → k ≤ length steps → AreEarly k steps → AreEarly k (steps ++ e ∷ [])
  early-stay k few early = record { each = λ i x less at. by i x less (push-cases steps e x i at) }
    where
      by : (i : ℕ) (x : Recorded) → i < k →
          (slice_get steps i ≡ Some x) ⊎ ((i ≡ length steps) × (e ≡ x)) → calls_early x.end ≡ true
      by i x less (inl h) = early.each i x less h
      by i x less (inr h) = absurd (omega (arith, less, few, h.0))

  -- the commit step so far
  commit-push : (commit : Option ℕ) (number : ℕ) (end : End) → CommitsSoFar steps commit →
      length steps ≡ number → e.end ≡ end → CommitsSoFar (steps ++ e ∷ []) (commit_after commit number end)
  commit-push (Some k) number end so many is =
      let less = slice_get_within steps k so.1.0 so.1.1 in
      (early-stay k (omega (arith, less)) so.0, (so.1.0, at-append steps (e ∷ []) k so.1.0 so.1.1, so.1.2))
  commit-push None number end so many is = by (calls_early end) refl
    where
      by : (b : Bool) → calls_early end ≡ b → CommitsSoFar (steps ++ e ∷ []) (if b then None else Some number)
      by true early = early-push so (ap calls_early is ∙ early)
      by false late =
          subst (λ (n : ℕ). CommitsSoFar (steps ++ e ∷ []) (Some n)) many
          (early-stay (length steps) (omega arith) so, (e, at-push steps e, ap calls_early is ∙ late))

module _ (names : Names) (code : List Method) (log : Log BoxEntry) (vars next : List Value) (place seen : Place)
    (pass after : SeatPass) (entry : BoxEntry) (progress : P.Progress) (b slot : ℕ) (s : SeatState)
    (at_place : slice_get s.places b ≡ Some place) (at_pass : slice_get s.passes slot ≡ Some pass)
    (going : pass.over ≡ None) (before : IsNoteOf log s.number place.note.seen)
    (steps : Steps names.setting.program code b log vars next pass after entry progress)
    (seen_is : seen.note.seen ≡ log ++ (s.number, entry) ∷ [])
    (turns : (a c : Activation) (end : End) → IsWithin (length names.boxes) a →
    turned names.setting.program a end ≡ Next c → IsWithin (length names.boxes) c)
    (whole : IsWhole names s) where
  abbrev program : Program
  program = names.setting.program

  abbrev logs : List (Log BoxEntry)
  logs = logs_of s.places

  abbrev logs' : List (Log BoxEntry)
  logs' = logs_of (set s.places b seen)

  abbrev passes' : List SeatPass
  passes' = set s.passes slot after

  here : log_at logs' b ≡ log ++ (s.number, entry) ∷ []
  here = log-here s.places b seen place at_place ∙ seen_is

  was : log_at logs b ≡ place.note.seen
  was = read-at logs b place.note.seen [] (at-map (λ (r : Place). r.note.seen) s.places b place at_place)

  grows : (j i : ℕ) (x : ℕ × BoxEntry) → slice_get (log_at logs j) i ≡ Some x →
      slice_get (log_at logs' j) i ≡ Some x
  grows j i x at = by_box (j == b) refl
    where
      by_box : (t : Bool) → (j == b) ≡ t → slice_get (log_at logs' j) i ≡ Some x
      by_box true is =
          let j_is : j ≡ b = grind (arith, nat_tests) in
          let in_seen : slice_get place.note.seen i ≡ Some x =
          subst (λ (l : Log BoxEntry). slice_get l i ≡ Some x) (ap (log_at logs) j_is ∙ was) at in
          let in_log = at-prefix place.note.seen log i x before.front in_seen in
          subst (λ (l : Log BoxEntry). slice_get l i ≡ Some x) (sym (ap (log_at logs') j_is ∙ here))
          (at-append log ((s.number, entry) ∷ []) i x in_log)
      by_box false is =
          subst (λ (l : Log BoxEntry). slice_get l i ≡ Some x)
          (sym (log-else s.places b j seen (λ e. absurd (grind (arith, nat_tests))))) at

  abbrev claim : Claim
  claim = record { box_number = b; place = length log; stamp = entry.stamp }

  -- the pass after the step, by its parts
  abbrev made : SeatPass
  made = record pass {
    clock = entry.stamp;
    budget = entry.budget_after;
    control = after.control;
    over = after.over;
    claims = pass.claims ++ claim ∷ [];
    commit = commit_after pass.commit (length pass.claims) entry.end;
  }

  new_at : slice_get (log_at logs' b) (length log) ≡ Some (s.number, entry)
  new_at =
      subst (λ (l : Log BoxEntry). slice_get l (length log) ≡ Some (s.number, entry)) (sym here)
      (at-push log (s.number, entry))

  was_pass : IsSeatPass names s.number logs pass
  was_pass = whole.passes slot pass at_pass

  abbrev begin : Activation
  begin = begun program was_pass.action

  abbrev olds : List Recorded
  olds = steps_of logs pass.claims

  abbrev step : Recorded
  step = step_of b entry

  new_claims : (i : ℕ) (c : Claim) → slice_get (pass.claims ++ claim ∷ []) i ≡ Some c →
      IsClaim logs' s.number pass.ticket.pass i c
  new_claims i c at =
      ⊎_elim (λ (t : slice_get pass.claims i ≡ Some c).
      claim-grows logs logs' grows s.number pass.ticket.pass i c (was_pass.claims i c t))
      (λ (t : (i ≡ length pass.claims) × (claim ≡ c)).
      subst (IsClaim logs' s.number pass.ticket.pass i) t.1 (record {
        entry = entry;
        there = new_at;
        own = steps.own;
        at = steps.number ∙ sym t.0;
        when = refl;
      })) (push-cases pass.claims claim c i at)

  new_steps : steps_of logs' (pass.claims ++ claim ∷ []) ≡ olds ++ step ∷ []
  new_steps =
      filter_map-append (step_at logs') pass.claims (claim ∷ [])
      ∙ (λ i. sym (steps-grow logs logs' grows s.number pass.ticket.pass pass.claims was_pass.claims) i
      ++ cons_option (ap (option_map (λ (q : ℕ × BoxEntry). step_of b q.1)) new_at i) [])

  was_leading : LeadsTo program begin names.setting.budget olds pass.control pass.budget
  was_leading =
      subst (λ (o : Option PassEnd). ComesTo program begin names.setting.budget olds o pass) going was_pass.comes

  from : IsStepFrom pass.control pass.budget step
  from = record { box = sym steps.box; before = steps.before; budget_before = steps.budget_before }

  new_comes : (t : Turned) → turned program (moved pass.control entry) entry.end ≡ t → (pr : P.Progress)
      (over : Option PassEnd) → GoesOn t pr over after.control →
      ComesTo program begin names.setting.budget (olds ++ step ∷ []) over made
  new_comes (Next a) is V.Stepped over goes =
      subst (λ (o : Option PassEnd). ComesTo program begin names.setting.budget (olds ++ step ∷ []) o made)
      (sym goes.0)
      (subst (λ (c : Activation). LeadsTo program begin names.setting.budget (olds ++ step ∷ []) c
      entry.budget_after) (sym goes.1)
      (leads_on program olds begin pass.control names.setting.budget pass.budget step a was_leading from is))
  new_comes (Next a) is V.Over over goes = absurd goes
  new_comes (Over end) is V.Stepped over goes = absurd goes
  new_comes (Over end) is V.Over over goes =
      subst (λ (o : Option PassEnd). ComesTo program begin names.setting.budget (olds ++ step ∷ []) o made)
      (sym goes)
      (leads_over program olds begin pass.control names.setting.budget pass.budget step end was_leading from is)

  new_within : (t : Turned) → turned program (moved pass.control entry) entry.end ≡ t → (pr : P.Progress)
      (over : Option PassEnd) → GoesOn t pr over after.control → over ≡ None →
      IsWithin (length names.boxes) after.control
  new_within (Next a) is V.Stepped over goes none =
      let w = was_pass.within going in
      subst (IsWithin (length names.boxes)) (sym goes.1)
      (turns (moved pass.control entry) a entry.end (record { here = w.here; waiting = w.waiting }) is)
  new_within (Next a) is V.Over over goes none = absurd goes
  new_within (Over end) is V.Stepped over goes none = absurd goes
  new_within (Over end) is V.Over over goes none = absurd (none_some end (sym none ∙ goes))

  not_done : (d : Option Done) → HasDone d pass → HasDone d made
  not_done None has = has
  not_done (Some d) has = absurd (none_some has.0 (sym going ∙ has.1))

  later : pass.clock < entry.stamp
  later = omega (arith, steps.stamp)

  new_pass : IsSeatPass names s.number logs' after
  new_pass = subst (IsSeatPass names s.number logs') (sym steps.after_is) (record {
    action = was_pass.action;
    there = was_pass.there;
    claims = new_claims;
    stamps = subst (λ (l : List ℕ). AreStamps (pass.started ∷ l))
        (sym (map-append (λ (c : Claim). c.stamp) pass.claims (claim ∷ [])))
        (stamps_after (clock_of (log_stamps log)) (pass.started ∷ stamps_of pass.claims) entry.stamp was_pass.stamps
        (omega (arith, steps.stamp, was_pass.clock_is)) steps.fits);
    clock_is = sym (ap (λ (l : List ℕ). clock_of (pass.started ∷ l))
        (map-append (λ (c : Claim). c.stamp) pass.claims (claim ∷ []))
        ∙ clock_push (pass.started ∷ stamps_of pass.claims) entry.stamp
        (subst (λ (n : ℕ). n < entry.stamp) was_pass.clock_is later));
    comes = subst (λ (es : List Recorded). ComesTo program begin names.setting.budget es after.over made)
        (sym new_steps)
        (new_comes (turned program (moved pass.control entry) entry.end) refl progress after.over steps.goes);
    commit = subst (λ (es : List Recorded).
        CommitsSoFar es (commit_after pass.commit (length pass.claims) entry.end)) (sym new_steps)
        (commit-push olds step pass.commit (length pass.claims) entry.end was_pass.commit
        (steps-many logs s.number pass.ticket.pass pass.claims was_pass.claims) refl);
    within = new_within (turned program (moved pass.control entry) entry.end) refl progress after.over steps.goes;
    journal = was_pass.journal;
    maker = was_pass.maker;
    pair = was_pass.pair;
    start = was_pass.start;
    done = not_done pass.done was_pass.done;
  })

  -- a claim of an old pass is one of the new passes
  still_claimed : (j i : ℕ) (e : BoxEntry) → IsClaimed s.passes j i e → IsClaimed passes' j i e
  still_claimed j i e x = by_pass (x.slot == slot) refl
    where
      by_pass : (t : Bool) → (x.slot == slot) ≡ t → IsClaimed passes' j i e
      by_pass true is =
          let slot_is : x.slot ≡ slot = grind (arith, nat_tests) in
          let same : x.pass ≡ pass = some_same x.pass pass (sym x.there ∙ ap (slice_get s.passes) slot_is ∙ at_pass) in
          let old : slice_get pass.claims e.number ≡ Some x.claim =
          subst (λ (p : SeatPass). slice_get p.claims e.number ≡ Some x.claim) same x.here in
          record {
            slot = slot;
            pass = after;
            there = set-here s.passes slot pass after at_pass;
            own = ap (λ (p : SeatPass). p.ticket.pass) steps.after_is
                ∙ ap (λ (p : SeatPass). p.ticket.pass) (sym same) ∙ x.own;
            claim = x.claim;
            here = subst (λ (cs : List Claim). slice_get cs e.number ≡ Some x.claim)
                (sym (ap (λ (p : SeatPass). p.claims) steps.after_is))
                (at-append pass.claims (claim ∷ []) e.number x.claim old);
            on = x.on;
            at = x.at;
          }
      by_pass false is = record {
        slot = x.slot;
        pass = x.pass;
        there = set-other s.passes slot x.slot after (λ e. absurd (grind (arith, nat_tests))) ∙ x.there;
        own = x.own;
        claim = x.claim;
        here = x.here;
        on = x.on;
        at = x.at;
      }

  -- the new entry is claimed by the pass
  new_claimed : (i : ℕ) (e : BoxEntry) → i ≡ length log → entry ≡ e → IsClaimed passes' b i e
  new_claimed i e i_is e_is = record {
    slot = slot;
    pass = after;
    there = set-here s.passes slot pass after at_pass;
    own = ap (λ (p : SeatPass). p.ticket.pass) steps.after_is ∙ sym steps.own ∙ ap (λ (x : BoxEntry). x.pass) e_is;
    claim = claim;
    here = subst (λ (cs : List Claim). slice_get cs e.number ≡ Some claim)
        (sym (ap (λ (p : SeatPass). p.claims) steps.after_is))
        (subst (λ (n : ℕ). slice_get (pass.claims ++ claim ∷ []) n ≡ Some claim)
        (sym steps.number ∙ ap (λ (x : BoxEntry). x.number) e_is) (at-push pass.claims claim));
    on = refl;
    at = sym i_is;
  }

  all_claimed : (j i : ℕ) (e : BoxEntry) → slice_get (log_at logs' j) i ≡ Some (s.number, e) →
      IsClaimed passes' j i e
  all_claimed j i e at = by_box (j == b) refl
    where
      by_box : (t : Bool) → (j == b) ≡ t → IsClaimed passes' j i e
      by_box true is =
          let j_is : j ≡ b = grind (arith, nat_tests) in
          let in_new : slice_get (log ++ (s.number, entry) ∷ []) i ≡ Some (s.number, e) =
          subst (λ (l : Log BoxEntry). slice_get l i ≡ Some (s.number, e)) (ap (log_at logs') j_is ∙ here) at in
          subst (λ (n : ℕ). IsClaimed passes' n i e) (sym j_is)
          (⊎_elim (λ (t : slice_get log i ≡ Some (s.number, e)).
          let own = own-within log place.note.seen s.number e i before t in
          still_claimed b i e (whole.claimed b i e
          (subst (λ (l : Log BoxEntry). slice_get l i ≡ Some (s.number, e)) (sym was) own)))
          (λ (t : (i ≡ length log) × ((s.number, entry) ≡ (s.number, e))).
          new_claimed i e t.0 (ap (λ (x : ℕ × BoxEntry). x.1) t.1))
          (push-cases log (s.number, entry) (s.number, e) i in_new))
      by_box false is =
          still_claimed j i e (whole.claimed j i e
          (subst (λ (l : Log BoxEntry). slice_get l i ≡ Some (s.number, e))
          (log-else s.places b j seen (λ e. absurd (grind (arith, nat_tests)))) at))

  -- the seat after the step
  pub stepped_whole : (torn : Bool) →
      IsWhole names (record s { places = set s.places b seen; passes = set s.passes slot after; torn = torn })
  stepped_whole torn = record {
    amount = omega (
      arith,
      whole.amount,
      count-set is_done s.passes slot after pass at_pass,
      ap (λ (p : SeatPass). bit (is_done p)) steps.after_is,
    );
    passes = λ j p at.
        ⊎_elim (λ (t : (j ≡ slot) × (after ≡ p)). subst (IsSeatPass names s.number logs') t.1 new_pass)
        (λ (t : (j ≢ slot) × (slice_get s.passes j ≡ Some p)).
        pass-grows logs logs' grows s.number names p (whole.passes j p t.1)) (set-cases s.passes slot j after p at);
    claimed = all_claimed;
  }
