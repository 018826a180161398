-- What a seat keeps of its passes when it takes one, and when one of them finishes.
use Rattle.std.proofs.Common.{◌≡◌, ◌≢◌, ℕ, ◌+◌, ◌<◌, ◌^◌, ⊎_elim, List, [], ◌∷◌, ◌++◌, sym, ap, ◌∙◌, refl, subst}
use Rattle.std.proofs.Common.{length, arith, set, Bool, true, false, ◌==◌, Option, Some, None}
use Rattle.std.specs.Prelude.{slice_get, Contains}
use Rattle.std.proofs.lemmas.List.Elements.{All-nil, All-cons}
use Rattle.std.proofs.lemmas.List.Sums.{sum_by_push}
use Rattle.std.proofs.lemmas.Bool.Decides.{nat_tests}
use Rattle.seuss_base.specs.declared.outcome.PassEnd.{PassEnd}
use Rattle.seuss_program.specs.declared.program.ActionInfo.{ActionInfo}
use Rattle.seuss_program.specs.declared.state.Value.{Value}
use Rattle.method_code.specs.declared.method.Method.{Method}
use Rattle.method_code.specs.declared.activation.Activation.{Activation}
use Rattle.method_code.specs.Chains.{begun, beginning}
use Rattle.compat_scheduler.specs.declared.ticket.FinishVerdict.{FinishVerdict}
use Rattle.step_journal.specs.Histories.{Log, entries_of, own_entries, IsNoteOf}
use Rattle.step_journal.specs.Journals.{NoteState, ShareState, IsPair}
use Rattle.loose_records.specs.declared.record.BoxEntry.{BoxEntry}
use Rattle.loose_records.specs.declared.record.SchedEntry.{SchedEntry}
use Rattle.loose_records.specs.declared.record.SchedEntry.TheVariants.{Start, Finish}
use Rattle.loose_records.specs.Entries.{AreStamps}
use Rattle.pass_seats.proofs.Lists.{at-append, push-cases, set-here, set-other, at-within}
use Rattle.pass_seats.specs.declared.pass.Done.{Done}
use Rattle.pass_seats.specs.declared.pass.SeatPass.{SeatPass}
use Rattle.pass_seats.specs.Names.{Names, AreNames}
use Rattle.pass_seats.specs.Passes.{IsSeatPass, IsWithin, ComesTo, HasDone, steps_of}
use Rattle.pass_seats.specs.Seats.{SeatState, IsSeat, IsWhole, IsClaimed, is_done, is_some, logs_of}
use Rattle.pass_seats.specs.Items.{ItemState, IsStarted}
use Rattle.pass_seats.specs.Finishes.{PassFinished, Finished, PassSaw, FinishWorn}
use Rattle.round_ledger.specs.Cells.{CellState, next_stamp}
use Rattle.pass_seats.proofs.Placing.{with_passes}
use Rattle.pass_seats.proofs.Lists.{none_some, some_same, nil_from_length, read-at, set-cases, count-set, bit}
use Rattle.pass_seats.proofs.Owns.{own-push, entries-front, entry-there}
use Rattle.pass_seats.proofs.Boxes.{begun_within}

-- one stamp is a list of stamps
one_stamp : (n : ℕ) → n < 2 ^ 63 → AreStamps (n ∷ [])
one_stamp n small = record {
  rising = λ i j d l w. absurd (omega (arith, l, w));
  small = All-cons (λ (a : ℕ). a < 2 ^ 63) n [] small (All-nil (λ (a : ℕ). a < 2 ^ 63));
}

-- a pass with another note, share and finish
abbrev pub with_done : SeatPass → NoteState SchedEntry → ShareState → Option Done → SeatPass
with_done p note share done = record p { note = note; share = share; done = done }

-- where the steps of a pass lead doesn't depend on its note
same_comes : (names : Names) (begin : Activation) (logs : List (Log BoxEntry)) (p : SeatPass)
    (note : NoteState SchedEntry) (share : ShareState) (done : Option Done) (over : Option PassEnd) →
    ComesTo names.setting.program begin names.setting.budget (steps_of logs p.claims) over p →
    ComesTo names.setting.program begin names.setting.budget (steps_of logs p.claims) over (with_done p note share done)
same_comes names begin logs p note share d None h = h
same_comes names begin logs p note share d (Some end) h = h

-- a pass whose note has seen more, and that may have finished
noted_pass : (names : Names) (seat : ℕ) (logs : List (Log BoxEntry)) (p : SeatPass) (note : NoteState SchedEntry)
    (share : ShareState) (done : Option Done) (log more : Log SchedEntry) → IsSeatPass names seat logs p →
    IsNoteOf log p.note.maker p.note.seen → note.journal ≡ p.note.journal → note.maker ≡ p.note.maker →
    note.seen ≡ log ++ more → IsPair note share → HasDone done (with_done p note share done) →
    IsSeatPass names seat logs (with_done p note share done)
noted_pass names seat logs p note share done log more was sees journal maker seen pair has = record {
  action = was.action;
  there = was.there;
  claims = was.claims;
  stamps = was.stamps;
  clock_is = was.clock_is;
  comes = same_comes names (begun names.setting.program was.action) logs p note share done p.over was.comes;
  commit = was.commit;
  within = was.within;
  journal = journal ∙ was.journal;
  maker = maker ∙ was.maker;
  pair = pair;
  start = subst (λ (l : Log SchedEntry). Contains (entries_of l) (Start p.ticket p.started)) (sym seen)
      (entries-front log more (log ++ more) (Start p.ticket p.started) refl
      (entries-front p.note.seen sees.front.0 log (Start p.ticket p.started) sees.front.1 was.start));
  done = has;
}

-- a seat one of whose passes has another note, share and finish
module _ (names : Names) (s : SeatState) (slot : ℕ) (p : SeatPass) (note : NoteState SchedEntry) (share : ShareState)
    (done : Option Done) (whole : IsWhole names s) (at : slice_get s.passes slot ≡ Some p)
    (new : IsSeatPass names s.number (logs_of s.places) (with_done p note share done)) where
  abbrev q : SeatPass
  q = with_done p note share done

  still_claimed : (j i : ℕ) (e : BoxEntry) → IsClaimed s.passes j i e → IsClaimed (set s.passes slot q) j i e
  still_claimed j i e x = by_pass (x.slot == slot) refl
    where
      by_pass : (t : Bool) → (x.slot == slot) ≡ t → IsClaimed (set s.passes slot q) j i e
      by_pass true is =
          let slot_is : x.slot ≡ slot = grind (arith, nat_tests) in
          let same : x.pass ≡ p = some_same x.pass p (sym x.there ∙ ap (slice_get s.passes) slot_is ∙ at) in
          record {
            slot = slot;
            pass = q;
            there = set-here s.passes slot p q at;
            own = ap (λ (r : SeatPass). r.ticket.pass) (sym same) ∙ x.own;
            claim = x.claim;
            here = subst (λ (r : SeatPass). slice_get r.claims e.number ≡ Some x.claim) same x.here;
            on = x.on;
            at = x.at;
          }
      by_pass false is = record {
        slot = x.slot;
        pass = x.pass;
        there = set-other s.passes slot x.slot q (λ e. absurd (grind (arith, nat_tests))) ∙ x.there;
        own = x.own;
        claim = x.claim;
        here = x.here;
        on = x.on;
        at = x.at;
      }

  -- its part counts one more where the pass has finished
  pub noted_whole : (amount : ℕ) → amount + bit (is_done p) ≡ s.amount + bit (is_some done) →
      IsWhole names (record s { amount = amount; passes = set s.passes slot q })
  noted_whole amount counts = record {
    amount = omega (arith, counts, whole.amount, count-set is_done s.passes slot q p at);
    passes = λ j r there.
        ⊎_elim (λ (t : (j ≡ slot) × (q ≡ r)). subst (IsSeatPass names s.number (logs_of s.places)) t.1 new)
        (λ (t : (j ≢ slot) × (slice_get s.passes j ≡ Some r)). whole.passes j r t.1)
        (set-cases s.passes slot j q r there);
    claimed = λ j i e there. still_claimed j i e (whole.claimed j i e there);
  }

module _ (names : Names) (s : SeatState) (log : Log SchedEntry) (slot : ℕ) (p : SeatPass) (whole : IsWhole names s)
    (at : slice_get s.passes slot ≡ Some p) (undone : p.done ≡ None)
    (sees : IsNoteOf log p.note.maker p.note.seen) where
  was : IsSeatPass names s.number (logs_of s.places) p
  was = whole.passes slot p at

  none_counted : p.share.count ≡ 0
  none_counted = subst (λ (d : Option Done). HasDone d p) undone was.done

  none_made : own_entries p.note.maker p.note.seen ≡ []
  none_made = nil_from_length (own_entries p.note.maker p.note.seen) (sym was.pair.count ∙ none_counted)

  -- a seat one of whose passes has finished
  pub finished_whole : (end : PassEnd) (verdict : FinishVerdict) (stamp : ℕ) (share : ShareState) →
      p.over ≡ Some end → p.clock < stamp → IsPair (record p.note
      { seen = log ++ (p.note.maker, Finish p.ticket end verdict stamp) ∷ [] }) share →
      IsWhole names (record s {
        amount = s.amount + 1;
        passes = set s.passes slot (with_done p (record p.note
            { seen = log ++ (p.note.maker, Finish p.ticket end verdict stamp) ∷ [] }) share
            (Some (record { verdict = verdict; stamp = stamp })));
      })
  finished_whole end verdict stamp share over later pair =
      let entry = Finish p.ticket end verdict stamp in
      let note : NoteState SchedEntry = record {
        maker = p.note.maker;
        seen = log ++ (p.note.maker, entry) ∷ [];
        journal = p.note.journal;
      } in
      let done : Done = record { verdict = verdict; stamp = stamp } in
      let made : own_entries p.note.maker note.seen ≡ entry ∷ [] =
      own-push p.note.maker log entry ∙ ap (λ es. es ++ entry ∷ []) (sym sees.own ∙ none_made) in
      noted_whole names s slot p note share (Some done) whole at
      (noted_pass names s.number (logs_of s.places) p note share (Some done) log ((p.note.maker, entry) ∷ []) was sees
      refl refl refl pair (end, over, made, later)) (s.amount + 1)
      (omega (arith, ap (λ (d : Option Done). bit (is_some d)) undone))

  -- a seat one of whose passes has seen the whole journal
  pub saw_whole : IsPair (record p.note { seen = log }) p.share →
      IsWhole names (record s { passes = set s.passes slot (record p { note = record p.note { seen = log } }) })
  saw_whole pair =
      let note : NoteState SchedEntry =
      record { maker = p.note.maker; seen = log; journal = p.note.journal } in
      let front : note.seen ≡ log ++ [] = sym (append_none log) in
      let h = noted_whole names s slot p note p.share p.done whole at
      (noted_pass names s.number (logs_of s.places) p note p.share p.done log [] was sees refl refl front pair
      (still_done p.done was.done refl)) s.amount refl in
      record { amount = h.amount; passes = h.passes; claimed = h.claimed }
    where
      append_none : (xs : Log SchedEntry) → xs ++ [] ≡ xs
      append_none [] = refl
      append_none (x ∷ xs) = ap (λ ys. x ∷ ys) (append_none xs)

      still_done : (d : Option Done) → HasDone d p → p.done ≡ d →
          HasDone d (with_done p (record { maker = p.note.maker; seen = log; journal = p.note.journal }) p.share p.done)
      still_done None has is = has
      still_done (Some d) has is = absurd (none_some d (sym undone ∙ is))

-- what a finish of a pass at a cell is to its seat
module _ (names : Names) (s : SeatState) (cell new : CellState) (slot : ℕ) (p q : SeatPass) (verdict : FinishVerdict)
    (at : slice_get s.passes slot ≡ Some p) (f : PassFinished cell new p q verdict) where
  abbrev done : Done
  done = record { verdict = verdict; stamp = f.stamp }

  abbrev after : SeatPass
  after = with_done p (record p.note
      { seen = cell.journal.log ++ (p.note.maker, Finish p.ticket f.end verdict f.stamp) ∷ [] })
      (record p.share { count = 1 }) (Some done)

  after_is : q ≡ after
  after_is = f.after_is ∙ ap (λ (l : Log SchedEntry). with_done p (record
      { maker = p.note.maker; seen = l; journal = p.note.journal }) (record p.share { count = 1 }) (Some done))
      f.new_is.log_is

  later : p.clock < f.stamp
  later = omega (arith, f.stamp_is)

  -- the seat after the finish
  pub finished_seat : (parts amount : ℕ) → p.done ≡ None → IsPair q.note q.share → s.torn ≡ false → IsSeat names s →
      parts ≡ s.parts → amount ≡ s.amount + 1 →
      IsSeat names (record s { parts = parts; amount = amount; passes = set s.passes slot q })
  finished_seat parts amount undone pair untorn seat parts_is amount_is =
      with_passes names s parts amount (set s.passes slot q) seat parts_is
      (λ e. subst (λ (n : ℕ). IsWhole names (record s { amount = n; passes = set s.passes slot q })) (sym amount_is)
      (subst (λ (r : SeatPass). IsWhole names (record s { amount = s.amount + 1; passes = set s.passes slot r }))
      (sym after_is)
      (finished_whole names s cell.journal.log slot p (seat.whole untorn) at undone f.before f.end verdict f.stamp
      (record p.share { count = 1 }) f.over later
      (subst (λ (r : SeatPass). IsPair r.note r.share) after_is pair))))

  -- the finish, as the seat sees it
  pub finished : (parts amount : ℕ) → parts ≡ s.parts → amount ≡ s.amount + 1 →
      Finished cell new s (record s { parts = parts; amount = amount; passes = set s.passes slot q }) slot verdict
  finished parts amount parts_is amount_is = record {
    pass = p;
    done = q;
    there = at;
    finished = f;
    after_is = λ i. record s { parts = parts_is i; amount = amount_is i; passes = set s.passes slot q };
  }

-- what a finish that is worn is to the seat
module _ (names : Names) (s : SeatState) (cell new : CellState) (slot stamp : ℕ) (p q : SeatPass)
    (at : slice_get s.passes slot ≡ Some p) (saw : PassSaw cell new p q) where
  -- the seat after it
  pub saw_seat : p.done ≡ None → IsPair q.note q.share → s.torn ≡ false → IsSeat names s →
      IsSeat names (record s { passes = set s.passes slot q })
  saw_seat undone pair untorn seat =
      with_passes names s s.parts s.amount (set s.passes slot q) seat refl
      (λ e. subst (λ (r : SeatPass). IsWhole names (record s { passes = set s.passes slot r })) (sym saw.after_is)
      (saw_whole names s cell.journal.log slot p (seat.whole untorn) at undone saw.before
      (subst (λ (r : SeatPass). IsPair r.note r.share) saw.after_is pair)))

  -- what has changed
  pub worn : stamp ≡ 2 ^ 63 → stamp ≡ next_stamp p.clock cell.journal.log →
      FinishWorn cell new s (record s { passes = set s.passes slot q }) slot stamp
  worn is stamp_is = record {
    pass = p;
    there = at;
    stamp_is = stamp_is;
    worn = is;
    before = saw.before;
    same = saw.same;
    after_is = λ i. record s { passes = set s.passes slot (saw.after_is i) };
  }

-- a pass at its beginning
abbrev pub begun_with : Names → ItemState → ShareState → Activation → SeatPass
begun_with names i share control = record {
  ticket = i.ticket;
  by = i.seat;
  started = i.stamp;
  clock = i.stamp;
  budget = names.setting.budget;
  control = control;
  over = None;
  claims = [];
  commit = None;
  note = i.note;
  share = share;
  done = None;
}

-- a seat that has taken a pass
pub taken_whole : (names : Names) (code : List Method) (first : ℕ → List Value) (s : SeatState) (i : ItemState)
    (share : ShareState) → AreNames names code first → IsWhole names s → IsStarted names i share →
    IsWhole names (record s {
      passes = s.passes ++ begun_with names i share (beginning names.setting.program i.ticket.action) ∷ [];
    })
taken_whole names code first s i share named whole is = record {
  amount = omega (arith, whole.amount, sum_by_push (λ (q : SeatPass). bit (is_done q)) s.passes p);
  passes = λ k q at.
      ⊎_elim (λ (h : slice_get s.passes k ≡ Some q). whole.passes k q h)
      (λ (h : (k ≡ length s.passes) × (p ≡ q)). subst (IsSeatPass names s.number (logs_of s.places)) h.1 new)
      (push-cases s.passes p q k at);
  claimed = λ b j e at. let x = whole.claimed b j e at in record {
    slot = x.slot;
    pass = x.pass;
    there = at-append s.passes (p ∷ []) x.slot x.pass x.there;
    own = x.own;
    claim = x.claim;
    here = x.here;
    on = x.on;
    at = x.at;
  };
}
  where
    p : SeatPass
    p = begun_with names i share (beginning names.setting.program i.ticket.action)

    there : (a : ActionInfo) × (slice_get names.setting.program.actions i.ticket.action ≡ Some a)
    there = at-within names.setting.program.actions i.ticket.action is.action

    begins : beginning names.setting.program i.ticket.action ≡ begun names.setting.program there.0
    begins =
        ap (begun names.setting.program) (read-at names.setting.program.actions i.ticket.action there.0
        (record { box_number = 0; procedure = 0 }) there.1)

    within : IsWithin (length names.boxes) (begun names.setting.program there.0)
    within =
        subst (λ (n : ℕ). IsWithin n (begun names.setting.program there.0)) (sym named.boxes)
        (begun_within names.setting.program named.keeps i.ticket.action there.0 there.1)

    new : IsSeatPass names s.number (logs_of s.places) p
    new = record {
      action = there.0;
      there = there.1;
      claims = λ j c at. absurd (none_some c at);
      stamps = one_stamp i.stamp is.fits;
      clock_is = omega arith;
      comes = (begins, refl);
      commit = record { each = λ j e less at. absurd (omega (arith, less)) };
      within = λ _. subst (IsWithin (length names.boxes)) (sym begins) within;
      journal = is.journal;
      maker = is.maker;
      pair = is.pair;
      start = entry-there i.note.seen i.seat (Start i.ticket i.stamp) is.stands;
      done = is.unused;
    }
