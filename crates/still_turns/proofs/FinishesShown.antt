-- A finish of the engine is a finish of the run that it shows.
use Rattle.std.proofs.Common.{◌≡◌, ℕ, ◌+◌, List, [], ◌∷◌, ◌++◌, length, refl, sym, ap, ◌∙◌, Some, None, slice_get}
use Rattle.std.proofs.Common.{subst, arith}
use Rattle.std.specs.Prelude.{slice_set, Option, max}
use Rattle.std.proofs.lemmas.Option.{same_Some, slice_get_within}
use Rattle.seuss_base.specs.declared.outcome.PassEnd.{PassEnd}
use Rattle.compat_scheduler.specs.declared.ticket.Ticket.{Ticket}
use Rattle.compat_scheduler.specs.declared.ticket.FinishVerdict.{FinishVerdict}
use Rattle.compat_scheduler.specs.Settings.{Setting}
use Rattle.compat_scheduler.specs.Machines.{Machine}
use Rattle.compat_scheduler.specs.Finishes.{Finishes}
use Rattle.step_journal.specs.Histories.{Log, entries_of}
use Rattle.loose_records.specs.declared.record.Claim.{Claim}
use Rattle.loose_records.specs.declared.record.PassRecord.{PassRecord}
use Rattle.loose_records.specs.declared.record.Record.{Record}
use Rattle.loose_records.specs.declared.record.SchedEntry.{SchedEntry}
use Rattle.loose_records.specs.declared.record.SchedEntry.TheVariants as S
use Rattle.loose_records.specs.Entries.{sched_stamps}
use Rattle.loose_records.specs.Turns.{clock_of}
use Rattle.box_lock.specs.Cells as B
use Rattle.pass_seats.specs.declared.pass.Done.{Done}
use Rattle.pass_seats.specs.declared.pass.SeatPass.{SeatPass}
use Rattle.pass_seats.specs.Names.{Names}
use Rattle.pass_seats.specs.Seats.{SeatState}
use Rattle.pass_engine.specs.Engines.{EngineState}
use Rattle.pass_engine.specs.Calls.{FinishMade}
use Rattle.turn_runs.specs.declared.hand.Hand.{Hand}
use Rattle.turn_runs.specs.declared.hand.Progress as Q
use Rattle.turn_runs.specs.declared.hand.Progress.TheVariants as P
use Rattle.turn_runs.specs.declared.run.Run.{Run}
use Rattle.turn_runs.specs.Hands.{IsFirstOther}
use Rattle.turn_runs.specs.RunTurns.{EndsPass, GoesOn}
use Rattle.turn_runs.proofs.ListLemmas.{set-here}
use Rattle.still_turns.specs.declared.hand.InHand.{InHand}
use Rattle.still_turns.specs.declared.hand.InHand.TheVariants as H
use Rattle.still_turns.specs.Shown.{Shows, ShowsBoxes, ShowsTurn, IsShown, IsSlot, IsTold, EndsAt}
use Rattle.still_turns.specs.Shown.{IsCommitSoFar}
use Rattle.still_turns.proofs.BoxesShown.{entries_push}
use Rattle.still_turns.proofs.PassesShown.{passes_set}
use Rattle.still_turns.proofs.HandsShown.{workers_after, hands_after}
use Rattle.still_turns.proofs.StartsShown.{sched_clock}

-- the number of a commit step, or where there is none the number of the next step
abbrev pub commit_or : Option ℕ → ℕ → ℕ
commit_or None next = next
commit_or (Some number) next = number

-- the first step that doesn't end by the call of a preprocedure has that number
first_other : (r : Record) (claims : List Claim) (commit : Option ℕ) → IsCommitSoFar r claims commit →
    IsFirstOther r claims (commit_or commit (length claims))
first_other r claims None early = record {
  earlier = λ k c e low at is. early.each k c e at is;
  here = λ c e at is. let within = slice_get_within claims (length claims) c at in
      absurd (omega (arith, within));
}
first_other r claims (Some number) is = is.1

module _ (names : Names) (e new : EngineState) (seats : List SeatState) (held : List InHand) (run : Run)
    (hands : List (Option Hand)) (w : ℕ) (seat after : SeatState) (shows : Shows names e seats held run hands)
    (at_seat : slice_get seats w ≡ Some seat) (slot : ℕ) (hand : Hand) (ends : EndsAt seat slot hand)
    (verdict : FinishVerdict) (made : FinishMade e new seat after slot verdict) where
  -- the pass before and after the finish, and its end and stamp
  abbrev before : SeatPass
  before = made.finished.pass

  abbrev later : SeatPass
  later = made.finished.done

  abbrev end : PassEnd
  end = made.finished.finished.end

  abbrev stamp : ℕ
  stamp = made.finished.finished.stamp

  -- the pass in hand is that of the finish
  same : ends.pass ≡ before
  same = same_Some ends.pass before (sym ends.there ∙ made.finished.there)

  ticket : hand.ticket ≡ before.ticket
  ticket = ends.holds.ticket ∙ ap (λ (p : SeatPass). p.ticket) same

  clock : hand.clock ≡ before.clock
  clock = ends.holds.clock ∙ ap (λ (p : SeatPass). p.clock) same

  end_is : ends.end ≡ end
  end_is =
      same_Some ends.end end
      (sym ends.over ∙ (ap (λ (p : SeatPass). p.over) same ∙ made.finished.finished.over))

  from : hand.progress ≡ P.Through end
  from = ends.progress ∙ ap P.Through end_is

  -- the pass is in its slot, and shown
  mine : IsSlot seats w slot before
  mine = record { seat = seat; there = at_seat; here = made.finished.there }

  shown : IsShown run.made before
  shown = shows.passes.each w slot before mine

  abbrev commit : ℕ
  commit = commit_or before.commit (length before.claims)

  -- the record of the pass after the finish
  abbrev told : PassRecord
  told = record shown.pass { commit = commit; end = end; verdict = verdict }

  -- the run after the finish
  abbrev next : Run
  next = record {
    core = record { setting = run.core.setting; machine = new.sched.machine };
    made = record run.made {
      sched = run.made.sched ++ S.Finish hand.ticket end verdict stamp ∷ [];
      passes = slice_set run.made.passes hand.ticket.pass told;
    };
  }

  record_there : slice_get run.made.passes hand.ticket.pass ≡ Some shown.pass
  record_there = ap (λ (t : Ticket). slice_get run.made.passes t.pass) ticket ∙ shown.there

  ticket_same : later.ticket ≡ before.ticket
  ticket_same = ap (λ (p : SeatPass). p.ticket) made.finished.finished.after_is

  claims_same : later.claims ≡ before.claims
  claims_same = ap (λ (p : SeatPass). p.claims) made.finished.finished.after_is

  commit_same : later.commit ≡ before.commit
  commit_same = ap (λ (p : SeatPass). p.commit) made.finished.finished.after_is

  done_is : later.done ≡ Some (record { verdict = verdict; stamp = stamp })
  done_is = ap (λ (p : SeatPass). p.done) made.finished.finished.after_is

  -- what is told of the commit step
  commit_told : (k : ℕ) → later.commit ≡ Some k → commit ≡ k
  commit_told k is =
      ap (λ (o : Option ℕ). commit_or o (length before.claims)) (sym commit_same ∙ is)

  -- the pass is shown after the finish
  shown_after : IsShown next.made later
  shown_after = record {
    pass = told;
    there = ap (λ (t : Ticket). slice_get next.made.passes t.pass) (ticket_same ∙ sym ticket)
        ∙ set-here run.made.passes hand.ticket.pass shown.pass told record_there;
    ticket = shown.ticket ∙ sym ticket_same;
    claims = shown.claims ∙ sym claims_same;
    named = record {
      each = λ k c at. shown.named.each k c
          (ap (λ (cs : List Claim). slice_get cs k) (sym claims_same) ∙ at);
    };
    commit = commit_after later.commit commit_same;
    told = subst (λ (d : Option Done). IsTold d later told) (sym done_is) (record {
      over = ap (λ (p : SeatPass). p.over) made.finished.finished.after_is ∙ made.finished.finished.over;
      verdict = refl;
      commit = commit_told;
    });
  }
    where
      keeps : (o : Option ℕ) → IsCommitSoFar run.made before.claims o → IsCommitSoFar next.made before.claims o
      keeps None early = record { each = early.each }
      keeps (Some k) is = (is.0, record { earlier = is.1.earlier; here = is.1.here })

      commit_after : (o : Option ℕ) → o ≡ before.commit → IsCommitSoFar next.made later.claims o
      commit_after o is =
          subst (λ (cs : List Claim). IsCommitSoFar next.made cs o) (sym claims_same)
          (keeps o (subst (IsCommitSoFar run.made before.claims) (sym is) shown.commit))

  -- the stamp is that after both clocks
  stamp_is : stamp ≡ 1 + max hand.clock (clock_of (sched_stamps run.made))
  stamp_is =
      made.finished.finished.stamp_is
      ∙ (λ i. 1 + max (sym clock i) (sym (sched_clock names.setting.scheduler e.sched run shows.sched) i))

  -- the pass ends
  ending : EndsPass run.core.setting run next hand.ticket hand.clock end
  ending = record {
    pass = shown.pass;
    there = record_there;
    verdict = verdict;
    finishes = subst (λ (t : Ticket). Finishes run.core.setting run.core.machine t end verdict
        new.sched.machine) (sym ticket)
        (subst (λ (m : Machine). Finishes run.core.setting m before.ticket end verdict new.sched.machine)
        (sym shows.sched.machine)
        (subst (λ (s : Setting). Finishes s e.sched.machine before.ticket end verdict new.sched.machine)
        (shows.sched.setting ∙ sym shows.sched.core) made.finished.finished.finishes));
    commit = commit;
    first = subst (λ (cs : List Claim). IsFirstOther run.made cs commit) (sym shown.claims)
        (first_other run.made before.claims before.commit shown.commit);
    stamp = stamp;
    stamp_is = stamp_is;
    made = refl;
  }

  -- a finish of the engine is one of the run
  pub finish_shown : (h : InHand) → slice_get held w ≡ Some h → slice_get hands w ≡ Some (Some hand) →
      ShowsTurn names run hands w (Some hand) new (slice_set seats w after) (slice_set held w H.Nothing)
  finish_shown h at_held at_hand = record {
    next = next;
    after = None;
    takes = subst (λ (x : Q.Progress). GoesOn names.setting.program run.core.setting run hand.ticket
        hand.clock x next None) (sym from) ending;
    shows = record {
      first = shows.first;
      boxes = subst (λ (cs : List B.CellState). ShowsBoxes cs next.made)
          (sym (ap (λ (x : EngineState). x.boxes) made.engine.new_is))
          (record { boxes = shows.boxes.boxes; last = shows.boxes.last });
      sched = record {
        setting = made.finished.finished.new_is.setting ∙ shows.sched.setting;
        core = shows.sched.core;
        machine = refl;
        sched = (λ i. shows.sched.sched i ++ S.Finish (ticket i) end verdict stamp ∷ [])
            ∙ (sym (entries_push e.sched.journal.log before.note.maker
            (S.Finish before.ticket end verdict stamp))
            ∙ ap (λ (log : Log SchedEntry). entries_of log) (sym made.finished.finished.new_is.log_is));
      };
      going = ap (λ (x : EngineState). x.given_up) made.engine.new_is ∙ shows.going;
      workers = workers_after seats w seat after at_seat names.seats shows.workers
          (ap (λ (s : SeatState). s.number) made.finished.after_is)
          (ap (λ (s : SeatState). s.torn) made.finished.after_is);
      passes = passes_set seats run.made shows.passes w seat after at_seat slot before later
          made.finished.there (ap (λ (s : SeatState). s.passes) made.finished.after_is) ticket_same next.made
          told (λ c f is. is) (ap (λ (t : Ticket). slice_set run.made.passes t.pass told) ticket) shown_after;
      in_hand = hands_after seats w seat after at_seat held hands h H.Nothing (Some hand) None shows.in_hand at_held
          at_hand tt;
    };
  }
