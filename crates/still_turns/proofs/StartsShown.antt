-- A start, or none, of the engine is a turn of the run that it shows.
use Rattle.std.proofs.Common.{◌≡◌, ℕ, ◌+◌, List, [], ◌∷◌, ◌++◌, map, length, refl, sym, ap, ◌∙◌, Some, None, slice_get}
use Rattle.std.proofs.Common.{subst, arith}
use Rattle.std.specs.Prelude.{slice_set, Option}
use Rattle.std.proofs.lemmas.Option.{none-some}
use Rattle.compat_scheduler.specs.Settings.{Setting}
use Rattle.compat_scheduler.specs.Machines.{Machine}
use Rattle.compat_scheduler.specs.Starts.{Starts, NoneStarts}
use Rattle.compat_scheduler.specs.declared.ticket.Ticket.{Ticket}
use Rattle.method_code.specs.Chains.{beginning}
use Rattle.loose_records.specs.declared.record.SchedEntry.{SchedEntry}
use Rattle.loose_records.specs.declared.record.SchedEntry.TheVariants as S
use Rattle.loose_records.specs.Entries.{stamp_of, sched_stamps}
use Rattle.loose_records.specs.Growing.{pass_begun}
use Rattle.loose_records.specs.Turns.{clock_of}
use Rattle.step_journal.specs.Histories.{Log, entries_of}
use Rattle.box_lock.specs.Cells as B
use Rattle.round_ledger.specs.Cells as L
use Rattle.pass_seats.specs.declared.pass.Pass.{Pass}
use Rattle.pass_seats.specs.declared.pass.Done.{Done}
use Rattle.pass_seats.specs.declared.pass.SeatPass.{SeatPass}
use Rattle.pass_seats.specs.Names.{Names}
use Rattle.pass_seats.specs.Seats.{SeatState}
use Rattle.pass_engine.specs.Engines.{EngineState}
use Rattle.pass_engine.specs.Calls.{Started, NoneStarted}
use Rattle.turn_runs.specs.declared.hand.Hand.{Hand}
use Rattle.turn_runs.specs.declared.hand.Progress.TheVariants as P
use Rattle.turn_runs.specs.declared.run.Run.{Run}
use Rattle.turn_runs.specs.RunTurns.{BeginsPass}
use Rattle.turn_runs.proofs.ListLemmas.{at-push}
use Rattle.still_turns.specs.declared.hand.InHand.{InHand}
use Rattle.still_turns.specs.declared.hand.InHand.TheVariants as H
use Rattle.still_turns.specs.Shown.{Shows, ShowsBoxes, ShowsSched, ShowsTurn, IsShown, IsTold, GoesAt, AreNamed}
use Rattle.still_turns.specs.Shown.{IsCommitSoFar}
use Rattle.still_turns.proofs.BoxesShown.{entries_push}
use Rattle.still_turns.proofs.PassesShown.{passes_same, passes_push}
use Rattle.still_turns.proofs.HandsShown.{workers_after, hands_after}

-- the clock of the scheduler is that of its cell
pub sched_clock : (s : Setting) (cell : L.CellState) (run : Run) → ShowsSched s cell run →
    clock_of (sched_stamps run.made) ≡ clock_of (L.log_stamps cell.journal.log)
sched_clock s cell run shows = ap (λ (es : List SchedEntry). clock_of (map stamp_of es)) shows.sched

module _ (names : Names) (e new : EngineState) (seats : List SeatState) (held : List InHand) (run : Run)
    (hands : List (Option Hand)) (w : ℕ) (seat after : SeatState) (shows : Shows names e seats held run hands)
    (at_seat : slice_get seats w ≡ Some seat) (at_held : slice_get held w ≡ Some H.Nothing)
    (at_hand : slice_get hands w ≡ Some None) where
  -- a worker without a pass for which none can start
  pub none_shown : NoneStarted e new seat after →
      ShowsTurn names run hands w None new (slice_set seats w after) (slice_set held w H.Nothing)
  none_shown none = record {
    next = run;
    after = None;
    takes = record {
      none = subst (λ (x : Machine). NoneStarts run.core.setting x) (sym shows.sched.machine)
          (subst (λ (x : Setting). NoneStarts x e.sched.machine)
          (shows.sched.setting ∙ sym shows.sched.core) none.none.none);
      machine = refl;
      made = refl;
    };
    shows = record {
      first = shows.first;
      boxes = subst (λ (x : EngineState). ShowsBoxes x.boxes run.made) (sym none.same) shows.boxes;
      sched = subst (λ (x : EngineState). ShowsSched names.setting.scheduler x.sched run) (sym none.same)
          shows.sched;
      going = ap (λ (x : EngineState). x.given_up) none.same ∙ shows.going;
      workers = workers_after seats w seat after at_seat names.seats shows.workers
          (ap (λ (x : SeatState). x.number) none.none.new_is)
          (ap (λ (x : SeatState). x.torn) none.none.new_is);
      passes = passes_same seats run.made shows.passes w seat after at_seat
          (ap (λ (x : SeatState). x.passes) none.none.new_is);
      in_hand = hands_after seats w seat after at_seat held hands H.Nothing H.Nothing None None shows.in_hand
          at_held at_hand tt;
    };
  }

  -- a worker without a pass for which one has started
  module _ (pass : Pass) (started : Started names e new seat after pass)
      (numbered : length run.made.passes ≡ run.core.machine.starts) where
    -- the pass, and its ticket
    abbrev given : SeatPass
    given = started.made.taken.given

    abbrev ticket : Ticket
    ticket = started.made.item.ticket

    -- the run after the start
    abbrev next : Run
    next = record {
      core = record { setting = run.core.setting; machine = new.sched.machine };
      made = record run.made {
        sched = run.made.sched ++ S.Start ticket started.made.item.stamp ∷ [];
        passes = run.made.passes ++ pass_begun ticket ∷ [];
      };
    }

    -- the pass has the ticket that was started
    ticket_is : given.ticket ≡ ticket
    ticket_is = ap (λ (x : SeatPass). x.ticket) started.made.taken.given_is

    -- nothing was claimed, and it hasn't finished
    undone : given.done ≡ None
    undone = ap (λ (x : SeatPass). x.done) started.made.taken.given_is

    -- what the worker then has in hand
    abbrev hand : Hand
    hand = record {
      ticket = ticket;
      clock = started.made.item.stamp;
      progress = P.Going (beginning names.setting.program ticket.action) names.setting.budget;
    }

    -- it is the pass in the slot at the end of the seat
    passes_are : after.passes ≡ seat.passes ++ given ∷ []
    passes_are =
        ap (λ (x : SeatState). x.passes) started.made.taken.new_is
        ∙ ap (λ (x : SeatState). x.passes ++ given ∷ []) started.made.issued.new_is

    slot_is : pass.slot ≡ length seat.passes
    slot_is =
        ap (λ (x : Pass). x.slot) started.made.taken.pass_is
        ∙ ap (λ (x : SeatState). length x.passes) started.made.issued.new_is

    -- its number is that of the next pass of the record
    number_is : ticket.pass ≡ length run.made.passes
    number_is =
        started.made.issued.starts.next.pass
        ∙ (ap (λ (m : Machine). m.starts) (sym shows.sched.machine) ∙ sym numbered)

    -- the pass is shown
    shown : IsShown next.made given
    shown = record {
      pass = pass_begun ticket;
      there = ap (λ (t : Ticket). slice_get next.made.passes t.pass) ticket_is
          ∙ (ap (λ (n : ℕ). slice_get next.made.passes n) number_is
          ∙ at-push run.made.passes (pass_begun ticket));
      ticket = sym ticket_is;
      claims = ap (λ (x : SeatPass). x.claims) (sym started.made.taken.given_is);
      named = subst (λ (x : SeatPass). AreNamed next.made x.claims) (sym started.made.taken.given_is)
          (record { each = λ k c at. absurd (none-some c at) });
      commit = subst (λ (x : SeatPass). IsCommitSoFar next.made x.claims x.commit)
          (sym started.made.taken.given_is) (record { each = λ k c e at is. absurd (none-some c at) });
      told = subst (λ (d : Option Done). IsTold d given (pass_begun ticket)) (sym undone) tt;
    }

    -- the pass goes on from its beginning
    goes : GoesAt after pass.slot hand
    goes = record {
      pass = given;
      there = ap (λ (n : ℕ). slice_get after.passes n) slot_is
          ∙ (ap (λ (ps : List SeatPass). slice_get ps (length seat.passes)) passes_are
          ∙ at-push seat.passes given);
      holds = record {
        ticket = sym ticket_is;
        clock = ap (λ (x : SeatPass). x.clock) (sym started.made.taken.given_is);
        undone = undone;
      };
      going = ap (λ (x : SeatPass). x.over) started.made.taken.given_is;
      progress = ap (λ (x : SeatPass). P.Going x.control x.budget) (sym started.made.taken.given_is);
    }

    -- the stamp is that after the scheduler's clock
    stamp_is : started.made.item.stamp ≡ 1 + clock_of (sched_stamps run.made)
    stamp_is =
        let a = started.made.issued.stamp in
        let b = sched_clock names.setting.scheduler e.sched run shows.sched in
        omega (arith, a, b)

    -- the pass begins
    begins : BeginsPass names.setting.program run.core.setting names.setting.budget run next hand
    begins = record {
      starts = subst (λ (m : Machine). Starts run.core.setting m ticket new.sched.machine)
          (sym shows.sched.machine)
          (subst (λ (s : Setting). Starts s e.sched.machine ticket new.sched.machine)
          (shows.sched.setting ∙ sym shows.sched.core) started.made.issued.starts);
      stamp = stamp_is;
      progress = refl;
      made = refl;
    }

    -- a start of the engine is one of the run
    pub start_shown : ShowsTurn names run hands w None new (slice_set seats w after)
        (slice_set held w (H.Going pass))
    start_shown = record {
      next = next;
      after = Some hand;
      takes = begins;
      shows = record {
        first = shows.first;
        boxes = subst (λ (cs : List B.CellState). ShowsBoxes cs next.made)
            (sym (ap (λ (x : EngineState). x.boxes) started.engine.new_is))
            (record { boxes = shows.boxes.boxes; last = shows.boxes.last });
        sched = record {
          setting = started.made.issued.after_is.setting ∙ shows.sched.setting;
          core = shows.sched.core;
          machine = refl;
          sched = ap (λ (es : List SchedEntry). es ++ S.Start ticket started.made.item.stamp ∷ [])
              shows.sched.sched
              ∙ (sym (entries_push e.sched.journal.log seat.number
              (S.Start ticket started.made.item.stamp))
              ∙ ap (λ (log : Log SchedEntry). entries_of log) (sym started.made.issued.after_is.log_is));
        };
        going = ap (λ (x : EngineState). x.given_up) started.engine.new_is ∙ shows.going;
        workers = workers_after seats w seat after at_seat names.seats shows.workers
            (ap (λ (x : SeatState). x.number) started.made.taken.new_is
            ∙ ap (λ (x : SeatState). x.number) started.made.issued.new_is)
            (ap (λ (x : SeatState). x.torn) started.made.taken.new_is
            ∙ ap (λ (x : SeatState). x.torn) started.made.issued.new_is);
        passes = passes_push seats run.made shows.passes w seat after at_seat given passes_are next.made
            (pass_begun ticket) (λ c f is. is) refl
            (ap (λ (t : Ticket). t.pass) ticket_is ∙ number_is) shown;
        in_hand = hands_after seats w seat after at_seat held hands H.Nothing (H.Going pass) None (Some hand)
            shows.in_hand at_held at_hand goes;
      };
    }
