-- The record that is gathered from an engine is the one that it shows.
use Rattle.std.proofs.Common.{◌≡◌, ℕ, List, [], ◌∷◌, map, length, refl, sym, ap, ◌∙◌, Some, slice_get, subst}
use Rattle.std.specs.Prelude.{Option}
use Rattle.std.proofs.lemmas.Option.{same_Some}
use Rattle.step_journal.specs.Histories.{entries_of}
use Rattle.loose_records.specs.declared.record.BoxEntry.{BoxEntry}
use Rattle.loose_records.specs.declared.record.PassRecord.{PassRecord}
use Rattle.loose_records.specs.declared.record.Record.{Record}
use Rattle.compat_scheduler.specs.Machines.{Machine}
use Rattle.box_lock.specs.Cells.{CellState}
use Rattle.pass_seats.specs.declared.pass.Done.{Done}
use Rattle.pass_seats.specs.declared.pass.SeatPass.{SeatPass}
use Rattle.pass_seats.specs.Names.{Names}
use Rattle.pass_seats.specs.Seats.{SeatState}
use Rattle.pass_gather.specs.Given.{given_of, Lists, IsRecordOf, Tells}
use Rattle.pass_gather.specs.Gathered.{IsGathered, log_in}
use Rattle.pass_engine.specs.Engines.{EngineState}
use Rattle.turn_runs.specs.declared.hand.Hand.{Hand}
use Rattle.turn_runs.specs.declared.run.Run.{Run}
use Rattle.still_turns.specs.declared.hand.InHand.{InHand}
use Rattle.still_turns.specs.Shown.{Shows, IsTold, TellsDone, entries_in}
use Rattle.still_turns.proofs.ListPlaces.{same_list, given_slot}

-- the entries of the journals of cells
logs_are : (cells : List CellState) → map entries_of (map log_in cells) ≡ map entries_in cells
logs_are [] = refl
logs_are (c ∷ cells) = ap (λ (bs : List (List BoxEntry)). entries_in c ∷ bs) (logs_are cells)

-- the record of a finished pass is the one that is shown
told_is : (p : SeatPass) (d : Done) (r m : PassRecord) → Tells p r → p.done ≡ Some d → m.ticket ≡ p.ticket →
    m.claims ≡ p.claims → TellsDone p d m → r ≡ m
told_is p d r m tells done ticket claims told = λ i. record {
  ticket = (tells.ticket ∙ sym ticket) i;
  claims = (tells.claims ∙ sym claims) i;
  commit = sym (told.commit r.commit tells.commit) i;
  end = same_Some r.end m.end (sym tells.over ∙ told.over) i;
  verdict = (tells.verdict ∙ (ap (λ (x : Done). x.verdict)
      (same_Some tells.done d (sym tells.done_is ∙ done)) ∙ sym told.verdict)) i;
}

module _ (names : Names) (e : EngineState) (seats : List SeatState) (held : List InHand) (run : Run)
    (hands : List (Option Hand)) (shows : Shows names e seats held run hands)
    (numbered : length run.made.passes ≡ run.core.machine.starts) where
  -- a listed pass is the one that is shown
  listed : (i : ℕ) (r : PassRecord) → IsRecordOf (given_of seats) i r → slice_get run.made.passes i ≡ Some r
  listed i r is =
      let slot = given_slot seats is.slot is.pass is.there in
      let shown = shows.passes.each slot.0 slot.1 is.pass slot.2 in
      let told : TellsDone is.pass is.tells.done shown.pass =
      subst (λ (d : Option Done). IsTold d is.pass shown.pass) is.tells.done_is shown.told in
      ap (λ (n : ℕ). slice_get run.made.passes n) (sym is.number_is)
      ∙ (shown.there
      ∙ ap Some (sym (told_is is.pass is.tells.done r shown.pass is.tells is.tells.done_is shown.ticket
      shown.claims told)))

  -- the passes are those of the run
  passes_are : (passes : List PassRecord) → Lists (given_of seats) e.sched.machine.starts passes →
      passes ≡ run.made.passes
  passes_are passes lists =
      same_list passes run.made.passes
      (lists.many ∙ (ap (λ (m : Machine). m.starts) (sym shows.sched.machine) ∙ sym numbered))
      (λ i r at. listed i r (lists.each i r at))

  -- the gathered record is that of the run
  pub gathered_is : (r : Record) → IsGathered names.first e.boxes e.sched seats r → r ≡ run.made
  gathered_is r is = is.record_is ∙ (λ i. record {
    first = sym shows.first i;
    last = sym shows.boxes.last i;
    boxes = (logs_are e.boxes ∙ sym shows.boxes.boxes) i;
    sched = sym shows.sched.sched i;
    passes = passes_are r.passes is.passes i;
  })

  -- as many passes were given as were started
  pub all_given : length (given_of seats) ≡ e.sched.machine.starts
  all_given = shows.passes.many ∙ (numbered ∙ ap (λ (m : Machine). m.starts) shows.sched.machine)
