-- The seats of an engine that has ended, and what its record is made of.
use Rattle.std.proofs.Common.{◌≡◌, ℕ, suc, List, [], ◌∷◌, ◌++◌, map, length, All, refl, sym, ap, ◌∙◌}
use Rattle.std.proofs.Common.{subst, append_assoc, get_or, false, Some}
use Rattle.std.specs.Prelude.{slice_get}
use Rattle.std.proofs.lemmas.List.{length-map, map-append}
use Rattle.std.proofs.lemmas.List.Elements.{All-map}
use Rattle.std.proofs.lemmas.Option.{slice_get_within, get_or_from_slice_get, slice_get-get_or}
use Rattle.atomic_blocks.specs.Laid.{WebId}
use Rattle.compat_scheduler.specs.Settings.{Setting}
use Rattle.compat_scheduler.specs.Machines.{Machine}
use Rattle.compat_scheduler.specs.Runs.{IsRun}
use Rattle.step_journal.specs.Histories.{Log, IsPrefix}
use Rattle.loose_records.specs.declared.record.SchedEntry.{SchedEntry}
use Rattle.loose_records.specs.declared.record.PassRecord.{PassRecord}
use Rattle.box_lock.specs.Cells as B
use Rattle.box_turn.specs.Seats as T
use Rattle.round_ledger.specs.Cells as S
use Rattle.ready_queue.specs.declared.view.Mark.{Mark}
use Rattle.ready_queue.specs.declared.view.Row.{Row}
use Rattle.ready_queue.specs.Rules.{IsSettled, taken_in}
use Rattle.ready_queue.specs.Seats as Q
use Rattle.pass_seats.specs.declared.pass.SeatPass.{SeatPass}
use Rattle.pass_seats.specs.Names.{Names}
use Rattle.pass_seats.specs.Desks.{BoxDeskState}
use Rattle.pass_seats.specs.Seats.{SeatState}
use Rattle.pass_seats.proofs.Lists.{some_same, at-map, map-at}
use Rattle.pass_gather.specs.Given.{given_of, AreSeats, Lists}
use Rattle.pass_gather.specs.Gathered.{AreBoxes, cell_of}
use Rattle.worker_seats.specs.Marks.{mark_of, own_marks}
use Rattle.worker_seats.specs.Workers.{Ring, WorkerState, IsWorker, IsHome}
use Rattle.worker_seats.proofs.Marks.{marks_seen}
use Rattle.shared_engine.specs.Rings.{AreTurns, name_of, ring_with}
use Rattle.engine_gather.specs.Gathering.{AreAllSeats, AreTheirPasses, BeginsWithEnd, HaveSeenEnd, core_of}
use Rattle.engine_gather.specs.Settled.{HasSettled}
use Rattle.engine_gather.specs.Columns.{ColumnState, IsFull, box_of, column_of, number_of}
use Rattle.engine_gather.specs.Parting.{IsAt, first_of, ready_of, row_of}
use Rattle.engine_gather.specs.Seeing.{HaveLooked}
use Rattle.engine_gather.proofs.Parting.{first_found}
use Rattle.engine_gather.proofs.Looks.{cores_are, cores_see, given_same, sees_at}

-- what holds at each place holds of all
all_at : {A : Type 0} (P : A → Type 0) (xs : List A) → ((k : ℕ) (x : A) → slice_get xs k ≡ Some x → P x) → All P xs
all_at P xs each = λ k d less. each k (get_or xs k d) (slice_get-get_or xs k d less)

-- what holds of all holds of the one at a place
at_place : {A : Type 0} (P : A → Type 0) (xs : List A) (k : ℕ) (x : A) → All P xs → slice_get xs k ≡ Some x → P x
at_place P xs k x all at = subst P (get_or_from_slice_get xs k x x at) (all k x (slice_get_within xs k x at))

-- the number of the box of a turn
abbrev turn_number : T.TurnState ℕ → ℕ
turn_number t = t.names

-- the numbers of the boxes of turns
column_numbers : (n : ℕ) (turns : List (T.TurnState ℕ)) →
    map number_of (map (column_of n) turns) ≡ map turn_number turns
column_numbers n [] = refl
column_numbers n (t ∷ turns) = ap (λ (l : List ℕ). t.names ∷ l) (column_numbers n turns)

-- the desks that come out of turns are of all boxes, by their numbers
pub boxes_are : (names : Names) (turns : List (T.TurnState ℕ)) (n : ℕ) (desks : List BoxDeskState)
    (columns : List ColumnState) → length turns ≡ length names.boxes → AreTurns names turns →
    columns ≡ map (column_of n) turns →
    map box_of desks ≡ map number_of columns → AreBoxes names (map cell_of desks)
boxes_are names turns n desks columns many are is numbers =
    let same : map box_of desks ≡ map turn_number turns =
    numbers ∙ ap (map number_of) is ∙ column_numbers n turns in
    record {
      many = length-map desks cell_of ∙ sym (length-map desks box_of) ∙ ap length same
          ∙ length-map turns turn_number ∙ many;
      each = λ b c at.
          let d = map-at cell_of desks b c at in
          let t = map-at turn_number turns b d.0.cell.number
          (ap (λ (l : List ℕ). slice_get l b) (sym same) ∙ at-map box_of desks b d.0 d.1) in
          ap (λ (k : B.CellState). k.number) (sym d.2) ∙ sym t.2 ∙ (are.each b t.0 t.1).box;
    }

-- what begins with an ended run begins so when it is longer
begins_on : (s : Setting) (seen log : Log SchedEntry) → IsPrefix seen log → BeginsWithEnd s seen → BeginsWithEnd s log
begins_on s seen log on end = record {
  front = end.front;
  begins = (
    end.begins.0 ++ on.0,
    sym (append_assoc end.front end.begins.0 on.0)
        ∙ ap (λ (l : Log SchedEntry). l ++ on.0) end.begins.1 ∙ on.1,
  );
  machine = end.machine;
  run = end.run;
  ended = end.ended;
}

-- what all rows have taken is what the seats were given
taken_are : (seats : List WorkerState) →
    ((w : ℕ) (s : WorkerState) → slice_get seats w ≡ Some s → s.ready.row.taken ≡ map mark_of s.core.passes) →
    taken_in (map row_of (map ready_of seats)) ≡ map mark_of (given_of (map core_of seats))
taken_are [] each = refl
taken_are (s ∷ seats) each =
    let given = given_of (map core_of seats) in
    ap (λ (l : List Mark). l ++ taken_in (map row_of (map ready_of seats))) (each 0 s refl)
    ∙ ap (λ (l : List Mark). map mark_of s.core.passes ++ l) (taken_are seats (λ w t at. each (suc w) t at))
    ∙ sym (map-append mark_of s.core.passes given)

-- all seats of an engine
module _ (names : Names) (ring : Ring) (seats : List WorkerState) (are : AreAllSeats names ring seats) where
  -- they are at its turns
  pub seats_at : (turns : List (T.TurnState ℕ)) (queue : WebId) → ring_with turns queue ≡ ring →
      All (IsAt (map name_of turns)) seats
  seats_at turns queue is =
      all_at (IsAt (map name_of turns)) seats
      (λ w s at. ap (λ (r : Ring). r.turns) ((are.each w s at).of ∙ sym is))

  -- and at its queue
  pub rows_at : (queue : WebId) → ring.queue ≡ queue →
      All (λ (r : Q.SeatState). r.queue ≡ queue) (map ready_of seats)
  rows_at queue is =
      All-map (λ (r : Q.SeatState). r.queue ≡ queue) ready_of seats
      (all_at (λ (s : WorkerState). s.ready.queue ≡ queue) seats
      (λ w s at. ap (λ (r : Ring). r.queue) (are.each w s at).of ∙ is))

  -- all seats have come back to each turn
  pub columns_full : (turns : List (T.TurnState ℕ)) → AreTurns names turns →
      All IsFull (map (column_of (length seats)) turns)
  columns_full turns turned =
      All-map IsFull (column_of (length seats)) turns
      (all_at (λ (t : T.TurnState ℕ). IsFull (column_of (length seats) t)) turns
      (λ b t at. are.many ∙ sym (turned.each b t at).seats))

  module _ (workers : All (IsWorker names) seats) where
    -- the first view is among them
    pub line_found : first_of seats
        ≡ Some (record { queue = ring.queue; rows = []; given = names.seats })
    line_found =
        first_found seats (record { queue = ring.queue; rows = []; given = names.seats }) view are.home.number
        are.home.seat are.home.first are.home.there are.home.keeps
      where
        view : (w : ℕ) (s : WorkerState) (f : Q.FirstState) → slice_get seats w ≡ Some s → s.first ≡ Some f →
            f ≡ record { queue = ring.queue; rows = []; given = names.seats }
        view w s f at keeps =
            let home = (at_place (IsWorker names) seats w s workers at).home in
            let is : f ≡ record { queue = s.ready.queue; rows = []; given = names.seats } =
            subst (IsHome names s.ready.queue) keeps home in
            is ∙ ap (λ (q : WebId). record { queue = q; rows = []; given = names.seats })
            (ap (λ (r : Ring). r.queue) (are.each w s at).of)

    -- it has given a number to each row, and no row has come back to it
    pub line_fits : (queue : WebId) (rows : List Q.SeatState) (line : Q.FirstState) → queue ≡ ring.queue →
        rows ≡ map ready_of seats → first_of seats ≡ Some line →
        line ≡ record { queue = queue; rows = []; given = length rows }
    line_fits queue rows line queue_is rows_are found =
        let many : names.seats ≡ length rows =
        sym are.many ∙ sym (length-map seats ready_of) ∙ sym (ap length rows_are) in
        let at : ring.queue ≡ queue = sym queue_is in
        some_same line (record { queue = ring.queue; rows = []; given = names.seats }) (sym found ∙ line_found)
        ∙ (λ i. record { queue = at i; rows = []; given = many i })

    -- each has looked at the list of the scheduler's cell
    module _ (cell : S.CellState) (cores : List SeatState)
        (looked : HaveLooked names cell (map core_of seats) cores) where
      -- the cores are all seats
      pub cores_all : AreSeats names cores
      cores_all =
          cores_are names cell (map core_of seats) cores looked (length-map seats core_of ∙ are.many)
          (λ w c at.
          let s = map-at core_of seats w c at in
          let is = are.each w s.0 s.1 in (
            ap (λ (t : SeatState). t.number) (sym s.2) ∙ is.number_is,
            ap (λ (t : SeatState). t.torn) (sym s.2) ∙ is.untorn,
          ))

      module _ (whole : cell.broken ≡ false) where
        -- they were given the same passes
        pub cores_given : given_of cores ≡ given_of (map core_of seats)
        cores_given =
            ap given_of (cores_see names cell (map core_of seats) cores looked whole)
            ∙ given_same cell.journal.log (map core_of seats)

        -- what is known of the queue
        pub has_settled : (setting : Setting) (machine : Machine) (items : List Mark) →
            IsRun setting (S.log_events cell.journal.log) machine → All (S.IsOwned names.seats) cell.journal.log →
            IsSettled items (map row_of (map ready_of seats)) (length (map ready_of seats)) →
            HasSettled setting machine cell.journal.log items (map row_of (map ready_of seats)) cores
        has_settled setting machine items run owners settled =
            let many : length cores ≡ names.seats = cores_all.many in
            let rows_many : length (map ready_of seats) ≡ names.seats = length-map seats ready_of ∙ are.many in
            record {
              run = run;
              owners = subst (λ (n : ℕ). All (S.IsOwned n) cell.journal.log) (sym many) owners;
              settled = subst (λ (n : ℕ). IsSettled items (map row_of (map ready_of seats)) n) (rows_many ∙ sym many)
                  settled;
              pushed = All-map (λ (r : Row). r.pushed ≡ own_marks r.number cell.journal.log) row_of (map ready_of seats)
                  (All-map (λ (r : Q.SeatState). r.row.pushed ≡ own_marks r.row.number cell.journal.log) ready_of seats
                  (all_at (λ (s : WorkerState). s.ready.row.pushed ≡ own_marks s.ready.row.number cell.journal.log)
                  seats pushed_at));
              taken = taken_are seats (λ w s at.
                  (at_place (IsWorker names) seats w s workers at).taken (are.each w s at).untorn)
                  ∙ sym (ap (map mark_of) cores_given);
            }
          where
            pushed_at : (w : ℕ) (s : WorkerState) → slice_get seats w ≡ Some s →
                s.ready.row.pushed ≡ own_marks s.ready.row.number cell.journal.log
            pushed_at w s at =
                let worker = at_place (IsWorker names) seats w s workers at in
                let before = (sees_at names cell (map core_of seats) cores looked whole w s.core
                (at-map core_of seats w s at)).before in
                worker.pushed (are.each w s at).untorn
                ∙ marks_seen s.core.number s.core.note.seen cell.journal.log before
                ∙ ap (λ (n : ℕ). own_marks n cell.journal.log) (sym worker.number)

        -- the list of the scheduler begins with a run that has ended
        pub sched_ended : (s : Setting) → HaveSeenEnd s seats → BeginsWithEnd s cell.journal.log
        sched_ended s seen =
            let before = (sees_at names cell (map core_of seats) cores looked whole seen.number seen.seat.core
            (at-map core_of seats seen.number seen.seat seen.there)).before in
            begins_on s seen.seat.core.note.seen cell.journal.log before.front seen.end

        -- the records of the cores' passes are those of the seats'
        pub passes_are : (starts : ℕ) (passes : List PassRecord) → Lists (given_of cores) starts passes →
            AreTheirPasses (map core_of seats) passes
        passes_are starts passes lists = record {
          lists = subst (λ (n : ℕ). Lists (given_of (map core_of seats)) n passes) (sym lists.many)
              (subst (λ (l : List SeatPass). Lists l starts passes) cores_given lists);
        }
