use Rattle.std.proofs.Common.{◌≡◌, ◌≤◌, List, map, length, All, ap, sym, ◌∙◌, subst, false, []}
use Rattle.std.proofs.Common.{sum_by, count_by}
use Rattle.loose_records.specs.declared.record.Record.{Record}
use Rattle.round_ledger.specs.Cells.{HasEnded}
use Rattle.ready_queue.specs.Seats as Q
use Rattle.ready_queue.specs.Rules.{IsSettled}
use Rattle.pass_seats.specs.Desks.{SchedDeskState}
use Rattle.pass_seats.specs.Seats.{SeatState, is_done}
use Rattle.pass_gather.specs.Given.{given_of}
use Rattle.worker_seats.specs.Workers.{IsWorker, Ring, WorkerState}
use Rattle.shared_engine.specs.Rings.{name_of}
use Rattle.engine_gather.specs.Gathering.{core_of}
use Rattle.engine_gather.specs.Columns.{IsFull, column_of}
use Rattle.engine_gather.specs.Parting.{IsAt, first_of, ready_of, row_of}
use Rattle.engine_gather.specs.Seeing.{HaveLooked}
use Rattle.engine_gather.proofs.Looks.{seats_made}
use Rattle.engine_gather.proofs.AllSeats.{boxes_are, seats_at, rows_at, columns_full, line_found, line_fits}
use Rattle.engine_gather.proofs.AllSeats.{cores_all, has_settled, sched_ended, passes_are}
use Rattle.engine_gather.proofs.gathering.gather.Goals as goal

pub take_seats-requires-clause-seats : goal.take_seats-requires-clause-seats
take_seats-requires-clause-seats g c =
    let parts = c.apart-first in
    let turns = parts.result.boxes.items in
    subst (All (IsAt (map name_of turns))) (sym c.into_vec.ensures)
    (seats_at g.N.EngineNames.names c.args.engine c.args.seats c.requires.seats turns parts.result.queue
    parts.ensures.ring)

pub unreachable-requires : goal.unreachable-requires
unreachable-requires g c =
    let names = g.N.EngineNames.names in
    let seats_are = c.into_vec.ensures in
    let workers = subst (All (IsWorker names)) seats_are c.in_ok-columns.ensures.kept in
    c.in_default.not-Some (record { queue = c.args.engine.queue; rows = []; given = names.seats })
    (c.in_ok-columns.ensures.apart.first ∙ ap first_of seats_are
    ∙ line_found names c.args.engine c.args.seats c.requires.seats workers)

pub settle-requires-clause-line : goal.settle-requires-clause-line
settle-requires-clause-line g c =
    let names = g.N.EngineNames.names in
    let apart = c.in_ok-columns.ensures.apart in
    let seats_are = c.into_vec.ensures in
    let workers = subst (All (IsWorker names)) seats_are c.in_ok-columns.ensures.kept in
    line_fits names c.args.engine c.args.seats c.requires.seats workers c.apart-first.result.queue
    c.in_ok-columns.field-0.rows.items c.in-Some.line
    (ap (λ (r : Ring). r.queue) c.apart-first.ensures.ring) (apart.rows ∙ ap (map ready_of) seats_are)
    (sym (ap first_of seats_are) ∙ sym apart.first ∙ c.in-Some.is)

pub settle-requires-clause-rows : goal.settle-requires-clause-rows
settle-requires-clause-rows g c =
    let queue = c.apart-first.result.queue in
    subst (All (λ (r : Q.SeatState). r.queue ≡ queue))
    (sym (c.in_ok-columns.ensures.apart.rows ∙ ap (map ready_of) c.into_vec.ensures))
    (rows_at g.N.EngineNames.names c.args.engine c.args.seats c.requires.seats queue
    (sym (ap (λ (r : Ring). r.queue) c.apart-first.ensures.ring)))

pub close_columns-requires : goal.close_columns-requires
close_columns-requires g c =
    let turns = c.apart-first.result.boxes.items in
    subst (All IsFull)
    (sym (c.in_ok-columns.ensures.apart.columns
    ∙ ap (λ (l : List WorkerState). map (column_of (length l)) turns) c.into_vec.ensures))
    (columns_full g.N.EngineNames.names c.args.engine c.args.seats c.requires.seats turns
    c.apart-first.ensures.turns)

pub gather-requires-clause-boxes : goal.gather-requires-clause-boxes
gather-requires-clause-boxes g c =
    boxes_are g.N.EngineNames.names c.apart-first.result.boxes.items (length c.into_vec.result.items)
    c.in_ok-desks.desks.items c.in_ok-columns.field-0.columns.items c.apart-first.ensures.many c.apart-first.ensures.turns
    c.in_ok-columns.ensures.apart.columns c.in_ok-desks.ensures

pub gather-requires-clause-seats : goal.gather-requires-clause-seats
gather-requires-clause-seats g c =
    let names = g.N.EngineNames.names in
    let cell = c.apart-first.result.sched.cell in
    let workers = subst (All (IsWorker names)) c.into_vec.ensures c.in_ok-columns.ensures.kept in
    let cores = c.in_ok-columns.ensures.apart.cores ∙ ap (map core_of) c.into_vec.ensures in
    let looked = subst (λ (l : List SeatState). HaveLooked names cell l c.in_ok-seen.seen.items) cores
    c.in_ok-seen.ensures.looked in
    cores_all names c.args.engine c.args.seats c.requires.seats workers cell c.in_ok-seen.seen.items looked

pub gather-requires-clause-given : goal.gather-requires-clause-given
gather-requires-clause-given g c =
    let names = g.N.EngineNames.names in
    let cell = c.apart-first.result.sched.cell in
    let seats = c.args.seats in
    let seen = c.in_ok-seen.seen.items in
    let workers = subst (All (IsWorker names)) c.into_vec.ensures c.in_ok-columns.ensures.kept in
    let cores = c.in_ok-columns.ensures.apart.cores ∙ ap (map core_of) c.into_vec.ensures in
    let looked = subst (λ (l : List SeatState). HaveLooked names cell l seen) cores c.in_ok-seen.ensures.looked in
    let items = c.settle.ensures.0 in
    let settled = subst (λ (l : List Q.SeatState). IsSettled items (map row_of l) (length l))
    (c.in_ok-columns.ensures.apart.rows ∙ ap (map ready_of) c.into_vec.ensures) c.settle.ensures.1 in
    subst (λ (d : SchedDeskState). d.cell.broken ≡ false →
    d.cell.machine.starts ≤ sum_by (λ (s : SeatState). count_by is_done s.passes) seen →
    length (given_of seen) ≡ d.cell.machine.starts) (sym c.in_ok-seen.ensures.desk)
    (λ whole all.
    c.all_passes_were_taken.ensures.many names.setting.scheduler cell.machine cell.journal.log items
    (map row_of (map ready_of seats)) seen
    (has_settled names c.args.engine seats c.requires.seats workers cell seen looked whole names.setting.scheduler
    cell.machine items c.facts.ensures.run c.facts.ensures.owners settled) all)

pub gather-requires-clause-ended : goal.gather-requires-clause-ended
gather-requires-clause-ended g c =
    let names = g.N.EngineNames.names in
    let setting = names.setting.scheduler in
    let cell = c.apart-first.result.sched.cell in
    let seats = c.args.seats in
    let seen = c.in_ok-seen.seen.items in
    let workers = subst (All (IsWorker names)) c.into_vec.ensures c.in_ok-columns.ensures.kept in
    let cores = c.in_ok-columns.ensures.apart.cores ∙ ap (map core_of) c.into_vec.ensures in
    let looked = subst (λ (l : List SeatState). HaveLooked names cell l seen) cores c.in_ok-seen.ensures.looked in
    subst (λ (d : SchedDeskState). d.cell.broken ≡ false → HasEnded setting d.cell.machine)
    (sym c.in_ok-seen.ensures.desk)
    (λ whole.
    c.an_end_is_the_end.ensures setting cell.machine cell.journal.log c.facts.ensures.run
    (sched_ended names c.args.engine seats c.requires.seats workers cell seen looked whole setting c.requires.ended))

pub returns : goal.returns
returns g c =
    let names = g.N.EngineNames.names in
    let cell = c.apart-first.result.sched.cell in
    let seats = c.args.seats in
    let seen = c.in_ok-seen.seen.items in
    let r = c.in_ok-record.record in
    let e = c.in_ok-record.ensures in
    let workers = subst (All (IsWorker names)) c.into_vec.ensures c.in_ok-columns.ensures.kept in
    let cores = c.in_ok-columns.ensures.apart.cores ∙ ap (map core_of) c.into_vec.ensures in
    let looked = subst (λ (l : List SeatState). HaveLooked names cell l seen) cores c.in_ok-seen.ensures.looked in
    let whole = subst (λ (d : SchedDeskState). d.cell.broken ≡ false) c.in_ok-seen.ensures.desk e.whole in
    record {
      loose = e.loose;
      first = ap (λ (q : Record). q.first) e.gathered.record_is;
      made = seats_made names cell (map core_of seats) seen looked whole r e.made;
      passes = passes_are names c.args.engine seats c.requires.seats workers cell seen looked whole
          c.see_all.new.desk.cell.machine.starts r.passes e.gathered.passes;
    }
