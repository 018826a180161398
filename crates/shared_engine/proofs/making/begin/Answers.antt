use Rattle.std.proofs.Common.{◌<◌, [], length, refl, sym, ap, ◌∙◌, subst, arith}
use Rattle.std.proofs.lemmas.Option.{slice_get_read}
use Rattle.atomic_blocks.specs.Laid.{WebId}
use Rattle.ready_queue.specs.Seats as Q
use Rattle.round_ledger.specs.Cells.{CellState}
use Rattle.worker_seats.specs.Workers.{WorkerState}
use Rattle.worker_seats.specs.Readies.{StartedAll}
use Rattle.shared_engine.proofs.Seating.{first_queue, has_begun, kept_first, seats_begun}
use Rattle.shared_engine.proofs.making.begin.Goals as goal

pub keep-requires : goal.keep-requires
keep-requires g c =
    let items = c.args.seats.now.items in
    let seat = c.index_mut-seat.result.now in
    let some : 0 < length items = omega (arith, c.requires.some, c.requires.many) in
    let here = slice_get_read items (length items) 0 seat refl some c.index_mut-seat.ensures.value in
    let new = c.requires.new in
    let view : WebId → Q.FirstState = λ q. record { queue = q; rows = []; given = g.N.EngineNames.names.seats } in
    c.requires.line ∙ ap view (sym (first_queue new.0 items seat c.args.queue.now new.2 new.1 here))

pub start_all-requires-clause-queue : goal.start_all-requires-clause-queue
start_all-requires-clause-queue g c =
    let items = c.args.seats.now.items in
    let seat = c.index_mut-seat.result.now in
    let some : 0 < length items = omega (arith, c.requires.some, c.requires.many) in
    let here = slice_get_read items (length items) 0 seat refl some c.index_mut-seat.ensures.value in
    let new = c.requires.new in
    ap (λ (s : WorkerState). s.ready.queue) c.keep.ensures
    ∙ first_queue new.0 items seat c.args.queue.now new.2 new.1 here

pub start_all-requires-clause-whole : goal.start_all-requires-clause-whole
start_all-requires-clause-whole g c =
    let items = c.args.seats.now.items in
    let seat = c.index_mut-seat.result.now in
    let some : 0 < length items = omega (arith, c.requires.some, c.requires.many) in
    let here = slice_get_read items (length items) 0 seat refl some c.index_mut-seat.ensures.value in
    ap (λ (s : WorkerState). s.core.torn) c.keep.ensures ∙ (c.requires.new.2.each 0 seat here).core.whole

pub returns-in-Ok : goal.returns-in-Ok
returns-in-Ok g c = λ ring are.
    let names = g.N.EngineNames.names in
    let items = c.args.seats.now.items in
    let seat = c.index_mut-seat.result.now in
    let some : 0 < length items = omega (arith, c.requires.some, c.requires.many) in
    let here = slice_get_read items (length items) 0 seat refl some c.index_mut-seat.ensures.value in
    let new = c.requires.new in
    let same = first_queue ring items seat ring.queue are refl here in
    let queue = first_queue new.0 items seat c.args.queue.now new.2 new.1 here in
    let view : WebId → Q.FirstState = λ q. record { queue = q; rows = []; given = names.seats } in
    let line = c.requires.line ∙ ap view (sym queue ∙ same) in
    let fresh = kept_first names ring seat c.keep.new.self c.args.line (are.each 0 seat here) c.keep.ensures line in
    seats_begun names ring items c.start_all.new.self c.requires.many are
    (has_begun names ring c.keep.new.self c.start_all.new.self c.start_all.new.desk.cell fresh
    (subst (λ (cell : CellState). StartedAll cell c.start_all.new.desk.cell c.keep.new.self
    c.start_all.new.self) c.requires.desk c.in-Ok.ensures.done) c.start_all.ensures.seat)
