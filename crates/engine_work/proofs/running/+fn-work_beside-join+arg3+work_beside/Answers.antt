use denote.Exit.{yes}
use denote.Param.{param}
use denote.Param.Send.{arg_send, sendable, param_send, shr_send}
use Rattle.std.proofs.Common.{subst, List, [], ◌∷◌, ◌++◌, rules, ap, length, ◌≡◌, ◌+◌, map, ◌∙◌}
use Rattle.std.proofs.Crossing.{sync as heap_sync}
use Rattle.shared_engine.proofs.Crossing.{engine_sync}
use Rattle.engine_work.proofs.Crossing.{number_sync, six_send}
use Rattle.std.proofs.lemmas.List.{length_push}
use Rattle.std.proofs.lemmas.Result.{IfOk-at_ok}
use Rattle.worker_seats.proofs.worker_seat.WorkerSeat.TheSendSync as seat
use Rattle.worker_seats.specs.Workers.{WorkerState}
use Rattle.engine_work.specs.declared.working.WorkerRecord.{WorkerRecord}
use Rattle.engine_work.specs.Records.{AreSeatsOf, AreWork, ended_so}
use Rattle.engine_work.proofs.Lists.{seat_last, seats_before, work_more}
use Rattle.engine_work.proofs.running.+fn-work_beside-join+arg3+work_beside.Goals as goal

pub join-record-requires-send-F : goal.join-record-requires-send-F
join-record-requires-send-F g t c κs within =
    let N = param 0 g.row.N in
    let names = g.N.EngineNames in
    let cells = g.N.CellNames in
    let book = g.N.Ledger in
    param_send 1 _ (arg_send _ yes _ (six_send _ _ _ _ _ _ _
    (shr_send _ _ (param 1 g.row.R) c.requires.cross.0)
    (shr_send _ _ _ heap_sync)
    (shr_send _ _ _ (engine_sync _ N names cells book))
    (shr_send _ _ _ number_sync)
    (seat.the_send N names cells book)
    (shr_send _ _ (param 2 g.row.G) c.requires.cross.1)))

pub join-record-requires-after_bounds : goal.join-record-requires-after_bounds
join-record-requires-after_bounds g t c κs within =
    let ring = c.args.engine.now in
    let seats = c.pop.new.self in
    let last = c.in-Some.seat in
    let are : AreSeatsOf ring (seats ++ last ∷ []) =
    subst (λ (l : List WorkerState). AreSeatsOf ring l) c.in-Some.ensures c.requires.of in
    let r = c.requires.cross.0 in
    let gate = c.requires.cross.1 in
    let n = c.requires.cross.2 in
    let m = c.requires.cross.3 in
    let more : length c.args.seats ≡ length seats + 1 =
    ap length c.in-Some.ensures ∙ length_push seats last in (
      (
        search (sendable, r),
        search (sendable, gate),
        search sendable,
        search sendable,
        seat_last ring seats last are,
      ),
      (
        search rules,
        (
          search rules,
          (
            search rules,
            (
              search rules,
              (
                (r, gate, n, m, seats_before ring seats last are, c.requires.none),
                (n, m, r, gate),
              ),
            ),
          ),
        ),
      ),
    )

pub returns : goal.returns
returns g t c =
    let names = g.N.EngineNames.names in
    let code = g.N.CellNames.code in
    let first = g.N.CellNames.first in
    let seats = c.pop.new.self in
    let records = c.in_ok-records.records in
    let left = λ (r : WorkerRecord g.row.N.Denot). ended_so r.seat r.refusal in
    let done = λ (all : List (WorkerRecord g.row.N.Denot)). AreWork names code first seats (map left all) in
    let are : AreWork names code first seats (map left records) =
    IfOk-at_ok done c.in_ok-records.was c.join-record.ensures.second in
    work_more left names code first c.args.seats seats c.in-Some.seat c.push.new.self records
    c.join-record.result.0 c.in-Some.ensures c.in_ok-push.ensures.ok are c.join-record.ensures.first
