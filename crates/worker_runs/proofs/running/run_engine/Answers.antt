use Rattle.std.proofs.Common.{subst, sym}
use Rattle.engine_gather.specs.Gathering.{AreAllSeats, HaveSeenEnd}
use Rattle.worker_runs.proofs.SeatsBegun.{new_seat, seats_of}
use Rattle.worker_runs.proofs.SeatsLeft.{all_back, end_seen}
use Rattle.worker_runs.proofs.running.run_engine.Goals as goal

pub work_all-requires-clause-of : goal.work_all-requires-clause-of
work_all-requires-clause-of g c κs lives =
    let names = g.N.EngineNames.names in
    seats_of c.args.engine c.args.seats
    (λ w s at. (new_seat names c.args.engine c.args.seats c.requires.seats w s at).of)

pub gather-requires-clause-seats : goal.gather-requires-clause-seats
gather-requires-clause-seats g c =
    let names = g.N.EngineNames.names in
    subst (AreAllSeats names c.args.engine) (sym c.in_ok-back.ensures.seats)
    (all_back names g.N.CellNames.code g.N.CellNames.first c.args.engine c.args.seats c.requires.seats
    c.requires.some c.in_ok-left.left c.in_ok-left.ensures c.in_ok-back.ensures.none)

pub gather-requires-clause-ended : goal.gather-requires-clause-ended
gather-requires-clause-ended g c =
    let names = g.N.EngineNames.names in
    subst (HaveSeenEnd names.setting.scheduler) (sym c.in_ok-back.ensures.seats)
    (end_seen names g.N.CellNames.code g.N.CellNames.first c.args.engine c.args.seats c.requires.seats
    c.requires.some c.in_ok-left.left c.in_ok-left.ensures c.in_ok-back.ensures.none
    (c.an_answer_shows_the_end.ensures names))
