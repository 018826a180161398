use Rattle.std.proofs.Common.{List, length, ap, sym, ◌∙◌, subst}
use Rattle.compat_scheduler.specs.Machines.{Machine}
use Rattle.round_ledger.specs.Cells as S
use Rattle.pass_seats.specs.Seats.{SeatState}
use Rattle.pass_gather.specs.Given.{AreSeats, given_of}
use Rattle.pass_gather.specs.Gathered.{AreBoxes}
use Rattle.still_turns.proofs.SeatsWhole.{seats_are}
use Rattle.still_turns.proofs.closing.close.Goals as goal

pub gather-requires-clause-boxes : goal.gather-requires-clause-boxes
gather-requires-clause-boxes g c =
    let e = c.apart-first.ensures in
    subst (AreBoxes g.N.EngineNames.names) (sym e.boxes)
    (record { many = e.kept.many; each = e.kept.numbers })

pub gather-requires-clause-seats : goal.gather-requires-clause-seats
gather-requires-clause-seats g c =
    let names = g.N.EngineNames.names in
    subst (AreSeats names) (sym c.in_ok-cores.ensures.cores)
    (seats_are names c.args.seats.items c.in_ok-cores.ensures.seats c.requires.workers)

pub gather-requires-clause-given : goal.gather-requires-clause-given
gather-requires-clause-given g c = λ _ _.
    ap (λ (l : List SeatState). length (given_of l)) c.in_ok-cores.ensures.cores
    ∙ c.requires.given
    ∙ sym (ap (λ (k : S.CellState). k.machine.starts) c.apart-first.ensures.sched)

pub gather-requires-clause-ended : goal.gather-requires-clause-ended
gather-requires-clause-ended g c = λ _.
    subst (λ (m : Machine). S.HasEnded g.N.EngineNames.names.setting.scheduler m)
    (sym (ap (λ (k : S.CellState). k.machine) c.apart-first.ensures.sched)) c.requires.ended
