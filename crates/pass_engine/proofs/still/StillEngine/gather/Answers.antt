use Rattle.std.proofs.Common.{◌≡◌, ℕ, List, length, map, All, ap, sym, ◌∙◌, subst, false}
use Rattle.std.proofs.lemmas.List.{length-map}
use Rattle.compat_scheduler.specs.Machines.{Machine}
use Rattle.box_lock.specs.Cells as B
use Rattle.round_ledger.specs.Cells as S
use Rattle.pass_seats.specs.Desks.{SchedDeskState}
use Rattle.pass_seats.specs.Seats.{SeatState}
use Rattle.pass_gather.specs.Given.{AreSeats, given_of}
use Rattle.pass_gather.specs.Gathered.{AreBoxes, IsGathered}
use Rattle.pass_gather.specs.Made.{SeatsMade}
use Rattle.loose_records.specs.declared.record.Record.{Record}
use Rattle.pass_engine.specs.Engines.{cells_of}
use Rattle.pass_engine.specs.Gathering.{SeesAll, seen_with}
use Rattle.pass_engine.proofs.Seeing.{none_torn, cores_are, cores_took, seats_gathered, seats_made}
use Rattle.pass_engine.proofs.still.StillEngine.gather.Goals as goal

pub see_all-requires-clause-working : goal.see_all-requires-clause-working
see_all-requires-clause-working g c =
    let e = c.apart-first.ensures in
    ap (λ (k : S.CellState). k.broken) e.sched ∙ (e.kept.whole c.requires.going).sched

pub see_all-requires-clause-whole : goal.see_all-requires-clause-whole
see_all-requires-clause-whole g c =
    subst (All (λ (s : SeatState). s.torn ≡ false)) (sym c.into_vec.ensures)
    (none_torn g.N.EngineNames.names c.args.seats c.requires.seats)

pub gather-requires-clause-boxes : goal.gather-requires-clause-boxes
gather-requires-clause-boxes g c =
    let e = c.apart-first.ensures in
    subst (AreBoxes g.N.EngineNames.names) (sym e.boxes)
    (record { many = e.kept.many; each = e.kept.numbers })

pub gather-requires-clause-seats : goal.gather-requires-clause-seats
gather-requires-clause-seats g c =
    let names = g.N.EngineNames.names in
    let log = c.apart-first.result.sched.cell.journal.log in
    let seats = c.args.seats in
    let see = subst (All (SeesAll names log)) c.into_vec.ensures c.in_ok-cores.ensures.sees in
    let cores = c.in_ok-cores.ensures.cores ∙ ap (map (seen_with log)) c.into_vec.ensures in
    subst (AreSeats names) (sym cores) (cores_are names log seats see c.requires.seats)

pub gather-requires-clause-given : goal.gather-requires-clause-given
gather-requires-clause-given g c =
    let names = g.N.EngineNames.names in
    let cell = c.apart-first.result.sched.cell in
    let log = cell.journal.log in
    let seats = c.args.seats in
    let see = subst (All (SeesAll names log)) c.into_vec.ensures c.in_ok-cores.ensures.sees in
    let cores = c.in_ok-cores.ensures.cores ∙ ap (map (seen_with log)) c.into_vec.ensures in
    let many : length (map (seen_with log) seats) ≡ names.seats =
    length-map seats (seen_with log) ∙ c.requires.seats.many in
    let owners = subst (λ (n : ℕ). All (S.IsOwned n) log) (sym many) c.facts.ensures.owners in
    λ _ _.
    ap (λ (l : List SeatState). length (given_of l)) cores
    ∙ c.all_starts_were_given.ensures names.setting.scheduler cell.machine log (map (seen_with log) seats)
    c.facts.ensures.run owners (cores_took names log seats see c.requires.seats)
    ∙ sym (ap (λ (d : SchedDeskState). d.cell.machine.starts) c.in_ok-cores.ensures.desk)

pub gather-requires-clause-ended : goal.gather-requires-clause-ended
gather-requires-clause-ended g c =
    let sched_is = ap (λ (d : SchedDeskState). d.cell) c.in_ok-cores.ensures.desk
    ∙ c.apart-first.ensures.sched in
    λ _.
    subst (λ (m : Machine). S.HasEnded g.N.EngineNames.names.setting.scheduler m)
    (sym (ap (λ (k : S.CellState). k.machine) sched_is)) c.requires.ended

pub returns : goal.returns
returns g c =
    let names = g.N.EngineNames.names in
    let e = c.apart-first.ensures in
    let log = c.apart-first.result.sched.cell.journal.log in
    let seats = c.args.seats in
    let r = c.in_ok-record.record in
    let see = subst (All (SeesAll names log)) c.into_vec.ensures c.in_ok-cores.ensures.sees in
    let cores = c.in_ok-cores.ensures.cores ∙ ap (map (seen_with log)) c.into_vec.ensures in
    let sched_is = ap (λ (d : SchedDeskState). d.cell) c.in_ok-cores.ensures.desk ∙ e.sched in
    let gathered : IsGathered names.first c.args.self.boxes c.args.self.sched (map (seen_with log) seats) r =
    subst (λ (l : List B.CellState). IsGathered names.first l c.args.self.sched
    (map (seen_with log) seats) r) e.boxes
    (subst (λ (k : S.CellState).
    IsGathered names.first (cells_of c.apart-first.result.boxes.items) k (map (seen_with log) seats) r)
    sched_is
    (subst (λ (l : List SeatState).
    IsGathered names.first (cells_of c.apart-first.result.boxes.items) c.see_all.new.desk.cell l r) cores
    c.in_ok-record.ensures.gathered)) in
    record {
      gathered = seats_gathered names.first c.args.self.boxes c.args.self.sched log seats r gathered;
      loose = c.in_ok-record.ensures.loose;
      first = ap (λ (q : Record). q.first) gathered.record_is;
      made = seats_made names log seats see r
          (subst (λ (l : List SeatState). SeatsMade l r) cores c.in_ok-record.ensures.made);
    }
