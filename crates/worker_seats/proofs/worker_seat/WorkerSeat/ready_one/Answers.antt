use Rattle.std.proofs.Common.{◌≡◌, ℕ, ap, ◌∙◌, subst, true, false}
use Rattle.std.specs.Prelude.{IfOk, MatchResult}
use Rattle.worker_seats.specs.Workers.{WorkerState, IsSameSeat}
use Rattle.worker_seats.specs.Readies.{Readied, NoneReadied, ReadyRefused}
use Rattle.worker_seats.proofs.Readies.{ready_kept, readied_told, none_told, refused_told, ready_same, left}
use Rattle.worker_seats.proofs.worker_seat.WorkerSeat.ready_one.Goals as goal

pub push_next-requires-clause-pushed : goal.push_next-requires-clause-pushed
push_next-requires-clause-pushed g c =
    c.self.invariant.pushed (ap (λ (s : WorkerState). s.core.torn) c.self.view_is ∙ c.requires.whole)

pub invariant_of-self : goal.invariant_of-self
invariant_of-self g c =
    let k = c.self.inside in
    let s : WorkerState = record { core = k.core; turns = k.turns.items; ready = k.ready; first = k.first } in
    let e = c.push_next.ensures in
    ready_kept g.N.EngineNames.names c.args.desk.now.cell c.push_next.new.desk.cell s c.push_next.new.core
    c.push_next.new.ready c.push_next.result c.self.invariant
    (ap (λ (t : WorkerState). t.core.torn) c.self.view_is ∙ c.requires.whole) e.more e.none e.refused

pub returns-clause-more : goal.returns-clause-more
returns-clause-more g c =
    let k = c.self.inside in
    let s : WorkerState = record { core = k.core; turns = k.turns.items; ready = k.ready; first = k.first } in
    let cell = c.args.desk.now.cell in
    let next = c.push_next.new.desk.cell in
    let new = left g.N.EngineNames.names cell next s c.push_next.new.core c.push_next.new.ready in
    subst (λ (o : WorkerState). IfOk c.push_next.result (λ more. more ≡ true → Readied cell next o new)) c.self.view_is
    (readied_told g.N.EngineNames.names cell next s c.push_next.new.core c.push_next.new.ready c.push_next.result
    c.push_next.ensures.more)

pub returns-clause-none : goal.returns-clause-none
returns-clause-none g c =
    let k = c.self.inside in
    let s : WorkerState = record { core = k.core; turns = k.turns.items; ready = k.ready; first = k.first } in
    let cell = c.args.desk.now.cell in
    let next = c.push_next.new.desk.cell in
    let new = left g.N.EngineNames.names cell next s c.push_next.new.core c.push_next.new.ready in
    subst (λ (o : WorkerState). IfOk c.push_next.result (λ more. more ≡ false → NoneReadied cell next o new))
    c.self.view_is
    (none_told g.N.EngineNames.names cell next s c.push_next.new.core c.push_next.new.ready c.push_next.result
    c.push_next.ensures.none)

pub returns-clause-refused : goal.returns-clause-refused
returns-clause-refused g c =
    let k = c.self.inside in
    let s : WorkerState = record { core = k.core; turns = k.turns.items; ready = k.ready; first = k.first } in
    let cell = c.args.desk.now.cell in
    let next = c.push_next.new.desk.cell in
    let new = left g.N.EngineNames.names cell next s c.push_next.new.core c.push_next.new.ready in
    subst (λ (o : WorkerState). MatchResult c.push_next.result (λ _. ℕ) (ReadyRefused cell next o new)) c.self.view_is
    (refused_told g.N.EngineNames.names cell next s c.push_next.new.core c.push_next.new.ready c.push_next.result
    c.push_next.ensures.refused)

pub returns-clause-seat : goal.returns-clause-seat
returns-clause-seat g c =
    let k = c.self.inside in
    let s : WorkerState = record { core = k.core; turns = k.turns.items; ready = k.ready; first = k.first } in
    let cell = c.args.desk.now.cell in
    let next = c.push_next.new.desk.cell in
    let new = left g.N.EngineNames.names cell next s c.push_next.new.core c.push_next.new.ready in
    let e = c.push_next.ensures in
    subst (λ (o : WorkerState). IsSameSeat o new) c.self.view_is
    (ready_same g.N.EngineNames.names cell next s c.push_next.new.core c.push_next.new.ready c.push_next.result
    e.more e.none e.refused)
