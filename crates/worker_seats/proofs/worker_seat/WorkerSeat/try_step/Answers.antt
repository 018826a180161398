use Rattle.std.proofs.Common.{◌≡◌, ℕ, length, set, List, refl, sym, ap, ◌∙◌, subst, Some}
use Rattle.std.specs.Prelude.{slice_get, IfOk, MatchResult}
use Rattle.std.proofs.lemmas.Option.{slice_get_read, slice_get_within}
use Rattle.box_turn.specs.Seats as T
use Rattle.pass_seats.specs.Steps.{IsOpen, AdvancedAt, DeskRefused}
use Rattle.pass_seats.proofs.Lists.{some_same}
use Rattle.worker_seats.specs.Workers.{WorkerState, IsWorker, IsSameSeat, with_core}
use Rattle.worker_seats.specs.Tries.{Tries, StepRefused}
use Rattle.worker_seats.proofs.Workers.{core_same}
use Rattle.worker_seats.proofs.Tries.{missed_kept, missed_is, missed_same, back_again, turns_back, made_kept}
use Rattle.worker_seats.proofs.Tries.{made_number, tried_done, tried_refused}
use Rattle.worker_seats.proofs.worker_seat.WorkerSeat.try_step.Goals as goal

pub try_take-requires-clause-free : goal.try_take-requires-clause-free
try_take-requires-clause-free g c =
    let turns = c.self.inside.turns.items in
    let was = c.index_mut-seat.result.now in
    let mine = subst (λ (s : WorkerState). slice_get s.turns c.args.number ≡ Some c.requires.turn.0)
    (sym c.self.view_is) c.requires.turn.1 in
    let at = slice_get_read turns (length turns) c.args.number was refl
    (slice_get_within turns c.args.number c.requires.turn.0 mine) c.index_mut-seat.ensures.value in
    (c.self.invariant.turns c.args.number was at).free

pub invariant_of-self : goal.invariant_of-self
invariant_of-self g c =
    let k = c.self.inside in
    let turns = k.turns.items in
    let s : WorkerState = record { core = k.core; turns = turns; ready = k.ready; first = k.first } in
    let was = c.index_mut-seat.result.now in
    let mine = subst (λ (s : WorkerState). slice_get s.turns c.args.number ≡ Some c.requires.turn.0)
    (sym c.self.view_is) c.requires.turn.1 in
    let at = slice_get_read turns (length turns) c.args.number was refl
    (slice_get_within turns c.args.number c.requires.turn.0 mine) c.index_mut-seat.ensures.value in
    subst (λ (x : T.SeatState ℕ). IsWorker g.N.EngineNames.names (record s { turns = set turns c.args.number x }))
    (sym c.in_default.ensures.missed)
    (missed_kept g.N.EngineNames.names s c.self.invariant c.args.number was at)

pub returns-in_default-clause-done : goal.returns-in_default-clause-done
returns-in_default-clause-done g c =
    let k = c.self.inside in
    let turns = k.turns.items in
    let s : WorkerState = record { core = k.core; turns = turns; ready = k.ready; first = k.first } in
    let was = c.index_mut-seat.result.now in
    let mine = subst (λ (s : WorkerState). slice_get s.turns c.args.number ≡ Some c.requires.turn.0)
    (sym c.self.view_is) c.requires.turn.1 in
    let at = slice_get_read turns (length turns) c.args.number was refl
    (slice_get_within turns c.args.number c.requires.turn.0 mine) c.index_mut-seat.ensures.value in
    missed_is s c.args.self.now c.args.number was c.try_take.new.seat c.self.view_is at c.in_default.ensures.missed

pub returns-in_default-clause-seat : goal.returns-in_default-clause-seat
returns-in_default-clause-seat g c =
    let k = c.self.inside in
    let turns = k.turns.items in
    let s : WorkerState = record { core = k.core; turns = turns; ready = k.ready; first = k.first } in
    let was = c.index_mut-seat.result.now in
    let mine = subst (λ (s : WorkerState). slice_get s.turns c.args.number ≡ Some c.requires.turn.0)
    (sym c.self.view_is) c.requires.turn.1 in
    let at = slice_get_read turns (length turns) c.args.number was refl
    (slice_get_within turns c.args.number c.requires.turn.0 mine) c.index_mut-seat.ensures.value in
    missed_same c.args.number c.args.self.now (record s { turns = set turns c.args.number c.try_take.new.seat })
    (missed_is s c.args.self.now c.args.number was c.try_take.new.seat c.self.view_is at c.in_default.ensures.missed)

pub advance-made-requires-clause-open : goal.advance-made-requires-clause-open
advance-made-requires-clause-open g c =
    let turns = c.self.inside.turns.items in
    let was = c.index_mut-seat.result.now in
    let mine = subst (λ (s : WorkerState). slice_get s.turns c.args.number ≡ Some c.requires.turn.0)
    (sym c.self.view_is) c.requires.turn.1 in
    let at = slice_get_read turns (length turns) c.args.number was refl
    (slice_get_within turns c.args.number c.requires.turn.0 mine) c.index_mut-seat.ensures.value in
    let box : c.in-Some.held.cell.number ≡ c.args.number =
    c.in-Some.ensures.kept ∙ (c.self.invariant.turns c.args.number was at).box in
    subst (λ (n : ℕ). IsOpen c.self.inside.core c.args.slot n) (sym box)
    (subst (λ (s : WorkerState). IsOpen s.core c.args.slot c.args.number) (sym c.self.view_is) c.requires.open)

pub give-requires-clause-turn : goal.give-requires-clause-turn
give-requires-clause-turn g c =
    let turns = c.self.inside.turns.items in
    let was = c.index_mut-seat.result.now in
    let mine = subst (λ (s : WorkerState). slice_get s.turns c.args.number ≡ Some c.requires.turn.0)
    (sym c.self.view_is) c.requires.turn.1 in
    let at = slice_get_read turns (length turns) c.args.number was refl
    (slice_get_within turns c.args.number c.requires.turn.0 mine) c.index_mut-seat.ensures.value in
    let same = some_same was c.requires.turn.0 (sym at ∙ mine) in
    ap (λ (t : T.SeatState ℕ). t.turn) c.in-Some.ensures.taken ∙ ap (λ (t : T.SeatState ℕ). t.turn) same
    ∙ c.requires.turn.2

pub invariant_of-self-2 : goal.invariant_of-self-2
invariant_of-self-2 g c =
    let k = c.self.inside in
    let turns = k.turns.items in
    let s : WorkerState = record { core = k.core; turns = turns; ready = k.ready; first = k.first } in
    let was = c.index_mut-seat.result.now in
    let mine = subst (λ (s : WorkerState). slice_get s.turns c.args.number ≡ Some c.requires.turn.0)
    (sym c.self.view_is) c.requires.turn.1 in
    let at = slice_get_read turns (length turns) c.args.number was refl
    (slice_get_within turns c.args.number c.requires.turn.0 mine) c.index_mut-seat.ensures.value in
    let free = (c.self.invariant.turns c.args.number was at).free in
    let back = turns_back turns c.args.number was c.give.new.seat at
    (back_again was c.try_take.new.seat c.give.new.seat free c.in-Some.ensures.taken c.give.ensures) in
    let new = c.advance-made.new.seat in
    subst (λ (ts : List (T.SeatState ℕ)). IsWorker g.N.EngineNames.names (record s { core = new; turns = ts }))
    (sym back)
    (made_kept g.N.EngineNames.names.setting.program g.N.CellNames.code g.N.CellNames.first g.N.EngineNames.names
    c.in-Some.held.cell c.advance-made.new.self.cell s new c.args.slot c.advance-made.result c.self.invariant
    c.advance-made.ensures.done c.advance-made.ensures.refused)

pub returns-clause-done : goal.returns-clause-done
returns-clause-done g c =
    let program = g.N.EngineNames.names.setting.program in
    let code = g.N.CellNames.code in
    let first = g.N.CellNames.first in
    let k = c.self.inside in
    let turns = k.turns.items in
    let s : WorkerState = record { core = k.core; turns = turns; ready = k.ready; first = k.first } in
    let was = c.index_mut-seat.result.now in
    let mine = subst (λ (s : WorkerState). slice_get s.turns c.args.number ≡ Some c.requires.turn.0)
    (sym c.self.view_is) c.requires.turn.1 in
    let at = slice_get_read turns (length turns) c.args.number was refl
    (slice_get_within turns c.args.number c.requires.turn.0 mine) c.index_mut-seat.ensures.value in
    let is = c.self.invariant.turns c.args.number was at in
    let back = turns_back turns c.args.number was c.give.new.seat at
    (back_again was c.try_take.new.seat c.give.new.seat is.free c.in-Some.ensures.taken c.give.ensures) in
    let core = c.advance-made.new.seat in
    let new : WorkerState = record s { core = core; turns = set turns c.args.number c.give.new.seat } in
    let rest : new ≡ with_core c.args.self.now core =
    ap (λ (ts : List (T.SeatState ℕ)). record s { core = core; turns = ts }) back
    ∙ ap (λ (o : WorkerState). with_core o core) c.self.view_is in
    let done = subst (λ (o : WorkerState). IfOk c.advance-made.result
    (AdvancedAt program code first c.in-Some.held.cell c.advance-made.new.self.cell o.core core c.args.slot))
    c.self.view_is c.advance-made.ensures.done in
    subst (λ r. IfOk r (Tries program code first c.args.self.now new c.args.slot c.args.number)) (sym c.tried.ensures)
    (tried_done program code first c.in-Some.held.cell c.advance-made.new.self.cell c.args.self.now new c.args.slot
    c.args.number (c.in-Some.ensures.kept ∙ is.box) rest c.advance-made.result done)

pub returns-clause-refused : goal.returns-clause-refused
returns-clause-refused g c =
    let program = g.N.EngineNames.names.setting.program in
    let code = g.N.CellNames.code in
    let first = g.N.CellNames.first in
    let k = c.self.inside in
    let turns = k.turns.items in
    let s : WorkerState = record { core = k.core; turns = turns; ready = k.ready; first = k.first } in
    let was = c.index_mut-seat.result.now in
    let mine = subst (λ (s : WorkerState). slice_get s.turns c.args.number ≡ Some c.requires.turn.0)
    (sym c.self.view_is) c.requires.turn.1 in
    let at = slice_get_read turns (length turns) c.args.number was refl
    (slice_get_within turns c.args.number c.requires.turn.0 mine) c.index_mut-seat.ensures.value in
    let is = c.self.invariant.turns c.args.number was at in
    let back = turns_back turns c.args.number was c.give.new.seat at
    (back_again was c.try_take.new.seat c.give.new.seat is.free c.in-Some.ensures.taken c.give.ensures) in
    let core = c.advance-made.new.seat in
    let new : WorkerState = record s { core = core; turns = set turns c.args.number c.give.new.seat } in
    let rest : new ≡ with_core c.args.self.now core =
    ap (λ (ts : List (T.SeatState ℕ)). record s { core = core; turns = ts }) back
    ∙ ap (λ (o : WorkerState). with_core o core) c.self.view_is in
    let refused = subst (λ (o : WorkerState). MatchResult c.advance-made.result (λ _. ℕ)
    (DeskRefused c.in-Some.held.cell o.core core c.args.slot)) c.self.view_is c.advance-made.ensures.refused in
    subst (λ r. MatchResult r (λ _. ℕ) (StepRefused c.args.self.now new c.args.slot c.args.number))
    (sym c.tried.ensures)
    (tried_refused program code first c.in-Some.held.cell c.advance-made.new.self.cell c.args.self.now new c.args.slot
    c.args.number (c.in-Some.ensures.kept ∙ is.box) rest c.advance-made.result refused)

pub returns-clause-seat : goal.returns-clause-seat
returns-clause-seat g c =
    let k = c.self.inside in
    let turns = k.turns.items in
    let s : WorkerState = record { core = k.core; turns = turns; ready = k.ready; first = k.first } in
    let was = c.index_mut-seat.result.now in
    let mine = subst (λ (s : WorkerState). slice_get s.turns c.args.number ≡ Some c.requires.turn.0)
    (sym c.self.view_is) c.requires.turn.1 in
    let at = slice_get_read turns (length turns) c.args.number was refl
    (slice_get_within turns c.args.number c.requires.turn.0 mine) c.index_mut-seat.ensures.value in
    let is = c.self.invariant.turns c.args.number was at in
    let back = turns_back turns c.args.number was c.give.new.seat at
    (back_again was c.try_take.new.seat c.give.new.seat is.free c.in-Some.ensures.taken c.give.ensures) in
    let core = c.advance-made.new.seat in
    let new : WorkerState = record s { core = core; turns = set turns c.args.number c.give.new.seat } in
    let rest : with_core s core ≡ new =
    sym (ap (λ (ts : List (T.SeatState ℕ)). record s { core = core; turns = ts }) back) in
    let number = made_number g.N.EngineNames.names.setting.program g.N.CellNames.code g.N.CellNames.first
    c.in-Some.held.cell c.advance-made.new.self.cell s core c.args.slot c.advance-made.result
    c.advance-made.ensures.done c.advance-made.ensures.refused in
    subst (λ (o : WorkerState). IsSameSeat o new) c.self.view_is
    (subst (IsSameSeat s) rest (core_same s core number))
