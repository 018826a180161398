use Rattle.std.proofs.Common.{◌≡◌, ℕ, ◌<◌, length, refl, sym, ap, ◌∙◌, arith, subst}
use Rattle.std.specs.Prelude.{IfOk, MatchResult, OnOk}
use Rattle.std.proofs.lemmas.Option.{slice_get_read}
use Rattle.worker_seats.specs.Workers.{Ring, WorkerState, ring_of}
use Rattle.worker_seats.specs.declared.progress.TryProgress.{TryProgress}
use Rattle.shared_engine.specs.Calls.{KeepsOthers, MayTryOn, Tried, TryRefused}
use Rattle.shared_engine.proofs.Keeping.{ring_turn, tried_told, untried_told}
use Rattle.shared_engine.proofs.Others.{tried_next, tried_others}
use Rattle.shared_engine.proofs.engine.Engine.try_advance.Goals as goal

pub try_step-requires-clause-turn : goal.try_step-requires-clause-turn
try_step-requires-clause-turn g c =
    let boxes = c.self.inside.boxes.items in
    let whole = ap (λ (s : WorkerState). s.core.torn) c.in_default.ensures.0 ∙ c.in_default.ensures.2 in
    let within : c.box_of-number.result < length boxes =
    omega (arith, c.box_of-number.ensures.there whole, c.self.invariant.1) in
    let at = slice_get_read boxes (length boxes) c.box_of-number.result c.index-turn.result.now refl within
    c.index-turn.ensures in
    let ring : ring_of c.look.new.self ≡ c.args.self.now = ap ring_of c.in_default.ensures.0 ∙ c.requires.of in
    ring_turn c.look.new.self.turns boxes c.box_of-number.result c.index-turn.result.now
    (ap (λ (r : Ring). r.turns) (ring ∙ sym c.self.view_is)) at

pub returns-clause-done : goal.returns-clause-done
returns-clause-done g c =
    let program = g.N.EngineNames.names.setting.program in
    subst (λ (slot : ℕ). IfOk c.try_step.result (Tried program g.N.CellNames.code g.N.CellNames.first
    c.args.seat.now c.try_step.new.self slot)) c.slot-slot.ensures
    (tried_told program g.N.CellNames.code g.N.CellNames.first c.args.seat.now c.look.new.self c.try_step.new.self
    c.slot-slot.result c.box_of-number.result c.try_step.result c.in_default.ensures.0 c.box_of-number.ensures.open
    c.try_step.ensures.done)

pub returns-clause-next : goal.returns-clause-next
returns-clause-next g c =
    let names = g.N.EngineNames.names in
    let slot = c.slot-slot.result in
    let tried = tried_told names.setting.program g.N.CellNames.code g.N.CellNames.first c.args.seat.now
    c.look.new.self c.try_step.new.self slot c.box_of-number.result c.try_step.result
    c.in_default.ensures.0 c.box_of-number.ensures.open c.try_step.ensures.done in
    subst (λ (k : ℕ). IfOk c.try_step.result (λ (p : TryProgress). MayTryOn p c.try_step.new.self.core k))
    c.slot-slot.ensures
    (tried_next names.setting.program g.N.CellNames.code g.N.CellNames.first c.args.seat.now c.try_step.new.self
    slot c.passes_go_on.ensures.stepped names c.try_step.result c.facts.ensures.core c.in_default.ensures.2 tried)

pub returns-clause-others : goal.returns-clause-others
returns-clause-others g c =
    let program = g.N.EngineNames.names.setting.program in
    let slot = c.slot-slot.result in
    let tried = tried_told program g.N.CellNames.code g.N.CellNames.first c.args.seat.now c.look.new.self
    c.try_step.new.self slot c.box_of-number.result c.try_step.result c.in_default.ensures.0
    c.box_of-number.ensures.open c.try_step.ensures.done in
    subst (λ (k : ℕ). OnOk c.try_step.result (KeepsOthers c.args.seat.now c.try_step.new.self k))
    c.slot-slot.ensures
    (tried_others program g.N.CellNames.code g.N.CellNames.first c.args.seat.now c.try_step.new.self slot
    c.passes_go_on.ensures.others c.try_step.result tried)

pub returns-clause-refused : goal.returns-clause-refused
returns-clause-refused g c =
    subst (λ (slot : ℕ). MatchResult c.try_step.result (λ _. ℕ)
    (TryRefused c.args.seat.now c.try_step.new.self slot)) c.slot-slot.ensures
    (untried_told c.args.seat.now c.look.new.self c.try_step.new.self c.slot-slot.result c.box_of-number.result
    c.try_step.result c.in_default.ensures.0 c.box_of-number.ensures.open c.try_step.ensures.refused)
