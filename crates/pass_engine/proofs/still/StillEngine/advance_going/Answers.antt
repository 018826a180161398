use Rattle.std.proofs.Common.{◌≡◌, ℕ, ◌<◌, sym, ap, ◌∙◌, refl, subst, length, map, set, false, List, Option}
use Rattle.std.proofs.Common.{Some, None, arith}
use Rattle.std.specs.Prelude.{IfOk, MatchResult, slice_get}
use Rattle.std.proofs.lemmas.Option.{slice_get_read}
use Rattle.std.proofs.lemmas.List.{length-map, map-set}
use Rattle.box_lock.specs.Cells as B
use Rattle.pass_seats.specs.Seats.{SeatState}
use Rattle.pass_seats.specs.Steps.{IsOpen}
use Rattle.pass_seats.proofs.Lists.{at-map}
use Rattle.pass_engine.specs.Engines.{EngineState, engine_of, cell_of, IsEngine}
use Rattle.pass_engine.specs.Calls.{given_up_after, StepMade, StepRefused, IsAt}
use Rattle.pass_engine.proofs.Keeping.{with_cells, box_kept, whole_seat, told}
use Rattle.pass_engine.proofs.Stepping.{step_worker, step_unbroken, step_made, step_refused}
use Rattle.pass_engine.proofs.still.StillEngine.advance_going.Goals as goal

pub advance-made-requires-clause-open : goal.advance-made-requires-clause-open
advance-made-requires-clause-open g c =
    let k = c.self.inside in
    let old = engine_of k.boxes.items k.sched k.given_up in
    let going : old.given_up ≡ None = ap (λ (e : EngineState). e.given_up) c.self.view_is
    ∙ c.requires.going in
    let core = c.seat.inside.core in
    let whole : core.torn ≡ false = ap (λ (s : SeatState). s.torn) c.seat.view_is
    ∙ whole_seat c.args.self.now c.args.seat.now c.requires.going c.requires.of in
    let number = c.number-number.result in
    let desk = c.index_mut-desk.result.now in
    let b = c.box_of-b.result in
    let items = k.boxes.items in
    let many : length items ≡ length g.N.EngineNames.names.boxes =
    sym (length-map items cell_of) ∙ c.self.invariant.1.many in
    let less : b < length items = omega (arith, c.box_of-b.ensures.there whole, many) in
    let here : slice_get items b ≡ Some desk =
    slice_get_read items (length items) b desk refl less c.index_mut-desk.ensures.value in
    let there : slice_get old.boxes b ≡ Some desk.cell = at-map cell_of items b desk here in
    let number_is : desk.cell.number ≡ b = c.self.invariant.1.numbers b desk.cell there in
    let unbroken : desk.cell.broken ≡ false = (c.self.invariant.1.whole going).boxes b desk.cell there in
    let program = g.N.EngineNames.names.setting.program in
    let code = g.N.CellNames.code in
    let first = g.N.CellNames.first in
    subst (λ (n : ℕ). IsOpen core c.args.slot n) (sym number_is) c.box_of-b.ensures.open

pub invariant_of-self : goal.invariant_of-self
invariant_of-self g c =
    let k = c.self.inside in
    let old = engine_of k.boxes.items k.sched k.given_up in
    let going : old.given_up ≡ None = ap (λ (e : EngineState). e.given_up) c.self.view_is
    ∙ c.requires.going in
    let core = c.seat.inside.core in
    let whole : core.torn ≡ false = ap (λ (s : SeatState). s.torn) c.seat.view_is
    ∙ whole_seat c.args.self.now c.args.seat.now c.requires.going c.requires.of in
    let number = c.number-number.result in
    let call = c.advance-made in
    let made = call.result in
    let desk = c.index_mut-desk.result.now in
    let left = call.new.self in
    let after = call.new.seat in
    let b = c.box_of-b.result in
    let items = k.boxes.items in
    let many : length items ≡ length g.N.EngineNames.names.boxes =
    sym (length-map items cell_of) ∙ c.self.invariant.1.many in
    let less : b < length items = omega (arith, c.box_of-b.ensures.there whole, many) in
    let here : slice_get items b ≡ Some desk =
    slice_get_read items (length items) b desk refl less c.index_mut-desk.ensures.value in
    let there : slice_get old.boxes b ≡ Some desk.cell = at-map cell_of items b desk here in
    let number_is : desk.cell.number ≡ b = c.self.invariant.1.numbers b desk.cell there in
    let unbroken : desk.cell.broken ≡ false = (c.self.invariant.1.whole going).boxes b desk.cell there in
    let program = g.N.EngineNames.names.setting.program in
    let code = g.N.CellNames.code in
    let first = g.N.CellNames.first in
    let at : IsAt old core c.args.slot b desk.cell =
    record { going = c.box_of-b.ensures.open; there = there; number = number_is } in
    let by_is : given_up_after core.number made ≡ c.given_up_by-self-inside.result =
    ap (λ (n : ℕ). given_up_after n made) (sym c.number-number.ensures)
    ∙ sym c.given_up_by-self-inside.ensures in
    let cells_is : set old.boxes b left.cell ≡ map cell_of (set items b left) =
    sym (map-set cell_of items b left) in (
      c.self.invariant.0,
      subst (λ (cells : List B.CellState). IsEngine g.N.EngineNames.names
          (with_cells old cells c.given_up_by-self-inside.result)) cells_is
          (box_kept g.N.EngineNames.names old b desk.cell left.cell c.given_up_by-self-inside.result going
          there call.ensures.cell.number
          (λ none. step_unbroken program code first desk.cell left.cell core after c.args.slot number made
          call.ensures.done call.ensures.still
          unbroken (sym c.given_up_by-self-inside.ensures ∙ none)) c.self.invariant.1),
    )

pub invariant_of-seat : goal.invariant_of-seat
invariant_of-seat g c =
    let k = c.self.inside in
    let old = engine_of k.boxes.items k.sched k.given_up in
    let going : old.given_up ≡ None = ap (λ (e : EngineState). e.given_up) c.self.view_is
    ∙ c.requires.going in
    let core = c.seat.inside.core in
    let whole : core.torn ≡ false = ap (λ (s : SeatState). s.torn) c.seat.view_is
    ∙ whole_seat c.args.self.now c.args.seat.now c.requires.going c.requires.of in
    let number = c.number-number.result in
    let call = c.advance-made in
    let made = call.result in
    let desk = c.index_mut-desk.result.now in
    let left = call.new.self in
    let after = call.new.seat in
    let b = c.box_of-b.result in
    let items = k.boxes.items in
    let many : length items ≡ length g.N.EngineNames.names.boxes =
    sym (length-map items cell_of) ∙ c.self.invariant.1.many in
    let less : b < length items = omega (arith, c.box_of-b.ensures.there whole, many) in
    let here : slice_get items b ≡ Some desk =
    slice_get_read items (length items) b desk refl less c.index_mut-desk.ensures.value in
    let there : slice_get old.boxes b ≡ Some desk.cell = at-map cell_of items b desk here in
    let number_is : desk.cell.number ≡ b = c.self.invariant.1.numbers b desk.cell there in
    let unbroken : desk.cell.broken ≡ false = (c.self.invariant.1.whole going).boxes b desk.cell there in
    let program = g.N.EngineNames.names.setting.program in
    let code = g.N.CellNames.code in
    let first = g.N.CellNames.first in
    step_worker program code first desk.cell left.cell core after c.args.slot made call.ensures.done
    call.ensures.refused
    c.seat.invariant

pub returns-clause-made : goal.returns-clause-made
returns-clause-made g c =
    let k = c.self.inside in
    let old = engine_of k.boxes.items k.sched k.given_up in
    let going : old.given_up ≡ None = ap (λ (e : EngineState). e.given_up) c.self.view_is
    ∙ c.requires.going in
    let core = c.seat.inside.core in
    let whole : core.torn ≡ false = ap (λ (s : SeatState). s.torn) c.seat.view_is
    ∙ whole_seat c.args.self.now c.args.seat.now c.requires.going c.requires.of in
    let number = c.number-number.result in
    let call = c.advance-made in
    let made = call.result in
    let desk = c.index_mut-desk.result.now in
    let left = call.new.self in
    let after = call.new.seat in
    let b = c.box_of-b.result in
    let items = k.boxes.items in
    let many : length items ≡ length g.N.EngineNames.names.boxes =
    sym (length-map items cell_of) ∙ c.self.invariant.1.many in
    let less : b < length items = omega (arith, c.box_of-b.ensures.there whole, many) in
    let here : slice_get items b ≡ Some desk =
    slice_get_read items (length items) b desk refl less c.index_mut-desk.ensures.value in
    let there : slice_get old.boxes b ≡ Some desk.cell = at-map cell_of items b desk here in
    let number_is : desk.cell.number ≡ b = c.self.invariant.1.numbers b desk.cell there in
    let unbroken : desk.cell.broken ≡ false = (c.self.invariant.1.whole going).boxes b desk.cell there in
    let program = g.N.EngineNames.names.setting.program in
    let code = g.N.CellNames.code in
    let first = g.N.CellNames.first in
    let at : IsAt old core c.args.slot b desk.cell =
    record { going = c.box_of-b.ensures.open; there = there; number = number_is } in
    let by_is : given_up_after core.number made ≡ c.given_up_by-self-inside.result =
    ap (λ (n : ℕ). given_up_after n made) (sym c.number-number.ensures)
    ∙ sym c.given_up_by-self-inside.ensures in
    let cells_is : set old.boxes b left.cell ≡ map cell_of (set items b left) =
    sym (map-set cell_of items b left) in
    told (λ (e f : EngineState) (s : SeatState). IfOk made
    (StepMade program code first e f s after c.args.slot))
    (λ (h : Option ℕ). with_cells old (map cell_of (set items b left)) h) old c.args.self.now core
    c.args.seat.now
    (given_up_after core.number made) c.given_up_by-self-inside.result c.self.view_is c.seat.view_is by_is
    (subst (λ (cells : List B.CellState). IfOk made
    (StepMade program code first old
    (with_cells old cells (given_up_after core.number made)) core after c.args.slot)) cells_is
    (step_made program code first old b desk.cell left.cell core after c.args.slot going at made
    call.ensures.done))

pub returns-clause-refused : goal.returns-clause-refused
returns-clause-refused g c =
    let k = c.self.inside in
    let old = engine_of k.boxes.items k.sched k.given_up in
    let going : old.given_up ≡ None = ap (λ (e : EngineState). e.given_up) c.self.view_is
    ∙ c.requires.going in
    let core = c.seat.inside.core in
    let whole : core.torn ≡ false = ap (λ (s : SeatState). s.torn) c.seat.view_is
    ∙ whole_seat c.args.self.now c.args.seat.now c.requires.going c.requires.of in
    let number = c.number-number.result in
    let call = c.advance-made in
    let made = call.result in
    let desk = c.index_mut-desk.result.now in
    let left = call.new.self in
    let after = call.new.seat in
    let b = c.box_of-b.result in
    let items = k.boxes.items in
    let many : length items ≡ length g.N.EngineNames.names.boxes =
    sym (length-map items cell_of) ∙ c.self.invariant.1.many in
    let less : b < length items = omega (arith, c.box_of-b.ensures.there whole, many) in
    let here : slice_get items b ≡ Some desk =
    slice_get_read items (length items) b desk refl less c.index_mut-desk.ensures.value in
    let there : slice_get old.boxes b ≡ Some desk.cell = at-map cell_of items b desk here in
    let number_is : desk.cell.number ≡ b = c.self.invariant.1.numbers b desk.cell there in
    let unbroken : desk.cell.broken ≡ false = (c.self.invariant.1.whole going).boxes b desk.cell there in
    let program = g.N.EngineNames.names.setting.program in
    let code = g.N.CellNames.code in
    let first = g.N.CellNames.first in
    let at : IsAt old core c.args.slot b desk.cell =
    record { going = c.box_of-b.ensures.open; there = there; number = number_is } in
    let by_is : given_up_after core.number made ≡ c.given_up_by-self-inside.result =
    ap (λ (n : ℕ). given_up_after n made) (sym c.number-number.ensures)
    ∙ sym c.given_up_by-self-inside.ensures in
    let cells_is : set old.boxes b left.cell ≡ map cell_of (set items b left) =
    sym (map-set cell_of items b left) in
    told (λ (e f : EngineState) (s : SeatState). MatchResult made (λ _. ℕ)
    (StepRefused e f s after c.args.slot))
    (λ (h : Option ℕ). with_cells old (map cell_of (set items b left)) h) old c.args.self.now core
    c.args.seat.now
    (given_up_after core.number made) c.given_up_by-self-inside.result c.self.view_is c.seat.view_is by_is
    (subst (λ (cells : List B.CellState). MatchResult made (λ _. ℕ)
    (StepRefused old (with_cells old cells (given_up_after core.number made)) core after c.args.slot))
    cells_is
    (step_refused program code first old b desk.cell left.cell core after c.args.slot going at made
    call.ensures.refused
    call.ensures.still call.ensures.cell unbroken))
