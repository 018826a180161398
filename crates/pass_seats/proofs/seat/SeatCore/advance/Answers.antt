use Rattle.std.proofs.Common.{◌≡◌, ℕ, ◌<◌, ◌^◌, ◌∷◌, length, refl, sym, ap, ◌∙◌, subst, arith, Some, set}
use Rattle.std.proofs.lemmas.Option.{slice_get_read, slice_get_within}
use Rattle.pass_seats.specs.declared.pass.SeatPass.{SeatPass}
use Rattle.pass_seats.specs.Names.{table_at}
use Rattle.pass_seats.specs.Passes.{stamps_of}
use Rattle.pass_seats.specs.Seats.{SeatState}
use Rattle.pass_seats.specs.Steps.{IsOpen, StepRefused, AdvancedAt, IsWorn, SawBox}
use Rattle.pass_seats.proofs.Lists.{some_same, set-again, clock-small}
use Rattle.pass_seats.proofs.Placing.{stepped_seat, torn_seat, saw_box_seat, saw_box, advanced, has_seen, seat_at}
use Rattle.pass_seats.proofs.seat.SeatCore.advance.Goals as goal

pub index_mut-place-requires : goal.index_mut-place-requires
index_mut-place-requires g c =
    let o = subst (λ (s : SeatState). IsOpen s c.args.slot c.args.cell.now.number) (sym c.self.view_is) c.requires.open in
    let untorn = ap (λ (s : SeatState). s.torn) c.self.view_is ∙ c.requires.whole in
    let b = c.number-b.result in
    let box : o.pass.control.box_number ≡ b = o.box ∙ sym c.number-b.ensures in
    let within = ((c.self.invariant.whole untorn).passes c.args.slot o.pass o.there).within o.going in
    let places = c.self.inside.places.items in
    let few : b < length places = omega (arith, within.here, box, c.self.invariant.many) in
    omega (arith, few, c.self.inside.places.ok.0)

pub index_mut-requires : goal.index_mut-requires
index_mut-requires g c =
    let o = subst (λ (s : SeatState). IsOpen s c.args.slot c.args.cell.now.number) (sym c.self.view_is) c.requires.open in
    let items = c.self.inside.passes.items in
    let less = slice_get_within items c.args.slot o.pass o.there in
    omega (arith, less, c.self.inside.passes.ok.0)

pub step-requires-clause-going : goal.step-requires-clause-going
step-requires-clause-going g c =
    let o = subst (λ (s : SeatState). IsOpen s c.args.slot c.args.cell.now.number) (sym c.self.view_is) c.requires.open in
    let items = c.self.inside.passes.items in
    let less = slice_get_within items c.args.slot o.pass o.there in
    let p = c.index_mut.result.now in
    let at = slice_get_read items (length items) c.args.slot p refl less c.index_mut.ensures.value in
    let same : p ≡ o.pass = some_same p o.pass (sym at ∙ o.there) in
    ap (λ (q : SeatPass). q.over) same ∙ o.going

pub step-requires-clause-there : goal.step-requires-clause-there
step-requires-clause-there g c =
    let o = subst (λ (s : SeatState). IsOpen s c.args.slot c.args.cell.now.number) (sym c.self.view_is) c.requires.open in
    let items = c.self.inside.passes.items in
    let less = slice_get_within items c.args.slot o.pass o.there in
    let p = c.index_mut.result.now in
    let at = slice_get_read items (length items) c.args.slot p refl less c.index_mut.ensures.value in
    let same : p ≡ o.pass = some_same p o.pass (sym at ∙ o.there) in
    ap (λ (q : SeatPass). q.control.box_number) same ∙ o.box

pub step-requires-clause-clock : goal.step-requires-clause-clock
step-requires-clause-clock g c =
    let o = subst (λ (s : SeatState). IsOpen s c.args.slot c.args.cell.now.number) (sym c.self.view_is) c.requires.open in
    let untorn = ap (λ (s : SeatState). s.torn) c.self.view_is ∙ c.requires.whole in
    let items = c.self.inside.passes.items in
    let less = slice_get_within items c.args.slot o.pass o.there in
    let p = c.index_mut.result.now in
    let at = slice_get_read items (length items) c.args.slot p refl less c.index_mut.ensures.value in
    let same : p ≡ o.pass = some_same p o.pass (sym at ∙ o.there) in
    let was = (c.self.invariant.whole untorn).passes c.args.slot p at in
    subst (λ (n : ℕ). n < 2 ^ 63) (sym was.clock_is)
    (clock-small (2 ^ 63) (p.started ∷ stamps_of p.claims) (omega arith) was.stamps.small)

pub step-requires-clause-short : goal.step-requires-clause-short
step-requires-clause-short g c =
    let o = subst (λ (s : SeatState). IsOpen s c.args.slot c.args.cell.now.number) (sym c.self.view_is) c.requires.open in
    let items = c.self.inside.passes.items in
    let less = slice_get_within items c.args.slot o.pass o.there in
    let p = c.index_mut.result.now in
    let at = slice_get_read items (length items) c.args.slot p refl less c.index_mut.ensures.value in
    let same : p ≡ o.pass = some_same p o.pass (sym at ∙ o.there) in
    let q = c.index.result.now in
    let at_q = slice_get_read items (length items) c.args.slot q refl less c.index.ensures in
    omega (
      arith,
      c.if-len-ge-MOST_CLAIMS.false,
      c.len.ensures,
      ap (λ (r : SeatPass). length r.claims) (same ∙ some_same o.pass q (sym o.there ∙ at_q)),
    )

pub step-requires-clause-journal : goal.step-requires-clause-journal
step-requires-clause-journal g c =
    let o = subst (λ (s : SeatState). IsOpen s c.args.slot c.args.cell.now.number) (sym c.self.view_is) c.requires.open in
    let untorn = ap (λ (s : SeatState). s.torn) c.self.view_is ∙ c.requires.whole in
    let b = c.number-b.result in
    let box : o.pass.control.box_number ≡ b = o.box ∙ sym c.number-b.ensures in
    let within = ((c.self.invariant.whole untorn).passes c.args.slot o.pass o.there).within o.going in
    let places = c.self.inside.places.items in
    let few : b < length places = omega (arith, within.here, box, c.self.invariant.many) in
    let place = c.index_mut-place.result.now in
    let at_place = slice_get_read places (length places) b place refl few c.index_mut-place.ensures.value in
    (c.self.invariant.places b place at_place).journal
    ∙ ap (table_at g.N.EngineNames.names) c.number-b.ensures ∙ sym c.requires.journal

pub step-requires-clause-pair : goal.step-requires-clause-pair
step-requires-clause-pair g c =
    let o = subst (λ (s : SeatState). IsOpen s c.args.slot c.args.cell.now.number) (sym c.self.view_is) c.requires.open in
    let untorn = ap (λ (s : SeatState). s.torn) c.self.view_is ∙ c.requires.whole in
    let b = c.number-b.result in
    let box : o.pass.control.box_number ≡ b = o.box ∙ sym c.number-b.ensures in
    let within = ((c.self.invariant.whole untorn).passes c.args.slot o.pass o.there).within o.going in
    let places = c.self.inside.places.items in
    let few : b < length places = omega (arith, within.here, box, c.self.invariant.many) in
    let place = c.index_mut-place.result.now in
    let at_place = slice_get_read places (length places) b place refl few c.index_mut-place.ensures.value in
    (c.self.invariant.places b place at_place).pair

pub invariant_of-self : goal.invariant_of-self
invariant_of-self g c =
    let o = subst (λ (s : SeatState). IsOpen s c.args.slot c.args.cell.now.number) (sym c.self.view_is) c.requires.open in
    let untorn = ap (λ (s : SeatState). s.torn) c.self.view_is ∙ c.requires.whole in
    let items = c.self.inside.passes.items in
    let less = slice_get_within items c.args.slot o.pass o.there in
    let p = c.index_mut.result.now in
    let at = slice_get_read items (length items) c.args.slot p refl less c.index_mut.ensures.value in
    let same : p ≡ o.pass = some_same p o.pass (sym at ∙ o.there) in
    let b = c.number-b.result in
    let box : o.pass.control.box_number ≡ b = o.box ∙ sym c.number-b.ensures in
    let within = ((c.self.invariant.whole untorn).passes c.args.slot o.pass o.there).within o.going in
    let places = c.self.inside.places.items in
    let few : b < length places = omega (arith, within.here, box, c.self.invariant.many) in
    let place = c.index_mut-place.result.now in
    let at_place = slice_get_read places (length places) b place refl few c.index_mut-place.ensures.value in
    let k = c.self.inside in
    let s = seat_at k.number places k.note k.share k.quit k.part.parts k.part.amount items k.torn in
    stepped_seat g.N.EngineNames.names g.N.CellNames.code g.N.CellNames.first c.requires.named c.args.cell.now
    c.step.new.cell place c.step.new.place p c.step.new.self c.in-Ok.progress b c.args.slot s c.number-b.ensures at_place at
    (ap (λ (q : SeatPass). q.over) same ∙ o.going) (c.self.invariant.places b place at_place).maker c.in-Ok.ensures.done
    c.step.ensures.place untorn c.self.invariant

pub invariant_of-self-in-Err-Memory : goal.invariant_of-self-in-Err-Memory
invariant_of-self-in-Err-Memory g c =
    let o = subst (λ (s : SeatState). IsOpen s c.args.slot c.args.cell.now.number) (sym c.self.view_is) c.requires.open in
    let untorn = ap (λ (s : SeatState). s.torn) c.self.view_is ∙ c.requires.whole in
    let items = c.self.inside.passes.items in
    let less = slice_get_within items c.args.slot o.pass o.there in
    let p = c.index_mut.result.now in
    let at = slice_get_read items (length items) c.args.slot p refl less c.index_mut.ensures.value in
    let same : p ≡ o.pass = some_same p o.pass (sym at ∙ o.there) in
    let b = c.number-b.result in
    let box : o.pass.control.box_number ≡ b = o.box ∙ sym c.number-b.ensures in
    let within = ((c.self.invariant.whole untorn).passes c.args.slot o.pass o.there).within o.going in
    let places = c.self.inside.places.items in
    let few : b < length places = omega (arith, within.here, box, c.self.invariant.many) in
    let place = c.index_mut-place.result.now in
    let at_place = slice_get_read places (length places) b place refl few c.index_mut-place.ensures.value in
    let k = c.self.inside in
    let s = seat_at k.number places k.note k.share k.quit k.part.parts k.part.amount items k.torn in
    torn_seat g.N.EngineNames.names s b place c.step.new.place c.quit.new.worker
    (set items c.args.slot c.step.new.self) at_place c.step.ensures.place c.quit.ensures.same
    (has_seen k.quit c.quit.new.worker c.quit.ensures.marked) c.self.invariant

pub invariant_of-self-in-Err-Worn : goal.invariant_of-self-in-Err-Worn
invariant_of-self-in-Err-Worn g c =
    let o = subst (λ (s : SeatState). IsOpen s c.args.slot c.args.cell.now.number) (sym c.self.view_is) c.requires.open in
    let untorn = ap (λ (s : SeatState). s.torn) c.self.view_is ∙ c.requires.whole in
    let items = c.self.inside.passes.items in
    let less = slice_get_within items c.args.slot o.pass o.there in
    let p = c.index_mut.result.now in
    let at = slice_get_read items (length items) c.args.slot p refl less c.index_mut.ensures.value in
    let same : p ≡ o.pass = some_same p o.pass (sym at ∙ o.there) in
    let b = c.number-b.result in
    let box : o.pass.control.box_number ≡ b = o.box ∙ sym c.number-b.ensures in
    let within = ((c.self.invariant.whole untorn).passes c.args.slot o.pass o.there).within o.going in
    let places = c.self.inside.places.items in
    let few : b < length places = omega (arith, within.here, box, c.self.invariant.many) in
    let place = c.index_mut-place.result.now in
    let at_place = slice_get_read places (length places) b place refl few c.index_mut-place.ensures.value in
    let k = c.self.inside in
    let s = seat_at k.number places k.note k.share k.quit k.part.parts k.part.amount items k.torn in
    let worn = subst (StepRefused c.args.cell.now place p c.step.new.place c.step.new.self) c.in-Err-Worn.field-0-is
    c.in-Err-Worn.ensures.refused in
    saw_box_seat g.N.EngineNames.names c.args.cell.now.journal.log s b place c.step.new.place
    (set items c.args.slot c.step.new.self) at_place worn.2 c.step.ensures.place
    (set-again items c.args.slot c.step.new.self (at ∙ ap Some (sym worn.0))) c.self.invariant

pub returns-in-Ok-clause-done : goal.returns-in-Ok-clause-done
returns-in-Ok-clause-done g c =
    let o = subst (λ (s : SeatState). IsOpen s c.args.slot c.args.cell.now.number) (sym c.self.view_is) c.requires.open in
    let untorn = ap (λ (s : SeatState). s.torn) c.self.view_is ∙ c.requires.whole in
    let items = c.self.inside.passes.items in
    let less = slice_get_within items c.args.slot o.pass o.there in
    let p = c.index_mut.result.now in
    let at = slice_get_read items (length items) c.args.slot p refl less c.index_mut.ensures.value in
    let same : p ≡ o.pass = some_same p o.pass (sym at ∙ o.there) in
    let b = c.number-b.result in
    let box : o.pass.control.box_number ≡ b = o.box ∙ sym c.number-b.ensures in
    let within = ((c.self.invariant.whole untorn).passes c.args.slot o.pass o.there).within o.going in
    let places = c.self.inside.places.items in
    let few : b < length places = omega (arith, within.here, box, c.self.invariant.many) in
    let place = c.index_mut-place.result.now in
    let at_place = slice_get_read places (length places) b place refl few c.index_mut-place.ensures.value in
    let k = c.self.inside in
    let s = seat_at k.number places k.note k.share k.quit k.part.parts k.part.amount items k.torn in
    let new : SeatState = seat_at k.number (set places b c.step.new.place) k.note k.share k.quit k.part.parts k.part.amount
    (set items c.args.slot c.step.new.self) k.torn in
    subst (λ (t : SeatState). AdvancedAt g.N.EngineNames.names.setting.program g.N.CellNames.code g.N.CellNames.first
    c.args.cell.now c.step.new.cell t new c.args.slot c.in-Ok.progress) c.self.view_is
    (advanced g.N.EngineNames.names g.N.CellNames.code g.N.CellNames.first c.requires.named c.args.cell.now
    c.step.new.cell place c.step.new.place p c.step.new.self c.in-Ok.progress b c.args.slot s c.number-b.ensures at_place at
    (ap (λ (q : SeatPass). q.over) same ∙ o.going) (c.self.invariant.places b place at_place).maker c.in-Ok.ensures.done)

pub returns-in-Err-Worn-clause-refused : goal.returns-in-Err-Worn-clause-refused
returns-in-Err-Worn-clause-refused g c =
    let o = subst (λ (s : SeatState). IsOpen s c.args.slot c.args.cell.now.number) (sym c.self.view_is) c.requires.open in
    let untorn = ap (λ (s : SeatState). s.torn) c.self.view_is ∙ c.requires.whole in
    let items = c.self.inside.passes.items in
    let less = slice_get_within items c.args.slot o.pass o.there in
    let p = c.index_mut.result.now in
    let at = slice_get_read items (length items) c.args.slot p refl less c.index_mut.ensures.value in
    let same : p ≡ o.pass = some_same p o.pass (sym at ∙ o.there) in
    let b = c.number-b.result in
    let box : o.pass.control.box_number ≡ b = o.box ∙ sym c.number-b.ensures in
    let within = ((c.self.invariant.whole untorn).passes c.args.slot o.pass o.there).within o.going in
    let places = c.self.inside.places.items in
    let few : b < length places = omega (arith, within.here, box, c.self.invariant.many) in
    let place = c.index_mut-place.result.now in
    let at_place = slice_get_read places (length places) b place refl few c.index_mut-place.ensures.value in
    let k = c.self.inside in
    let s = seat_at k.number places k.note k.share k.quit k.part.parts k.part.amount items k.torn in
    let worn = subst (StepRefused c.args.cell.now place p c.step.new.place c.step.new.self) c.in-Err-Worn.field-0-is
    c.in-Err-Worn.ensures.refused in
    let new : SeatState = seat_at k.number (set places b c.step.new.place) k.note k.share k.quit k.part.parts k.part.amount
    (set items c.args.slot c.step.new.self) k.torn in
    subst (λ (t : SeatState). IsWorn c.args.cell.now.journal.log t c.args.slot c.in-Err-Worn.stamp
    × SawBox c.args.cell.now.journal.log c.args.cell.now.number t new) c.self.view_is
    (saw_box s c.args.cell.now.journal.log b c.args.cell.now.number c.args.slot c.in-Err-Worn.stamp place
    c.step.new.place p c.step.new.self c.number-b.ensures at_place at worn.0 worn.1 worn.2 worn.3 worn.4)
