use Rattle.std.proofs.Common.{◌≡◌, ℕ, ◌+◌, ◌<◌, ◌^◌, ◌∷◌, length, refl, sym, ap, ◌∙◌, subst, arith, Option, set}
use Rattle.std.proofs.lemmas.Option.{slice_get_read, slice_get_within}
use Rattle.pass_seats.specs.declared.pass.Done.{Done}
use Rattle.pass_seats.specs.declared.pass.SeatPass.{SeatPass}
use Rattle.pass_seats.specs.Passes.{HasDone, stamps_of}
use Rattle.pass_seats.specs.Seats.{SeatState}
use Rattle.pass_seats.specs.Finishes.{IsOver, Finished, FinishRefused, FinishWorn}
use Rattle.pass_seats.proofs.Lists.{some_same, clock-small}
use Rattle.pass_seats.proofs.Placing.{seat_at}
use Rattle.pass_seats.proofs.Passing.{finished_seat, finished, saw_seat, worn}
use Rattle.pass_seats.proofs.seat.SeatCore.finish.Goals as goal

pub finish-requires-clause-clock : goal.finish-requires-clause-clock
finish-requires-clause-clock g c =
    let o = subst (λ (s : SeatState). IsOver s c.args.slot) (sym c.self.view_is) c.requires.over in
    let items = c.self.inside.passes.items in
    let less = slice_get_within items c.args.slot o.pass o.there in
    let p = c.index_mut.result.now in
    let at = slice_get_read items (length items) c.args.slot p refl less c.index_mut.ensures.value in
    let same : p ≡ o.pass = some_same p o.pass (sym at ∙ o.there) in
    let untorn = ap (λ (s : SeatState). s.torn) c.self.view_is ∙ c.requires.whole in
    let was = (c.self.invariant.whole untorn).passes c.args.slot p at in
    let undone = ap (λ (x : SeatPass). x.done) same ∙ o.undone in
    subst (λ (n : ℕ). n < 2 ^ 63) (sym was.clock_is)
    (clock-small (2 ^ 63) (p.started ∷ stamps_of p.claims) (omega arith) was.stamps.small)

pub finish-requires-clause-journal : goal.finish-requires-clause-journal
finish-requires-clause-journal g c =
    let o = subst (λ (s : SeatState). IsOver s c.args.slot) (sym c.self.view_is) c.requires.over in
    let items = c.self.inside.passes.items in
    let less = slice_get_within items c.args.slot o.pass o.there in
    let p = c.index_mut.result.now in
    let at = slice_get_read items (length items) c.args.slot p refl less c.index_mut.ensures.value in
    let same : p ≡ o.pass = some_same p o.pass (sym at ∙ o.there) in
    let untorn = ap (λ (s : SeatState). s.torn) c.self.view_is ∙ c.requires.whole in
    let was = (c.self.invariant.whole untorn).passes c.args.slot p at in
    let undone = ap (λ (x : SeatPass). x.done) same ∙ o.undone in
    was.journal ∙ sym c.requires.sched.0

pub finish-requires-clause-given : goal.finish-requires-clause-given
finish-requires-clause-given g c =
    let o = subst (λ (s : SeatState). IsOver s c.args.slot) (sym c.self.view_is) c.requires.over in
    let items = c.self.inside.passes.items in
    let less = slice_get_within items c.args.slot o.pass o.there in
    let p = c.index_mut.result.now in
    let at = slice_get_read items (length items) c.args.slot p refl less c.index_mut.ensures.value in
    let same : p ≡ o.pass = some_same p o.pass (sym at ∙ o.there) in
    let untorn = ap (λ (s : SeatState). s.torn) c.self.view_is ∙ c.requires.whole in
    let was = (c.self.invariant.whole untorn).passes c.args.slot p at in
    let undone = ap (λ (x : SeatPass). x.done) same ∙ o.undone in
    record {
      maker = was.maker ∙ ap (λ (n : ℕ). n + p.ticket.pass) (sym c.requires.sched.1);
      started = (p.started, was.start);
    }

pub finish-requires-clause-unused : goal.finish-requires-clause-unused
finish-requires-clause-unused g c =
    let o = subst (λ (s : SeatState). IsOver s c.args.slot) (sym c.self.view_is) c.requires.over in
    let items = c.self.inside.passes.items in
    let less = slice_get_within items c.args.slot o.pass o.there in
    let p = c.index_mut.result.now in
    let at = slice_get_read items (length items) c.args.slot p refl less c.index_mut.ensures.value in
    let same : p ≡ o.pass = some_same p o.pass (sym at ∙ o.there) in
    let untorn = ap (λ (s : SeatState). s.torn) c.self.view_is ∙ c.requires.whole in
    let was = (c.self.invariant.whole untorn).passes c.args.slot p at in
    let undone = ap (λ (x : SeatPass). x.done) same ∙ o.undone in
    (was.pair, subst (λ (d : Option Done). HasDone d p) undone was.done)

pub invariant_of-self : goal.invariant_of-self
invariant_of-self g c =
    let o = subst (λ (s : SeatState). IsOver s c.args.slot) (sym c.self.view_is) c.requires.over in
    let items = c.self.inside.passes.items in
    let less = slice_get_within items c.args.slot o.pass o.there in
    let p = c.index_mut.result.now in
    let at = slice_get_read items (length items) c.args.slot p refl less c.index_mut.ensures.value in
    let same : p ≡ o.pass = some_same p o.pass (sym at ∙ o.there) in
    let untorn = ap (λ (s : SeatState). s.torn) c.self.view_is ∙ c.requires.whole in
    let was = (c.self.invariant.whole untorn).passes c.args.slot p at in
    let undone = ap (λ (x : SeatPass). x.done) same ∙ o.undone in
    let k = c.self.inside in
    let s = seat_at k.number k.places.items k.note k.share k.quit k.part.parts k.part.amount items k.torn in
    finished_seat g.N.EngineNames.names s c.args.cell.now c.finish.new.cell c.args.slot p c.finish.new.self
    c.in-Ok.verdict at c.in-Ok.ensures.done c.add.new.share.parts c.add.new.share.amount undone c.in-Ok.ensures.pair
    untorn c.self.invariant c.add.ensures.parts c.add.ensures.amount

pub invariant_of-self-in-Err-Worn : goal.invariant_of-self-in-Err-Worn
invariant_of-self-in-Err-Worn g c =
    let o = subst (λ (s : SeatState). IsOver s c.args.slot) (sym c.self.view_is) c.requires.over in
    let items = c.self.inside.passes.items in
    let less = slice_get_within items c.args.slot o.pass o.there in
    let p = c.index_mut.result.now in
    let at = slice_get_read items (length items) c.args.slot p refl less c.index_mut.ensures.value in
    let same : p ≡ o.pass = some_same p o.pass (sym at ∙ o.there) in
    let untorn = ap (λ (s : SeatState). s.torn) c.self.view_is ∙ c.requires.whole in
    let was = (c.self.invariant.whole untorn).passes c.args.slot p at in
    let undone = ap (λ (x : SeatPass). x.done) same ∙ o.undone in
    let k = c.self.inside in
    let s = seat_at k.number k.places.items k.note k.share k.quit k.part.parts k.part.amount items k.torn in
    let refused = subst (FinishRefused c.args.cell.now c.finish.new.cell p c.finish.new.self) c.in-Err-Worn.field-0-is
    c.in-Err-Worn.ensures.refused in
    saw_seat g.N.EngineNames.names s c.args.cell.now c.finish.new.cell c.args.slot c.in-Err-Worn.stamp p
    c.finish.new.self at refused.3 undone c.in-Err-Worn.ensures.pair untorn c.self.invariant

pub returns-in-Ok-clause-done : goal.returns-in-Ok-clause-done
returns-in-Ok-clause-done g c =
    let o = subst (λ (s : SeatState). IsOver s c.args.slot) (sym c.self.view_is) c.requires.over in
    let items = c.self.inside.passes.items in
    let less = slice_get_within items c.args.slot o.pass o.there in
    let p = c.index_mut.result.now in
    let at = slice_get_read items (length items) c.args.slot p refl less c.index_mut.ensures.value in
    let same : p ≡ o.pass = some_same p o.pass (sym at ∙ o.there) in
    let untorn = ap (λ (s : SeatState). s.torn) c.self.view_is ∙ c.requires.whole in
    let was = (c.self.invariant.whole untorn).passes c.args.slot p at in
    let undone = ap (λ (x : SeatPass). x.done) same ∙ o.undone in
    let k = c.self.inside in
    let s = seat_at k.number k.places.items k.note k.share k.quit k.part.parts k.part.amount items k.torn in
    subst (λ (t : SeatState). Finished c.args.cell.now c.finish.new.cell t (seat_at k.number k.places.items k.note k.share
    k.quit c.add.new.share.parts c.add.new.share.amount (set items c.args.slot c.finish.new.self) k.torn) c.args.slot
    c.in-Ok.verdict) c.self.view_is
    (finished g.N.EngineNames.names s c.args.cell.now c.finish.new.cell c.args.slot p c.finish.new.self c.in-Ok.verdict at
    c.in-Ok.ensures.done c.add.new.share.parts c.add.new.share.amount c.add.ensures.parts c.add.ensures.amount)

pub returns-in-Err-Worn-clause-refused : goal.returns-in-Err-Worn-clause-refused
returns-in-Err-Worn-clause-refused g c =
    let o = subst (λ (s : SeatState). IsOver s c.args.slot) (sym c.self.view_is) c.requires.over in
    let items = c.self.inside.passes.items in
    let less = slice_get_within items c.args.slot o.pass o.there in
    let p = c.index_mut.result.now in
    let at = slice_get_read items (length items) c.args.slot p refl less c.index_mut.ensures.value in
    let same : p ≡ o.pass = some_same p o.pass (sym at ∙ o.there) in
    let untorn = ap (λ (s : SeatState). s.torn) c.self.view_is ∙ c.requires.whole in
    let was = (c.self.invariant.whole untorn).passes c.args.slot p at in
    let undone = ap (λ (x : SeatPass). x.done) same ∙ o.undone in
    let k = c.self.inside in
    let s = seat_at k.number k.places.items k.note k.share k.quit k.part.parts k.part.amount items k.torn in
    let refused = subst (FinishRefused c.args.cell.now c.finish.new.cell p c.finish.new.self) c.in-Err-Worn.field-0-is
    c.in-Err-Worn.ensures.refused in (
      refused.2,
      subst (λ (t : SeatState). FinishWorn c.args.cell.now c.finish.new.cell t (seat_at k.number k.places.items
          k.note k.share k.quit k.part.parts k.part.amount (set items c.args.slot c.finish.new.self) k.torn) c.args.slot
          c.in-Err-Worn.stamp) c.self.view_is
          (worn g.N.EngineNames.names s c.args.cell.now c.finish.new.cell c.args.slot c.in-Err-Worn.stamp p c.finish.new.self at
          refused.3 refused.0 refused.1),
    )
