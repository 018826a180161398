use Rattle.std.proofs.Common.{◌≡◌, length, refl, sym, ap, ◌∙◌, subst, arith}
use Rattle.std.proofs.lemmas.Option.{slice_get_read, slice_get_within}
use Rattle.pass_seats.specs.declared.pass.SeatPass.{SeatPass}
use Rattle.pass_seats.specs.Seats.{SeatState}
use Rattle.pass_seats.specs.Steps.{IsOpen}
use Rattle.pass_seats.proofs.Lists.{some_same}
use Rattle.pass_seats.proofs.seat.SeatCore.box_of.Goals as goal

pub index-requires : goal.index-requires
index-requires g c =
    let b = c.requires.0 in
    let o = subst (λ (s : SeatState). IsOpen s c.args.slot b) (sym c.self.view_is) c.requires.1 in
    let items = c.self.inside.passes.items in
    let less = slice_get_within items c.args.slot o.pass o.there in
    omega (arith, less, c.self.inside.passes.ok.0)

pub returns-clause-open : goal.returns-clause-open
returns-clause-open g c =
    let b = c.requires.0 in
    let o = subst (λ (s : SeatState). IsOpen s c.args.slot b) (sym c.self.view_is) c.requires.1 in
    let items = c.self.inside.passes.items in
    let less = slice_get_within items c.args.slot o.pass o.there in
    let p = c.index.result.now in
    let at = slice_get_read items (length items) c.args.slot p refl less c.index.ensures in
    let same : p ≡ o.pass = some_same p o.pass (sym at ∙ o.there) in
    let box : c.box_of.result ≡ o.pass.control.box_number =
    c.box_of.ensures ∙ ap (λ (q : SeatPass). q.control.box_number) same in
    subst (λ (s : SeatState). IsOpen s c.args.slot c.box_of.result) c.self.view_is
    (record { pass = o.pass; there = o.there; going = o.going; box = sym box })

pub returns-clause-there : goal.returns-clause-there
returns-clause-there g c e =
    let b = c.requires.0 in
    let o = subst (λ (s : SeatState). IsOpen s c.args.slot b) (sym c.self.view_is) c.requires.1 in
    let items = c.self.inside.passes.items in
    let less = slice_get_within items c.args.slot o.pass o.there in
    let p = c.index.result.now in
    let at = slice_get_read items (length items) c.args.slot p refl less c.index.ensures in
    let same : p ≡ o.pass = some_same p o.pass (sym at ∙ o.there) in
    let box : c.box_of.result ≡ o.pass.control.box_number =
    c.box_of.ensures ∙ ap (λ (q : SeatPass). q.control.box_number) same in
    let untorn = ap (λ (s : SeatState). s.torn) c.self.view_is ∙ e in
    let within = ((c.self.invariant.whole untorn).passes c.args.slot o.pass o.there).within o.going in
    omega (arith, within.here, box)
