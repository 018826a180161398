use Rattle.std.proofs.Common.{ap, sym, ◌∙◌, subst}
use Rattle.pass_seats.specs.declared.pass.Place.{Place}
use Rattle.pass_seats.specs.Opening.{ArePlaces, PlacesState}
use Rattle.pass_seats.proofs.Opening.{places_push}
use Rattle.pass_seats.proofs.blank.SeatPlaces.join.Goals as goal

pub invariant_of-self : goal.invariant_of-self
invariant_of-self g c =
    subst (ArePlaces g.N.EngineNames.names c.self.inside.number) (sym c.in_err-push.ensures.items) c.self.invariant

pub invariant_of-self-2 : goal.invariant_of-self-2
invariant_of-self-2 g c =
    let p : Place = record { note = c.in_ok-note.note; share = c.in_ok-note.share } in
    let note = c.in_ok-note.ensures.note in
    let maker = ap (λ n. n.maker) note ∙ c.requires.maker ∙ sym (ap (λ (s : PlacesState). s.number) c.self.view_is) in
    let nothing = ap (λ n. n.seen) note ∙ c.requires.empty in
    subst (ArePlaces g.N.EngineNames.names c.self.inside.number) (sym c.in_ok-push.ensures.items)
    (places_push g.N.EngineNames.names c.self.inside.number c.args.cell.now.number c.self.inside.places.items p
    c.self.invariant (c.requires.next ∙ sym (ap (λ (s : PlacesState). s.many) c.self.view_is))
    (record { journal = ap (λ n. n.journal) note ∙ c.requires.name; maker = maker; pair = c.in_ok-note.ensures.pair })
    nothing)
