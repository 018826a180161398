use Rattle.std.proofs.Common.{ap, sym, ◌∙◌, subst, ℕ, ◌<◌}
use Rattle.pass_seats.specs.Opening.{PlacesState}
use Rattle.pass_seats.proofs.Opening.{fresh_seat}
use Rattle.pass_seats.proofs.blank.SeatPlaces.seat.Goals as goal

pub invariant_of-result : goal.invariant_of-result
invariant_of-result g c =
    let note = c.in_ok-note.ensures.note in
    let number = ap (λ (s : PlacesState). s.number) c.self.view_is in
    let maker = ap (λ n. n.maker) note ∙ c.requires.sched.1 ∙ sym number in
    fresh_seat g.N.EngineNames.names c.self.inside.number c.self.inside.places.items c.in_ok-note.note
    c.in_ok-note.share c.worker.result _ _ _ c.self.invariant
    (ap (λ (s : PlacesState). s.many) c.self.view_is ∙ c.requires.all)
    (subst (λ (n : ℕ). n < g.N.EngineNames.names.seats) (sym number) c.requires.number)
    (ap (λ n. n.journal) note ∙ c.requires.sched.2) maker c.in_ok-note.ensures.pair
    (ap (λ q. q.number) c.worker.ensures.seat, ap (λ q. q.name) c.worker.ensures.seat ∙ c.requires.quit.0)
    (ap (λ q. q.mark) c.worker.ensures.seat)
    c.split_off.ensures.parts c.split_off.ensures.amount c.new.ensures.items
