use Rattle.std.proofs.Common.{ap, sym, subst}
use Rattle.step_journal.specs.Journals.{NoteState}
use Rattle.loose_records.specs.declared.record.SchedEntry.{SchedEntry}
use Rattle.pass_seats.specs.Seats.{IsSeat}
use Rattle.pass_seats.proofs.Owns.{pair-seen}
use Rattle.pass_seats.proofs.Placing.{with_note, seat_at}
use Rattle.pass_seats.proofs.seat.SeatCore.standing.Goals as goal

pub invariant_of-self-2 : goal.invariant_of-self-2
invariant_of-self-2 g c =
    let sees = c.in_ok-standing.ensures.standing.2 in
    let s = c.self.inside in
    with_note g.N.EngineNames.names (seat_at s.number s.places.items s.note s.share s.quit s.part.parts s.part.amount
    s.passes.items s.torn) c.standing.new.note s.share c.self.invariant (ap (λ n. n.journal) sees.seen)
    (ap (λ n. n.maker) sees.seen)
    (pair-seen c.args.cell.now.journal.log s.note c.standing.new.note s.share c.self.invariant.pair sees.before
    sees.seen)

pub invariant_of-self : goal.invariant_of-self
invariant_of-self g c =
    let s = c.self.inside in
    subst (λ (n : NoteState SchedEntry). IsSeat g.N.EngineNames.names (seat_at s.number s.places.items n s.share s.quit
    s.part.parts s.part.amount s.passes.items s.torn)) (sym c.in_err-standing.ensures.broken.2) c.self.invariant
