-- What the closes of all boxes promise, with the seats, is what the record needs of them.
use Rattle.std.proofs.Common.{ℕ, List, map, subst}
use Rattle.std.proofs.lemmas.List.Elements.{All-contains}
use Rattle.seuss_program.specs.declared.state.State.{State}
use Rattle.seuss_program.specs.declared.state.Value.{Value}
use Rattle.seuss_program.specs.Programs.{vars_of}
use Rattle.method_code.specs.declared.method.Method.{Method}
use Rattle.step_journal.specs.Histories.{Log, IsNoteOf}
use Rattle.loose_records.specs.declared.record.BoxEntry.{BoxEntry}
use Rattle.box_lock.specs.Cells.{IsHistory}
use Rattle.pass_seats.specs.declared.pass.Place.{Place}
use Rattle.pass_seats.specs.Names.{Names, AreNames}
use Rattle.pass_seats.specs.Seats.{SeatState}
use Rattle.pass_gather.specs.Given.{places_of}
use Rattle.pass_gather.specs.Closing.{ClosesAll}
use Rattle.pass_gather.specs.Gathers.{GathersBoxes}
use Rattle.pass_gather.proofs.Lists.{get_map}

-- the closes give all that the record needs of the boxes
pub boxes_gather : (names : Names) (code : List Method) (first : ℕ → List Value) (last : State)
    (logs : List (Log BoxEntry)) (seats : List SeatState) → AreNames names code first →
    ClosesAll names code first last logs (map places_of seats) → GathersBoxes names last logs seats
boxes_gather names code first last logs seats named closed = record {
  many = closed.many;
  lasts = closed.lasts;
  legal = λ b log at.
      subst (λ (c : List Method). IsHistory c b (vars_of names.first b) log (vars_of last b)) named.code_is
      (subst (λ (f : ℕ → List Value). IsHistory code b (f b) log (vars_of last b)) named.first_is
      (closed.each b log at).closes.history);
  stamps = λ b log at. (closed.each b log at).closes.stamps;
  makers = λ b log at. (closed.each b log at).closes.makers;
  notes = λ w b s log p at_seat at_log at_place.
      let c = closed.each b log at_log in
      All-contains (λ (q : Place). IsNoteOf log q.note.maker q.note.seen) c.column p c.closes.notes
      (c.has w s.places p (get_map places_of seats w s at_seat) at_place);
}
