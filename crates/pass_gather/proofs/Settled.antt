-- Where nobody gave up no cell is broken.
use Rattle.std.proofs.Common.{◌≡◌, ℕ, Bool, true, false, List, map, All, refl, sym, ◌∙◌, Option, None}
use Rattle.std.proofs.lemmas.List.Elements.{All-map, All-weaker}
use Rattle.quit_word.specs.Seats as Q
use Rattle.pass_seats.specs.Names.{Names}
use Rattle.pass_seats.specs.Desks.{BoxDeskState, IsBoxDesk, HasSeen}
use Rattle.pass_seats.specs.Seats.{SeatState}
use Rattle.pass_gather.specs.Given.{AreSeats}
use Rattle.pass_gather.specs.Closing.{IsOpenCell}
use Rattle.pass_gather.specs.Parting.{view_of, seat_view}
use Rattle.pass_gather.specs.Gathered.{cell_of}
use Rattle.pass_gather.proofs.Lists.{none_some}
use Rattle.pass_gather.proofs.Rows.{all-get, get-all, all-unmap}

-- a cell beside which nobody was seen isn't broken
pub unbroken : (broken : Bool) (seen : Option ℕ) → (broken ≡ true → HasSeen seen) → seen ≡ None → broken ≡ false
unbroken true seen told none = let h = told refl in absurd (none_some h.0 (sym none ∙ h.1))
unbroken false seen told none = refl

-- no seat has its mark
pub seats_unmarked : (names : Names) (seats : List SeatState) → AreSeats names seats →
    All (λ (v : Q.SeatState). v.mark ≡ false) (map seat_view seats)
seats_unmarked names seats are =
    All-map (λ (v : Q.SeatState). v.mark ≡ false) seat_view seats
    (get-all (λ (s : SeatState). s.quit.mark ≡ false) seats (λ w s at. (are.each w s at).unmarked))

-- the views of all seats are of one word
pub seats_named : (names : Names) (seats : List SeatState) → AreSeats names seats →
    All (λ (v : Q.SeatState). v.name ≡ names.quit) (map seat_view seats)
seats_named names seats are =
    All-map (λ (v : Q.SeatState). v.name ≡ names.quit) seat_view seats
    (get-all (λ (s : SeatState). s.quit.name ≡ names.quit) seats (λ w s at. (are.each w s at).seat.quit.1))

-- and so are those at the desks
pub desks_named : (names : Names) (desks : List BoxDeskState) → All (IsBoxDesk names) desks →
    All (λ (v : Q.ViewState). v.name ≡ names.quit) (map view_of desks)
desks_named names desks kept =
    All-map (λ (v : Q.ViewState). v.name ≡ names.quit) view_of desks
    (All-weaker (IsBoxDesk names) (λ (d : BoxDeskState). d.quit.name ≡ names.quit) (λ d is. is.quit) desks kept)

-- where no view at a desk has seen anybody no cell is broken
pub cells_open : (names : Names) (desks : List BoxDeskState) → All (IsBoxDesk names) desks →
    All (λ (v : Q.ViewState). v.seen ≡ None) (map view_of desks) → All (IsOpenCell names) (map cell_of desks)
cells_open names desks kept none =
    All-map (IsOpenCell names) cell_of desks
    (get-all (λ (d : BoxDeskState). IsOpenCell names d.cell) desks (λ b d at.
    let is = all-get (IsBoxDesk names) desks kept b d at in
    let nobody = all-get (λ (e : BoxDeskState). e.quit.seen ≡ None) desks
    (all-unmap (λ (v : Q.ViewState). v.seen ≡ None) view_of desks none) b d at in
    record {
      journal = is.journal;
      makers = is.makers;
      whole = unbroken d.cell.broken d.quit.seen is.broken nobody;
    }))
