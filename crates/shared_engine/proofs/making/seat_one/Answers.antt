use Rattle.std.proofs.Common.{◌≡◌, ℕ, List, length, ap, ◌∙◌, subst, Some}
use Rattle.std.specs.Prelude.{slice_get}
use Rattle.std.proofs.lemmas.List.{length-map}
use Rattle.box_turn.specs.Seats as T
use Rattle.ready_queue.specs.Seats as Q
use Rattle.ready_queue.specs.Rules.{new_row}
use Rattle.shared_engine.specs.Beginnings.{fresh_turn}
use Rattle.shared_engine.proofs.Seating.{fresh_turns, one_new}
use Rattle.shared_engine.proofs.making.seat_one.Goals as goal

pub new-requires-clause-many : goal.new-requires-clause-many
new-requires-clause-many g c =
    ap length c.in_ok-dealt.ensures.seats ∙ length-map c.args.turns.now.items fresh_turn ∙ c.requires.many

pub new-requires-clause-turns : goal.new-requires-clause-turns
new-requires-clause-turns g c = λ b t at.
    fresh_turns g.N.EngineNames.names c.args.turns.now.items c.requires.turns b t
    (subst (λ (l : List (T.SeatState ℕ)). slice_get l b ≡ Some t) c.in_ok-dealt.ensures.seats at)

pub new-requires-clause-ready : goal.new-requires-clause-ready
new-requires-clause-ready g c =
    ap (λ (q : Q.SeatState). q.row) c.seat-ready.ensures.seat ∙ ap new_row c.number.ensures

pub returns-clause-seat : goal.returns-clause-seat
returns-clause-seat g c =
    let at : ℕ → Q.SeatState = λ n. record { queue = c.args.queue.now; row = new_row n } in
    one_new c.args.turns.now.items c.args.queue.now c.args.core c.in_ok-dealt.dealt.items c.seat-ready.result
    c.new.result c.requires.core c.in_ok-dealt.ensures.seats (c.seat-ready.ensures.seat ∙ ap at c.number.ensures)
    c.new.ensures
