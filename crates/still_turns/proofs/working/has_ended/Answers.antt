use Rattle.std.proofs.Common.{length, refl}
use Rattle.std.proofs.lemmas.Option.{slice_get_read}
use Rattle.still_turns.proofs.working.has_ended.Goals as goal

pub is_told_ended-requires-clause-of : goal.is_told_ended-requires-clause-of
is_told_ended-requires-clause-of g c =
    let items = c.args.seats.now.items in
    let seat = c.index_mut-seat.result.now in
    c.requires.of seat
    (slice_get_read items (length items) c.args.worker seat refl c.requires.within c.index_mut-seat.ensures.value)

pub returns-clause-seats : goal.returns-clause-seats
returns-clause-seats g c =
    let items = c.args.seats.now.items in
    let seat = c.index_mut-seat.result.now in (
      seat,
      c.is_told_ended.new.seat,
      slice_get_read items (length items) c.args.worker seat refl c.requires.within c.index_mut-seat.ensures.value,
      refl,
      c.is_told_ended.ensures.seat,
    )
