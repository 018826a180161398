use Rattle.std.proofs.Common.{length, refl}
use Rattle.std.proofs.lemmas.Option.{slice_get_read}
use Rattle.turn_runs.proofs.ListLemmas.{put_back}
use Rattle.still_turns.specs.declared.hand.InHand.TheVariants.{Nothing}
use Rattle.still_turns.proofs.working.work_of.Goals as goal

pub work-requires-clause-of : goal.work-requires-clause-of
work-requires-clause-of g c =
    let items = c.args.seats.now.items in
    let seat = c.index_mut-seat.result.now in
    c.requires.of seat
    (slice_get_read items (length items) c.args.worker seat refl c.requires.within.0 c.index_mut-seat.ensures.value)

pub work-requires-clause-may : goal.work-requires-clause-may
work-requires-clause-may g c =
    let items = c.args.seats.now.items in
    let seat = c.index_mut-seat.result.now in
    c.requires.may seat c.replace-hand.result
    (slice_get_read items (length items) c.args.worker seat refl c.requires.within.0 c.index_mut-seat.ensures.value)
    c.replace-hand.ensures.value

pub returns : goal.returns
returns g c =
    let items = c.args.seats.now.items in
    let seat = c.index_mut-seat.result.now in (
      seat,
      c.work.new.seat,
      c.replace-hand.result,
      c.in_ok-next.next,
      slice_get_read items (length items) c.args.worker seat refl c.requires.within.0 c.index_mut-seat.ensures.value,
      c.replace-hand.ensures.value,
      refl,
      put_back c.args.hands.now c.replace-hand.new.self c.set.new.self c.args.worker Nothing c.in_ok-next.next
          c.replace-hand.ensures.after c.set.ensures,
      c.in_ok-next.ensures,
    )
