-- The seats of a new engine: each is the seat with its number, of which the first has made the first starts.
use Rattle.std.proofs.Common.{◌≡◌, ℕ, zero, suc, ◌<◌, false, List, [], ◌∷◌, map, refl, sym, ap, ◌∙◌, subst, arith}
use Rattle.std.proofs.Common.{Some, slice_get}
use Rattle.box_turn.specs.Seats as T
use Rattle.ready_queue.specs.Seats as Q
use Rattle.ready_queue.specs.Seats.{FirstState}
use Rattle.round_ledger.specs.Cells.{CellState}
use Rattle.pass_seats.specs.Names.{Names}
use Rattle.pass_seats.specs.Seats.{SeatState}
use Rattle.worker_seats.specs.Workers.{WorkerState, Ring, IsSameSeat, ring_of, turn_of}
use Rattle.worker_seats.specs.Readies.{Readied, NoneReadied, Readies, StartedAll}
use Rattle.shared_engine.specs.Rings.{IsSeatOf}
use Rattle.shared_engine.specs.Beginnings.{AreSeats, HasBegun}
use Rattle.engine_gather.specs.Gathering.{IsSeatAt}
use Rattle.engine_work.specs.Records.{AreSeatsOf}

-- the same seat, which is torn or not as it was
pub record IsKept (old new : WorkerState) : Type 0 where
  pub same : IsSameSeat old new
  pub torn : new.core.torn ≡ old.core.torn

-- a seat is kept where nothing is done, and by one thing after another
kept_still : (s : WorkerState) → IsKept s s
kept_still s = record { same = record { number = refl; ring = refl; first = refl }; torn = refl }

pub kept_on : (a b c : WorkerState) → IsKept a b → IsKept b c → IsKept a c
kept_on a b c one two = record {
  same = record {
    number = two.same.number ∙ one.same.number;
    ring = two.same.ring ∙ one.same.ring;
    first = two.same.first ∙ one.same.first;
  };
  torn = two.torn ∙ one.torn;
}

-- a start keeps the seat
ready_keeps : (cell next : CellState) (old new : WorkerState) → Readied cell next old new → IsKept old new
ready_keeps cell next old new r =
    let core = r.pushed.issued.new_is in
    let ready = r.pushed.after_is in
    record {
      same = record {
        number = ap (λ (s : SeatState). s.number) core;
        ring = ap ring_of r.new_is
            ∙ ap (λ (q : Q.SeatState). record { turns = map turn_of old.turns; queue = q.queue }) ready;
        first = ap (λ (s : WorkerState). s.first) r.new_is;
      };
      torn = ap (λ (s : SeatState). s.torn) core;
    }

-- that none can be made keeps it
none_keeps : (cell next : CellState) (old new : WorkerState) → NoneReadied cell next old new → IsKept old new
none_keeps cell next old new r = record {
  same = record {
    number = ap (λ (s : SeatState). s.number) r.none.new_is;
    ring = ap ring_of r.new_is;
    first = ap (λ (s : WorkerState). s.first) r.new_is;
  };
  torn = ap (λ (s : SeatState). s.torn) r.none.new_is;
}

-- all starts keep it
all_keep : (n : ℕ) (cell : CellState) (old : WorkerState) (next : CellState) (new : WorkerState) →
    Readies n cell old next new → IsKept old new
all_keep zero cell old next new r = subst (IsKept old) (sym r.1) (kept_still old)
all_keep (suc n) cell old next new r =
    kept_on old r.1 new (all_keep n cell old r.0 r.1 r.2) (ready_keeps r.0 next r.1 new r.3)

starts_keep : (cell next : CellState) (old new : WorkerState) → StartedAll cell next old new → IsKept old new
starts_keep cell next old new s =
    kept_on old s.seat new (all_keep s.many cell old s.between s.seat s.starts)
    (none_keeps s.between next s.seat new s.none)

-- each seat of a new engine is the seat with its number
pub new_seat : (names : Names) (ring : Ring) (seats : List WorkerState) → AreSeats names ring seats → (w : ℕ)
    (s : WorkerState) → slice_get seats w ≡ Some s → IsSeatAt ring w s
new_seat names ring seats are zero s at =
    let begun = are.first s at in
    let kept = starts_keep _ begun.next begun.new s begun.starts in
    record {
      number_is = kept.same.number ∙ begun.fresh.core.number_is;
      of = kept.same.ring ∙ begun.fresh.at;
      untorn = kept.torn ∙ begun.fresh.core.whole;
    }
new_seat names ring seats are (suc w) s at =
    let other = are.others (suc w) s (omega arith) at in
    record { number_is = other.core.number_is; of = other.at; untorn = other.core.whole }

-- the first of them has the first view of the ready queue
pub first_view : (names : Names) (ring : Ring) (seats : List WorkerState) → AreSeats names ring seats →
    (s : WorkerState) → slice_get seats 0 ≡ Some s → (view : FirstState) × (s.first ≡ Some view)
first_view names ring seats are s at =
    let begun = are.first s at in
    let kept = starts_keep _ begun.next begun.new s begun.starts in
    (_, kept.same.first ∙ begun.fresh.home)

-- they are seats of the engine
pub seats_of : (ring : Ring) (seats : List WorkerState) →
    ((w : ℕ) (s : WorkerState) → slice_get seats w ≡ Some s → IsSeatOf ring s) → AreSeatsOf ring seats
seats_of ring [] each = tt
seats_of ring (s ∷ seats) each = (each 0 s refl, seats_of ring seats (λ w t at. each (suc w) t at))
