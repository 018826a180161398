-- The turns and the seats of a new engine.
use Rattle.std.proofs.Common.{◌≡◌, ◌≢◌, ℕ, ⊎_elim, List, [], ◌∷◌, ◌++◌, map, length, set}
use Rattle.std.proofs.Common.{refl, sym, ap, ◌∙◌, subst, arith, Some, None, append-nil, append_assoc}
use Rattle.std.specs.Prelude.{slice_get}
use Rattle.std.proofs.lemmas.List.{length-set}
use Rattle.atomic_blocks.specs.Laid.{WebId}
use Rattle.atomic_table.specs.Seated.{TableId}
use Rattle.box_lock.specs.Cells as B
use Rattle.box_turn.specs.Seats as T
use Rattle.ready_queue.specs.Seats as Q
use Rattle.ready_queue.specs.Rules.{new_row}
use Rattle.pass_seats.specs.Names.{Names}
use Rattle.pass_seats.specs.Desks.{BoxDeskState}
use Rattle.pass_seats.specs.Seats.{SeatState}
use Rattle.round_ledger.specs.Cells.{CellState}
use Rattle.pass_seats.specs.Opening.{IsFresh, AreNewBoxes, fresh_sched}
use Rattle.pass_seats.proofs.Lists.{at-append, at-push, map-at, nil_from_length, push-cases, set-cases}
use Rattle.worker_seats.specs.Workers.{Ring, WorkerState, IsSameSeat, IsTurn, ring_of, turn_of}
use Rattle.worker_seats.specs.Readies.{StartedAll}
use Rattle.shared_engine.specs.Rings.{AreTurns, IsTurnOf, name_of, ring_with}
use Rattle.shared_engine.specs.Beginnings.{AreNewSeats, IsFirstSeat, IsNewSeat, AreSeats, HasBegun, fresh_turn}

-- what stands behind a beginning
at-middle : {A : Type 0} (ys rest : List A) (x : A) → slice_get (ys ++ x ∷ rest) (length ys) ≡ Some x
at-middle {A} ys rest x =
    subst (λ (l : List A). slice_get l (length ys) ≡ Some x) (append_assoc ys (x ∷ []) rest)
    (at-append (ys ++ x ∷ []) rest (length ys) x (at-push ys x))

-- the next of a list
pub next_at : {A : Type 0} (ys left rest all : List A) (x : A) → ys ++ left ≡ all → left ≡ x ∷ rest →
    slice_get all (length ys) ≡ Some x
next_at {A} ys left rest all x is here =
    subst (λ (l : List A). slice_get l (length ys) ≡ Some x) (sym (ap (λ (l : List A). ys ++ l) here) ∙ is)
    (at-middle ys rest x)

-- where nothing is left
pub none_left : {A : Type 0} (ys rest all : List A) → ys ++ rest ≡ all → length rest ≡ 0 → ys ≡ all
none_left {A} ys rest all is none =
    sym (append-nil ys) ∙ ap (λ (l : List A). ys ++ l) (sym (nil_from_length rest none)) ∙ is

-- the number of a new desk
pub desk_number : (names : Names) (desks : List BoxDeskState) (b : ℕ) (d : BoxDeskState) → AreNewBoxes names desks →
    slice_get desks b ≡ Some d → d.cell.number ≡ b
desk_number names desks b d are at = ap (λ (c : B.CellState). c.number) (are.each b d at).cell

-- a new core with its own number
pub own_fresh : (w : ℕ) (s : SeatState) → IsFresh w s → IsFresh s.number s
own_fresh w s fresh = subst (λ (k : ℕ). IsFresh k s) (sym fresh.number_is) fresh

-- turns of the first boxes, with that of the next one
pub turns_push : (names : Names) (turns : List (T.TurnState ℕ)) (t : T.TurnState ℕ) →
    AreTurns names turns → IsTurnOf names (length turns) t → AreTurns names (turns ++ t ∷ [])
turns_push names turns t are next = record {
  each = λ b u at.
      ⊎_elim (λ (h : slice_get turns b ≡ Some u). are.each b u h)
      (λ (h : (b ≡ length turns) × (t ≡ u)).
      subst (λ (k : ℕ). IsTurnOf names k u) (sym h.0) (subst (IsTurnOf names (length turns)) h.1 next))
      (push-cases turns t u b at);
}

-- fresh seats of the turns of all boxes
pub fresh_turns : (names : Names) (turns : List (T.TurnState ℕ)) → AreTurns names turns → (b : ℕ)
    (s : T.SeatState ℕ) → slice_get (map fresh_turn turns) b ≡ Some s → IsTurn b s
fresh_turns names turns are b s at =
    let t = map-at fresh_turn turns b s at in
    let turn : IsTurn b (fresh_turn t.0) = record { box = (are.each b t.0 t.1).box; free = refl } in
    subst (IsTurn b) t.2 turn

-- their ring is that of the turns
pub fresh_ring : (turns : List (T.TurnState ℕ)) → map turn_of (map fresh_turn turns) ≡ map name_of turns
fresh_ring [] = refl
fresh_ring (t ∷ turns) = ap (λ (l : List TableId). t.name ∷ l) (fresh_ring turns)

-- the ring of seats at these turns and of this queue
abbrev ring_at : WebId → List TableId → Ring
ring_at queue turns = record { turns = turns; queue = queue }

-- a seat over a new core, with a seat of each turn and one of the queue
pub one_new : (turns : List (T.TurnState ℕ)) (queue : WebId) (core : SeatState) (dealt : List (T.SeatState ℕ))
    (ready : Q.SeatState) (s : WorkerState) → IsFresh core.number core → dealt ≡ map fresh_turn turns →
    ready ≡ record { queue = queue; row = new_row core.number } →
    s ≡ record { core = core; turns = dealt; ready = ready; first = None } →
    IsNewSeat (ring_with turns queue) core.number s
one_new turns queue core dealt ready s fresh dealt_is ready_is is = record {
  core = subst (λ (o : WorkerState). IsFresh core.number o.core) (sym is) fresh;
  at = ap ring_of is ∙ ap (λ (q : Q.SeatState). ring_at q.queue (map turn_of dealt)) ready_is
      ∙ ap (λ (l : List (T.SeatState ℕ)). ring_at queue (map turn_of l)) dealt_is
      ∙ ap (ring_at queue) (fresh_ring turns);
  row = ap (λ (o : WorkerState). o.ready.row) is ∙ ap (λ (q : Q.SeatState). q.row) ready_is;
  alone = ap (λ (o : WorkerState). o.first) is;
}

-- new seats, with the next one
pub seats_push : (ring : Ring) (seats : List WorkerState) (s : WorkerState) → AreNewSeats ring seats →
    IsNewSeat ring (length seats) s → AreNewSeats ring (seats ++ s ∷ [])
seats_push ring seats s are next = record {
  each = λ w u at.
      ⊎_elim (λ (h : slice_get seats w ≡ Some u). are.each w u h)
      (λ (h : (w ≡ length seats) × (s ≡ u)).
      subst (λ (k : ℕ). IsNewSeat ring k u) (sym h.0) (subst (IsNewSeat ring (length seats)) h.1 next))
      (push-cases seats s u w at);
}

-- the first of new seats is at the queue of their ring
pub first_queue : (ring : Ring) (seats : List WorkerState) (s : WorkerState) (queue : WebId) →
    AreNewSeats ring seats → ring.queue ≡ queue → slice_get seats 0 ≡ Some s → s.ready.queue ≡ queue
first_queue ring seats s queue are is at = ap (λ (r : Ring). r.queue) (are.each 0 s at).at ∙ is

-- a new seat with number 0 that keeps the first view of its queue
pub kept_first : (names : Names) (ring : Ring) (seat kept : WorkerState) (line : Q.FirstState) →
    IsNewSeat ring 0 seat → kept ≡ record seat { first = Some line } →
    line ≡ record { queue = ring.queue; rows = []; given = names.seats } → IsFirstSeat names ring kept
kept_first names ring seat kept line new is line_is = record {
  core = subst (λ (o : WorkerState). IsFresh 0 o.core) (sym is) new.core;
  at = ap ring_of is ∙ new.at;
  row = ap (λ (o : WorkerState). o.ready.row) is ∙ new.row;
  home = ap (λ (o : WorkerState). o.first) is ∙ ap Some line_is;
}

-- what the first seat has after the first starts
pub has_begun : (names : Names) (ring : Ring) (new s : WorkerState) (next : CellState) →
    IsFirstSeat names ring new → StartedAll (fresh_sched names.sched names.setting.scheduler names.seats) next new s →
    IsSameSeat new s → HasBegun names ring s
has_begun names ring new s next fresh starts same = record {
  new = new;
  fresh = fresh;
  next = next;
  starts = starts;
  number = same.number ∙ fresh.core.number_is;
  at = same.ring ∙ fresh.at;
  home = same.first ∙ fresh.home;
}

-- new seats, the first of which has begun
pub seats_begun : (names : Names) (ring : Ring) (seats : List WorkerState) (s : WorkerState) →
    length seats ≡ names.seats → AreNewSeats ring seats → HasBegun names ring s → AreSeats names ring (set seats 0 s)
seats_begun names ring seats s many are begun = record {
  many = length-set seats 0 s ∙ many;
  first = λ u at.
      ⊎_elim (λ (h : (◌≡◌ {A = ℕ} 0 0) × (s ≡ u)). subst (HasBegun names ring) h.1 begun)
      (λ (h : (◌≢◌ {A = ℕ} 0 0) × (slice_get seats 0 ≡ Some u)). absurd (h.0 refl))
      (set-cases seats 0 0 s u at);
  others = λ w u less at.
      ⊎_elim (λ (h : (w ≡ 0) × (s ≡ u)). absurd (omega (arith, h.0, less)))
      (λ (h : (w ≢ 0) × (slice_get seats w ≡ Some u)). are.each w u h.1) (set-cases seats 0 w s u at);
}
