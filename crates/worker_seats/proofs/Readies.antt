-- Starts, one after the other.
use Rattle.std.proofs.Common.{◌≡◌, ℕ, zero, suc, Bool, true, false, refl, sym, ap, ◌∙◌, subst}
use Rattle.std.specs.Prelude.{Result, Ok, Err, IfOk, MatchResult}
use Rattle.round_ledger.specs.Cells.{CellState}
use Rattle.ready_queue.specs.Seats as Q
use Rattle.pass_seats.specs.declared.refusal.EngineRefusal as E
use Rattle.pass_seats.specs.declared.refusal.EngineRefusal.TheVariants as X
use Rattle.pass_seats.specs.Names.{Names}
use Rattle.pass_seats.specs.Seats.{SeatState}
use Rattle.worker_seats.specs.Workers.{WorkerState, IsWorker, IsSameSeat, ring_of}
use Rattle.worker_seats.specs.Readies.{Readied, Readies, ReadyRefused, StartAllRefused, Pushed, NonePushed}
use Rattle.worker_seats.specs.Readies.{PushRefused, NoneReadied}
use Rattle.worker_seats.proofs.Workers.{torn_kept, quit_kept, saw_kept, pushed_kept, core_same}

-- the same seat after one call, and after another
pub same_more : (a b c : WorkerState) → IsSameSeat a b → IsSameSeat b c → IsSameSeat a c
same_more a b c first then = record {
  number = then.number ∙ first.number;
  ring = then.ring ∙ first.ring;
  first = then.first ∙ first.first;
}

-- the same seat, which nothing was done to
pub same_still : (old new : WorkerState) → new ≡ old → IsSameSeat old new
same_still old new is =
    let still : IsSameSeat old old = record { number = refl; ring = refl; first = refl } in
    subst (IsSameSeat old) (sym is) still

-- after one start
pub readied_same : (cell next : CellState) (old new : WorkerState) → Readied cell next old new → IsSameSeat old new
readied_same cell next old new r = record {
  number = ap (λ (s : SeatState). s.number) r.pushed.issued.new_is;
  ring = ap ring_of r.new_is
      ∙ ap (λ (q : Rattle.atomic_blocks.specs.Laid.WebId). record {
        turns = Rattle.std.proofs.Common.map Rattle.worker_seats.specs.Workers.turn_of old.turns;
        queue = q;
      }) (ap (λ (y : Q.SeatState). y.queue) r.pushed.after_is);
  first = ap (λ (s : WorkerState). s.first) r.new_is;
}

-- after so many
pub readies_same : (n : ℕ) (cell : CellState) (old : WorkerState) (next : CellState) (new : WorkerState) →
    Readies n cell old next new → IsSameSeat old new
readies_same zero cell old next new r = same_still old new r.1
readies_same (suc n) cell old next new r =
    same_more old r.1 new (readies_same n cell old r.0 r.1 r.2) (readied_same r.0 next r.1 new r.3)

-- the seat hasn't given up by then
pub readies_torn : (n : ℕ) (cell : CellState) (old : WorkerState) (next : CellState) (new : WorkerState) →
    Readies n cell old next new → new.core.torn ≡ old.core.torn
readies_torn zero cell old next new r = ap (λ (s : WorkerState). s.core.torn) r.1
readies_torn (suc n) cell old next new r =
    ap (λ (s : SeatState). s.torn) r.3.pushed.issued.new_is ∙ readies_torn n cell old r.0 r.1 r.2

-- and the scheduler's cell isn't broken
pub readies_working : (n : ℕ) (cell : CellState) (old : WorkerState) (next : CellState) (new : WorkerState) →
    Readies n cell old next new → cell.broken ≡ false → next.broken ≡ false
readies_working zero cell old next new r working = ap (λ (c : CellState). c.broken) r.0 ∙ working
readies_working (suc n) cell old next new r working = r.3.pushed.issued.whole.1

-- a cell isn't broken and whole
broken_not : (P : Type 0) (c : CellState) → c.broken ≡ false → c.broken ≡ true → P
broken_not P c f t = absurd (false_true (sym f ∙ t))
  where
    false_true : ◌≡◌ false true → ⊥
    false_true e = cc e

-- starts, the last of which was refused
pub starts_end : (n : ℕ) (cell between next : CellState) (old seat new : WorkerState) (r : E.EngineRefusal) →
    Readies n cell old between seat → cell.broken ≡ false → ReadyRefused between next seat new r →
    StartAllRefused cell next old new r
starts_end n cell between next old seat new (X.GivenUp by) starts working refused =
    broken_not ⊥ between (readies_working n cell old between seat starts working) refused.why.2
starts_end n cell between next old seat new X.Memory starts working refused = (
  record { many = n; between = between; seat = seat; starts = starts; refused = refused },
  record {
    torn = refused.why.1.torn;
    seen = refused.why.1.seen;
    number = refused.why.1.number ∙ (readies_same n cell old between seat starts).number;
  },
)
starts_end n cell between next old seat new (X.Worn stamp) starts working refused =
    record { many = n; between = between; seat = seat; starts = starts; refused = refused }

-- one start at the scheduler's desk, with what it does to the core of a seat and to its seat of the queue
module _ (names : Names) (cell next : CellState) (s : WorkerState) (new : SeatState) (after : Q.SeatState) where
  -- the seat after it
  abbrev pub left : WorkerState
  left = record s { core = new; ready = after }

  abbrev pub HasPushed : Result Bool E.EngineRefusal → Type 0
  HasPushed made = IfOk made (λ more. more ≡ true → Pushed cell next s.core new s.ready after)

  abbrev pub HasNone : Result Bool E.EngineRefusal → Type 0
  HasNone made = IfOk made (λ more. more ≡ false → NonePushed cell next s.core new s.ready after)

  abbrev pub IsRefused : Result Bool E.EngineRefusal → Type 0
  IsRefused made = MatchResult made (λ _. ℕ)
      (λ r. PushRefused cell next s.core new r × (after ≡ s.ready))

  -- a refused start leaves what the seat has to keep
  refused_kept : (r : E.EngineRefusal) → IsWorker names s → PushRefused cell next s.core new r →
      IsWorker names (record s { core = new })
  refused_kept (X.GivenUp by) w f = quit_kept names s w by new f.1
  refused_kept X.Memory w f = torn_kept names s w new f.1
  refused_kept (X.Worn stamp) w f = saw_kept names s w cell.journal.log new f.3.before f.3.new_is

  -- the number of the seat is as before
  refused_number : (r : E.EngineRefusal) → PushRefused cell next s.core new r → new.number ≡ s.core.number
  refused_number (X.GivenUp by) f = ap (λ (t : SeatState). t.number) f.1
  refused_number X.Memory f = f.1.number
  refused_number (X.Worn stamp) f = ap (λ (t : SeatState). t.number) f.3.new_is

  -- after it the seat keeps what it has to
  pub ready_kept : (made : Result Bool E.EngineRefusal) → IsWorker names s → s.core.torn ≡ false →
      HasPushed made → HasNone made → IsRefused made → IsWorker names left
  ready_kept (Ok true) w whole more none refused =
      let p = more refl in pushed_kept names s w cell next new p.item after whole p.issued p.after_is
  ready_kept (Ok false) w whole more none refused =
      let n = none refl in
      subst (λ (r : Q.SeatState). IsWorker names (record s { core = new; ready = r })) (sym n.same)
      (saw_kept names s w cell.journal.log new n.none.before n.none.new_is)
  ready_kept (Err r) w whole more none refused =
      subst (λ (q : Q.SeatState). IsWorker names (record s { core = new; ready = q })) (sym refused.1)
      (refused_kept r w refused.0)

  -- what is answered of it
  pub readied_told : (made : Result Bool E.EngineRefusal) → HasPushed made →
      IfOk made (λ more. more ≡ true → Readied cell next s left)
  readied_told (Ok more) pushed = λ is. record { pushed = pushed is; new_is = refl }
  readied_told (Err r) pushed = pushed

  pub none_told : (made : Result Bool E.EngineRefusal) → HasNone made →
      IfOk made (λ more. more ≡ false → NoneReadied cell next s left)
  none_told (Ok more) none = λ is. record {
    none = (none is).none;
    new_is = ap (λ (r : Q.SeatState). record s { core = new; ready = r }) (none is).same;
  }
  none_told (Err r) none = none

  pub refused_told : (made : Result Bool E.EngineRefusal) → IsRefused made →
      MatchResult made (λ _. ℕ) (ReadyRefused cell next s left)
  refused_told (Ok more) refused = refused
  refused_told (Err r) refused = record {
    why = refused.0;
    new_is = ap (λ (q : Q.SeatState). record s { core = new; ready = q }) refused.1;
  }

  -- and the seat is the same one
  pub ready_same : (made : Result Bool E.EngineRefusal) → HasPushed made → HasNone made → IsRefused made →
      IsSameSeat s left
  ready_same (Ok true) more none refused =
      readied_same cell next s left (record { pushed = more refl; new_is = refl })
  ready_same (Ok false) more none refused =
      let n = none refl in
      subst (λ (r : Q.SeatState). IsSameSeat s (record s { core = new; ready = r })) (sym n.same)
      (core_same s new (ap (λ (t : SeatState). t.number) n.none.new_is))
  ready_same (Err r) more none refused =
      subst (λ (q : Q.SeatState). IsSameSeat s (record s { core = new; ready = q })) (sym refused.1)
      (core_same s new (refused_number r refused.0))
