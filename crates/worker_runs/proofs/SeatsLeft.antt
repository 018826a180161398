-- The seats that workers left who were told that the run has ended.
use Rattle.std.proofs.Common.{◌≡◌, ℕ, zero, suc, ◌<◌, List, [], ◌∷◌, map, length, All, refl, ap, ◌∙◌, subst}
use Rattle.std.proofs.Common.{arith, Some, None, slice_get}
use Rattle.std.proofs.lemmas.Option.{same_Some, none-some}
use Rattle.std.proofs.lemmas.List.{length-map}
use Rattle.std.proofs.lemmas.List.Elements.{All-head, All-tail}
use Rattle.seuss_program.specs.declared.state.Value.{Value}
use Rattle.method_code.specs.declared.method.Method.{Method}
use Rattle.round_ledger.specs.declared.standing.Standing.TheVariants.{Ended}
use Rattle.pass_seats.specs.Names.{Names}
use Rattle.worker_seats.specs.Workers.{WorkerState, Ring}
use Rattle.shared_engine.specs.Beginnings.{AreSeats}
use Rattle.shared_engine.specs.Calls.{Stands}
use Rattle.engine_gather.specs.Gathering.{AreAllSeats, BeginsWithEnd, HaveSeenEnd}
use Rattle.engine_work.specs.declared.working.WorkerRecord.{WorkerRecord}
use Rattle.engine_work.specs.Records.{AreWork, IsWork, ended_so}
use Rattle.worker_runs.proofs.SeatsBegun.{first_view, new_seat}

-- the worker was told that the run has ended
abbrev WasNotRefused : {N : Type 0} → WorkerRecord N → Type 0
WasNotRefused r = r.refusal ≡ None

module _ {N : Type 0} (names : Names) (code : List Method) (first : ℕ → List Value) where
  -- the work of the worker that left this seat
  work_at : (seats : List WorkerState) (all : List (WorkerRecord N)) →
      AreWork names code first seats (map (λ (r : WorkerRecord N). ended_so r.seat r.refusal) all) →
      All WasNotRefused all → (w : ℕ) (t : WorkerState) →
      slice_get (map (λ (r : WorkerRecord N). r.seat) all) w ≡ Some t →
      (s : WorkerState) × (slice_get seats w ≡ Some s) × IsWork names code first s t None
  work_at [] [] works none w t at = absurd (none-some t at)
  work_at [] (r ∷ all) works none w t at = absurd works
  work_at (s ∷ seats) [] works none w t at = absurd works
  work_at (s ∷ seats) (r ∷ all) works none zero t at =
      let left : r.seat ≡ t = same_Some r.seat t at in (
        s,
        refl,
        subst (λ (x : WorkerState). IsWork names code first s x None) left
            (subst (IsWork names code first s r.seat) (All-head WasNotRefused r all none) works.0),
      )
  work_at (s ∷ seats) (r ∷ all) works none (suc w) t at =
      work_at seats all works.1 (All-tail WasNotRefused r all none) w t at

  -- as many have worked as there are seats
  work_many : (seats : List WorkerState) (all : List (WorkerRecord N)) →
      AreWork names code first seats (map (λ (r : WorkerRecord N). ended_so r.seat r.refusal) all) →
      length all ≡ length seats
  work_many [] [] works = refl
  work_many [] (r ∷ all) works = absurd works
  work_many (s ∷ seats) [] works = absurd works
  work_many (s ∷ seats) (r ∷ all) works = ap suc (work_many seats all works.1)

  module _ (ring : Ring) (seats : List WorkerState) (are : AreSeats names ring seats) (some : 0 < names.seats)
      (all : List (WorkerRecord N))
      (works : AreWork names code first seats (map (λ (r : WorkerRecord N). ended_so r.seat r.refusal) all))
      (none : All WasNotRefused all) where
    -- the seats that were left
    abbrev back : List WorkerState
    back = map (λ (r : WorkerRecord N). r.seat) all

    -- one of them is there
    first_back : (t : WorkerState) × (slice_get back 0 ≡ Some t)
    first_back = head_of all (omega (arith, work_many seats all works, are.many, some))
      where
        head_of : (l : List (WorkerRecord N)) → 0 < length l →
            (t : WorkerState) × (slice_get (map (λ (r : WorkerRecord N). r.seat) l) 0 ≡ Some t)
        head_of [] more = absurd (omega (arith, more))
        head_of (r ∷ l) more = (r.seat, refl)

    -- they are all seats of the engine, none of them torn
    pub all_back : AreAllSeats names ring back
    all_back =
        let t = first_back in
        let at_first = work_at seats all works none 0 t.0 t.1 in
        let view = first_view names ring seats are at_first.0 at_first.1 in
        record {
          many = length-map all (λ (r : WorkerRecord N). r.seat) ∙ work_many seats all works ∙ are.many;
          each = λ w u at.
              let worked = work_at seats all works none w u at in
              let new = new_seat names ring seats are w worked.0 worked.1 in
              record {
                number_is = worked.2.seat.number ∙ new.number_is;
                of = worked.2.seat.ring ∙ new.of;
                untorn = worked.2.unmarked.torn ∙ new.untorn;
              };
          home = record {
            number = 0;
            seat = t.0;
            there = t.1;
            first = view.0;
            keeps = at_first.2.seat.first ∙ view.1;
          };
        }

    -- the first of them has seen the end, since it was told so
    pub end_seen : ((old new : WorkerState) → Stands names old new Ended →
        BeginsWithEnd names.setting.scheduler new.core.note.seen) → HaveSeenEnd names.setting.scheduler back
    end_seen shows =
        let t = first_back in
        let told = (work_at seats all works none 0 t.0 t.1).2.told in
        record { number = 0; seat = t.0; there = t.1; end = shows told.before t.0 told.stands }
