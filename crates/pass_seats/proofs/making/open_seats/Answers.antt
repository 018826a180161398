use Rattle.std.proofs.Common.{◌≡◌, ℕ, ◌+◌, List, [], ◌∷◌, ◌++◌, length, ap, sym, ◌∙◌, subst, arith, None}
use Rattle.std.proofs.Common.{append_assoc, length-append}
use Rattle.std.specs.Vec.Iter.{into_iter_items}
use Rattle.quit_word.specs.Seats as Q
use Rattle.round_ledger.specs.Cells as S
use Rattle.pass_seats.specs.Opening.{PlacesState, IsFresh, AreNewSeats, fresh_sched}
use Rattle.pass_seats.proofs.Opening.{places_here, fewer, none_left, seats_push}
use Rattle.pass_seats.proofs.making.open_seats.Goals as goal

pub seat-requires-clause-all : goal.seat-requires-clause-all
seat-requires-clause-all g c =
    let ys = c.loop-place.yielded in
    let x = c.in-Some.place in
    let rest = into_iter_items c.next.new.self in
    let i = c.loop-place.invariant in
    let all : ys ++ x ∷ rest ≡ c.args.places.items =
    sym (ap (λ (l : List PlacesState). ys ++ l) c.in-Some.ensures.steps.0) ∙ i.rest in
    let here = places_here (length g.N.EngineNames.names.boxes) ys rest c.args.places.items x all c.requires.places in
    here.1

pub seat-requires-clause-number : goal.seat-requires-clause-number
seat-requires-clause-number g c =
    let ys = c.loop-place.yielded in
    let x = c.in-Some.place in
    let rest = into_iter_items c.next.new.self in
    let i = c.loop-place.invariant in
    let all : ys ++ x ∷ rest ≡ c.args.places.items =
    sym (ap (λ (l : List PlacesState). ys ++ l) c.in-Some.ensures.steps.0) ∙ i.rest in
    let here = places_here (length g.N.EngineNames.names.boxes) ys rest c.args.places.items x all c.requires.places in
    omega (arith, fewer ys rest c.args.places.items x all, here.0, c.requires.all)

pub seat-requires-clause-sched : goal.seat-requires-clause-sched
seat-requires-clause-sched g c =
    let ys = c.loop-place.yielded in
    let x = c.in-Some.place in
    let rest = into_iter_items c.next.new.self in
    let i = c.loop-place.invariant in
    let all : ys ++ x ∷ rest ≡ c.args.places.items =
    sym (ap (λ (l : List PlacesState). ys ++ l) c.in-Some.ensures.steps.0) ∙ i.rest in
    let here = places_here (length g.N.EngineNames.names.boxes) ys rest c.args.places.items x all c.requires.places in
    let s = i.sched in (
      ap (λ (k : S.CellState). k.journal.log) s,
      ap (λ (k : S.CellState). k.journal.makers) s ∙ sym here.0,
      ap (λ (k : S.CellState). k.journal.name) s,
    )

pub seat-requires-clause-quit : goal.seat-requires-clause-quit
seat-requires-clause-quit g c =
    let ys = c.loop-place.yielded in
    let x = c.in-Some.place in
    let rest = into_iter_items c.next.new.self in
    let i = c.loop-place.invariant in
    let all : ys ++ x ∷ rest ≡ c.args.places.items =
    sym (ap (λ (l : List PlacesState). ys ++ l) c.in-Some.ensures.steps.0) ∙ i.rest in
    let here = places_here (length g.N.EngineNames.names.boxes) ys rest c.args.places.items x all c.requires.places in
    (c.requires.quit, ap (λ (q : Q.FirstState). q.name) i.first, ap (λ (q : Q.FirstState). q.given) i.first ∙ sym here.0)

pub seat-requires-clause-part : goal.seat-requires-clause-part
seat-requires-clause-part g c =
    let ys = c.loop-place.yielded in
    let x = c.in-Some.place in
    let rest = into_iter_items c.next.new.self in
    let i = c.loop-place.invariant in
    let all : ys ++ x ∷ rest ≡ c.args.places.items =
    sym (ap (λ (l : List PlacesState). ys ++ l) c.in-Some.ensures.steps.0) ∙ i.rest in
    let here = places_here (length g.N.EngineNames.names.boxes) ys rest c.args.places.items x all c.requires.places in
    (omega (arith, fewer ys rest c.args.places.items x all, i.parts, c.requires.all), i.amount)

pub loop-place-preserved : goal.loop-place-preserved
loop-place-preserved g c =
    let ys = c.loop-place.yielded in
    let x = c.in-Some.place in
    let rest = into_iter_items c.next.new.self in
    let i = c.loop-place.invariant in
    let all : ys ++ x ∷ rest ≡ c.args.places.items =
    sym (ap (λ (l : List PlacesState). ys ++ l) c.in-Some.ensures.steps.0) ∙ i.rest in
    let here = places_here (length g.N.EngineNames.names.boxes) ys rest c.args.places.items x all c.requires.places in
    let s = c.in_ok-seat.field-0 in
    let names = g.N.EngineNames.names in
    let setting = c.args.sched.now.setting in
    let len : length ys + 1 ≡ length (ys ++ x ∷ []) = omega (arith, length-append ys (x ∷ [])) in
    let first_at : ℕ → Q.FirstState = λ n. record { given = n; held = []; seen = None; name = names.quit } in
    let one_more : S.CellState → S.CellState = λ k. record k {
      journal = record k.journal { makers = k.journal.makers + 1 };
      seats = k.seats + 1;
    } in
    let next : Q.FirstState → Q.FirstState = λ q. record q { given = q.given + 1 } in
    let number : x.number ≡ length c.loop-place.seats.items = here.0 ∙ sym i.many in
    let fresh : IsFresh (length c.loop-place.seats.items) s =
    subst (λ (n : ℕ). IsFresh n s) number c.in_ok-seat.ensures.seat in
    record {
      rest = append_assoc ys (x ∷ []) rest ∙ all;
      count = omega (arith, i.count, ap length c.in-Some.ensures.steps.0, c.in-Some.ensures.steps.1);
      seats = subst AreNewSeats (sym c.in_ok-push.ensures.items) (seats_push c.loop-place.seats.items s fresh i.seats);
      many = ap length c.in_ok-push.ensures.items ∙ omega (
        arith,
        length-append c.loop-place.seats.items (s ∷ []),
        i.many,
        len,
      );
      sched = c.in_ok-seat.ensures.sched ∙ ap one_more i.sched
          ∙ ap (λ (n : ℕ). fresh_sched names.sched setting n) len;
      first = c.in_ok-seat.ensures.first ∙ ap next i.first ∙ ap first_at len;
      parts = omega (arith, c.in_ok-seat.ensures.part.0, i.parts, len);
      amount = c.in_ok-seat.ensures.part.1;
    }

pub returns : goal.returns
returns g c =
    let i = c.loop-place.invariant in
    let ys = c.loop-place.yielded in
    let rest = into_iter_items c.loop-place.place-iterator in
    let none : length rest ≡ 0 = sym i.count ∙ c.in-None.ensures.steps.0 in
    let names = g.N.EngineNames.names in
    let len : length ys ≡ names.seats =
    ap length (none_left ys rest c.args.places.items i.rest none) ∙ c.requires.all in
    let first_at : ℕ → Q.FirstState = λ n. record { given = n; held = []; seen = None; name = names.quit } in
    record {
      seats = i.seats;
      all = i.many ∙ len;
      sched = i.sched ∙ ap (λ (n : ℕ). fresh_sched names.sched c.args.sched.now.setting n) len;
      first = i.first ∙ ap first_at len;
    }
