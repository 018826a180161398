use Rattle.std.proofs.Common.{◌≡◌, ℕ, ◌<◌, List, ◌∷◌, ◌++◌, [], length, ap, refl, sym, ◌∙◌, arith, length-append, subst}
use Rattle.std.proofs.Common.{append_assoc, Some}
use Rattle.std.specs.Prelude.{slice_get}
use Rattle.box_turn.specs.Seats as T
use Rattle.engine_gather.specs.Columns.{with_firsts}
use Rattle.engine_gather.proofs.Columns.{at-middle, column_there, column_next, firsts_all, firsts_many, firsts_none}
use Rattle.engine_gather.proofs.turn_column.put_row.Goals as goal

pub loop-seat-init : goal.loop-seat-init
loop-seat-init g c =
    record {
      columns = sym (firsts_none c.args.columns.now.items);
      number = refl;
      many = omega (arith, c.requires.many, ap length c.into_iter-seat-iterator.ensures.into_iter_gives.0);
      row = c.into_iter-seat-iterator.ensures.into_iter_gives.0;
    }

pub index_mut-requires : goal.index_mut-requires
index_mut-requires g c =
    let i = c.loop-seat.invariant in
    omega (
      arith,
      i.number,
      i.many,
      ap length c.in-Some.ensures.steps.0,
      ap length i.columns,
      firsts_many c.loop-seat.number c.args.columns.now.items,
    )

pub put-requires : goal.put-requires
put-requires g c =
    let i = c.loop-seat.invariant in
    let ys = c.loop-seat.yielded in
    let s = c.in-Some.seat in
    let number = c.loop-seat.number in
    let columns = c.loop-seat.columns.items in
    let init = c.args.columns.now.items in
    let row = c.args.row.items in
    let rest = c.next.new.self.rest.items in
    let all : ys ++ s ∷ rest ≡ row =
    sym (ap (λ (l : List (T.SeatState ℕ)). ys ++ l) c.in-Some.ensures.steps.0) ∙ i.row in
    let rest_is = c.in-Some.ensures.steps.0 in
    let less : number < length columns =
    omega (arith, i.number, i.many, ap length rest_is, ap length i.columns, firsts_many number init) in
    let there : slice_get row number ≡ Some s =
    subst (λ (n : ℕ). slice_get row n ≡ Some s) (sym i.number)
    (subst (λ (l : List (T.SeatState ℕ)). slice_get l (length ys) ≡ Some s) all (at-middle ys rest s)) in
    c.requires.each number c.index_mut.result.now s
    (column_there init columns number c.index_mut.result.now i.columns less c.index_mut.ensures.value) there

pub loop-seat-preserved : goal.loop-seat-preserved
loop-seat-preserved g c =
    let i = c.loop-seat.invariant in
    let ys = c.loop-seat.yielded in
    let s = c.in-Some.seat in
    let number = c.loop-seat.number in
    let columns = c.loop-seat.columns.items in
    let init = c.args.columns.now.items in
    let rest = c.next.new.self.rest.items in
    let rest_is = c.in-Some.ensures.steps.0 in
    let less : number < length columns =
    omega (arith, i.number, i.many, ap length rest_is, ap length i.columns, firsts_many number init) in
    record {
      columns = column_next init columns number c.index_mut.result.now i.columns less c.index_mut.ensures.value
          c.put.new.self c.in_ok-put.ensures;
      number = omega (arith, i.number, length-append ys (s ∷ []));
      many = omega (arith, i.many, length-append ys (s ∷ []), ap length c.in-Some.ensures.steps.0);
      row = append_assoc ys (s ∷ []) rest
          ∙ sym (ap (λ (l : List (T.SeatState ℕ)). ys ++ l) c.in-Some.ensures.steps.0) ∙ i.row;
    }

pub returns : goal.returns
returns g c =
    let i = c.loop-seat.invariant in
    let init = c.args.columns.now.items in
    let all : c.loop-seat.number ≡ length init =
    omega (arith, i.number, i.many, c.in-None.ensures.steps.0, c.loop-seat.seat-iterator.rest.ok.0) in
    i.columns ∙ ap (λ (n : ℕ). with_firsts n init) all ∙ firsts_all init
