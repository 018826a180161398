use Rattle.std.proofs.Common.{◌≡◌, ℕ, ◌+◌, length, ap, sym, ◌∙◌, refl, subst, arith, rules, Some}
use Rattle.std.specs.Prelude.{slice_get}
use Rattle.std.proofs.lemmas.Option.{slice_get_read}
use Rattle.std.proofs.lemmas.List.{length-set}
use Rattle.box_lock.specs.Cells as B
use Rattle.pass_seats.specs.Opening.{PlacesState}
use Rattle.pass_seats.proofs.Opening.{AreJoined, none_joined, next_joined, all_joined, with_makers}
use Rattle.pass_seats.proofs.making.join_all.Goals as goal

pub loop-w-init : goal.loop-w-init
loop-w-init g c = record {
  joined = none_joined c.args.cell.now.number c.args.places.now.items c.requires.seats;
  all = refl;
  cell = ap (with_makers c.args.cell.now) c.requires.empty.1;
}

pub join-requires-clause-next : goal.join-requires-clause-next
join-requires-clause-next g c =
    let items = c.loop-w.places.items in
    let n = c.index_mut.result.now in
    let at : slice_get items c.loop-w.w ≡ Some n =
    slice_get_read items (length items) c.loop-w.w n refl (search rules) c.index_mut.ensures.value in
    let is = c.loop-w.invariant.joined.behind c.loop-w.w n at (omega arith) in
    ap (λ (k : B.CellState). k.number) c.loop-w.invariant.cell ∙ sym (ap (λ (p : PlacesState). p.many) is)

pub join-requires-clause-maker : goal.join-requires-clause-maker
join-requires-clause-maker g c =
    let items = c.loop-w.places.items in
    let n = c.index_mut.result.now in
    let at : slice_get items c.loop-w.w ≡ Some n =
    slice_get_read items (length items) c.loop-w.w n refl (search rules) c.index_mut.ensures.value in
    let is = c.loop-w.invariant.joined.behind c.loop-w.w n at (omega arith) in
    ap (λ (k : B.CellState). k.journal.makers) c.loop-w.invariant.cell ∙ sym (ap (λ (p : PlacesState). p.number) is)

pub loop-w-preserved : goal.loop-w-preserved
loop-w-preserved g c =
    let items = c.loop-w.places.items in
    let w = c.loop-w.w in
    let n = c.index_mut.result.now in
    let at : slice_get items w ≡ Some n =
    slice_get_read items (length items) w n refl (search rules) c.index_mut.ensures.value in
    let is = c.loop-w.invariant.joined.behind w n at (omega arith) in
    let number : n.number ≡ w = ap (λ (p : PlacesState). p.number) is in
    record {
      joined = next_joined c.args.cell.now.number w items n c.join.new.self at c.in_ok-join.ensures.places
          c.loop-w.invariant.joined;
      all = length-set items w c.join.new.self ∙ c.loop-w.invariant.all;
      cell = c.in_ok-join.ensures.cell
          ∙ ap (λ (k : B.CellState). with_makers k (n.number + 1)) c.loop-w.invariant.cell
          ∙ ap (λ (m : ℕ). with_makers c.args.cell.now (m + 1)) number;
    }

pub returns : goal.returns
returns g c =
    let i = c.loop-w.invariant in
    let items = c.loop-w.places.items in
    let number = c.args.cell.now.number in
    let w_is : c.loop-w.w ≡ length c.args.places.now.items =
    omega (arith, c.len-w-end.ensures, c.args.places.now.ok.0) in
    record {
      seats = all_joined number items (subst (λ (n : ℕ). AreJoined number n items) (w_is ∙ sym i.all) i.joined);
      all = i.all;
      cell = i.cell ∙ ap (with_makers c.args.cell.now) w_is;
    }
