use Rattle.std.proofs.Common.{◌∷◌, [], length, ap, arith, length-append}
use Rattle.pass_gather.proofs.Parted.{row_many, row_next}
use Rattle.pass_gather.proofs.parting.put_row.Goals as goal

pub index_mut-requires : goal.index_mut-requires
index_mut-requires g c =
    let i = c.loop-place.invariant in
    omega (
      arith,
      i.number,
      i.many,
      ap length c.in-Some.ensures.steps.0,
      ap length i.boxes,
      row_many c.args.boxes.now.items c.loop-place.yielded,
    )

pub loop-place-preserved : goal.loop-place-preserved
loop-place-preserved g c =
    let i = c.loop-place.invariant in
    let ys = c.loop-place.yielded in
    let p = c.in-Some.place in
    let init = c.args.boxes.now.items in
    record {
      boxes = row_next init c.loop-place.boxes.items ys c.loop-place.number c.index_mut.result.now p c.put.new.self
          i.boxes i.number
          (omega (
            arith,
            i.number,
            i.many,
            ap length c.in-Some.ensures.steps.0,
            ap length i.boxes,
            row_many init ys,
          ))
          c.index_mut.ensures.value c.in_ok-put.ensures;
      number = omega (arith, i.number, length-append ys (p ∷ []));
      many = omega (arith, i.many, length-append ys (p ∷ []), ap length c.in-Some.ensures.steps.0);
    }
