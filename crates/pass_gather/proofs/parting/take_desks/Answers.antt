use Rattle.std.proofs.Common.{◌≡◌, [], All, sym, subst}
use Rattle.std.proofs.lemmas.List.Elements.{All-push}
use Rattle.pass_seats.specs.Desks.{IsBoxDesk}
use Rattle.pass_gather.specs.Gathered.{cell_of}
use Rattle.pass_gather.specs.Parting.{open_cell, view_of}
use Rattle.pass_gather.proofs.Rows.{push-map, push-is}
use Rattle.pass_gather.proofs.parting.take_desks.Goals as goal

pub loop-desk-preserved : goal.loop-desk-preserved
loop-desk-preserved g c =
    let i = c.loop-desk.invariant in
    let ys = c.loop-desk.yielded in
    let d = c.in-Some.desk in
    record {
      cells = push-map cell_of open_cell ys d c.loop-desk.boxes.items c.push.new.self.items _
          c.in_ok-push.ensures.items i.cells c.apart-cell.ensures.cell;
      columns = subst (All (λ o. o.column ≡ [])) (sym c.in_ok-push.ensures.items)
          (All-push (λ o. o.column ≡ []) c.loop-desk.boxes.items _ i.columns c.new-column.ensures);
      views = push-is view_of ys d c.loop-desk.views.items c.push-in-loop-desk.new.self.items _
          c.in_ok-push-2.ensures.items i.views c.apart-cell.ensures.quit;
      kept = All-push (IsBoxDesk g.N.EngineNames.names) ys d i.kept c.apart-cell.ensures.kept;
    }
