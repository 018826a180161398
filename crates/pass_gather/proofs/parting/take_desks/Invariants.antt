use Rattle.std.proofs.Common.{◌≡◌, [], map, All}
use Rattle.pass_seats.specs.Desks.{IsBoxDesk}
use Rattle.pass_gather.specs.Gathered.{cell_of}
use Rattle.pass_gather.specs.Parting.{open_cell, view_of}
use Rattle.pass_gather.proofs.parting.take_desks.Given as goal

abbrev pub invariant-loop-desk : goal.invariant-loop-desk
invariant-loop-desk g l = record {
  cells : map open_cell l.boxes.items ≡ map cell_of l.yielded;
  columns : All (λ o. o.column ≡ []) l.boxes.items;
  views : l.views.items ≡ map view_of l.yielded;
  kept : All (IsBoxDesk g.N.EngineNames.names) l.yielded;
}
