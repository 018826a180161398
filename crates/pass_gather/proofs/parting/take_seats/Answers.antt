use Rattle.std.proofs.Common.{map, length, refl, ap, ◌∙◌, rules}
use Rattle.pass_gather.specs.Parting.{open_cell}
use Rattle.pass_gather.proofs.Columns.{columns_none}
use Rattle.pass_gather.proofs.Parted.{apart_push, row_many}
use Rattle.pass_gather.proofs.parting.take_seats.Goals as goal

pub loop-seat-init : goal.loop-seat-init
loop-seat-init g c = record {
  many = c.requires.many;
  apart = record {
    cells_are = refl;
    columns = columns_none c.args.boxes.items c.requires.columns;
    notes = search rules;
    shares = search rules;
    views = search rules;
    parts = search rules;
    amounts = search rules;
    passes = search rules;
  };
}

pub loop-seat-preserved : goal.loop-seat-preserved
loop-seat-preserved g c =
    let i = c.loop-seat.invariant in
    let old = c.loop-seat.made in
    let e = c.in_ok-take.ensures in
    record {
      many = ap length e.boxes ∙ row_many old.boxes.items c.in-Some.seat.places ∙ i.many;
      apart = apart_push (map open_cell c.args.boxes.items) c.loop-seat.yielded c.in-Some.seat old c.take.new.self
          i.apart e.many e.boxes e.notes e.shares e.views e.parts e.amounts e.passes;
    }
