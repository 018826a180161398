use Rattle.std.proofs.Common.{sym, subst}
use Rattle.engine_gather.specs.Columns.{IsRow}
use Rattle.engine_gather.proofs.Parting.{row_fits}
use Rattle.engine_gather.proofs.seats_apart.SeatsApart.take.Goals as goal

pub put_row-requires : goal.put_row-requires
put_row-requires g c =
    let columns = c.args.self.now.columns.items in
    subst (IsRow columns) (sym c.apart-core.ensures.turns)
    (row_fits g.N.EngineNames.names columns c.args.seat c.apart-core.ensures.kept c.requires.many c.requires.turns)
