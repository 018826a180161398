use Rattle.std.proofs.Common.{arith, ap}
use Rattle.step_journal.proofs.Steps.{looks}
use Rattle.step_journal.proofs.desk.Desk.look.Goals as goal

pub load-requires : goal.load-requires
load-requires g c =
    let i = c.self.invariant in (
      i.same_table,
      omega (arith, i.one_word),
      looks _ _ _ c.self.inside.table.shared.table_id.slots c.self.inside.writer.id
          c.self.inside.writer.me (ap (λ me. me.0) i.writes),
    )
