use Rattle.std.proofs.Common.{arith, ap}
use Rattle.step_journal.proofs.Steps.{notes}
use Rattle.step_journal.proofs.desk.Desk.new_note.Goals as goal

-- a new note keeps the rule
pub split_seat-seat-requires : goal.split_seat-seat-requires
split_seat-seat-requires g c =
    let i = c.self.invariant in (
      i.same_table,
      omega (arith, i.one_word),
      notes _ _ _ c.self.inside.writer.id c.self.inside.writer.me.0
          (ap (λ me. me.0) i.writes),
    )
