use Rattle.std.proofs.Common.{◌≡◌, arith, ap, ◌∙◌, sym}
use Rattle.step_journal.specs.declared.view.View.TheVariants.{Noted}
use Rattle.step_journal.specs.Desks.{seen_in}
use Rattle.step_journal.proofs.Steps.{takes}
use Rattle.step_journal.proofs.desk.Desk.take_in.Goals as goal

-- taking in a note keeps the rule
pub join_seat-requires : goal.join_seat-requires
join_seat-requires g c =
    let i = c.self.invariant in
    let s = c.into_seat-seat.ensures in
    let note : c.into_seat-seat.result.me.0 ≡ Noted c.args.maker (seen_in c.args.note.views) =
    cc (s.2, c.requires.note) in
    let named = s.0 ∙ c.requires.name ∙ sym (ap (λ d. d.name) c.self.view_is) ∙ i.same_table in (
      i.same_table,
      named,
      s.3,
      omega (arith, i.one_word),
      takes _ _ _ c.self.inside.writer.id c.into_seat-seat.result.id
          c.self.inside.writer.me.0 c.into_seat-seat.result.me.0 _ _ (ap (λ me. me.0) i.writes) note,
    )
