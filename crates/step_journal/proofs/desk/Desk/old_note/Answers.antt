use Rattle.std.proofs.Common.{arith, ap, ◌∙◌, []}
use Rattle.step_journal.specs.declared.view.View.TheVariants.{Writer}
use Rattle.step_journal.specs.Desks.{desk_of}
use Rattle.step_journal.proofs.Steps.{gives_back}
use Rattle.step_journal.proofs.desk.Desk.old_note.Goals as goal

-- giving the note back keeps the rule
pub split_seat-seat-requires : goal.split_seat-seat-requires
split_seat-seat-requires g c =
    let i = c.self.invariant in
    let d = desk_of c.self.inside.writer.table_id c.self.inside.writer.me.0 in
    let olds = ap (λ x. x.olds) c.self.view_is ∙ c.requires.1 in
    let is = ap (λ me. me.0) i.writes ∙ ap (λ o. Writer d.log o d.given) olds in (
      i.same_table,
      omega (arith, i.one_word),
      gives_back d.log c.args.maker c.requires.0 [] d.given c.self.inside.writer.id
          c.self.inside.writer.me.0 is,
    )
