use Rattle.std.proofs.Common.{◌+◌, ◌<◌, ◌^◌, length, arith, ap, ◌∙◌, []}
use Rattle.step_journal.specs.declared.view.View.TheVariants.{Writer}
use Rattle.step_journal.specs.Desks.{desk_of}
use Rattle.step_journal.proofs.Steps.{appends}
use Rattle.step_journal.proofs.desk.Desk.append.Goals as goal

-- an append keeps the rule
pub fetch_add-requires : goal.fetch_add-requires
fetch_add-requires g c =
    let i = c.self.invariant in
    let d = desk_of c.self.inside.writer.table_id c.self.inside.writer.me.0 in
    let olds = ap (λ x. x.olds) c.self.view_is ∙ c.requires.taken.1 in
    let is = ap (λ me. me.0) i.writes ∙ ap (λ o. Writer d.log o d.given) olds in
    let log = ap (λ x. length x.log) c.self.view_is in
    let room : length d.log + 1 < 2 ^ 64 = omega (arith, log, c.requires.room) in (
      i.same_table,
      omega (arith, i.one_word),
      appends d.log c.args.maker c.requires.taken.0 [] d.given c.args.entry.now _ _
          _ c.self.inside.writer.me room c.requires.picked is,
    )
