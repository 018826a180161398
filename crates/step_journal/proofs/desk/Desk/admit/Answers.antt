use Rattle.std.proofs.Common.{[], ◌∷◌, ap, ◌∙◌}
use Rattle.step_journal.specs.Desks.{seen_in}
use Rattle.step_journal.proofs.Owns.{first_note}
use Rattle.step_journal.proofs.desk.Desk.admit.Goals as goal

-- a look says what the note had seen
pub returns-clause-before : goal.returns-clause-before
returns-clause-before g c =
    let m = c.args.maker in
    let seen = seen_in c.args.note.views in
    let taken = c.take_in.ensures in
    let olds = ap (λ d. d.olds) taken ∙ ap (λ olds. (m, seen) ∷ olds) c.requires.empty in
    first_note c.take_in.new.self c.args.self.now.log m seen [] c.look.ensures.sound olds
    (ap (λ d. d.log) taken)
