use Rattle.std.proofs.Common.{ap}
use Rattle.step_journal.specs.Desks.{seen_in}
use Rattle.step_journal.proofs.journal.Journal.meet.Goals as goal

-- the one list that is kept is the note's
pub old_note-requires : goal.old_note-requires
old_note-requires g c = (seen_in c.replace-badge.result.views, ap (λ d. d.olds) c.admit.ensures.desk)
