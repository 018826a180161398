use Rattle.std.proofs.Common.{◌≡◌, ℕ, ◌<◌, ◌==◌, All, count_by, subst}
use Rattle.step_journal.specs.Histories.{IsNoteOf}
use Rattle.step_journal.specs.Journals.{NoteState}
use Rattle.loose_records.specs.declared.record.SchedEntry.{SchedEntry}
use Rattle.round_ledger.specs.Cells.{CellState}
use Rattle.round_ledger.proofs.sched_cell.SchedCell.close.Goals as goal

pub returns-clause-notes : goal.returns-clause-notes
returns-clause-notes c =
    subst (λ (v : CellState).
    All (λ (n : NoteState SchedEntry). IsNoteOf v.journal.log n.maker n.seen) c.args.notes)
    c.self.view_is c.close.ensures.notes

pub returns-clause-each_once : goal.returns-clause-each_once
returns-clause-each_once c =
    subst (λ (v : CellState). (m : ℕ) → m < v.journal.makers →
    count_by (λ (n : NoteState SchedEntry). n.maker == m) c.args.notes ≡ 1)
    c.self.view_is c.close.ensures.each_once
