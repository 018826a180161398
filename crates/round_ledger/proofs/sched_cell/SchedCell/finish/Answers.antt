use Rattle.std.proofs.Common.{◌+◌, sym, ap, ◌∙◌, subst, arith}
use Rattle.step_journal.specs.Journals.{longer}
use Rattle.loose_records.specs.declared.record.SchedEntry.TheVariants.{Finish}
use Rattle.round_ledger.specs.Cells.{CellState, IsTicketNote}
use Rattle.round_ledger.proofs.Keeping.{still_runs, finished, same_finish}
use Rattle.round_ledger.proofs.sched_cell.SchedCell.finish.Goals as goal

-- the ticket was started, and its maker has made no entry
pub verdict-verdict-requires : goal.verdict-verdict-requires
verdict-verdict-requires c =
    still_runs _ _ _ _ c.args.ticket c.args.note.now c.self.invariant.tickets c.meet.ensures.before
    (subst (λ (v : CellState). IsTicketNote v.seats c.args.ticket c.args.note.now) (sym c.self.view_is)
    c.requires.given)
    (sym c.requires.unused.0.count ∙ c.requires.unused.1)

pub invariant_of-self-in-Ok : goal.invariant_of-self-in-Ok
invariant_of-self-in-Ok c =
    let now = 1 + c.max-stamp.result in
    let entry = Finish c.args.ticket c.args.end c.verdict-verdict.result now in
    finished c.runs_go_on.ensures.more c.self.inside.clock _ c.args.ticket c.args.end
    c.verdict-verdict.result c.meet.new.note.maker c.args.clock.now now _ _ _
    c.self.invariant c.finish.ensures.setting
    (same_finish _ _ _ _ _ _ _ c.verdict-verdict.ensures c.finish.ensures.machine)
    c.finish.ensures.others
    (ap (λ n. n.maker) c.meet.ensures.seen ∙ c.requires.given.maker
    ∙ ap (λ (v : CellState). v.seats + c.args.ticket.pass) (sym c.self.view_is))
    (ap (λ n. 1 + n) c.max-stamp.ensures)
    (omega (arith, c.max-stamp.ensures, c.self.invariant.fits, c.if-stamp.false))
    (c.in-Ok.ensures.journal ∙ ap (λ j. longer j c.meet.new.note.maker entry) c.meet.ensures.journal)
