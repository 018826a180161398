use Rattle.std.proofs.Common.{ℕ, ◌+◌, [], ◌∷◌, ◌++◌, ap, ◌∙◌, subst, arith}
use Rattle.std.specs.Prelude.{Option, IfSome}
use Rattle.compat_scheduler.specs.declared.ticket.Ticket.{Ticket}
use Rattle.compat_scheduler.specs.Machines.{IsRunning}
use Rattle.loose_records.specs.declared.record.SchedEntry.{SchedEntry}
use Rattle.loose_records.specs.declared.record.SchedEntry.TheVariants.{Start}
use Rattle.round_ledger.specs.Cells.{CellState}
use Rattle.round_ledger.proofs.Keeping.{started, starts_next}
use Rattle.round_ledger.proofs.sched_cell.SchedCell.start.Goals as goal

-- the start is the one that came next
pub invariant_of-self-in-Ok-append : goal.invariant_of-self-in-Ok-append
invariant_of-self-in-Ok-append c =
    let now = 1 + c.max-stamp.result in
    let next = starts_next c.self.inside.core.setting c.self.inside.core.machine c.start.new.self.machine
    c.in-Some.ticket c.start.result (c.machine_is_determined.ensures.next _ _) c.in-Some.ensures
    c.start.ensures.machine in
    let entry : ℕ × SchedEntry = (c.meet.new.note.maker, Start c.in-Some.ticket now) in
    started c.runs_go_on.ensures.more c.self.inside.clock _ c.in-Some.ticket c.meet.new.note.maker
    c.args.clock.now now _ _ _
    c.self.invariant c.start.ensures.setting next.1
    (subst (λ (r : Option Ticket).
    IfSome r (IsRunning c.start.new.self.setting c.start.new.self.machine)) next.0
    c.start.ensures.running)
    c.start.ensures.others
    (omega (
      arith,
      ap (λ n. n.maker) c.meet.ensures.seen,
      c.requires.worker,
      ap (λ (v : CellState). v.seats) c.self.view_is,
    ))
    (ap (λ n. 1 + n) c.max-stamp.ensures)
    (omega (arith, c.max-stamp.ensures, c.self.invariant.fits, c.if-stamp.false))
    (ap (λ j. j.log) c.meet-in-Ok-append.ensures.journal ∙ ap (λ j. j.log) c.in-Ok-append.ensures.journal
    ∙ ap (λ j. j.log ++ entry ∷ []) c.in-Ok.ensures.journal
    ∙ ap (λ j. j.log ++ entry ∷ []) c.meet.ensures.journal)
    (ap (λ j. j.makers) c.meet-in-Ok-append.ensures.journal
    ∙ ap (λ j. j.makers) c.in-Ok-append.ensures.journal
    ∙ ap (λ j. j.makers) c.in-Ok.ensures.journal ∙ ap (λ j. j.makers + 1) c.meet.ensures.journal)
