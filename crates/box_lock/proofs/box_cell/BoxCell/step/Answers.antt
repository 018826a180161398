use Rattle.std.proofs.Common.{rules, ◌+◌, List, ap, ◌∙◌, subst, arith}
use Rattle.method_code.specs.declared.method.Method.{Method}
use Rattle.method_code.specs.declared.frame.End.{End}
use Rattle.step_journal.specs.Journals.{longer}
use Rattle.loose_records.specs.declared.record.BoxEntry.{BoxEntry}
use Rattle.loose_records.specs.Entries.{gives}
use Rattle.box_lock.specs.Cells.{CellState, entry_with}
use Rattle.box_lock.proofs.Keeping.{stepped}
use Rattle.box_lock.proofs.box_cell.BoxCell.step.Goals as goal

-- the step is one of the code that the cell names
pub invariant_of-self-in-Ok-append : goal.invariant_of-self-in-Ok-append
invariant_of-self-in-Ok-append g c =
    stepped g.N.CellNames.code g.N.CellNames.first c.self.inside.clock _ c.meet.new.note.maker
    c.args.clock.now (1 + c.max-stamp.result) c.in-Ok.entry _ _ c.self.invariant c.if-self.false
    (subst (λ (k : List Method).
    gives k c.self.inside.number c.in-Ok.entry c.self.inside.vars.values c.record_step.new.vars.values)
    c.requires.code (c.in-Ok.ensures.gives c.self.inside.number))
    (ap (λ n. 1 + n) c.max-stamp.ensures)
    (omega (arith, c.max-stamp.ensures, c.self.invariant.fits, c.if-stamp.false))
    (ap (λ (e : BoxEntry). e.stamp) c.in-Ok.ensures.entry)
    (c.in-Ok-append.ensures.journal
    ∙ ap (λ j. longer j c.meet.new.note.maker c.in-Ok.entry) c.meet.ensures.journal)

pub returns-in-Ok-append-clause-done : goal.returns-in-Ok-append-clause-done
returns-in-Ok-append-clause-done g c =
    let entry = λ (end : End).
    entry_with c.args.pass c.args.number c.args.frame.now c.args.budget.now c.record_step.new.frame
    c.record_step.new.budget end (1 + c.max-stamp.result) in
    record {
      whole = search rules;
      working = search rules;
      stamp = search rules;
      fits = search rules;
      receipt_is = search rules;
      before = search rules;
      history = search rules;
      step = subst (λ (v : CellState).
          gives g.N.CellNames.code v.number (entry c.in-Ok.end) v.vars c.record_step.new.vars.values)
          c.self.view_is
          (subst (λ (e : BoxEntry).
          gives g.N.CellNames.code c.self.inside.number e c.self.inside.vars.values
          c.record_step.new.vars.values) c.in-Ok.ensures.entry
          (subst (λ (k : List Method).
          gives k c.self.inside.number c.in-Ok.entry c.self.inside.vars.values
          c.record_step.new.vars.values) c.requires.code (c.in-Ok.ensures.gives c.self.inside.number)));
      journal = search rules;
      number = search rules;
      seen = search rules;
    }
