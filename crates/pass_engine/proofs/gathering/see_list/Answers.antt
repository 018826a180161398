use Rattle.std.proofs.Common.{ap, ◌∙◌, subst}
use Rattle.step_journal.specs.Histories.{IsNoteOf}
use Rattle.pass_seats.specs.Seats.{SeatState}
use Rattle.pass_seats.specs.Starts.{sees_sched}
use Rattle.pass_engine.proofs.Seeing.{told_sees, sees_all}
use Rattle.pass_engine.proofs.gathering.see_list.Goals as goal

pub returns-clause-core : goal.returns-clause-core
returns-clause-core g c =
    let cell = c.args.desk.now.cell in
    let told = c.standing-told in
    let sees = told_sees cell c.into_core-core.result told.new.seat told.result told.ensures.standing
    told.ensures.refused c.requires.working in
    sees.0 ∙ ap (λ (s : SeatState). sees_sched s cell.journal.log) c.into_core-core.ensures.core

pub returns-clause-sees : goal.returns-clause-sees
returns-clause-sees g c =
    let cell = c.args.desk.now.cell in
    let log = cell.journal.log in
    let told = c.standing-told in
    let core_is = c.into_core-core.ensures.core in
    let sees = told_sees cell c.into_core-core.result told.new.seat told.result told.ensures.standing
    told.ensures.refused c.requires.working in
    sees_all g.N.EngineNames.names log c.args.seat told.new.seat c.requires.whole
    (sees.0 ∙ ap (λ (s : SeatState). sees_sched s log) core_is)
    (subst (λ (s : SeatState). IsNoteOf log s.number s.note.seen) core_is sees.1)
    c.into_core-core.ensures.worker
    c.facts.ensures
