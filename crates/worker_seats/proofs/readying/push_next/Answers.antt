use Rattle.std.proofs.Common.{List, sym, subst, Option}
use Rattle.std.specs.Prelude.{IfSome}
use Rattle.std.specs.List.Sorted.{IsStrictlyIncreasing}
use Rattle.ready_queue.specs.declared.view.Mark.{Mark}
use Rattle.ready_queue.specs.Rules.{passes}
use Rattle.pass_seats.specs.Items.{ItemState}
use Rattle.pass_seats.specs.Starts.{Issued}
use Rattle.worker_seats.proofs.Marks.{own_rise}
use Rattle.worker_seats.proofs.Workers.{pushed_more}
use Rattle.worker_seats.proofs.readying.push_next.Goals as goal

pub push-requires-clause-rises : goal.push-requires-clause-rises
push-requires-clause-rises g c =
    let cell = c.args.desk.now.cell in
    let next = c.issue.new.self.cell in
    let core = c.args.core.now in
    let new = c.issue.new.seat in
    let issued : Issued cell next core new c.in-Some.item =
    subst (λ (r : Option ItemState). IfSome r (Issued cell next core new)) c.in-Some.is c.in_ok-issued.ensures.some in
    let is = pushed_more core new c.args.ready.now.row.pushed cell next c.in-Some.item c.requires.pushed issued in
    subst (λ (l : List Mark). IsStrictlyIncreasing (passes l)) (sym is)
    (own_rise core.number next.journal.log c.issue.new.self.cell.machine.starts
    (c.passes_are_numbered.ensures _ _ _ c.facts.ensures.run))
