use Rattle.std.proofs.lemmas.List.Elements.{All-push}
use Rattle.pass_gather.specs.Closing.{IsClosed}
use Rattle.pass_gather.proofs.Parted.{vars_push, entries_push}
use Rattle.pass_gather.proofs.closing.close_boxes.Goals as goal

pub loop-shut-preserved : goal.loop-shut-preserved
loop-shut-preserved g c =
    let i = c.loop-shut.invariant in
    let ys = c.loop-shut.yielded in
    let o = c.in-Some.shut in
    record {
      last = vars_push ys o c.loop-shut.last c.push.new.self c.in_ok-vars.vars c.in_ok-push.ensures.ok i.last
          c.in_ok-vars.ensures.vars;
      journals = entries_push ys o c.loop-shut.journals c.push-in-loop-shut.new.self c.in_ok-vars.entries
          c.in_ok-push-2.ensures.ok i.journals c.in_ok-vars.ensures.entries;
      closed = All-push (IsClosed g.N.EngineNames.names g.N.CellNames.code g.N.CellNames.first) ys o i.closed
          c.in_ok-vars.ensures.closed;
    }
