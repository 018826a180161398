use Rattle.std.proofs.Common.{◌≡◌, ◌++◌, map, ap, ◌∙◌, Some}
use Rattle.std.proofs.lemmas.List.Elements.{All-pop}
use Rattle.ready_queue.specs.Seats as Q
use Rattle.engine_gather.specs.Parting.{row_of}
use Rattle.engine_gather.proofs.Parting.{row_joined}
use Rattle.engine_gather.proofs.settling.join_rows.Goals as goal

pub loop-row-preserved : goal.loop-row-preserved
loop-row-preserved g c =
    let i = c.loop-row.invariant in
    let left = c.loop-row.left.items in
    let rest = c.pop.new.self.items in
    let row = c.in-Some.row in
    let joined = c.join.ensures in
    let all = All-pop (λ (r : Q.SeatState). r.queue ≡ c.args.queue.now) left rest (Some row)
    c.in-Some.ensures.items i.queues in
    record {
      queues = all.0;
      queue = ap (λ (l : Q.FirstState). l.queue) joined ∙ i.queue;
      given = ap (λ (l : Q.FirstState). l.given) joined ∙ i.given;
      rows = ap (λ (l : Q.FirstState). map row_of rest ++ l.rows) joined
          ∙ row_joined left rest row c.loop-row.line.rows c.in-Some.ensures.items ∙ i.rows;
    }
