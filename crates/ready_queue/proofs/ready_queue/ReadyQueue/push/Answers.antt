use Rattle.std.proofs.Common.{◌∷◌, ◌++◌, [], ◌∙◌, sym, ap, subst}
use Rattle.std.specs.List.Sorted.{IsStrictlyIncreasing}
use Rattle.ready_queue.specs.Rules.{passes}
use Rattle.ready_queue.specs.Seats.{SeatState}
use Rattle.ready_queue.proofs.Calls.{pushes}
use Rattle.ready_queue.proofs.ready_queue.ReadyQueue.push.Goals as goal

-- a push keeps the rule
pub push_as-requires-clause-rule : goal.push_as-requires-clause-rule
push_as-requires-clause-rule g c n =
    let mark = g.T.Queued.mark in
    let x = c.args.item in
    let is = sym c.seat.view_is in
    pushes mark n _ _ _ x c.seat.invariant.2 (c.requires.own ∙ ap (λ (s : SeatState). s.row.number) is)
    (subst (λ (s : SeatState). IsStrictlyIncreasing (passes (s.row.pushed ++ mark x ∷ []))) is
    c.requires.rises)
