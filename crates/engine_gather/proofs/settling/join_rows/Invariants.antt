use Rattle.std.proofs.Common.{◌≡◌, ◌++◌, map, length, All}
use Rattle.engine_gather.specs.Parting.{row_of}
use Rattle.engine_gather.proofs.settling.join_rows.Given as goal

-- the rows that are left, before those that were joined
abbrev pub invariant-loop-row : goal.invariant-loop-row
invariant-loop-row g l = record {
  queues : All (λ r. r.queue ≡ l.queue) l.left.items;
  queue : l.line.queue ≡ l.fn.line.queue;
  given : l.line.given ≡ l.fn.line.given;
  rows : map row_of l.left.items ++ l.line.rows ≡ map row_of l.fn.rows.items ++ l.fn.line.rows;
}

abbrev pub decreases-loop-row : goal.decreases-loop-row
decreases-loop-row g l = length l.left.items
