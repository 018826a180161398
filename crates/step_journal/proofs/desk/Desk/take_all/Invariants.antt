use Rattle.std.proofs.Common.{◌≡◌, ◌++◌, length, map, All}
use Rattle.step_journal.specs.Desks.{list_of}
use Rattle.step_journal.proofs.desk.Desk.take_all.Given as goal

-- the lists of the notes that are left and those that were taken in are all lists, in order
abbrev pub invariant-loop-note : goal.invariant-loop-note
invariant-loop-note g l = record {
  lists : map list_of l.left ++ l.self.olds ≡ map list_of l.fn.notes ++ l.fn.self.olds;
  log : l.self.log ≡ l.fn.self.log;
  given : l.self.given ≡ l.fn.self.given;
  name : l.self.name ≡ l.fn.self.name;
  journal : All (λ n. n.journal ≡ l.fn.self.name) l.left;
}

abbrev pub decreases-loop-note : goal.decreases-loop-note
decreases-loop-note g l = length l.left
