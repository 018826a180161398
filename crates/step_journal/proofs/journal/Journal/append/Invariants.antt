use Rattle.std.proofs.Common.{[], ◌∷◌}
use Rattle.step_journal.proofs.journal.Journal.append.Given as goal

-- the entry that the call appends
abbrev pub ghosts-append : goal.ghosts-append
ghosts-append g a = record { picked = a.entry.now ∷ [] }
