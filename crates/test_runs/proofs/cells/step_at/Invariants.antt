use Rattle.test_runs.proofs.cells.step_at.Given as goal

-- the code and the first variables of the cell
abbrev pub ghosts-step_once : goal.ghosts-step_once
ghosts-step_once a = record { code = a.code.now; first = λ _. a.vars.values }
