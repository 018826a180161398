-- The clauses of `turns_are_enough`, each by its lemma.
use Rattle.seuss_program.specs.Attempts.{attempt}
use Rattle.meaning_laws.proofs.EnoughTurns.{looped-enough, while-looped}
use Rattle.meaning_laws.proofs.SpentBudgets.{attempt-never}
use Rattle.meaning_laws.proofs.depths.turns_are_enough.Goals as goal

pub returns : goal.returns
returns c = record {
  looped = λ p depth box turns cond turn state slots budget most.
      looped-enough p (attempt p depth) box (attempt-never p depth) cond turn state slots turns budget most;
  statement = λ p depth box turns cond turn state slots budget most.
      while-looped p (attempt p depth) box (attempt-never p depth) cond turn state slots turns budget most;
}
