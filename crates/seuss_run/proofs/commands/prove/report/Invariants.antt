use Rattle.seuss_run.proofs.WrittenLines.{AreWritten}
use Rattle.seuss_run.proofs.commands.prove.report.Given as goal

-- the properties so far have their lines
abbrev pub invariant-loop-property : goal.invariant-loop-property
invariant-loop-property l = AreWritten l.program l.properties l.property-index l.text
