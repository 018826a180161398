use Rattle.compat_scheduler.specs.Machines.{beginning}
use Rattle.compat_scheduler.proofs.SoundLemmas.{sound-beginning}
use Rattle.compat_scheduler.proofs.ModeLemmas.{start_modes, void_modes}
use Rattle.compat_scheduler.proofs.laws.modes_are_lawful.Goals as goal

pub returns : goal.returns
returns c = record {
  loose_or_firm = λ s events m t run. start_modes s events (beginning s) m t (sound-beginning s) run;
  void_is_loose = λ s events m t end run. void_modes s events (beginning s) m t end (sound-beginning s) run;
}
