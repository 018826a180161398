use Rattle.compat_scheduler.specs.Machines.{beginning}
use Rattle.compat_scheduler.proofs.OpenLemmas.{void_is_plain}
use Rattle.compat_scheduler.proofs.laws.void_passes_are_plain.Goals as goal

pub returns : goal.returns
returns c = λ s events m t end run h. void_is_plain s events (beginning s) m t end run h
