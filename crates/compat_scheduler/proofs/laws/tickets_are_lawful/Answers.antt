use Rattle.compat_scheduler.specs.Machines.{beginning}
use Rattle.compat_scheduler.proofs.SoundLemmas.{sound-beginning}
use Rattle.compat_scheduler.proofs.TicketLemmas.{start_tickets}
use Rattle.compat_scheduler.proofs.laws.tickets_are_lawful.Goals as goal

pub returns : goal.returns
returns c = record {
  attempt = λ s events m t run h. (start_tickets s events (beginning s) m t (sound-beginning s) run h).0;
  action = λ s events m t run h. (start_tickets s events (beginning s) m t (sound-beginning s) run h).1;
}
