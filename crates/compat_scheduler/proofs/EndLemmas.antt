-- A run that has ended.
use Rattle.std.proofs.Common.{◌≡◌, Bool, true, false, List, [], ◌∷◌, refl, ◌⊎◌, ⊎_elim, arith}
use Rattle.compat_scheduler.specs.Settings.{Setting}
use Rattle.compat_scheduler.specs.Machines.{Machine, IsAllDone, running_count}
use Rattle.compat_scheduler.specs.Soundness.{IsSoundMachine}
use Rattle.compat_scheduler.specs.Runs.{Event, Runs}
use Rattle.compat_scheduler.specs.Runs.Event.{Start, Finish}
use Rattle.compat_scheduler.proofs.CountLemmas.{none_runs_there, quiet_when_done}

-- a machine that has stopped doesn't go on
not_both : (b : Bool) → b ≡ true → ¬ (b ≡ false)
not_both b stopped going = cc

-- where all rounds are done, or the machine has stopped and nothing runs, nothing happens any more
pub nothing_follows : (s : Setting) (rest : List Event) (m n : Machine) → IsSoundMachine s m →
    Runs s m rest n → IsAllDone s m ⊎ ((m.stopped ≡ true) × (running_count m ≡ 0)) → rest ≡ []
nothing_follows s [] m n sound runs ended = refl
nothing_follows s (Start t ∷ rest) m n sound runs ended =
    absurd (⊎_elim (λ (h : IsAllDone s m). omega (arith, h, runs.1.next.left))
    (λ (h : (m.stopped ≡ true) × (running_count m ≡ 0)). not_both m.stopped h.0 runs.1.next.going) ended)
nothing_follows s (Finish t end verdict ∷ rest) m n sound runs ended =
    let quiet : running_count m ≡ 0 = ⊎_elim (λ (h : IsAllDone s m). quiet_when_done s m sound h)
    (λ (h : (m.stopped ≡ true) × (running_count m ≡ 0)). h.1) ended in
    absurd (none_runs_there s m t quiet runs.1.judged.running)
