use Rattle.std.proofs.Common.{ℕ, All, subst, arith}
use Rattle.compat_scheduler.specs.Settings.{Setting}
use Rattle.compat_scheduler.specs.Runs.{IsRun}
use Rattle.round_ledger.specs.Cells as S
use Rattle.pass_gather.proofs.closing.close_sched.Goals as goal

pub returns-clause-closes : goal.returns-clause-closes
returns-clause-closes g c =
    let names = g.N.EngineNames.names in
    let cell = c.args.cell in
    let is = c.requires.cell in
    let f = c.facts.ensures.1 in
    let makers = f.makers is.whole in
    record {
      run = subst (λ (s : Setting). IsRun s (S.log_events cell.journal.log) cell.machine) is.setting f.run;
      stamps = f.stamps;
      owners = subst (λ (n : ℕ). All (S.IsOwned n) cell.journal.log) is.seats f.owners;
      tickets = subst (λ (n : ℕ).
          All (λ p. S.IsOpenOrOver names.setting.scheduler cell.machine n cell.journal.log p.1) cell.journal.log)
          is.seats (subst (λ (s : Setting).
          All (λ p. S.IsOpenOrOver s cell.machine cell.seats cell.journal.log p.1) cell.journal.log) is.setting
          f.tickets);
      notes_are = c.close.ensures.notes;
      each_once = λ m less. c.close.ensures.each_once m (omega (arith, less, makers, is.seats));
    }
