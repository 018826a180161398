-- The setting of a program that keeps its checks is one of turns.
use Rattle.std.proofs.Common.{ℕ, ◌*◌, ◌≤◌, length, refl, sym, subst}
use Rattle.std.proofs.lemmas.List.FromFn.{length-range_with_len}
use Rattle.seuss_base.specs.Tables.{Table}
use Rattle.seuss_program.specs.declared.program.Program.{Program}
use Rattle.seuss_program.specs.Keeping.{Keeps}
use Rattle.turn_runs.specs.RunStates.{IsTurnSetting}
use Rattle.loose_records.specs.Settings.{setting_of}

-- where the budget is small and the starts are few
pub is_setting : (p : Program) (rows : Table) (rounds budget : ℕ) → Keeps p → budget ≤ 1000000 →
    rounds * length p.actions ≤ 10000000 → IsTurnSetting (setting_of p rows rounds budget)
is_setting p rows rounds budget keeps small few = record {
  keeps = keeps;
  small = small;
  slots = refl;
  few = subst (λ (k : ℕ). rounds * k ≤ 10000000) (sym (length-range_with_len 0 (length p.actions))) few;
}
