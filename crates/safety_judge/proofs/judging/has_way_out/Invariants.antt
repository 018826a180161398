use Rattle.std.proofs.Common.{◌≡◌, ◌<◌, ℕ, true}
use Rattle.safety_judge.specs.Rows.{frame_at}
use Rattle.safety_judge.specs.Findings.{leads_out}
use Rattle.safety_judge.proofs.judging.has_way_out.Given as goal

abbrev pub invariant-loop-number : goal.invariant-loop-number
invariant-loop-number l =
    (k : ℕ) → k < l.number → leads_out l.property l.q (frame_at l.choices k) ≡ true → ⊥
