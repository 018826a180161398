-- The lines and the end of attempts, of which the first ones are done.
use Rattle.std.proofs.Common.{◌≡◌, ◌⊎◌, ℕ, List, [], ◌∷◌, ◌++◌, refl, inl, inr}
use Rattle.seuss_base.specs.declared.outcome.Outcome.{Outcome}
use Rattle.seuss_program.specs.declared.program.Program.{Program}
use Rattle.seuss_program.specs.declared.order.LastLine.TheVariants as L
use Rattle.seuss_program.specs.Reports.{name_of_action, outcome_line}
use Rattle.report_text.specs.TightReports.{tight_end, tight_lines}
use Rattle.report_text.proofs.WritingLemmas.{piece_written, none_left}

-- where no action or no outcome is left, the attempts are done
pub end_done : (actions : List ℕ) (outcomes : List Outcome) → (actions ≡ []) ⊎ (outcomes ≡ []) →
    tight_end actions outcomes ≡ L.Done
end_done actions outcomes (inl none) = rw none refl
end_done [] outcomes (inr none) = refl
end_done (a ∷ actions) outcomes (inr none) = rw none refl

-- the line of the first of the attempts that are left is written
pub attempt_written : (p : Program) (a : ℕ) (o : Outcome) (actions actions' : List ℕ)
    (outcomes outcomes' : List Outcome) (text after whole : List ℕ) →
    actions ≡ a ∷ actions' → outcomes ≡ o ∷ outcomes' →
    after ≡ text ++ outcome_line (name_of_action p a) o → text ++ tight_lines p actions outcomes ≡ whole →
    after ++ tight_lines p actions' outcomes' ≡ whole
attempt_written p a o actions actions' outcomes outcomes' text after whole first second written e =
    piece_written text (outcome_line (name_of_action p a) o) (tight_lines p actions outcomes)
    (tight_lines p actions' outcomes') after whole written (rw (first, second) refl) e

-- where no action or no outcome is left, the text is the whole
pub attempts_all : (p : Program) (actions : List ℕ) (outcomes : List Outcome) (text whole : List ℕ) →
    (actions ≡ []) ⊎ (outcomes ≡ []) → text ++ tight_lines p actions outcomes ≡ whole → text ≡ whole
attempts_all p actions outcomes text whole (inl none) e =
    none_left text (tight_lines p actions outcomes) whole (rw none refl) e
attempts_all p [] outcomes text whole (inr none) e = none_left text [] whole refl e
attempts_all p (a ∷ actions) outcomes text whole (inr none) e =
    none_left text (tight_lines p (a ∷ actions) outcomes) whole (rw none refl) e
