-- Recorded steps as relations on the variables of a box, and which of them may change places.
use Rattle.std.proofs.Common.{◌≡◌, ℕ, ◌⊎◌, inl, inr, List, Bool, true, false, not, sym, subst, ap, refl}
use Rattle.std.proofs.Common.{arith, ◌∙◌}
use Rattle.seuss_base.specs.Levels.{IsAtLeast}
use Rattle.seuss_base.specs.declared.level.Level.{Level}
use Rattle.seuss_base.specs.declared.level.Level.TheVariants.{Never, Loose, Firm}
use Rattle.seuss_program.specs.declared.program.Program.{Program}
use Rattle.seuss_program.specs.declared.program.ActionInfo.{ActionInfo}
use Rattle.seuss_program.specs.declared.state.Value.{Value}
use Rattle.seuss_program.specs.declared.state.Vars.{Vars}
use Rattle.method_code.specs.declared.frame.Frame.{Frame}
use Rattle.method_code.specs.declared.frame.End.{End}
use Rattle.method_code.specs.Codes.{compiled}
use Rattle.method_code.specs.Steps.{Stepped}
use Rattle.method_code.specs.Frames.{HasVars, IsFrame}
use Rattle.method_code.specs.Kinds.{Early, kind_of, is_late}
use Rattle.method_code.specs.Kinds.{rejects_plainly}
use Rattle.method_code.specs.Beside.{Start, from, Swaps, OfPass, SafeBeside}
use Rattle.method_code.specs.Records.{Recorded}
use Rattle.loose_records.specs.declared.record.BoxEntry.{BoxEntry}
use Rattle.loose_records.specs.Entries.{step_of, gives}
use Rattle.loose_core.proofs.lists.Words.{Exchanges}
use Rattle.loose_core.proofs.LowerLaws.{StepLaws}

-- where an entry's step begins
abbrev pub begins : BoxEntry → Start
begins e = record { frame = e.before; budget = e.budget_before }

-- from v the entry's step, from a frame of the code and on variables of the box, is as it is recorded
abbrev pub acts : Program → ℕ → BoxEntry → Vars → Vars → Type 0
acts p b e v w = HasVars p b v.values × IsFrame p b e.before × gives (compiled p) b e v.values w.values

-- the step of a box and an entry
abbrev pub recorded : ℕ × BoxEntry → Recorded
recorded x = step_of x.0 x.1

-- the step of an entry acts from some variables
abbrev pub IsMade : Program → ℕ × BoxEntry → Type 0
IsMade p x = (v : Vars) × (w : Vars) × acts p x.0 x.1 v w

module _ (p : Program) (laws : StepLaws p) where
  -- what a step leaves are variables of the box
  pub keeps_vars : (b : ℕ) (e : BoxEntry) (v w : List Value) → IsFrame p b e.before → HasVars p b v →
      gives (compiled p) b e v w → HasVars p b w
  keeps_vars b e v w frame vars made =
      subst (λ (s : Stepped). HasVars p b s.vars) made (laws.keeps_form b e.before e.budget_before v frame
      vars).vars

  -- two steps that may be swapped change places
  swapped : (b : ℕ) (e f : BoxEntry) (v u w : Vars) → acts p b e v u → acts p b f u w →
      Swaps (compiled p) (begins e) (begins f) v.values → (t : Vars) × acts p b f v t × acts p b e t w
  swapped b e f v u w de df swaps =
      let first : from (compiled p) (begins e) v.values ≡ record {
        vars = u.values;
        frame = e.after;
        budget = e.budget_after;
        end = e.end;
      } = de.2 in
      let second : from (compiled p) (begins f) u.values ≡ record {
        vars = w.values;
        frame = f.after;
        budget = f.budget_after;
        end = f.end;
      } = df.2 in
      let t : List Value = (from (compiled p) (begins f) v.values).vars in
      let left : (from (compiled p) (begins e) v.values).vars ≡ u.values =
      ap (λ (s : Stepped). s.vars) first in
      let then_f : from (compiled p) (begins f) (from (compiled p) (begins e) v.values).vars ≡ record {
        vars = w.values;
        frame = f.after;
        budget = f.budget_after;
        end = f.end;
      } = ap (from (compiled p) (begins f)) left ∙ second in
      let made_f : from (compiled p) (begins f) v.values ≡ record {
        vars = t;
        frame = f.after;
        budget = f.budget_after;
        end = f.end;
      } =
      whole (from (compiled p) (begins f) v.values) t f.after f.budget_after f.end refl
      (swaps.second.frame ∙ ap (λ (s : Stepped). s.frame) then_f) (swaps.second.budget
      ∙ ap (λ (s : Stepped). s.budget) then_f) (swaps.second.end ∙ ap (λ (s : Stepped). s.end)
      then_f) in
      let made_e : from (compiled p) (begins e) t ≡ record {
        vars = w.values;
        frame = e.after;
        budget = e.budget_after;
        end = e.end;
      } =
      whole (from (compiled p) (begins e) t) w.values e.after e.budget_after e.end
      (swaps.variables ∙ ap (λ (s : Stepped). s.vars) then_f)
      (swaps.first.frame ∙ ap (λ (s : Stepped). s.frame) first) (swaps.first.budget
      ∙ ap (λ (s : Stepped). s.budget) first) (swaps.first.end ∙ ap (λ (s : Stepped). s.end) first) in (
        record { values = t },
        (de.0, df.1, made_f),
        (
          keeps_vars b f v.values t df.1 de.0 made_f,
          de.1,
          made_e,
        ),
      )
    where
      whole : (s : Stepped) (vars : List Value) (frame : Frame) (budget : ℕ) (end : End) → s.vars ≡ vars →
          s.frame ≡ frame → s.budget ≡ budget → s.end ≡ end →
          s ≡ record { vars = vars; frame = frame; budget = budget; end = end }
      whole s vars frame budget end a c d g = λ i. record {
        vars = a i;
        frame = c i;
        budget = d i;
        end = g i;
      }

  -- a test holds or fails
  plain_or_not : (b : Bool) → (b ≡ true) ⊎ (b ≡ false)
  plain_or_not true = inl refl
  plain_or_not false = inr refl

  -- steps of a pass of x and then of one of y on a box, both as the levels and the scheduler allow
  pub may_exchange : (x y : ActionInfo) (found : Level) → ((wanted : Level) → IsAtLeast found wanted →
      (wanted ≡ Never → ⊥) → SafeBeside p wanted x y) →
      (b : ℕ) (e f : BoxEntry) → OfPass p x b (begins e) → OfPass p y b (begins f) → IsAtLeast found Loose →
      (rejects_plainly e.end ≡ true → found ≡ Firm) →
      (kind_of (compiled p) e.before e.end ≡ Early) ⊎ (is_late (compiled p) f.before ≡ true) →
      Exchanges (acts p b) e f
  may_exchange x y found safe b e f of_x of_y enough firm (inl early) v u w de df =
      let s : SafeBeside p Loose x y = safe Loose enough (λ h. cc h) in
      swapped b e f v u w de df (s.early b (begins e) (begins f) of_x of_y v.values de.0
      (ap (λ (s : Stepped). kind_of (compiled p) e.before s.end) de.2 ∙ early))
  may_exchange x y found safe b e f of_x of_y enough firm (inr late) v u w de df =
      go (plain_or_not (rejects_plainly e.end))
    where
      go : (rejects_plainly e.end ≡ true) ⊎ (rejects_plainly e.end ≡ false) →
          (t : Vars) × acts p b f v t × acts p b e t w
      go (inl plain) =
          let s : SafeBeside p Firm x y =
          safe Firm (subst (λ (l : Level). IsAtLeast l Firm) (sym (firm plain)) (omega arith))
          (λ h. cc h) in
          swapped b e f v u w de df (s.late b (begins e) (begins f) of_x of_y late v.values de.0 refl)
      go (inr other) =
          let s : SafeBeside p Loose x y = safe Loose enough (λ h. cc h) in
          swapped b e f v u w de df (s.late b (begins e) (begins f) of_x of_y late v.values de.0
          (ap (λ (s : Stepped). not (rejects_plainly s.end)) de.2 ∙ ap not other))
