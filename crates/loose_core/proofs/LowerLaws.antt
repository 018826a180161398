-- The laws of compiled code and of the scheduler's machine that the proof stands on.
use Rattle.std.specs.Prelude.{◌≡◌, ℕ, ◌+◌, ◌*◌, ◌<◌, ◌≤◌, ◌⊎◌, if◌then◌else◌, List, ◌∷◌, ◌++◌}
use Rattle.std.specs.Prelude.{length, map, slice_get, Some, Contains, IsTrue}
use Rattle.std.specs.List.{list_any, range_with_len}
use Rattle.seuss_base.specs.Levels.{IsAtLeast}
use Rattle.seuss_base.specs.declared.level.Level.TheVariants.{Loose, Firm}
use Rattle.seuss_base.specs.declared.outcome.PassEnd.{PassEnd}
use Rattle.seuss_base.specs.declared.outcome.PassEnd.TheVariants.{PlainRejected}
use Rattle.seuss_program.specs.declared.program.Program.{Program}
use Rattle.seuss_program.specs.declared.program.ActionInfo.{ActionInfo}
use Rattle.seuss_program.specs.declared.state.Value.{Value}
use Rattle.seuss_program.specs.declared.state.State.{State}
use Rattle.seuss_program.specs.Attempts.{action_attempt}
use Rattle.method_code.specs.declared.frame.Frame.{Frame}
use Rattle.method_code.specs.declared.activation.Activation.{Activation}
use Rattle.method_code.specs.Codes.{compiled}
use Rattle.method_code.specs.Steps.{step}
use Rattle.method_code.specs.Chains.{begun, chain, Passed}
use Rattle.method_code.specs.Frames.{IsFrame, HasVars, FitsStep}
use Rattle.method_code.specs.Kinds.{Made, IsAction, steps_made, pass_end, kinds_of, IsInOrder, is_plain}
use Rattle.method_code.specs.Kinds.{rejects_plainly, AllIdle}
use Rattle.method_code.specs.OwnSteps.{EachMade, FindsVars, IsOwnStep, MayMake}
use Rattle.method_code.specs.Records.{Recorded, ChainsTo, AreMade, FrontMade, Makes, made_of}
use Rattle.method_code.specs.Passes.{EndsAs}
use Rattle.compat_scheduler.specs.declared.ticket.Ticket.{Ticket}
use Rattle.compat_scheduler.specs.declared.ticket.FinishVerdict.{FinishVerdict}
use Rattle.compat_scheduler.specs.declared.ticket.FinishVerdict.TheVariants.{Kept, Void}
use Rattle.compat_scheduler.specs.Settings.{Setting, action_of, copies, level}
use Rattle.compat_scheduler.specs.Machines.{Machine, slot_of}
use Rattle.compat_scheduler.specs.Runs.{Event, IsRun, started, RoundsRise, round_of, stops_it, IsOpen}
use Rattle.compat_scheduler.specs.Runs.{times_kept, has_ended}
use Rattle.compat_scheduler.specs.Runs.Event.{Start, Finish}

-- of a program that keeps its checks
pub record StepLaws (p : Program) : Type 0 where
  pub keeps_form : (box : ℕ) (frame : Frame) (budget : ℕ) (vars : List Value) → (is : IsFrame p box frame) →
      HasVars p box vars → FitsStep p box is.number (step (compiled p) frame budget vars)
  pub commits : (a : ActionInfo) (row : List (List Value)) (budget : ℕ) (end : PassEnd) → IsAction p a →
      pass_end p row (begun p a) budget ≡ Some end →
      IsInOrder (kinds_of (compiled p) (steps_made p row (begun p a) budget))
  pub plainly : (a : ActionInfo) (row : List (List Value)) (budget : ℕ) (end : PassEnd) → IsAction p a →
      pass_end p row (begun p a) budget ≡ Some end →
      is_plain end ≡ list_any (λ (s : Made). rejects_plainly s.stepped.end)
      (steps_made p row (begun p a) budget)
  pub idle : (a : ActionInfo) (row : List (List Value)) (budget : ℕ) → IsAction p a →
      pass_end p row (begun p a) budget ≡ Some PlainRejected →
      AllIdle (steps_made p row (begun p a) budget)
  pub own : (a : ActionInfo) (row : List (List Value)) (budget : ℕ) → IsAction p a →
      EachMade (FindsVars p) (steps_made p row (begun p a) budget) →
      EachMade (IsOwnStep p a) (steps_made p row (begun p a) budget)
  pub may : (a : ActionInfo) (row : List (List Value)) (budget : ℕ) → IsAction p a →
      EachMade (FindsVars p) (steps_made p row (begun p a) budget) →
      EachMade (MayMake p a) (steps_made p row (begun p a) budget)
  pub is_action : (number : ℕ) (a : ActionInfo) → slice_get p.actions number ≡ Some a → IsAction p a
  pub ended : (a : Activation) (budget : ℕ) (es : List Recorded) (row : List (List Value)) (end : PassEnd) →
      ChainsTo p a budget es end → AreMade (compiled p) es row → pass_end p row a budget ≡ Some end
  pub front : (a : Activation) (budget : ℕ) (es : List Recorded) (row : List (List Value)) (end : PassEnd) →
      ChainsTo p a budget es end → FrontMade (compiled p) es row →
      steps_made p row a budget ≡ made_of p es row
  pub made : (a : Activation) (budget : ℕ) (es : List Recorded) (row : List (List Value)) (end : PassEnd) →
      ChainsTo p a budget es end → AreMade (compiled p) es row →
      steps_made p row a budget ≡ made_of p es row
  pub chains : (a : Activation) (budget : ℕ) (es : List Recorded) (end : PassEnd) (s t : State) →
      ChainsTo p a budget es end → Makes p s es t → (left : ℕ) × (chain p (length es) a s budget
      ≡ Some (record { end = end; state = t; budget = left }))
  pub for_good : (n k : ℕ) (a : Activation) (s : State) (budget : ℕ) (passed : Passed) →
      chain p n a s budget ≡ Some passed → chain p (n + k) a s budget ≡ Some passed
  pub attempts : (a : ActionInfo) (state : State) (budget steps : ℕ) → budget ≤ 1000000 → 2000300 ≤ steps →
      EndsAs (chain p steps (begun p a) state budget) (action_attempt p (Some a) state budget)

-- of the runs of a machine
pub record SchedLaws (s : Setting) : Type 0 where
  pub numbered : (events : List Event) (m : Machine) → IsRun s events m →
      map (λ (t : Ticket). t.pass) (started events) ≡ range_with_len 0 m.starts
  pub modes : (events : List Event) (m : Machine) (t : Ticket) → IsRun s events m →
      Contains events (Start t) → (t.mode ≡ Loose) ⊎ (t.mode ≡ Firm)
  pub rounds : (events : List Event) (m : Machine) → IsRun s events m → RoundsRise s 0 events
  pub stopped : (events : List Event) (m : Machine) → IsRun s events m →
      m.stopped ≡ list_any stops_it events
  pub last_round : (events : List Event) (m : Machine) (event : Event) → IsRun s events m →
      Contains events event → IsTrue (stops_it event) → round_of s event ≡ m.round
  pub newcomer : (front rest : List Event) (m : Machine) (p q : Ticket) →
      IsRun s (front ++ Start q ∷ rest) m → IsOpen front p → IsAtLeast (level s q.action p.action) q.mode
  pub other : (front rest : List Event) (m : Machine) (p q : Ticket) →
      IsRun s (front ++ Start q ∷ rest) m → IsOpen front p → IsAtLeast (level s p.action q.action) p.mode
  pub newcomer_kept : (front rest : List Event) (m : Machine) (p q : Ticket) →
      IsRun s (front ++ Start q ∷ rest) m → IsOpen front p →
      Contains rest (Finish q PlainRejected Kept) → level s q.action p.action ≡ Firm
  pub other_kept : (front rest : List Event) (m : Machine) (p q : Ticket) →
      IsRun s (front ++ Start q ∷ rest) m → IsOpen front p →
      Contains rest (Finish p PlainRejected Kept) → level s p.action q.action ≡ Firm
  pub once : (events : List Event) (m : Machine) (attempt : ℕ) → IsRun s events m →
      times_kept events attempt ≡ (if has_ended s m attempt then 1 else 0)
  pub within : (events : List Event) (m : Machine) (t : Ticket) → IsRun s events m →
      Contains events (Start t) → t.attempt < s.rounds * copies s
  pub of_slot : (events : List Event) (m : Machine) (t : Ticket) → IsRun s events m →
      Contains events (Start t) → t.action ≡ action_of s (slot_of s t)
  pub finishes : (front rest : List Event) (m : Machine) (t : Ticket) (end : PassEnd)
      (verdict : FinishVerdict) → IsRun s (front ++ Finish t end verdict ∷ rest) m → IsOpen front t
  pub void_plain : (events : List Event) (m : Machine) (t : Ticket) (end : PassEnd) → IsRun s events m →
      Contains events (Finish t end Void) → end ≡ PlainRejected
