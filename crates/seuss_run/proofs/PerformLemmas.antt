-- What a command makes of loaded bytes.
use Rattle.std.proofs.Common.{◌≡◌, ℕ, suc, Bool, false, ◌<◌, ◌≤◌, List, [], ◌∷◌, length, ◌⊎◌, inl, inr}
use Rattle.std.proofs.Common.{refl, sym, ap, subst, arith}
use Rattle.std.specs.Prelude.{Result, Ok, Err, IsErrAnd, IsTrue}
use Rattle.std.proofs.lemmas.Bool.{cases_lt}
use Rattle.seuss_program.specs.declared.program.Program.{Program}
use Rattle.seuss_program.specs.declared.state.State.{State}
use Rattle.seuss_program.specs.declared.order.LastLine.{LastLine}
use Rattle.seuss_program.specs.declared.order.LastLine.TheVariants as L
use Rattle.seuss_program.specs.Attempts.{tight}
use Rattle.seuss_run.specs.declared.words.Command.{Command}
use Rattle.seuss_run.specs.declared.words.Command.TheVariants as C
use Rattle.seuss_run.specs.declared.halt.Halt.{Halt}
use Rattle.seuss_run.specs.declared.halt.Halt.TheVariants as H
use Rattle.seuss_run.specs.declared.answer.Answer.{Answer}
use Rattle.seuss_run.specs.Runs.{status_of}
use Rattle.seuss_run.specs.Stages.{Stage, ◌>=>◌}
use Rattle.seuss_run.specs.Verdicts.{Loaded, Task, are_actions}
use Rattle.seuss_run.specs.Loadings.{Meets, Performs, NamesActions}

-- what comes of an error is this error
pub handed_on : {A : Type 0} (command : Command) (stage : Stage A Task) (given : A) (halt : Halt)
    (made : Result Answer Halt) → IsErrAnd made (λ cause. cause ≡ halt) →
    Performs command stage given (Err halt) → Performs command stage given made
handed_on command stage given halt (Ok a) is refused = absurd is
handed_on command stage given halt (Err cause) is refused =
    subst (λ (h : Halt). Performs command stage given (Err h)) (sym is) refused

module _ {A B : Type 0} (command : Command) (first : Stage A B) (next : Stage B Task) (given : A) where
  refused_first : {M : Type 0} (view : M → B) (halt : Halt) → Meets first given view (Err halt) →
      Performs command (first >=> next) given (Err halt)
  refused_first view (H.Refused why) met = inl met
  refused_first view H.Memory met = tt

  -- where the first check refuses, or memory is wanting, so it is
  pub halts : {M : Type 0} (view : M → B) (halt : Halt) (made : Result Answer Halt) →
      IsErrAnd made (λ cause. cause ≡ halt) → Meets first given view (Err halt) →
      Performs command (first >=> next) given made
  halts view halt made is met =
      handed_on command (first >=> next) given halt made is (refused_first view halt met)

  -- where it passes, the next one tells
  pub goes : (between : B) (made : Result Answer Halt) → first given (Ok between) →
      Performs command next between made → Performs command (first >=> next) given made
  goes between (Ok a) passed (low, task, asked, did) = (low, task, (between, passed, asked), did)
  goes between (Err (H.Refused why)) passed refused = inr (between, passed, refused)
  goes between (Err H.Memory) passed wanting = tt

-- where a name is that of no action, or memory is wanting, so it is
pub unnamed : (names : List (List ℕ × List ℕ)) (given : Loaded) (halt : Halt) →
    NamesActions given.0 names (Err halt) →
    Performs (C.Tight names) (are_actions names) given (Err halt)
unnamed names given (H.Refused why) named = named
unnamed names given H.Memory named = tt

-- the statuses of what was done
pub low_status : (last : LastLine) → status_of last ≤ 2
low_status L.Done = omega arith
low_status (L.Trapped a t) = omega arith
low_status (L.Spent a) = omega arith

-- as many outcomes as actions
pub as_many : (p : Program) (actions : List ℕ) (state : State) (budget : ℕ) →
    length actions ≡ length (tight p actions state budget).outcomes
as_many p [] state budget = refl
as_many p (a ∷ actions) state budget = ap suc (as_many p actions _ budget)

false_is_true : IsTrue false → ⊥
false_is_true is = cc is

-- what isn't above a limit is within it
pub within : (limit n : ℕ) (b : Bool) → (limit < n → IsTrue b) → b ≡ false → n ≤ limit
within limit n b above is = by_size (cases_lt limit n)
  where
    by_size : (limit < n) ⊎ (n ≤ limit) → n ≤ limit
    by_size (inl more_than) = absurd (false_is_true (subst IsTrue is (above more_than)))
    by_size (inr few) = few
