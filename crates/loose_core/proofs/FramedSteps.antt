-- Each step of a pass whose steps up to it are made is from a frame of the code.
use Rattle.std.proofs.Common.{◌≡◌, ℕ, zero, suc, ◌≤◌, List, [], ◌∷◌, sym, subst, refl}
use Rattle.std.proofs.Common.{slice_get, Some, arith, map}
use Rattle.seuss_base.specs.declared.outcome.PassEnd.{PassEnd}
use Rattle.seuss_program.specs.declared.program.Program.{Program}
use Rattle.seuss_program.specs.declared.program.ActionInfo.{ActionInfo}
use Rattle.seuss_program.specs.declared.state.Value.{Value}
use Rattle.method_code.specs.Codes.{compiled}
use Rattle.method_code.specs.Chains.{begun}
use Rattle.method_code.specs.Frames.{HasVars, IsFrame}
use Rattle.method_code.specs.Kinds.{IsAction}
use Rattle.method_code.specs.OwnSteps.{EachMade, FindsVars, IsOwnStep}
use Rattle.method_code.specs.Records.{does, ChainsTo, FrontMade, made_of}
use Rattle.loose_records.specs.declared.record.BoxEntry.{BoxEntry}
use Rattle.loose_core.proofs.LowerLaws.{StepLaws}
use Rattle.loose_core.proofs.SafeSteps.{recorded}

module _ (p : Program) where
  -- variables of its box from which a step is made
  abbrev pub Found : ℕ × BoxEntry → Type 0
  Found x = (v : List Value) × (w : List Value) × HasVars p x.0 v × does (compiled p) (recorded x) v w

  -- variables from which the first steps are made, of which one stands at k
  record Front (xs : List (ℕ × BoxEntry)) (k : ℕ) : Type 0 where
    row : List (List Value)
    made : FrontMade (compiled p) (map recorded xs) row
    finds : EachMade (FindsVars p) (made_of p (map recorded xs) row)
    picks : (a : ActionInfo) (x : ℕ × BoxEntry) → slice_get xs k ≡ Some x →
        EachMade (IsOwnStep p a) (made_of p (map recorded xs) row) → IsFrame p x.0 x.1.before

  -- where each step up to place k is found, their variables are a row
  front : (xs : List (ℕ × BoxEntry)) (k : ℕ) →
      ((j : ℕ) (y : ℕ × BoxEntry) → j ≤ k → slice_get xs j ≡ Some y → Found y) → Front xs k
  front [] k found = record { row = []; made = tt; finds = tt; picks = λ a x e own. cc e }
  front (x ∷ xs) zero found =
      let f = found 0 x (omega arith) refl in
      record {
        row = f.0 ∷ [];
        made = ((f.1, f.3), tt);
        finds = (f.2, none xs);
        picks = λ a y e own. let q : x ≡ y = cc e in
            subst (λ (y : ℕ × BoxEntry). IsFrame p y.0 y.1.before) q own.0.frame;
      }
    where
      none : (ys : List (ℕ × BoxEntry)) → EachMade (FindsVars p) (made_of p (map recorded ys) [])
      none [] = tt
      none (y ∷ ys) = tt
  front (x ∷ xs) (suc k) found =
      let f = found 0 x (omega arith) refl in
      let r = front xs k (λ j y h e. found (suc j) y (omega (arith, h)) e) in
      record {
        row = f.0 ∷ r.row;
        made = ((f.1, f.3), r.made);
        finds = (f.2, r.finds);
        picks = λ a y e own. r.picks a y e own.1;
      }

  -- a step of a pass whose steps up to it are made on variables of their boxes is from a frame of the code
  pub framed : StepLaws p → (a : ActionInfo) → IsAction p a →
      (budget : ℕ) (xs : List (ℕ × BoxEntry)) (end : PassEnd) →
      ChainsTo p (begun p a) budget (map recorded xs) end → (k : ℕ) (x : ℕ × BoxEntry) →
      slice_get xs k ≡ Some x →
      ((j : ℕ) (y : ℕ × BoxEntry) → j ≤ k → slice_get xs j ≡ Some y → Found y) → IsFrame p x.0 x.1.before
  framed laws a action budget xs end chain k x at_x found =
      let f = front xs k found in
      let steps = laws.front (begun p a) budget (map recorded xs) f.row end chain f.made in
      f.picks a x at_x (subst (EachMade (IsOwnStep p a)) steps
      (laws.own a f.row budget action (subst (EachMade (FindsVars p)) (sym steps) f.finds)))
