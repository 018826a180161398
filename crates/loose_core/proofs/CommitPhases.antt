-- The phases of a pass: early steps, one commit step, late steps.
use Rattle.std.proofs.Common.{◌≡◌, ℕ, zero, suc, ◌<◌, List, [], ◌∷◌, ◌++◌, Bool, true, false, ◌||◌, sym}
use Rattle.std.proofs.Common.{subst, ap, refl, slice_get, Some, arith, ◌∙◌, map, replicate, set}
use Rattle.std.specs.List.{AllByRecursion, list_any}
use Rattle.seuss_base.specs.declared.outcome.PassEnd.{PassEnd}
use Rattle.seuss_base.specs.declared.outcome.PassEnd.TheVariants as P
use Rattle.seuss_program.specs.declared.program.Program.{Program}
use Rattle.seuss_program.specs.declared.program.ActionInfo.{ActionInfo}
use Rattle.seuss_program.specs.declared.state.Value.{Value}
use Rattle.method_code.specs.Codes.{compiled}
use Rattle.method_code.specs.Steps.{Stepped, step}
use Rattle.method_code.specs.Chains.{begun}
use Rattle.method_code.specs.Kinds.{Kind, Early, Commit, Late, kind_by, kind_of, Made, IsAction}
use Rattle.method_code.specs.Kinds.{kinds_of, rejects_plainly, is_plain, AllIdle}
use Rattle.method_code.specs.Beside.{OfPass}
use Rattle.method_code.specs.OwnSteps.{EachMade, FindsVars, MayMake}
use Rattle.method_code.specs.Records.{does, ChainsTo, AreMade, made_of}
use Rattle.loose_records.specs.declared.record.BoxEntry.{BoxEntry}
use Rattle.loose_core.proofs.lists.Words.{IsIdle}
use Rattle.loose_core.proofs.LowerLaws.{StepLaws}
use Rattle.loose_core.proofs.lists.Rising.{In-get, All-from_In}
use Rattle.loose_core.proofs.SafeSteps.{begins, acts, recorded, IsMade}
use Rattle.loose_core.proofs.lists.Exchanges.{All-weak}

-- the kind of a step
abbrev pub kind_at : Program → ℕ × BoxEntry → Kind
kind_at p x = kind_of (compiled p) x.1.before x.1.end

-- so many early steps, the commit step, so many late ones
abbrev pub phased : ℕ → ℕ → List Kind
phased early late = replicate early Early ++ Commit ∷ replicate late Late

-- The steps of a pass: early ones, one commit step, late ones. A plain rejection among them is the end of the
-- pass; a pass that is plainly rejected changes nothing; and each step is one that the action may make.
pub record Phases (p : Program) (a : ActionInfo) (xs : List (ℕ × BoxEntry)) (end : PassEnd) : Type 0 where
  pub may : AllByRecursion (λ x. OfPass p a x.0 (begins x.1)) xs
  pub early : ℕ
  pub late : ℕ
  pub kinds : map (kind_at p) xs ≡ phased early late
  pub plain : AllByRecursion (λ x. rejects_plainly x.1.end ≡ true → end ≡ P.PlainRejected) xs
  pub void : end ≡ P.PlainRejected → AllByRecursion (λ x. IsIdle (acts p x.0) x.1) xs

-- variables of its box for each step, from which it is made
record Rowed (p : Program) (xs : List (ℕ × BoxEntry)) : Type 0 where
  row : List (List Value)
  made : AreMade (compiled p) (map recorded xs) row
  finds : EachMade (FindsVars p) (made_of p (map recorded xs) row)

-- steps that are made have such variables
rowed : (p : Program) (xs : List (ℕ × BoxEntry)) → AllByRecursion (IsMade p) xs → Rowed p xs
rowed p [] all = record { row = []; made = tt; finds = tt }
rowed p (x ∷ xs) all =
    let r = rowed p xs all.1 in
    record {
      row = all.0.0.values ∷ r.row;
      made = ((all.0.1.values, all.0.2.2), r.made);
      finds = (all.0.2.0, r.finds);
    }

-- the kinds of steps that are made are those of the recorded ones
kinds_are : (p : Program) (xs : List (ℕ × BoxEntry)) (row : List (List Value)) →
    AreMade (compiled p) (map recorded xs) row →
    kinds_of (compiled p) (made_of p (map recorded xs) row) ≡ map (kind_at p) xs
kinds_are p [] row m = refl
kinds_are p (x ∷ xs) [] m = absurd m
kinds_are p (x ∷ xs) (v ∷ row) m =
    ap (λ (s : Stepped). kind_of (compiled p) x.1.before s.end ∷ kinds_of (compiled p)
    (made_of p (map recorded xs) row)) m.0.1
    ∙ ap (λ (ks : List Kind). kind_at p x ∷ ks) (kinds_are p xs row m.1)

-- the second of two tests
or_right : (b c : Bool) → c ≡ true → (b || c) ≡ true
or_right true c h = refl
or_right false c h = h

-- a step that rejects plainly is found among those that are made
any_true : (p : Program) (xs : List (ℕ × BoxEntry)) (row : List (List Value)) →
    AreMade (compiled p) (map recorded xs) row →
    AllByRecursion (λ x. rejects_plainly x.1.end ≡ true →
    list_any (λ (s : Made). rejects_plainly s.stepped.end) (made_of p (map recorded xs) row) ≡ true) xs
any_true p [] row m = tt
any_true p (x ∷ xs) [] m = absurd m
any_true p (x ∷ xs) (v ∷ row) m = (
  λ h. ap (λ b. b || list_any (λ (s : Made). rejects_plainly s.stepped.end) (made_of p (map recorded xs)
      row))
      (ap (λ (s : Stepped). rejects_plainly s.end) m.0.1 ∙ h),
  later xs (any_true p xs row m.1),
)
  where
    head : Bool
    head = rejects_plainly (step (compiled p) x.1.before x.1.budget_before v).end

    later : (ys : List (ℕ × BoxEntry)) →
        AllByRecursion (λ y. rejects_plainly y.1.end ≡ true →
        list_any (λ (s : Made). rejects_plainly s.stepped.end) (made_of p (map recorded xs) row) ≡ true)
        ys →
        AllByRecursion (λ y. rejects_plainly y.1.end ≡ true →
        (head || list_any (λ (s : Made). rejects_plainly s.stepped.end) (made_of p (map recorded xs)
        row)) ≡ true) ys
    later [] all = tt
    later (y ∷ ys) all = (λ h. or_right head _ (all.0 h), later ys all.1)

-- a step put on other variables from which it is as it is recorded
replaced : (p : Program) (xs : List (ℕ × BoxEntry)) (row : List (List Value)) →
    AreMade (compiled p) (map recorded xs) row →
    (k : ℕ) (x : ℕ × BoxEntry) → slice_get xs k ≡ Some x → (v w : List Value) →
    does (compiled p) (recorded x) v w →
    AreMade (compiled p) (map recorded xs) (set row k v)
    × (AllIdle (made_of p (map recorded xs) (set row k v)) → v ≡ w)
replaced p [] row m k x e v w d = cc e
replaced p (y ∷ xs) [] m k x e v w d = absurd m
replaced p (y ∷ xs) (u ∷ row) m zero x e v w d =
    let q : x ≡ y = cc e in
    let g : does (compiled p) (recorded y) v w =
    subst (λ (x : ℕ × BoxEntry). does (compiled p) (recorded x) v w) q d in
    (((w, g), m.1), λ idle. sym idle.0 ∙ ap (λ (s : Stepped). s.vars) g)
replaced p (y ∷ xs) (u ∷ row) m (suc k) x e v w d =
    let r = replaced p xs row m.1 k x e v w d in ((m.0, r.0), λ idle. r.1 idle.1)

-- the one plain end
plain_end : (end : PassEnd) → is_plain end ≡ true → end ≡ P.PlainRejected
plain_end P.Accepted h = cc h
plain_end P.PlainRejected h = refl
plain_end P.Rejected h = cc h
plain_end (P.Trapped t) h = cc h
plain_end P.Spent h = cc h

-- each step is one that the action may make
may_of : (p : Program) (a : ActionInfo) (xs : List (ℕ × BoxEntry)) (row : List (List Value)) →
    AreMade (compiled p) (map recorded xs) row →
    EachMade (MayMake p a) (made_of p (map recorded xs) row) →
    AllByRecursion (λ x. OfPass p a x.0 (begins x.1)) xs
may_of p a [] row m all = tt
may_of p a (x ∷ xs) [] m all = absurd m
may_of p a (x ∷ xs) (v ∷ row) m all = (all.0, may_of p a xs row m.1 all.1)

-- the phases of a pass whose steps are made
pub phases : (p : Program) → StepLaws p → (a : ActionInfo) → IsAction p a →
    (budget : ℕ) (xs : List (ℕ × BoxEntry)) (end : PassEnd) →
    ChainsTo p (begun p a) budget (map recorded xs) end → AllByRecursion (IsMade p) xs → Phases p a xs end
phases p laws a action budget xs end chain all =
    let steps = laws.made (begun p a) budget (map recorded xs) r.row end chain r.made in
    let over = laws.ended (begun p a) budget (map recorded xs) r.row end chain r.made in
    let order = laws.commits a r.row budget end action over in
    let plainly = laws.plainly a r.row budget end action over in
    record {
      may = may_of p a xs r.row r.made (subst (EachMade (MayMake p a)) steps (laws.may a r.row budget action
          (subst (EachMade (FindsVars p)) (sym steps) r.finds)));
      early = order.0;
      late = order.1;
      kinds = sym (kinds_are p xs r.row r.made) ∙ (ap (kinds_of (compiled p)) (sym steps) ∙ order.2);
      plain = All-weak (λ x. rejects_plainly x.1.end ≡ true →
          list_any (λ (s : Made). rejects_plainly s.stepped.end) (made_of p (map recorded xs) r.row) ≡ true)
          (λ x. rejects_plainly x.1.end ≡ true → end ≡ P.PlainRejected) xs
          (λ x h on. plain_end end (plainly ∙ (ap (list_any (λ (s : Made). rejects_plainly s.stepped.end))
          steps ∙ h on))) (any_true p xs r.row r.made);
      void = λ e. All-from_In (λ x. IsIdle (acts p x.0) x.1) xs (λ x i. idle e x (In-get x xs i));
    }
  where
    r : Rowed p xs
    r = rowed p xs all

    idle : end ≡ P.PlainRejected → (x : ℕ × BoxEntry) → (k : ℕ) × (slice_get xs k ≡ Some x) →
        IsIdle (acts p x.0) x.1
    idle e x at_x v w d =
        let q = replaced p xs r.row r.made at_x.0 x at_x.1 v.values w.values d.2 in
        let steps =
        laws.made (begun p a) budget (map recorded xs) (set r.row at_x.0 v.values) end chain q.0 in
        let over =
        laws.ended (begun p a) budget (map recorded xs) (set r.row at_x.0 v.values) end chain q.0 in
        let same : v.values ≡ w.values =
        q.1 (subst AllIdle steps (laws.idle a (set r.row at_x.0 v.values) budget action
        (over ∙ ap Some e))) in
        λ i. record { values = same i }

-- the kinds at the places of such a list
pub kind_before : (early late k : ℕ) → k < early → slice_get (phased early late) k ≡ Some Early
kind_before zero late k h = absurd (omega arith)
kind_before (suc n) late zero h = refl
kind_before (suc n) late (suc k) h = kind_before n late k (omega arith)

-- after the commit step all are late
all_late : (n k : ℕ) (kind : Kind) → slice_get (replicate n Late) k ≡ Some kind → kind ≡ Late
all_late zero k kind h = cc h
all_late (suc n) zero kind h = let q : Late ≡ kind = cc h in sym q
all_late (suc n) (suc k) kind h = all_late n k kind h

-- a step after the commit step is late
pub kind_after : (early late k : ℕ) (kind : Kind) → early < k →
    slice_get (phased early late) k ≡ Some kind → kind ≡ Late
kind_after zero late zero kind h e = absurd (omega arith)
kind_after zero late (suc k) kind h e = all_late late k kind e
kind_after (suc n) late zero kind h e = absurd (omega arith)
kind_after (suc n) late (suc k) kind h e = kind_after n late k kind (omega arith) e

-- the commit step stands after the early ones
pub commit_place : (early late k : ℕ) → slice_get (phased early late) k ≡ Some Commit → k ≡ early
commit_place zero late zero e = refl
commit_place zero late (suc k) e = let q = all_late late k Commit e in cc q
commit_place (suc n) late zero e = cc e
commit_place (suc n) late (suc k) e = ap suc (commit_place n late k e)

-- a late step begins late
pub late_is : (code : Bool) (early : Bool) → kind_by code early ≡ Late → code ≡ true
late_is true early h = refl
late_is false true h = cc h
late_is false false h = cc h
