-- What is found over all cases is the verdict.
use Rattle.std.proofs.Common.{◌≡◌, Bool, true, false, ◌&&◌, not, List, Option, None, Some, Result, Ok, Err}
use Rattle.std.proofs.Common.{IsTrue, refl, sym, ap, subst, ◌∙◌, true≢false}
use Rattle.std.specs.List.{Contains}
use Rattle.seuss_base.specs.declared.level.Level.TheVariants as L
use Rattle.std.specs.Prelude.{IfOk}
use Rattle.seuss_base.specs.declared.memory.Memory.{Memory}
use Rattle.seuss_program.specs.declared.tree.Ref.{Ref}
use Rattle.seuss_program.specs.declared.tree.Proc.{Proc}
use Rattle.method_code.specs.Singles.{is_single}
use Rattle.seuss_program.specs.declared.state.Value.{Value}
use Rattle.seuss_program.specs.Keeping.{AreOf, var_kinds, param_kinds}
use Rattle.shape_terms.specs.declared.case.Case.{Case}
use Rattle.shape_terms.specs.Points.{Point, HasNumbers, point_of}
use Rattle.shape_terms.specs.Symbols.{values_at, IsOf}
use Rattle.shape_terms.specs.Cases.{Pair, cases_of}
use Rattle.commute_certs.specs.declared.why.Reason.{Reason}
use Rattle.commute_certs.specs.declared.why.Reason.TheVariants as R
use Rattle.commute_certs.specs.declared.verdict.Verdict.{Verdict}
use Rattle.commute_certs.specs.declared.verdict.Verdict.TheVariants as D
use Rattle.commute_certs.specs.declared.deciding.Found.{Found}
use Rattle.commute_certs.specs.declared.deciding.Refutation.{Refutation}
use Rattle.commute_certs.specs.Runs.{Alone, alone, IsState, Commute, HoldsAt}
use Rattle.commute_certs.specs.Foreseen.{is_plain, run_at}
use Rattle.commute_certs.specs.Decisions.{Difference, LooseDifference, IsFound, Sees, Seen, Untellable}
use Rattle.commute_certs.specs.Decisions.{Decides, By, Fails, verdict_by, why_by}
use Rattle.commute_certs.specs.Verdicts.{both_single, too_many, is_told, IsPlain, Refutes, IsVerdict}
use Rattle.commute_certs.proofs.OrderLemmas.{runs_of, commutes, agrees, first_is}

module _ (pair : Pair)
    (covers : (state args others : List Value) → AreOf state (var_kinds pair.cat.vars) →
    AreOf args (param_kinds pair.first.params) →
    AreOf others (param_kinds pair.second.params) →
    (c : Case) × (at : Point) × Contains (cases_of pair) c × HasNumbers at × IsOf c at state args
    others)
    (states : (c : Case) (at : Point) → Contains (cases_of pair) c → HasNumbers at →
    AreOf (values_at c.vars at) (var_kinds pair.cat.vars))
    (firsts : (c : Case) (at : Point) → Contains (cases_of pair) c → HasNumbers at →
    AreOf (values_at c.first at) (param_kinds pair.first.params))
    (seconds : (c : Case) (at : Point) → Contains (cases_of pair) c → HasNumbers at →
    AreOf (values_at c.second at) (param_kinds pair.second.params))
    (single : IsTrue (both_single pair)) (few : too_many pair ≡ None) (found : Found)
    (seen : Seen pair.first pair.second (cases_of pair) found) where
  pub plain : IsPlain pair
  plain = record {
    single = single;
    few = few;
    cases = λ c there. subst (λ r. IsTrue (is_told r)) (sym (seen.each c there).told) refl;
  }

  -- what holds at the point of a case holds from its state
  from_point : (c : Case) (p : Point) (state args others : List Value) → IsOf c p state args others →
      Commute pair.first pair.second (values_at c.first p) (values_at c.second p) (values_at c.vars p) →
      Commute pair.first pair.second args others state
  from_point c p state args others of k =
      subst (λ s. Commute pair.first pair.second args others s) of.vars
      (subst (λ a. Commute pair.first pair.second args a (values_at c.vars p)) of.second
      (subst (λ a. Commute pair.first pair.second a (values_at c.second p) (values_at c.vars p)) of.first k))

  firm_holds : found.differs ≡ false → HoldsAt pair.cat L.Firm pair.first pair.second
  firm_holds h args others state s a b asked =
      let v = covers state args others s a b in
      let e : Sees pair.first pair.second v.0 found = seen.each v.0 v.2 in
      from_point v.0 v.1 state args others v.4
      (commutes pair.first pair.second v.0 e.both v.1 (runs_of pair.first pair.second v.0 e.both e.told)
      (e.firm h v.1))

  not_true : (b : Bool) → IsTrue (not b) → b ≡ false
  not_true true h = absurd (true≢false (sym h))
  not_true false h = refl

  loose_holds : found.loose ≡ None → HoldsAt pair.cat L.Loose pair.first pair.second
  loose_holds h args others state s a b asked =
      let v = covers state args others s a b in
      let e : Sees pair.first pair.second v.0 found = seen.each v.0 v.2 in
      let runs = runs_of pair.first pair.second v.0 e.both e.told in
      let same : alone pair.first args state ≡ run_at e.both.first v.1 =
      ap (λ xs. alone pair.first xs state) (sym v.4.first)
      ∙ (ap (λ xs. alone pair.first (values_at v.0.first v.1) xs) (sym v.4.vars)
      ∙ first_is pair.first pair.second v.0 e.both v.1 runs) in
      let loose : is_plain e.both.first.ending ≡ false = sym (ap (λ (r : Alone). r.plain) same)
      ∙ not_true (alone pair.first args state).plain asked in
      from_point v.0 v.1 state args others v.4
      (commutes pair.first pair.second v.0 e.both v.1 runs (e.loose h loose v.1))

  -- a difference is a state from which the two methods don't commute
  refutes : (d : Difference pair.first pair.second (cases_of pair)) →
      Commute pair.first pair.second (values_at d.one.first (point_of d.at))
      (values_at d.one.second (point_of d.at)) (values_at d.one.vars (point_of d.at)) → ⊥
  refutes d k = d.differ (agrees pair.first pair.second d.one d.both (point_of d.at)
      (runs_of pair.first pair.second d.one d.both d.told) k)

  -- a loose difference is a state from which the certificate fails at loose
  refuted : (r : Refutation) → LooseDifference pair.first pair.second (cases_of pair) r →
      Refutes pair r.vars.values r.first r.second
  refuted r e =
      let d = e.difference in
      let s = states d.one (point_of d.at) d.there d.numbers in
      let a = firsts d.one (point_of d.at) d.there d.numbers in
      let b = seconds d.one (point_of d.at) d.there d.numbers in
      subst (λ vs. Refutes pair vs r.first r.second) (sym e.vars)
      (subst (λ xs. Refutes pair (values_at d.one.vars (point_of d.at)) xs r.second) (sym e.first)
      (subst (λ ys. Refutes pair (values_at d.one.vars (point_of d.at))
      (values_at d.one.first (point_of d.at)) ys) (sym e.second)
      (record {
        state = s;
        args = a;
        others = b;
        loose = ap (λ (r : Alone). r.plain)
            (first_is pair.first pair.second d.one d.both (point_of d.at)
            (runs_of pair.first pair.second d.one d.both d.told)) ∙ e.loose;
        differ = refutes d;
      })))

  firm_fails : Difference pair.first pair.second (cases_of pair) →
      HoldsAt pair.cat L.Firm pair.first pair.second → ⊥
  firm_fails d h =
      let s = states d.one (point_of d.at) d.there d.numbers in
      let a = firsts d.one (point_of d.at) d.there d.numbers in
      let b = seconds d.one (point_of d.at) d.there d.numbers in
      refutes d (h _ _ _ s a b refl)

  pub verdict : IsVerdict pair (verdict_by found.differs found.loose)
  verdict = by found.differs found.loose refl refl
    where
      by : (differs : Bool) (loose : Option Refutation) → found.differs ≡ differs → found.loose ≡ loose →
          IsVerdict pair (verdict_by differs loose)
      by differs (Some r) d l =
          let e : LooseDifference pair.first pair.second (cases_of pair) r =
          subst (IsFound pair.first pair.second (cases_of pair)) l seen.loose in
          (plain, refuted r e)
      by true None d l = (plain, loose_holds l, firm_fails (seen.firm d))
      by false None d l = (plain, firm_holds d, tt)

-- a case in which something isn't told makes the pair unclear
unclear : (pair : Pair) (met : Reason) → IsTrue (both_single pair) → too_many pair ≡ None →
    Untellable pair.first pair.second (cases_of pair) met →
    IsVerdict pair (D.Unclear (why_by met))
unclear pair R.MayTrap single few e =
    record { single = single; few = few; one = e.one; there = e.there; told = e.told }
unclear pair R.UndecidedCondition single few e =
    record { single = single; few = few; one = e.one; there = e.there; told = e.told }
unclear pair R.NotShown single few e =
    record { single = single; few = few; one = e.one; there = e.there; told = e.told }

-- what is decided over all cases is the verdict
pub decided : (pair : Pair) →
    ((state args others : List Value) → AreOf state (var_kinds pair.cat.vars) →
    AreOf args (param_kinds pair.first.params) →
    AreOf others (param_kinds pair.second.params) →
    (c : Case) × (at : Point) × Contains (cases_of pair) c × HasNumbers at × IsOf c at state args
    others) →
    ((c : Case) (at : Point) → Contains (cases_of pair) c → HasNumbers at →
    AreOf (values_at c.vars at) (var_kinds pair.cat.vars)) →
    ((c : Case) (at : Point) → Contains (cases_of pair) c → HasNumbers at →
    AreOf (values_at c.first at) (param_kinds pair.first.params)) →
    ((c : Case) (at : Point) → Contains (cases_of pair) c → HasNumbers at →
    AreOf (values_at c.second at) (param_kinds pair.second.params)) →
    IsTrue (both_single pair) → too_many pair ≡ None → (v : Verdict) →
    Decides pair.first pair.second (cases_of pair) v → IsVerdict pair v
decided pair covers states firsts seconds single few v (By found seen is) =
    subst (λ v. IsVerdict pair v) (sym is) (verdict pair covers states firsts seconds single few found seen)
decided pair covers states firsts seconds single few v (Fails met e is) =
    subst (λ v. IsVerdict pair v) (sym is) (unclear pair met single few e)

-- the verdict of a search over the cases of these two methods
pub verdict_found : (pair : Pair) (m n : Proc Ref) (all cs : List Case) (a b : Bool)
    (r : Result Verdict Memory) →
    ((v : Verdict) → IsTrue (both_single pair) → too_many pair ≡ None →
    Decides pair.first pair.second (cases_of pair) v → IsVerdict pair v) →
    pair.first ≡ m → pair.second ≡ n → a ≡ is_single m.form → a ≡ true → b ≡ is_single n.form → b ≡ true →
    too_many pair ≡ None → all ≡ cases_of pair → cs ≡ all →
    IfOk r (λ v. Decides m n cs v) → IfOk r (λ v. IsVerdict pair v)
verdict_found pair m n all cs a b (Err e) law f s ea ta eb tb few is same d = tt
verdict_found pair m n all cs a b (Ok v) law f s ea ta eb tb few is same d =
    let first : is_single pair.first.form ≡ true = ap (λ (q : Proc Ref). is_single q.form) f
    ∙ (sym ea ∙ ta) in
    let second : is_single pair.second.form ≡ true = ap (λ (q : Proc Ref). is_single q.form) s
    ∙ (sym eb ∙ tb) in
    law v (ap (λ b. b && is_single pair.second.form) first ∙ second) few
    (subst (λ (cs : List Case). Decides pair.first pair.second cs v) (same ∙ is)
    (subst (λ (q : Proc Ref). Decides q pair.second cs v) (sym f)
    (subst (λ (q : Proc Ref). Decides m q cs v) (sym s) d)))
