-- A certificate has one verdict.
use Rattle.std.proofs.Common.{◌≡◌, not, List, IsTrue, refl, sym, ap, subst, ◌∙◌, true≢false}
use Rattle.seuss_base.specs.declared.level.Level.{Level}
use Rattle.seuss_base.specs.declared.level.Level.TheVariants as L
use Rattle.seuss_program.specs.declared.state.Value.{Value}
use Rattle.seuss_program.specs.declared.state.Vars.{Vars}
use Rattle.shape_terms.specs.Cases.{Pair}
use Rattle.commute_certs.specs.declared.why.Why.{Why}
use Rattle.commute_certs.specs.declared.why.Why.TheVariants as W
use Rattle.commute_certs.specs.declared.why.Reason.{Reason}
use Rattle.commute_certs.specs.declared.verdict.Verdict.TheVariants as V
use Rattle.commute_certs.specs.Runs.{HoldsAt}
use Rattle.commute_certs.specs.Verdicts.{is_told, IsPlain, Meets, IsUnclear, IsHighest, Refutes, IsVerdict}

-- two highest levels at which a certificate holds are one
highest : (pair : Pair) (level other : Level) → HoldsAt pair.cat level pair.first pair.second →
    IsHighest pair level → HoldsAt pair.cat other pair.first pair.second → IsHighest pair other →
    level ≡ other
highest pair L.Never other h top k above = absurd top
highest pair L.Loose L.Never h top k above = absurd above
highest pair L.Loose L.Loose h top k above = refl
highest pair L.Loose L.Firm h top k above = absurd (top k)
highest pair L.Firm L.Never h top k above = absurd above
highest pair L.Firm L.Loose h top k above = absurd (above h)
highest pair L.Firm L.Firm h top k above = refl

-- a certificate holds at one level and at none above
pub one_level : (pair : Pair) (level other : Level) → IsVerdict pair (V.Yes level) →
    IsVerdict pair (V.Yes other) → level ≡ other
one_level pair level other a b = highest pair level other a.1 a.2 b.1 b.2

-- a state that refutes a certificate at loose refutes it at firm
refuted : (pair : Pair) (level : Level) (vars first second : List Value) →
    HoldsAt pair.cat level pair.first pair.second → IsHighest pair level → Refutes pair vars first second → ⊥
refuted pair L.Never vars first second h top r = top
refuted pair L.Loose vars first second h top r =
    r.differ (h first second vars r.state r.args r.others (ap not r.loose))
refuted pair L.Firm vars first second h top r =
    r.differ (h first second vars r.state r.args r.others refl)

-- a certificate that holds isn't refuted
pub yes_or_no : (pair : Pair) (level : Level) (vars : Vars) (first second : List Value) →
    IsVerdict pair (V.Yes level) → IsVerdict pair (V.No vars first second) → ⊥
yes_or_no pair level vars first second a b = refuted pair level vars.values first second a.1 a.2 b.1

-- on a plain pair no reason is met
meets_none : (pair : Pair) (met : Reason) → IsPlain pair → Meets pair met → ⊥
meets_none pair met plain meets = true≢false (sym
    (subst (λ r. IsTrue (is_told r)) meets.told (plain.cases meets.one meets.there)))

-- a plain pair is clear
plain_or_unclear : (pair : Pair) (why : Why) → IsPlain pair → IsUnclear pair why → ⊥
plain_or_unclear pair W.MayTrap plain unclear = meets_none pair _ plain unclear
plain_or_unclear pair W.NotSingle plain unclear = true≢false (sym plain.single ∙ unclear)
plain_or_unclear pair W.UndecidedCondition plain unclear = meets_none pair _ plain unclear
plain_or_unclear pair W.NotShown plain unclear = meets_none pair _ plain unclear
plain_or_unclear pair W.TooManyCases plain unclear = unclear.1 plain.few

-- a certificate that holds, or that is refuted, isn't unclear
pub yes_or_unclear : (pair : Pair) (level : Level) (why : Why) →
    IsVerdict pair (V.Yes level) → IsVerdict pair (V.Unclear why) → ⊥
yes_or_unclear pair level why a b = plain_or_unclear pair why a.0 b

pub no_or_unclear : (pair : Pair) (vars : Vars) (first second : List Value) (why : Why) →
    IsVerdict pair (V.No vars first second) → IsVerdict pair (V.Unclear why) → ⊥
no_or_unclear pair vars first second why a b = plain_or_unclear pair why a.0 b
