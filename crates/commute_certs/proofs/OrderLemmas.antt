-- Both orders of a case, told, are both orders at every point of it.
use Rattle.std.proofs.Common.{◌≡◌, Result, Ok, sym, ap, subst, ◌∙◌}
use Rattle.seuss_program.specs.declared.tree.Ref.{Ref}
use Rattle.seuss_program.specs.declared.tree.Proc.{Proc}
use Rattle.shape_terms.specs.declared.case.Case.{Case}
use Rattle.shape_terms.specs.Points.{Point}
use Rattle.shape_terms.specs.Symbols.{values_at}
use Rattle.commute_certs.specs.declared.why.Reason.{Reason}
use Rattle.commute_certs.specs.declared.foreseen.Foreseen.{Foreseen}
use Rattle.commute_certs.specs.declared.orders.Orders.{Orders}
use Rattle.commute_certs.specs.Runs.{Alone, alone, EndAlike, Commute}
use Rattle.commute_certs.specs.Foreseen.{foreseen, run_at}
use Rattle.commute_certs.specs.Terms.{and_then}
use Rattle.commute_certs.specs.Orders.{orders, End, Agree}
use Rattle.commute_certs.proofs.Evaluation.{steps}
use Rattle.commute_certs.proofs.Foresight.{foreseen_at}

-- the four runs of a case
pub record Runs (m n : Proc Ref) (c : Case) (o : Orders) : Type 0 where
  pub first : foreseen m c.first c.vars ≡ Ok o.first
  pub second_behind : foreseen n c.second o.first.vars ≡ Ok o.second_behind
  pub second : foreseen n c.second c.vars ≡ Ok o.second
  pub first_behind : foreseen m c.first o.second.vars ≡ Ok o.first_behind

abbrev made : Foreseen → Foreseen → Foreseen → Foreseen → Orders
made f g h k = record { first = f; second_behind = g; second = h; first_behind = k }

abbrev told : Orders → Result Orders Reason
told o = Ok o

gathered : (m n : Proc Ref) (c : Case) (o : Orders) (f g h k : Foreseen) → made f g h k ≡ o →
    foreseen m c.first c.vars ≡ Ok f → foreseen n c.second f.vars ≡ Ok g →
    foreseen n c.second c.vars ≡ Ok h → foreseen m c.first h.vars ≡ Ok k → Runs m n c o
gathered m n c o f g h k is first behind second first_behind =
    subst (Runs m n c) is (record
    { first = first; second_behind = behind; second = second; first_behind = first_behind })

pub runs_of : (m n : Proc Ref) (c : Case) (o : Orders) → orders m n c ≡ Ok o → Runs m n c o
runs_of m n c o h =
    let a = steps (foreseen m c.first c.vars)
    (λ f. and_then (foreseen n c.second f.vars) (λ g. and_then (foreseen n c.second c.vars) (λ h.
    and_then (foreseen m c.first h.vars) (λ k. told (made f g h k))))) o h in
    let b = steps (foreseen n c.second a.middle.vars) (λ g. and_then (foreseen n c.second c.vars) (λ h.
    and_then (foreseen m c.first h.vars) (λ k. told (made a.middle g h k)))) o a.onward in
    let d = steps (foreseen n c.second c.vars)
    (λ h. and_then (foreseen m c.first h.vars) (λ k. told (made a.middle b.middle h k))) o b.onward in
    let e = steps (foreseen m c.first d.middle.vars) (λ k. told (made a.middle b.middle d.middle k)) o
    d.onward in
    let last : told (made a.middle b.middle d.middle e.middle) ≡ Ok o = e.onward in
    let whole : made a.middle b.middle d.middle e.middle ≡ o = cc in
    gathered m n c o a.middle b.middle d.middle e.middle whole a.start b.start d.start e.start

module _ (m n : Proc Ref) (c : Case) (o : Orders) (p : Point) (runs : Runs m n c o) where
  pub first_is : alone m (values_at c.first p) (values_at c.vars p) ≡ run_at o.first p
  first_is = foreseen_at p m c.first c.vars o.first runs.first

  second_is : alone n (values_at c.second p) (values_at c.vars p) ≡ run_at o.second p
  second_is = foreseen_at p n c.second c.vars o.second runs.second

  second_behind_is : alone n (values_at c.second p)
      (alone m (values_at c.first p) (values_at c.vars p)).vars ≡ run_at o.second_behind p
  second_behind_is = ap (λ (r : Alone). alone n (values_at c.second p) r.vars) first_is
      ∙ foreseen_at p n c.second o.first.vars o.second_behind runs.second_behind

  first_behind_is : alone m (values_at c.first p)
      (alone n (values_at c.second p) (values_at c.vars p)).vars ≡ run_at o.first_behind p
  first_behind_is = ap (λ (r : Alone). alone m (values_at c.first p) r.vars) second_is
      ∙ foreseen_at p m c.first o.second.vars o.first_behind runs.first_behind

  alike : (r s r' s' : Alone) → r ≡ r' → s ≡ s' → EndAlike r' s' → EndAlike r s
  alike r s r' s' e f a = record {
    outcome = ap (λ (r : Alone). r.outcome) e ∙ (a.outcome ∙ sym (ap (λ (r : Alone). r.outcome) f));
    result = ap (λ (r : Alone). r.result) e ∙ (a.result ∙ sym (ap (λ (r : Alone). r.result) f));
    plain = ap (λ (r : Alone). r.plain) e ∙ (a.plain ∙ sym (ap (λ (r : Alone). r.plain) f));
  }

  -- where both orders agree, the two methods commute
  pub commutes : Agree o p → Commute m n (values_at c.first p) (values_at c.second p) (values_at c.vars p)
  commutes a = record {
    first = alike _ _ (run_at o.first_behind p) (run_at o.first p) first_behind_is first_is
        (record {
          outcome = ap (λ (e : End). e.outcome) a.first;
          result =
              ap (λ (e : End). e.result) a.first;
          plain = ap (λ (e : End). e.plain) a.first;
        });
    second = alike _ _ (run_at o.second p) (run_at o.second_behind p) second_is second_behind_is
        (record {
          outcome = ap (λ (e : End). e.outcome) a.second;
          result =
              ap (λ (e : End). e.result) a.second;
          plain = ap (λ (e : End). e.plain) a.second;
        });
    vars = ap (λ (r : Alone). r.vars) first_behind_is
        ∙ (a.vars ∙ sym (ap (λ (r : Alone). r.vars) second_behind_is));
  }

  same_end : (e f : End) → e.outcome ≡ f.outcome → e.result ≡ f.result → e.plain ≡ f.plain → e ≡ f
  same_end e f a b d = λ i. record { outcome = a i; result = b i; plain = d i }

  -- where the two methods commute, both orders agree
  pub agrees : Commute m n (values_at c.first p) (values_at c.second p) (values_at c.vars p) → Agree o p
  agrees k =
      let one : EndAlike (run_at o.first_behind p) (run_at o.first p) =
      alike _ _ _ _ (sym first_behind_is) (sym first_is) k.first in
      let two : EndAlike (run_at o.second p) (run_at o.second_behind p) =
      alike _ _ _ _ (sym second_is) (sym second_behind_is) k.second in
      record {
        first = same_end _ _ one.outcome one.result one.plain;
        second = same_end _ _ two.outcome two.result two.plain;
        vars = sym (ap (λ (r : Alone). r.vars) first_behind_is)
            ∙ (k.vars ∙ ap (λ (r : Alone). r.vars) second_behind_is);
      }
