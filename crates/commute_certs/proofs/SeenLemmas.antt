-- What is known over some cases, with one more case.
use Rattle.std.proofs.Common.{◌≡◌, ◌⊎◌, inl, inr, arith, true, false, List, [], ◌∷◌, ◌++◌, Option, None}
use Rattle.std.proofs.Common.{Some, Ok, sym, subst, ◌∙◌, true≢false}
use Rattle.std.specs.List.{Contains}
use Rattle.std.proofs.lemmas.List.Elements.{Contains-append_left, Contains-push, Contains-push_cases}
use Rattle.seuss_program.specs.declared.tree.Ref.{Ref}
use Rattle.seuss_program.specs.declared.tree.Proc.{Proc}
use Rattle.shape_terms.specs.declared.apart.Apart.{Apart}
use Rattle.shape_terms.specs.declared.case.Case.{Case}
use Rattle.shape_terms.specs.Points.{Point, point_of}
use Rattle.shape_terms.specs.Symbols.{values_at}
use Rattle.commute_certs.specs.declared.orders.Orders.{Orders}
use Rattle.commute_certs.specs.declared.deciding.Found.{Found}
use Rattle.commute_certs.specs.declared.deciding.Refutation.{Refutation}
use Rattle.commute_certs.specs.Foreseen.{is_plain}
use Rattle.commute_certs.specs.Orders.{orders, Agree, TellsOrders}
use Rattle.commute_certs.specs.Decisions.{Difference, IsFound, Sees, Seen}

module _ (m n : Proc Ref) where
  -- a difference in some of the cases is one in more of them
  wider : (cases : List Case) (c : Case) → Difference m n cases → Difference m n (cases ++ c ∷ [])
  wider cases c d = record {
    one = d.one;
    there = Contains-append_left cases (c ∷ []) d.one d.there;
    both = d.both;
    told = d.told;
    at = d.at;
    numbers = d.numbers;
    differ = d.differ;
  }

  wider_loose : (cases : List Case) (c : Case) (loose : Option Refutation) → IsFound m n cases loose →
      IsFound m n (cases ++ c ∷ []) loose
  unfolding wider
  wider_loose cases c None f = tt
  wider_loose cases c (Some r) f = record {
    difference = wider cases c f.difference;
    loose = f.loose;
    vars = f.vars;
    first = f.first;
    second = f.second;
  }

  module _ (cases : List Case) (c : Case) (found : Found) (o : Orders) (seen : Seen m n cases found)
      (told : orders m n c ≡ Ok o) where
    -- a case in which both orders agree
    pub seen_alike : ((p : Point) → Agree o p) → Seen m n (cases ++ c ∷ []) found
    seen_alike agree = record {
      each = λ d there. by d (Contains-push_cases cases c d there);
      firm = λ h. wider cases c (seen.firm h);
      loose = wider_loose cases c found.loose seen.loose;
    }
      where
        here : Sees m n c found
        here = record { both = o; told = told; firm = λ h. agree; loose = λ h k. agree }

        by : (d : Case) → Contains cases d ⊎ (c ≡ d) → Sees m n d found
        by d (inl there) = seen.each d there
        by d (inr same) = subst (λ d. Sees m n d found) same here

    module _ (at : Apart) (apart : TellsOrders o (Some at)) where
      this : Difference m n (cases ++ c ∷ [])
      this = record {
        one = c;
        there = Contains-push cases c;
        both = o;
        told = told;
        at = at;
        numbers = apart.0;
        differ = apart.1;
      }

      -- the other cases, once a difference is found
      after_difference : (d : Case) (loose : Option Refutation) → (loose ≡ None → found.loose ≡ None) →
          Sees m n d found → Sees m n d (record { differs = true; loose = loose })
      after_difference d loose f s =
          record {
            both = s.both;
            told = s.told;
            firm = λ h. absurd (true≢false h);
            loose = λ h k.
                s.loose (f h) k;
          }

      -- a case in which both orders differ, where it brings no state of its own
      pub seen_apart : (found.loose ≡ None → is_plain o.first.ending ≡ true) →
          Seen m n (cases ++ c ∷ []) (record { differs = true; loose = found.loose })
      seen_apart known = record {
        each = λ d there. by d (Contains-push_cases cases c d there);
        firm = λ h. this;
        loose = wider_loose cases c found.loose seen.loose;
      }
        where
          here : Sees m n c (record { differs = true; loose = found.loose })
          here = record {
            both = o;
            told = told;
            firm = λ h. absurd (true≢false h);
            loose = λ h k.
                absurd (true≢false (sym (known h) ∙ k));
          }

          by : (d : Case) → Contains cases d ⊎ (c ≡ d) →
              Sees m n d (record { differs = true; loose = found.loose })
          by d (inl there) = after_difference d found.loose (λ h. h) (seen.each d there)
          by d (inr same) = subst (λ d. Sees m n d (record { differs = true; loose = found.loose })) same
              here

      -- a case in which both orders differ at loose
      pub seen_loose : (r : Refutation) → is_plain o.first.ending ≡ false →
          r.vars.values ≡ values_at c.vars (point_of at) → r.first ≡ values_at c.first (point_of at) →
          r.second ≡ values_at c.second (point_of at) →
          Seen m n (cases ++ c ∷ []) (record { differs = true; loose = Some r })
      unfolding this
      seen_loose r plain vars first second = record {
        each = λ d there. by d (Contains-push_cases cases c d there);
        firm = λ h. this;
        loose = record { difference = this; loose = plain; vars = vars; first = first; second = second };
      }
        where
          never : Some r ≡ None → ⊥
          never h = cc

          here : Sees m n c (record { differs = true; loose = Some r })
          here = record {
            both = o;
            told = told;
            firm = λ h. absurd (true≢false h);
            loose = λ h k.
                absurd (never h);
          }

          by : (d : Case) → Contains cases d ⊎ (c ≡ d) →
              Sees m n d (record { differs = true; loose = Some r })
          by d (inl there) = after_difference d (Some r) (λ h. absurd (never h)) (seen.each d there)
          by d (inr same) = subst (λ d. Sees m n d (record { differs = true; loose = Some r })) same here

  -- nothing is known over no cases
  pub seen_none : Seen m n [] (record { differs = false; loose = None })
  seen_none = record {
    each = λ c there. absurd (omega (arith, there.1));
    firm = λ h. absurd (true≢false (sym h));
    loose = tt;
  }
