-- Which check refuses a tree.
use Rattle.std.specs.Prelude.{◌≡◌, ℕ, List, [], Err}
use Rattle.std.proofs.Common.{subst, sym, ap, ◌∙◌, inl, inr}
use Rattle.seuss_program.specs.declared.tree.Tree.{Tree}
use Rattle.box_types.specs.declared.checking.Check.{Check}
use Rattle.box_types.specs.declared.checking.Check.TheVariants as C
use Rattle.box_types.specs.declared.refusal.CheckRefusal.{CheckRefusal}
use Rattle.box_types.specs.Answers.{BeginsWith}
use Rattle.box_types.specs.BuiltInTexts.{with_built_ins}
use Rattle.box_types.specs.Faults.{test_of}
use Rattle.box_types.specs.Refusals.{IsAccepted, Refuses, FirstFails, refusal_of}
use Rattle.box_types.specs.Walks.{found}

-- what a check finds in a text that has the built-in cats in front
abbrev pub found_by : Check → Tree → List ℕ
found_by check whole = found (test_of check) whole

module _ (tree whole : Tree) (h : whole ≡ with_built_ins tree) where
  -- a check that finds nothing in the whole text finds nothing in the tree
  clear : (check : Check) → found_by check whole ≡ [] → found_by check (with_built_ins tree) ≡ []
  clear check none = sym (ap (found_by check) h) ∙ none

  pub accepted : found_by C.Twice whole ≡ [] → found_by C.Unknown whole ≡ [] →
      found_by C.WrongKind whole ≡ [] → found_by C.WrongType whole ≡ [] →
      found_by C.Arguments whole ≡ [] → found_by C.Count whole ≡ [] → IsAccepted tree
  accepted t u k y a c = record {
    twice = clear C.Twice t;
    unknown = clear C.Unknown u;
    wrong_kind = clear C.WrongKind k;
    wrong_type = clear C.WrongType y;
    arguments = clear C.Arguments a;
    count = clear C.Count c;
  }

  module _ (r : CheckRefusal) where
    refuses : (check : Check) →
        ((l : ℕ) → BeginsWith (found_by check (with_built_ins tree)) l →
        FirstFails (refusal_of check l) tree) →
        Refuses check (Err r) (found_by check (with_built_ins tree)) → FirstFails r tree
    refuses check first (inl none) = subst (λ q. FirstFails q tree) (sym none) tt
    refuses check first (inr found) = subst (λ q. FirstFails q tree) (sym found.1) (first found.0 found.2)

    moved : (check : Check) → Refuses check (Err r) (found_by check whole) →
        Refuses check (Err r) (found_by check (with_built_ins tree))
    moved check found = subst (λ v. Refuses check (Err r) (found_by check v)) h found

    pub twice_refuses : Refuses C.Twice (Err r) (found_by C.Twice whole) → FirstFails r tree
    twice_refuses found = refuses C.Twice (λ l b. b) (moved C.Twice found)

    pub unknown_refuses : found_by C.Twice whole ≡ [] →
        Refuses C.Unknown (Err r) (found_by C.Unknown whole) → FirstFails r tree
    unknown_refuses t found = refuses C.Unknown (λ l b. (clear C.Twice t, b)) (moved C.Unknown found)

    pub kind_refuses : found_by C.Twice whole ≡ [] → found_by C.Unknown whole ≡ [] →
        Refuses C.WrongKind (Err r) (found_by C.WrongKind whole) → FirstFails r tree
    kind_refuses t u found = refuses C.WrongKind (λ l b. (clear C.Twice t, clear C.Unknown u, b))
        (moved C.WrongKind found)

    pub type_refuses : found_by C.Twice whole ≡ [] → found_by C.Unknown whole ≡ [] →
        found_by C.WrongKind whole ≡ [] →
        Refuses C.WrongType (Err r) (found_by C.WrongType whole) → FirstFails r tree
    type_refuses t u k found = refuses C.WrongType
        (λ l b. (clear C.Twice t, clear C.Unknown u, clear C.WrongKind k, b)) (moved C.WrongType found)

    pub arguments_refuse : found_by C.Twice whole ≡ [] → found_by C.Unknown whole ≡ [] →
        found_by C.WrongKind whole ≡ [] → found_by C.WrongType whole ≡ [] →
        Refuses C.Arguments (Err r) (found_by C.Arguments whole) → FirstFails r tree
    arguments_refuse t u k y found =
        refuses C.Arguments (λ l b.
        (clear C.Twice t, clear C.Unknown u, clear C.WrongKind k, clear C.WrongType y, b))
        (moved C.Arguments found)

    pub count_refuses : found_by C.Twice whole ≡ [] → found_by C.Unknown whole ≡ [] →
        found_by C.WrongKind whole ≡ [] → found_by C.WrongType whole ≡ [] →
        found_by C.Arguments whole ≡ [] → Refuses C.Count (Err r) (found_by C.Count whole) →
        FirstFails r tree
    count_refuses t u k y a found =
        refuses C.Count (λ l b. (
          clear C.Twice t,
          clear C.Unknown u,
          clear C.WrongKind k,
          clear C.WrongType y,
          clear C.Arguments
              a,
          b,
        )) (moved C.Count found)

-- how the checks end
pub ruleset judging =
    (twice_refuses, unknown_refuses, kind_refuses, type_refuses, arguments_refuse, count_refuses, accepted)
