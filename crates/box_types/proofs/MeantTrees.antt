-- A text that passes the checks stands for its program.
use Rattle.std.specs.Prelude.{◌≡◌, ℕ, false, not, List, [], Option, Some}
use Rattle.std.specs.Prelude.{unwrap_or}
use Rattle.std.proofs.Common.{refl, sym, ap, subst}
use Rattle.seuss_program.specs.declared.tree.Name.{Name}
use Rattle.seuss_program.specs.declared.tree.Ref.TheVariants as R
use Rattle.seuss_program.specs.declared.tree.Var.{Var}
use Rattle.seuss_program.specs.declared.tree.Given.{Given}
use Rattle.seuss_program.specs.declared.tree.Proc.{Proc}
use Rattle.seuss_program.specs.declared.tree.Hint.{Hint}
use Rattle.seuss_program.specs.declared.tree.Semi.{Semi}
use Rattle.seuss_program.specs.declared.tree.Cat.{Cat}
use Rattle.seuss_program.specs.declared.tree.BoxDecl.{BoxDecl}
use Rattle.seuss_program.specs.declared.tree.Tree.{Tree}
use Rattle.box_types.specs.declared.scopes.Scope.{Scope}
use Rattle.box_types.specs.declared.scopes.Meaning.{Meaning}
use Rattle.box_types.specs.Scopes.{same, number_of, meaning_in}
use Rattle.box_types.specs.BuiltInTexts.{with_built_ins}
use Rattle.box_types.specs.Walks as W
use Rattle.box_types.specs.Walks.{Test, GivenName, GivenCat, VarName, CatName, First, Second, HintName}
use Rattle.box_types.specs.Walks.{BoxName, BoxCat, BoxGiven}
use Rattle.box_types.specs.Twice.{has_name, twice_at}
use Rattle.box_types.specs.Unknown.{is_nothing, unknown_at}
use Rattle.box_types.specs.WrongKind.{is_action, is_not_total, is_no_method, has_no_hint, kind_at}
use Rattle.box_types.specs.Refusals.{IsAccepted}
use Rattle.box_types.specs.Namings as N
use Rattle.box_types.specs.Namings.{ref_of}
use Rattle.box_types.specs.Meanings.{IsCat, IsBox, HintStands, SemiStands, GivenStands}
use Rattle.box_types.specs.Meanings.{ProcStands, CatStands, BoxStands, Stands}
use Rattle.box_types.proofs.OwnNames.{none_first, none_second, no_failure}
use Rattle.box_types.proofs.FirstNames.{is_first, any_number}
use Rattle.box_types.proofs.MeantNames.{InCat, AVar, AGiven, AProc, Nowhere, in_cat}
use Rattle.box_types.proofs.MeantCalls.{KnownCat, known_cat, KnownGivens, method_at}
use Rattle.box_types.proofs.MeantForms.{procedure_stands}
use Rattle.box_types.proofs.Zips.{numbered_zip, numbered_zip_of_three, walked_zip, numbered_get}

-- a name that a hint may have is a variable
hinted : (own : Cat Name) (name : Name) (m : Meaning) → InCat own name m → is_nothing m ≡ false →
    has_no_hint m ≡ false →
    (n : ℕ) × (ref_of m ≡ R.Var n) × (number_of (λ (v : Var). v.name) own.vars name ≡ Some n)
hinted own name _ (AVar n kind is) known hint = (n, refl, is)
hinted own name _ (AGiven n is) known hint = absurd (cc)
hinted own name _ (AProc n is) known hint = absurd (cc)
hinted own name _ Nowhere known hint = absurd (cc)

module _ (cats : List (Cat Name)) where
  module _ (own : Cat Name) where
    -- a hint stands for itself with the number of its variable
    hint_stands : (s : Semi Name) (n : ℕ) (h : Hint Name) → unknown_at (HintName own s n h) ≡ [] →
        kind_at (HintName own s n h) ≡ [] → HintStands own h (N.hint own h)
    hint_stands s n h known right =
        let m : Meaning = meaning_in own h.name in
        let var = hinted own h.name m (in_cat own h.name) (no_failure (is_nothing m) h.name.line known)
        (no_failure (has_no_hint m) h.name.line right) in
        record {
          front = refl;
          depth = refl;
          line = refl;
          number = var.0;
          name = var.1;
          var = (is_first (λ (v : Var). v.name) own.vars h.name var.0 var.2).0;
        }

    -- a certificate stands for itself with numbers
    semi_stands : (n : ℕ) (s : Semi Name) → W.semi unknown_at cats own n s ≡ [] →
        W.semi kind_at cats own n s ≡ [] → SemiStands own s (N.semi own s)
    semi_stands n s known right =
        let m : Meaning = meaning_in own s.first in
        let k : Meaning = meaning_in own s.second in
        let known_rest = none_second (unknown_at (First own n s)) _ known in
        let right_rest = none_second (kind_at (First own n s)) _ right in
        let first = method_at is_action own s.first m (in_cat own s.first)
        (no_failure (is_nothing m) s.first.line (none_first (unknown_at (First own n s)) _ known))
        (no_failure (is_no_method is_action own m) s.first.line
        (none_first (kind_at (First own n s)) _ right)) in
        let second = method_at is_not_total own s.second k (in_cat own s.second)
        (no_failure (is_nothing k) s.second.line
        (none_first (unknown_at (Second own s.second)) _ known_rest))
        (no_failure (is_no_method is_not_total own k) s.second.line
        (none_first (kind_at (Second own s.second)) _ right_rest)) in
        record {
          line = refl;
          number = first.0;
          first = ap ref_of first.1;
          of_first = (is_first (λ (q : Proc Name). q.name) own.procs s.first first.0 first.2).0;
          other = second.0;
          second = ap ref_of second.1;
          of_second = (is_first (λ (q : Proc Name). q.name) own.procs s.second second.0 second.2).0;
          hints = numbered_zip (HintStands own) (N.hint own) (W.hint unknown_at cats own s)
              (W.hint kind_at cats own s) (hint_stands s) 0 s.hints
              (none_second (unknown_at (Second own s.second)) _ known_rest)
              (none_second (kind_at (Second own s.second)) _ right_rest);
        }

    -- the cat of a given box is known
    given_known : (n : ℕ) (g : Given Name) → W.given unknown_at cats own n g ≡ [] → KnownCat cats g.cat
    given_known n g known = known_cat cats g.cat (none_second (unknown_at (GivenName own n g.name)) _ known)

    -- a given box stands for itself with the number of its cat
    given_stands : (n : ℕ) (g : Given Name) → W.given unknown_at cats own n g ≡ [] →
        W.given kind_at cats own n g ≡ [] → GivenStands cats g (N.given cats g)
    given_stands n g known right =
        let cat : KnownCat cats g.cat = given_known n g known in
        record { name = refl; number = cat.number; cat = ap R.Cat cat.numbered; of_cat = cat.first }

    -- the cats of all given boxes are known
    givens_known : W.numbered (W.given unknown_at cats own) 0 own.given ≡ [] → KnownGivens cats own
    givens_known known = record {
      known = λ n g there.
          let at = numbered_get (W.given unknown_at cats own) 0 own.given known n g there in
          given_known at.0 g at.1;
    }

  -- a cat at which three checks find nothing stands for itself with numbers
  cat_stands : (n : ℕ) (own : Cat Name) → W.cat unknown_at cats n own ≡ [] → W.cat kind_at cats n own ≡ [] →
      W.cat twice_at cats n own ≡ [] →
      CatStands cats own (N.cat cats own)
  cat_stands n own known right own_names =
      let start : Scope = record { visible = []; next = 0; earlier = [] } in
      let known0 = none_second (unknown_at (CatName cats n own.name)) _ known in
      let right0 = none_second (kind_at (CatName cats n own.name)) _ right in
      let known_given = none_first (W.numbered (W.given unknown_at cats own) 0 own.given) _ known0 in
      let right_given = none_first (W.numbered (W.given kind_at cats own) 0 own.given) _ right0 in
      let known1 = none_second (W.numbered (W.given unknown_at cats own) 0 own.given) _ known0 in
      let right1 = none_second (W.numbered (W.given kind_at cats own) 0 own.given) _ right0 in
      let known2 = none_second (W.numbered (W.variable unknown_at cats own) 0 own.vars) _ known1 in
      let right2 = none_second (W.numbered (W.variable kind_at cats own) 0 own.vars) _ right1 in
      let own0 = none_second (twice_at (CatName cats n own.name)) _ own_names in
      let own1 = none_second (W.numbered (W.given twice_at cats own) 0 own.given) _ own0 in
      let own2 = none_second (W.numbered (W.variable twice_at cats own) 0 own.vars) _ own1 in
      let givens : KnownGivens cats own = givens_known own known_given in
      record {
        name = refl;
        vars = refl;
        given = numbered_zip (GivenStands cats) (N.given cats) (W.given unknown_at cats own)
            (W.given kind_at cats own) (given_stands own) 0 own.given known_given right_given;
        procs = walked_zip (ProcStands cats own) (N.procedure cats own) (W.procedure unknown_at cats own)
            (W.procedure kind_at cats own) (W.procedure twice_at cats own)
            (procedure_stands cats own givens) 0 own.procs start start start
            (none_first (W.procedures unknown_at cats own) _ known2)
            (none_first (W.procedures kind_at cats own) _ right2)
            (none_first (W.procedures twice_at cats own) _ own2);
        semis = numbered_zip (SemiStands own) (N.semi own) (W.semi unknown_at cats own)
            (W.semi kind_at cats own) (semi_stands own) 0 own.semis
            (none_second (W.procedures unknown_at cats own) _ known2)
            (none_second (W.procedures kind_at cats own) _ right2);
      }

  module _ (boxes : List BoxDecl) where
    -- a box that a box is given has a number
    given_box_stands : (b : BoxDecl) (n : ℕ) (name : Name) → unknown_at (BoxGiven cats boxes b n name) ≡ [] →
        kind_at (BoxGiven cats boxes b n name) ≡ [] → IsBox boxes (N.box_number boxes name) name
    given_box_stands b n name known right =
        let at = any_number (λ (a : BoxDecl). same a.name name) 0 boxes
        (no_failure (not (has_name (λ (a : BoxDecl). a.name) boxes name)) name.line known) in
        subst (λ k. IsBox boxes k name) (sym (ap (λ (o : Option ℕ). unwrap_or o 0) at.1))
        (is_first (λ (a : BoxDecl). a.name) boxes name at.0 at.1).0

    -- a box stands for itself with numbers
    box_stands : (n : ℕ) (b : BoxDecl) → W.box unknown_at cats boxes n b ≡ [] →
        W.box kind_at cats boxes n b ≡ [] → BoxStands cats boxes b (N.box_info cats boxes b)
    box_stands n b known right =
        let known0 = none_second (unknown_at (BoxName cats boxes n b)) _ known in
        let right0 = none_second (kind_at (BoxName cats boxes n b)) _ right in
        let cat : KnownCat cats b.cat =
        known_cat cats b.cat (none_first (unknown_at (BoxCat cats b)) _ known0) in
        record {
          name = refl;
          cat = subst (λ k. IsCat cats k b.cat) (sym cat.numbered) cat.first;
          given = numbered_zip (λ name number. IsBox boxes number name) (N.box_number boxes)
              (W.box_given unknown_at cats boxes b) (W.box_given kind_at cats boxes b) (given_box_stands b) 0
              b.given (none_second (unknown_at (BoxCat cats b)) _ known0)
              (none_second (kind_at (BoxCat cats b)) _ right0);
        }

-- a text that passes the checks stands for its program
pub tree_stands : (tree : Tree) → IsAccepted tree → Stands tree (N.named tree)
tree_stands tree accepted =
    let cats : List (Cat Name) = (with_built_ins tree).cats in
    let known = accepted.unknown in
    let right = accepted.wrong_kind in
    record {
      cats = numbered_zip_of_three (CatStands cats) (N.cat cats) (W.cat unknown_at cats)
          (W.cat kind_at cats) (W.cat twice_at cats)
          (cat_stands cats) 0 cats (none_first (W.numbered (W.cat unknown_at cats) 0 cats) _ known)
          (none_first (W.numbered (W.cat kind_at cats) 0 cats) _ right)
          (none_first (W.numbered (W.cat twice_at cats) 0 cats) _ accepted.twice);
      boxes = numbered_zip (BoxStands cats tree.boxes) (N.box_info cats tree.boxes)
          (W.box unknown_at cats tree.boxes) (W.box kind_at cats tree.boxes) (box_stands cats tree.boxes) 0
          tree.boxes (none_second (W.numbered (W.cat unknown_at cats) 0 cats) _ known)
          (none_second (W.numbered (W.cat kind_at cats) 0 cats) _ right);
      actions = refl;
    }
