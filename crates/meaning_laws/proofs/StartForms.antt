-- A checked program starts in a state of its form.
use Rattle.std.proofs.Common.{◌≡◌, ℕ, zero, suc, ℤ, Bool, true, false, if◌then◌else◌, List, [], ◌∷◌, map}
use Rattle.std.proofs.Common.{length, All, Option, None, Some, option_and_then, refl, ap, ◌∙◌, subst, arith}
use Rattle.std.proofs.lemmas.List.Elements.{All-map}
use Rattle.std.specs.Prelude.{slice_get, slice_index_or, ◌==◌}
use Rattle.seuss_program.specs.declared.program.Program.{Program}
use Rattle.seuss_program.specs.declared.program.BoxInfo.{BoxInfo}
use Rattle.seuss_program.specs.declared.tree.Ref.{Ref}
use Rattle.seuss_program.specs.declared.tree.Kind.{Kind}
use Rattle.seuss_program.specs.declared.tree.Kind.TheVariants as K
use Rattle.seuss_program.specs.declared.tree.Cat.{Cat}
use Rattle.seuss_program.specs.declared.tree.Var.{Var}
use Rattle.seuss_program.specs.declared.state.Value.{Value}
use Rattle.seuss_program.specs.declared.state.Value.TheVariants as V
use Rattle.seuss_program.specs.declared.state.Vars.{Vars}
use Rattle.seuss_program.specs.Programs.{vars_of}
use Rattle.seuss_program.specs.Values.{HasSize}
use Rattle.seuss_program.specs.Initials.{initial, initial_boxes, starts_in, starts_of, with_input}
use Rattle.seuss_program.specs.Keeping.{Keeps, KeepsCat, HasForm, AreOf, kind_of, vars_in, var_kinds}
use Rattle.meaning_laws.proofs.CalledProcedures.{all-at, none-are}
use Rattle.meaning_laws.proofs.FittingNumbers.{Fits}
use Rattle.meaning_laws.proofs.KeptForms.{kinds-set}

-- the start values of variables have their kinds
starts-kinds : (vars : List Var) → All (λ (v : Var). kind_of v.start ≡ v.kind) vars →
    map kind_of (map (λ (v : Var). v.start) vars) ≡ var_kinds vars
starts-kinds [] all = refl
starts-kinds (v ∷ vars) all =
    ap (λ k. k ∷ map kind_of (map (λ (v : Var). v.start) vars))
    (all-at (λ (v : Var). kind_of v.start ≡ v.kind) (v ∷ vars) 0 v refl all)
    ∙ ap (λ ks. v.kind ∷ ks) (starts-kinds vars (λ k d less. all (suc k) d (omega (arith, less))))

-- and the start values of a cat have numbers of 64 bits
starts-are : (cats : List (Cat Ref)) (c : Cat Ref) → KeepsCat cats c →
    AreOf (map (λ (v : Var). v.start) c.vars) (var_kinds c.vars)
starts-are cats c kept = record {
  kinds = starts-kinds c.vars kept.starts;
  sizes = All-map HasSize (λ (v : Var). v.start) c.vars kept.sizes;
}

module _ (cats : List (Cat Ref)) (kept : All (KeepsCat cats) cats) (input : List ℤ) (small : All Fits input)
    (sequence : vars_in (slice_get cats 0) ≡ K.Seq ∷ []) where
  -- the start values of a cat have the kinds of its variables
  starts-in : (o : Option (Cat Ref)) (n : ℕ) → slice_get cats n ≡ o → AreOf (starts_in o) (vars_in o)
  starts-in None n is = none-are
  starts-in (Some c) n is = starts-are cats c (all-at (KeepsCat cats) cats n c is kept)

  -- the start values of a box have the kinds of its variables
  starts-of : (b : BoxInfo) → AreOf (starts_of cats b).values (vars_in (slice_get cats b.cat))
  starts-of b = starts-in (slice_get cats b.cat) b.cat refl

  -- the box of the input has the input in its variable
  input-of : (b : BoxInfo) → b.cat ≡ 0 →
      AreOf (with_input input (starts_of cats b)).values (vars_in (slice_get cats b.cat))
  input-of b is =
      let kinds : vars_in (slice_get cats b.cat) ≡ K.Seq ∷ [] =
      ap (λ n. vars_in (slice_get cats n)) is ∙ sequence in
      kinds-set (starts_of cats b).values (vars_in (slice_get cats b.cat)) 0 K.Seq (V.Seq input)
      (starts-of b) (ap (λ ks. slice_get ks 0) kinds) (refl, small)

  -- the variables of the box at a place
  abbrev kinds_at : Option BoxInfo → List Kind
  kinds_at None = []
  kinds_at (Some b) = vars_in (slice_get cats b.cat)

  -- the values of the box of this number
  abbrev values_at : List Vars → ℕ → List Value
  values_at vars n = (slice_index_or vars n (record { values = [] })).values

  -- boxes with their start values have the kinds of their variables
  plain-boxes : (boxes : List BoxInfo) (n : ℕ) →
      AreOf (values_at (map (starts_of cats) boxes) n) (kinds_at (slice_get boxes n))
  plain-boxes [] n = none-are
  plain-boxes (b ∷ bs) zero = starts-of b
  plain-boxes (b ∷ bs) (suc n) = plain-boxes bs n

  -- boxes as they start, with the input, have the kinds of their variables
  boxes-start : (boxes : List BoxInfo) (n : ℕ) →
      AreOf (values_at (initial_boxes cats input boxes) n) (kinds_at (slice_get boxes n))
  boxes-start [] n = none-are
  boxes-start (b ∷ bs) n = by n (b.cat == 0) refl (λ m. boxes-start bs m)
    where
      by : (n : ℕ) (t : Bool) → (b.cat == 0) ≡ t →
          ((m : ℕ) → AreOf (values_at (initial_boxes cats input bs) m) (kinds_at (slice_get bs m))) →
          AreOf (values_at
          (if t then with_input input (starts_of cats b) ∷ map
          (starts_of cats) bs else starts_of cats b ∷ initial_boxes cats input bs) n)
          (kinds_at (slice_get (b ∷ bs) n))
      by zero true e rec = input-of b (grind (arith, e))
      by (suc n) true e rec = plain-boxes bs n
      by zero false e rec = starts-of b
      by (suc n) false e rec = rec n

  -- there is one for each box
  boxes-count : (boxes : List BoxInfo) → length (initial_boxes cats input boxes) ≡ length boxes
  boxes-count [] = refl
  boxes-count (b ∷ bs) = by (b.cat == 0) (boxes-count bs)
    where
      plain-count : (bs : List BoxInfo) → length (map (starts_of cats) bs) ≡ length bs
      plain-count [] = refl
      plain-count (x ∷ bs) = ap suc (plain-count bs)

      by : (t : Bool) → length (initial_boxes cats input bs) ≡ length bs →
          length (if t then with_input input (starts_of cats b) ∷ map
          (starts_of cats) bs else starts_of cats b ∷ initial_boxes cats input bs) ≡ suc (length bs)
      by true rest = ap suc (plain-count bs)
      by false rest = ap suc rest

-- the first state of a checked program has its form
pub start-form : (p : Program) (input : List ℤ) → Keeps p → All Fits input → HasForm p (initial p input)
start-form p input keeps small = record {
  count = boxes-count p.cats keeps.cats input small keeps.input p.boxes;
  values =
      λ box less.
      subst (AreOf (vars_of (initial p input) box)) (kinds-are (slice_get p.boxes box))
      (boxes-start p.cats keeps.cats input small keeps.input p.boxes box);
}
  where
    kinds-are : (o : Option BoxInfo) →
        kinds_at p.cats keeps.cats input small keeps.input o
        ≡ vars_in (option_and_then (λ (b : BoxInfo). slice_get p.cats b.cat) o)
    kinds-are None = refl
    kinds-are (Some b) = refl
