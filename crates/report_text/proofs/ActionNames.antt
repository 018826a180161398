-- The names of an action's box and procedure tell it apart from the others of a program.
use Rattle.std.proofs.Common.{◌≡◌, ◌≢◌, ℕ, zero, suc, ◌+◌, ◌<◌, ◌≤◌, ◌⊎◌, inl, inr, Bool, true, false}
use Rattle.std.proofs.Common.{if◌then◌else◌, List, [], ◌∷◌, ◌++◌, get_or, Option, None, Some, refl, sym}
use Rattle.std.proofs.Common.{◌∙◌, ap, subst, arith}
use Rattle.std.specs.Prelude.{slice_get, AllPairs}
use Rattle.std.proofs.lemmas.Bool.{cases_order}
use Rattle.std.proofs.lemmas.Option.{slice_get_within, get_or_from_slice_get}
use Rattle.seuss_program.specs.declared.tree.Ref.{Ref}
use Rattle.seuss_program.specs.declared.tree.Cat.{Cat}
use Rattle.seuss_program.specs.declared.tree.Proc.{Proc}
use Rattle.seuss_program.specs.declared.program.Program.{Program}
use Rattle.seuss_program.specs.declared.program.BoxInfo.{BoxInfo}
use Rattle.seuss_program.specs.declared.program.ActionInfo.{ActionInfo}
use Rattle.seuss_program.specs.Programs.{procedure_of}
use Rattle.seuss_program.specs.Keeping.{Keeps, is_action, actions_among, actions_of, procedures_in}
use Rattle.seuss_program.specs.Reports.{box_name, proc_name}
use Rattle.report_text.specs.Names.{HasNamesInside, HasNames}
use Rattle.report_text.proofs.LineLemmas.{all_get}

-- what holds of each item and each later one holds of two that are found
pairs_get : {X : Type 0} (R : X → X → Type 0) (xs : List X) (i j : ℕ) (x y : X) → AllPairs R xs → i < j →
    slice_get xs i ≡ Some x → slice_get xs j ≡ Some y → R x y
pairs_get R xs i j x y all lt first second =
    let one = get_or_from_slice_get xs i x x first in
    let other = get_or_from_slice_get xs j y x second in
    let both = all i j x lt (slice_get_within xs j y second) in
    subst (λ z. R x z) other (subst (λ z. R z (get_or xs j x)) one both)

-- where no two items share a name, a name stands at one place
one_place : {X : Type 0} (name : X → List ℕ) (xs : List X) (i j : ℕ) (x y : X) →
    AllPairs (λ u v. name u ≢ name v) xs → slice_get xs i ≡ Some x → slice_get xs j ≡ Some y →
    name x ≡ name y → i ≡ j
one_place name xs i j x y differ first second same = elim (cases_order i j) [
  | inl e ↦ e
  | inr (inl lt) ↦ absurd (pairs_get (λ u v. name u ≢ name v) xs i j x y differ lt first second same)
  | inr (inr gt) ↦ absurd (pairs_get (λ u v. name u ≢ name v) xs j i y x differ gt second first (sym same))
]

-- what is found at the same place is the same
found_same : {X : Type 0} (xs : List X) (i j : ℕ) (x y : X) → i ≡ j → slice_get xs i ≡ Some x →
    slice_get xs j ≡ Some y → x ≡ y
found_same xs i j x y e first second = cc

-- the same procedure of the same box
same_parts : (a b : ActionInfo) → a.box_number ≡ b.box_number → a.procedure ≡ b.procedure → a ≡ b
same_parts a b box number = ap (λ n. made n a.procedure) box ∙ ap (λ n. made b.box_number n) number
  where
    made : ℕ → ℕ → ActionInfo
    made box number = record { box_number = box; procedure = number }

-- one procedure of one box doesn't come after another
abbrev Comes : ℕ → ℕ → ℕ → ℕ → Type 0
Comes box number other_box other = (box < other_box) ⊎ ((box ≡ other_box) × (number ≤ other))

-- what comes after something comes after all that comes before it
comes_on : (a i b j c k : ℕ) → Comes a i b j → Comes b j c k → Comes a i c k
comes_on a i b j c k (inl lt) (inl more) = inl (omega arith)
comes_on a i b j c k (inl lt) (inr more) = inl (omega arith)
comes_on a i b j c k (inr same) (inl more) = inl (omega arith)
comes_on a i b j c k (inr same) (inr more) = inr (omega arith, omega arith)

-- Actions of which this is so rise by box and procedure, and none is before this procedure of this box.
abbrev RiseFrom : (ActionInfo → Type 0) → ℕ → ℕ → List ActionInfo → Type 0
RiseFrom Is box number [] = Unit {0}
RiseFrom Is box number (a ∷ xs) =
    Comes box number a.box_number a.procedure × Is a × RiseFrom Is a.box_number (a.procedure + 1) xs

module _ (Is : ActionInfo → Type 0) where
  -- and none is before one that comes still earlier
  rise_sooner : (box number c k : ℕ) (xs : List ActionInfo) → Comes box number c k →
      RiseFrom Is c k xs → RiseFrom Is box number xs
  rise_sooner box number c k [] comes rise = rise
  rise_sooner box number c k (a ∷ xs) comes rise =
      (comes_on box number c k a.box_number a.procedure comes rise.0, rise.1, rise.2)

  -- what is so of an action that is found, and where it comes
  found_is : (box number i : ℕ) (a : ActionInfo) (xs : List ActionInfo) → RiseFrom Is box number xs →
      slice_get xs i ≡ Some a → Is a × Comes box number a.box_number a.procedure
  found_is box number i a [] rise there = cc
  found_is box number zero a (b ∷ xs) rise there =
      let P : ActionInfo → Type 0 = λ x. Is x × Comes box number x.box_number x.procedure in
      subst P (some_same there) (rise.1, rise.0)
    where
      some_same : Some b ≡ Some a → b ≡ a
      some_same e = cc
  found_is box number (suc i) a (b ∷ xs) rise there =
      let later = found_is b.box_number (b.procedure + 1) i a xs rise.2 there in (
        later.0,
        comes_on box number b.box_number (b.procedure + 1) a.box_number a.procedure
            (one_more rise.0) later.1,
      )
    where
      one_more : Comes box number b.box_number b.procedure → Comes box number b.box_number (b.procedure + 1)
      one_more (inl lt) = inl lt
      one_more (inr same) = inr (same.0, omega arith)

  -- the first action isn't found again after itself
  not_later : (i : ℕ) (a : ActionInfo) (xs : List ActionInfo) →
      RiseFrom Is a.box_number (a.procedure + 1) xs →
      slice_get xs i ≡ Some a → ⊥
  not_later i a xs rise there = by (found_is a.box_number (a.procedure + 1) i a xs rise there).1
    where
      by : Comes a.box_number (a.procedure + 1) a.box_number a.procedure → ⊥
      by (inl lt) = omega arith
      by (inr same) = omega arith

  -- an action stands at one place
  one_number : (box number i j : ℕ) (a : ActionInfo) (xs : List ActionInfo) → RiseFrom Is box number xs →
      slice_get xs i ≡ Some a → slice_get xs j ≡ Some a → i ≡ j
  one_number box number i j a [] rise there here = cc
  one_number box number zero zero a (b ∷ xs) rise there here = refl
  one_number box number zero (suc j) a (b ∷ xs) rise there here =
      absurd (not_later j b xs rise.2 (here ∙ sym there))
  one_number box number (suc i) zero a (b ∷ xs) rise there here =
      absurd (not_later i b xs rise.2 (there ∙ sym here))
  one_number box number (suc i) (suc j) a (b ∷ xs) rise there here =
      ap suc (one_number b.box_number (b.procedure + 1) i j a xs rise.2 there here)

  -- the actions among procedures, before others of later boxes
  among_rise : (box first : ℕ) (qs : List (Proc Ref)) (rest : List ActionInfo) →
      ((place number : ℕ) (q : Proc Ref) → slice_get qs place ≡ Some q → first + place ≡ number →
      Is (record { box_number = box; procedure = number })) →
      RiseFrom Is (box + 1) 0 rest → RiseFrom Is box first (actions_among box first qs ++ rest)
  among_rise box first [] rest each rise = rise_sooner box first (box + 1) 0 rest (inl (omega arith)) rise
  among_rise box first (q ∷ qs) rest each rise =
      by (is_action q.form) (among_rise box (first + 1) qs rest
      (λ place number r there at. each (suc place) number r there (omega arith)) rise)
    where
      by : (b : Bool) → RiseFrom Is box (first + 1) (actions_among box (first + 1) qs ++ rest) →
          RiseFrom Is box first ((if b then record { box_number = box; procedure = first }
          ∷ actions_among box (first + 1) qs else actions_among box (first + 1) qs) ++ rest)
      by true later = (inr (refl, omega arith), each 0 first q refl (omega arith), later)
      by false later = rise_sooner box first box (first + 1) (actions_among box (first + 1) qs ++ rest)
          (inr (refl, omega arith)) later

-- an action of a program: its box, the cat of the box, and its procedure
record IsListed (p : Program) (a : ActionInfo) : Type 0 where
  info : BoxInfo
  box_there : slice_get p.boxes a.box_number ≡ Some info
  cat : Cat Ref
  cat_there : slice_get p.cats info.cat ≡ Some cat
  procedure : Proc Ref
  procedure_there : slice_get cat.procs a.procedure ≡ Some procedure

module _ (p : Program) where
  -- a procedure of a box is listed
  listed : (box number : ℕ) (b : BoxInfo) (q : Proc Ref) → slice_get p.boxes box ≡ Some b →
      slice_get (procedures_in (slice_get p.cats b.cat)) number ≡ Some q →
      IsListed p (record { box_number = box; procedure = number })
  listed box number b q there here = by (slice_get p.cats b.cat) refl here
    where
      by : (found : Option (Cat Ref)) → slice_get p.cats b.cat ≡ found →
          slice_get (procedures_in found) number ≡ Some q →
          IsListed p (record { box_number = box; procedure = number })
      by None at inside = cc
      by (Some c) at inside = record {
        info = b;
        box_there = there;
        cat = c;
        cat_there = at;
        procedure = q;
        procedure_there = inside;
      }

  -- the actions of boxes of the program
  boxes_rise : (first : ℕ) (bs : List BoxInfo) →
      ((place number : ℕ) (b : BoxInfo) → slice_get bs place ≡ Some b → first + place ≡ number →
      slice_get p.boxes number ≡ Some b) →
      RiseFrom (IsListed p) first 0 (actions_of p.cats first bs)
  boxes_rise first [] each = tt
  boxes_rise first (b ∷ bs) each =
      among_rise (IsListed p) first 0 (procedures_in (slice_get p.cats b.cat))
      (actions_of p.cats (first + 1) bs)
      (λ place number q there at. listed first number b q (each 0 first b refl (omega arith))
      (moved place number q there at))
      (boxes_rise (first + 1) bs (λ place number c there at. each (suc place) number c there (omega arith)))
    where
      moved : (place number : ℕ) (q : Proc Ref) →
          slice_get (procedures_in (slice_get p.cats b.cat)) place ≡ Some q → 0 + place ≡ number →
          slice_get (procedures_in (slice_get p.cats b.cat)) number ≡ Some q
      moved place number q there at = let same : number ≡ place = omega arith in rw same there

  -- the actions of a program rise by box and procedure, and each is listed
  actions_rise : Keeps p → RiseFrom (IsListed p) 0 0 p.actions
  actions_rise keeps =
      let each : (place number : ℕ) (b : BoxInfo) → slice_get p.boxes place ≡ Some b → 0 + place ≡ number →
      slice_get p.boxes number ≡ Some b =
      λ place number b there at. let same : number ≡ place = omega arith in rw same there in
      subst (λ xs. RiseFrom (IsListed p) 0 0 xs) (sym keeps.actions) (boxes_rise 0 p.boxes each)

  -- the name of the box of a listed action
  box_text : (a : ActionInfo) → (is : IsListed p a) →
      box_name (slice_get p.boxes a.box_number) ≡ is.info.name.text
  box_text a is = rw is.box_there refl

  -- the name of the procedure of a listed action
  proc_text : (a : ActionInfo) → (is : IsListed p a) →
      proc_name (procedure_of p a.box_number a.procedure) ≡ is.procedure.name.text
  proc_text a is = rw (is.box_there, is.cat_there, is.procedure_there) refl

  -- Actions of the same names have the same number.
  pub same_action : Keeps p → HasNames p → (i j : ℕ) (a b : ActionInfo) → slice_get p.actions i ≡ Some a →
      slice_get p.actions j ≡ Some b →
      box_name (slice_get p.boxes a.box_number) ≡ box_name (slice_get p.boxes b.box_number) →
      proc_name (procedure_of p a.box_number a.procedure)
      ≡ proc_name (procedure_of p b.box_number b.procedure) →
      i ≡ j
  same_action keeps names i j a b there here boxes procs =
      let rise = actions_rise keeps in
      let one : IsListed p a = (found_is (IsListed p) 0 0 i a p.actions rise there).0 in
      let two : IsListed p b = (found_is (IsListed p) 0 0 j b p.actions rise here).0 in
      let same_box : a.box_number ≡ b.box_number =
      one_place (λ (x : BoxInfo). x.name.text) p.boxes a.box_number b.box_number one.info two.info
      names.boxes_differ one.box_there two.box_there (sym (box_text a one) ∙ (boxes ∙ box_text b two)) in
      let same_info = found_same p.boxes a.box_number b.box_number one.info two.info same_box one.box_there
      two.box_there in
      let same_cat = found_same p.cats one.info.cat two.info.cat one.cat two.cat
      (ap (λ (x : BoxInfo). x.cat) same_info) one.cat_there two.cat_there in
      let inside : slice_get one.cat.procs b.procedure ≡ Some two.procedure =
      subst (λ (c : Cat Ref). slice_get c.procs b.procedure ≡ Some two.procedure) (sym same_cat)
      two.procedure_there in
      let own : HasNamesInside one.cat =
      all_get HasNamesInside p.cats one.info.cat one.cat names.cats one.cat_there in
      let same_proc : a.procedure ≡ b.procedure =
      one_place (λ (q : Proc Ref). q.name.text) one.cat.procs a.procedure b.procedure one.procedure
      two.procedure
      own.procs_differ one.procedure_there inside (sym (proc_text a one) ∙ (procs ∙ proc_text b two)) in
      one_number (IsListed p) 0 0 i j a p.actions rise there
      (here ∙ ap (λ x. Some x) (sym (same_parts a b same_box same_proc)))
