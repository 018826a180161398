-- Where the code and the text of a procedure stand, and what a call of a checked program goes to.
use Rattle.std.proofs.Common.{◌≡◌, ℕ, zero, suc, ◌<◌, IsTrue, List, [], ◌∷◌, map}
use Rattle.std.proofs.Common.{Option, None, Some, All, option_and_then, refl, sym, ap, ◌∙◌, subst, arith}
use Rattle.std.proofs.Common.{true≢false}
use Rattle.std.specs.Prelude.{slice_get, option_map}
use Rattle.std.proofs.lemmas.Option.{slice_get_within, get_or_from_slice_get}
use Rattle.seuss_program.specs.declared.program.Program.{Program}
use Rattle.seuss_program.specs.declared.program.BoxInfo.{BoxInfo}
use Rattle.seuss_program.specs.declared.tree.Ref.{Ref}
use Rattle.seuss_program.specs.declared.tree.Ref.TheVariants as R
use Rattle.seuss_program.specs.declared.tree.Call.{Call}
use Rattle.seuss_program.specs.declared.tree.Cat.{Cat}
use Rattle.seuss_program.specs.declared.tree.Given.{Given}
use Rattle.seuss_program.specs.declared.tree.Proc.{Proc}
use Rattle.seuss_program.specs.Programs.{procedure_of, level_of, level_in, target_of, given_in, method_of}
use Rattle.seuss_program.specs.Keeping.{Scope, scope_of, Keeps, KeepsBox, KeepsCat, KeepsProcedure}
use Rattle.seuss_program.specs.Keeping.{given_fit, is_box_of, above, given_cat, cat_at, method_at, called}
use Rattle.method_code.specs.Codes.{compiled, method_code, number_of, given_number}
use Rattle.method_code.proofs.NumberLemmas.{code-found}
use Rattle.method_code.proofs.Simulation.{and_left, and_right}

-- what holds of all items holds of one
pub get_all : {A : Type 0} (P : A → Type 0) (xs : List A) (n : ℕ) (x : A) → slice_get xs n ≡ Some x →
    All P xs → P x
get_all P xs n x h all = subst P (get_or_from_slice_get xs n x x h) (all n x (slice_get_within xs n x h))

-- A procedure of a box stands in the cat of the box.
pub record Stands (p : Program) (box number : ℕ) (q : Proc Ref) : Type 0 where
  pub info : BoxInfo
  pub cat : Cat Ref
  pub box_there : slice_get p.boxes box ≡ Some info
  pub cat_there : slice_get p.cats info.cat ≡ Some cat
  pub there : slice_get cat.procs number ≡ Some q

-- a procedure of a box stands in the cat of the box
pub stands : (p : Program) (box number : ℕ) (q : Proc Ref) → procedure_of p box number ≡ Some q →
    Stands p box number q
stands p box number q h = in_box (slice_get p.boxes box) refl h
  where
    in_cat : (b : BoxInfo) → slice_get p.boxes box ≡ Some b → (o : Option (Cat Ref)) →
        slice_get p.cats b.cat ≡ o → option_and_then (λ (c : Cat Ref). slice_get c.procs number) o
        ≡ Some q → Stands p box number q
    in_cat b eb None ec h = absurd (none_is h)
      where
        none_is : None ≡ Some q → ⊥
        none_is h = cc
    in_cat b eb (Some c) ec h = record { info = b; cat = c; box_there = eb; cat_there = ec; there = h }

    in_box : (o : Option BoxInfo) → slice_get p.boxes box ≡ o →
        option_and_then (λ (c : Cat Ref). slice_get c.procs number)
        (option_and_then (λ (b : BoxInfo). slice_get p.cats b.cat) o) ≡ Some q → Stands p box number q
    in_box None eb h = absurd (none_is h)
      where
        none_is : None ≡ Some q → ⊥
        none_is h = cc
    in_box (Some b) eb h = in_cat b eb (slice_get p.cats b.cat) refl h

-- the code of a procedure stands at the procedure's number
pub coded : (p : Program) (box number : ℕ) (q : Proc Ref) → procedure_of p box number ≡ Some q →
    slice_get (compiled p) (number_of p box number) ≡ Some (method_code q)
coded p box number q h =
    code-found p box number ∙ ap (λ (o : Option (Proc Ref)). option_map method_code o) h

-- where there is no procedure, nothing stands at its number
pub uncoded : (p : Program) (box number : ℕ) → procedure_of p box number ≡ None →
    slice_get (compiled p) (number_of p box number) ≡ None
uncoded p box number h =
    code-found p box number ∙ ap (λ (o : Option (Proc Ref)). option_map method_code o) h

-- What a call of a checked program goes to: a procedure of a box that was given, which is of a lower
-- level.
pub record CallsBelow (p : Program) (box : ℕ) (call : Call Ref) (q : Proc Ref) : Type 0 where
  pub given : call.target ≡ R.Given (given_number call.target)
  pub below : level_of p (target_of p box call.target) < level_of p box
  pub there : procedure_of p (target_of p box call.target) (method_of call.method) ≡ Some q

-- the cat of a given box
record GivenCat (s : Scope) (name : Ref) (c : Cat Ref) : Type 0 where
  number : ℕ
  cat : ℕ
  given : Given Ref
  named : name ≡ R.Given number
  given_there : slice_get s.given number ≡ Some given
  cat_named : given.cat ≡ R.Cat cat
  cat_there : slice_get s.cats cat ≡ Some c

-- nothing is not something
none_some : {A : Type 0} (x : A) → None ≡ Some x → ⊥
none_some x h = cc

-- a name of a cat is that of a cat that is there
cat_at_is : (cats : List (Cat Ref)) (name : Ref) (c : Cat Ref) → cat_at cats name ≡ Some c →
    (k : ℕ) × (name ≡ R.Cat k) × (slice_get cats k ≡ Some c)
cat_at_is cats (R.Cat k) c h = (k, refl, h)
cat_at_is cats (R.Var k) c h = absurd (none_some c h)
cat_at_is cats (R.Slot k) c h = absurd (none_some c h)
cat_at_is cats (R.Given k) c h = absurd (none_some c h)
cat_at_is cats (R.Method k) c h = absurd (none_some c h)

-- the cat of a given box, by its name
given_cat_is : (s : Scope) (name : Ref) (c : Cat Ref) → given_cat s name ≡ Some c → GivenCat s name c
given_cat_is s (R.Given n) c h = by (slice_get s.given n) refl h
  where
    by : (o : Option (Given Ref)) → slice_get s.given n ≡ o →
        option_and_then (λ (g : Given Ref). cat_at s.cats g.cat) o ≡ Some c → GivenCat s (R.Given n) c
    by None e h = absurd (none_some c h)
    by (Some g) e h = let at = cat_at_is s.cats g.cat c h in
        record {
          number = n;
          cat = at.0;
          given = g;
          named = refl;
          given_there = e;
          cat_named = at.1;
          cat_there = at.2;
        }
given_cat_is s (R.Var k) c h = absurd (none_some c h)
given_cat_is s (R.Slot k) c h = absurd (none_some c h)
given_cat_is s (R.Method k) c h = absurd (none_some c h)
given_cat_is s (R.Cat k) c h = absurd (none_some c h)

-- a method of a cat, by its name
method_at_is : (name : Ref) (c : Cat Ref) (q : Proc Ref) → method_at name c ≡ Some q →
    slice_get c.procs (method_of name) ≡ Some q
method_at_is (R.Method k) c q h = h
method_at_is (R.Var k) c q h = absurd (none_some q h)
method_at_is (R.Slot k) c q h = absurd (none_some q h)
method_at_is (R.Given k) c q h = absurd (none_some q h)
method_at_is (R.Cat k) c q h = absurd (none_some q h)

-- what a call names
called_is : (s : Scope) (call : Call Ref) (q : Proc Ref) → called s call ≡ Some q →
    (c : Cat Ref) × GivenCat s call.target c × (slice_get c.procs (method_of call.method) ≡ Some q)
called_is s call q h = by (given_cat s call.target) refl h
  where
    by : (o : Option (Cat Ref)) → given_cat s call.target ≡ o →
        option_and_then (method_at call.method) o ≡ Some q →
        (c : Cat Ref) × GivenCat s call.target c × (slice_get c.procs (method_of call.method) ≡ Some q)
    by None e h = absurd (none_some q h)
    by (Some c) e h = (c, given_cat_is s call.target c e, method_at_is call.method c q h)

-- the box that is given, with the cat that its cat declares
box_of_is : (o : Option BoxInfo) (k : ℕ) → IsTrue (is_box_of o (R.Cat k)) →
    (b : BoxInfo) × (o ≡ Some b) × (b.cat ≡ k)
box_of_is None k h = absurd (true≢false (sym h))
box_of_is (Some b) k h = (b, refl, grind (arith, h))

-- the box that is given fits what the cat declares
given_box : (boxes : List BoxInfo) (ns : List ℕ) (gs : List (Given Ref)) (n : ℕ) (g : Given Ref) →
    IsTrue (given_fit boxes ns gs) → slice_get gs n ≡ Some g →
    (t : ℕ) × (slice_get ns n ≡ Some t) × IsTrue (is_box_of (slice_get boxes t) g.cat)
given_box boxes [] [] n g h e = absurd (none_some g e)
given_box boxes [] (x ∷ gs) n g h e = absurd (true≢false (sym h))
given_box boxes (t ∷ ns) [] n g h e = absurd (none_some g e)
given_box boxes (t ∷ ns) (x ∷ gs) zero g h e = (
  t,
  refl,
  subst (λ (y : Given Ref). IsTrue (is_box_of (slice_get boxes t) y.cat)) (some_same e)
      (and_left (is_box_of (slice_get boxes t) x.cat) _ h),
)
  where
    some_same : Some x ≡ Some g → x ≡ g
    some_same h = cc
given_box boxes (t ∷ ns) (x ∷ gs) (suc n) g h e =
    given_box boxes ns gs n g (and_right (is_box_of (slice_get boxes t) x.cat) _ h) e

-- a number is below what is above all
below_above : (f : ℕ → ℕ) (ns : List ℕ) (n t : ℕ) → slice_get ns n ≡ Some t → f t < above (map f ns)
below_above f [] n t h = absurd (none_some t h)
below_above f (x ∷ ns) zero t h = let e : x ≡ t = cc in
    subst (λ y. f y < above (map f (x ∷ ns))) e (omega arith)
below_above f (x ∷ ns) (suc n) t h = let l = below_above f ns n t h in omega (arith, l)

module _ (p : Program) (keeps : Keeps p) (box number : ℕ) (q : Proc Ref) (at : Stands p box number q) where
  -- what the text of a procedure sees
  abbrev pub scope : Scope
  scope = scope_of p.cats at.cat q

  -- the procedure keeps what a checked one does
  pub keeps_procedure : KeepsProcedure p.cats at.cat q
  keeps_procedure = get_all (KeepsProcedure p.cats at.cat) at.cat.procs number q at.there
      (get_all (KeepsCat p.cats) p.cats at.info.cat at.cat at.cat_there keeps.cats).procs

  -- the box keeps what a checked one does
  keeps_box : KeepsBox p at.info
  keeps_box = get_all (KeepsBox p) p.boxes box at.info at.box_there keeps.boxes

  -- where a call goes
  pub calls_below : (call : Call Ref) (r : Proc Ref) → called scope call ≡ Some r → CallsBelow p box call r
  calls_below call r h =
      let found = called_is scope call r h in
      let g = found.1 in
      let same_cat : keeps_box.cat.0 ≡ at.cat = some_same (sym keeps_box.cat.1 ∙ at.cat_there) in
      let fit : IsTrue (given_fit p.boxes at.info.given at.cat.given) =
      subst (λ (c : Cat Ref). IsTrue (given_fit p.boxes at.info.given c.given)) same_cat keeps_box.cat.2
      in
      let t = given_box p.boxes at.info.given at.cat.given g.number g.given fit g.given_there in
      let b = box_of_is (slice_get p.boxes t.0) g.cat
      (subst (λ (n : Ref). IsTrue (is_box_of (slice_get p.boxes t.0) n)) g.cat_named t.2) in
      let target : target_of p box call.target ≡ t.0 =
      ap (target_of p box) g.named ∙
      (ap (λ (o : Option BoxInfo). given_in o g.number) at.box_there
      ∙ get_or_from_slice_get at.info.given g.number t.0 0 t.1) in
      let mine : level_of p box ≡ at.info.level = ap level_in at.box_there in
      record {
        given = subst (λ (n : Ref). n ≡ R.Given (given_number n)) (sym g.named) refl;
        below = subst (λ n. n < level_of p box) (sym (ap (level_of p) target))
            (subst (λ n. level_of p t.0 < n) (sym (mine ∙ keeps_box.level))
            (below_above (level_of p) at.info.given g.number t.0 t.1));
        there = ap (λ n. procedure_of p n (method_of call.method)) target
            ∙ (ap (λ (o : Option BoxInfo). option_and_then
            (λ (c : Cat Ref). slice_get c.procs (method_of call.method))
            (option_and_then (λ (b : BoxInfo). slice_get p.cats b.cat) o)) b.1
            ∙ (ap (λ k. option_and_then (λ (c : Cat Ref). slice_get c.procs (method_of call.method))
            (slice_get p.cats k)) b.2
            ∙ (ap (λ (o : Option (Cat Ref)). option_and_then
            (λ (c : Cat Ref). slice_get c.procs (method_of call.method)) o) g.cat_there ∙ found.2)));
      }
    where
      some_same : {A : Type 0} {x y : A} → Some x ≡ Some y → x ≡ y
      some_same h = cc
