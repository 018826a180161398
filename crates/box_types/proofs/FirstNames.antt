-- What a search by a name finds.
use Rattle.std.specs.Prelude.{◌≡◌, ℕ, zero, suc, ◌+◌, ◌<◌, Bool, true, false, not, ◌||◌, if◌then◌else◌}
use Rattle.std.specs.Prelude.{List, [], ◌∷◌, slice_get, None, Some, is_none}
use Rattle.std.specs.List.{find, list_any, position_from}
use Rattle.std.proofs.Common.{refl, ap, subst, ◌∙◌, inl, inr, arith}
use Rattle.std.proofs.lemmas.Bool.{or_parts}
use Rattle.std.proofs.lemmas.Slice.Eq.{bytes_eq-Decides}
use Rattle.seuss_program.specs.declared.tree.Name.{Name}
use Rattle.seuss_program.specs.Lines.{IsIn}
use Rattle.box_types.specs.Scopes.{same, named, number_of}
use Rattle.box_types.specs.Meanings.{IsFirst}
use Rattle.box_types.proofs.OwnNames.{texts_differ}

-- names that are the same have one text
pub texts_same : (a b : Name) → same a b ≡ true → a.text ≡ b.text
texts_same a b is = (bytes_eq-Decides a.text b.text).0 is

-- what is found passes the test and is an item
pub find_some : {X : Type 0} (test : X → Bool) (xs : List X) (x : X) → find test xs ≡ Some x →
    IsIn x xs × (test x ≡ true)
find_some test [] x h = absurd (cc)
find_some {X} test (y ∷ ys) x h = by (test y) refl h (find_some test ys x)
  where
    by : (t : Bool) → test y ≡ t → (if t then Some y else find test ys) ≡ Some x →
        (find test ys ≡ Some x → IsIn x ys × (test x ≡ true)) → IsIn x (y ∷ ys) × (test x ≡ true)
    by true is e rest = let same : y ≡ x = cc in (inl same, subst (λ z. test z ≡ true) same is)
    by false is e rest = (inr (rest e).0, (rest e).1)

-- where nothing is found, no item passes
pub find_none : {X : Type 0} (test : X → Bool) (xs : List X) (x : X) → find test xs ≡ None → IsIn x xs →
    test x ≡ false
find_none test [] x h has = absurd has
find_none {X} test (y ∷ ys) x h has = by (test y) refl h (find_none test ys x)
  where
    by : (t : Bool) → test y ≡ t → (if t then Some y else find test ys) ≡ None →
        (find test ys ≡ None → IsIn x ys → test x ≡ false) → test x ≡ false
    by true is e rest = absurd (cc)
    by false is e rest = elim has [
      | inl here ↦ subst (λ z. test z ≡ false) here is
      | inr there ↦ rest e there
    ]

-- the first item that passes a test, and its place, where the first item has this number
record FirstFrom {X : Type 0} (test : X → Bool) (n : ℕ) (xs : List X) (m : ℕ) : Type 0 where
  place : ℕ
  is : m ≡ n + place
  item : X
  there : slice_get xs place ≡ Some item
  passes : test item ≡ true
  found : find test xs ≡ Some item
  others : (k : ℕ) (x : X) → k < place → slice_get xs k ≡ Some x → test x ≡ false

-- before the next place stand an item and those before this one
others_next : {X : Type 0} (test : X → Bool) (y : X) (ys : List X) (place : ℕ) → test y ≡ false →
    ((k : ℕ) (x : X) → k < place → slice_get ys k ≡ Some x → test x ≡ false) →
    (k : ℕ) (x : X) → k < suc place → slice_get (y ∷ ys) k ≡ Some x → test x ≡ false
others_next test y ys place is others zero x below there =
    let same : y ≡ x = cc in subst (λ z. test z ≡ false) same is
others_next test y ys place is others (suc k) x below there = others k x (omega (arith, below)) there

first_from : {X : Type 0} (test : X → Bool) (n : ℕ) (xs : List X) (m : ℕ) →
    position_from test n xs ≡ Some m → FirstFrom test n xs m
first_from test n [] m h = absurd (cc)
first_from {X} test n (y ∷ ys) m h = by (test y) refl h (first_from test (n + 1) ys m)
  where
    by : (t : Bool) → test y ≡ t → (if t then Some n else position_from test (n + 1) ys) ≡ Some m →
        (position_from test (n + 1) ys ≡ Some m → FirstFrom test (n + 1) ys m) →
        FirstFrom test n (y ∷ ys) m
    by true is e tail = let same : n ≡ m = cc in record {
      place = 0;
      is = omega (arith, same);
      item = y;
      there = refl;
      passes = is;
      found = ap (λ (t : Bool). if t then Some y else find test ys) is;
      others = λ k x below there. absurd (omega (arith, below));
    }
    by false is e tail =
        let rest : FirstFrom test (n + 1) ys m = tail e in
        let at : m ≡ n + 1 + rest.place = rest.is in record {
          place = suc rest.place;
          is = omega (arith, at);
          item = rest.item;
          there = rest.there;
          passes = rest.passes;
          found = ap (λ (t : Bool). if t then Some y else find test ys) is ∙ rest.found;
          others = others_next test y ys rest.place is rest.others;
        }

-- the number of a name is that of the first item with its text, which is the item of the name
pub is_first : {X : Type 0} (name_of : X → Name) (xs : List X) (name : Name) (n : ℕ) →
    number_of name_of xs name ≡ Some n →
    (first : IsFirst name_of xs n name) × (named name_of xs name ≡ Some first.item)
is_first name_of xs name n h =
    let f = first_from (λ x. same (name_of x) name) 0 xs n h in
    let at : f.place ≡ n = (let e : n ≡ 0 + f.place = f.is in omega (arith, e)) in (
      record {
        item = f.item;
        there = subst (λ k. slice_get xs k ≡ Some f.item) at f.there;
        same = texts_same (name_of f.item) name f.passes;
        others = λ k x below there. texts_differ (name_of x) name
            (f.others k x (let e : f.place ≡ n = at in omega (arith, below, e)) there);
      },
      f.found,
    )

-- an item that is found has a number
pub has_number : {X : Type 0} (test : X → Bool) (n : ℕ) (xs : List X) → is_none (find test xs) ≡ false →
    (m : ℕ) × (position_from test n xs ≡ Some m)
has_number test n [] h = absurd (cc)
has_number {X} test n (y ∷ ys) h = by (test y) refl h (has_number test (n + 1) ys)
  where
    by : (t : Bool) → test y ≡ t → is_none (if t then Some y else find test ys) ≡ false →
        (is_none (find test ys) ≡ false → (m : ℕ) × (position_from test (n + 1) ys ≡ Some m)) →
        (m : ℕ) × ((if t then Some n else position_from test (n + 1) ys) ≡ Some m)
    by true is e rest = (n, refl)
    by false is e rest = rest e

-- so has a name that an item has
pub any_number : {X : Type 0} (test : X → Bool) (n : ℕ) (xs : List X) → not (list_any test xs) ≡ false →
    (m : ℕ) × (position_from test n xs ≡ Some m)
any_number test n [] h = absurd (cc)
any_number {X} test n (y ∷ ys) h = by (test y) h (any_number test (n + 1) ys)
  where
    by : (t : Bool) → not (t || list_any test ys) ≡ false →
        (not (list_any test ys) ≡ false → (m : ℕ) × (position_from test (n + 1) ys ≡ Some m)) →
        (m : ℕ) × ((if t then Some n else position_from test (n + 1) ys) ≡ Some m)
    by true e rest = (n, refl)
    by false e rest = rest e

-- where no item passes, none of them does
pub any_none : {X : Type 0} (test : X → Bool) (xs : List X) (x : X) → list_any test xs ≡ false → IsIn x xs →
    test x ≡ false
any_none test [] x none has = absurd has
any_none test (y ∷ ys) x none has =
    let both = or_parts (test y) (list_any test ys) none in
    elim has [
      | inl here ↦ subst (λ z. test z ≡ false) here both.0
      | inr there ↦ any_none test ys x both.1 there
    ]
