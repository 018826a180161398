-- The scope of a place has its locals: each one at its slot, with its name.
use Rattle.std.specs.Prelude.{◌≡◌, ℕ, zero, suc, ◌+◌, Bool, false, ◌⊎◌, ◌||◌, ◌≢◌, List, [], ◌∷◌, ◌++◌}
use Rattle.std.specs.Prelude.{length, slice_get, None, Some}
use Rattle.std.proofs.Common.{refl, sym, ap, subst, ◌∙◌, inl, inr, arith, append_assoc}
use Rattle.std.proofs.lemmas.Bool.{or_parts}
use Rattle.seuss_program.specs.declared.tree.Name.{Name}
use Rattle.seuss_program.specs.declared.tree.Kind.{Kind}
use Rattle.seuss_program.specs.declared.tree.Cat.{Cat}
use Rattle.seuss_program.specs.Lines.{IsIn}
use Rattle.box_types.specs.declared.scopes.Local.{Local}
use Rattle.box_types.specs.declared.scopes.Scope.{Scope}
use Rattle.box_types.specs.declared.scopes.Meaning.{Meaning}
use Rattle.box_types.specs.declared.scopes.Meaning.TheVariants as M
use Rattle.box_types.specs.Scopes.{same, named, meaning_of, declared, behind}
use Rattle.box_types.specs.Walks.{LocalName}
use Rattle.box_types.specs.Twice.{is_member, has_local, twice_at}
use Rattle.box_types.specs.Unknown.{is_nothing}
use Rattle.box_types.specs.WrongKind.{is_no_value, is_fixed}
use Rattle.box_types.specs.Namings.{ref_of, name_ref}
use Rattle.box_types.specs.Locals.{Locals, with_local, after_block, HasNoLocal}
use Rattle.box_types.specs.Meanings.{NameStands, OfLocal, OfVar}
use Rattle.box_types.proofs.FirstNames.{texts_same, find_some, find_none, any_none, is_first}
use Rattle.box_types.proofs.OwnNames.{texts_differ, no_failure}
use Rattle.box_types.proofs.MeantNames.{AVar, AGiven, AProc, Nowhere, AtPlace, ALocal, OfCat, at_place}

-- an item of the first of two lists is one of both together
pub in_left : {X : Type 0} (x : X) (xs ys : List X) → IsIn x xs → IsIn x (xs ++ ys)
in_left x [] ys h = absurd h
in_left x (z ∷ xs) ys h = elim h [ inl here ↦ inl here | inr there ↦ inr (in_left x xs ys there) ]

-- the last item of a list is one of it
in_last : {X : Type 0} (x : X) (xs : List X) → IsIn x (xs ++ x ∷ [])
in_last x [] = inl refl
in_last x (z ∷ xs) = inr (in_last x xs)

-- an item of a list is one before the last, or the last
pub before_or_last : {X : Type 0} (x y : X) (xs : List X) → IsIn x (xs ++ y ∷ []) → IsIn x xs ⊎ (y ≡ x)
before_or_last x y [] h = elim h [ inl here ↦ inr here | inr there ↦ absurd there ]
before_or_last x y (z ∷ xs) h = elim h [
  | inl here ↦ inl (inl here)
  | inr there ↦ elim (before_or_last x y xs there) [ inl is ↦ inl (inr is) | inr is ↦ inr is ]
]

-- a place of the first of two lists has the same item in both together
get_left : {X : Type 0} (xs ys : List X) (n : ℕ) (x : X) → slice_get xs n ≡ Some x →
    slice_get (xs ++ ys) n ≡ Some x
get_left [] ys n x h = absurd (cc)
get_left (z ∷ xs) ys zero x h = h
get_left (z ∷ xs) ys (suc n) x h = get_left xs ys n x h

-- the last item stands at the place after those before it
get_last : {X : Type 0} (xs : List X) (x : X) → slice_get (xs ++ x ∷ []) (length xs) ≡ Some x
get_last [] x = refl
get_last (z ∷ xs) x = get_last xs x

-- a list with one more item is longer by one
length_last : {X : Type 0} (xs : List X) (x : X) → length (xs ++ x ∷ []) ≡ length xs + 1
length_last [] x = refl
length_last (z ∷ xs) x = let e : length (xs ++ x ∷ []) ≡ length xs + 1 = length_last xs x in omega (arith, e)

-- nothing after a list leaves it as it is
pub append_nil : {X : Type 0} (xs : List X) → xs ++ [] ≡ xs
append_nil [] = refl
append_nil (x ∷ xs) = ap (λ l. x ∷ l) (append_nil xs)

-- The visible locals are those that are visible in the scope, each at its slot.
pub record Sees (here : Locals) (visible : List Local) (next : ℕ) : Type 0 where
  pub count : next ≡ length here.names
  pub local : (l : Local) → IsIn l visible → IsIn l.slot here.visible ×
      (slice_get here.names l.slot ≡ Some l.name)
  pub back : (slot : ℕ) → IsIn slot here.visible → (l : Local) × IsIn l visible × (l.slot ≡ slot)
  pub apart : (a b : Local) → IsIn a visible → IsIn b visible → a.name.text ≡ b.name.text → a.slot ≡ b.slot

-- no visible local has the text of this name
abbrev pub IsFresh : List Local → Name → Type 0
IsFresh visible name = (l : Local) → IsIn l visible → l.name.text ≢ name.text

-- the locals of a later place go on after those of an earlier one
pub record GoesOn (here there : Locals) : Type 0 where
  pub more : List Name
  pub names : there.names ≡ here.names ++ more

-- the same place, a later one of a later one, and a place after a name goes on
pub goes_on_here : (here : Locals) → GoesOn here here
goes_on_here here = record { more = []; names = sym (append_nil here.names) }

pub goes_on_after : (here between last : Locals) → GoesOn here between →
    GoesOn between last → GoesOn here last
goes_on_after here between last first next = record {
  more = first.more ++ next.more;
  names = next.names ∙ (ap (λ (names : List Name). names ++ next.more) first.names
      ∙ append_assoc here.names first.more next.more);
}

pub goes_on_with : (name : Name) (here : Locals) → GoesOn here (with_local name here)
goes_on_with name here = record { more = name ∷ []; names = refl }

-- one more local, wherever it stands among those of the scope
sees_more : (here : Locals) (visible after : List Local) (next : ℕ) (new : Local) → Sees here visible next →
    new.slot ≡ next → IsFresh visible new.name →
    ((l : Local) → IsIn l after → IsIn l visible ⊎ (new ≡ l)) →
    ((l : Local) → IsIn l visible → IsIn l after) → IsIn new after →
    Sees (with_local new.name here) after (next + 1)
sees_more here visible after next new sees slot fresh split keeps has =
    let at : new.slot ≡ length here.names = slot ∙ sees.count in
    let there : IsIn new.slot (here.visible ++ length here.names ∷ []) ×
    (slice_get (here.names ++ new.name ∷ []) new.slot ≡ Some new.name) = (
      subst (λ n. IsIn n (here.visible ++ length here.names ∷ [])) (sym at)
          (in_last (length here.names) here.visible),
      ap (slice_get (here.names ++ new.name ∷ [])) at ∙ get_last here.names new.name,
    ) in
    record {
      count = ap (λ n. n + 1) sees.count ∙ sym (length_last here.names new.name);
      local = λ l in_after. elim (split l in_after) [
        | inl old ↦ (
          in_left l.slot here.visible (length here.names ∷ []) (sees.local l old).0,
          get_left here.names (new.name ∷ []) l.slot l.name (sees.local l old).1,
        )
        | inr is ↦ subst (λ (k : Local). IsIn k.slot (here.visible ++ length here.names ∷ []) ×
            (slice_get (here.names ++ new.name ∷ []) k.slot ≡ Some k.name)) is there
      ];
      back = λ n in_here. elim (before_or_last n (length here.names) here.visible in_here) [
        | inl old ↦ let found = sees.back n old in (found.0, keeps found.0 found.1, found.2)
        | inr is ↦ (new, has, at ∙ is)
      ];
      apart = λ a b in_a in_b text. elim (split a in_a) [
        | inl old_a ↦ elim (split b in_b) [
          | inl old_b ↦ sees.apart a b old_a old_b text
          | inr is_b ↦ absurd (fresh a old_a (text ∙ ap (λ (l : Local). l.name.text) (sym is_b)))
        ]
        | inr is_a ↦ elim (split b in_b) [
          | inl old_b ↦ absurd (fresh b old_b (sym text ∙ ap (λ (l : Local). l.name.text) (sym is_a)))
          | inr is_b ↦ ap (λ (l : Local). l.slot) (sym is_a ∙ is_b)
        ]
      ];
    }

-- a name that is declared
pub sees_declared : (here : Locals) (sc : Scope) (name : Name) (kind : Kind) (is_param : Bool) →
    Sees here sc.visible sc.next → IsFresh sc.visible name →
    let after = declared name kind is_param sc in Sees (with_local name here) after.visible after.next
sees_declared here sc name kind is_param sees fresh =
    let new : Local = record { name = name; kind = kind; slot = sc.next; is_param = is_param } in
    sees_more here sc.visible (sc.visible ++ new ∷ []) sc.next new sees refl fresh
    (λ l h. before_or_last l new sc.visible h) (λ l h. in_left l sc.visible (new ∷ []) h)
    (in_last new sc.visible)

-- a local in front of the others
pub sees_in_front : (here : Locals) (visible : List Local) (next : ℕ) (new : Local) →
    Sees here visible next →
    new.slot ≡ next → IsFresh visible new.name → Sees (with_local new.name here) (new ∷ visible) (next + 1)
sees_in_front here visible next new sees slot fresh =
    sees_more here visible (new ∷ visible) next new sees slot fresh
    (λ l h. elim h [ inl is ↦ inr is | inr there ↦ inl there ]) (λ l h. inr h) (inl refl)

-- after a block
pub sees_after : (here inside : Locals) (before after : Scope) → Sees here before.visible before.next →
    Sees inside after.visible after.next → GoesOn here inside →
    let last = behind before after in Sees (after_block here inside) last.visible last.next
sees_after here inside before after sees within on = record {
  count = within.count;
  local = λ l h. (
    (sees.local l h).0,
    ap (λ (names : List Name). slice_get names l.slot) on.names
        ∙ get_left here.names on.more l.slot l.name (sees.local l h).1,
  );
  back = sees.back;
  apart = sees.apart;
}

-- after a block the locals go on after those before it
pub goes_on_block : (here inside : Locals) → GoesOn here inside → GoesOn here (after_block here inside)
goes_on_block here inside on = record { more = on.more; names = on.names }

-- items that are found at one place are the same
some_same : {x y : Name} → Some x ≡ Some y → x ≡ y
some_same e = cc

-- where no local is found, no visible one has the name
no_local : (here : Locals) (visible : List Local) (next : ℕ) (name : Name) → Sees here visible next →
    named (λ (l : Local). l.name) visible name ≡ None → HasNoLocal here name
no_local here visible next name sees none = λ slot local.
    let found = sees.back slot local.visible in
    let there : Some found.0.name ≡ Some local.local =
    sym (sees.local found.0 found.1).1 ∙ (ap (slice_get here.names) found.2 ∙ local.there) in
    let is : found.0.name ≡ local.local = some_same there in
    texts_differ found.0.name name (find_none (λ (l : Local). same l.name name) visible found.0 none found.1)
    (ap (λ (n : Name). n.text) is ∙ local.same)

-- a local that doesn't stand twice has a text of its own
pub fresh_by : (own : Cat Name) (number : ℕ) (sc : Scope) (name : Name) →
    twice_at (LocalName own number sc name) ≡ [] → IsFresh sc.visible name
fresh_by own number sc name none = λ l in_l. texts_differ l.name name
    (any_none (λ (x : Local). same x.name name) sc.visible l
    (or_parts (is_member own (number + 1) name) (has_local sc.visible name)
    (no_failure (is_member own (number + 1) name || has_local sc.visible name) name.line none)).1 in_l)

module _ (own : Cat Name) (here : Locals) (visible : List Local) (next : ℕ) (sees : Sees here visible next)
    (name : Name) where
  -- a known name that is a value is a local or a variable
  name_stands : (m : Meaning) → AtPlace own visible name m → is_nothing m ≡ false → is_no_value m ≡ false →
      NameStands own here name (ref_of m)
  name_stands _ (ALocal l is) known value =
      let found = find_some (λ (l : Local). same l.name name) visible l is in
      OfLocal l.slot (record {
        called = record {
          visible = (sees.local l found.0).0;
          local = l.name;
          there = (sees.local l found.0).1;
          same = texts_same l.name name found.1;
        };
        only = λ other called.
            let at = sees.back other called.visible in
            let is : at.0.name ≡ called.local = some_same
            (sym (sees.local at.0 at.1).1 ∙ (ap (slice_get here.names) at.2 ∙ called.there)) in
            sym at.2 ∙ sees.apart at.0 l at.1 found.0 (ap (λ (n : Name). n.text) is
            ∙ (called.same ∙ sym (texts_same l.name name found.1)));
      })
  name_stands _ (OfCat _ none (AVar n kind is)) known value =
      OfVar n (no_local here visible next name sees none)
      (is_first _ own.vars name n is).0
  name_stands _ (OfCat _ none (AGiven n is)) known value = absurd (cc)
  name_stands _ (OfCat _ none (AProc n is)) known value = absurd (cc)
  name_stands _ (OfCat _ none Nowhere) known value = absurd (cc)

  -- a known name that is a value, and one that may be assigned, stands for its number
  pub value_stands : is_nothing (meaning_of own visible name) ≡ false →
      is_no_value (meaning_of own visible name) ≡ false →
      NameStands own here name (name_ref own visible name)
  value_stands = name_stands (meaning_of own visible name) (at_place own visible name)

  pub assigned_stands : is_nothing (meaning_of own visible name) ≡ false →
      is_fixed (meaning_of own visible name) ≡ false →
      NameStands own here name (name_ref own visible name)
  assigned_stands known free = value_stands known (by (meaning_of own visible name) free)
    where
      by : (m : Meaning) → is_fixed m ≡ false → is_no_value m ≡ false
      by (M.GivenBox n) h = absurd (cc)
      by (M.Procedure n) h = absurd (cc)
      by (M.Slot slot kind is_param) h = refl
      by (M.Variable n kind) h = refl
      by M.Nothing h = refl
