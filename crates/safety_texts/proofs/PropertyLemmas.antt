-- Properties without a fault are properties of the program.
use Rattle.std.proofs.Common.{◌≡◌, ℕ, zero, suc, ◌+◌, ◌≤◌, Bool, true, false, not, List, [], ◌∷◌, ◌++◌, map}
use Rattle.std.proofs.Common.{drop}
use Rattle.std.proofs.Common.{Option, None, Some, refl, sym, ap, subst, ◌∙◌, arith, All}
use Rattle.std.proofs.Common.{append_assoc, inl, inr}
use Rattle.std.specs.Prelude.{slice_get, option_map, unwrap_or, is_none, IsErrAnd, Result, Ok, Err}
use Rattle.std.specs.List.{flat_map}
use Rattle.std.proofs.lemmas.List.Elements.{All-nil, All-cons, All-head, All-tail}
use Rattle.seuss_text.specs.declared.token.Tokens.{Tokens}
use Rattle.seuss_parser.specs.Words.{words_of}
use Rattle.seuss_program.specs.declared.program.Program.{Program}
use Rattle.seuss_program.specs.declared.tree.Expr.{Expr}
use Rattle.seuss_program.specs.declared.tree.Cat.{Cat}
use Rattle.seuss_program.specs.declared.tree.Ref.{Ref}
use Rattle.box_types.specs.Answers.{BeginsWith}
use Rattle.box_types.specs.Namings.{expression}
use Rattle.box_types.specs.Scopes.{number_of}
use Rattle.box_types.specs.SingleExpressions.{alone, seen_beside, IsRight}
use Rattle.box_types.specs.Unknown.{unknown_at}
use Rattle.box_types.specs.WrongType.{type_at}
use Rattle.box_types.specs.Twice.{fails}
use Rattle.box_types.proofs.FirstNames.{is_first}
use Rattle.safety_check.specs.declared.property.Property.{Property}
use Rattle.safety_check.specs.Properties.{IsProperty, look_of}
use Rattle.safety_texts.specs.declared.texts.PropertyText.{PropertyText}
use Rattle.safety_texts.specs.Readings.{HasKind, HasFault, AreRead, IsSpelled, ReadsList}
use Rattle.safety_texts.specs.Verdicts.{declared_cat, cat_number, undeclared, misshapen, property_of}
use Rattle.safety_texts.specs.Verdicts.{unresolved}
use Rattle.safety_texts.specs.Verdicts.{Spells, IsBad, NoToken, NoList, NotDeclared, NotResolved, OtherForm}
use Rattle.safety_texts.specs.Verdicts.{IsVerdict}
use Rattle.safety_texts.specs.declared.refusal.PropertyRefusal.{PropertyRefusal}
use Rattle.safety_texts.specs.declared.refusal.PropertyRefusal.TheVariants as R
use Rattle.safety_texts.proofs.FaultLemmas.{begins_first, begins_second}

-- nothing is left of nothing
left : (xs ys : List ℕ) → xs ++ ys ≡ [] → xs ≡ []
left [] ys h = refl
left (x ∷ xs) ys h = absurd (cc)

right : (xs ys : List ℕ) → xs ++ ys ≡ [] → ys ≡ []
right [] ys h = h
right (x ∷ xs) ys h = absurd (cc)

-- a test that doesn't fail
passes : (b : Bool) (line : ℕ) → fails b line ≡ [] → b ≡ false
passes true line h = absurd (cc)
passes false line h = refl

-- an item behind the first two
behind_two : {X : Type 0} (xs : List X) (n : ℕ) (x : X) → slice_get (drop 2 xs) n ≡ Some x →
    slice_get xs (n + 2) ≡ Some x
behind_two [] n x h = absurd (cc)
behind_two (y ∷ []) n x h = absurd (cc)
behind_two (y ∷ z ∷ xs) n x h =
    let e : n + 2 ≡ suc (suc n) = omega arith in subst (λ k. slice_get (y ∷ z ∷ xs) k ≡ Some x) (sym e) h

-- a bool whose opposite is false
not_false : (b : Bool) → not b ≡ false → b ≡ true
not_false true h = refl
not_false false h = absurd (cc)

-- one property
is_property : (p : Program) (text : PropertyText) → undeclared p text ≡ [] →
    misshapen (property_of p text) ≡ [] → HasKind p (property_of p text) → IsProperty p (property_of p text)
is_property p text declared shaped kind =
    by (number_of (λ (c : Cat Ref). c.name) (drop 2 p.cats) text.cat) refl
    (passes (is_none (declared_cat p text.cat)) text.cat.line declared)
  where
    by : (o : Option ℕ) → number_of (λ (c : Cat Ref). c.name) (drop 2 p.cats) text.cat ≡ o →
        is_none (option_map (λ n. n + 2) o) ≡ false → IsProperty p (property_of p text)
    by None is some = absurd (cc)
    by (Some n) is some =
        let first = is_first (λ (c : Cat Ref). c.name) (drop 2 p.cats) text.cat n is in
        let number : n + 2 ≡ (property_of p text).cat =
        ap (λ (o : Option ℕ). unwrap_or (option_map (λ n. n + 2) o) 0) (sym is) in
        let cat : slice_get p.cats (property_of p text).cat ≡ Some first.0.item =
        subst (λ k. slice_get p.cats k ≡ Some first.0.item) number
        (behind_two p.cats n first.0.item first.0.there) in
        record {
          declared = subst (λ k. 2 ≤ k) number (omega arith);
          cat = first.0.item;
          there = cat;
          kind = kind first.0.item cat;
          allowed = not_false (look_of (property_of p text).expr).allowed
              (passes (not (look_of (property_of p text).expr).allowed) (property_of p text).expr.line
              shaped);
        }

-- all of them
pub are_properties : (p : Program) (texts : List PropertyText) → flat_map (undeclared p) texts ≡ [] →
    flat_map misshapen (map (property_of p) texts) ≡ [] → All (HasKind p) (map (property_of p) texts) →
    All (IsProperty p) (map (property_of p) texts)
are_properties p [] declared shaped kinds = All-nil (IsProperty p)
are_properties p (text ∷ texts) declared shaped kinds =
    let one : Property = property_of p text in
    let others : List Property = map (property_of p) texts in
    All-cons (IsProperty p) one others
    (is_property p text (left (undeclared p text) (flat_map (undeclared p) texts) declared)
    (left (misshapen one) (flat_map misshapen others) shaped) (All-head (HasKind p) one others kinds))
    (are_properties p texts (right (undeclared p text) (flat_map (undeclared p) texts) declared)
    (right (misshapen one) (flat_map misshapen others) shaped) (All-tail (HasKind p) one others kinds))

module _ (p : Program) (text : PropertyText) (cat : ℕ) (same : cat ≡ cat_number p text.cat) where
  -- an expression that is refused beside its cat, for a name or for a type
  pub unknown_refused : (line : ℕ) → BeginsWith (unknown_at (alone (seen_beside p cat) text.expr)) line →
      BeginsWith (unresolved p text) line
  unknown_refused line begins = begins_first _ _ line
      (subst (λ n. BeginsWith (unknown_at (alone (seen_beside p n) text.expr)) line) same begins)

  pub type_refused : (line : ℕ) → unknown_at (alone (seen_beside p cat) text.expr) ≡ [] →
      BeginsWith (type_at (alone (seen_beside p cat) text.expr)) line → BeginsWith (unresolved p text) line
  type_refused line none begins = begins_second _ _ line
      (subst (λ n. unknown_at (alone (seen_beside p n) text.expr) ≡ []) same none)
      (subst (λ n. BeginsWith (type_at (alone (seen_beside p n) text.expr)) line) same begins)

  -- and one that is right
  pub right_resolved : IsRight (seen_beside p cat) text.expr → unresolved p text ≡ []
  right_resolved right =
      ap (λ ls. ls ++ type_at (alone (seen_beside p (cat_number p text.cat)) text.expr))
      (subst (λ n. unknown_at (alone (seen_beside p n) text.expr) ≡ []) same right.unknown)
      ∙ subst (λ n. type_at (alone (seen_beside p n) text.expr) ≡ []) same right.wrong_type

  pub property_made : (made : Expr Ref) → made ≡ expression (seen_beside p cat) [] text.expr →
      record { cat = cat; expr = made } ≡ property_of p text
  property_made made is =
      ap (λ e. record { cat = cat; expr = e }) is
      ∙ ap (λ n. record { cat = n; expr = expression (seen_beside p n) [] text.expr }) same

module _ (p : Program) (text : PropertyText) (rest before : List PropertyText) where
  -- one more text without a fault
  pub same_more : flat_map (unresolved p) before ≡ flat_map (unresolved p) (text ∷ rest) →
      unresolved p text ≡ [] → flat_map (unresolved p) before ≡ flat_map (unresolved p) rest
  same_more so_far none = so_far ∙ ap (λ ls. ls ++ flat_map (unresolved p) rest) none

  -- one more property
  pub made_more : (made : List Property) →
      map (property_of p) before ≡ made ++ map (property_of p) (text ∷ rest) →
      map (property_of p) before ≡ (made ++ property_of p text ∷ []) ++ map (property_of p) rest
  made_more made so_far = so_far
      ∙ sym (append_assoc made (property_of p text ∷ []) (map (property_of p) rest))

-- what was read of a text is its verdict
pub verdict_by : (p : Program) (text : List ℕ) (tokens : Tokens) (texts : List PropertyText)
    (r : Result (List Property) PropertyRefusal) → IsSpelled text (Ok tokens) →
    ReadsList (words_of text tokens.list) (Ok texts) → AreRead p texts r → IsVerdict p text r
verdict_by p text tokens texts (Ok properties) spelled listed read = (
  spelled.0,
  record {
    texts = texts;
    spelled = record {
      tokens = tokens.list;
      are_tokens = spelled.1;
      in_limits = spelled.2;
      are_list = listed;
    };
    declared = read.0;
    resolved = read.1;
    shaped = read.2;
    properties_are = read.3;
  },
)
verdict_by p text tokens texts (Err R.TooLong) spelled listed read = absurd read
verdict_by p text tokens texts (Err (R.Bad line)) spelled listed read = (spelled.0, by read)
  where
    spells : Spells text texts
    spells = record {
      tokens = tokens.list;
      are_tokens = spelled.1;
      in_limits = spelled.2;
      are_list = listed;
    }

    by : HasFault p texts line → IsBad p text line
    by (inl begins) = NotDeclared texts spells begins
    by (inr (inl second)) = NotResolved texts spells second.0 second.1
    by (inr (inr third)) = OtherForm texts spells third.0 third.1 third.2
verdict_by p text tokens texts (Err R.Memory) spelled listed read = tt

-- and so is what was read of one that is no list
pub unlisted_by : (p : Program) (text : List ℕ) (tokens : Tokens) (why : PropertyRefusal)
    (made : Result (List Property) PropertyRefusal) → IsErrAnd made (λ cause. cause ≡ why) →
    IsSpelled text (Ok tokens) → ReadsList (words_of text tokens.list) (Err why) → IsVerdict p text made
unlisted_by p text tokens why (Ok properties) is spelled none = absurd is
unlisted_by p text tokens why (Err cause) is spelled none =
    subst (λ w. IsVerdict p text (Err w)) (sym is) (by why none)
  where
    by : (why : PropertyRefusal) → ReadsList (words_of text tokens.list) (Err why) →
        IsVerdict p text (Err why)
    by R.TooLong none = absurd none
    by (R.Bad line) none = (
      spelled.0,
      NoList (record {
        tokens = tokens.list;
        are_tokens = spelled.1;
        in_limits = spelled.2;
        no_list = none;
      }),
    )
    by R.Memory none = tt

-- or has no tokens
pub unspelled_by : (p : Program) (text : List ℕ) (why : PropertyRefusal)
    (made : Result (List Property) PropertyRefusal) → IsErrAnd made (λ cause. cause ≡ why) →
    IsSpelled text (Err why) → IsVerdict p text made
unspelled_by p text why (Ok properties) is none = absurd is
unspelled_by p text why (Err cause) is none = subst (λ w. IsVerdict p text (Err w)) (sym is) (by why none)
  where
    by : (why : PropertyRefusal) → IsSpelled text (Err why) → IsVerdict p text (Err why)
    by R.TooLong none = none
    by (R.Bad line) none = (none.0, NoToken none.1)
    by R.Memory none = tt
