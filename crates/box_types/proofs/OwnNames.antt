-- Where the check of names that stand twice finds nothing, names are their items' own.
use Rattle.std.proofs.Common.{◌≡◌, ◌≢◌, ℕ, zero, suc, ◌+◌, ◌<◌, ◌≤◌, Bool, true, false, ◌||◌, List, [], ◌∷◌}
use Rattle.std.proofs.Common.{◌++◌, All, AllPairs, get_or, length, take, refl, sym, ◌∙◌, ap, arith}
use Rattle.std.specs.Str.{bytes_eq}
use Rattle.std.proofs.lemmas.Bool.{or_parts}
use Rattle.std.proofs.lemmas.Bool.Decides.{not_from_Decides}
use Rattle.std.proofs.lemmas.Slice.Eq.{bytes_eq-Decides}
use Rattle.seuss_program.specs.declared.tree.Name.{Name}
use Rattle.seuss_program.specs.declared.tree.Proc.{Proc}
use Rattle.seuss_program.specs.declared.tree.Cat.{Cat}
use Rattle.seuss_program.specs.declared.tree.BoxDecl.{BoxDecl}
use Rattle.seuss_program.specs.declared.tree.Tree.{Tree}
use Rattle.box_types.specs.declared.scopes.Scope.{Scope}
use Rattle.box_types.specs.BuiltInTexts.{with_built_ins}
use Rattle.box_types.specs.Scopes.{same}
use Rattle.box_types.specs.Walks.{Walk, numbered, walked, procedure, procedures, given, variable, cat, box}
use Rattle.box_types.specs.Walks.{CatName, ProcName, BoxName}
use Rattle.box_types.specs.Twice.{fails, has_name, has_given, has_var, has_proc, is_member, twice_at}
use Rattle.box_types.specs.Faults.{twice}
use Rattle.box_types.specs.OwnNames.{ProcsDiffer, HasOwnNames}

-- where two lists put together are empty, both are
pub none_first : (xs ys : List ℕ) → xs ++ ys ≡ [] → xs ≡ []
none_first [] ys none = refl
none_first (x ∷ xs) ys none = cc

pub none_second : (xs ys : List ℕ) → xs ++ ys ≡ [] → ys ≡ []
none_second [] ys none = none
none_second (x ∷ xs) ys none = cc

-- where nothing is found at items, nothing is found at one of them
numbered_none : {X : Type 0} (at : ℕ → X → List ℕ) (n : ℕ) (xs : List X) (k m : ℕ) (d : X) →
    numbered at n xs ≡ [] → k < length xs → n + k ≡ m → at m (get_or xs k d) ≡ []
numbered_none at n [] k m d none within is = absurd (omega arith)
numbered_none at n (x ∷ xs) zero m d none within is =
    let same : n ≡ m = omega arith in
    ap (λ i. at i x) (sym same) ∙ none_first (at n x) (numbered at (n + 1) xs) none
numbered_none at n (x ∷ xs) (suc k) m d none within is =
    numbered_none at (n + 1) xs k m d (none_second (at n x) (numbered at (n + 1) xs) none) (omega arith)
    (omega arith)

-- and for walks, from some scope
walked_none : {X : Type 0} (at : ℕ → X → Walk) (n : ℕ) (xs : List X) (scope : Scope) (k m : ℕ) (d : X) →
    (walked at n xs scope).lines ≡ [] → k < length xs → n + k ≡ m →
    (before : Scope) × ((at m (get_or xs k d) before).lines ≡ [])
walked_none at n [] scope k m d none within is = absurd (omega arith)
walked_none at n (x ∷ xs) scope zero m d none within is =
    let same : n ≡ m = omega arith in
    let first = at n x scope in (
      scope,
      ap (λ i. (at i x scope).lines) (sym same)
          ∙ none_first first.lines (walked at (n + 1) xs first.scope).lines none,
    )
walked_none at n (x ∷ xs) scope (suc k) m d none within is =
    let first = at n x scope in
    walked_none at (n + 1) xs first.scope k m d
    (none_second first.lines (walked at (n + 1) xs first.scope).lines none) (omega arith) (omega arith)

-- a place that has no line doesn't fail
pub no_failure : (b : Bool) (line : ℕ) → fails b line ≡ [] → b ≡ false
no_failure true line none = cc
no_failure false line none = refl

-- what isn't the name of one of the first items isn't that of an earlier one
not_earlier : {X : Type 0} (name_of : X → Name) (xs : List X) (i j : ℕ) (d : X) (name : Name) → i < j →
    j ≤ length xs →
    has_name name_of (take j xs) name ≡ false → same (name_of (get_or xs i d)) name ≡ false
not_earlier name_of xs i zero d name before within none = absurd (omega arith)
not_earlier name_of [] i (suc j) d name before within none = absurd (omega arith)
not_earlier name_of (x ∷ xs) zero (suc j) d name before within none =
    (or_parts (same (name_of x) name) (has_name name_of (take j xs) name) none).0
not_earlier name_of (x ∷ xs) (suc i) (suc j) d name before within none =
    not_earlier name_of xs i j d name (omega arith) (omega arith)
    (or_parts (same (name_of x) name) (has_name name_of (take j xs) name) none).1

-- names that aren't the same have other texts
pub texts_differ : (a b : Name) → same a b ≡ false → a.text ≢ b.text
texts_differ a b other = not_from_Decides (bytes_eq a.text b.text) (bytes_eq-Decides a.text b.text) other

-- where each item has no name of one before it, no two have the same name
all_differ : {X : Type 0} (name_of : X → Name) (xs : List X) →
    ((j : ℕ) (d : X) → j < length xs → has_name name_of (take j xs) (name_of (get_or xs j d)) ≡ false) →
    AllPairs (λ x y. (name_of x).text ≢ (name_of y).text) xs
all_differ name_of xs each = λ i j d before within.
    texts_differ (name_of (get_or xs i d)) (name_of (get_or xs j d))
    (not_earlier name_of xs i j d (name_of (get_or xs j d)) before (omega arith) (each j d within))

-- the boxes of a text
boxes_differ : (cats : List (Cat Name)) (boxes : List BoxDecl) →
    numbered (box twice_at cats boxes) 0 boxes ≡ [] →
    AllPairs (λ (a b : BoxDecl). a.name.text ≢ b.name.text) boxes
boxes_differ cats boxes none = all_differ (λ (b : BoxDecl). b.name) boxes (λ j d within.
    let b = get_or boxes j d in
    let here : box twice_at cats boxes j b ≡ [] =
    numbered_none (box twice_at cats boxes) 0 boxes j j d none within (omega arith) in
    no_failure (has_name (λ (a : BoxDecl). a.name) (take j boxes) b.name) b.name.line
    (none_first (twice_at (BoxName cats boxes j b)) _ here))

-- the procedures of a cat
procs_differ : (cats : List (Cat Name)) (own : Cat Name) → procedures twice_at cats own ≡ [] →
    ProcsDiffer own
procs_differ cats own none = all_differ (λ (q : Proc Name). q.name) own.procs (λ j d within.
    let q = get_or own.procs j d in
    let start : Scope = record { visible = []; next = 0; earlier = [] } in
    let here = walked_none (procedure twice_at cats own) 0 own.procs start j j d none within (omega arith) in
    let name = no_failure (is_member own j q.name || has_name (λ
    (m : Name). m) here.0.earlier q.name) q.name.line
    (none_first (twice_at (ProcName own j q here.0.earlier)) _ here.1) in
    let members = (or_parts (is_member own j q.name) (has_name (λ
    (m : Name). m) here.0.earlier q.name) name).0 in
    let inside = (or_parts (has_given own.given q.name)
    (has_var own.vars q.name || has_proc (take j own.procs) q.name) members).1 in
    (or_parts (has_var own.vars q.name) (has_proc (take j own.procs) q.name) inside).1)

-- the procedures of all cats
cats_differ : (all : List (Cat Name)) (n : ℕ) (cats : List (Cat Name)) →
    numbered (cat twice_at all) n cats ≡ [] →
    All ProcsDiffer cats
cats_differ all n cats none = λ k d within.
    let own = get_or cats k d in
    let here : cat twice_at all (n + k) own ≡ [] =
    numbered_none (cat twice_at all) n cats k (n + k) d none within refl in
    let members = none_second (twice_at (CatName all (n + k) own.name)) _ here in
    let vars = none_second (numbered (given twice_at all own) 0 own.given) _ members in
    let procs = none_second (numbered (variable twice_at all own) 0 own.vars) _ vars in
    procs_differ all own (none_first (procedures twice_at all own) _ procs)

-- the names of a text in which no name stands twice
pub own_names : (tree : Tree) → twice tree ≡ [] → HasOwnNames tree
own_names tree none =
    let cats = (with_built_ins tree).cats in
    let on_cats = none_first (numbered (cat twice_at cats) 0 cats) _ none in
    let on_boxes = none_second (numbered (cat twice_at cats) 0 cats) _ none in
    record {
      boxes = boxes_differ cats tree.boxes on_boxes;
      procs = λ k d within. cats_differ cats 0 cats on_cats (suc (suc k)) d (omega arith);
    }
