-- What is found on a program with numbers is what the text has by its names.
use Rattle.std.specs.Prelude.{◌≡◌, ℕ, zero, suc, ◌+◌, ◌<◌, ◌≤◌, Bool, true, false, if◌then◌else◌, List, []}
use Rattle.std.specs.Prelude.{◌∷◌, map, length, Option, None, Some, option_map, option_and_then, unwrap_or}
use Rattle.std.specs.Prelude.{Contains, Result, Ok, Err}
use Rattle.std.specs.List.{flat_map, find, position_from}
use Rattle.std.proofs.Common.{refl, sym, ap, subst, ◌∙◌, arith}
use Rattle.seuss_program.specs.declared.tree.Name.{Name}
use Rattle.seuss_program.specs.declared.tree.Ref.{Ref}
use Rattle.seuss_program.specs.declared.tree.Given.{Given}
use Rattle.seuss_program.specs.declared.tree.Call.{Call}
use Rattle.seuss_program.specs.declared.tree.Form.{Form}
use Rattle.seuss_program.specs.declared.tree.Form.TheVariants as F
use Rattle.seuss_program.specs.declared.tree.Proc.{Proc}
use Rattle.seuss_program.specs.declared.tree.Cat.{Cat}
use Rattle.seuss_program.specs.declared.tree.BoxDecl.{BoxDecl}
use Rattle.seuss_program.specs.declared.tree.Tree.{Tree}
use Rattle.seuss_program.specs.declared.program.Program.{Program}
use Rattle.box_types.specs.declared.scopes.Scope.{Scope}
use Rattle.box_types.specs.Scopes as Sc
use Rattle.box_types.specs.BuiltInTexts.{with_built_ins}
use Rattle.box_types.specs.Namings as N
use Rattle.box_types.specs.Namings.{named}
use Rattle.box_types.specs.Answers.{BeginsWith}
use Rattle.call_order.specs.Calls.{procedure_in, procedure_of, is_total, is_partial, line_where, lines_of}
use Rattle.call_order.specs.Calls.{Inside, in_procedures, in_cats, in_bodies, in_pres, partial_calls}
use Rattle.call_order.specs.Calls.{total_calls}
use Rattle.call_order.specs.Firsts.{first_of}
use Rattle.call_order.specs.Cycles.{given_of, IsFirstCyclic, HasNoCycle, GivesBoxes}
use Rattle.call_order.specs.Levels.{IsLevelled}
use Rattle.call_order.specs.Answers.{line_of, Levels, Orders}
use Rattle.call_order.specs.declared.refusal.OrderRefusal.{OrderRefusal}
use Rattle.call_order.specs.declared.refusal.OrderRefusal.TheVariants as R

-- the first one of mapped items
find-map : {X Y : Type 0} (f : X → Y) (test : Y → Bool) (xs : List X) →
    find test (map f xs) ≡ option_map f (find (λ x. test (f x)) xs)
find-map f test [] = refl
find-map {X} {Y} f test (x ∷ xs) = go (test (f x)) (find-map f test xs)
  where
    go : (t : Bool) → find test (map f xs) ≡ option_map f (find (λ x. test (f x)) xs) →
        (if t then Some (f x) else find test (map f xs))
        ≡ option_map f (if t then Some x else find (λ x. test (f x)) xs)
    go true h = refl
    go false h = h

module _ (cats : List (Cat Name)) where
  -- a procedure with numbers is total where the one with names is
  form-total : (own : Cat Name) (q : Proc Name) → is_total (N.procedure cats own q).form ≡ is_total q.form
  form-total own q = by_form q.form (Sc.with_result q (N.with_params q.params (Sc.at_head q [])))
    where
      by_form : (f : Form Name) (s : Scope) → is_total (N.form cats own f s) ≡ is_total f
      by_form (F.Total ss) s = refl
      by_form (F.Partial alts) s = refl
      by_form (F.Action alts) s = refl

  -- a procedure with numbers is partial where the one with names is
  form-partial : (own : Cat Name) (q : Proc Name) →
      is_partial (N.procedure cats own q).form ≡ is_partial q.form
  form-partial own q = by_form q.form (Sc.with_result q (N.with_params q.params (Sc.at_head q [])))
    where
      by_form : (f : Form Name) (s : Scope) → is_partial (N.form cats own f s) ≡ is_partial f
      by_form (F.Total ss) s = refl
      by_form (F.Partial alts) s = refl
      by_form (F.Action alts) s = refl

  module _ (form : Form Ref → Bool) (form' : Form Name → Bool)
      (same : (own : Cat Name) (q : Proc Name) → form (N.procedure cats own q).form ≡ form' q.form) where
    -- a procedure is of the form where the one that it stands for is
    line-same : (own : Cat Name) (q : Option (Proc Name)) (name : Name) →
        line_where form (option_map (N.procedure cats own) q) name ≡ line_where form' q name
    line-same own None name = refl
    line-same own (Some q) name = ap (λ (b : Bool). if b then name.line ∷ [] else []) (same own q)

    -- the same lines are found in a cat
    in-cat : (c : Option (Cat Name)) (name : Name) →
        line_where form (option_and_then (procedure_in name) (option_map (N.cat cats) c)) name
        ≡ line_where form' (option_and_then (procedure_in name) c) name
    in-cat None name = refl
    in-cat (Some c) name =
        ap (λ (o : Option (Proc Ref)). line_where form o name)
        (find-map (N.procedure cats c) (λ (q : Proc Ref). Sc.same q.name name) c.procs)
        ∙ line-same c (find (λ (q : Proc Name). Sc.same q.name name) c.procs) name

    -- the same lines are found in the cat of a given box
    in-given : (g : Option (Given Name)) (name : Name) →
        line_where form (option_and_then (procedure_of (map (N.cat cats) cats) name) g) name
        ≡ line_where form' (option_and_then (procedure_of cats name) g) name
    in-given None name = refl
    in-given (Some g) name =
        ap (λ (o : Option (Cat Ref)). line_where form (option_and_then (procedure_in name) o) name)
        (find-map (N.cat cats) (λ (c : Cat Ref). Sc.same c.name g.cat) cats)
        ∙ in-cat (find (λ (c : Cat Name). Sc.same c.name g.cat) cats) name

    -- the same lines are found at a call
    lines-same : (given : List (Given Name)) (c : Call Name) →
        lines_of (map (N.cat cats) cats) given form c ≡ lines_of cats given form' c
    lines-same given c = in-given (find (λ (g : Given Name). Sc.same g.name c.target) given) c.method

    -- the same lines are found in all cats
    cats-same : (inside : Inside) (owns : List (Cat Name)) →
        in_cats (map (N.cat cats) cats) inside form owns ≡ in_cats cats inside form' owns
    cats-same inside owns = λ i. flat_map
        (λ (own : Cat Name). in_procedures inside (λ c. lines-same own.given c i) own.procs) owns

-- by names and by numbers the same calls in bodies are partial
pub partial_same : (tree : Tree) → in_cats (named tree).cats in_bodies is_partial tree.cats
    ≡ partial_calls tree
partial_same tree = cats-same (with_built_ins tree).cats is_partial is_partial
    (form-partial (with_built_ins tree).cats) in_bodies tree.cats

-- by names and by numbers the same preprocedures are total
pub total_same : (tree : Tree) → in_cats (named tree).cats in_pres is_total tree.cats ≡ total_calls tree
total_same tree = cats-same (with_built_ins tree).cats is_total is_total
    (form-total (with_built_ins tree).cats) in_pres tree.cats

-- the place of an item is one of the places
position-there : {X : Type 0} (test : X → Bool) (n : ℕ) (xs : List X) (k : ℕ) →
    position_from test n xs ≡ Some k → k < n + length xs
position-there test n [] k h = absurd (cc)
position-there test n (x ∷ xs) k h = place (test x) (position_from test (n + 1) xs) h
    (position-there test (n + 1) xs k)
  where
    place : (t : Bool) (o : Option ℕ) → (if t then Some n else o) ≡ Some k →
        (o ≡ Some k → k < n + 1 + length xs) → k < n + length (x ∷ xs)
    place true o h after = let e : n ≡ k = cc in omega (arith, e)
    place false o h after = let r : k < n + 1 + length xs = after h in omega (arith, r)

-- a place that is there, or the first one, is there
there-or-first : (boxes : List BoxDecl) (o : Option ℕ) → ((k : ℕ) → o ≡ Some k → k < length boxes) →
    0 < length boxes → unwrap_or o 0 < length boxes
there-or-first boxes None h some = some
there-or-first boxes (Some k) h some = h k refl

-- the answer on a text by the answer on its program
pub orders_by : (r : Result Program OrderRefusal) (p : Program) (tree : Tree) → p ≡ named tree →
    partial_calls tree ≡ [] → total_calls tree ≡ [] → Levels r p →
    Orders r tree
orders_by (Ok q) p tree is partials totals h = record {
  partial_calls = partials;
  total_calls = totals;
  cycles = subst (λ (x : Program). HasNoCycle x.boxes) is h.0;
  levels = subst (λ (x : Program). IsLevelled x q) is h.1;
}
orders_by (Err (R.Cycle line first)) p tree is partials totals h = record {
  partial_calls = partials;
  total_calls = totals;
  cycle = subst (λ (x : Program). IsFirstCyclic x.boxes first × (line_of x.boxes first ≡ Some line)) is h;
}
orders_by (Err (R.PartialCall line)) p tree is partials totals h = absurd h
orders_by (Err (R.TotalCall line)) p tree is partials totals h = absurd h
orders_by (Err R.Memory) p tree is partials totals h = tt

-- the number of a box is that of one of the boxes
number-there : (boxes : List BoxDecl) (name : Name) → 0 < length boxes →
    N.box_number boxes name < length boxes
number-there boxes name some =
    there-or-first boxes (Sc.number_of (λ (b : BoxDecl). b.name) boxes name)
    (λ k h. let r : k < 0 + length boxes = position-there (λ (b : BoxDecl). Sc.same b.name name) 0 boxes k h
    in omega (arith, r)) some

-- numbers of names are below a bound
mapped-there : (f : Name → ℕ) (n : ℕ) → ((name : Name) → f name < n) → (names : List Name) (g : ℕ) →
    Contains (map f names) g → g < n
mapped-there f n h [] g c = absurd (omega (arith, c.1))
mapped-there f n h (x ∷ xs) g (zero, below, is) = subst (λ k. k < n) is (h x)
mapped-there f n h (x ∷ xs) g (suc k, below, is) = mapped-there f n h xs g (k, omega (arith, below), is)

-- the boxes that are given by their names are there
infos-there : (cats : List (Cat Name)) (all bs : List BoxDecl) (n : ℕ) → length bs ≤ n →
    ((name : Name) → 0 < n → N.box_number all name < n) → (box g : ℕ) →
    Contains (given_of (map (N.box_info cats all) bs) box) g → g < n
infos-there cats all [] n few h box g c = absurd (omega (arith, c.1))
infos-there cats all (b ∷ bs) n few h zero g c = mapped-there (N.box_number all) n
    (λ name. h name (omega (arith, few))) b.given g c
infos-there cats all (b ∷ bs) n few h (suc box) g c =
    infos-there cats all bs n (omega (arith, few)) h box g c

-- there is a box for each declaration
infos-length : (cats : List (Cat Name)) (all bs : List BoxDecl) →
    length (map (N.box_info cats all) bs) ≡ length bs
infos-length cats all [] = refl
infos-length cats all (b ∷ bs) = ap suc (infos-length cats all bs)

-- each box of the program of a text is given boxes that are there
pub gives_boxes : (tree : Tree) → GivesBoxes (named tree).boxes
gives_boxes tree = record {
  there = λ box g c. subst (λ n. g < n) (sym (infos-length (with_built_ins tree).cats tree.boxes tree.boxes))
      (infos-there (with_built_ins tree).cats tree.boxes tree.boxes (length tree.boxes) (omega arith)
      (λ name some. number-there tree.boxes name some) box g c);
}

-- the first of lines
pub begins_by : (lines same : List ℕ) (line : ℕ) (found : Option ℕ) → same ≡ lines → found ≡ first_of same →
    found ≡ Some line → BeginsWith lines line
begins_by lines [] line found e h is = absurd (cc)
begins_by lines (l ∷ ls) line found e h is = let same : l ≡ line = some-same (sym h ∙ is) in
    (ls, sym e ∙ ap (λ x. x ∷ ls) same)
  where
    some-same : {x y : ℕ} → Some x ≡ Some y → x ≡ y
    some-same e = cc

-- where nothing is found there are no lines
pub none_by : (lines same : List ℕ) (found : Option ℕ) → same ≡ lines → found ≡ first_of same →
    found ≡ None → lines ≡ []
none_by lines [] found e h is = sym e
none_by lines (l ∷ ls) found e h is = absurd (cc)
