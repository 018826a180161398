-- The program of a text that passes every check keeps what a checked program keeps.
use Rattle.std.specs.Prelude.{◌≡◌, ◌≢◌, ℕ, zero, suc, ◌+◌, ◌<◌, ◌≤◌, ◌==◌, nat_lt, Bool, true, false, ◌&&◌}
use Rattle.std.specs.Prelude.{◌||◌, not, if◌then◌else◌, List, [], ◌∷◌, ◌++◌, map, length, codes, take}
use Rattle.std.specs.Prelude.{slice_get, Option, None, Some, option_map, option_and_then, unwrap_or, All}
use Rattle.std.specs.Prelude.{is_none, Result, Ok, Err, IfOk, IsTrue, pos}
use Rattle.std.specs.Cmp.Derive.{both_true}
use Rattle.std.specs.List.{flat_map, AllByRecursion, count_by, find, list_any, position_from}
use Rattle.std.specs.Str.{bytes_eq}
use Rattle.std.proofs.lemmas.Slice.Eq.{bytes_eq-Decides}
use Rattle.std.proofs.lemmas.List.Sums.{sum_by-cons}
use Rattle.std.proofs.Common.{eq-eqb, refl, sym, ap, subst, ◌∙◌, arith}
use Rattle.seuss_program.specs.declared.tree.Name.{Name}
use Rattle.seuss_program.specs.declared.tree.Ref.{Ref}
use Rattle.seuss_program.specs.declared.tree.Ref.TheVariants as R
use Rattle.seuss_program.specs.declared.tree.Kind.{Kind}
use Rattle.seuss_program.specs.declared.tree.Op.{Op}
use Rattle.seuss_program.specs.declared.tree.Op.TheVariants as O
use Rattle.seuss_program.specs.declared.tree.Fun.{Fun}
use Rattle.seuss_program.specs.declared.tree.Fun.TheVariants as U
use Rattle.seuss_program.specs.declared.tree.Var.{Var}
use Rattle.seuss_program.specs.declared.tree.Param.{Param}
use Rattle.seuss_program.specs.declared.tree.Expr.{Expr}
use Rattle.seuss_program.specs.declared.tree.Node.TheOpen as L
use Rattle.seuss_program.specs.declared.tree.Node.TheVariants as NV
use Rattle.seuss_program.specs.declared.tree.Node.TheVariants.{rolls-Int, rolls-Name, rolls-Two, rolls-One}
use Rattle.seuss_program.specs.declared.tree.Statement.TheVariants as SV
use Rattle.seuss_program.specs.declared.tree.Statement.TheVariants.{rolls-Assign}
use Rattle.seuss_program.specs.declared.tree.Statement.TheOpen as S
use Rattle.seuss_program.specs.declared.tree.Alternative.{Alternative}
use Rattle.seuss_program.specs.WellFormed as WF
use Rattle.seuss_program.specs.WellFormed.{IsSmall, let_kinds, IsWellFormedProcedure, IsWellFormedCat}
use Rattle.seuss_program.specs.WellFormed.{IsWellFormed, has_numbers, statement_numbers}
use Rattle.seuss_program.specs.Values.{fits, HasSize}
use Rattle.seuss_program.specs.declared.tree.Given.{Given}
use Rattle.seuss_program.specs.declared.tree.Form.{Form}
use Rattle.seuss_program.specs.declared.tree.Form.TheVariants as F
use Rattle.seuss_program.specs.declared.tree.Proc.{Proc}
use Rattle.seuss_program.specs.declared.tree.Cat.{Cat}
use Rattle.seuss_program.specs.declared.tree.BoxDecl.{BoxDecl}
use Rattle.seuss_program.specs.declared.tree.Tree.{Tree}
use Rattle.seuss_program.specs.declared.program.ActionInfo.{ActionInfo}
use Rattle.seuss_program.specs.declared.program.BoxInfo.{BoxInfo}
use Rattle.seuss_program.specs.declared.program.Program.{Program}
use Rattle.seuss_program.specs.Programs.{level_of, level_in}
use Rattle.seuss_program.specs.Keeping as P
use Rattle.box_types.specs.declared.scopes.Scope.{Scope}
use Rattle.box_types.specs.Scopes.{cat_named, same, with_result, at_head}
use Rattle.box_types.specs.Walks as W
use Rattle.box_types.specs.Walks.{CatName, BoxName, BoxCat, BoxGiven}
use Rattle.box_types.specs.Twice.{fails, has_name}
use Rattle.box_types.specs.WrongKind as WK
use Rattle.box_types.specs.WrongType as T
use Rattle.box_types.specs.ArgumentCounts.{is_another}
use Rattle.box_types.specs.Limits as Li
use Rattle.box_types.specs.Namings as N
use Rattle.box_types.specs.Actions as Re
use Rattle.box_types.specs.BuiltInTexts.{with_built_ins, input, output, read, write, queue, assignment}
use Rattle.box_types.specs.BuiltInTexts.{of_queue, use_of, two, word, expression}
use Rattle.box_types.specs.Refusals.{IsAccepted}
use Rattle.box_types.specs.Unknown.{unknown_at}
use Rattle.box_types.specs.WrongKind.{kind_at}
use Rattle.box_types.specs.WrongType.{type_at}
use Rattle.box_types.specs.ArgumentCounts.{arguments_at}
use Rattle.box_types.specs.Limits.{count_at}
use Rattle.call_order.specs.Calls as C
use Rattle.call_order.specs.Calls.{lines_of, in_procedures, in_pres, in_bodies, in_statement, partial_calls}
use Rattle.call_order.specs.Calls.{total_calls}
use Rattle.box_types.specs.Namings.{named}
use Rattle.call_order.specs.Cycles.{given_of}
use Rattle.call_order.specs.Answers.{IsOrdered, Orders}
use Rattle.call_order.specs.declared.refusal.OrderRefusal.{OrderRefusal}
use Rattle.call_order.specs.LevelLists.{set_levels, levelled_at, level_above}
use Rattle.call_order.proofs.CheckedLemmas.{checked_is_ordered}
use Rattle.call_order.proofs.LevelRounds.{levels_after, program_of}
use Rattle.call_order.proofs.OneLevelling.{one_levelling}
use Rattle.call_order.proofs.CallLemmas.{lines-Assign}
use Rattle.call_order.proofs.LevelLemmas.{set-length}
use Rattle.call_order.proofs.NumberLemmas.{numbers-by, statement-roll}
use Rattle.call_order.proofs.NumberPlaces.{number_at, found_sized}
use Rattle.call_order.proofs.KeptJoins.{found_join}
use Rattle.box_types.proofs.KeptExpressions.{none-left, none-right, passes-by}
use Rattle.call_order.proofs.KeptCalls.{all_at, Clean, clean_by, At, at-number, get-map, find-position}
use Rattle.call_order.proofs.KeptCalls.{cat_at_number}
use Rattle.call_order.proofs.KeptStatements.{not-limit}
use Rattle.call_order.proofs.KeptCats.{few-numbered, map-length, all-by, by-all, all-map, kinds-roll}
use Rattle.call_order.proofs.KeptCats.{IsBeside, keeps-cat}

-- names with the same text have the same number
same-text : (a b : Name) → same a b ≡ true → a.text ≡ b.text
same-text a b h = (bytes_eq-Decides a.text b.text).0 h

-- the actions of a program, by either text
among-same : (box n : ℕ) (qs : List (Proc Ref)) → Re.actions_among box n qs ≡ P.actions_among box n qs
among-same box n [] = refl
among-same box n (q ∷ qs) = by_form q.form (among-same box (n + 1) qs)
  where
    by_form : (f : Form Ref) → Re.actions_among box (n + 1) qs ≡ P.actions_among box (n + 1) qs →
        (if Re.is_action f then record { box_number = box; procedure = n }
        ∷ Re.actions_among box (n + 1) qs else Re.actions_among box (n + 1) qs)
        ≡ (if P.is_action f then record { box_number = box; procedure = n }
        ∷ P.actions_among box (n + 1) qs else P.actions_among box (n + 1) qs)
    by_form (F.Total ss) h = h
    by_form (F.Partial alts) h = h
    by_form (F.Action alts) h = ap (λ xs. record { box_number = box; procedure = n } ∷ xs) h

-- the procedures of a cat are the same in both definitions
inside-same : (c : Option (Cat Ref)) → Re.procedures_in c ≡ P.procedures_in c
inside-same None = refl
inside-same (Some c) = refl

-- the actions of boxes are the same in both definitions
pub actions_same : (cats : List (Cat Ref)) (n : ℕ) (bs : List BoxInfo) →
    Re.actions_of cats n bs ≡ P.actions_of cats n bs
actions_same cats n [] = refl
actions_same cats n (b ∷ bs) =
    ap (λ xs. xs ++ Re.actions_of cats (n + 1) bs)
    (among-same n 0 (Re.procedures_in (slice_get cats b.cat))
    ∙ ap (P.actions_among n 0) (inside-same (slice_get cats b.cat)))
    ∙ ap (λ xs. P.actions_among n 0 (P.procedures_in (slice_get cats b.cat)) ++ xs)
    (actions_same cats (n + 1) bs)

-- levels don't matter to actions
pub actions_levelled : (cats : List (Cat Ref)) (n : ℕ) (bs : List BoxInfo) (ns : List ℕ) →
    length ns ≡ length bs → P.actions_of cats n (set_levels bs ns) ≡ P.actions_of cats n bs
actions_levelled cats n [] ns h = refl
actions_levelled cats n (b ∷ bs) [] h = absurd (omega (arith, h))
actions_levelled cats n (b ∷ bs) (m ∷ ms) h =
    ap (λ xs. P.actions_among n 0 (P.procedures_in (slice_get cats b.cat)) ++ xs)
    (actions_levelled cats (n + 1) bs ms (omega (arith, h)))

-- a box with its level
levelled-get : (bs : List BoxInfo) (ns : List ℕ) (k : ℕ) (b : BoxInfo) → length ns ≡ length bs →
    slice_get bs k ≡ Some b → (n : ℕ) × (slice_get (set_levels bs ns) k ≡ Some (levelled_at b n))
levelled-get [] ns k b h e = absurd (cc)
levelled-get (x ∷ xs) [] k b h e = absurd (omega (arith, h))
levelled-get (x ∷ xs) (n ∷ ns) zero b h e = let same : x ≡ b = cc in
    (n, ap (λ y. Some (levelled_at y n)) same)
levelled-get (x ∷ xs) (n ∷ ns) (suc k) b h e = levelled-get xs ns k b (omega (arith, h)) e

-- two lists together are as long as both
length-append : {X : Type 0} (xs ys : List X) → length (xs ++ ys) ≡ length xs + length ys
length-append [] ys = omega arith
length-append (x ∷ xs) ys = let r : length (xs ++ ys) ≡ length xs + length ys = length-append xs ys in
    omega (arith, r)

module _ (cats : List (Cat Name)) where
  -- how many actions a cat has
  form-action : (own : Cat Name) (q : Proc Name) →
      P.is_action (N.procedure cats own q).form ≡ WK.is_action q.form
  form-action own q = by_form q.form (with_result q (N.with_params q.params (at_head q [])))
    where
      by_form : (f : Form Name) (s : Scope) → P.is_action (N.form cats own f s) ≡ WK.is_action f
      by_form (F.Total ss) s = refl
      by_form (F.Partial alts) s = refl
      by_form (F.Action alts) s = refl

  -- there are as many actions with numbers as with names in a cat
  among-count : (own : Cat Name) (box n : ℕ) (qs : List (Proc Name)) →
      length (P.actions_among box n (map (N.procedure cats own) qs))
      ≡ count_by (λ (q : Proc Name). WK.is_action q.form) qs
  among-count own box n [] = refl
  among-count own box n (q ∷ qs) = subst
      (λ k. length (P.actions_among box n (map (N.procedure cats own) (q ∷ qs))) ≡ k)
      (sym (sum_by-cons (λ (x : Proc Name). if WK.is_action x.form then 1 else 0) q qs))
      (go (P.is_action (N.procedure cats own q).form) (WK.is_action q.form) (form-action own q)
      (among-count own box (n + 1) qs))
    where
      go : (s t : Bool) → s ≡ t → length (P.actions_among box (n + 1) (map (N.procedure cats own) qs))
          ≡ count_by (λ (q : Proc Name). WK.is_action q.form) qs →
          length (if s then record { box_number = box; procedure = n }
          ∷ P.actions_among box (n + 1) (map (N.procedure cats own) qs)
          else P.actions_among box (n + 1) (map (N.procedure cats own) qs))
          ≡ (if t then 1 else 0) + count_by (λ (q : Proc Name). WK.is_action q.form) qs
      go true true e h = omega (arith, h)
      go true false e h = absurd (cc)
      go false true e h = absurd (cc)
      go false false e h = omega (arith, h)

  -- there are as many actions in the cat of a box
  cat-count : (name : Name) (c : Cat Name) (box : ℕ) → cat_named cats name ≡ Some c →
      length (P.actions_among box 0
      (P.procedures_in (slice_get (map (N.cat cats) cats) (N.cat_number cats name))))
      ≡ Li.actions_in (cat_named cats name)
  cat-count name c box h =
      ap (λ o. length (P.actions_among box 0 (P.procedures_in o))) (cat_at_number cats name c h)
      ∙ (among-count c box 0 c.procs ∙ sym (ap Li.actions_in h))

  -- a box whose places pass
  module _ (boxes : List BoxDecl) where
    -- the cat of a declared box is known
    record BoxClean (d : BoxDecl) : Type 0 where
      cat : Cat Name
      named : cat_named cats d.cat ≡ Some cat

    -- a cat that isn't missing is known
    known-cat : (name : Name) → is_none (cat_named cats name) ≡ false →
        (c : Cat Name) × (cat_named cats name ≡ Some c)
    known-cat name h = go (cat_named cats name) h
      where
        go : (o : Option (Cat Name)) → is_none o ≡ false → (c : Cat Name) × (o ≡ Some c)
        go None h = absurd (cc)
        go (Some c) h = (c, refl)

    -- a box at which nothing is found is clean
    box-cat : (n : ℕ) (d : BoxDecl) → W.box all_at cats boxes n d ≡ [] → BoxClean d
    box-cat n d lines =
        let clean : Clean (BoxCat cats d) = clean_by (BoxCat cats d)
        (none-left _ _ (none-right (all_at (BoxName cats boxes n d)) _ lines)) in
        let c = known-cat d.cat (passes-by (is_none (cat_named cats d.cat)) d.cat.line clean.unknown) in
        record { cat = c.0; named = c.1 }

    -- all boxes together have at most 256 actions
    take-front : {X : Type 0} (xs ys : List X) → take (length xs) (xs ++ ys) ≡ xs
    take-front [] ys = refl
    take-front (x ∷ xs) ys = ap (λ l. x ∷ l) (take-front xs ys)

    -- one more box adds the actions of its cat
    actions-push : (before : List BoxDecl) (b : BoxDecl) →
        Li.actions_of cats (before ++ b ∷ []) ≡ Li.actions_of cats before + Li.actions_in
        (cat_named cats b.cat)
    actions-push [] b = omega arith
    actions-push (x ∷ xs) b =
        let r : Li.actions_of cats (xs ++ b ∷ [])
        ≡ Li.actions_of cats xs + Li.actions_in (cat_named cats b.cat) = actions-push xs b in
        omega (arith, r)

    -- where neither of two tests holds, the right one doesn't
    either-right : (a b : Bool) → (a || b) ≡ false → b ≡ false
    either-right true b h = absurd (cc)
    either-right false b h = h

    -- a sum that doesn't pass 256 is at most 256
    not-past : (a b : ℕ) → a ≤ 256 → (nat_lt a 257 && nat_lt 256 (a + b)) ≡ false → a + b ≤ 256
    not-past a b low h = go (nat_lt a 257) (nat_lt 256 (a + b)) refl refl h
      where
        go : (s t : Bool) → nat_lt a 257 ≡ s → nat_lt 256 (a + b) ≡ t → (s && t) ≡ false → a + b ≤ 256
        go true true hs ht e = absurd (cc)
        go true false hs ht e = grind (arith, ht)
        go false t hs ht e = absurd (grind (arith, hs, low))

    -- an item after a list, and then another list
    push-append : {X : Type 0} (xs : List X) (y : X) (ys : List X) → (xs ++ y ∷ []) ++ ys ≡ xs ++ y ∷ ys
    push-append [] y ys = refl
    push-append (x ∷ xs) y ys = ap (λ l. x ∷ l) (push-append xs y ys)

    -- boxes at which nothing is found have at most 256 actions
    pub few-actions : (before bs : List BoxDecl) (n k : ℕ) → boxes ≡ before ++ bs → n ≡ length before →
        Li.actions_of cats before ≤ 256 →
        W.numbered (W.box all_at cats boxes) n bs ≡ [] →
        Li.actions_of cats before + length
        (P.actions_of (map (N.cat cats) cats) k (map (N.box_info cats boxes) bs)) ≤ 256
    few-actions before [] n k whole at low lines = omega (arith, low)
    few-actions before (b ∷ bs) n k whole at low lines =
        let here : W.box all_at cats boxes n b ≡ [] = none-left (W.box all_at cats boxes n b) _ lines in
        let clean : Clean (BoxName cats boxes n b) =
        clean_by (BoxName cats boxes n b) (none-left _ _ here) in
        let front : take n boxes ≡ before = ap (λ (l : List BoxDecl). take n l) whole
        ∙ (ap (λ m. take m (before ++ b ∷ bs)) at ∙ take-front before (b ∷ bs)) in
        let a : ℕ = Li.actions_in (cat_named cats b.cat) in
        let limit : (nat_lt (Li.actions_of cats before) 257 && nat_lt 256 (Li.actions_of cats before + a))
        ≡ false =
        subst (λ l. Li.passes cats l b ≡ false) front
        (either-right (n == 128) (Li.passes cats (take n boxes) b)
        (passes-by (n == 128 || Li.passes cats (take n boxes) b) b.name.line clean.count)) in
        let together : Li.actions_of cats (before ++ b ∷ []) ≡ Li.actions_of cats before + a =
        actions-push before b in
        let under : Li.actions_of cats before + a ≤ 256 = not-past (Li.actions_of cats before) a low limit in
        let named : BoxClean b = box-cat n b here in
        let count : length (P.actions_among k 0
        (P.procedures_in (slice_get (map (N.cat cats) cats) (N.cat_number cats b.cat)))) ≡ a =
        cat-count b.cat named.cat k named.named in
        let rest : Li.actions_of cats (before ++ b ∷ []) + length
        (P.actions_of (map (N.cat cats) cats) (k + 1) (map (N.box_info cats boxes) bs)) ≤ 256 =
        few-actions (before ++ b ∷ []) bs (n + 1) (k + 1) (whole ∙ sym (push-append before b bs))
        (let l : length (before ++ b ∷ []) ≡ length before + 1 = length-append before (b ∷ []) in
        omega (arith, at, l))
        (omega (arith, together, under)) (none-right (W.box all_at cats boxes n b) _ lines) in
        let split : length (P.actions_of (map (N.cat cats) cats) k (map (N.box_info cats boxes) (b ∷ bs)))
        ≡ length (P.actions_among k 0
        (P.procedures_in (slice_get (map (N.cat cats) cats) (N.cat_number cats b.cat)))) + length
        (P.actions_of (map (N.cat cats) cats) (k + 1) (map (N.box_info cats boxes) bs)) =
        length-append (P.actions_among k 0
        (P.procedures_in (slice_get (map (N.cat cats) cats) (N.cat_number cats b.cat)))) _ in
        omega (arith, rest, split, count, together)

    -- a box of a name
    any-find : (test : BoxDecl → Bool) (xs : List BoxDecl) → list_any test xs ≡ true →
        (x : BoxDecl) × (find test xs ≡ Some x)
    any-find test [] h = absurd (cc)
    any-find test (x ∷ xs) h = go (test x) (list_any test xs) (find test xs) h (any-find test xs)
      where
        go : (t s : Bool) (f : Option BoxDecl) → (t || s) ≡ true →
            (s ≡ true → (y : BoxDecl) × (f ≡ Some y)) → (y : BoxDecl) × ((if t then Some x else f) ≡ Some y)
        go true s f h r = (x, refl)
        go false s f h r = r h

    -- a test whose opposite fails holds
    not-true : (b : Bool) → not b ≡ false → b ≡ true
    not-true true h = refl
    not-true false h = absurd (cc)

    -- names of the same text are of the same cat
    number-same : (a b : Name) → a.text ≡ b.text → N.cat_number cats a ≡ N.cat_number cats b
    number-same a b h = ap
        (λ t. unwrap_or (position_from (λ (c : Cat Name). bytes_eq c.name.text t) 0 cats) 0) h

    -- a given box is there, and of the cat that is wanted
    one-given : (d : BoxDecl) (c : Cat Name) (n : ℕ) (g : Given Name) (name : Name) (ns : List ℕ) →
        cat_named cats d.cat ≡ Some c → slice_get c.given n ≡ Some g →
        length ns ≡ length (map (N.box_info cats boxes) boxes) → Clean (BoxGiven cats boxes d n name) →
        P.is_box_of (slice_get (set_levels (map (N.box_info cats boxes) boxes) ns)
        (N.box_number boxes name)) (R.Cat (N.cat_number cats g.cat)) ≡ true
    one-given d c n g name ns named at long clean =
        let any : has_name (λ (b : BoxDecl). b.name) boxes name ≡ true =
        not-true (has_name (λ (b : BoxDecl). b.name) boxes name)
        (passes-by (not (has_name (λ (b : BoxDecl). b.name) boxes name)) name.line clean.unknown) in
        let found = any-find (λ (b : BoxDecl). same b.name name) boxes any in
        let b' : BoxDecl = found.0 in
        let p = find-position (λ (b : BoxDecl). same b.name name) 0 boxes b' found.1 in
        let place : At (λ (b : BoxDecl). b.name) boxes name p.0 =
        at-number (λ (b : BoxDecl). b.name) boxes name p.0 p.1 in
        let is_same : place.item ≡ b' = some-same (sym place.found ∙ found.1) in
        let wanted : T.wanted_cat cats d.cat n ≡ Some g.cat =
        ap (λ o. option_map (λ (x : Given Name). x.cat)
        (option_and_then (λ (x : Cat Name). slice_get x.given n) o)) named
        ∙ ap (option_map (λ (x : Given Name). x.cat)) at in
        let cat : T.cat_of_box boxes name ≡ Some b'.cat = ap (option_map (λ (x : BoxDecl). x.cat)) found.1 in
        let differs : not (same g.cat b'.cat) ≡ false =
        subst (λ o. T.is_other_cat (Some g.cat) o ≡ false) cat
        (subst (λ o. T.is_other_cat o (T.cat_of_box boxes name) ≡ false) wanted
        (passes-by (T.is_other_cat (T.wanted_cat cats d.cat n) (T.cat_of_box boxes name)) name.line
        clean.type)) in
        let number : N.cat_number cats b'.cat ≡ N.cat_number cats g.cat =
        number-same b'.cat g.cat (sym (same-text g.cat b'.cat (not-true (same g.cat b'.cat) differs))) in
        let got = levelled-get (map (N.box_info cats boxes) boxes) ns p.0 (N.box_info cats boxes b') long
        (get-map (N.box_info cats boxes) boxes p.0
        ∙ (ap (option_map (N.box_info cats boxes)) place.there
        ∙ ap (λ x. Some (N.box_info cats boxes x)) is_same)) in
        ap (λ o. P.is_box_of (slice_get (set_levels (map (N.box_info cats boxes) boxes) ns) (unwrap_or o 0))
        (R.Cat (N.cat_number cats g.cat))) p.1
        ∙ (ap (λ o. P.is_box_of o (R.Cat (N.cat_number cats g.cat))) got.1
        ∙ eq-eqb (N.cat_number cats b'.cat) (N.cat_number cats g.cat) number)
      where
        some-same : {x y : BoxDecl} → Some x ≡ Some y → x ≡ y
        some-same e = cc

    -- given boxes at which nothing is found are of the declared cats
    givens-fit : (d : BoxDecl) (c : Cat Name) (gs : List (Given Name)) (names : List Name) (n : ℕ)
        (ns : List ℕ) → cat_named cats d.cat ≡ Some c →
        ((i : ℕ) → slice_get c.given (n + i) ≡ slice_get gs i) → length gs ≡ length names →
        length ns ≡ length (map (N.box_info cats boxes) boxes) →
        W.numbered (W.box_given all_at cats boxes d) n names ≡ [] →
        P.given_fit (set_levels (map (N.box_info cats boxes) boxes) ns) (map (N.box_number boxes) names)
        (map (N.given cats) gs) ≡ true
    givens-fit d c [] [] n ns named at count long lines = refl
    givens-fit d c [] (x ∷ xs) n ns named at count long lines = absurd (omega (arith, count))
    givens-fit d c (g ∷ gs) [] n ns named at count long lines = absurd (omega (arith, count))
    givens-fit d c (g ∷ gs) (name ∷ names) n ns named at count long lines =
        let here : slice_get c.given n ≡ Some g =
        (let e : n ≡ n + 0 = omega arith in ap (slice_get c.given) e ∙ at 0) in
        let one = one-given d c n g name ns named here long
        (clean_by (BoxGiven cats boxes d n name)
        (none-left (W.box_given all_at cats boxes d n name) _ lines)) in
        let rest = givens-fit d c gs names (n + 1) ns named
        (λ i. (let e : n + 1 + i ≡ n + suc i = omega arith in ap (slice_get c.given) e ∙ at (suc i)))
        (omega (arith, count)) long
        (none-right (W.box_given all_at cats boxes d n name) _ lines) in
        ap (λ t. t && P.given_fit (set_levels (map (N.box_info cats boxes) boxes) ns)
        (map (N.box_number boxes) names) (map (N.given cats) gs)) one ∙ rest

    -- numbers that don't differ are the same
    same-count : (a b : ℕ) → not (a == b) ≡ false → a ≡ b
    same-count a b h = let e : (a == b) ≡ true = not-true (a == b) h in grind (arith, e)

    -- what a box of the program keeps of its declaration
    pub record BoxKept (ns : List ℕ) (b : BoxInfo) : Type 0 where
      pub cat : Cat Ref
      pub there : slice_get (map (N.cat cats) cats) b.cat ≡ Some cat
      pub given : P.given_fit (set_levels (map (N.box_info cats boxes) boxes) ns) b.given cat.given ≡ true

    -- a box at which nothing is found is kept
    box-kept : (n level : ℕ) (d : BoxDecl) (ns : List ℕ) →
        length ns ≡ length (map (N.box_info cats boxes) boxes) → W.box all_at cats boxes n d ≡ [] →
        BoxKept ns (levelled_at (N.box_info cats boxes d) level)
    box-kept n level d ns long lines =
        let named : BoxClean d = box-cat n d lines in
        let after1 = none-right (all_at (BoxName cats boxes n d)) _ lines in
        let clean : Clean (BoxCat cats d) = clean_by (BoxCat cats d) (none-left _ _ after1) in
        let count : length (named.cat).given ≡ length d.given =
        same-count (length (named.cat).given) (length d.given)
        (subst (λ o. is_another (option_map (λ (x : Cat Name). length x.given) o) (length d.given) ≡ false)
        named.named
        (passes-by (is_another (option_map (λ (x : Cat Name). length x.given) (cat_named cats d.cat))
        (length d.given)) d.cat.line clean.arguments)) in
        record {
          cat = N.cat cats named.cat;
          there = cat_at_number cats d.cat named.cat named.named;
          given = givens-fit d named.cat (named.cat).given d.given 0 ns named.named
              (λ i. (let e : 0 + i ≡ i = omega arith in ap (slice_get (named.cat).given) e)) count long
              (none-right (all_at (BoxCat cats d)) _ after1);
        }

    -- boxes at which nothing is found are kept
    pub boxes-kept : (n : ℕ) (ds : List BoxDecl) (ms ns : List ℕ) →
        length ns ≡ length (map (N.box_info cats boxes) boxes) → length ms ≡ length ds →
        W.numbered (W.box all_at cats boxes) n ds ≡ [] →
        AllByRecursion (BoxKept ns) (set_levels (map (N.box_info cats boxes) ds) ms)
    boxes-kept n [] ms ns long count lines = tt
    boxes-kept n (d ∷ ds) [] ns long count lines = absurd (omega (arith, count))
    boxes-kept n (d ∷ ds) (m ∷ ms) ns long count lines = (
      box-kept n m d ns long (none-left (W.box all_at cats boxes n d) _ lines),
      boxes-kept (n + 1) ds ms
          ns long (omega (arith, count)) (none-right (W.box all_at cats boxes n d) _ lines),
    )

-- what a list of lists lacks, each of them lacks
flat-none : {X : Type 0} (f : X → List ℕ) (xs : List X) → flat_map f xs ≡ [] →
    AllByRecursion (λ x. f x ≡ []) xs
flat-none f [] h = tt
flat-none f (x ∷ xs) h = (none-left (f x) _ h, flat-none f xs (none-right (f x) _ h))

-- what follows from three facts holds of all items of which these hold
all-three : {X : Type 0} (Q S T U : X → Type 0) → ((x : X) → Q x → S x → T x → U x) → (xs : List X) →
    AllByRecursion Q xs → AllByRecursion S xs → AllByRecursion T xs → AllByRecursion U xs
all-three Q S T U h [] q s t = tt
all-three Q S T U h (x ∷ xs) q s t = (h x q.0 s.0 t.0, all-three Q S T U h xs q.1 s.1 t.1)

-- what follows from a fact and an empty search holds of all items
all-numbered-with : {X : Type 0} (f : ℕ → X → List ℕ) (Q S : X → Type 0) →
    ((m : ℕ) (x : X) → Q x → f m x ≡ [] → S x) → (n : ℕ) (xs : List X) → AllByRecursion Q xs →
    W.numbered f n xs ≡ [] → AllByRecursion S xs
all-numbered-with f Q S h n [] all lines = tt
all-numbered-with f Q S h n (x ∷ xs) all lines = (
  h n x all.0 (none-left (f n x) _ lines),
  all-numbered-with f Q S h (n + 1) xs all.1
      (none-right (f n x) _ lines),
)

-- a cat that is well formed and whose calls are right
abbrev IsSound : List (Cat Name) → Cat Name → Type 0
IsSound cats own = AllByRecursion (IsBeside cats own) own.procs × IsWellFormedCat own

-- a well formed cat whose calls are right is sound
sound-cat : (cats : List (Cat Name)) (own : Cat Name) →
    in_procedures in_pres (lines_of cats own.given C.is_total) own.procs ≡ [] →
    in_procedures in_bodies (lines_of cats own.given C.is_partial) own.procs ≡ [] → IsWellFormedCat own →
    IsSound cats own
sound-cat cats own pres bodies formed = (
  all-three (λ (q : Proc Name). in_pres (lines_of cats own.given C.is_total) q.form ≡ [])
      (λ (q : Proc Name). in_bodies (lines_of cats own.given C.is_partial) q.form ≡ [])
      IsWellFormedProcedure
      (IsBeside cats own) (λ q a b c. (a, b, c)) own.procs
      (flat-none (λ (q : Proc Name). in_pres (lines_of cats own.given C.is_total) q.form) own.procs
      pres)
      (flat-none (λ (q : Proc Name). in_bodies (lines_of cats own.given C.is_partial) q.form) own.procs
      bodies) (by-all IsWellFormedProcedure own.procs formed.procs),
  formed,
)

-- what holds of an item holds of the list of it
single : {X : Type 0} (Q : X → Type 0) (x : X) → Q x → All Q (x ∷ [])
single Q x q = all-by Q (x ∷ []) (q, tt)

-- the built-in cats
no-locals : (name : Name) (e : Expr Name) → let_kinds (SV.Assign name e) ≡ []
no-locals name e = ap let_kinds (sym (rolls-Assign name e)) ∙ kinds-roll (S.Assign name e)

-- no kinds are those of locals
none-small : (ks : List Kind) → ks ≡ [] → All IsSmall ks
none-small ks h = subst (All IsSmall) (sym h) (all-by IsSmall [] tt)

-- reading has no `let`
read-lets : flat_map let_kinds
    (assignment (codes "result") (of_queue U.First) ∷ assignment (codes "q") (of_queue U.Rest) ∷ []) ≡ []
read-lets = ap (λ l. l ++ (let_kinds (assignment (codes "q") (of_queue U.Rest)) ++ []))
    (no-locals _ (of_queue U.First)) ∙ ap (λ l. l ++ []) (no-locals _ (of_queue U.Rest))

-- an expression that is a name has no number
use-sized : (text : List ℕ) → has_numbers (use_of text) ≡ true
use-sized text = numbers-by (use_of text) (L.Name (word text)) (rolls-Name (word text))

-- nor has one of the queue
queue-sized : (fun : Fun) → has_numbers (of_queue fun) ≡ true
queue-sized fun = numbers-by (of_queue fun) (L.One fun (use_of (codes "q")))
    (rolls-One fun (use_of (codes "q"))) ∙ use-sized (codes "q")

-- an operator whose parts have numbers of 64 bits has them
two-sized : (op : Op) (l r : Expr Name) → has_numbers l ≡ true → has_numbers r ≡ true →
    has_numbers (two op l r) ≡ true
two-sized op l r h k = numbers-by (two op l r) (L.Two op l r) (rolls-Two op l r) ∙ both_true h k

-- and an assignment whose expression has them
assignment-sized : (text : List ℕ) (e : Expr Name) → has_numbers e ≡ true →
    statement_numbers (assignment text e) ≡ true
assignment-sized text e h = ap statement_numbers (sym (rolls-Assign (word text) e))
    ∙ (statement-roll (S.Assign (word text) e) ∙ h)

-- reading is well formed
read-formed : IsWellFormedProcedure read
read-formed = record {
  params = all-by (λ (x : Param). IsSmall x.kind) [] tt;
  form = record {
    some = (λ e. absurd (cc));
    bodies = single (λ (a : Alternative Name). WF.HasSmallLocals a.body) _ (none-small _ read-lets);
  };
  numbers = both_true (both_true
      (two-sized O.Gt (of_queue U.Len) (expression (NV.Int (pos 0))) (queue-sized U.Len)
      (numbers-by (expression (NV.Int (pos 0))) (L.Int (pos 0)) (rolls-Int (pos 0))))
      (both_true (assignment-sized (codes "result") (of_queue U.First) (queue-sized U.First))
      (both_true (assignment-sized (codes "q") (of_queue U.Rest) (queue-sized U.Rest)) refl))) refl;
}

-- writing is well formed
write-formed : IsWellFormedProcedure write
write-formed = record {
  params = single (λ (x : Param). IsSmall x.kind) _ tt;
  form = none-small _ (ap (λ l. l ++ [])
      (no-locals _ (two O.Add (use_of (codes "q")) (use_of (codes "x")))));
  numbers = both_true (assignment-sized (codes "q") (two O.Add (use_of (codes "q")) (use_of (codes "x")))
      (two-sized O.Add (use_of (codes "q")) (use_of (codes "x")) (use-sized (codes "q"))
      (use-sized (codes "x")))) refl;
}

-- the queue of a built-in cat begins with a sequence
queue-formed : All (λ (v : Var). WF.HasKind v.start v.kind) queue
queue-formed = single (λ (v : Var). WF.HasKind v.start v.kind) _ refl

-- the queue begins with no number
no-numbers : All (λ (v : Var). HasSize v.start) queue
no-numbers = single (λ (v : Var). HasSize v.start) _ (all-by (λ z. IsTrue (fits z)) [] tt)

-- the cat of the input is well formed
input-formed : IsWellFormedCat input
input-formed = record {
  starts = queue-formed;
  sizes = no-numbers;
  procs = single IsWellFormedProcedure read read-formed;
}

-- and that of the output
output-formed : IsWellFormedCat output
output-formed = record {
  starts = queue-formed;
  sizes = no-numbers;
  procs = single IsWellFormedProcedure write write-formed;
}

-- a text that is well formed is so with the built-in cats
built-ins-formed : (tree : Tree) → IsWellFormed tree → IsWellFormed (with_built_ins tree)
built-ins-formed tree formed = all-by IsWellFormedCat (with_built_ins tree).cats
    (input-formed, (output-formed, by-all IsWellFormedCat tree.cats formed))

-- the cat of the input is sound
input-sound : (cats : List (Cat Name)) → IsSound cats input
input-sound cats = sound-cat cats input refl
    (ap (λ l. ((l ++ (in_statement (lines_of cats [] C.is_partial)
    (assignment (codes "q") (of_queue U.Rest)) ++ [])) ++ []) ++ [])
    (lines-Assign (lines_of cats [] C.is_partial) _ _ (of_queue U.First) refl)
    ∙ ap (λ l. ((l ++ []) ++ []) ++ [])
    (lines-Assign (lines_of cats [] C.is_partial) _ _ (of_queue U.Rest) refl))
    input-formed

-- the cat of the output is sound
output-sound : (cats : List (Cat Name)) → IsSound cats output
output-sound cats = sound-cat cats output refl
    (ap (λ l. (l ++ []) ++ [])
    (lines-Assign (lines_of cats [] C.is_partial) _ _
    (two O.Add (use_of (codes "q")) (use_of (codes "x"))) refl))
    output-formed

-- every place of a text that passes the checks passes all of them
all-found : (tree : Tree) → IsWellFormed tree → IsAccepted tree → W.found all_at (with_built_ins tree) ≡ []
all-found tree formed a =
    found_join number_at (λ x. unknown_at x ++ (kind_at x ++ (type_at x ++ (arguments_at x ++ count_at x))))
    (with_built_ins tree) (found_sized (with_built_ins tree) (built-ins-formed tree formed))
    (found_join unknown_at (λ x. kind_at x ++ (type_at x ++ (arguments_at x ++ count_at x)))
    (with_built_ins tree) a.unknown
    (found_join kind_at (λ x. type_at x ++ (arguments_at x ++ count_at x)) (with_built_ins tree) a.wrong_kind
    (found_join type_at (λ x. arguments_at x ++ count_at x) (with_built_ins tree) a.wrong_type
    (found_join arguments_at count_at (with_built_ins tree) a.arguments a.count))))

-- all cats of a text are sound
sound-cats : (tree : Tree) → IsWellFormed tree → partial_calls tree ≡ [] → total_calls tree ≡ [] →
    AllByRecursion (IsSound (with_built_ins tree).cats) (with_built_ins tree).cats
sound-cats tree formed partials totals =
    let cats : List (Cat Name) = (with_built_ins tree).cats in (
      input-sound cats,
      (
        output-sound cats,
        all-three (λ (own : Cat Name). in_procedures in_pres (lines_of cats own.given C.is_total) own.procs
            ≡ []) (λ (own : Cat Name). in_procedures in_bodies (lines_of cats own.given C.is_partial)
            own.procs ≡ [])
            IsWellFormedCat (IsSound cats) (sound-cat cats) tree.cats
            (flat-none (λ (own : Cat Name). in_procedures in_pres (lines_of cats own.given C.is_total)
            own.procs) tree.cats totals)
            (flat-none (λ (own : Cat Name). in_procedures in_bodies (lines_of cats own.given C.is_partial)
            own.procs) tree.cats partials) (by-all IsWellFormedCat tree.cats formed),
      ),
    )

-- a number that passes a check of a limit, and of something else, isn't at the limit
away : (a : ℕ) (b : Bool) (line limit : ℕ) → fails (a == limit || b) line ≡ [] → a ≢ limit
away a b line limit h e =
    let f : (a == limit || b) ≡ false = passes-by (a == limit || b) line h in
    go (a == limit) b f (let t : (a == limit) ≡ true = grind (arith, e) in t)
  where
    go : (t s : Bool) → (t || s) ≡ false → t ≡ true → ⊥
    go true s h k = absurd (cc)
    go false s h k = absurd (cc)

-- after some rounds there is a level for each box
levels-count : (boxes : List BoxInfo) (r m : ℕ) → m ≡ r + 1 → length (levels_after boxes m) ≡ length boxes
levels-count boxes r m h =
    (let e : m ≡ suc r = omega (arith, h) in ap (λ k. length (levels_after boxes k)) e)
    ∙ map-length (λ (b : BoxInfo). level_above (levels_after boxes r) b.given) boxes

-- what is kept of a box, and its level
box-keeps : (p : Program) (bs : List BoxInfo) → AllByRecursion
    (λ (b : BoxInfo). (c : Cat Ref) × (slice_get p.cats b.cat ≡ Some c)
    × (P.given_fit p.boxes b.given c.given ≡ true)) bs →
    AllByRecursion (λ (b : BoxInfo). b.level ≡ P.above (map (level_of p) b.given)) bs →
    AllByRecursion (P.KeepsBox p) bs
box-keeps p [] kept levels = tt
box-keeps p (b ∷ bs) kept levels = (
  record { cat = ((kept.0).0, (kept.0).1, (kept.0).2); level = levels.0 },
  box-keeps p bs kept.1
      levels.1,
)

-- what follows from a fact holds of all items of which the fact holds
all-same : {X : Type 0} (Q S : X → Type 0) → ((x : X) → Q x → S x) → (xs : List X) → AllByRecursion Q xs →
    AllByRecursion S xs
all-same Q S h [] all = tt
all-same Q S h (x ∷ xs) all = (h x all.0, all-same Q S h xs all.1)

-- the program of a text that passes every check keeps what a checked program keeps
pub keeps_by : (tree : Tree) → IsWellFormed tree → IsAccepted tree → partial_calls tree ≡ [] →
    total_calls tree ≡ [] →
    All (λ (b : BoxInfo). b.level ≡ P.above (map (level_of (program_of tree)) b.given))
    (program_of tree).boxes → P.Keeps (program_of tree)
keeps_by tree formed accepted partials totals levels =
    let cats : List (Cat Name) = (with_built_ins tree).cats in
    let boxes : List BoxDecl = tree.boxes in
    let infos : List BoxInfo = map (N.box_info cats boxes) boxes in
    let ns : List ℕ = levels_after infos (length infos + 1) in
    let count : length ns ≡ length infos = levels-count infos (length infos) (length infos + 1) refl in
    let infos_count : length infos ≡ length boxes = map-length (N.box_info cats boxes) boxes in
    let all : W.found all_at (with_built_ins tree) ≡ [] = all-found tree formed accepted in
    let on_cats : W.numbered (W.cat all_at cats) 0 cats ≡ [] =
    none-left _ (W.numbered (W.box all_at cats boxes) 0 boxes) all in
    let on_boxes : W.numbered (W.box all_at cats boxes) 0 boxes ≡ [] =
    none-right (W.numbered (W.cat all_at cats) 0 cats) _ all in
    let few_cats : 0 + length cats ≤ 66 = few-numbered (W.cat all_at cats) 66
    (λ m c h. not-limit m 66 c.name.line (clean_by (CatName cats m c.name) (none-left _ _ h)).count) 0
    cats (omega arith) on_cats in
    let few_boxes : 0 + length boxes ≤ 128 =
    few-numbered (W.box all_at cats boxes) 128
    (λ m b h. away m (Li.passes cats (take m boxes) b) b.name.line 128
    (clean_by (BoxName cats boxes m b) (none-left _ _ h)).count) 0 boxes (omega arith) on_boxes in
    let few_actions : 0 + length (P.actions_of (map (N.cat cats) cats) 0 infos) ≤ 256 =
    few-actions cats boxes [] boxes 0 0 refl refl (omega arith) on_boxes in
    let actions : Re.actions_of (map (N.cat cats) cats) 0 infos
    ≡ P.actions_of (map (N.cat cats) cats) 0 infos = actions_same (map (N.cat cats) cats) 0 infos in
    record {
      cats = all-by (P.KeepsCat (map (N.cat cats) cats)) (map (N.cat cats) cats)
          (all-map (P.KeepsCat (map (N.cat cats) cats)) (N.cat cats) cats
          (all-numbered-with (W.cat all_at cats) (IsSound cats)
          (λ c. P.KeepsCat (map (N.cat cats) cats) (N.cat cats c))
          (λ m c sound h. keeps-cat cats c m sound.0 sound.1 h) 0 cats
          (sound-cats tree formed partials totals) on_cats));
      boxes = all-by (P.KeepsBox (program_of tree)) (program_of tree).boxes
          (box-keeps (program_of tree) (program_of tree).boxes
          (all-same (BoxKept cats boxes ns)
          (λ (b : BoxInfo). (c : Cat Ref) × (slice_get (program_of tree).cats b.cat ≡ Some c)
          × (P.given_fit (program_of tree).boxes b.given c.given ≡ true))
          (λ b k. (k.cat, k.there, k.given)) (program_of tree).boxes
          (boxes-kept cats boxes 0 boxes ns ns count (count ∙ infos_count) on_boxes))
          (by-all (λ (b : BoxInfo). b.level ≡ P.above (map (level_of (program_of tree)) b.given))
          (program_of tree).boxes levels));
      actions = actions ∙ sym (actions_levelled (map (N.cat cats) cats) 0 infos ns count);
      input = refl;
      output = refl;
      few_cats = (let e : length (map (N.cat cats) cats) ≡ length cats = map-length (N.cat cats) cats in
          omega (arith, few_cats, e));
      few_boxes = (let e : length (set_levels infos ns) ≡ length infos = set-length infos ns count in
          omega (arith, few_boxes, e, infos_count));
      few_actions = (let e : length (Re.actions_of (map (N.cat cats) cats) 0 infos)
          ≡ length (P.actions_of (map (N.cat cats) cats) 0 infos) =
          ap (λ (l : List ActionInfo). length l) actions in omega (arith, few_actions, e));
    }

-- a text that passes every check has at most 128 boxes
pub few_boxes_by : (tree : Tree) → IsAccepted tree → length (named tree).boxes ≤ 128
few_boxes_by tree accepted =
    let cats : List (Cat Name) = (with_built_ins tree).cats in
    let boxes : List BoxDecl = tree.boxes in
    let infos_count : length (map (N.box_info cats boxes) boxes) ≡ length boxes =
    map-length (N.box_info cats boxes) boxes in
    let on_boxes : W.numbered (W.box count_at cats boxes) 0 boxes ≡ [] =
    none-right (W.numbered (W.cat count_at cats) 0 cats) _ accepted.count in
    let few : 0 + length boxes ≤ 128 =
    few-numbered (W.box count_at cats boxes) 128
    (λ m b h. away m (Li.passes cats (take m boxes) b) b.name.line 128
    (none-left (count_at (BoxName cats boxes m b)) _ h)) 0 boxes (omega arith) on_boxes in
    omega (arith, few, infos_count)

-- the program that is answered keeps it
pub answer_keeps : (r : Result Program OrderRefusal) (tree : Tree) → IsWellFormed tree → IsAccepted tree →
    Orders r tree → IfOk r P.Keeps
answer_keeps (Ok p) tree formed accepted ordered =
    let same : IsOrdered (program_of tree) tree =
    checked_is_ordered tree ordered.partial_calls ordered.total_calls ordered.cycles in
    subst P.Keeps (one_levelling (named tree) (program_of tree) p same.levels ordered.levels)
    (keeps_by tree formed accepted ordered.partial_calls ordered.total_calls same.levels.levels)
answer_keeps (Err refusal) tree formed accepted ordered = tt

-- and has few actions
pub answer_few : (r : Result Program OrderRefusal) → IfOk r P.Keeps →
    IfOk r (λ (p : Program). length p.actions ≤ 256)
answer_few (Ok p) keeps = keeps.few_actions
answer_few (Err refusal) keeps = tt

-- the level of a box that is kept
pub level_kept : (p : Program) (n : ℕ) → P.Keeps p → n < length p.boxes →
    level_of p n ≡ P.above (map (level_of p) (given_of p.boxes n))
level_kept p n keeps below = by_boxes p.boxes n keeps.boxes below
  where
    by_boxes : (bs : List BoxInfo) (n : ℕ) → All (P.KeepsBox p) bs → n < length bs →
        level_in (slice_get bs n) ≡ P.above (map (level_of p) (given_of bs n))
    by_boxes [] n all below = absurd (omega (arith, below))
    by_boxes (b ∷ bs) zero all below = (all 0 b (omega arith)).level
    by_boxes (b ∷ bs) (suc n) all below = by_boxes bs n (λ k d h. all (suc k) d (omega (arith, h)))
        (omega (arith, below))
