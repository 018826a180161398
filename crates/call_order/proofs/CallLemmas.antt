-- The first of lines that are found in parts, and the calls of a statement by its parts.
use Rattle.std.specs.Prelude.{◌≡◌, ℕ, suc, ◌+◌, ◌<◌, List, [], ◌∷◌, ◌++◌, length, Option, None, Some}
use Rattle.std.specs.List.{flat_map}
use Rattle.std.proofs.Common.{refl, sym, ap, ◌∙◌, arith, get_or, drop, drop-cons}
use Rattle.seuss_program.specs.declared.tree.Name.{Name}
use Rattle.seuss_program.specs.declared.tree.Kind.{Kind}
use Rattle.seuss_program.specs.declared.tree.Call.{Call}
use Rattle.seuss_program.specs.declared.tree.Expr.{Expr}
use Rattle.seuss_program.specs.declared.tree.Statement.{Statement, fold-Statement, fold-roll-Statement}
use Rattle.seuss_program.specs.declared.tree.Statement.{map-Statement, roll-Statement}
use Rattle.seuss_program.specs.declared.tree.Statement.TheVariants as SV
use Rattle.seuss_program.specs.declared.tree.Statement.TheVariants.{rolls-Let, rolls-Assign, rolls-Call}
use Rattle.seuss_program.specs.declared.tree.Statement.TheVariants.{rolls-If, rolls-While}
use Rattle.seuss_program.specs.declared.tree.Statement.TheOpen as S
use Rattle.seuss_program.specs.declared.tree.Statement.TheOpen.{Statement-F}
use Rattle.call_order.specs.Calls.{calls_step, in_statement, in_body}
use Rattle.call_order.specs.Firsts.{first_of}
use Rattle.call_order.proofs.StatementLayers.{each}

-- the first line of two lists
first-here : (xs ys : List ℕ) (l : ℕ) → Some l ≡ first_of xs → Some l ≡ first_of (xs ++ ys)
first-here [] ys l h = absurd (cc)
first-here (x ∷ xs) ys l h = h

-- where the first lines are none, the first line is that of the others
first-after : (xs ys : List ℕ) → None ≡ first_of xs → first_of ys ≡ first_of (xs ++ ys)
first-after [] ys h = refl
first-after (x ∷ xs) ys h = absurd (cc)

-- the rest of a list begins with the item at the place
rest : {X : Type 0} (xs : List X) (i : ℕ) (x : X) → i < length xs → x ≡ get_or xs i x →
    drop i xs ≡ x ∷ drop (i + 1) xs
rest xs i x h e =
    let n : i + 1 ≡ suc i = omega arith in
    drop-cons xs i x h ∙ (ap (λ y. y ∷ drop (suc i) xs) (sym e) ∙ ap (λ j. x ∷ drop j xs) (sym n))

-- the first line that is found in items stands at this one, or after it
pub found_here : {X : Type 0} (f : X → List ℕ) (xs : List X) (i : ℕ) (x : X) (l : ℕ) (whole : Option ℕ) →
    i < length xs → x ≡ get_or xs i x →
    Some l ≡ first_of (f x) → first_of (flat_map f (drop i xs)) ≡ whole → Some l ≡ whole
found_here f xs i x l whole h e here same =
    first-here (f x) (flat_map f (drop (i + 1) xs)) l here
    ∙ (sym (ap (λ ys. first_of (flat_map f ys)) (rest xs i x h e)) ∙ same)

-- where an item has no line, the first line is that of the items after it
pub found_after : {X : Type 0} (f : X → List ℕ) (xs : List X) (i : ℕ) (x : X) (whole : Option ℕ) →
    i < length xs → x ≡ get_or xs i x →
    None ≡ first_of (f x) → first_of (flat_map f (drop i xs)) ≡ whole →
    first_of (flat_map f (drop (i + 1) xs)) ≡ whole
found_after f xs i x whole h e none same =
    first-after (f x) (flat_map f (drop (i + 1) xs)) none
    ∙ (sym (ap (λ ys. first_of (flat_map f ys)) (rest xs i x h e)) ∙ same)

module _ (at : Call Name → List ℕ) where
  -- the lines of the statements inside a statement are those of a body
  each_lines : (ss : List (Statement Name)) → flat_map (λ lines. lines) (each (in_statement at) ss)
      ≡ in_body at ss
  each_lines [] = refl
  each_lines (s ∷ ss) = ap (λ ls. in_statement at s ++ ls) (each_lines ss)

  -- the lines of a statement are told by its layer
  lines-layer : (s : Statement Name) (d : Statement-F Name (Statement Name)) → s ≡ roll-Statement Name d →
      in_statement at s ≡ calls_step at (map-Statement Name (Statement Name) (List ℕ) (in_statement at) d)
  unfolding in_statement
  lines-layer s d h = ap (fold-Statement Name (List ℕ) (calls_step at)) h
      ∙ fold-roll-Statement Name (List ℕ) (calls_step at) d

  module _ (s : Statement Name) where
    -- a `let` has no call
    pub lines-Let : (name : Name) (kind : Kind) (e : Expr Name) → s ≡ SV.Let name kind e →
        in_statement at s ≡ []
    lines-Let name kind e h = lines-layer s (S.Let name kind e) (h ∙ sym (rolls-Let name kind e))

    -- an assignment has no call
    pub lines-Assign : (name : Name) (e : Expr Name) → s ≡ SV.Assign name e → in_statement at s ≡ []
    lines-Assign name e h = lines-layer s (S.Assign name e) (h ∙ sym (rolls-Assign name e))

    -- a call has its own lines
    pub lines-Call : (name : Option Name) (call : Call Name) → s ≡ SV.Call name call →
        in_statement at s ≡ at call
    lines-Call name call h = lines-layer s (S.Call name call) (h ∙ sym (rolls-Call name call))

    -- a choice has the lines of its bodies, one after the other
    pub lines-If : (cond : Expr Name) (holds fails : List (Statement Name)) → s ≡ SV.If cond holds fails →
        in_statement at s ≡ in_body at holds ++ in_body at fails
    lines-If cond holds fails h =
        lines-layer s (S.If cond holds fails) (h ∙ sym (rolls-If cond holds fails))
        ∙ (ap (λ ls. ls ++ flat_map (λ lines. lines) (each (in_statement at) fails)) (each_lines holds)
        ∙ ap (λ ls. in_body at holds ++ ls) (each_lines fails))

    -- a loop has the lines of its body
    pub lines-While : (cond : Expr Name) (turn : List (Statement Name)) → s ≡ SV.While cond turn →
        in_statement at s ≡ in_body at turn
    lines-While cond turn h = lines-layer s (S.While cond turn) (h ∙ sym (rolls-While cond turn))
        ∙ each_lines turn

    -- the first line of an `if`
    pub first_in_holds : (cond : Expr Name) (holds fails part : List (Statement Name)) (l : ℕ)
        (found : Option ℕ) → s ≡ SV.If cond holds fails → part ≡ holds →
        found ≡ first_of (in_body at part) → found ≡ Some l → Some l ≡ first_of (in_statement at s)
    first_in_holds cond holds fails part l found h same here is =
        first-here (in_body at holds) (in_body at fails) l
        (sym is ∙ (here ∙ ap (λ ss. first_of (in_body at ss)) same))
        ∙ ap first_of (sym (lines-If cond holds fails h))

    -- where the first body of an `if` has no line, its first line is that of the second
    pub first_in_fails : (cond : Expr Name) (holds fails part other : List (Statement Name))
        (found after : Option ℕ) → s ≡ SV.If cond holds fails → part ≡ holds → other ≡ fails →
        found ≡ first_of (in_body at part) → found ≡ None → after ≡ first_of (in_body at other) →
        after ≡ first_of (in_statement at s)
    first_in_fails cond holds fails part other found after h same same' here is there =
        (there ∙ ap (λ ss. first_of (in_body at ss)) same')
        ∙ (first-after (in_body at holds) (in_body at fails)
        (sym is ∙ (here ∙ ap (λ ss. first_of (in_body at ss)) same))
        ∙ ap first_of (sym (lines-If cond holds fails h)))
