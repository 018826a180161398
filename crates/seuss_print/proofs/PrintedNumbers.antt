-- Each number of a tree that is printed within its limit has 64 bits.
use Rattle.std.proofs.Common.{◌≡◌, ℕ, ◌+◌, ◌^◌, ◌≤◌, suc, ℤ, pos, negsuc, Bool, true, false, IsTrue, ◌&&◌}
use Rattle.std.proofs.Common.{if◌then◌else◌, nat_lt, ◌==◌, List, [], ◌∷◌, ◌++◌, Option, Some, None}
use Rattle.std.proofs.Common.{ap, subst, sym, refl, ◌∙◌, arith}
use Rattle.std.specs.Cmp.Derive.{both_true}
use Rattle.std.specs.List.{AllByRecursion, flat_map}
use Rattle.std.specs.Ordering.{int_eq}
use Rattle.std.proofs.lemmas.Bool.{lt-ltb}
use Rattle.std.proofs.lemmas.Bool.Decides.{Decides-int_eq}
use Rattle.std.proofs.lemmas.List.Elements.{All-from_recursion}
use Rattle.seuss_text.specs.Limits.{max_number}
use Rattle.seuss_parser.specs.Trees as G
use Rattle.seuss_parser.specs.declared.symbol.Symbol.{Symbol}
use Rattle.seuss_parser.specs.declared.symbol.Symbol.TheVariants as S
use Rattle.seuss_parser.specs.declared.word.Sort.TheVariants.{Number}
use Rattle.seuss_program.specs.Values.{fits, HasSize}
use Rattle.seuss_program.specs.Keeping.{all_true}
use Rattle.seuss_program.specs.WellFormed.{node_numbers, has_numbers, have_numbers, numbers_step}
use Rattle.seuss_program.specs.WellFormed.{statement_numbers, body_numbers, pre_numbers}
use Rattle.seuss_program.specs.WellFormed.{alternative_numbers, form_numbers}
use Rattle.seuss_program.specs.declared.state.Value.{Value}
use Rattle.seuss_program.specs.declared.state.Value.TheVariants as V
use Rattle.seuss_program.specs.declared.tree.Name.{Name}
use Rattle.seuss_program.specs.declared.tree.Kind.{Kind}
use Rattle.seuss_program.specs.declared.tree.Op.{Op}
use Rattle.seuss_program.specs.declared.tree.Fun.{Fun}
use Rattle.seuss_program.specs.declared.tree.Expr.{Expr}
use Rattle.seuss_program.specs.declared.tree.Node.TheOpen as L
use Rattle.seuss_program.specs.declared.tree.Node.TheVariants as N
use Rattle.seuss_program.specs.declared.tree.Node.TheVariants.{rolls-Int, rolls-Bool, rolls-Empty}
use Rattle.seuss_program.specs.declared.tree.Node.TheVariants.{rolls-Name, rolls-Neg, rolls-Not, rolls-Two}
use Rattle.seuss_program.specs.declared.tree.Node.TheVariants.{rolls-One}
use Rattle.seuss_program.specs.declared.tree.Call.{Call}
use Rattle.seuss_program.specs.declared.tree.Pre.{Pre}
use Rattle.seuss_program.specs.declared.tree.Statement.{Statement, map-Statement, roll-Statement}
use Rattle.seuss_program.specs.declared.tree.Statement.TheVariants as T
use Rattle.seuss_program.specs.declared.tree.Statement.TheVariants.{rolls-Let, rolls-Assign, rolls-Call}
use Rattle.seuss_program.specs.declared.tree.Statement.TheVariants.{rolls-If, rolls-While}
use Rattle.seuss_program.specs.declared.tree.Statement.TheOpen as P
use Rattle.seuss_program.specs.declared.tree.Statement.TheOpen.{Statement-F}
use Rattle.seuss_program.specs.declared.tree.Alternative.{Alternative}
use Rattle.seuss_program.specs.declared.tree.Form.{Form}
use Rattle.seuss_program.specs.declared.tree.Form.TheVariants as F
use Rattle.seuss_program.specs.declared.tree.Proc.{Proc}
use Rattle.seuss_program.specs.declared.tree.Var.{Var}
use Rattle.seuss_program.specs.declared.tree.Cat.{Cat}
use Rattle.seuss_program.specs.declared.tree.Tree.{Tree}
use Rattle.seuss_print.specs.Items.{Item, Space, symbol, named, number, spaced, line, bracketed}
use Rattle.seuss_print.specs.Items.{behind_comma, separated, perhaps_bracketed}
use Rattle.seuss_print.specs.Expressions.{Printed, printed, at_level, op_symbol, op_level}
use Rattle.seuss_print.specs.Expressions.{left_level, right_level, primary_level, minus_level, not_level}
use Rattle.seuss_print.specs.Expressions.{expression}
use Rattle.seuss_print.specs.Statements.{binding, call_items, typed, head_line, statement, body, else_of}
use Rattle.seuss_print.specs.Canonical as C
use Rattle.seuss_print.specs.Canonical.{pre_items, arrow_symbol, alternative, method_head, form_items}
use Rattle.seuss_print.specs.Canonical.{procedure, equals, start_items, variable, semi, cat, box, program}
use Rattle.seuss_print.specs.Printable.{IsWithinLimit}
use Rattle.seuss_print.proofs.Trees.{on_expressions, on_statements}
use Rattle.seuss_print.proofs.Nodes.{folded, at-layer, printed-Int, printed-Bool, printed-Empty}
use Rattle.seuss_print.proofs.Nodes.{printed-Name, printed-Neg, printed-Not, printed-Two, printed-One}
use Rattle.seuss_print.proofs.Layers.{each, fold-layer, printed-Let, printed-Assign, printed-Call}
use Rattle.seuss_print.proofs.Layers.{printed-If, printed-While}
use Rattle.seuss_print.proofs.Apart.{Good, good-left, good-right, good-bracketed}
use Rattle.seuss_print.proofs.ApartStatements.{good-line}

-- whether the numbers of an expression have 64 bits, by its form
module _ (line : ℕ) where
  -- a number has where it fits
  numbers-Int : (z : ℤ) → has_numbers (G.expression line (N.Int z)) ≡ fits z
  unfolding has_numbers folded
  numbers-Int z = at-layer node_numbers (λ layer. layer.node) line (N.Int z) (L.Int z) (sym (rolls-Int z))

  -- a truth value has no number
  numbers-Bool : (b : Bool) → has_numbers (G.expression line (N.Bool b)) ≡ true
  unfolding has_numbers folded
  numbers-Bool b = at-layer node_numbers (λ layer. layer.node) line (N.Bool b) (L.Bool b)
      (sym (rolls-Bool b))

  -- nor has the empty sequence
  numbers-Empty : has_numbers (G.expression line N.Empty) ≡ true
  unfolding has_numbers folded
  numbers-Empty = at-layer node_numbers (λ layer. layer.node) line N.Empty L.Empty (sym rolls-Empty)

  -- nor has a name
  numbers-Name : (n : Name) → has_numbers (G.expression line (N.Name n)) ≡ true
  unfolding has_numbers folded
  numbers-Name n = at-layer node_numbers (λ layer. layer.node) line (N.Name n) (L.Name n)
      (sym (rolls-Name n))

  -- a minus has those of its part
  numbers-Neg : (e : Expr Name) → has_numbers (G.expression line (N.Neg e)) ≡ has_numbers e
  unfolding has_numbers folded
  numbers-Neg e = at-layer node_numbers (λ layer. layer.node) line (N.Neg e) (L.Neg e) (sym (rolls-Neg e))

  -- and so has a `not`
  numbers-Not : (e : Expr Name) → has_numbers (G.expression line (N.Not e)) ≡ has_numbers e
  unfolding has_numbers folded
  numbers-Not e = at-layer node_numbers (λ layer. layer.node) line (N.Not e) (L.Not e) (sym (rolls-Not e))

  -- an operator has those of both parts
  numbers-Two : (op : Op) (l r : Expr Name) →
      has_numbers (G.expression line (N.Two op l r)) ≡ (has_numbers l && has_numbers r)
  unfolding has_numbers folded
  numbers-Two op l r = at-layer node_numbers (λ layer. layer.node) line (N.Two op l r) (L.Two op l r)
      (sym (rolls-Two op l r))

  -- a function has those of its part
  numbers-One : (fun : Fun) (e : Expr Name) → has_numbers (G.expression line (N.One fun e)) ≡ has_numbers e
  unfolding has_numbers folded
  numbers-One fun e = at-layer node_numbers (λ layer. layer.node) line (N.One fun e) (L.One fun e)
      (sym (rolls-One fun e))

-- a number within its limit has 64 bits
fits-good : (z : ℤ) → IsWithinLimit (Number z) → IsTrue (fits z)
fits-good (pos n) good = lt-ltb n (2 ^ 63) (omega (arith, good))
fits-good (negsuc n) good = absurd good

-- what is good in parentheses, or without them, is good
placed-good : (b : Bool) (items : List Item) → Good (if b then bracketed items else items) → Good items
placed-good true items good = good-bracketed items good
placed-good false items good = good

-- a part that is good in its place is good
at-level-good : (level : ℕ) (part : Printed) → Good (at_level level part) → Good part.items
at-level-good level part good = placed-good (nat_lt part.level level) part.items good

-- both parts under an operator are good, whether it stands before them or between them
two-good : (b : Bool) (s : Symbol) (left right : Printed) (l r : ℕ) →
    Good (if b then symbol s ∷ bracketed (left.items ++ symbol S.Comma ∷ Space ∷ right.items)
    else at_level l left ++ spaced (symbol s) ++ at_level r right) →
    Good left.items × Good right.items
two-good true s left right l r good =
    let inner = good-bracketed (left.items ++ symbol S.Comma ∷ Space ∷ right.items) good.1 in (
      good-left left.items (symbol S.Comma ∷ Space ∷ right.items) inner,
      (good-right left.items (symbol S.Comma ∷ Space ∷ right.items) inner).1,
    )
two-good false s left right l r good =
    let xs : List Item = at_level l left in
    let ys : List Item = at_level r right in (
      at-level-good l left (good-left xs (spaced (symbol s)) (good-left (xs ++ spaced (symbol s)) ys good)),
      at-level-good r right (good-right (xs ++ spaced (symbol s)) ys good),
    )

-- where the tokens of an expression are good, its numbers have 64 bits
abbrev IsSized : Expr Name → Type 0
IsSized e = Good (expression e) → IsTrue (has_numbers e)

-- the same by what is printed and by whether the numbers of its parts have
sized : (e : Expr Name) (part : Printed) (b : Bool) → printed e ≡ part → has_numbers e ≡ b →
    (Good part.items → IsTrue b) → IsSized e
sized e part b is numbers f good = numbers ∙ f (subst (λ (x : Printed). Good x.items) is good)

-- an operator between parts, or before them
two-sized : (line : ℕ) (op : Op) (l r : Expr Name) → IsSized l → IsSized r →
    IsSized (G.expression line (N.Two op l r))
two-sized line op l r f g = sized _ _ _ (printed-Two line op l r) (numbers-Two line op l r) (λ good.
    let parts = two-good (op_level op == primary_level) (op_symbol op) (printed l) (printed r)
    (left_level op) (right_level op) good in
    both_true (f parts.0) (g parts.1))

-- the numbers of an expression whose tokens are good have 64 bits
expression-numbers : (e : Expr Name) → IsSized e
expression-numbers = on_expressions IsSized (record {
  int = λ line z. sized _ _ _ (printed-Int line z) (numbers-Int line z) (λ good. fits-good z good.0);
  bool = λ line b. sized _ _ _ (printed-Bool line b) (numbers-Bool line b) (λ good. refl);
  empty = λ line. sized _ _ _ (printed-Empty line) (numbers-Empty line) (λ good. refl);
  name = λ line n. sized _ _ _ (printed-Name line n) (numbers-Name line n) (λ good. refl);
  neg = λ line e f. sized _ _ _ (printed-Neg line e) (numbers-Neg line e)
      (λ good. f (at-level-good minus_level (printed e) good.1));
  not = λ line e f. sized _ _ _ (printed-Not line e) (numbers-Not line e)
      (λ good. f (at-level-good not_level (printed e) good.1));
  two = two-sized;
  one = λ line fun e f. sized _ _ _ (printed-One line fun e) (numbers-One line fun e)
      (λ good. f (good-bracketed (printed e).items good.1));
})

-- what follows of each thing in a row whose tokens are good
module _ {A : Type 0} (print : A → List Item) (Q : A → Type 0) (f : (a : A) → Good (print a) → Q a) where
  -- one behind the other
  in-row : (as_ : List A) → Good (flat_map print as_) → AllByRecursion Q as_
  in-row [] good = tt
  in-row (a ∷ as_) good = (
    f a (good-left (print a) (flat_map print as_) good),
    in-row as_ (good-right (print a) (flat_map print as_) good),
  )

  -- each behind a comma
  behind-commas : (as_ : List A) → Good (flat_map (behind_comma print) as_) → AllByRecursion Q as_
  behind-commas [] good = tt
  behind-commas (a ∷ as_) good =
      let rest : List Item = flat_map (behind_comma print) as_ in (
        f a (good-left (print a) rest good.1),
        behind-commas as_ (good-right (print a) rest good.1),
      )

  -- with a comma between two
  between-commas : (as_ : List A) → Good (separated print as_) → AllByRecursion Q as_
  between-commas [] good = tt
  between-commas (a ∷ as_) good =
      let rest : List Item = flat_map (behind_comma print) as_ in (
        f a (good-left (print a) rest good),
        behind-commas as_ (good-right (print a) rest good),
      )

-- the numbers of several expressions, where each has only such of 64 bits
joined-numbers : (es : List (Expr Name)) → AllByRecursion (λ e. IsTrue (has_numbers e)) es →
    IsTrue (have_numbers es)
joined-numbers [] all = refl
joined-numbers (e ∷ es) all = both_true all.0 (joined-numbers es all.1)

-- the numbers in the arguments of a call
call-numbers : (call : Call Name) → Good (call_items call) → IsTrue (have_numbers call.args)
call-numbers call good = joined-numbers call.args
    (between-commas expression (λ e. IsTrue (has_numbers e)) expression-numbers call.args
    (good-bracketed (separated expression call.args) good.1.1.1))

-- whether the numbers of a statement have 64 bits, by one layer of it
numbers-layer : (s : Statement Name) (d : Statement-F Name (Statement Name)) → s ≡ roll-Statement Name d →
    statement_numbers s ≡ numbers_step (map-Statement Name (Statement Name) Bool statement_numbers d)
unfolding statement_numbers
numbers-layer s d h = fold-layer numbers_step s d h

-- those of the statements inside a statement are those of a body
each-numbers : (ss : List (Statement Name)) → all_true (each statement_numbers ss) ≡ body_numbers ss
each-numbers [] = refl
each-numbers (s ∷ ss) = ap (λ b. statement_numbers s && b) (each-numbers ss)

-- a `let` has those of its value
numbers-Let : (name : Name) (kind : Kind) (e : Expr Name) →
    statement_numbers (T.Let name kind e) ≡ has_numbers e
numbers-Let name kind e = numbers-layer _ (P.Let name kind e) (sym (rolls-Let name kind e))

-- and so has an assignment
numbers-Assign : (name : Name) (e : Expr Name) → statement_numbers (T.Assign name e) ≡ has_numbers e
numbers-Assign name e = numbers-layer _ (P.Assign name e) (sym (rolls-Assign name e))

-- a call has those of its arguments
numbers-Call : (bind : Option Name) (call : Call Name) →
    statement_numbers (T.Call bind call) ≡ have_numbers call.args
numbers-Call bind call = numbers-layer _ (P.Call bind call) (sym (rolls-Call bind call))

-- an `if` has those of its condition and of both blocks
numbers-If : (cond : Expr Name) (holds fails : List (Statement Name)) →
    statement_numbers (T.If cond holds fails)
    ≡ (has_numbers cond && (body_numbers holds && body_numbers fails))
numbers-If cond holds fails =
    numbers-layer _ (P.If cond holds fails) (sym (rolls-If cond holds fails))
    ∙ (ap (λ b. has_numbers cond && (b && all_true (each statement_numbers fails))) (each-numbers holds)
    ∙ ap (λ b. has_numbers cond && (body_numbers holds && b)) (each-numbers fails))

-- a `while` has those of its condition and of its block
numbers-While : (cond : Expr Name) (turn : List (Statement Name)) →
    statement_numbers (T.While cond turn) ≡ (has_numbers cond && body_numbers turn)
numbers-While cond turn =
    numbers-layer _ (P.While cond turn) (sym (rolls-While cond turn))
    ∙ ap (λ b. has_numbers cond && b) (each-numbers turn)

-- where the tokens of a statement are good, its numbers have 64 bits
abbrev SizedStatement : Statement Name → Type 0
SizedStatement s = (n : ℕ) → Good (statement s n) → IsTrue (statement_numbers s)

-- the same by what is printed and by whether the numbers of its parts have
sized-statement : (s : Statement Name) (n : ℕ) (items : List Item) (b : Bool) → statement s n ≡ items →
    statement_numbers s ≡ b → (Good items → IsTrue b) → Good (statement s n) → IsTrue (statement_numbers s)
sized-statement s n items b is numbers f good = numbers ∙ f (subst Good is good)

-- the numbers in the first line of an `if` or a `while`
head-numbers : (first last : Symbol) (cond : Expr Name) (n : ℕ) → Good (head_line first cond last n) →
    IsTrue (has_numbers cond)
head-numbers first last cond n good =
    let inner = good-line n (symbol first ∷ Space ∷ expression cond ++ Space ∷ symbol last ∷ []) good in
    expression-numbers cond (good-left (expression cond) (Space ∷ symbol last ∷ []) inner.1)

-- the numbers of statements, where it holds of each
body-sized : (ss : List (Statement Name)) → AllByRecursion SizedStatement ss → (n : ℕ) → Good (body ss n) →
    IsTrue (body_numbers ss)
body-sized [] all n good = refl
body-sized (s ∷ ss) all n good =
    both_true (all.0 n (good-left (statement s n) (body ss n) good))
    (body-sized ss all.1 n (good-right (statement s n) (body ss n) good))

-- the numbers behind an `else`
else-sized : (ss : List (Statement Name)) → AllByRecursion SizedStatement ss → (n : ℕ) →
    Good (else_of ss n) → IsTrue (body_numbers ss)
else-sized [] all n good = refl
else-sized (s ∷ ss) all n good = body-sized (s ∷ ss) all (n + 1)
    (good-right (line n (symbol S.Else ∷ [])) (body (s ∷ ss) (n + 1)) good)

-- the numbers of a `let`
let-sized : (name : Name) (kind : Kind) (e : Expr Name) → SizedStatement (T.Let name kind e)
let-sized name kind e n = sized-statement _ n _ _ (printed-Let (T.Let name kind e) n name kind e refl)
    (numbers-Let name kind e) (λ good.
    let inner = good-line n
    (symbol S.Let ∷ Space ∷ typed name kind ++ spaced (symbol S.Assign) ++ expression e) good in
    expression-numbers e inner.1.1.1.1.1)

-- of an assignment
assignment-sized : (name : Name) (e : Expr Name) → SizedStatement (T.Assign name e)
assignment-sized name e n = sized-statement _ n _ _ (printed-Assign (T.Assign name e) n name e refl)
    (numbers-Assign name e) (λ good.
    let inner = good-line n (named name ∷ spaced (symbol S.Assign) ++ expression e) good in
    expression-numbers e inner.1.1)

-- of a call
call-sized : (bind : Option Name) (call : Call Name) → SizedStatement (T.Call bind call)
call-sized bind call n = sized-statement _ n _ _ (printed-Call (T.Call bind call) n bind call refl)
    (numbers-Call bind call) (λ good.
    call-numbers call
    (good-right (binding bind) (call_items call) (good-line n (binding bind ++ call_items call) good)))

-- of an `if`
if-sized : (cond : Expr Name) (holds fails : List (Statement Name)) → AllByRecursion SizedStatement holds →
    AllByRecursion SizedStatement fails → SizedStatement (T.If cond holds fails)
if-sized cond holds fails f g n = sized-statement _ n _ _
    (printed-If (T.If cond holds fails) n cond holds fails refl) (numbers-If cond holds fails) (λ good.
    let a : List Item = head_line S.If cond S.Then n in
    let b : List Item = body holds (n + 1) in
    let c : List Item = else_of fails n in
    let three = good-left (a ++ b ++ c) (line n (symbol S.End ∷ [])) good in
    let two = good-left (a ++ b) c three in
    both_true (head-numbers S.If S.Then cond n (good-left a b two))
    (both_true (body-sized holds f (n + 1) (good-right a b two))
    (else-sized fails g n (good-right (a ++ b) c three))))

-- of a `while`
while-sized : (cond : Expr Name) (turn : List (Statement Name)) → AllByRecursion SizedStatement turn →
    SizedStatement (T.While cond turn)
while-sized cond turn f n = sized-statement _ n _ _ (printed-While (T.While cond turn) n cond turn refl)
    (numbers-While cond turn) (λ good.
    let a : List Item = head_line S.While cond S.Do n in
    let b : List Item = body turn (n + 1) in
    let two = good-left (a ++ b) (line n (symbol S.End ∷ [])) good in
    both_true (head-numbers S.While S.Do cond n (good-left a b two))
    (body-sized turn f (n + 1) (good-right a b two)))

-- the numbers of a statement whose tokens are good have 64 bits
statement-sized : (s : Statement Name) → SizedStatement s
statement-sized = on_statements SizedStatement (record {
  let_ = let-sized;
  assign = assignment-sized;
  call = call-sized;
  if_ = if-sized;
  while_ = while-sized;
})

-- and so of each
all-sized : (ss : List (Statement Name)) → AllByRecursion SizedStatement ss
all-sized [] = tt
all-sized (s ∷ ss) = (statement-sized s, all-sized ss)

-- the numbers of a body whose tokens are good have 64 bits
body-good : (ss : List (Statement Name)) (n : ℕ) → Good (body ss n) → IsTrue (body_numbers ss)
body-good ss n good = body-sized ss (all-sized ss) n good

-- the numbers in the call before a body
pre-good : (pre : Option (Pre Name)) → Good (pre_items pre) → IsTrue (pre_numbers pre)
pre-good None good = refl
pre-good (Some pre) good = call-numbers pre.call
    (good-right (binding pre.bind) (call_items pre.call) good.1)

-- the numbers of one alternative
abbrev AlternativeFits : Alternative Name → Type 0
AlternativeFits a = IsTrue (has_numbers a.cond && (pre_numbers a.pre && body_numbers a.body))

-- they have 64 bits where its tokens are good
alternative-good : (a : Alternative Name) → Good (alternative a) → AlternativeFits a
alternative-good a good =
    let arrow : List Item = Space ∷ symbol (arrow_symbol a.positive) ∷ [] in
    let items : List Item = symbol S.When ∷ Space ∷ expression a.cond ++ pre_items a.pre ++ Space
    ∷ symbol (arrow_symbol a.positive) ∷ [] in
    let inner = good-line 2 items (good-left (line 2 items) (body a.body 3) good) in
    let before = good-left (expression a.cond ++ pre_items a.pre) arrow inner.1 in
    both_true (expression-numbers a.cond (good-left (expression a.cond) (pre_items a.pre) before))
    (both_true (pre-good a.pre (good-right (expression a.cond) (pre_items a.pre) before))
    (body-good a.body 3 (good-right (line 2 items) (body a.body 3) good)))

-- the numbers of alternatives, where it holds of each
joined-alternatives : (as_ : List (Alternative Name)) → AllByRecursion AlternativeFits as_ →
    IsTrue (alternative_numbers as_)
joined-alternatives [] all = refl
joined-alternatives (a ∷ as_) all = both_true all.0 (joined-alternatives as_ all.1)

-- they have 64 bits where their tokens are good
alternatives-good : (as_ : List (Alternative Name)) → Good (flat_map alternative as_) →
    IsTrue (alternative_numbers as_)
alternatives-good as_ good =
    joined-alternatives as_ (in-row alternative AlternativeFits alternative-good as_ good)

-- the numbers of what a procedure consists of
form-good : (q : Proc Name) (form : Form Name) → Good (form_items q form) → IsTrue (form_numbers form)
form-good q (F.Total ss) good = body-good ss 2
    (good-right (line 1 (symbol S.Total ∷ method_head q ++ Space ∷ symbol S.Is ∷ [])) (body ss 2) good)
form-good q (F.Partial as_) good = alternatives-good as_
    (good-right (line 1 (symbol S.Partial ∷ method_head q)) (flat_map alternative as_) good)
form-good q (F.Action as_) good = alternatives-good as_
    (good-right (line 1 (symbol S.Action ∷ Space ∷ named q.name ∷ [])) (flat_map alternative as_) good)

-- the numbers of a procedure have 64 bits
abbrev pub ProcedureFits : Proc Name → Type 0
ProcedureFits q = IsTrue (form_numbers q.form)

-- they have where its tokens are good
procedure-good : (q : Proc Name) → Good (procedure q) → ProcedureFits q
procedure-good q good =
    form-good q q.form (good-left (form_items q q.form) (line 1 (symbol S.End ∷ [])) good)

-- a number with a sign has 64 bits where it is good without it
signed-good : (z : ℤ) → Good (C.signed z) → IsTrue (fits z)
signed-good (pos n) good = fits-good (pos n) good.0
signed-good (negsuc n) good =
    let small : suc n ≤ max_number = good.1.0 in lt-ltb n (2 ^ 63) (omega (arith, small))

-- a start value that isn't printed where it is 0
int-good : (b : Bool) (z : ℤ) → (b ≡ true → z ≡ pos 0) → Good (if b then [] else equals (C.signed z)) →
    IsTrue (fits z)
int-good true z same good = subst (λ x. IsTrue (fits x)) (sym (same refl)) (lt-ltb 0 (2 ^ 63) (omega arith))
int-good false z same good = signed-good z good.1

-- the numbers of a start value have 64 bits where its tokens are good
start-good : (v : Value) → Good (start_items v) → HasSize v
start-good (V.Int z) good = int-good (int_eq z (pos 0)) z (Decides-int_eq z (pos 0)).0 good
start-good (V.Bool b) good = tt
start-good (V.Seq []) good = All-from_recursion (λ z. IsTrue (fits z)) [] tt
start-good (V.Seq (z ∷ zs)) good =
    All-from_recursion (λ z. IsTrue (fits z)) (z ∷ zs)
    (between-commas C.signed (λ z. IsTrue (fits z)) signed-good (z ∷ zs)
    (good-left (separated C.signed (z ∷ zs)) (symbol S.CloseSquare ∷ []) good.1.1))

-- the same of a variable
variable-good : (v : Var) → Good (variable v) → HasSize v.start
variable-good v good =
    let inner = good-line 1 (symbol S.Var ∷ Space ∷ typed v.name v.kind ++ start_items v.start) good in
    start-good v.start inner.1.1.1.1

-- the numbers of a cat, in its start values and in its procedures, have 64 bits
pub record CatFits (c : Cat Name) : Type 0 where
  pub sizes : AllByRecursion (λ (v : Var). HasSize v.start) c.vars
  pub procs : AllByRecursion ProcedureFits c.procs

-- they have where its tokens are good
cat-good : (c : Cat Name) → Good (cat c) → CatFits c
cat-good c good =
    let first : List Item = line 0 (symbol S.Cat ∷ Space ∷ named c.name ∷ perhaps_bracketed C.given c.given)
    in
    let vs : List Item = flat_map variable c.vars in
    let qs : List Item = flat_map procedure c.procs in
    let ss : List Item = flat_map semi c.semis in
    let four = good-left (first ++ vs ++ qs ++ ss) (line 0 (symbol S.End ∷ [])) good in
    let three = good-left (first ++ vs ++ qs) ss four in
    record {
      sizes = in-row variable (λ (v : Var). HasSize v.start) variable-good c.vars
          (good-right first vs (good-left (first ++ vs) qs three));
      procs = in-row procedure ProcedureFits procedure-good c.procs (good-right (first ++ vs) qs three);
    }

-- the numbers of a tree whose tokens are good have 64 bits
pub program-numbers : (tree : Tree) → Good (program tree) → AllByRecursion CatFits tree.cats
program-numbers tree good =
    let first : List Item = line 0 (symbol S.Seuss ∷ Space ∷ number (pos 1) ∷ []) in
    let cs : List Item = flat_map cat tree.cats in
    in-row cat CatFits cat-good tree.cats
    (good-right first cs (good-left (first ++ cs) (flat_map box tree.boxes) good))
