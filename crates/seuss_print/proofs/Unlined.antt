-- Lines don't show in what is printed.
use Rattle.std.proofs.Common.{◌≡◌, ℕ, pos, ◌+◌, List, [], ◌∷◌, ◌++◌, map, Option, Some, None, ap, sym, refl}
use Rattle.std.proofs.Common.{◌∙◌}
use Rattle.std.specs.List.{AllByRecursion, flat_map}
use Rattle.seuss_parser.specs.declared.symbol.Symbol.TheVariants as S
use Rattle.seuss_program.specs.declared.tree.Name.{Name}
use Rattle.seuss_program.specs.declared.tree.Expr.{Expr}
use Rattle.seuss_program.specs.declared.tree.Call.{Call}
use Rattle.seuss_program.specs.declared.tree.Pre.{Pre}
use Rattle.seuss_program.specs.declared.tree.Alternative.{Alternative}
use Rattle.seuss_program.specs.declared.tree.Form.{Form}
use Rattle.seuss_program.specs.declared.tree.Form.TheVariants as F
use Rattle.seuss_program.specs.declared.tree.Proc.{Proc}
use Rattle.seuss_program.specs.declared.tree.Semi.{Semi}
use Rattle.seuss_program.specs.declared.tree.Cat.{Cat}
use Rattle.seuss_program.specs.declared.tree.BoxDecl.{BoxDecl}
use Rattle.seuss_program.specs.declared.tree.Tree.{Tree}
use Rattle.seuss_program.specs.declared.tree.Statement.{Statement}
use Rattle.seuss_program.specs.declared.tree.Statement.TheVariants as T
use Rattle.seuss_print.specs.Lines as L
use Rattle.seuss_print.specs.Items.{Item, Space, symbol, named, number, spaced, bracketed, behind_comma}
use Rattle.seuss_print.specs.Items.{separated, perhaps_bracketed, line}
use Rattle.seuss_print.specs.Expressions.{Printed, printed, at_level, primary, two_items, op_level}
use Rattle.seuss_print.specs.Expressions.{fun_symbol, minus_level, not_level, expression}
use Rattle.seuss_print.specs.Statements.{typed, binding, call_items, head_line, statement, body, else_of}
use Rattle.seuss_print.specs.Canonical as C
use Rattle.seuss_print.specs.Canonical.{alternative, pre_items, arrow_symbol, method_head, result_items}
use Rattle.seuss_print.specs.Canonical.{form_items, procedure, variable, hint, semi, cat, box_name, box}
use Rattle.seuss_print.specs.Canonical.{program}
use Rattle.seuss_print.proofs.Trees.{on_expressions, on_statements}
use Rattle.seuss_print.proofs.Layers.{printed-Let, printed-Assign, printed-Call, printed-If, printed-While}
use Rattle.seuss_print.proofs.Layers.{kept-Let, kept-Assign, kept-Call, kept-If, kept-While}
use Rattle.seuss_print.proofs.Nodes.{printed-Int, printed-Bool, printed-Empty, printed-Name, printed-Neg}
use Rattle.seuss_print.proofs.Nodes.{printed-Not, printed-Two, printed-One, kept-Int, kept-Bool, kept-Empty}
use Rattle.seuss_print.proofs.Nodes.{kept-Name, kept-Neg, kept-Not, kept-Two, kept-One}

pub same-printed : (e : Expr Name) → printed (L.expression e) ≡ printed e
same-printed = on_expressions (λ e. printed (L.expression e) ≡ printed e) (record {
  int = λ k z. ap printed (kept-Int k z) ∙ (printed-Int 0 z ∙ sym (printed-Int k z));
  bool = λ k b. ap printed (kept-Bool k b) ∙ (printed-Bool 0 b ∙ sym (printed-Bool k b));
  empty = λ k. ap printed (kept-Empty k) ∙ (printed-Empty 0 ∙ sym (printed-Empty k));
  name = λ k n. ap printed (kept-Name k n) ∙ (printed-Name 0 (L.name n) ∙ sym (printed-Name k n));
  neg = λ k e h. ap printed (kept-Neg k e) ∙ (printed-Neg 0 (L.expression e)
      ∙ (ap (λ x. record { level = minus_level; items = symbol S.Minus ∷ at_level minus_level x }) h
      ∙ sym (printed-Neg k e)));
  not = λ k e h. ap printed (kept-Not k e) ∙ (printed-Not 0 (L.expression e)
      ∙ (ap (λ x. record { level = not_level; items = symbol S.Not ∷ Space ∷ at_level not_level x }) h
      ∙ sym (printed-Not k e)));
  two = λ k op l r h i. ap printed (kept-Two k op l r) ∙ (printed-Two 0 op (L.expression l) (L.expression r)
      ∙ (ap (λ x. record { level = op_level op; items = two_items op x (printed (L.expression r)) }) h
      ∙ (ap (λ x. record { level = op_level op; items = two_items op (printed l) x }) i
      ∙ sym (printed-Two k op l r))));
  one = λ k fun e h. ap printed (kept-One k fun e) ∙ (printed-One 0 fun (L.expression e)
      ∙ (ap (λ (x : Printed). primary (symbol (fun_symbol fun) ∷ bracketed x.items)) h
      ∙ sym (printed-One k fun e)));
})

same-expression : (e : Expr Name) → expression (L.expression e) ≡ expression e
same-expression e = ap (λ (x : Printed). x.items) (same-printed e)

-- rows of things
module _ {A : Type 0} (print : A → List Item) (f : A → A) (same : (a : A) → print (f a) ≡ print a) where
  pub same-row : (as_ : List A) → flat_map print (map f as_) ≡ flat_map print as_
  same-row [] = refl
  same-row (a ∷ as_) = ap (λ items. items ++ flat_map print (map f as_)) (same a)
      ∙ ap (λ items. print a ++ items) (same-row as_)

  same-others : (as_ : List A) → flat_map (behind_comma print) (map f as_)
      ≡ flat_map (behind_comma print) as_
  same-others [] = refl
  same-others (a ∷ as_) =
      ap (λ items. symbol S.Comma ∷ Space ∷ items ++ flat_map (behind_comma print) (map f as_)) (same a)
      ∙ ap (λ items. behind_comma print a ++ items) (same-others as_)

  pub same-separated : (as_ : List A) → separated print (map f as_) ≡ separated print as_
  same-separated [] = refl
  same-separated (a ∷ as_) = ap (λ items. items ++ flat_map (behind_comma print) (map f as_)) (same a)
      ∙ ap (λ items. print a ++ items) (same-others as_)

  pub same-perhaps : (as_ : List A) → perhaps_bracketed print (map f as_) ≡ perhaps_bracketed print as_
  same-perhaps [] = refl
  same-perhaps (a ∷ as_) = ap (λ items. bracketed items) (same-separated (a ∷ as_))

same-call : (c : Call Name) → call_items (L.call c) ≡ call_items c
same-call c = ap (λ items. named c.target ∷ symbol S.Dot ∷ named c.method ∷ bracketed items)
    (same-separated expression L.expression same-expression c.args)

same-binding : (bind : Option Name) → binding (L.perhaps L.name bind) ≡ binding bind
same-binding None = refl
same-binding (Some n) = refl

abbrev SameStatement : Statement Name → Type 0
SameStatement s = (n : ℕ) → statement (L.statement s) n ≡ statement s n

same-body : (ss : List (Statement Name)) → AllByRecursion SameStatement ss → (n : ℕ) →
    body (map L.statement ss) n ≡ body ss n
same-body [] h n = refl
same-body (s ∷ ss) h n = ap (λ items. items ++ body (map L.statement ss) n) (h.0 n)
    ∙ ap (λ items. statement s n ++ items) (same-body ss h.1 n)

same-else : (ss : List (Statement Name)) → AllByRecursion SameStatement ss → (n : ℕ) →
    else_of (map L.statement ss) n ≡ else_of ss n
same-else [] h n = refl
same-else (s ∷ ss) h n = ap (λ items. line n (symbol S.Else ∷ []) ++ items) (same-body (s ∷ ss) h (n + 1))

same-if : (cond : Expr Name) (holds fails : List (Statement Name)) → AllByRecursion SameStatement holds →
    AllByRecursion SameStatement fails → SameStatement (T.If cond holds fails)
same-if cond holds fails h g n =
    ap (λ s. statement s n) (kept-If cond holds fails)
    ∙ (printed-If _ n (L.expression cond) (map L.statement holds) (map L.statement fails) refl
    ∙ (ap (λ items. line n (symbol S.If ∷ Space ∷ items ++ Space ∷ symbol S.Then ∷ [])
    ++ body (map L.statement holds) (n + 1) ++ else_of (map L.statement fails) n
    ++ line n (symbol S.End ∷ [])) (same-expression cond)
    ∙ (ap (λ items. head_line S.If cond S.Then n ++ items ++ else_of (map L.statement fails) n
    ++ line n (symbol S.End ∷ [])) (same-body holds h (n + 1))
    ∙ (ap (λ items. head_line S.If cond S.Then n ++ body holds (n + 1) ++ items
    ++ line n (symbol S.End ∷ [])) (same-else fails g n)
    ∙ sym (printed-If _ n cond holds fails refl)))))

same-while : (cond : Expr Name) (turn : List (Statement Name)) → AllByRecursion SameStatement turn →
    SameStatement (T.While cond turn)
same-while cond turn h n =
    ap (λ s. statement s n) (kept-While cond turn)
    ∙ (printed-While _ n (L.expression cond) (map L.statement turn) refl
    ∙ (ap (λ items. line n (symbol S.While ∷ Space ∷ items ++ Space ∷ symbol S.Do ∷ [])
    ++ body (map L.statement turn) (n + 1) ++ line n (symbol S.End ∷ [])) (same-expression cond)
    ∙ (ap (λ items. head_line S.While cond S.Do n ++ items ++ line n (symbol S.End ∷ []))
    (same-body turn h (n + 1))
    ∙ sym (printed-While _ n cond turn refl))))

same-statement : (s : Statement Name) → SameStatement s
same-statement = on_statements SameStatement (record {
  let_ = λ name kind e n. ap (λ s. statement s n) (kept-Let name kind e)
      ∙ (printed-Let _ n (L.name name) kind (L.expression e) refl
      ∙ (ap (λ items. line n (symbol S.Let ∷ Space ∷ typed name kind ++ spaced (symbol S.Assign) ++ items))
      (same-expression e) ∙ sym (printed-Let _ n name kind e refl)));
  assign = λ name e n. ap (λ s. statement s n) (kept-Assign name e)
      ∙ (printed-Assign _ n (L.name name) (L.expression e) refl
      ∙ (ap (λ items. line n (named name ∷ spaced (symbol S.Assign) ++ items)) (same-expression e)
      ∙ sym (printed-Assign _ n name e refl)));
  call = λ bind c n. ap (λ s. statement s n) (kept-Call bind c)
      ∙ (printed-Call _ n (L.perhaps L.name bind) (L.call c) refl
      ∙ (ap (λ items. line n (items ++ call_items (L.call c))) (same-binding bind)
      ∙ (ap (λ items. line n (binding bind ++ items)) (same-call c) ∙ sym (printed-Call _ n bind c refl))));
  if_ = same-if;
  while_ = same-while;
})

all-same : (ss : List (Statement Name)) → AllByRecursion SameStatement ss
all-same [] = tt
all-same (s ∷ ss) = (same-statement s, all-same ss)

same-statements : (ss : List (Statement Name)) (n : ℕ) → body (map L.statement ss) n ≡ body ss n
same-statements ss n = same-body ss (all-same ss) n

same-pre : (pre : Option (Pre Name)) → pre_items (L.perhaps L.pre pre) ≡ pre_items pre
same-pre None = refl
same-pre (Some pre) =
    ap (λ items. spaced (symbol S.Semicolon) ++ items ++ call_items (L.call pre.call))
    (same-binding pre.bind)
    ∙ ap (λ items. spaced (symbol S.Semicolon) ++ binding pre.bind ++ items) (same-call pre.call)

same-alternative : (a : Alternative Name) → alternative (L.alternative a) ≡ alternative a
same-alternative a =
    ap (λ items. line 2 (symbol S.When ∷ Space ∷ items ++ pre_items (L.perhaps L.pre a.pre) ++ Space
    ∷ symbol (arrow_symbol a.positive) ∷ []) ++ body (map L.statement a.body) 3)
    (same-expression a.cond)
    ∙ (ap (λ items. line 2
    (symbol S.When ∷ Space ∷ expression a.cond ++ items ++ Space ∷ symbol (arrow_symbol a.positive)
    ∷ []) ++ body (map L.statement a.body) 3) (same-pre a.pre)
    ∙ ap (λ items. line 2
    (symbol S.When ∷ Space ∷ expression a.cond ++ pre_items a.pre ++ Space
    ∷ symbol (arrow_symbol a.positive) ∷ []) ++ items) (same-statements a.body 3))

same-head : (q : Proc Name) → method_head (L.procedure q) ≡ method_head q
same-head q = ap (λ items. Space ∷ named q.name ∷ bracketed items ++ result_items q.gives)
    (same-separated C.param L.param (λ p. refl) q.params)

same-form : (q : Proc Name) (form : Form Name) → form_items (L.procedure q) (L.form form) ≡ form_items q form
same-form q (F.Total ss) =
    ap (λ items. line 1 (symbol S.Total ∷ items ++ Space ∷ symbol S.Is ∷ []) ++ body (map L.statement ss) 2)
    (same-head q)
    ∙ ap (λ items. line 1 (symbol S.Total ∷ method_head q ++ Space ∷ symbol S.Is ∷ []) ++ items)
    (same-statements ss 2)
same-form q (F.Partial as_) =
    ap (λ items. line 1 (symbol S.Partial ∷ items) ++ flat_map alternative (map L.alternative as_))
    (same-head q)
    ∙ ap (λ items. line 1 (symbol S.Partial ∷ method_head q) ++ items)
    (same-row alternative L.alternative same-alternative as_)
same-form q (F.Action as_) =
    ap (λ items. line 1 (symbol S.Action ∷ Space ∷ named q.name ∷ []) ++ items)
    (same-row alternative L.alternative same-alternative as_)

same-procedure : (q : Proc Name) → procedure (L.procedure q) ≡ procedure q
same-procedure q = ap (λ items. items ++ line 1 (symbol S.End ∷ [])) (same-form q q.form)

same-semi : (s : Semi Name) → semi (L.semi s) ≡ semi s
same-semi s = ap (λ items. line 1
    (symbol S.Semi ∷ Space ∷ named s.first ∷ symbol S.Comma ∷ Space ∷ named s.second ∷ items))
    (same-row hint L.hint (λ h. refl) s.hints)

same-cat : (c : Cat Name) → cat (L.cat c) ≡ cat c
same-cat c =
    let gs : List Item = perhaps_bracketed C.given c.given in
    let vs : List Item = flat_map variable c.vars in
    let qs : List Item = flat_map procedure c.procs in
    let last : List Item = line 0 (symbol S.End ∷ []) in
    ap (λ items. line 0 (symbol S.Cat ∷ Space ∷ named c.name ∷ items)
    ++ flat_map variable (map L.variable c.vars) ++ flat_map procedure (map L.procedure c.procs)
    ++ flat_map semi (map L.semi c.semis) ++ last)
    (same-perhaps C.given L.given (λ g. refl) c.given)
    ∙ (ap (λ items. line 0 (symbol S.Cat ∷ Space ∷ named c.name ∷ gs) ++ items
    ++ flat_map procedure (map L.procedure c.procs) ++ flat_map semi (map L.semi c.semis) ++ last)
    (same-row variable L.variable (λ v. refl) c.vars)
    ∙ (ap (λ items. line 0 (symbol S.Cat ∷ Space ∷ named c.name ∷ gs) ++ vs ++ items
    ++ flat_map semi (map L.semi c.semis) ++ last)
    (same-row procedure L.procedure same-procedure c.procs)
    ∙ ap (λ items. line 0 (symbol S.Cat ∷ Space ∷ named c.name ∷ gs) ++ vs ++ qs ++ items ++ last)
    (same-row semi L.semi same-semi c.semis)))

same-box : (b : BoxDecl) → box (L.box b) ≡ box b
same-box b = ap (λ items. line 0
    (symbol S.Box ∷ Space ∷ named b.name ∷ spaced (symbol S.Colon) ++ named b.cat ∷ items))
    (same-perhaps box_name L.name (λ n. refl) b.given)

pub same-program : (tree : Tree) → program (L.without_lines tree) ≡ program tree
same-program tree =
    ap (λ items. line 0 (symbol S.Seuss ∷ Space ∷ number (pos 1) ∷ []) ++ items
    ++ flat_map box (map L.box tree.boxes)) (same-row cat L.cat same-cat tree.cats)
    ∙ ap (λ items. line 0 (symbol S.Seuss ∷ Space ∷ number (pos 1) ∷ []) ++ flat_map cat tree.cats ++ items)
    (same-row box L.box same-box tree.boxes)

-- trees that differ in lines alone are printed alike
pub printed-alike : (tree other : Tree) → L.SameUpToLines tree other → program tree ≡ program other
printed-alike tree other h = sym (same-program tree) ∙ (ap (λ t. program t) h ∙ same-program other)
