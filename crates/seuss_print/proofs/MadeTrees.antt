-- Words made into phrases of declarations and of programs.
use Rattle.std.proofs.Common.{◌≡◌, ℕ, suc, ◌+◌, ◌≤◌, ℤ, pos, negsuc, neg_ℤ, nat_abs, Bool, true, false}
use Rattle.std.proofs.Common.{List, [], ◌∷◌, ◌++◌, map, Option, Some, None, is_some, unwrap_or}
use Rattle.std.proofs.Common.{if◌then◌else◌, ap, subst, sym, refl, ◌∙◌, arith, append-nil, append_assoc}
use Rattle.std.specs.List.{AllByRecursion, flat_map}
use Rattle.std.specs.Ordering.{int_eq}
use Rattle.std.proofs.lemmas.Bool.Decides.{Decides-int_eq}
use Rattle.seuss_parser.specs.Trees.{listed, small_kind, truth, side, arrow, signed, int_variable}
use Rattle.seuss_parser.specs.Trees.{bool_variable, seq_variable}
use Rattle.seuss_parser.specs.Words.{as_name, as_symbol, as_one_of, as_numeral, as_version}
use Rattle.seuss_parser.specs.Phrases.{Phrase, Many, Optional, Only, Either, ◌>>=◌, ◌>>◌}
use Rattle.seuss_parser.specs.Grammar.{IsSymbol, IsOneOf, IsName, IsWholeExpression, IsBody, IsPre}
use Rattle.seuss_parser.specs.Grammar.{IsAlternative, AreAlternatives, IsArguments, IsSigned, IsParam}
use Rattle.seuss_parser.specs.Grammar.{IsResult, IsTotal, IsPartial, IsAction, IsProcedure, IsGiven}
use Rattle.seuss_parser.specs.Grammar.{IsStart, IsSequence, IsPerhapsSeparated, IsPerhapsGroup, IsIntOf}
use Rattle.seuss_parser.specs.Grammar.{IsBoolOf, IsSeqOf, IsVariable, IsHint, IsSemi, IsBox, IsCat}
use Rattle.seuss_parser.specs.Grammar.{IsProgram, IsCall, IsBinding, max_nesting}
use Rattle.seuss_parser.specs.declared.word.Marked.{Marked}
use Rattle.seuss_parser.specs.declared.word.Numeral.{Numeral}
use Rattle.seuss_parser.specs.declared.word.Sort.{Sort}
use Rattle.seuss_parser.specs.declared.word.Sort.TheVariants.{Fixed, Name as Named, Number}
use Rattle.seuss_parser.specs.declared.symbol.Symbol.{Symbol}
use Rattle.seuss_parser.specs.declared.symbol.Symbol.TheVariants as S
use Rattle.seuss_program.specs.WellFormed.{IsSmall, HasKind}
use Rattle.seuss_program.specs.declared.state.Value.{Value}
use Rattle.seuss_program.specs.declared.state.Value.TheVariants as V
use Rattle.seuss_program.specs.declared.tree.Name.{Name}
use Rattle.seuss_program.specs.declared.tree.Kind.{Kind}
use Rattle.seuss_program.specs.declared.tree.Kind.TheVariants as K
use Rattle.seuss_program.specs.declared.tree.Pre.{Pre}
use Rattle.seuss_program.specs.declared.tree.Alternative.{Alternative}
use Rattle.seuss_program.specs.declared.tree.Param.{Param}
use Rattle.seuss_program.specs.declared.tree.Statement.{Statement}
use Rattle.seuss_program.specs.declared.tree.Form.{Form}
use Rattle.seuss_program.specs.declared.tree.Form.TheVariants as F
use Rattle.seuss_program.specs.declared.tree.Proc.{Proc}
use Rattle.seuss_program.specs.declared.tree.Var.{Var}
use Rattle.seuss_program.specs.declared.tree.Given.{Given}
use Rattle.seuss_program.specs.declared.tree.Hint.{Hint}
use Rattle.seuss_program.specs.declared.tree.Semi.{Semi}
use Rattle.seuss_program.specs.declared.tree.Cat.{Cat}
use Rattle.seuss_program.specs.declared.tree.BoxDecl.{BoxDecl}
use Rattle.seuss_program.specs.declared.tree.Tree.{Tree}
use Rattle.seuss_print.specs.Lines as L
use Rattle.seuss_print.specs.Items.{Item, Space, symbol, named, number, spaced, bracketed, separated}
use Rattle.seuss_print.specs.Items.{perhaps_bracketed, line, tokens_in}
use Rattle.seuss_print.specs.Expressions.{expression}
use Rattle.seuss_print.specs.Statements.{kind_symbol, typed, binding, call_items, body}
use Rattle.seuss_print.specs.Canonical as C
use Rattle.seuss_print.specs.Canonical.{alternative, pre_items, arrow_symbol, equals, start_items}
use Rattle.seuss_print.specs.Canonical.{result_items, method_head, form_items, procedure, variable}
use Rattle.seuss_print.specs.Canonical.{side_symbol, hint, semi, cat, box_name, box, program}
use Rattle.seuss_print.specs.Printable.{HasFewMarks, pre_args}
use Rattle.seuss_print.proofs.Costs.{tokens-append, line-tokens}
use Rattle.seuss_print.proofs.Makes.{Makes, makes-as, makes-same, makes-then, makes-word, word-makes}
use Rattle.seuss_print.proofs.Makes.{makes-only, makes-none, makes-some, makes-first, makes-second}
use Rattle.seuss_print.proofs.Makes.{kept_option, AlwaysReads}
use Rattle.seuss_print.proofs.WordSorts.{none-some, some-same}
use Rattle.seuss_print.proofs.ParsedStatements.{Kept, KeptAlternative, Alternatives, in_row}
use Rattle.seuss_print.proofs.ParsedTrees.{FineForm, FineProcedure, FineCat}
use Rattle.seuss_print.proofs.MadeExpressions.{nothing, reads-symbol, reads-name, reads-table, meaning}
use Rattle.seuss_print.proofs.MadeLists.{Spelled, kept_list, depth_of, depth_of_all, whole-expression}
use Rattle.seuss_print.proofs.MadeLists.{made-arguments, made-row, made-perhaps-separated}
use Rattle.seuss_print.proofs.MadeLists.{made-perhaps-group}
use Rattle.seuss_print.proofs.MadeStatements.{made-call, made-perhaps-binding, kind-found, perhaps-same}
use Rattle.seuss_print.proofs.MadeStatements.{enough_for, body-made, statements-made}

-- a name and its type
made-param : (brackets blocks : ℕ) (p : Param) → IsSmall p.kind →
    Spelled (IsParam brackets blocks) L.param C.param p
unfolding IsParam
made-param brackets blocks p small =
    word-makes as_name L.name p.name (Named p.name.text) (reads-name p.name) _ L.param p _ 0 (λ n name.
    word-makes (as_symbol S.Colon) nothing 0 (Fixed S.Colon) (reads-symbol S.Colon) _ L.param p _ 0
    (λ c colon.
    word-makes (as_one_of small_kind) meaning (record { is = p.kind; line = 0 })
    (Fixed (kind_symbol p.kind))
    (reads-table small_kind (kind_symbol p.kind) p.kind (kind-found p.kind small) _ refl) _ L.param p []
    0 (λ k is.
    makes-only _ p L.param
    (ap (λ (z : Name). record { name = z; kind = k.is }) name
    ∙ ap (λ z. record { name = L.name p.name; kind = z }) is))))

made-params : (brackets blocks : ℕ) (ps : List Param) → AllByRecursion (λ (p : Param). IsSmall p.kind) ps →
    AllByRecursion (Spelled (IsParam brackets blocks) L.param C.param) ps
made-params brackets blocks [] small = tt
made-params brackets blocks (p ∷ ps) small =
    (made-param brackets blocks p small.0, made-params brackets blocks ps small.1)

-- the call before a body, where there is one
depth_of_pre : Option (Pre Name) → ℕ
depth_of_pre None = 0
depth_of_pre (Some pre) = depth_of_all pre.call.args

-- what is kept of a call that may be left out
perhaps-pre : (o p : Option (Pre Name)) → kept_option L.pre o ≡ kept_option L.pre p →
    L.perhaps L.pre o ≡ L.perhaps L.pre p
perhaps-pre None None h = refl
perhaps-pre None (Some b) h = absurd (none-some _ h)
perhaps-pre (Some a) None h = absurd (none-some _ (sym h))
perhaps-pre (Some a) (Some b) h = h

module _ (brackets : ℕ) where
  made-pre : (pre : Pre Name) → AllByRecursion HasFewMarks pre.call.args →
      depth_of_all pre.call.args ≤ brackets →
      Makes (IsPre brackets) L.pre pre
      (Fixed S.Semicolon ∷ (tokens_in (binding pre.bind) ++ tokens_in (call_items pre.call))) 0
  unfolding IsPre
  made-pre pre marks h =
      word-makes (as_symbol S.Semicolon) nothing 0 (Fixed S.Semicolon) (reads-symbol S.Semicolon) _ L.pre
      pre _ 0 (λ l was.
      makes-as _ L.pre pre _ _ (0 + 0) 0 refl (omega arith)
      (makes-then (Optional (IsBinding brackets)) _ (kept_option L.name) L.pre pre.bind pre
      (tokens_in (binding pre.bind)) (tokens_in (call_items pre.call)) 0 0
      (made-perhaps-binding brackets pre.bind) (λ b name.
      makes-as _ L.pre pre (tokens_in (call_items pre.call) ++ []) _ (0 + 0) 0
      (append-nil (tokens_in (call_items pre.call))) (omega arith)
      (makes-then (IsCall brackets) _ L.call L.pre pre.call pre (tokens_in (call_items pre.call)) [] 0 0
      (made-call brackets pre.call (marks, h)) (λ c same.
      makes-only _ pre L.pre
      (ap (λ (z : Option Name). record { bind = z; call = L.call c }) (perhaps-same b pre.bind name)
      ∙ ap (λ z. record { bind = L.perhaps L.name pre.bind; call = z }) same))))))

  made-perhaps-pre : (pre : Option (Pre Name)) → AllByRecursion HasFewMarks (pre_args pre) →
      depth_of_pre pre ≤ brackets →
      Makes (Optional (IsPre brackets)) (kept_option L.pre) pre (tokens_in (pre_items pre)) 0
  unfolding depth_of_pre
  made-perhaps-pre None marks h = makes-none (IsPre brackets) L.pre
  made-perhaps-pre (Some pre) marks h = makes-as (Optional (IsPre brackets)) (kept_option L.pre) (Some pre)
      _ _ 0 0
      (ap (λ ss. Fixed S.Semicolon ∷ ss) (sym (tokens-append (binding pre.bind) (call_items pre.call)))) refl
      (makes-some (IsPre brackets) L.pre pre _ 0 (made-pre pre marks h))

arrow-found : (b : Bool) → arrow (arrow_symbol b) ≡ Some b
arrow-found true = refl
arrow-found false = refl

abbrev depth_of_body : List (Statement Name) → ℕ
depth_of_body ss = enough_for ss (statements-made ss)

depth_of_alternative : Alternative Name → ℕ
depth_of_alternative a = depth_of a.cond + depth_of_pre a.pre + depth_of_body a.body

when-tokens : (a : Alternative Name) → Fixed S.When
    ∷ (tokens_in (expression a.cond) ++
    (tokens_in (pre_items a.pre) ++ Fixed (arrow_symbol a.positive) ∷ tokens_in (body a.body 3)))
    ≡ tokens_in (alternative a)
when-tokens a =
    let head : List Item = symbol S.When ∷ Space ∷ expression a.cond ++ pre_items a.pre ++ Space
    ∷ symbol (arrow_symbol a.positive) ∷ [] in
    let inner : tokens_in
    (expression a.cond ++ pre_items a.pre ++ Space ∷ symbol (arrow_symbol a.positive) ∷ [])
    ≡ tokens_in (expression a.cond) ++
    (tokens_in (pre_items a.pre) ++ Fixed (arrow_symbol a.positive) ∷ []) =
    tokens-append (expression a.cond ++ pre_items a.pre) (Space ∷ symbol (arrow_symbol a.positive) ∷ [])
    ∙ (ap (λ ss. ss ++ Fixed (arrow_symbol a.positive) ∷ [])
    (tokens-append (expression a.cond) (pre_items a.pre))
    ∙ append_assoc (tokens_in (expression a.cond)) (tokens_in (pre_items a.pre))
    (Fixed (arrow_symbol a.positive) ∷ [])) in
    sym (tokens-append (line 2 head) (body a.body 3)
    ∙ (ap (λ ss. ss ++ tokens_in (body a.body 3)) (line-tokens 2 head ∙ ap (λ ss. Fixed S.When ∷ ss) inner)
    ∙ ap (λ ss. Fixed S.When ∷ ss)
    (append_assoc (tokens_in (expression a.cond))
    (tokens_in (pre_items a.pre) ++ Fixed (arrow_symbol a.positive) ∷ []) (tokens_in (body a.body 3))
    ∙ ap (λ ss. tokens_in (expression a.cond) ++ ss)
    (append_assoc (tokens_in (pre_items a.pre)) (Fixed (arrow_symbol a.positive) ∷ [])
    (tokens_in (body a.body 3))))))

module _ (brackets blocks : ℕ) where
  made-alternative : (a : Alternative Name) → KeptAlternative a → depth_of_alternative a ≤ brackets →
      depth_of_alternative a ≤ blocks →
      Spelled (IsAlternative brackets blocks) L.alternative alternative a
  unfolding IsAlternative depth_of_alternative
  made-alternative a kept h k =
      let es : List Sort = tokens_in (expression a.cond) in
      let ps : List Sort = tokens_in (pre_items a.pre) in
      let bs : List Sort = tokens_in (body a.body 3) in
      makes-as _ L.alternative a _ _ 0 0 (when-tokens a) refl
      (word-makes (as_symbol S.When) nothing 0 (Fixed S.When) (reads-symbol S.When) _ L.alternative a _ 0
      (λ l was.
      makes-as _ L.alternative a _ _ (0 + 0) 0 refl (omega arith)
      (makes-then (IsWholeExpression brackets) _ L.expression L.alternative a.cond a es
      (ps ++ Fixed (arrow_symbol a.positive) ∷ bs) 0 0
      (whole-expression a.cond brackets (omega (arith, h)) kept.cond) (λ e cond.
      makes-as _ L.alternative a _ _ (0 + 0) 0 refl (omega arith)
      (makes-then (Optional (IsPre brackets)) _ (kept_option L.pre) L.alternative a.pre a ps
      (Fixed (arrow_symbol a.positive) ∷ bs) 0 0
      (made-perhaps-pre brackets a.pre kept.pre (omega (arith, h))) (λ p pre.
      word-makes (as_one_of arrow) meaning (record { is = a.positive; line = 0 })
      (Fixed (arrow_symbol a.positive))
      (reads-table arrow (arrow_symbol a.positive) a.positive (arrow-found a.positive) _ refl) _
      L.alternative a bs 0 (λ b is.
      makes-as _ L.alternative a (bs ++ []) bs (0 + 0) 0 (append-nil bs) (omega arith)
      (makes-then (IsBody brackets blocks) _ (kept_list L.statement) L.alternative a.body a bs [] 0 0
      (body-made a.body (statements-made a.body) brackets blocks max_nesting (omega (arith, h))
      (omega (arith, k)) kept.body 3) (λ ss same.
      makes-only _ a L.alternative
      (ap (λ z. record {
        line = 0;
        cond = z;
        pre = L.perhaps L.pre p;
        positive = b.is;
        body =
            map L.statement ss;
      }) cond
      ∙ (ap (λ z. record {
        line = 0;
        cond = L.expression a.cond;
        pre = z;
        positive = b.is;
        body =
            map L.statement ss;
      }) (perhaps-pre p a.pre pre)
      ∙ (ap (λ z. record {
        line = 0;
        cond = L.expression a.cond;
        pre = L.perhaps L.pre a.pre;
        positive = z;
        body = map L.statement ss;
      }) is
      ∙ ap (λ z. record {
        line = 0;
        cond = L.expression a.cond;
        pre = L.perhaps L.pre a.pre;
        positive =
            a.positive;
        body = z;
      }) same))))))))))))

pub depth_of_alternatives : List (Alternative Name) → ℕ
depth_of_alternatives [] = 0
depth_of_alternatives (a ∷ as_) = depth_of_alternative a + depth_of_alternatives as_

module _ (brackets blocks : ℕ) where
  each-alternative : (as_ : List (Alternative Name)) → AllByRecursion KeptAlternative as_ →
      depth_of_alternatives as_ ≤ brackets → depth_of_alternatives as_ ≤ blocks →
      AllByRecursion (Spelled (IsAlternative brackets blocks) L.alternative alternative) as_
  unfolding depth_of_alternatives
  each-alternative [] kept h k = tt
  each-alternative (a ∷ as_) kept h k = (
    made-alternative brackets blocks a kept.0 (omega (arith, h)) (omega (arith, k)),
    each-alternative as_
        kept.1 (omega (arith, h)) (omega (arith, k)),
  )

  made-alternatives : (as_ : List (Alternative Name)) → Alternatives as_ →
      depth_of_alternatives as_ ≤ brackets → depth_of_alternatives as_ ≤ blocks →
      Spelled (AreAlternatives brackets blocks) (kept_list L.alternative) in_row as_
  unfolding AreAlternatives
  made-alternatives [] fine h k = absurd (fine.some refl)
  made-alternatives (a ∷ others) fine h k =
      let each = each-alternative (a ∷ others) fine.kept h k in
      makes-as _ (kept_list L.alternative) (a ∷ others)
      (tokens_in (alternative a) ++ tokens_in (in_row others)) _ (0 + 0) 0
      (sym (tokens-append (alternative a) (in_row others))) (omega arith)
      (makes-then (IsAlternative brackets blocks) _ L.alternative (kept_list L.alternative) a (a ∷ others)
      (tokens_in (alternative a)) (tokens_in (in_row others)) 0 0 each.0 (λ x same.
      makes-as _ (kept_list L.alternative) (a ∷ others) (tokens_in (in_row others) ++ []) _ (0 + 0) 0
      (append-nil (tokens_in (in_row others))) (omega arith)
      (makes-then (Many (IsAlternative brackets blocks)) _ (kept_list L.alternative)
      (kept_list L.alternative) others (a ∷ others) (tokens_in (in_row others)) [] 0 0
      (made-row (IsAlternative brackets blocks) L.alternative alternative others each.1) (λ xs is.
      makes-only (x ∷ xs) (a ∷ others) (kept_list L.alternative)
      (ap (λ c. c ∷ map L.alternative xs) same ∙ ap (λ cs. L.alternative a ∷ cs) is)))))

-- the type of a result, where there is one
given_line : Bool → Option ℕ
given_line true = Some 0
given_line false = None

gives-same : (b : Bool) (o : Option ℕ) → kept_option nothing o ≡ kept_option nothing (given_line b) →
    is_some o ≡ b
unfolding given_line
gives-same true None h = absurd (none-some _ h)
gives-same true (Some l) h = refl
gives-same false None h = refl
gives-same false (Some l) h = absurd (none-some _ (sym h))

made-end : {B D : Type 0} (this b : B) (keep : B → D) → keep this ≡ keep b →
    Makes (IsSymbol S.End >> Only this) keep b (Fixed S.End ∷ []) 0
made-end this b keep h = word-makes (as_symbol S.End) nothing 0 (Fixed S.End) (reads-symbol S.End) _ keep b
    [] 0 (λ l was. makes-only this b keep h)

pub depth_of_form : Form Name → ℕ
depth_of_form (F.Total ss) = depth_of_body ss
depth_of_form (F.Partial as_) = depth_of_alternatives as_
depth_of_form (F.Action as_) = depth_of_alternatives as_

-- the tokens of the parts of a procedure
abbrev args_of : Proc Name → List Item
args_of q = bracketed (separated C.param q.params)

head-tokens : (q : Proc Name) (rest : List Item) →
    tokens_in (method_head q ++ rest) ≡ Named q.name.text
    ∷ (tokens_in (args_of q) ++ (tokens_in (result_items q.gives) ++ tokens_in rest))
head-tokens q rest =
    tokens-append (method_head q) rest
    ∙ ap (λ ss. Named q.name.text ∷ ss)
    (ap (λ ss. ss ++ tokens_in rest) (tokens-append (args_of q) (result_items q.gives))
    ∙ append_assoc (tokens_in (args_of q)) (tokens_in (result_items q.gives)) (tokens_in rest))

-- a line, what stands below it, and `end`
below-tokens : (head below : List Item) → tokens_in (line 1 head ++ below ++ line 1 (symbol S.End ∷ []))
    ≡ tokens_in head ++ (tokens_in below ++ Fixed S.End ∷ [])
below-tokens head below =
    tokens-append (line 1 head ++ below) (line 1 (symbol S.End ∷ []))
    ∙ (ap (λ ss. ss ++ tokens_in (line 1 (symbol S.End ∷ [])))
    (tokens-append (line 1 head) below ∙ ap (λ ss. ss ++ tokens_in below) (line-tokens 1 head))
    ∙ (ap (λ ss. (tokens_in head ++ tokens_in below) ++ ss) (line-tokens 1 (symbol S.End ∷ []))
    ∙ append_assoc (tokens_in head) (tokens_in below) (Fixed S.End ∷ [])))

module _ (brackets blocks : ℕ) where
  made-type : (l : ℕ) → Makes (IsResult brackets blocks) nothing l (Fixed S.Colon ∷ Fixed S.Int ∷ []) 0
  unfolding IsResult
  made-type l = word-makes (as_symbol S.Colon) nothing 0 (Fixed S.Colon) (reads-symbol S.Colon) _ nothing l
      (Fixed S.Int ∷ []) 0 (λ k was.
      makes-same (IsSymbol S.Int) nothing 0 l (Fixed S.Int ∷ []) 0 refl
      (makes-word (as_symbol S.Int) nothing 0 (Fixed S.Int) (reads-symbol S.Int)))

  made-result : (b : Bool) → Makes (Optional (IsResult brackets blocks)) (kept_option nothing)
      (given_line b) (tokens_in (result_items b)) 0
  unfolding given_line
  made-result true = makes-some (IsResult brackets blocks) nothing 0 (Fixed S.Colon ∷ Fixed S.Int ∷ []) 0
      (made-type 0)
  made-result false = makes-none (IsResult brackets blocks) nothing

  abbrev kept_params : List Param → List Param
  kept_params ps = map L.param ps

  -- what is kept of a method
  method-same : (n m : Name) (ps qs : List Param) (o : Option ℕ) (b : Bool) (f g : Form Name) →
      L.name n ≡ L.name m → map L.param ps ≡ map L.param qs →
      is_some o ≡ b → L.form f ≡ L.form g →
      L.procedure (record { name = n; params = ps; gives = is_some o; form = f })
      ≡ L.procedure (record { name = m; params = qs; gives = b; form = g })
  method-same n m ps qs o b f g name params gives form =
      ap (λ z. record { name = z; params = map L.param ps; gives = is_some o; form = L.form f }) name
      ∙ (ap (λ z. record { name = L.name m; params = z; gives = is_some o; form = L.form f }) params
      ∙ (ap (λ z. record { name = L.name m; params = map L.param qs; gives = z; form = L.form f }) gives
      ∙ ap (λ z. record { name = L.name m; params = map L.param qs; gives = b; form = z }) form))

  made-total : (n : Name) (ps : List Param) (b : Bool) (ss : List (Statement Name)) →
      AllByRecursion (λ (p : Param). IsSmall p.kind) ps → AllByRecursion (Kept max_nesting) ss →
      depth_of_body ss ≤ brackets → depth_of_body ss ≤ blocks →
      Spelled (IsTotal brackets blocks) L.procedure procedure
      (record { name = n; params = ps; gives = b; form = F.Total ss })
  unfolding IsTotal
  made-total n ps b ss small kept h k =
      let q : Proc Name = record { name = n; params = ps; gives = b; form = F.Total ss } in
      let args : List Sort = tokens_in (args_of q) in
      let res : List Sort = tokens_in (result_items b) in
      let bs : List Sort = tokens_in (body ss 2) in
      let sorts : Fixed S.Total ∷ Named n.text ∷ (args ++ (res ++ Fixed S.Is ∷ (bs ++ Fixed S.End ∷ [])))
      ≡ tokens_in (procedure q) =
      sym (below-tokens (symbol S.Total ∷ method_head q ++ Space ∷ symbol S.Is ∷ []) (body ss 2)
      ∙ (ap (λ xs. Fixed S.Total ∷ (xs ++ (bs ++ Fixed S.End ∷ [])))
      (head-tokens q (Space ∷ symbol S.Is ∷ []))
      ∙ ap (λ xs. Fixed S.Total ∷ Named n.text ∷ xs)
      (append_assoc args (res ++ Fixed S.Is ∷ []) (bs ++ Fixed S.End ∷ [])
      ∙ ap (λ xs. args ++ xs) (append_assoc res (Fixed S.Is ∷ []) (bs ++ Fixed S.End ∷ []))))) in
      makes-as _ L.procedure q _ _ 0 0 sorts refl
      (word-makes (as_symbol S.Total) nothing 0 (Fixed S.Total) (reads-symbol S.Total) _ L.procedure q _ 0
      (λ l was.
      word-makes as_name L.name n (Named n.text) (reads-name n) _ L.procedure q _ 0 (λ m name.
      makes-as _ L.procedure q _ _ (0 + 0) 0 refl (omega arith)
      (makes-then (IsArguments (IsParam brackets blocks)) _ (kept_list L.param) L.procedure ps q args _ 0 0
      (made-arguments (IsParam brackets blocks) L.param C.param ps
      (made-params brackets blocks ps small)) (λ xs params.
      makes-as _ L.procedure q _ _ (0 + 0) 0 refl (omega arith)
      (makes-then (Optional (IsResult brackets blocks)) _ (kept_option nothing) L.procedure (given_line b) q
      res _ 0 0 (made-result b) (λ o gives.
      word-makes (as_symbol S.Is) nothing 0 (Fixed S.Is) (reads-symbol S.Is) _ L.procedure q _ 0 (λ i is.
      makes-as _ L.procedure q _ _ (0 + 0) 0 refl (omega arith)
      (makes-then (IsBody brackets blocks) _ (kept_list L.statement) L.procedure ss q bs (Fixed S.End ∷ [])
      0 0 (body-made ss (statements-made ss) brackets blocks max_nesting h k kept 2) (λ ys same.
      made-end _ q L.procedure
      (method-same m n xs ps o b (F.Total ys) (F.Total ss) name params (gives-same b o gives)
      (ap (λ z. F.Total z) same))))))))))))

  made-partial : (n : Name) (ps : List Param) (b : Bool) (as_ : List (Alternative Name)) →
      AllByRecursion (λ (p : Param). IsSmall p.kind) ps → Alternatives as_ →
      depth_of_alternatives as_ ≤ brackets → depth_of_alternatives as_ ≤ blocks →
      Spelled (IsPartial brackets blocks) L.procedure procedure
      (record { name = n; params = ps; gives = b; form = F.Partial as_ })
  unfolding IsPartial
  made-partial n ps b as_ small fine h k =
      let q : Proc Name = record { name = n; params = ps; gives = b; form = F.Partial as_ } in
      let args : List Sort = tokens_in (args_of q) in
      let res : List Sort = tokens_in (result_items b) in
      let bs : List Sort = tokens_in (in_row as_) in
      let head : tokens_in (method_head q) ≡ Named n.text ∷ (args ++ res) =
      ap (λ ss. Named n.text ∷ ss) (tokens-append (args_of q) (result_items b)) in
      let sorts : Fixed S.Partial ∷ Named n.text ∷ (args ++ (res ++ (bs ++ Fixed S.End ∷ [])))
      ≡ tokens_in (procedure q) =
      sym (below-tokens (symbol S.Partial ∷ method_head q) (in_row as_)
      ∙ (ap (λ xs. Fixed S.Partial ∷ (xs ++ (bs ++ Fixed S.End ∷ []))) head
      ∙ ap (λ xs. Fixed S.Partial ∷ Named n.text ∷ xs) (append_assoc args res (bs ++ Fixed S.End ∷ [])))) in
      makes-as _ L.procedure q _ _ 0 0 sorts refl
      (word-makes (as_symbol S.Partial) nothing 0 (Fixed S.Partial) (reads-symbol S.Partial) _ L.procedure q
      _ 0 (λ l was.
      word-makes as_name L.name n (Named n.text) (reads-name n) _ L.procedure q _ 0 (λ m name.
      makes-as _ L.procedure q _ _ (0 + 0) 0 refl (omega arith)
      (makes-then (IsArguments (IsParam brackets blocks)) _ (kept_list L.param) L.procedure ps q args _ 0 0
      (made-arguments (IsParam brackets blocks) L.param C.param ps
      (made-params brackets blocks ps small)) (λ xs params.
      makes-as _ L.procedure q _ _ (0 + 0) 0 refl (omega arith)
      (makes-then (Optional (IsResult brackets blocks)) _ (kept_option nothing) L.procedure (given_line b) q
      res _ 0 0 (made-result b) (λ o gives.
      makes-as _ L.procedure q _ _ (0 + 0) 0 refl (omega arith)
      (makes-then (AreAlternatives brackets blocks) _ (kept_list L.alternative) L.procedure as_ q bs
      (Fixed S.End ∷ []) 0 0 (made-alternatives brackets blocks as_ fine h k) (λ ys same.
      made-end _ q L.procedure
      (method-same m n xs ps o b (F.Partial ys) (F.Partial as_) name params (gives-same b o gives)
      (ap (λ z. F.Partial z) same)))))))))))

  made-action : (n : Name) (as_ : List (Alternative Name)) → Alternatives as_ →
      depth_of_alternatives as_ ≤ brackets → depth_of_alternatives as_ ≤ blocks →
      Spelled (IsAction brackets blocks) L.procedure procedure
      (record { name = n; params = []; gives = false; form = F.Action as_ })
  unfolding IsAction
  made-action n as_ fine h k =
      let q : Proc Name = record { name = n; params = []; gives = false; form = F.Action as_ } in
      let bs : List Sort = tokens_in (in_row as_) in
      makes-as _ L.procedure q (Fixed S.Action ∷ Named n.text ∷ (bs ++ Fixed S.End ∷ [])) _ 0 0
      (sym (below-tokens (symbol S.Action ∷ Space ∷ named n ∷ []) (in_row as_))) refl
      (word-makes (as_symbol S.Action) nothing 0 (Fixed S.Action) (reads-symbol S.Action) _ L.procedure q _
      0 (λ l was.
      word-makes as_name L.name n (Named n.text) (reads-name n) _ L.procedure q _ 0 (λ m name.
      makes-as _ L.procedure q _ _ (0 + 0) 0 refl (omega arith)
      (makes-then (AreAlternatives brackets blocks) _ (kept_list L.alternative) L.procedure as_ q bs
      (Fixed S.End ∷ []) 0 0 (made-alternatives brackets blocks as_ fine h k) (λ ys same.
      made-end _ q L.procedure
      (method-same m n [] [] None false (F.Action ys) (F.Action as_) name refl refl
      (ap (λ z. F.Action z) same)))))))

  made-form : (n : Name) (ps : List Param) (b : Bool) (form : Form Name) →
      AllByRecursion (λ (p : Param). IsSmall p.kind) ps →
      FineForm (record { name = n; params = ps; gives = b; form = form }) form →
      depth_of_form form ≤ brackets → depth_of_form form ≤ blocks →
      Spelled (IsProcedure brackets blocks) L.procedure procedure
      (record { name = n; params = ps; gives = b; form = form })
  unfolding IsProcedure depth_of_form
  made-form n ps b (F.Total ss) small fine h k = makes-first _ _ L.procedure _ _ 0
      (made-total n ps b ss small fine h k)
  made-form n ps b (F.Partial as_) small fine h k =
      makes-second _ _ L.procedure _ _ 0
      (makes-first (IsPartial brackets blocks) (IsAction brackets blocks) L.procedure _ _ 0
      (made-partial n ps b as_ small fine h k))
  made-form n ps b (F.Action as_) small fine h k =
      let whole : (zs : List Param) (c : Bool) → zs ≡ [] → c ≡ false →
      Spelled (IsAction brackets blocks) L.procedure procedure
      (record { name = n; params = zs; gives = c; form = F.Action as_ }) =
      λ zs c none no_result.
      subst (λ xs. Spelled (IsAction brackets blocks) L.procedure procedure
      (record { name = n; params = xs; gives = c; form = F.Action as_ })) (sym none)
      (subst (λ x. Spelled (IsAction brackets blocks) L.procedure procedure
      (record { name = n; params = []; gives = x; form = F.Action as_ })) (sym no_result)
      (made-action n as_ fine.2 h k)) in
      makes-second _ _ L.procedure _ _ 0
      (makes-second (IsPartial brackets blocks) (IsAction brackets blocks) L.procedure _ _ 0
      (whole ps b fine.0 fine.1))

  pub made-procedure : (q : Proc Name) → FineProcedure q → depth_of_form q.form ≤ brackets →
      depth_of_form q.form ≤ blocks →
      Spelled (IsProcedure brackets blocks) L.procedure procedure q
  made-procedure q fine h k = made-form q.name q.params q.gives q.form fine.params fine.form h k

-- numbers with a sign
abbrev itself : {A : Type 0} → A → A
itself a = a

numeral-reads : (z : ℤ) → AlwaysReads as_numeral (λ (a : Numeral). a.value) (record { value = z; line = 0 })
    (Number z)
numeral-reads z line = record { found = record { value = z; line = line }; is = refl; same = refl }

-- how a number is signed
sign_of : ℤ → Option ℕ
sign_of (pos n) = None
sign_of (negsuc n) = Some 0

size_of : ℤ → ℤ
size_of (pos n) = pos n
size_of (negsuc n) = pos (suc n)

sign-tokens : (z : ℤ) → (List Sort)
sign-tokens (pos n) = []
sign-tokens (negsuc n) = Fixed S.Minus ∷ []

signed-tokens : (z : ℤ) → sign-tokens z ++ Number (size_of z) ∷ [] ≡ tokens_in (C.signed z)
unfolding sign-tokens size_of
signed-tokens (pos n) = refl
signed-tokens (negsuc n) = refl

made-sign : (z : ℤ) → Makes (Optional (IsSymbol S.Minus)) (kept_option nothing) (sign_of z) (sign-tokens z) 0
unfolding sign_of sign-tokens
made-sign (pos n) = makes-none (IsSymbol S.Minus) nothing
made-sign (negsuc n) = makes-some (IsSymbol S.Minus) nothing 0 (Fixed S.Minus ∷ []) 0
    (makes-word (as_symbol S.Minus) nothing 0 (Fixed S.Minus) (reads-symbol S.Minus))

signed-same : (z : ℤ) (o : Option ℕ) (a : Numeral) →
    kept_option nothing o ≡ kept_option nothing (sign_of z) → a.value ≡ size_of z → signed o a ≡ z
unfolding sign_of size_of
signed-same (pos n) None a h v = v
signed-same (pos n) (Some l) a h v = absurd (none-some _ (sym h))
signed-same (negsuc n) None a h v = absurd (none-some _ h)
signed-same (negsuc n) (Some l) a h v = ap (λ x. neg_ℤ x) v

made-signed : (z : ℤ) → Spelled IsSigned itself C.signed z
unfolding IsSigned
made-signed z = makes-as _ itself z _ _ (0 + 0) 0 (signed-tokens z) (omega arith)
    (makes-then (Optional (IsSymbol S.Minus)) _ (kept_option nothing) itself (sign_of z) z (sign-tokens z)
    (Number (size_of z) ∷ []) 0 0 (made-sign z) (λ o sign.
    word-makes as_numeral (λ (a : Numeral). a.value) (record { value = size_of z; line = 0 })
    (Number (size_of z)) (numeral-reads (size_of z)) _ itself z [] 0 (λ a value.
    makes-only (signed o a) z itself (signed-same z o a sign value))))

made-signeds : (zs : List ℤ) → AllByRecursion (Spelled IsSigned itself C.signed) zs
made-signeds [] = tt
made-signeds (z ∷ zs) = (made-signed z, made-signeds zs)

map-itself : (zs : List ℤ) → map (λ (z : ℤ). z) zs ≡ zs
map-itself [] = refl
map-itself (z ∷ zs) = ap (λ ys. z ∷ ys) (map-itself zs)

-- a start value behind `=`
made-start : {A C : Type 0} (P : Phrase A) (keep : A → C) (a : A) (xs : List Sort) → Makes P keep a xs 0 →
    Makes (IsStart P) keep a (Fixed S.Equal ∷ xs) 0
unfolding IsStart
made-start P keep a xs x = word-makes (as_symbol S.Equal) nothing 0 (Fixed S.Equal) (reads-symbol S.Equal) _
    keep a xs 0 (λ l was. x)

abbrev var_of : Name → Kind → Value → Var
var_of name kind start = record { name = name; kind = kind; start = start }

-- what an optional start value of this kind stands for, and the words of it
module _ {A : Type 0} (P : Phrase A) (name : Name) (kind : Kind) (word : Symbol) (of : Option A → Var)
    (start : Value) (chosen : Option A) (xs : List Sort)
    (made : Makes (Optional (IsStart P)) (kept_option (itself {A = A})) chosen xs 0)
    (is : (o : Option A) → kept_option (itself {A = A}) o ≡ kept_option (itself {A = A}) chosen →
    of o ≡ var_of name kind start) where
  typed-made : Makes (IsSymbol word >> (Optional (IsStart P) >>= (λ (o : Option A). Only (of o))))
      L.variable (var_of name kind start) (Fixed word ∷ xs) 0
  typed-made = word-makes (as_symbol word) nothing 0 (Fixed word) (reads-symbol word) _ L.variable
      (var_of name kind start) xs 0 (λ l was.
      makes-as _ L.variable (var_of name kind start) (xs ++ []) xs (0 + 0) 0 (append-nil xs) (omega arith)
      (makes-then (Optional (IsStart P)) (λ (o : Option A). Only (of o)) (kept_option itself) L.variable
      chosen (var_of name kind start) xs [] 0 0 made (λ o same.
      makes-only (of o) (var_of name kind start) L.variable (ap (λ v. L.variable v) (is o same)))))

-- an option that is kept whole is the same
option-same : {A : Type 0} (o p : Option A) → kept_option (itself {A = A}) o
    ≡ kept_option (itself {A = A}) p → o ≡ p
option-same None None h = refl
option-same None (Some b) h = absurd (none-some _ h)
option-same (Some a) None h = absurd (none-some _ (sym h))
option-same (Some a) (Some b) h = h

-- the usual start value is left out
int_choice : Bool → ℤ → Option ℤ
int_choice true z = None
int_choice false z = Some z

int-tokens : Bool → ℤ → List Sort
int-tokens true z = []
int-tokens false z = Fixed S.Equal ∷ tokens_in (C.signed z)

int-printed : (b : Bool) (z : ℤ) → int-tokens b z ≡ tokens_in (if b then [] else equals (C.signed z))
unfolding int-tokens
int-printed true z = refl
int-printed false z = refl

made-int-start : (b : Bool) (z : ℤ) → Makes (Optional (IsStart IsSigned)) (kept_option itself)
    (int_choice b z) (int-tokens b z) 0
unfolding int_choice int-tokens
made-int-start true z = makes-none (IsStart IsSigned) itself
made-int-start false z = makes-some (IsStart IsSigned) itself z _ 0
    (made-start IsSigned itself z _ (made-signed z))

int-value : (b : Bool) (z : ℤ) → (b ≡ true → z ≡ pos 0) → unwrap_or (int_choice b z) (pos 0) ≡ z
unfolding int_choice
int-value true z h = sym (h refl)
int-value false z h = refl

made-int : (name : Name) (z : ℤ) → Makes (IsIntOf name) L.variable (var_of name K.Int (V.Int z))
    (Fixed S.Int ∷ tokens_in (start_items (V.Int z))) 0
unfolding IsIntOf
made-int name z =
    let b : Bool = int_eq z (pos 0) in
    makes-as _ L.variable _ _ _ 0 0 (ap (λ ss. Fixed S.Int ∷ ss) (int-printed b z)) refl
    (typed-made IsSigned name K.Int S.Int (int_variable name) (V.Int z) (int_choice b z) (int-tokens b z)
    (made-int-start b z)
    (λ o same. ap (λ x. int_variable name x) (option-same o (int_choice b z) same)
    ∙ ap (λ x. var_of name K.Int (V.Int x)) (int-value b z (Decides-int_eq z (pos 0)).0)))

-- the same of a truth value, of which the line isn't kept
bool_choice : Bool → Option (Marked Bool)
bool_choice true = Some (record { is = true; line = 0 })
bool_choice false = None

bool-tokens : Bool → List Sort
bool-tokens true = Fixed S.Equal ∷ Fixed S.True ∷ []
bool-tokens false = []

bool-printed : (b : Bool) → Fixed S.Bool ∷ bool-tokens b ≡ Fixed S.Bool ∷ tokens_in (start_items (V.Bool b))
unfolding bool-tokens
bool-printed true = refl
bool-printed false = refl

made-bool-start : (b : Bool) → Makes (Optional (IsStart (IsOneOf truth))) (kept_option meaning)
    (bool_choice b) (bool-tokens b) 0
unfolding bool_choice bool-tokens
made-bool-start true = makes-some (IsStart (IsOneOf truth)) meaning (record { is = true; line = 0 }) _ 0
    (made-start (IsOneOf truth) meaning (record { is = true; line = 0 }) (Fixed S.True ∷ [])
    (makes-word (as_one_of truth) meaning (record { is = true; line = 0 }) (Fixed S.True)
    (reads-table truth S.True true refl _ refl)))
made-bool-start false = makes-none (IsStart (IsOneOf truth)) meaning

bool-same : (name : Name) (b : Bool) (o : Option (Marked Bool)) →
    kept_option meaning o ≡ kept_option meaning (bool_choice b) →
    bool_variable name o ≡ var_of name K.Bool (V.Bool b)
unfolding bool_choice
bool-same name true None h = absurd (none-some _ h)
bool-same name true (Some m) h = ap (λ x. var_of name K.Bool (V.Bool x)) (some-same _ _ h)
bool-same name false None h = refl
bool-same name false (Some m) h = absurd (none-some _ (sym h))

made-bool : (name : Name) (b : Bool) → Makes (IsBoolOf name) L.variable (var_of name K.Bool (V.Bool b))
    (Fixed S.Bool ∷ tokens_in (start_items (V.Bool b))) 0
unfolding IsBoolOf
made-bool name b = makes-as _ L.variable (var_of name K.Bool (V.Bool b)) (Fixed S.Bool ∷ bool-tokens b) _ 0
    0 (bool-printed b) refl
    (word-makes (as_symbol S.Bool) nothing 0 (Fixed S.Bool) (reads-symbol S.Bool) _ L.variable
    (var_of name K.Bool (V.Bool b)) (bool-tokens b) 0 (λ l was.
    makes-as _ L.variable (var_of name K.Bool (V.Bool b)) (bool-tokens b ++ []) (bool-tokens b) (0 + 0) 0
    (append-nil (bool-tokens b)) (omega arith)
    (makes-then (Optional (IsStart (IsOneOf truth))) _ (kept_option meaning) L.variable (bool_choice b)
    (var_of name K.Bool (V.Bool b)) (bool-tokens b) [] 0 0 (made-bool-start b) (λ o same.
    makes-only (bool_variable name o) (var_of name K.Bool (V.Bool b)) L.variable
    (ap (λ v. L.variable v) (bool-same name b o same))))))

-- a sequence
abbrev sequence-items : List ℤ → List Item
sequence-items zs = symbol S.OpenSquare ∷ separated C.signed zs ++ symbol S.CloseSquare ∷ []

made-sequence : (zs : List ℤ) → Spelled IsSequence itself sequence-items zs
unfolding IsSequence
made-sequence zs =
    let xs : List Sort = tokens_in (separated C.signed zs) in
    makes-as _ itself zs (Fixed S.OpenSquare ∷ (xs ++ Fixed S.CloseSquare ∷ [])) _ (0 + 0) 0
    (ap (λ ss. Fixed S.OpenSquare ∷ ss)
    (sym (tokens-append (separated C.signed zs) (symbol S.CloseSquare ∷ [])))) (omega arith)
    (word-makes (as_symbol S.OpenSquare) nothing 0 (Fixed S.OpenSquare) (reads-symbol S.OpenSquare) _ itself
    zs _ (0 + 0) (λ l was.
    makes-then (IsPerhapsSeparated IsSigned) _ (kept_list itself) itself zs zs xs (Fixed S.CloseSquare ∷ [])
    0 0 (made-perhaps-separated IsSigned itself C.signed zs (made-signeds zs)) (λ ys same.
    word-makes (as_symbol S.CloseSquare) nothing 0 (Fixed S.CloseSquare) (reads-symbol S.CloseSquare) _
    itself zs [] 0 (λ k were.
    makes-only ys zs itself (sym (map-itself ys) ∙ (same ∙ map-itself zs))))))

seq_choice : List ℤ → Option (List ℤ)
seq_choice [] = None
seq_choice (z ∷ zs) = Some (z ∷ zs)

made-seq-start : (zs : List ℤ) → Makes (Optional (IsStart IsSequence)) (kept_option itself) (seq_choice zs)
    (tokens_in (start_items (V.Seq zs))) 0
unfolding seq_choice
made-seq-start [] = makes-none (IsStart IsSequence) itself
made-seq-start (z ∷ zs) = makes-some (IsStart IsSequence) itself (z ∷ zs) _ 0
    (made-start IsSequence itself (z ∷ zs) _ (made-sequence (z ∷ zs)))

seq-value : (zs : List ℤ) → listed (seq_choice zs) ≡ zs
unfolding seq_choice
seq-value [] = refl
seq-value (z ∷ zs) = refl

made-seq : (name : Name) (zs : List ℤ) → Makes (IsSeqOf name) L.variable (var_of name K.Seq (V.Seq zs))
    (Fixed S.Seq ∷ tokens_in (start_items (V.Seq zs))) 0
unfolding IsSeqOf
made-seq name zs =
    typed-made IsSequence name K.Seq S.Seq (seq_variable name) (V.Seq zs) (seq_choice zs)
    (tokens_in (start_items (V.Seq zs))) (made-seq-start zs)
    (λ o same. ap (λ x. seq_variable name x) (option-same o (seq_choice zs) same)
    ∙ ap (λ x. var_of name K.Seq (V.Seq x)) (seq-value zs))

-- the type and the start value of a variable
made-typed : (name : Name) (kind : Kind) (start : Value) → HasKind start kind →
    Makes (Either (IsIntOf name) (Either (IsBoolOf name) (IsSeqOf name))) L.variable
    (var_of name kind start) (Fixed (kind_symbol kind) ∷ tokens_in (start_items start)) 0
made-typed name kind (V.Int z) h =
    subst (λ k. Makes (Either (IsIntOf name) (Either (IsBoolOf name) (IsSeqOf name))) L.variable
    (var_of name k (V.Int z)) (Fixed (kind_symbol k) ∷ tokens_in (start_items (V.Int z))) 0) (sym h)
    (makes-first (IsIntOf name) (Either (IsBoolOf name) (IsSeqOf name)) L.variable _ _ 0 (made-int name z))
made-typed name kind (V.Bool b) h =
    subst (λ k. Makes (Either (IsIntOf name) (Either (IsBoolOf name) (IsSeqOf name))) L.variable
    (var_of name k (V.Bool b)) (Fixed (kind_symbol k) ∷ tokens_in (start_items (V.Bool b))) 0) (sym h)
    (makes-second (IsIntOf name) (Either (IsBoolOf name) (IsSeqOf name)) L.variable _ _ 0
    (makes-first (IsBoolOf name) (IsSeqOf name) L.variable _ _ 0 (made-bool name b)))
made-typed name kind (V.Seq zs) h =
    subst (λ k. Makes (Either (IsIntOf name) (Either (IsBoolOf name) (IsSeqOf name))) L.variable
    (var_of name k (V.Seq zs)) (Fixed (kind_symbol k) ∷ tokens_in (start_items (V.Seq zs))) 0) (sym h)
    (makes-second (IsIntOf name) (Either (IsBoolOf name) (IsSeqOf name)) L.variable _ _ 0
    (makes-second (IsBoolOf name) (IsSeqOf name) L.variable _ _ 0 (made-seq name zs)))

made-variable : (v : Var) → HasKind v.start v.kind → Spelled IsVariable L.variable variable v
unfolding IsVariable
made-variable v h =
    let rest : List Sort = Fixed (kind_symbol v.kind) ∷ tokens_in (start_items v.start) in
    makes-as _ L.variable v (Fixed S.Var ∷ Named v.name.text ∷ Fixed S.Colon ∷ rest) _ 0 0
    (sym (line-tokens 1 (symbol S.Var ∷ Space ∷ typed v.name v.kind ++ start_items v.start))) refl
    (word-makes (as_symbol S.Var) nothing 0 (Fixed S.Var) (reads-symbol S.Var) _ L.variable v _ 0 (λ l was.
    word-makes as_name L.name v.name (Named v.name.text) (reads-name v.name) _ L.variable v _ 0 (λ n name.
    word-makes (as_symbol S.Colon) nothing 0 (Fixed S.Colon) (reads-symbol S.Colon) _ L.variable v rest 0
    (λ c colon.
    makes-same _ L.variable (var_of n v.kind v.start) v rest 0
    (ap (λ (z : Name). record { name = z; kind = v.kind; start = v.start }) name)
    (made-typed n v.kind v.start h)))))

made-variables : (vs : List Var) → AllByRecursion (λ (v : Var). HasKind v.start v.kind) vs →
    AllByRecursion (Spelled IsVariable L.variable variable) vs
made-variables [] h = tt
made-variables (v ∷ vs) h = (made-variable v h.0, made-variables vs h.1)

made-given : (g : Given Name) → Spelled IsGiven L.given C.given g
unfolding IsGiven
made-given g =
    word-makes as_name L.name g.name (Named g.name.text) (reads-name g.name) _ L.given g _ 0 (λ n name.
    word-makes (as_symbol S.Colon) nothing 0 (Fixed S.Colon) (reads-symbol S.Colon) _ L.given g _ 0
    (λ c colon.
    word-makes as_name L.name g.cat (Named g.cat.text) (reads-name g.cat) _ L.given g [] 0 (λ k kind.
    makes-only _ g L.given
    (ap (λ (z : Name). record { name = z; cat = L.name k }) name
    ∙ ap (λ z. record { name = L.name g.name; cat = z }) kind))))

all-given : (gs : List (Given Name)) → AllByRecursion (Spelled IsGiven L.given C.given) gs
all-given [] = tt
all-given (g ∷ gs) = (made-given g, all-given gs)

side-found : (b : Bool) → side (side_symbol b) ≡ Some b
side-found true = refl
side-found false = refl

made-hint : (h : Hint Name) → Spelled IsHint L.hint hint h
unfolding IsHint
made-hint h =
    word-makes (as_one_of side) meaning (record { is = h.front; line = 0 }) (Fixed (side_symbol h.front))
    (reads-table side (side_symbol h.front) h.front (side-found h.front) _ refl) _ L.hint h _ 0
    (λ s front.
    word-makes as_name L.name h.name (Named h.name.text) (reads-name h.name) _ L.hint h _ 0 (λ n name.
    word-makes as_numeral (λ (a : Numeral). a.value) (record { value = pos h.depth; line = 0 })
    (Number (pos h.depth)) (numeral-reads (pos h.depth)) _ L.hint h [] 0 (λ a value.
    makes-only _ h L.hint
    (ap (λ z. record { front = z; name = L.name n; depth = nat_abs a.value; line = 0 }) front
    ∙ (ap (λ z. record { front = h.front; name = z; depth = nat_abs a.value; line = 0 }) name
    ∙ ap (λ z. record { front = h.front; name = L.name h.name; depth = nat_abs z; line = 0 }) value)))))

all-hints : (hs : List (Hint Name)) → AllByRecursion (Spelled IsHint L.hint hint) hs
all-hints [] = tt
all-hints (h ∷ hs) = (made-hint h, all-hints hs)

made-semi : (s : Semi Name) → Spelled IsSemi L.semi semi s
unfolding IsSemi
made-semi s =
    let hs : List Sort = tokens_in (flat_map hint s.hints) in
    makes-as _ L.semi s (Fixed S.Semi ∷ Named s.first.text ∷ Fixed S.Comma ∷ Named s.second.text ∷ hs) _ 0 0
    (sym (line-tokens 1 (symbol S.Semi ∷ Space ∷ named s.first ∷ symbol S.Comma ∷ Space ∷ named s.second
    ∷ flat_map hint s.hints))) refl
    (word-makes (as_symbol S.Semi) nothing 0 (Fixed S.Semi) (reads-symbol S.Semi) _ L.semi s _ 0 (λ l was.
    word-makes as_name L.name s.first (Named s.first.text) (reads-name s.first) _ L.semi s _ 0 (λ f first.
    word-makes (as_symbol S.Comma) nothing 0 (Fixed S.Comma) (reads-symbol S.Comma) _ L.semi s _ 0
    (λ c comma.
    word-makes as_name L.name s.second (Named s.second.text) (reads-name s.second) _ L.semi s hs 0
    (λ g second.
    makes-as _ L.semi s (hs ++ []) hs (0 + 0) 0 (append-nil hs) (omega arith)
    (makes-then (Many IsHint) _ (kept_list L.hint) L.semi s.hints s hs [] 0 0
    (made-row IsHint L.hint hint s.hints (all-hints s.hints)) (λ xs same.
    makes-only _ s L.semi
    (ap (λ (z : Name). record { line = 0; first = z; second = L.name g; hints = map L.hint xs }) first
    ∙ (ap (λ z. record { line = 0; first = L.name s.first; second = z; hints = map L.hint xs }) second
    ∙ ap (λ z. record { line = 0; first = L.name s.first; second = L.name s.second; hints = z })
    same)))))))))

all-semis : (ss : List (Semi Name)) → AllByRecursion (Spelled IsSemi L.semi semi) ss
all-semis [] = tt
all-semis (s ∷ ss) = (made-semi s, all-semis ss)

made-box-name : (n : Name) → Spelled IsName L.name box_name n
made-box-name n = makes-word as_name L.name n (Named n.text) (reads-name n)

all-box-names : (ns : List Name) → AllByRecursion (Spelled IsName L.name box_name) ns
all-box-names [] = tt
all-box-names (n ∷ ns) = (made-box-name n, all-box-names ns)

made-box : (b : BoxDecl) → Spelled IsBox L.box box b
unfolding IsBox
made-box b =
    let ns : List Sort = tokens_in (perhaps_bracketed box_name b.given) in
    makes-as _ L.box b (Fixed S.Box ∷ Named b.name.text ∷ Fixed S.Colon ∷ Named b.cat.text ∷ ns) _ 0 0
    (sym (line-tokens 0 (symbol S.Box ∷ Space ∷ named b.name ∷ spaced (symbol S.Colon) ++ named b.cat
    ∷ perhaps_bracketed box_name b.given))) refl
    (word-makes (as_symbol S.Box) nothing 0 (Fixed S.Box) (reads-symbol S.Box) _ L.box b _ 0 (λ l was.
    word-makes as_name L.name b.name (Named b.name.text) (reads-name b.name) _ L.box b _ 0 (λ n name.
    word-makes (as_symbol S.Colon) nothing 0 (Fixed S.Colon) (reads-symbol S.Colon) _ L.box b _ 0 (λ c colon.
    word-makes as_name L.name b.cat (Named b.cat.text) (reads-name b.cat) _ L.box b ns 0 (λ k kind.
    makes-as _ L.box b (ns ++ []) ns (0 + 0) 0 (append-nil ns) (omega arith)
    (makes-then (IsPerhapsGroup IsName) _ (kept_list L.name) L.box b.given b ns [] 0 0
    (made-perhaps-group IsName L.name box_name b.given (all-box-names b.given)) (λ xs same.
    makes-only _ b L.box (ap (λ (z : Name). record { name = z; cat = L.name k; given = map L.name xs }) name
    ∙ (ap (λ z. record { name = L.name b.name; cat = z; given = map L.name xs }) kind
    ∙ ap (λ z. record { name = L.name b.name; cat = L.name b.cat; given = z }) same)))))))))

all-boxes : (bs : List BoxDecl) → AllByRecursion (Spelled IsBox L.box box) bs
all-boxes [] = tt
all-boxes (b ∷ bs) = (made-box b, all-boxes bs)

depth_of_procs : List (Proc Name) → ℕ
depth_of_procs [] = 0
depth_of_procs (q ∷ qs) = depth_of_form q.form + depth_of_procs qs

depth_of_cats : List (Cat Name) → ℕ
depth_of_cats [] = 0
depth_of_cats (c ∷ cs) = depth_of_procs c.procs + depth_of_cats cs

cat-tokens : (c : Cat Name) → Fixed S.Cat ∷ Named c.name.text
    ∷ (tokens_in (perhaps_bracketed C.given c.given)
    ++ (tokens_in (flat_map variable c.vars) ++ (tokens_in (flat_map procedure c.procs)
    ++ (tokens_in (flat_map semi c.semis) ++ Fixed S.End ∷ [])))) ≡ tokens_in (cat c)
cat-tokens c =
    let head : List Item = symbol S.Cat ∷ Space ∷ named c.name ∷ perhaps_bracketed C.given c.given in
    let vs : List Item = flat_map variable c.vars in
    let qs : List Item = flat_map procedure c.procs in
    let ss : List Item = flat_map semi c.semis in
    let last : List Item = line 0 (symbol S.End ∷ []) in
    sym (tokens-append (line 0 head ++ vs ++ qs ++ ss) last
    ∙ (ap (λ xs. xs ++ tokens_in last) (tokens-append (line 0 head ++ vs ++ qs) ss
    ∙ ap (λ xs. xs ++ tokens_in ss)
    (tokens-append (line 0 head ++ vs) qs ∙ ap (λ xs. xs ++ tokens_in qs)
    (tokens-append (line 0 head) vs ∙ ap (λ xs. xs ++ tokens_in vs) (line-tokens 0 head))))
    ∙ (ap (λ xs. (((tokens_in head ++ tokens_in vs) ++ tokens_in qs) ++ tokens_in ss) ++ xs)
    (line-tokens 0 (symbol S.End ∷ []))
    ∙ (append_assoc ((tokens_in head ++ tokens_in vs) ++ tokens_in qs) (tokens_in ss) (Fixed S.End ∷ [])
    ∙ (append_assoc (tokens_in head ++ tokens_in vs) (tokens_in qs) (tokens_in ss ++ Fixed S.End ∷ [])
    ∙ append_assoc (tokens_in head) (tokens_in vs) (tokens_in qs ++ (tokens_in ss ++ Fixed S.End ∷ [])))))))

module _ (brackets blocks : ℕ) where
  all-procedures : (qs : List (Proc Name)) → AllByRecursion FineProcedure qs →
      depth_of_procs qs ≤ brackets → depth_of_procs qs ≤ blocks →
      AllByRecursion (Spelled (IsProcedure brackets blocks) L.procedure procedure) qs
  unfolding depth_of_procs
  all-procedures [] fine h k = tt
  all-procedures (q ∷ qs) fine h k = (
    made-procedure brackets blocks q fine.0 (omega (arith, h)) (omega (arith, k)),
    all-procedures qs
        fine.1 (omega (arith, h)) (omega (arith, k)),
  )

  made-cat : (c : Cat Name) → FineCat c → depth_of_procs c.procs ≤ brackets →
      depth_of_procs c.procs ≤ blocks → Spelled (IsCat brackets blocks) L.cat cat c
  unfolding IsCat
  made-cat c fine h k =
      makes-as _ L.cat c _ _ 0 0 (cat-tokens c) refl
      (word-makes (as_symbol S.Cat) nothing 0 (Fixed S.Cat) (reads-symbol S.Cat) _ L.cat c _ 0 (λ l was.
      word-makes as_name L.name c.name (Named c.name.text) (reads-name c.name) _ L.cat c _ 0 (λ n name.
      makes-as _ L.cat c _ _ (0 + 0) 0 refl (omega arith)
      (makes-then (IsPerhapsGroup IsGiven) _ (kept_list L.given) L.cat c.given c
      (tokens_in (perhaps_bracketed C.given c.given)) _ 0 0
      (made-perhaps-group IsGiven L.given C.given c.given (all-given c.given)) (λ gs given_.
      makes-as _ L.cat c _ _ (0 + 0) 0 refl (omega arith)
      (makes-then (Many IsVariable) _ (kept_list L.variable) L.cat c.vars c
      (tokens_in (flat_map variable c.vars)) _ 0 0
      (made-row IsVariable L.variable variable c.vars (made-variables c.vars fine.vars)) (λ vs vars.
      makes-as _ L.cat c _ _ (0 + 0) 0 refl (omega arith)
      (makes-then (Many (IsProcedure brackets blocks)) _ (kept_list L.procedure) L.cat c.procs c
      (tokens_in (flat_map procedure c.procs)) _ 0 0
      (made-row (IsProcedure brackets blocks) L.procedure procedure c.procs
      (all-procedures c.procs fine.procs h k)) (λ qs procs.
      makes-as _ L.cat c _ _ (0 + 0) 0 refl (omega arith)
      (makes-then (Many IsSemi) _ (kept_list L.semi) L.cat c.semis c (tokens_in (flat_map semi c.semis))
      (Fixed S.End ∷ []) 0 0 (made-row IsSemi L.semi semi c.semis (all-semis c.semis)) (λ ss semis.
      made-end _ c L.cat (ap
      (λ (z : Name). record {
        name = z;
        given = map L.given gs;
        vars = map L.variable vs;
        procs = map L.procedure qs;
        semis =
            map L.semi ss;
      }) name
      ∙ (ap (λ z. record {
        name = L.name c.name;
        given = z;
        vars = map L.variable vs;
        procs =
            map L.procedure qs;
        semis = map L.semi ss;
      }) given_
      ∙ (ap (λ z. record {
        name = L.name c.name;
        given = map L.given c.given;
        vars = z;
        procs =
            map L.procedure qs;
        semis = map L.semi ss;
      }) vars
      ∙ (ap (λ z. record {
        name = L.name c.name;
        given = map L.given c.given;
        vars = map L.variable c.vars;
        procs = z;
        semis = map L.semi ss;
      }) procs
      ∙ ap (λ z. record {
        name = L.name c.name;
        given = map L.given c.given;
        vars = map L.variable c.vars;
        procs = map L.procedure c.procs;
        semis = z;
      }) semis)))))))))))))))

  all-cats : (cs : List (Cat Name)) → AllByRecursion FineCat cs → depth_of_cats cs ≤ brackets →
      depth_of_cats cs ≤ blocks →
      AllByRecursion (Spelled (IsCat brackets blocks) L.cat cat) cs
  unfolding depth_of_cats
  all-cats [] fine h k = tt
  all-cats (c ∷ cs) fine h k = (
    made-cat c fine.0 (omega (arith, h)) (omega (arith, k)),
    all-cats cs fine.1 (omega (arith, h))
        (omega (arith, k)),
  )

program-tokens : (tree : Tree) → Fixed S.Seuss ∷ Number (pos 1)
    ∷ (tokens_in (flat_map cat tree.cats) ++ tokens_in (flat_map box tree.boxes)) ≡ tokens_in (program tree)
program-tokens tree =
    let head : List Item = symbol S.Seuss ∷ Space ∷ number (pos 1) ∷ [] in
    sym (tokens-append (line 0 head ++ flat_map cat tree.cats) (flat_map box tree.boxes)
    ∙ (ap (λ xs. xs ++ tokens_in (flat_map box tree.boxes))
    (tokens-append (line 0 head) (flat_map cat tree.cats)
    ∙ ap (λ xs. xs ++ tokens_in (flat_map cat tree.cats)) (line-tokens 0 head))
    ∙ append_assoc (tokens_in head) (tokens_in (flat_map cat tree.cats))
    (tokens_in (flat_map box tree.boxes))))

-- the words of each tree whose parts are known to be fine are a program with this tree, but for lines
pub depth_of_tree : Tree → ℕ
depth_of_tree tree = depth_of_cats tree.cats

pub made-program : (tree : Tree) → AllByRecursion FineCat tree.cats →
    Makes (IsProgram (depth_of_tree tree) (depth_of_tree tree)) L.without_lines tree
    (tokens_in (program tree)) 0
unfolding IsProgram depth_of_tree
made-program tree fine =
    let cs : List Sort = tokens_in (flat_map cat tree.cats) in
    let bs : List Sort = tokens_in (flat_map box tree.boxes) in
    makes-as _ L.without_lines tree _ _ 0 0 (program-tokens tree) refl
    (word-makes (as_symbol S.Seuss) nothing 0 (Fixed S.Seuss) (reads-symbol S.Seuss) _ L.without_lines tree
    _ 0 (λ l was.
    word-makes as_version itself tt (Number (pos 1)) (λ line. record { found = tt; is = refl; same = refl })
    _ L.without_lines tree _ 0 (λ v one.
    makes-as _ L.without_lines tree _ _ (0 + 0) 0 refl (omega arith)
    (makes-then (Many (IsCat (depth_of_cats tree.cats) (depth_of_cats tree.cats))) _ (kept_list L.cat)
    L.without_lines tree.cats tree cs bs 0 0
    (made-row (IsCat (depth_of_cats tree.cats) (depth_of_cats tree.cats)) L.cat cat tree.cats
    (all-cats (depth_of_cats tree.cats) (depth_of_cats tree.cats) tree.cats fine (omega arith)
    (omega arith))) (λ xs cats.
    makes-as _ L.without_lines tree (bs ++ []) bs (0 + 0) 0 (append-nil bs) (omega arith)
    (makes-then (Many IsBox) _ (kept_list L.box) L.without_lines tree.boxes tree bs [] 0 0
    (made-row IsBox L.box box tree.boxes (all-boxes tree.boxes)) (λ ys boxes.
    makes-only _ tree L.without_lines
    (ap (λ z. record { cats = z; boxes = map L.box ys }) cats
    ∙ ap (λ z. record { cats = map L.cat tree.cats; boxes = z }) boxes))))))))
