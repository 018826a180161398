-- Words made into phrases of statements.
use Rattle.std.proofs.Common.{◌≡◌, ℕ, zero, suc, pred, ◌+◌, ◌≤◌, ◌==◌, Bool, false, List, [], ◌∷◌, ◌++◌}
use Rattle.std.proofs.Common.{map, Option, Some, None, inl, inr, ap, subst, sym, refl, ◌∙◌, arith}
use Rattle.std.proofs.Common.{append-nil, append_assoc}
use Rattle.std.specs.List.{AllByRecursion, flat_map}
use Rattle.std.proofs.lemmas.Grind.{flat_map-append}
use Rattle.seuss_parser.specs.Trees.{listed, small_kind}
use Rattle.seuss_parser.specs.Words.{as_name, as_symbol, as_one_of}
use Rattle.seuss_parser.specs.Phrases.{Piece, Phrase, Many, Optional, ◌>>=◌, ◌>>◌}
use Rattle.seuss_parser.specs.Grammar.{IsSymbol, IsArguments, IsWholeExpression, IsCall, IsLet}
use Rattle.seuss_parser.specs.Grammar.{IsAssignment, IsBinding, IsCallStatement, IsElse, IsIf, IsWhile}
use Rattle.seuss_parser.specs.Grammar.{IsAnyStatement, IsStatement}
use Rattle.seuss_parser.specs.declared.word.Sort.{Sort}
use Rattle.seuss_parser.specs.declared.word.Sort.TheVariants.{Fixed, Name as Named}
use Rattle.seuss_parser.specs.declared.symbol.Symbol.{Symbol}
use Rattle.seuss_parser.specs.declared.symbol.Symbol.TheVariants as S
use Rattle.seuss_program.specs.WellFormed.{IsSmall, let_kinds}
use Rattle.seuss_program.specs.declared.tree.Name.{Name}
use Rattle.seuss_program.specs.declared.tree.Kind.{Kind}
use Rattle.seuss_program.specs.declared.tree.Kind.TheVariants as K
use Rattle.seuss_program.specs.declared.tree.Expr.{Expr}
use Rattle.seuss_program.specs.declared.tree.Call.{Call}
use Rattle.seuss_program.specs.declared.tree.Statement.{Statement}
use Rattle.seuss_program.specs.declared.tree.Statement.TheVariants as T
use Rattle.seuss_print.specs.Lines as F
use Rattle.seuss_print.specs.Items.{Item, Space, symbol, named, spaced, bracketed, separated, line}
use Rattle.seuss_print.specs.Items.{tokens_in}
use Rattle.seuss_print.specs.Expressions.{expression}
use Rattle.seuss_print.specs.Statements.{kind_symbol, typed, binding, call_items, head_line, statement}
use Rattle.seuss_print.specs.Statements.{body, else_of}
use Rattle.seuss_print.specs.Printable.{HasFewMarks, Content, content, around}
use Rattle.seuss_print.proofs.Lists.{all_left, all_right}
use Rattle.seuss_print.proofs.Trees.{on_statements}
use Rattle.seuss_print.proofs.Layers.{contents, content-Let, content-Assign, content-Call, content-If}
use Rattle.seuss_print.proofs.Layers.{content-While, kinds-Let, kinds-If, kinds-While, printed-Let}
use Rattle.seuss_print.proofs.Layers.{printed-Assign, printed-Call, printed-If, printed-While, kept-Let}
use Rattle.seuss_print.proofs.Layers.{kept-Assign, kept-Call, kept-If, kept-While}
use Rattle.seuss_print.proofs.Costs.{tokens-append, line-tokens}
use Rattle.seuss_print.proofs.Makes.{Makes, makes-as, makes-by, makes-then, word-makes, makes-only}
use Rattle.seuss_print.proofs.Makes.{makes-none, makes-some, kept_option}
use Rattle.seuss_print.proofs.WordSorts.{none-some}
use Rattle.seuss_print.proofs.MadeExpressions.{nothing, reads-symbol, reads-name, reads-table, meaning}
use Rattle.seuss_print.proofs.ParsedStatements.{Kept}
use Rattle.seuss_print.proofs.MadeLists.{Spelled, kept_list, depth_of, depth_of_all, whole-expression}
use Rattle.seuss_print.proofs.MadeLists.{whole-expressions, made-arguments, made-row, listed-some}
use Rattle.seuss_print.proofs.MadeLists.{listed-none}

pub kind-found : (kind : Kind) → IsSmall kind → small_kind (kind_symbol kind) ≡ Some kind
kind-found K.Int h = refl
kind-found K.Bool h = refl
kind-found K.Seq h = absurd h

-- what is kept of a name that may be left out
pub perhaps-same : (o p : Option Name) → kept_option F.name o ≡ kept_option F.name p →
    F.perhaps F.name o ≡ F.perhaps F.name p
perhaps-same None None h = refl
perhaps-same None (Some b) h = absurd (none-some _ h)
perhaps-same (Some a) None h = absurd (none-some _ (sym h))
perhaps-same (Some a) (Some b) h = h

module _ (brackets : ℕ) where
  abbrev Args : List (Expr Name) → Type 0
  Args es = AllByRecursion HasFewMarks es × (depth_of_all es ≤ brackets)

  pub made-call : (call : Call Name) → Args call.args → Spelled (IsCall brackets) F.call call_items call
  unfolding IsCall
  made-call call args =
      let sorts : List Sort = tokens_in (bracketed (separated expression call.args)) in
      word-makes as_name F.name call.target (Named call.target.text) (reads-name call.target) _ F.call call
      (Fixed S.Dot ∷ Named call.method.text ∷ sorts) 0 (λ t target.
      word-makes (as_symbol S.Dot) nothing 0 (Fixed S.Dot) (reads-symbol S.Dot) _ F.call call
      (Named call.method.text ∷ sorts) 0 (λ d dot.
      word-makes as_name F.name call.method (Named call.method.text) (reads-name call.method) _ F.call call
      sorts 0 (λ m method.
      makes-as _ F.call call (sorts ++ []) sorts (0 + 0) 0 (append-nil sorts) (omega arith)
      (makes-then (IsArguments (IsWholeExpression brackets)) _ (kept_list F.expression) F.call call.args
      call sorts [] 0 0
      (made-arguments (IsWholeExpression brackets) F.expression expression call.args
      (whole-expressions call.args brackets args.1 args.0)) (λ es same.
      makes-only _ call F.call
      (ap (λ (n : Name). record { target = n; method = F.name m; args = map F.expression es }) target
      ∙ (ap (λ (n : Name). record { target = F.name call.target; method = n; args = map F.expression es })
      method
      ∙ ap (λ xs. record { target = F.name call.target; method = F.name call.method; args = xs }) same)))))))

  pub made-binding : (n : Name) → Makes (IsBinding brackets) F.name n (Named n.text ∷ Fixed S.Assign ∷ []) 0
  unfolding IsBinding
  made-binding n = word-makes as_name F.name n (Named n.text) (reads-name n) _ F.name n
      (Fixed S.Assign ∷ []) 0 (λ a same.
      word-makes (as_symbol S.Assign) nothing 0 (Fixed S.Assign) (reads-symbol S.Assign) _ F.name n [] 0
      (λ l was.
      makes-only a n F.name same))

  pub made-perhaps-binding : (bind : Option Name) →
      Makes (Optional (IsBinding brackets)) (kept_option F.name) bind (tokens_in (binding bind)) 0
  made-perhaps-binding None = makes-none (IsBinding brackets) F.name
  made-perhaps-binding (Some n) = makes-some (IsBinding brackets) F.name n
      (Named n.text ∷ Fixed S.Assign ∷ []) 0 (made-binding n)

  -- a value behind `:=`
  made-value : {B D : Type 0} (Q : Expr Name → Phrase B) (keep : B → D) (e : Expr Name) (b : B) →
      depth_of e ≤ brackets → HasFewMarks e →
      ((x : Expr Name) → F.expression x ≡ F.expression e → Makes (Q x) keep b [] 0) →
      Makes (IsSymbol S.Assign >> (IsWholeExpression brackets >>= Q)) keep b
      (Fixed S.Assign ∷ tokens_in (expression e)) 0
  made-value Q keep e b h few next =
      word-makes (as_symbol S.Assign) nothing 0 (Fixed S.Assign) (reads-symbol S.Assign) _ keep b
      (tokens_in (expression e)) 0 (λ l was.
      makes-as _ keep b (tokens_in (expression e) ++ []) (tokens_in (expression e)) (0 + 0) 0
      (append-nil (tokens_in (expression e))) (omega arith)
      (makes-then (IsWholeExpression brackets) Q F.expression keep e b (tokens_in (expression e)) [] 0 0
      (whole-expression e brackets h few) next))

  made-let : (n : Name) (kind : Kind) (e : Expr Name) → IsSmall kind → depth_of e ≤ brackets →
      HasFewMarks e →
      Makes (IsLet brackets) F.statement (T.Let n kind e)
      (Fixed S.Let ∷ Named n.text ∷ Fixed S.Colon ∷ Fixed (kind_symbol kind) ∷ Fixed S.Assign
      ∷ tokens_in (expression e)) 0
  unfolding IsLet
  made-let n kind e small h few =
      word-makes (as_symbol S.Let) nothing 0 (Fixed S.Let) (reads-symbol S.Let) _ F.statement _ _ 0
      (λ l let_.
      word-makes as_name F.name n (Named n.text) (reads-name n) _ F.statement _ _ 0 (λ a name.
      word-makes (as_symbol S.Colon) nothing 0 (Fixed S.Colon) (reads-symbol S.Colon) _ F.statement _ _ 0
      (λ c colon.
      word-makes (as_one_of small_kind) meaning (record { is = kind; line = 0 }) (Fixed (kind_symbol kind))
      (reads-table small_kind (kind_symbol kind) kind (kind-found kind small) _ refl) _ F.statement _ _
      0 (λ k is.
      made-value _ F.statement e (T.Let n kind e) h few (λ x same.
      makes-only _ _ F.statement
      (kept-Let a k.is x ∙
      (ap (λ z. T.Let z k.is (F.expression x)) name ∙ (ap (λ z. T.Let (F.name n) z (F.expression x)) is
      ∙ (ap (λ z. T.Let (F.name n) kind z) same ∙ sym (kept-Let n kind e))))))))))

  made-assignment : (n : Name) (e : Expr Name) → depth_of e ≤ brackets → HasFewMarks e →
      Makes (IsAssignment brackets) F.statement (T.Assign n e)
      (Named n.text ∷ Fixed S.Assign ∷ tokens_in (expression e)) 0
  unfolding IsAssignment
  made-assignment n e h few =
      word-makes as_name F.name n (Named n.text) (reads-name n) _ F.statement _ _ 0 (λ a name.
      made-value _ F.statement e (T.Assign n e) h few (λ x same.
      makes-only _ _ F.statement (kept-Assign a x ∙ (ap (λ z. T.Assign z (F.expression x)) name
      ∙ (ap (λ z. T.Assign (F.name n) z) same ∙ sym (kept-Assign n e))))))

  made-call-statement : (bind : Option Name) (call : Call Name) → Args call.args →
      Makes (IsCallStatement brackets) F.statement (T.Call bind call)
      (tokens_in (binding bind) ++ tokens_in (call_items call)) 0
  unfolding IsCallStatement
  made-call-statement bind call args =
      makes-as _ F.statement (T.Call bind call) _ _ (0 + 0) 0 refl (omega arith)
      (makes-then (Optional (IsBinding brackets)) _ (kept_option F.name) F.statement bind _
      (tokens_in (binding bind)) (tokens_in (call_items call)) 0 0 (made-perhaps-binding bind)
      (λ b name.
      makes-as _ F.statement (T.Call bind call) (tokens_in (call_items call) ++ []) _ (0 + 0) 0
      (append-nil (tokens_in (call_items call))) (omega arith)
      (makes-then (IsCall brackets) _ F.call F.statement call _ (tokens_in (call_items call)) [] 0 0
      (made-call call args) (λ c same.
      makes-only _ _ F.statement (kept-Call b c ∙ (ap (λ z. T.Call z (F.call c)) (perhaps-same b bind name)
      ∙ (ap (λ z. T.Call (F.perhaps F.name bind) z) same ∙ sym (kept-Call bind call))))))))

  -- a condition between two words
  made-cond : {B D : Type 0} (Q : Phrase B) (last : Symbol) (keep : B → D) (R : Expr Name → Phrase B)
      (e : Expr Name) (b : B) (ys : List Sort) → depth_of e ≤ brackets → HasFewMarks e →
      ((x : Expr Name) → F.expression x ≡ F.expression e → Makes (R x) keep b ys 0) →
      Makes (IsWholeExpression brackets >>= (λ (x : Expr Name). IsSymbol last >> R x)) keep b
      (tokens_in (expression e) ++ Fixed last ∷ ys) 0
  made-cond Q last keep R e b ys h few next =
      makes-as _ keep b _ _ (0 + 0) 0 refl (omega arith)
      (makes-then (IsWholeExpression brackets) (λ (x : Expr Name). IsSymbol last >> R x) F.expression keep e
      b (tokens_in (expression e)) (Fixed last ∷ ys) 0 0 (whole-expression e brackets h few) (λ x same.
      word-makes (as_symbol last) nothing 0 (Fixed last) (reads-symbol last) (λ l. R x) keep b ys 0
      (λ l was. next x same)))

  -- statements inside others
  module _ (Block : Phrase (List (Statement Name))) where
    made-else : (ss : List (Statement Name)) (sorts : List Sort) →
        Makes Block (kept_list F.statement) ss sorts 0 →
        Makes (IsElse brackets false Block) (kept_list F.statement) ss (Fixed S.Else ∷ sorts) 0
    unfolding IsElse
    made-else ss sorts x = word-makes (as_symbol S.Else) nothing 0 (Fixed S.Else) (reads-symbol S.Else) _
        (kept_list F.statement) ss sorts 0 (λ l was. x)

    -- the words of an `else` and its block, where that isn't empty
    else_sorts : List (Statement Name) → List Sort → List Sort
    else_sorts [] sorts = []
    else_sorts (s ∷ ss) sorts = Fixed S.Else ∷ sorts

    abbrev kept_else : Option (List (Statement Name)) → List (Statement Name)
    kept_else o = map F.statement (listed o)

    some_of : List (Statement Name) → Option (List (Statement Name))
    some_of [] = None
    some_of (s ∷ ss) = Some (s ∷ ss)

    made-perhaps-else : (ss : List (Statement Name)) (sorts : List Sort) →
        Makes Block (kept_list F.statement) ss sorts 0 →
        Makes (Optional (IsElse brackets false Block)) (kept_option (kept_list F.statement)) (some_of ss)
        (else_sorts ss sorts) 0
    unfolding else_sorts some_of
    made-perhaps-else [] sorts x = makes-none (IsElse brackets false Block) (kept_list F.statement)
    made-perhaps-else (s ∷ ss) sorts x = makes-some (IsElse brackets false Block) (kept_list F.statement)
        (s ∷ ss) (Fixed S.Else ∷ sorts) 0 (made-else (s ∷ ss) sorts x)

    else-same : (ss : List (Statement Name)) (o : Option (List (Statement Name))) →
        kept_option (kept_list F.statement) o ≡ kept_option (kept_list F.statement) (some_of ss) →
        map F.statement (listed o) ≡ map F.statement ss
    unfolding some_of
    else-same [] o h = listed-none (kept_list F.statement) o h
    else-same (s ∷ ss) o h = listed-some (kept_list F.statement) o (s ∷ ss) h

    made-if : (cond : Expr Name) (holds fails : List (Statement Name)) (xs ys : List Sort) →
        depth_of cond ≤ brackets → HasFewMarks cond →
        Makes Block (kept_list F.statement) holds xs 0 → Makes Block (kept_list F.statement) fails ys 0 →
        Makes (IsIf brackets false Block) F.statement (T.If cond holds fails)
        (Fixed S.If ∷ (tokens_in (expression cond) ++ Fixed S.Then
        ∷ (xs ++ (else_sorts fails ys ++ Fixed S.End ∷ [])))) 0
    unfolding IsIf
    made-if cond holds fails xs ys h few first second =
        word-makes (as_symbol S.If) nothing 0 (Fixed S.If) (reads-symbol S.If) _ F.statement _ _ 0 (λ l was.
        made-cond (IsIf brackets false Block) S.Then F.statement _ cond _
        (xs ++ (else_sorts fails ys ++ Fixed S.End ∷ [])) h few (λ c same.
        makes-as _ F.statement (T.If cond holds fails) _ _ (0 + 0) 0 refl (omega arith)
        (makes-then Block _ (kept_list F.statement) F.statement holds _ xs
        (else_sorts fails ys ++ Fixed S.End ∷ []) 0 0 first (λ hs is.
        makes-as _ F.statement (T.If cond holds fails) _ _ (0 + 0) 0 refl (omega arith)
        (makes-then (Optional (IsElse brackets false Block)) _ (kept_option (kept_list F.statement))
        F.statement (some_of fails) _ (else_sorts fails ys) (Fixed S.End ∷ []) 0 0
        (made-perhaps-else fails ys second) (λ o els.
        word-makes (as_symbol S.End) nothing 0 (Fixed S.End) (reads-symbol S.End) _ F.statement _ [] 0
        (λ e end_.
        makes-only _ _ F.statement
        (kept-If c hs (listed o) ∙
        (ap (λ z. T.If z (map F.statement hs) (map F.statement (listed o))) same
        ∙ (ap (λ z. T.If (F.expression cond) z (map F.statement (listed o))) is
        ∙ (ap (λ z. T.If (F.expression cond) (map F.statement holds) z) (else-same fails o els)
        ∙ sym (kept-If cond holds fails))))))))))))

    made-while : (cond : Expr Name) (turn : List (Statement Name)) (xs : List Sort) →
        depth_of cond ≤ brackets → HasFewMarks cond →
        Makes Block (kept_list F.statement) turn xs 0 →
        Makes (IsWhile brackets false Block) F.statement (T.While cond turn)
        (Fixed S.While ∷ (tokens_in (expression cond) ++ Fixed S.Do ∷ (xs ++ Fixed S.End ∷ []))) 0
    unfolding IsWhile
    made-while cond turn xs h few first =
        word-makes (as_symbol S.While) nothing 0 (Fixed S.While) (reads-symbol S.While) _ F.statement _ _ 0
        (λ l was.
        made-cond (IsWhile brackets false Block) S.Do F.statement _ cond _ (xs ++ Fixed S.End ∷ []) h few
        (λ c same.
        makes-as _ F.statement (T.While cond turn) _ _ (0 + 0) 0 refl (omega arith)
        (makes-then Block _ (kept_list F.statement) F.statement turn _ xs (Fixed S.End ∷ []) 0 0 first
        (λ hs is.
        word-makes (as_symbol S.End) nothing 0 (Fixed S.End) (reads-symbol S.End) _ F.statement _ [] 0
        (λ e end_.
        makes-only _ _ F.statement (kept-While c hs ∙ (ap (λ z. T.While z (map F.statement hs)) same
        ∙ (ap (λ z. T.While (F.expression cond) z) is ∙ sym (kept-While cond turn)))))))))

-- tokens of rows of items
tokens-three : (a b c : List Item) → tokens_in (a ++ b ++ c) ≡ tokens_in a ++ (tokens_in b ++ tokens_in c)
tokens-three a b c =
    tokens-append (a ++ b) c ∙
    (ap (λ ss. ss ++ tokens_in c) (tokens-append a b)
    ∙ append_assoc (tokens_in a) (tokens_in b) (tokens_in c))

tokens-four : (a b c d : List Item) → tokens_in (a ++ b ++ c ++ d) ≡ tokens_in a
    ++ (tokens_in b ++ (tokens_in c ++ tokens_in d))
tokens-four a b c d =
    tokens-append (a ++ b ++ c) d ∙ (ap (λ ss. ss ++ tokens_in d) (tokens-three a b c)
    ∙ (append_assoc (tokens_in a) (tokens_in b ++ tokens_in c) (tokens_in d)
    ∙ ap (λ ss. tokens_in a ++ ss) (append_assoc (tokens_in b) (tokens_in c) (tokens_in d))))

head-tokens : (first last : Symbol) (cond : Expr Name) (n : ℕ) →
    tokens_in (head_line first cond last n) ≡ Fixed first ∷ (tokens_in (expression cond) ++ Fixed last ∷ [])
head-tokens first last cond n =
    line-tokens n (symbol first ∷ Space ∷ expression cond ++ Space ∷ symbol last ∷ [])
    ∙ ap (λ ss. Fixed first ∷ ss) (tokens-append (expression cond) (Space ∷ symbol last ∷ []))

-- behind the tokens of the first line come others
head-before : (first last : Symbol) (cond : Expr Name) (n : ℕ) (rest : List Sort) →
    tokens_in (head_line first cond last n) ++ rest ≡ Fixed first
    ∷ (tokens_in (expression cond) ++ Fixed last ∷ rest)
head-before first last cond n rest =
    ap (λ ss. ss ++ rest) (head-tokens first last cond n)
    ∙ ap (λ ss. Fixed first ∷ ss) (append_assoc (tokens_in (expression cond)) (Fixed last ∷ []) rest)

module _ (brackets : ℕ) (Block : Phrase (List (Statement Name))) where
  else-tokens : (fails : List (Statement Name)) (n : ℕ) →
      tokens_in (else_of fails n) ≡ else_sorts brackets Block fails (tokens_in (body fails (n + 1)))
  unfolding else_sorts
  else-tokens [] n = refl
  else-tokens (s ∷ ss) n =
      tokens-append (line n (symbol S.Else ∷ [])) (body (s ∷ ss) (n + 1))
      ∙ ap (λ sorts. sorts ++ tokens_in (body (s ∷ ss) (n + 1))) (line-tokens n (symbol S.Else ∷ []))

  if-tokens : (cond : Expr Name) (holds fails : List (Statement Name)) (n : ℕ) →
      Fixed S.If ∷ (tokens_in (expression cond) ++ Fixed S.Then
      ∷ (tokens_in (body holds (n + 1)) ++
      (else_sorts brackets Block fails (tokens_in (body fails (n + 1))) ++ Fixed S.End ∷ [])))
      ≡ tokens_in (statement (T.If cond holds fails) n)
  if-tokens cond holds fails n = sym
      (ap (λ items. tokens_in items) (printed-If (T.If cond holds fails) n cond holds fails refl)
      ∙ (tokens-four (head_line S.If cond S.Then n) (body holds (n + 1)) (else_of fails n)
      (line n (symbol S.End ∷ []))
      ∙ (ap (λ ss. tokens_in (head_line S.If cond S.Then n)
      ++ (tokens_in (body holds (n + 1)) ++ (ss ++ tokens_in (line n (symbol S.End ∷ [])))))
      (else-tokens fails n)
      ∙ (ap (λ ss. tokens_in (head_line S.If cond S.Then n)
      ++ (tokens_in (body holds (n + 1)) ++
      (else_sorts brackets Block fails (tokens_in (body fails (n + 1))) ++ ss)))
      (line-tokens n (symbol S.End ∷ []))
      ∙ head-before S.If S.Then cond n _))))

while-tokens : (cond : Expr Name) (turn : List (Statement Name)) (n : ℕ) →
    Fixed S.While ∷ (tokens_in (expression cond) ++ Fixed S.Do
    ∷ (tokens_in (body turn (n + 1)) ++ Fixed S.End ∷ [])) ≡ tokens_in (statement (T.While cond turn) n)
while-tokens cond turn n = sym
    (ap (λ items. tokens_in items) (printed-While (T.While cond turn) n cond turn refl)
    ∙ (tokens-three (head_line S.While cond S.Do n) (body turn (n + 1)) (line n (symbol S.End ∷ []))
    ∙ (ap (λ ss. tokens_in (head_line S.While cond S.Do n) ++ (tokens_in (body turn (n + 1)) ++ ss))
    (line-tokens n (symbol S.End ∷ []))
    ∙ head-before S.While S.Do cond n _)))

-- where brackets and blocks may stand deep enough, a statement that keeps the limits is printed as a phrase
pub record MadeStatement (s : Statement Name) : Type 0 where
  pub enough : ℕ
  pub of : (brackets blocks nesting : ℕ) → enough ≤ brackets → enough ≤ blocks → Kept nesting s →
      (depth : ℕ) →
      Makes (IsStatement brackets blocks nesting) F.statement s (tokens_in (statement s depth)) 0

pub enough_for : (ss : List (Statement Name)) → AllByRecursion MadeStatement ss → ℕ
enough_for [] all = 0
enough_for (s ∷ ss) all = all.0.enough + enough_for ss all.1

each-made : (ss : List (Statement Name)) (all : AllByRecursion MadeStatement ss)
    (brackets blocks nesting : ℕ) → enough_for ss all ≤ brackets → enough_for ss all ≤ blocks →
    AllByRecursion (Kept nesting) ss → (depth : ℕ) →
    AllByRecursion (Spelled (IsStatement brackets blocks nesting) F.statement (λ s. statement s depth))
    ss
unfolding enough_for
each-made [] all brackets blocks nesting h k kept depth = tt
each-made (s ∷ ss) all brackets blocks nesting h k kept depth = (
  all.0.of brackets blocks nesting (omega (arith, h)) (omega (arith, k)) kept.0 depth,
  each-made ss all.1 brackets blocks nesting (omega (arith, h)) (omega (arith, k)) kept.1 depth,
)

pub body-made : (ss : List (Statement Name)) (all : AllByRecursion MadeStatement ss)
    (brackets blocks nesting : ℕ) → enough_for ss all ≤ brackets → enough_for ss all ≤ blocks →
    AllByRecursion (Kept nesting) ss → (depth : ℕ) →
    Makes (Many (IsStatement brackets blocks nesting)) (kept_list F.statement) ss
    (tokens_in (body ss depth)) 0
body-made ss all brackets blocks nesting h k kept depth =
    made-row (IsStatement brackets blocks nesting) F.statement (λ s. statement s depth) ss
    (each-made ss all brackets blocks nesting h k kept depth)

-- what keeps the limits together does so each by itself
split-kept : (k : ℕ) (ss : List (Statement Name)) → AllByRecursion HasFewMarks (contents ss).expressions →
    (contents ss).depth ≤ k →
    AllByRecursion IsSmall (flat_map let_kinds ss) → AllByRecursion (Kept k) ss
split-kept k [] marks depth locals = tt
split-kept k (s ∷ ss) marks depth locals = (
  record {
    marks = all_left HasFewMarks (content s).expressions (contents ss).expressions marks;
    depth = omega (arith, depth);
    locals = all_left IsSmall (let_kinds s) (flat_map let_kinds ss) locals;
  },
  split-kept k ss (all_right HasFewMarks (content s).expressions (contents ss).expressions marks)
      (omega (arith, depth))
      (all_right IsSmall (let_kinds s) (flat_map let_kinds ss) locals),
)

-- what is kept inside an `if` or a `while`
record Inside (nesting : ℕ) (cond : Expr Name) (ss : List (Statement Name)) : Type 0 where
  cond_kept : HasFewMarks cond
  some : (nesting == 0) ≡ false
  kept : AllByRecursion (Kept (pred nesting)) ss

some-nesting : (nesting k : ℕ) → suc k ≤ nesting → (nesting == 0) ≡ false
some-nesting nesting k h = grind (arith, h)

less-nesting : (nesting k : ℕ) → suc k ≤ nesting → k ≤ pred nesting
less-nesting zero k h = absurd (omega (arith, h))
less-nesting (suc n) k h = omega (arith, h)

inside : (nesting : ℕ) (s : Statement Name) (cond : Expr Name) (ss : List (Statement Name)) →
    content s ≡ around cond (contents ss) → let_kinds s ≡ flat_map let_kinds ss →
    Kept nesting s → Inside nesting cond ss
inside nesting s cond ss c k kept =
    let marks = subst (λ (x : Content). AllByRecursion HasFewMarks x.expressions) c kept.marks in
    let depth : suc (contents ss).depth ≤ nesting =
    subst (λ (x : Content). x.depth ≤ nesting) c kept.depth in
    record {
      cond_kept = marks.0;
      some = some-nesting nesting (contents ss).depth depth;
      kept = split-kept (pred nesting) ss marks.1 (less-nesting nesting (contents ss).depth depth)
          (subst (λ ks. AllByRecursion IsSmall ks) k kept.locals);
    }

kinds-both : (ss ts : List (Statement Name)) → flat_map let_kinds ss ++ flat_map let_kinds ts
    ≡ flat_map let_kinds (ss ++ ts)
kinds-both ss ts = sym (flat_map-append let_kinds ss ts)

module _ (brackets : ℕ) (passes : Bool) (Block : Phrase (List (Statement Name))) where
  abbrev Turn : Phrase (Statement Name) → Type 0
  Turn P = (s : Statement Name) (room : ℕ) (pieces : List Piece) (left : ℕ) → P s room pieces left →
      IsAnyStatement brackets passes Block s room pieces left

  from-let : Turn (IsLet brackets)
  unfolding IsAnyStatement
  from-let s room pieces left d = inl d

  from-assignment : Turn (IsAssignment brackets)
  unfolding IsAnyStatement
  from-assignment s room pieces left d = inr (inl d)

  from-call : Turn (IsCallStatement brackets)
  unfolding IsAnyStatement
  from-call s room pieces left d = inr (inr (inl d))

  from-if : Turn (IsIf brackets passes Block)
  unfolding IsAnyStatement
  from-if s room pieces left d = inr (inr (inr (inl d)))

  from-while : Turn (IsWhile brackets passes Block)
  unfolding IsAnyStatement
  from-while s room pieces left d = inr (inr (inr (inr d)))

-- a statement of one of the five forms
any-statement : (brackets blocks nesting enough : ℕ) (s : Statement Name) (sorts : List Sort) →
    suc enough ≤ blocks →
    ((k : ℕ) → suc k ≡ blocks → Makes
    (IsAnyStatement brackets (nesting == 0) (Many (IsStatement brackets k (pred nesting)))) F.statement
    s sorts 0) →
    Makes (IsStatement brackets blocks nesting) F.statement s sorts 0
any-statement brackets zero nesting enough s sorts h made = absurd (omega (arith, h))
any-statement brackets (suc k) nesting enough s sorts h made = made k refl

let-tokens : (n : Name) (kind : Kind) (e : Expr Name) (depth : ℕ) →
    Fixed S.Let ∷ Named n.text ∷ Fixed S.Colon ∷ Fixed (kind_symbol kind) ∷ Fixed S.Assign
    ∷ tokens_in (expression e) ≡ tokens_in (statement (T.Let n kind e) depth)
let-tokens n kind e depth = sym
    (ap (λ items. tokens_in items) (printed-Let (T.Let n kind e) depth n kind e refl)
    ∙ line-tokens depth (symbol S.Let ∷ Space ∷ typed n kind ++ spaced (symbol S.Assign) ++ expression e))

assignment-tokens : (n : Name) (e : Expr Name) (depth : ℕ) →
    Named n.text ∷ Fixed S.Assign ∷ tokens_in (expression e) ≡ tokens_in (statement (T.Assign n e) depth)
assignment-tokens n e depth = sym
    (ap (λ items. tokens_in items) (printed-Assign (T.Assign n e) depth n e refl)
    ∙ line-tokens depth (named n ∷ spaced (symbol S.Assign) ++ expression e))

call-tokens : (bind : Option Name) (call : Call Name) (depth : ℕ) →
    tokens_in (binding bind) ++ tokens_in (call_items call) ≡ tokens_in (statement (T.Call bind call) depth)
call-tokens bind call depth = sym
    (ap (λ items. tokens_in items) (printed-Call (T.Call bind call) depth bind call refl)
    ∙ (line-tokens depth (binding bind ++ call_items call) ∙ tokens-append (binding bind) (call_items call)))

let-made : (n : Name) (kind : Kind) (e : Expr Name) → MadeStatement (T.Let n kind e)
let-made n kind e = record {
  enough = suc (depth_of e);
  of = λ brackets blocks nesting h k kept depth.
      let marks = subst (λ (x : Content). AllByRecursion HasFewMarks x.expressions)
      (content-Let _ n kind e refl) kept.marks in
      let small = subst (λ ks. AllByRecursion IsSmall ks) (kinds-Let n kind e) kept.locals in
      any-statement brackets blocks nesting (depth_of e) _ _ k (λ j is.
      makes-by _ _ F.statement _ _ 0
      (from-let brackets (nesting == 0) (Many (IsStatement brackets j (pred nesting))))
      (makes-as _ F.statement _ _ _ 0 0 (let-tokens n kind e depth) refl
      (made-let brackets n kind e small.0 (omega (arith, h)) marks.0)));
}

assignment-made : (n : Name) (e : Expr Name) → MadeStatement (T.Assign n e)
assignment-made n e = record {
  enough = suc (depth_of e);
  of = λ brackets blocks nesting h k kept depth.
      let marks = subst (λ (x : Content). AllByRecursion HasFewMarks x.expressions)
      (content-Assign _ n e refl) kept.marks in
      any-statement brackets blocks nesting (depth_of e) _ _ k (λ j is.
      makes-by _ _ F.statement _ _ 0
      (from-assignment brackets (nesting == 0) (Many (IsStatement brackets j (pred nesting))))
      (makes-as _ F.statement _ _ _ 0 0 (assignment-tokens n e depth) refl
      (made-assignment brackets n e (omega (arith, h)) marks.0)));
}

call-made : (bind : Option Name) (call : Call Name) → MadeStatement (T.Call bind call)
call-made bind call = record {
  enough = suc (depth_of_all call.args);
  of = λ brackets blocks nesting h k kept depth.
      let marks = subst (λ (x : Content). AllByRecursion HasFewMarks x.expressions)
      (content-Call _ bind call refl) kept.marks in
      any-statement brackets blocks nesting (depth_of_all call.args) _ _ k (λ j is.
      makes-by _ _ F.statement _ _ 0
      (from-call brackets (nesting == 0) (Many (IsStatement brackets j (pred nesting))))
      (makes-as _ F.statement _ _ _ 0 0 (call-tokens bind call depth) refl
      (made-call-statement brackets bind call (marks, omega (arith, h)))));
}

if-made : (cond : Expr Name) (holds fails : List (Statement Name)) → AllByRecursion MadeStatement holds →
    AllByRecursion MadeStatement fails → MadeStatement (T.If cond holds fails)
if-made cond holds fails xs ys = record {
  enough = suc (depth_of cond + enough_for holds xs + enough_for fails ys);
  of = λ brackets blocks nesting h k kept depth.
      let both = inside nesting (T.If cond holds fails) cond (holds ++ fails)
      (content-If _ cond holds fails refl) (kinds-If cond holds fails ∙ kinds-both holds fails) kept in
      any-statement brackets blocks nesting (depth_of cond + enough_for holds xs + enough_for fails ys) _ _
      k (λ j is.
      let Block : Phrase (List (Statement Name)) = Many (IsStatement brackets j (pred nesting)) in
      subst (λ b. Makes (IsAnyStatement brackets b Block) F.statement (T.If cond holds fails)
      (tokens_in (statement (T.If cond holds fails) depth)) 0) (sym both.some)
      (makes-by _ _ F.statement _ _ 0 (from-if brackets false Block)
      (makes-as _ F.statement _ _ _ 0 0 (if-tokens brackets Block cond holds fails depth) refl
      (made-if brackets Block cond holds fails (tokens_in (body holds (depth + 1)))
      (tokens_in (body fails (depth + 1))) (omega (arith, h)) both.cond_kept
      (body-made holds xs brackets j (pred nesting) (omega (arith, h)) (omega (arith, k, is))
      (all_left (Kept (pred nesting)) holds fails both.kept) (depth + 1))
      (body-made fails ys brackets j (pred nesting) (omega (arith, h)) (omega (arith, k, is))
      (all_right (Kept (pred nesting)) holds fails both.kept) (depth + 1))))));
}

while-made : (cond : Expr Name) (turn : List (Statement Name)) → AllByRecursion MadeStatement turn →
    MadeStatement (T.While cond turn)
while-made cond turn xs = record {
  enough = suc (depth_of cond + enough_for turn xs);
  of = λ brackets blocks nesting h k kept depth.
      let both = inside nesting (T.While cond turn) cond turn (content-While _ cond turn refl)
      (kinds-While cond turn) kept in
      any-statement brackets blocks nesting (depth_of cond + enough_for turn xs) _ _ k (λ j is.
      let Block : Phrase (List (Statement Name)) = Many (IsStatement brackets j (pred nesting)) in
      subst (λ b. Makes (IsAnyStatement brackets b Block) F.statement (T.While cond turn)
      (tokens_in (statement (T.While cond turn) depth)) 0) (sym both.some)
      (makes-by _ _ F.statement _ _ 0 (from-while brackets false Block)
      (makes-as _ F.statement _ _ _ 0 0 (while-tokens cond turn depth) refl
      (made-while brackets Block cond turn (tokens_in (body turn (depth + 1))) (omega (arith, h))
      both.cond_kept
      (body-made turn xs brackets j (pred nesting) (omega (arith, h)) (omega (arith, k, is)) both.kept
      (depth + 1))))));
}

pub statement-made : (s : Statement Name) → MadeStatement s
statement-made = on_statements MadeStatement (record {
  let_ = let-made;
  assign = assignment-made;
  call = call-made;
  if_ = if-made;
  while_ = while-made;
})

pub statements-made : (ss : List (Statement Name)) → AllByRecursion MadeStatement ss
statements-made [] = tt
statements-made (s ∷ ss) = (statement-made s, statements-made ss)
