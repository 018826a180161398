-- The tokens of statements stand apart.
use Rattle.std.proofs.Common.{◌≡◌, ℕ, zero, suc, ◌+◌, List, [], ◌∷◌, ◌++◌, Option, Some, None, subst, sym}
use Rattle.std.proofs.Common.{refl}
use Rattle.std.specs.List.{AllByRecursion, flat_map}
use Rattle.seuss_parser.specs.declared.symbol.Symbol.{Symbol}
use Rattle.seuss_parser.specs.declared.symbol.Symbol.TheVariants as S
use Rattle.seuss_parser.specs.declared.word.Sort.TheVariants.{Fixed, Name as Named}
use Rattle.seuss_program.specs.declared.tree.Name.{Name}
use Rattle.seuss_program.specs.declared.tree.Kind.{Kind}
use Rattle.seuss_program.specs.declared.tree.Kind.TheVariants as K
use Rattle.seuss_program.specs.declared.tree.Expr.{Expr}
use Rattle.seuss_program.specs.declared.tree.Call.{Call}
use Rattle.seuss_program.specs.declared.tree.Statement.{Statement}
use Rattle.seuss_program.specs.declared.tree.Statement.TheVariants as T
use Rattle.seuss_print.specs.Items.{Item, Space, LineFeed, symbol, named, spaced, bracketed, behind_comma}
use Rattle.seuss_print.specs.Items.{separated, perhaps_bracketed, indented, line, text_of}
use Rattle.seuss_print.specs.Expressions.{expression}
use Rattle.seuss_print.specs.Statements.{kind_symbol, typed, binding, call_items, head_line, statement}
use Rattle.seuss_print.specs.Statements.{body, else_of}
use Rattle.seuss_print.specs.Printable.{IsWithinLimit}
use Rattle.seuss_print.proofs.Trees.{on_statements}
use Rattle.seuss_print.proofs.Layers.{printed-Let, printed-Assign, printed-Call, printed-If, printed-While}
use Rattle.seuss_print.proofs.Costs.{line-tokens}
use Rattle.seuss_print.proofs.TokenEnds.{Stops, IsWordLike, name-like}
use Rattle.seuss_print.proofs.Apart.{Apart, Separate, Good, IsSignLike, plain-sign, apart-append}
use Rattle.seuss_print.proofs.Apart.{apart-word, apart-sign, apart-comma, apart-dot, separate-bracketed}
use Rattle.seuss_print.proofs.Apart.{good-left, good-right, good-bracketed, expression-apart}

-- items that stand apart before whatever comes
abbrev pub Whole : List Item → Type 0
Whole items = (after : List ℕ) → Apart items after

pub indented-apart : (n : ℕ) → Whole (indented n)
indented-apart zero after = tt
indented-apart (suc n) after = indented-apart n after

pub line-apart : (n : ℕ) (items : List Item) → Separate items → Whole (line n items)
line-apart n items a after =
    apart-append (indented n ++ items) (LineFeed ∷ []) after
    (apart-append (indented n) items (10 ∷ after) (indented-apart n (text_of items ++ 10 ∷ after))
    (a (10 ∷ after) refl)) tt

pub good-line : (n : ℕ) (items : List Item) → Good (line n items) → Good items
good-line n items g = subst (λ sorts. AllByRecursion IsWithinLimit sorts) (line-tokens n items) g

pub whole-append : (xs ys : List Item) → Whole xs → Whole ys → Whole (xs ++ ys)
whole-append xs ys a b after = apart-append xs ys after (a (text_of ys ++ after)) (b after)

-- rows of things
pub whole-row : {A : Type 0} (print : A → List Item) → ((a : A) → Good (print a) → Whole (print a)) →
    (as_ : List A) → Good (flat_map print as_) → Whole (flat_map print as_)
whole-row print f [] good = λ after. tt
whole-row print f (a ∷ as_) good =
    whole-append (print a) (flat_map print as_) (f a (good-left (print a) (flat_map print as_) good))
    (whole-row print f as_ (good-right (print a) (flat_map print as_) good))

module _ {A : Type 0} (print : A → List Item) (f : (a : A) → Good (print a) → Separate (print a)) where
  comma-stops : (as_ : List A) (after : List ℕ) → Stops after →
      Stops (text_of (flat_map (behind_comma print) as_) ++ after)
  comma-stops [] after stop = stop
  comma-stops (a ∷ as_) after stop = refl

  others-apart : (as_ : List A) → Good (flat_map (behind_comma print) as_) →
      Separate (flat_map (behind_comma print) as_)
  others-apart [] good after stop = tt
  others-apart (a ∷ as_) good after stop =
      let rest : List Item = flat_map (behind_comma print) as_ in
      apart-comma (Space ∷ print a ++ rest) after
      (apart-append (print a) rest after
      (f a (good-left (print a) rest good.1) (text_of rest ++ after) (comma-stops as_ after stop))
      (others-apart as_ (good-right (print a) rest good.1) after stop))

  pub separated-apart : (as_ : List A) → Good (separated print as_) → Separate (separated print as_)
  separated-apart [] good after stop = tt
  separated-apart (a ∷ as_) good after stop =
      let rest : List Item = flat_map (behind_comma print) as_ in
      apart-append (print a) rest after
      (f a (good-left (print a) rest good) (text_of rest ++ after) (comma-stops as_ after stop))
      (others-apart as_ (good-right (print a) rest good) after stop)

  pub perhaps-apart : (as_ : List A) → Good (perhaps_bracketed print as_) →
      Whole (perhaps_bracketed print as_)
  perhaps-apart [] good = λ after. tt
  perhaps-apart (a ∷ as_) good = separate-bracketed (separated print (a ∷ as_))
      (separated-apart (a ∷ as_) (good-bracketed (separated print (a ∷ as_)) good))

pub perhaps-stops : {A : Type 0} (print : A → List Item) (as_ : List A) (after : List ℕ) → Stops after →
    Stops (text_of (perhaps_bracketed print as_) ++ after)
perhaps-stops print [] after stop = stop
perhaps-stops print (a ∷ as_) after stop = refl

pub colon-like : IsSignLike S.Colon
colon-like = plain-sign S.Colon 58 _ refl refl tt

pub assign-like : IsSignLike S.Assign
assign-like = plain-sign S.Assign 58 _ refl refl tt

pub kind-like : (kind : Kind) → IsWordLike (Fixed (kind_symbol kind))
kind-like K.Int = record { first = 105; others = _; text = refl; name = refl; known = tt }
kind-like K.Bool = record { first = 98; others = _; text = refl; name = refl; known = tt }
kind-like K.Seq = record { first = 115; others = _; text = refl; name = refl; known = tt }

-- a name, its type and what stands behind it
pub typed-apart : (name : Name) (kind : Kind) (items : List Item) (after : List ℕ) →
    IsWithinLimit (Named name.text) → Stops (text_of items ++ after) → Apart items after →
    Apart (typed name kind ++ items) after
typed-apart name kind items after good stop a =
    apart-word (Named name.text) (spaced (symbol S.Colon) ++ symbol (kind_symbol kind) ∷ items) after
    (name-like name.text good) refl
    (apart-sign S.Colon (symbol (kind_symbol kind) ∷ items) after colon-like
    (apart-word (Fixed (kind_symbol kind)) items after (kind-like kind) stop a))

pub call-apart : (call : Call Name) → Good (call_items call) → Whole (call_items call)
call-apart call good after =
    let args : List Item = separated expression call.args in
    apart-word (Named call.target.text) (symbol S.Dot ∷ named call.method ∷ bracketed args) after
    (name-like call.target.text good.0) refl
    (apart-dot (named call.method ∷ bracketed args) after
    (apart-word (Named call.method.text) (bracketed args) after (name-like call.method.text good.1.1.0) refl
    (separate-bracketed args
    (separated-apart expression expression-apart call.args (good-bracketed args good.1.1.1)) after)))

pub binding-apart : (bind : Option Name) → Good (binding bind) → Whole (binding bind)
binding-apart None good after = tt
binding-apart (Some name) good after = apart-word (Named name.text) (spaced (symbol S.Assign)) after
    (name-like name.text good.0) refl (apart-sign S.Assign [] after assign-like tt)

head-apart : (first last : Symbol) (cond : Expr Name) (n : ℕ) → IsWordLike (Fixed first) →
    IsWordLike (Fixed last) → Good (head_line first cond last n) → Whole (head_line first cond last n)
head-apart first last cond n f l good =
    let items : List Item = symbol first ∷ Space ∷ expression cond ++ Space ∷ symbol last ∷ [] in
    let inner = good-line n items good in
    line-apart n items (λ after stop.
    apart-word (Fixed first) (Space ∷ expression cond ++ Space ∷ symbol last ∷ []) after f refl
    (apart-append (expression cond) (Space ∷ symbol last ∷ []) after
    (expression-apart cond (good-left (expression cond) (Space ∷ symbol last ∷ []) inner.1)
    (text_of (Space ∷ symbol last ∷ []) ++ after) refl)
    (apart-word (Fixed last) [] after l stop tt)))

pub end-apart : (n : ℕ) → Whole (line n (symbol S.End ∷ []))
end-apart n = line-apart n (symbol S.End ∷ [])
    (λ after stop. apart-word (Fixed S.End) [] after
    (record { first = 101; others = _; text = refl; name = refl; known = tt }) stop tt)

abbrev pub FineStatement : Statement Name → Type 0
FineStatement s = (n : ℕ) → Good (statement s n) → Whole (statement s n)

body-apart : (ss : List (Statement Name)) → AllByRecursion FineStatement ss → (n : ℕ) → Good (body ss n) →
    Whole (body ss n)
body-apart [] f n good = λ after. tt
body-apart (s ∷ ss) f n good =
    whole-append (statement s n) (body ss n) (f.0 n (good-left (statement s n) (body ss n) good))
    (body-apart ss f.1 n (good-right (statement s n) (body ss n) good))

else-apart : (ss : List (Statement Name)) → AllByRecursion FineStatement ss → (n : ℕ) →
    Good (else_of ss n) → Whole (else_of ss n)
else-apart [] f n good = λ after. tt
else-apart (s ∷ ss) f n good =
    whole-append (line n (symbol S.Else ∷ [])) (body (s ∷ ss) (n + 1))
    (line-apart n (symbol S.Else ∷ [])
    (λ after stop. apart-word (Fixed S.Else) [] after
    (record { first = 101; others = _; text = refl; name = refl; known = tt }) stop tt))
    (body-apart (s ∷ ss) f (n + 1) (good-right (line n (symbol S.Else ∷ [])) (body (s ∷ ss) (n + 1)) good))

as-lines : (s : Statement Name) (n : ℕ) (items : List Item) → statement s n ≡ items →
    (Good items → Whole items) → Good (statement s n) → Whole (statement s n)
as-lines s n items h f = subst (λ xs. Good xs → Whole xs) (sym h) f

let-apart : (name : Name) (kind : Kind) (e : Expr Name) → FineStatement (T.Let name kind e)
let-apart name kind e n = as-lines _ n _ (printed-Let (T.Let name kind e) n name kind e refl) (λ good.
    let items : List Item = symbol S.Let ∷ Space ∷ typed name kind ++ spaced (symbol S.Assign)
    ++ expression e in
    let inner = good-line n items good in
    line-apart n items (λ after stop.
    apart-word (Fixed S.Let) (Space ∷ typed name kind ++ spaced (symbol S.Assign) ++ expression e) after
    (record { first = 108; others = _; text = refl; name = refl; known = tt }) refl
    (typed-apart name kind (spaced (symbol S.Assign) ++ expression e) after inner.1.0 refl
    (apart-sign S.Assign (expression e) after assign-like (expression-apart e inner.1.1.1.1.1 after stop)))))

assignment-apart : (name : Name) (e : Expr Name) → FineStatement (T.Assign name e)
assignment-apart name e n = as-lines _ n _ (printed-Assign (T.Assign name e) n name e refl) (λ good.
    let items : List Item = named name ∷ spaced (symbol S.Assign) ++ expression e in
    let inner = good-line n items good in
    line-apart n items (λ after stop.
    apart-word (Named name.text) (spaced (symbol S.Assign) ++ expression e) after
    (name-like name.text inner.0) refl
    (apart-sign S.Assign (expression e) after assign-like (expression-apart e inner.1.1 after stop))))

call-line-apart : (bind : Option Name) (call : Call Name) → FineStatement (T.Call bind call)
call-line-apart bind call n = as-lines _ n _ (printed-Call (T.Call bind call) n bind call refl) (λ good.
    let inner = good-line n (binding bind ++ call_items call) good in
    line-apart n (binding bind ++ call_items call) (λ after stop.
    whole-append (binding bind) (call_items call)
    (binding-apart bind (good-left (binding bind) (call_items call) inner))
    (call-apart call (good-right (binding bind) (call_items call) inner)) after))

if-apart : (cond : Expr Name) (holds fails : List (Statement Name)) → AllByRecursion FineStatement holds →
    AllByRecursion FineStatement fails → FineStatement (T.If cond holds fails)
if-apart cond holds fails f g n = as-lines _ n _
    (printed-If (T.If cond holds fails) n cond holds fails refl) (λ good.
    let a : List Item = head_line S.If cond S.Then n in
    let b : List Item = body holds (n + 1) in
    let c : List Item = else_of fails n in
    let d : List Item = line n (symbol S.End ∷ []) in
    let three = good-left (a ++ b ++ c) d good in
    let two = good-left (a ++ b) c three in
    whole-append (a ++ b ++ c) d (whole-append (a ++ b) c (whole-append a b
    (head-apart S.If S.Then cond n
    (record { first = 105; others = _; text = refl; name = refl; known = tt })
    (record { first = 116; others = _; text = refl; name = refl; known = tt }) (good-left a b two))
    (body-apart holds f (n + 1) (good-right a b two))) (else-apart fails g n (good-right (a ++ b) c three)))
    (end-apart n))

while-apart : (cond : Expr Name) (turn : List (Statement Name)) → AllByRecursion FineStatement turn →
    FineStatement (T.While cond turn)
while-apart cond turn f n = as-lines _ n _ (printed-While (T.While cond turn) n cond turn refl) (λ good.
    let a : List Item = head_line S.While cond S.Do n in
    let b : List Item = body turn (n + 1) in
    let d : List Item = line n (symbol S.End ∷ []) in
    let two = good-left (a ++ b) d good in
    whole-append (a ++ b) d (whole-append a b
    (head-apart S.While S.Do cond n
    (record { first = 119; others = _; text = refl; name = refl; known = tt })
    (record { first = 100; others = _; text = refl; name = refl; known = tt }) (good-left a b two))
    (body-apart turn f (n + 1) (good-right a b two))) (end-apart n))

statement-apart : (s : Statement Name) → FineStatement s
statement-apart = on_statements FineStatement (record {
  let_ = let-apart;
  assign = assignment-apart;
  call = call-line-apart;
  if_ = if-apart;
  while_ = while-apart;
})

all-apart : (ss : List (Statement Name)) → AllByRecursion FineStatement ss
all-apart [] = tt
all-apart (s ∷ ss) = (statement-apart s, all-apart ss)

pub statements-apart : (ss : List (Statement Name)) (n : ℕ) → Good (body ss n) → Whole (body ss n)
statements-apart ss n good = body-apart ss (all-apart ss) n good
