-- The tokens of a whole tree stand apart.
use Rattle.std.proofs.Common.{ℕ, suc, ℤ, pos, negsuc, Bool, true, false, if◌then◌else◌, List, [], ◌∷◌, ◌++◌}
use Rattle.std.proofs.Common.{Option, Some, None, subst, sym, refl, append_assoc}
use Rattle.std.specs.List.{flat_map}
use Rattle.std.specs.Ordering.{int_eq}
use Rattle.seuss_text.specs.Words.{IsLongest}
use Rattle.seuss_parser.specs.declared.symbol.Symbol.TheVariants as S
use Rattle.seuss_parser.specs.declared.word.Sort.TheVariants.{Fixed, Name as Named, Number}
use Rattle.seuss_program.specs.declared.state.Value.{Value}
use Rattle.seuss_program.specs.declared.state.Value.TheVariants as V
use Rattle.seuss_program.specs.declared.tree.Name.{Name}
use Rattle.seuss_program.specs.declared.tree.Pre.{Pre}
use Rattle.seuss_program.specs.declared.tree.Alternative.{Alternative}
use Rattle.seuss_program.specs.declared.tree.Param.{Param}
use Rattle.seuss_program.specs.declared.tree.Statement.{Statement}
use Rattle.seuss_program.specs.declared.tree.Form.{Form}
use Rattle.seuss_program.specs.declared.tree.Form.TheVariants as F
use Rattle.seuss_program.specs.declared.tree.Proc.{Proc}
use Rattle.seuss_program.specs.declared.tree.Var.{Var}
use Rattle.seuss_program.specs.declared.tree.Given.{Given}
use Rattle.seuss_program.specs.declared.tree.Hint.{Hint}
use Rattle.seuss_program.specs.declared.tree.Semi.{Semi}
use Rattle.seuss_program.specs.declared.tree.Cat.{Cat}
use Rattle.seuss_program.specs.declared.tree.BoxDecl.{BoxDecl}
use Rattle.seuss_program.specs.declared.tree.Tree.{Tree}
use Rattle.seuss_print.specs.Items.{Item, Space, LineFeed, symbol, named, number, spaced, bracketed}
use Rattle.seuss_print.specs.Items.{separated, perhaps_bracketed, indented, line, text_of}
use Rattle.seuss_print.specs.Expressions.{expression}
use Rattle.seuss_print.specs.Statements.{typed, binding, call_items, body}
use Rattle.seuss_print.specs.Canonical as C
use Rattle.seuss_print.specs.Canonical.{alternative, pre_items, arrow_symbol, equals, start_items}
use Rattle.seuss_print.specs.Canonical.{result_items, method_head, total_items, partial_items, action_items}
use Rattle.seuss_print.specs.Canonical.{form_items, procedure, variable, side_symbol, hint, semi, cat}
use Rattle.seuss_print.specs.Canonical.{box_name, box, program}
use Rattle.seuss_print.proofs.TokenEnds.{Stops, IsWordLike, name-like, number-like, longest-minus}
use Rattle.seuss_print.proofs.TokenEnds.{named-follows}
use Rattle.seuss_print.proofs.Apart.{Apart, Separate, Good, IsSignLike, plain-sign, apart-append}
use Rattle.seuss_print.proofs.Apart.{apart-word, apart-sign, apart-sign-line, apart-comma, apart-square}
use Rattle.seuss_print.proofs.Apart.{apart-unsquare, separate-bracketed, good-left, good-right}
use Rattle.seuss_print.proofs.Apart.{good-bracketed, expression-apart}
use Rattle.seuss_print.proofs.ApartStatements.{Whole, indented-apart, line-apart, good-line, whole-append}
use Rattle.seuss_print.proofs.ApartStatements.{whole-row, separated-apart, perhaps-apart, perhaps-stops}
use Rattle.seuss_print.proofs.ApartStatements.{colon-like, typed-apart, call-apart, binding-apart}
use Rattle.seuss_print.proofs.ApartStatements.{end-apart, statements-apart}

-- ` ; call`, where there is one
pre-apart : (pre : Option (Pre Name)) → Good (pre_items pre) → Whole (pre_items pre)
pre-apart None good = λ after. tt
pre-apart (Some pre) good = λ after.
    apart-sign S.Semicolon (binding pre.bind ++ call_items pre.call) after
    (plain-sign S.Semicolon 59 _ refl refl tt)
    (whole-append (binding pre.bind) (call_items pre.call)
    (binding-apart pre.bind (good-left (binding pre.bind) (call_items pre.call) good.1))
    (call-apart pre.call (good-right (binding pre.bind) (call_items pre.call) good.1)) after)

pre-stops : (pre : Option (Pre Name)) (after : List ℕ) → Stops after →
    Stops (text_of (pre_items pre) ++ after)
pre-stops None after stop = stop
pre-stops (Some pre) after stop = refl

arrow-like : (b : Bool) → IsSignLike (arrow_symbol b)
arrow-like true = plain-sign S.Arrow 45 _ refl refl tt
arrow-like false = plain-sign S.NegativeArrow 126 _ refl refl tt

-- a line that a sign may end: what stands before whatever no name goes on with is not enough
abbrev EndsLine : List Item → Type 0
EndsLine items = (after : List ℕ) → Apart (items ++ LineFeed ∷ []) after

line-ends : (n : ℕ) (items : List Item) → EndsLine items → Whole (line n items)
line-ends n items a after =
    subst (λ xs. Apart xs after) (sym (append_assoc (indented n) items (LineFeed ∷ [])))
    (apart-append (indented n) (items ++ LineFeed ∷ []) after
    (indented-apart n (text_of (items ++ LineFeed ∷ []) ++ after)) (a after))

when-ends : (a : Alternative Name) → Good
    (expression a.cond ++ pre_items a.pre ++ Space ∷ symbol (arrow_symbol a.positive) ∷ []) →
    EndsLine (symbol S.When ∷ Space ∷ expression a.cond ++ pre_items a.pre ++ Space
    ∷ symbol (arrow_symbol a.positive) ∷ [])
when-ends a good after =
    let arrow : List Item = Space ∷ symbol (arrow_symbol a.positive) ∷ [] in
    let both : List Item = expression a.cond ++ pre_items a.pre in
    let before = good-left both arrow good in
    let last : Apart (arrow ++ LineFeed ∷ []) after =
    apart-sign-line (arrow_symbol a.positive) [] after (arrow-like a.positive) tt in
    let rest : List ℕ = text_of (arrow ++ LineFeed ∷ []) ++ after in
    let whole : Apart (both ++ (arrow ++ LineFeed ∷ [])) after =
    apart-append both (arrow ++ LineFeed ∷ []) after
    (apart-append (expression a.cond) (pre_items a.pre) rest
    (expression-apart a.cond (good-left (expression a.cond) (pre_items a.pre) before)
    (text_of (pre_items a.pre) ++ rest) (pre-stops a.pre rest refl))
    (pre-apart a.pre (good-right (expression a.cond) (pre_items a.pre) before) rest))
    last in
    apart-word (Fixed S.When) (Space ∷ (both ++ arrow) ++ LineFeed ∷ []) after
    (record { first = 119; others = _; text = refl; name = refl; known = tt }) refl
    (subst (λ xs. Apart xs after) (sym (append_assoc both arrow (LineFeed ∷ []))) whole)

alternative-apart : (a : Alternative Name) → Good (alternative a) → Whole (alternative a)
alternative-apart a good =
    let tail : List Item = expression a.cond ++ pre_items a.pre ++ Space ∷ symbol (arrow_symbol a.positive)
    ∷ [] in
    let items : List Item = symbol S.When ∷ Space ∷ tail in
    let inner = good-line 2 items (good-left (line 2 items) (body a.body 3) good) in
    whole-append (line 2 items) (body a.body 3) (line-ends 2 items (when-ends a inner.1))
    (statements-apart a.body 3 (good-right (line 2 items) (body a.body 3) good))

param-apart : (p : Param) → Good (C.param p) → Separate (C.param p)
param-apart p good after stop = typed-apart p.name p.kind [] after good.0 stop tt

result-apart : (b : Bool) → Separate (result_items b)
result-apart true after stop = apart-sign S.Colon (symbol S.Int ∷ []) after colon-like
    (apart-word (Fixed S.Int) [] after
    (record { first = 105; others = _; text = refl; name = refl; known = tt }) stop tt)
result-apart false after stop = tt

method-apart : (q : Proc Name) → Good (method_head q) → Separate (method_head q)
method-apart q good after stop =
    let args : List Item = separated C.param q.params in
    apart-word (Named q.name.text) (bracketed args ++ result_items q.gives) after
    (name-like q.name.text good.0) refl
    (apart-append (bracketed args) (result_items q.gives) after
    (separate-bracketed args
    (separated-apart C.param param-apart q.params
    (good-bracketed args (good-left (bracketed args) (result_items q.gives) good.1)))
    (text_of (result_items q.gives) ++ after))
    (result-apart q.gives after stop))

total-apart : (q : Proc Name) (ss : List (Statement Name)) → Good (total_items q ss) →
    Whole (total_items q ss)
total-apart q ss good =
    let items : List Item = symbol S.Total ∷ method_head q ++ Space ∷ symbol S.Is ∷ [] in
    let inner = good-line 1 items (good-left (line 1 items) (body ss 2) good) in
    whole-append (line 1 items) (body ss 2) (line-apart 1 items (λ after stop.
    apart-word (Fixed S.Total) (method_head q ++ Space ∷ symbol S.Is ∷ []) after
    (record { first = 116; others = _; text = refl; name = refl; known = tt }) refl
    (apart-append (method_head q) (Space ∷ symbol S.Is ∷ []) after
    (method-apart q (good-left (method_head q) (Space ∷ symbol S.Is ∷ []) inner.1)
    (text_of (Space ∷ symbol S.Is ∷ []) ++ after) refl)
    (apart-word (Fixed S.Is) [] after
    (record { first = 105; others = _; text = refl; name = refl; known = tt }) stop tt))))
    (statements-apart ss 2 (good-right (line 1 items) (body ss 2) good))

alternatives-apart : (as_ : List (Alternative Name)) → Good (flat_map alternative as_) →
    Whole (flat_map alternative as_)
alternatives-apart as_ good = whole-row alternative alternative-apart as_ good

partial-apart : (q : Proc Name) (as_ : List (Alternative Name)) → Good (partial_items q as_) →
    Whole (partial_items q as_)
partial-apart q as_ good =
    let items : List Item = symbol S.Partial ∷ method_head q in
    let inner = good-line 1 items (good-left (line 1 items) (flat_map alternative as_) good) in
    whole-append (line 1 items) (flat_map alternative as_) (line-apart 1 items (λ after stop.
    apart-word (Fixed S.Partial) (method_head q) after
    (record { first = 112; others = _; text = refl; name = refl; known = tt }) refl
    (method-apart q inner.1 after stop)))
    (alternatives-apart as_ (good-right (line 1 items) (flat_map alternative as_) good))

action-apart : (q : Proc Name) (as_ : List (Alternative Name)) → Good (action_items q as_) →
    Whole (action_items q as_)
action-apart q as_ good =
    let items : List Item = symbol S.Action ∷ Space ∷ named q.name ∷ [] in
    let inner = good-line 1 items (good-left (line 1 items) (flat_map alternative as_) good) in
    whole-append (line 1 items) (flat_map alternative as_) (line-apart 1 items (λ after stop.
    apart-word (Fixed S.Action) (Space ∷ named q.name ∷ []) after
    (record { first = 97; others = _; text = refl; name = refl; known = tt }) refl
    (apart-word (Named q.name.text) [] after (name-like q.name.text inner.1.0) stop tt)))
    (alternatives-apart as_ (good-right (line 1 items) (flat_map alternative as_) good))

form-apart : (q : Proc Name) (form : Form Name) → Good (form_items q form) → Whole (form_items q form)
form-apart q (F.Total ss) good = total-apart q ss good
form-apart q (F.Partial as_) good = partial-apart q as_ good
form-apart q (F.Action as_) good = action-apart q as_ good

procedure-apart : (q : Proc Name) → Good (procedure q) → Whole (procedure q)
procedure-apart q good =
    whole-append (form_items q q.form) (line 1 (symbol S.End ∷ []))
    (form-apart q q.form (good-left (form_items q q.form) (line 1 (symbol S.End ∷ [])) good))
    (end-apart 1)

-- numbers with a sign
signed-apart : (z : ℤ) → Good (C.signed z) → Separate (C.signed z)
signed-apart (pos n) good after stop = apart-word (Number (pos n)) [] after (number-like n good.0) stop tt
signed-apart (negsuc n) good after stop =
    let w = number-like (suc n) good.1.0 in (
      tt,
      subst (λ (bytes : List ℕ). IsLongest (45 ∷ []) ((bytes ++ []) ++ after)) (sym w.text)
          (longest-minus w.first ((w.others ++ []) ++ after) (named-follows w.first w.name)),
      apart-word (Number (pos (suc n))) [] after w stop tt,
    )

equals-apart : (items : List Item) → Separate items → Separate (equals items)
equals-apart items a after stop = apart-sign S.Equal items after (plain-sign S.Equal 61 _ refl refl tt)
    (a after stop)

perhaps-equals : (b : Bool) (items : List Item) → (Good items → Separate items) →
    Good (if b then [] else equals items) → Separate (if b then [] else equals items)
perhaps-equals true items f good = λ after stop. tt
perhaps-equals false items f good = equals-apart items (f good.1)

perhaps-equal-stops : (b : Bool) (items : List Item) (after : List ℕ) → Stops after →
    Stops (text_of (if b then [] else equals items) ++ after)
perhaps-equal-stops true items after stop = stop
perhaps-equal-stops false items after stop = refl

start-apart : (v : Value) → Good (start_items v) → Separate (start_items v)
start-apart (V.Int z) good = perhaps-equals (int_eq z (pos 0)) (C.signed z) (signed-apart z) good
start-apart (V.Bool true) good = equals-apart (symbol S.True ∷ [])
    (λ after stop. apart-word (Fixed S.True) [] after
    (record { first = 116; others = _; text = refl; name = refl; known = tt }) stop tt)
start-apart (V.Bool false) good = λ after stop. tt
start-apart (V.Seq []) good = λ after stop. tt
start-apart (V.Seq (z ∷ zs)) good =
    let items : List Item = separated C.signed (z ∷ zs) in
    equals-apart (symbol S.OpenSquare ∷ items ++ symbol S.CloseSquare ∷ []) (λ after stop.
    apart-square (items ++ symbol S.CloseSquare ∷ []) after
    (apart-append items (symbol S.CloseSquare ∷ []) after
    (separated-apart C.signed signed-apart (z ∷ zs)
    (good-left items (symbol S.CloseSquare ∷ []) good.1.1) (93 ∷ after) refl)
    (apart-unsquare [] after tt)))

start-stops : (v : Value) (after : List ℕ) → Stops after → Stops (text_of (start_items v) ++ after)
start-stops (V.Int z) after stop = perhaps-equal-stops (int_eq z (pos 0)) (C.signed z) after stop
start-stops (V.Bool true) after stop = refl
start-stops (V.Bool false) after stop = stop
start-stops (V.Seq []) after stop = stop
start-stops (V.Seq (z ∷ zs)) after stop = refl

variable-apart : (v : Var) → Good (variable v) → Whole (variable v)
variable-apart v good =
    let items : List Item = symbol S.Var ∷ Space ∷ typed v.name v.kind ++ start_items v.start in
    let inner = good-line 1 items good in
    line-apart 1 items (λ after stop.
    apart-word (Fixed S.Var) (Space ∷ typed v.name v.kind ++ start_items v.start) after
    (record { first = 118; others = _; text = refl; name = refl; known = tt }) refl
    (typed-apart v.name v.kind (start_items v.start) after inner.1.0 (start-stops v.start after stop)
    (start-apart v.start inner.1.1.1.1 after stop)))

side-like : (b : Bool) → IsWordLike (Fixed (side_symbol b))
side-like true = record { first = 102; others = _; text = refl; name = refl; known = tt }
side-like false = record { first = 98; others = _; text = refl; name = refl; known = tt }

hint-apart : (h : Hint Name) → Good (hint h) → Separate (hint h)
hint-apart h good after stop =
    apart-word (Fixed (side_symbol h.front)) (Space ∷ named h.name ∷ Space ∷ number (pos h.depth) ∷ [])
    after (side-like h.front) refl
    (apart-word (Named h.name.text) (Space ∷ number (pos h.depth) ∷ []) after
    (name-like h.name.text good.1.0) refl
    (apart-word (Number (pos h.depth)) [] after (number-like h.depth good.1.1.0) stop tt))

hint-stops : (hs : List (Hint Name)) (after : List ℕ) → Stops after →
    Stops (text_of (flat_map hint hs) ++ after)
hint-stops [] after stop = stop
hint-stops (h ∷ hs) after stop = refl

hints-apart : (hs : List (Hint Name)) → Good (flat_map hint hs) → Separate (flat_map hint hs)
hints-apart [] good after stop = tt
hints-apart (h ∷ hs) good after stop =
    apart-append (hint h) (flat_map hint hs) after
    (hint-apart h (good-left (hint h) (flat_map hint hs) good) (text_of (flat_map hint hs) ++ after)
    (hint-stops hs after stop))
    (hints-apart hs (good-right (hint h) (flat_map hint hs) good) after stop)

semi-apart : (s : Semi Name) → Good (semi s) → Whole (semi s)
semi-apart s good =
    let hs : List Item = flat_map hint s.hints in
    let items : List Item = symbol S.Semi ∷ Space ∷ named s.first ∷ symbol S.Comma ∷ Space ∷ named s.second
    ∷ hs in
    let inner = good-line 1 items good in
    line-apart 1 items (λ after stop.
    apart-word (Fixed S.Semi) (Space ∷ named s.first ∷ symbol S.Comma ∷ Space ∷ named s.second ∷ hs) after
    (record { first = 115; others = _; text = refl; name = refl; known = tt }) refl
    (apart-word (Named s.first.text) (symbol S.Comma ∷ Space ∷ named s.second ∷ hs) after
    (name-like s.first.text inner.1.0) refl
    (apart-comma (Space ∷ named s.second ∷ hs) after
    (apart-word (Named s.second.text) hs after (name-like s.second.text inner.1.1.1.0)
    (hint-stops s.hints after stop) (hints-apart s.hints inner.1.1.1.1 after stop)))))

given-apart : (g : Given Name) → Good (C.given g) → Separate (C.given g)
given-apart g good after stop =
    apart-word (Named g.name.text) (spaced (symbol S.Colon) ++ named g.cat ∷ []) after
    (name-like g.name.text good.0) refl
    (apart-sign S.Colon (named g.cat ∷ []) after colon-like
    (apart-word (Named g.cat.text) [] after (name-like g.cat.text good.1.1.0) stop tt))

box-name-apart : (n : Name) → Good (box_name n) → Separate (box_name n)
box-name-apart n good after stop = apart-word (Named n.text) [] after (name-like n.text good.0) stop tt

box-apart : (b : BoxDecl) → Good (box b) → Whole (box b)
box-apart b good =
    let ns : List Item = perhaps_bracketed box_name b.given in
    let items : List Item = symbol S.Box ∷ Space ∷ named b.name ∷ spaced (symbol S.Colon) ++ named b.cat
    ∷ ns in
    let inner = good-line 0 items good in
    line-apart 0 items (λ after stop.
    apart-word (Fixed S.Box) (Space ∷ named b.name ∷ spaced (symbol S.Colon) ++ named b.cat ∷ ns) after
    (record { first = 98; others = _; text = refl; name = refl; known = tt }) refl
    (apart-word (Named b.name.text) (spaced (symbol S.Colon) ++ named b.cat ∷ ns) after
    (name-like b.name.text inner.1.0) refl
    (apart-sign S.Colon (named b.cat ∷ ns) after colon-like
    (apart-word (Named b.cat.text) ns after (name-like b.cat.text inner.1.1.1.0)
    (perhaps-stops box_name b.given after stop)
    (perhaps-apart box_name box-name-apart b.given inner.1.1.1.1 after)))))

cat-apart : (c : Cat Name) → Good (cat c) → Whole (cat c)
cat-apart c good =
    let gs : List Item = perhaps_bracketed C.given c.given in
    let items : List Item = symbol S.Cat ∷ Space ∷ named c.name ∷ gs in
    let vs : List Item = flat_map variable c.vars in
    let qs : List Item = flat_map procedure c.procs in
    let ss : List Item = flat_map semi c.semis in
    let last : List Item = line 0 (symbol S.End ∷ []) in
    let four = good-left (line 0 items ++ vs ++ qs ++ ss) last good in
    let three = good-left (line 0 items ++ vs ++ qs) ss four in
    let two = good-left (line 0 items ++ vs) qs three in
    let inner = good-line 0 items (good-left (line 0 items) vs two) in
    whole-append (line 0 items ++ vs ++ qs ++ ss) last
    (whole-append (line 0 items ++ vs ++ qs) ss
    (whole-append (line 0 items ++ vs) qs
    (whole-append (line 0 items) vs
    (line-apart 0 items (λ after stop.
    apart-word (Fixed S.Cat) (Space ∷ named c.name ∷ gs) after
    (record { first = 99; others = _; text = refl; name = refl; known = tt }) refl
    (apart-word (Named c.name.text) gs after (name-like c.name.text inner.1.0)
    (perhaps-stops C.given c.given after stop)
    (perhaps-apart C.given given-apart c.given inner.1.1 after))))
    (whole-row variable variable-apart c.vars (good-right (line 0 items) vs two)))
    (whole-row procedure procedure-apart c.procs (good-right (line 0 items ++ vs) qs three)))
    (whole-row semi semi-apart c.semis (good-right (line 0 items ++ vs ++ qs) ss four)))
    (end-apart 0)

pub program-apart : (tree : Tree) → Good (program tree) → Whole (program tree)
program-apart tree good =
    let items : List Item = symbol S.Seuss ∷ Space ∷ number (pos 1) ∷ [] in
    let cs : List Item = flat_map cat tree.cats in
    let bs : List Item = flat_map box tree.boxes in
    let two = good-left (line 0 items ++ cs) bs good in
    let inner = good-line 0 items (good-left (line 0 items) cs two) in
    whole-append (line 0 items ++ cs) bs
    (whole-append (line 0 items) cs
    (line-apart 0 items (λ after stop.
    apart-word (Fixed S.Seuss) (Space ∷ number (pos 1) ∷ []) after
    (record { first = 115; others = _; text = refl; name = refl; known = tt }) refl
    (apart-word (Number (pos 1)) [] after (number-like 1 inner.1.0) stop tt)))
    (whole-row cat cat-apart tree.cats (good-right (line 0 items) cs two)))
    (whole-row box box-apart tree.boxes (good-right (line 0 items ++ cs) bs good))
