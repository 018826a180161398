-- The words that an expression is printed as are a phrase of it, at each level that it has or wants.
use Rattle.std.proofs.Common.{◌≡◌, ℕ, ℤ, zero, suc, inl, inr, ◌+◌, ◌≤◌, ◌==◌, nat_lt, Bool, true, false}
use Rattle.std.proofs.Common.{if◌then◌else◌, List, [], ◌∷◌, ◌++◌, Option, Some, None, ap, subst, sym, refl}
use Rattle.std.proofs.Common.{◌∙◌, arith, append_assoc, append-nil}
use Rattle.seuss_parser.specs.Trees as G
use Rattle.seuss_parser.specs.Trees.{disjunction, conjunction, comparison, addition, multiplication}
use Rattle.seuss_parser.specs.Trees.{function, pair_function, truth}
use Rattle.seuss_parser.specs.Symbols.{symbol_number}
use Rattle.seuss_parser.specs.declared.word.Numeral.{Numeral}
use Rattle.seuss_parser.specs.Words.{marked_as, as_name, as_numeral, as_one_of, as_symbol}
use Rattle.seuss_parser.specs.Phrases.{Piece, Phrase, words_in, Optional}
use Rattle.seuss_parser.specs.Grammar.{IsMark, IsNumber, IsTruth, IsValueName, IsEmpty, IsBehind, IsChain}
use Rattle.seuss_parser.specs.Grammar.{IsBracketed, IsFunction, IsPairFunction, IsPrimary, IsUnary}
use Rattle.seuss_parser.specs.Grammar.{IsProduct, IsSum, IsComparison, IsNegation, IsConjunction}
use Rattle.seuss_parser.specs.Grammar.{IsDisjunction, IsExpression}
use Rattle.seuss_parser.specs.declared.word.Behind.{Behind}
use Rattle.seuss_parser.specs.declared.word.Marked.{Marked}
use Rattle.seuss_parser.specs.declared.word.Sort.{Sort}
use Rattle.seuss_parser.specs.declared.word.Sort.TheVariants.{Fixed, Name as Named, Number}
use Rattle.seuss_parser.specs.declared.symbol.Symbol.{Symbol}
use Rattle.seuss_parser.specs.declared.symbol.Symbol.TheVariants as S
use Rattle.seuss_program.specs.declared.tree.Name.{Name}
use Rattle.seuss_program.specs.declared.tree.Op.{Op}
use Rattle.seuss_program.specs.declared.tree.Op.TheVariants as O
use Rattle.seuss_program.specs.declared.tree.Fun.{Fun}
use Rattle.seuss_program.specs.declared.tree.Fun.TheVariants as U
use Rattle.seuss_program.specs.declared.tree.Expr.{Expr}
use Rattle.seuss_program.specs.declared.tree.Node.TheVariants as N
use Rattle.seuss_print.specs.Lines as F
use Rattle.seuss_print.specs.Items.{Item, Space, symbol, spaced, bracketed, behind_comma, tokens_in}
use Rattle.seuss_print.specs.Expressions.{Printed, printed, at_level, primary, op_symbol, fun_symbol}
use Rattle.seuss_print.specs.Expressions.{truth_symbol}
use Rattle.seuss_print.specs.Printable.{marks_in, is_mark}
use Rattle.seuss_print.proofs.Trees.{on_expressions}
use Rattle.seuss_print.proofs.Costs.{tokens-append, marks-append, marks-token, bracketed-tokens}
use Rattle.seuss_print.proofs.Costs.{bracketed-marks}
use Rattle.seuss_print.proofs.Nodes.{printed-Int, printed-Bool, printed-Empty, printed-Name, printed-Neg}
use Rattle.seuss_print.proofs.Nodes.{printed-Not, printed-Two, printed-One, kept-Int, kept-Bool, kept-Empty}
use Rattle.seuss_print.proofs.Nodes.{kept-Name, kept-Neg, kept-Not, kept-Two, kept-One, kept-line}
use Rattle.seuss_print.proofs.Makes.{Makes, makes-as, makes-by, makes-then, makes-mark, word-makes}
use Rattle.seuss_print.proofs.Makes.{mark-makes, makes-only, makes-some, AlwaysReads, cut, kept_option}
use Rattle.seuss_print.proofs.Makes.{PassesNone, words-append}
use Rattle.seuss_print.proofs.Lists.{all_append}
use Rattle.seuss_print.proofs.WordSorts.{none-some, some-same}
use Rattle.seuss_print.proofs.Levels.{Level, Turns, descend, chain-more, unary-more, negation-more}

-- the words of items, as this expression
abbrev pub Prints : Phrase (Expr Name) → Expr Name → List Item → Type 0
Prints P e items = Makes P F.expression e (tokens_in items) (marks_in items)

-- of a symbol nothing is kept
abbrev pub nothing : ℕ → Unit {0}
nothing line = tt

equal-self : (n : ℕ) → (n == n) ≡ true
equal-self n = grind arith

pub reads-symbol : (s : Symbol) → AlwaysReads (as_symbol s) nothing 0 (Fixed s)
reads-symbol s line = record {
  found = line;
  is = ap (λ b. if b then Some line else None) (equal-self (symbol_number s));
  same = refl;
}

abbrev pub meaning : {A : Type 0} → Marked A → A
meaning m = m.is

pub reads-table : {A : Type 0} (table : Symbol → Option A) (s : Symbol) (a : A) → table s ≡ Some a →
    (m : Marked A) → m.is ≡ a →
    AlwaysReads (as_one_of table) meaning m (Fixed s)
reads-table table s a h m same line = record {
  found = record { is = a; line = line };
  is = ap (λ found. marked_as line found) h;
  same = sym same;
}

-- numbers, truth values, names, the empty sequence
made-number : (line : ℕ) (z : ℤ) → Makes IsNumber F.expression (G.expression line (N.Int z)) (Number z ∷ [])
    0
unfolding IsNumber
made-number line z = word-makes as_numeral (λ (a : Numeral). a.value) (record { value = z; line = line })
    (Number z)
    (λ l. record { found = record { value = z; line = l }; is = refl; same = refl }) _ F.expression _ [] 0
    (λ a same. makes-only _ _ F.expression
    (kept-Int a.line a.value ∙ (ap (λ v. G.expression 0 (N.Int v)) same ∙ sym (kept-Int line z))))

truth-found : (b : Bool) → truth (truth_symbol b) ≡ Some b
truth-found true = refl
truth-found false = refl

made-truth : (line : ℕ) (b : Bool) → Makes IsTruth F.expression (G.expression line (N.Bool b))
    (Fixed (truth_symbol b) ∷ []) 0
unfolding IsTruth
made-truth line b = word-makes (as_one_of truth) meaning (record { is = b; line = line })
    (Fixed (truth_symbol b))
    (reads-table truth (truth_symbol b) b (truth-found b) _ refl) _ F.expression _ [] 0
    (λ a same. makes-only _ _ F.expression
    (kept-Bool a.line a.is ∙ (ap (λ v. G.expression 0 (N.Bool v)) same ∙ sym (kept-Bool line b))))

pub reads-name : (n : Name) → AlwaysReads as_name F.name n (Named n.text)
reads-name n line = record { found = record { text = n.text; line = line }; is = refl; same = refl }

made-name : (line : ℕ) (n : Name) → Makes IsValueName F.expression (G.expression line (N.Name n))
    (Named n.text ∷ []) 0
unfolding IsValueName
made-name line n = word-makes as_name F.name n (Named n.text) (reads-name n) _ F.expression _ [] 0
    (λ a same. makes-only _ _ F.expression
    (kept-Name a.line a ∙ (ap (λ v. G.expression 0 (N.Name v)) same ∙ sym (kept-Name line n))))

made-empty : (line : ℕ) → Makes IsEmpty F.expression (G.expression line N.Empty)
    (Fixed S.OpenSquare ∷ Fixed S.CloseSquare ∷ []) 1
unfolding IsEmpty
made-empty line = mark-makes (as_symbol S.OpenSquare) nothing 0 (Fixed S.OpenSquare)
    (reads-symbol S.OpenSquare) _ F.expression _ (Fixed S.CloseSquare ∷ []) 0 (λ l same.
    word-makes (as_symbol S.CloseSquare) nothing 0 (Fixed S.CloseSquare) (reads-symbol S.CloseSquare) _
    F.expression _ [] 0 (λ k same.
    makes-only _ _ F.expression (kept-Empty l ∙ sym (kept-Empty line))))

-- an operator and a part behind it
abbrev kept_behind : Behind → Behind
kept_behind next = record { op = next.op; part = F.expression next.part }

made-behind : (ops : Symbol → Option Op) (Part : Phrase (Expr Name)) (op : Op) (s : Symbol) (r : Expr Name)
    (ys : List Sort) (n : ℕ) → ops s ≡ Some op →
    Makes Part F.expression r ys n → Makes (IsBehind ops Part) kept_behind (record { op = op; part = r })
    (Fixed s ∷ ys) (suc n)
unfolding IsBehind
made-behind ops Part op s r ys n found part =
    mark-makes (as_one_of ops) meaning (record { is = op; line = 0 }) (Fixed s)
    (reads-table ops s op found _ refl) _ kept_behind _ ys n (λ m same.
    makes-as _ kept_behind _ (ys ++ []) ys (n + 0) n (append-nil ys) (omega arith)
    (makes-then Part _ F.expression kept_behind r _ ys [] n 0 part (λ e is.
    makes-only _ _ kept_behind
    (ap (λ o. record { op = o; part = F.expression e }) same
    ∙ ap (λ x. record { op = op; part = x }) is))))

two-same : (line k : ℕ) (op o : Op) (l r x y : Expr Name) → o ≡ op → F.expression x ≡ F.expression l →
    F.expression y ≡ F.expression r →
    F.expression (G.expression k (N.Two o x y)) ≡ F.expression (G.expression line (N.Two op l r))
two-same line k op o l r x y same left right =
    kept-Two k o x y
    ∙ (ap (λ z. G.expression 0 (N.Two z (F.expression x) (F.expression y))) same
    ∙ (ap (λ z. G.expression 0 (N.Two op z (F.expression y))) left
    ∙ (ap (λ z. G.expression 0 (N.Two op (F.expression l) z)) right ∙ sym (kept-Two line op l r))))

made-chain : (ops : Symbol → Option Op) (Part : Phrase (Expr Name)) (line : ℕ) (op : Op) (s : Symbol)
    (l r : Expr Name) (xs ys : List Sort) (m n : ℕ) → ops s ≡ Some op →
    Makes (IsChain ops Part) F.expression l xs m → Makes Part F.expression r ys n →
    Makes (IsChain ops Part) F.expression (G.expression line (N.Two op l r)) (xs ++ Fixed s ∷ ys) (m + suc n)
made-chain ops Part line op s l r xs ys m n found left right = record {
  of = λ words are room rest fits.
      let parts = cut xs (Fixed s ∷ ys) words are in
      let x = left.of parts.front parts.first room (suc n + rest) (omega (arith, fits)) in
      let y = (made-behind ops Part op s r ys n found right).of parts.back parts.second (suc n + rest) rest
      refl in
      record {
        other = G.two y.other.op x.other y.other.part;
        pieces = x.pieces ++ y.pieces;
        derives = chain-more ops Part x.other y.other room (suc n + rest) rest x.pieces y.pieces x.derives
            y.derives;
        kept = all_append PassesNone x.pieces y.pieces x.kept y.kept;
        words_are = words-append x.pieces y.pieces
            ∙ (ap (λ ws. ws ++ words_in y.pieces) x.words_are
            ∙ (ap (λ ws. parts.front ++ ws) y.words_are ∙ sym parts.whole));
        same = two-same line x.other.line op y.other.op l r x.other y.other.part
            (ap (λ (b : Behind). b.op) y.same) x.same (ap (λ (b : Behind). b.part) y.same);
      };
}

compared-same : (line : ℕ) (op : Op) (l r x : Expr Name) (next : Option Behind) →
    F.expression x ≡ F.expression l →
    kept_option kept_behind next ≡ Some (kept_behind (record { op = op; part = r })) →
    F.expression (G.compared x next) ≡ F.expression (G.expression line (N.Two op l r))
compared-same line op l r x None same h = absurd (none-some _ h)
compared-same line op l r x (Some next) same h =
    let is : kept_behind next ≡ kept_behind (record { op = op; part = r }) = some-same _ _ h in
    two-same line x.line op next.op l r x next.part (ap (λ (b : Behind). b.op) is) same
    (ap (λ (b : Behind). b.part) is)

module _ (Inner : Phrase (Expr Name)) where
  made-comparison : (line : ℕ) (op : Op) (s : Symbol) (l r : Expr Name) (xs ys : List Sort) (m n : ℕ) →
      comparison s ≡ Some op →
      Makes (IsSum Inner) F.expression l xs m → Makes (IsSum Inner) F.expression r ys n →
      Makes (IsComparison Inner) F.expression (G.expression line (N.Two op l r)) (xs ++ Fixed s ∷ ys)
      (m + suc n)
  unfolding IsComparison
  made-comparison line op s l r xs ys m n found left right =
      makes-then (IsSum Inner) _ F.expression F.expression l _ xs (Fixed s ∷ ys) m (suc n) left (λ x same.
      makes-as _ F.expression _ ((Fixed s ∷ ys) ++ []) (Fixed s ∷ ys) (suc n + 0) (suc n)
      (append-nil (Fixed s ∷ ys)) (omega arith)
      (makes-then (Optional (IsBehind comparison (IsSum Inner))) _ (kept_option kept_behind) F.expression
      (Some (record { op = op; part = r })) _ (Fixed s ∷ ys) [] (suc n) 0
      (makes-some (IsBehind comparison (IsSum Inner)) kept_behind _ (Fixed s ∷ ys) (suc n)
      (made-behind comparison (IsSum Inner) op s r ys n found right)) (λ next is.
      makes-only _ _ F.expression (compared-same line op l r x next same is))))

  made-bracketed : (e : Expr Name) (items : List Item) → Prints Inner e items →
      Prints (IsBracketed Inner) e (bracketed items)
  unfolding IsBracketed
  made-bracketed e items inner =
      makes-as _ F.expression e (Fixed S.Open ∷ (tokens_in items ++ Fixed S.Close ∷ []))
      (tokens_in (bracketed items)) (suc (marks_in items + 0)) (marks_in (bracketed items))
      (sym (bracketed-tokens items)) (omega (arith, bracketed-marks items))
      (mark-makes (as_symbol S.Open) nothing 0 (Fixed S.Open) (reads-symbol S.Open) _ F.expression e
      (tokens_in items ++ Fixed S.Close ∷ []) (marks_in items + 0) (λ line same.
      makes-then Inner _ F.expression F.expression e e (tokens_in items) (Fixed S.Close ∷ [])
      (marks_in items) 0 inner (λ x is.
      word-makes (as_symbol S.Close) nothing 0 (Fixed S.Close) (reads-symbol S.Close) _ F.expression e [] 0
      (λ k was.
      makes-only _ _ F.expression (kept-line line x.line x.node ∙ is)))))

  made-function : (line : ℕ) (fun : Fun) (s : Symbol) (e : Expr Name) (xs : List Sort) (m : ℕ) →
      function s ≡ Some fun → Makes Inner F.expression e xs m →
      Makes (IsFunction Inner) F.expression (G.expression line (N.One fun e))
      (Fixed s ∷ Fixed S.Open ∷ (xs ++ Fixed S.Close ∷ [])) (suc (suc (m + 0)))
  unfolding IsFunction
  made-function line fun s e xs m found inner =
      mark-makes (as_one_of function) meaning (record { is = fun; line = 0 }) (Fixed s)
      (reads-table function s fun found _ refl) _ F.expression _
      (Fixed S.Open ∷ (xs ++ Fixed S.Close ∷ [])) (suc (m + 0)) (λ f same.
      mark-makes (as_symbol S.Open) nothing 0 (Fixed S.Open) (reads-symbol S.Open) _ F.expression _
      (xs ++ Fixed S.Close ∷ []) (m + 0) (λ l was.
      makes-then Inner _ F.expression F.expression e _ xs (Fixed S.Close ∷ []) m 0 inner (λ x is.
      word-makes (as_symbol S.Close) nothing 0 (Fixed S.Close) (reads-symbol S.Close) _ F.expression _ [] 0
      (λ k were.
      makes-only _ _ F.expression
      (kept-One f.line f.is x ∙ (ap (λ z. G.expression 0 (N.One z (F.expression x))) same
      ∙ (ap (λ z. G.expression 0 (N.One fun z)) is ∙ sym (kept-One line fun e))))))))

  made-pair : (line : ℕ) (op : Op) (s : Symbol) (l r : Expr Name) (xs ys : List Sort) (m n : ℕ) →
      pair_function s ≡ Some op →
      Makes Inner F.expression l xs m → Makes Inner F.expression r ys n →
      Makes (IsPairFunction Inner) F.expression (G.expression line (N.Two op l r))
      (Fixed s ∷ Fixed S.Open ∷ (xs ++ Fixed S.Comma ∷ (ys ++ Fixed S.Close ∷ [])))
      (suc (suc (m + (n + 0))))
  unfolding IsPairFunction
  made-pair line op s l r xs ys m n found left right =
      mark-makes (as_one_of pair_function) meaning (record { is = op; line = 0 }) (Fixed s)
      (reads-table pair_function s op found _ refl) _ F.expression _ _ (suc (m + (n + 0))) (λ f same.
      mark-makes (as_symbol S.Open) nothing 0 (Fixed S.Open) (reads-symbol S.Open) _ F.expression _ _
      (m + (n + 0)) (λ l0 was.
      makes-then Inner _ F.expression F.expression l _ xs (Fixed S.Comma ∷ (ys ++ Fixed S.Close ∷ [])) m
      (n + 0) left (λ x is.
      word-makes (as_symbol S.Comma) nothing 0 (Fixed S.Comma) (reads-symbol S.Comma) _ F.expression _
      (ys ++ Fixed S.Close ∷ []) (n + 0) (λ c were.
      makes-then Inner _ F.expression F.expression r _ ys (Fixed S.Close ∷ []) n 0 right (λ y be.
      word-makes (as_symbol S.Close) nothing 0 (Fixed S.Close) (reads-symbol S.Close) _ F.expression _ [] 0
      (λ k been.
      makes-only _ _ F.expression (two-same line f.line op f.is l r x y same is be)))))))

  -- the seven forms of a primary
  number-primary : Turns IsNumber (IsPrimary Inner)
  unfolding IsPrimary
  number-primary e room pieces left d = inl d

  truth-primary : Turns IsTruth (IsPrimary Inner)
  unfolding IsPrimary
  truth-primary e room pieces left d = inr (inl d)

  name-primary : Turns IsValueName (IsPrimary Inner)
  unfolding IsPrimary
  name-primary e room pieces left d = inr (inr (inl d))

  empty-primary : Turns IsEmpty (IsPrimary Inner)
  unfolding IsPrimary
  empty-primary e room pieces left d = inr (inr (inr (inl d)))

  bracketed-primary : Turns (IsBracketed Inner) (IsPrimary Inner)
  unfolding IsPrimary
  bracketed-primary e room pieces left d = inr (inr (inr (inr (inl d))))

  function-primary : Turns (IsFunction Inner) (IsPrimary Inner)
  unfolding IsPrimary
  function-primary e room pieces left d = inr (inr (inr (inr (inr (inl d)))))

  pair-primary : Turns (IsPairFunction Inner) (IsPrimary Inner)
  unfolding IsPrimary
  pair-primary e room pieces left d = inr (inr (inr (inr (inr (inr d)))))

-- a sign before a part
made-signed : (P : Phrase (Expr Name)) (s : Symbol) (wrap : ℕ → Expr Name → Expr Name) →
    ((line : ℕ) (e : Expr Name) (room mid left : ℕ) (ps qs : List Piece) → IsMark s line room ps mid →
    P e mid qs left → P (wrap line e) room (ps ++ qs) left) →
    ((line k : ℕ) (x e : Expr Name) → F.expression x ≡ F.expression e →
    F.expression (wrap k x) ≡ F.expression (wrap line e)) →
    (line : ℕ) (e : Expr Name) (ys : List Sort) (n : ℕ) → Makes P F.expression e ys n →
    Makes P F.expression (wrap line e) (Fixed s ∷ ys) (suc n)
made-signed P s wrap more_ keeps line e ys n part = record {
  of = λ words are room rest fits.
      let parts = cut (Fixed s ∷ []) ys words are in
      let x = (makes-mark (as_symbol s) nothing 0 (Fixed s) (reads-symbol s)).of parts.front parts.first
      room (n + rest) (omega (arith, fits)) in
      let y = part.of parts.back parts.second (n + rest) rest refl in
      record {
        other = wrap x.other y.other;
        pieces = x.pieces ++ y.pieces;
        derives = more_ x.other y.other room (n + rest) rest x.pieces y.pieces x.derives y.derives;
        kept = all_append PassesNone x.pieces y.pieces x.kept y.kept;
        words_are = words-append x.pieces y.pieces
            ∙ (ap (λ ws. ws ++ words_in y.pieces) x.words_are
            ∙ (ap (λ ws. parts.front ++ ws) y.words_are ∙ sym parts.whole));
        same = keeps line x.other y.other e y.same;
      };
}

neg-same : (line k : ℕ) (x e : Expr Name) → F.expression x ≡ F.expression e →
    F.expression (G.expression k (N.Neg x)) ≡ F.expression (G.expression line (N.Neg e))
neg-same line k x e h = kept-Neg k x ∙ (ap (λ z. G.expression 0 (N.Neg z)) h ∙ sym (kept-Neg line e))

not-same : (line k : ℕ) (x e : Expr Name) → F.expression x ≡ F.expression e →
    F.expression (G.expression k (N.Not x)) ≡ F.expression (G.expression line (N.Not e))
not-same line k x e h = kept-Not k x ∙ (ap (λ z. G.expression 0 (N.Not z)) h ∙ sym (kept-Not line e))

-- where brackets may stand deep enough, an expression is printed as a phrase of its own level
pub record Bare (e : Expr Name) : Type 0 where
  pub enough : ℕ
  pub small : (printed e).level ≤ 7
  pub of : (b : ℕ) → enough ≤ b → Prints (Level (IsExpression b) (printed e).level) e (printed e).items

-- and as a phrase of each level that a place wants
pub record Placed (e : Expr Name) : Type 0 where
  pub enough : ℕ
  pub of : (b : ℕ) → enough ≤ b → (p : ℕ) → p ≤ 7 →
      Prints (Level (IsExpression b) p) e (at_level p (printed e))

bare-as : (e : Expr Name) (part : Printed) → printed e ≡ part → part.level ≤ 7 → (enough : ℕ) →
    ((b : ℕ) → enough ≤ b → Prints (Level (IsExpression b) part.level) e part.items) → Bare e
bare-as e part h small enough of = record {
  enough = enough;
  small = subst (λ (x : Printed). x.level ≤ 7) (sym h) small;
  of = λ b k. subst (λ (x : Printed). Prints (Level (IsExpression b) x.level) e x.items) (sym h) (of b k);
}

at-least : (a p : ℕ) → nat_lt a p ≡ false → p ≤ a
at-least a p h = grind (arith, h)

module _ (e : Expr Name) (bare : Bare e) where
  place : (b : ℕ) → suc bare.enough ≤ b → (p : ℕ) → p ≤ 7 → (t : Bool) → nat_lt (printed e).level p ≡ t →
      Prints (Level (IsExpression b) p) e (if t then bracketed (printed e).items else (printed e).items)
  place b h p small false is =
      makes-by _ _ F.expression e _ _
      (descend (IsExpression b) (printed e).level p (at-least (printed e).level p is))
      (bare.of b (omega (arith, h)))
  place zero h p small true is = absurd (omega (arith, h))
  place (suc b) h p small true is =
      makes-by _ _ F.expression e _ _ (descend (IsExpression (suc b)) 7 p small)
      (makes-by _ _ F.expression e _ _ (bracketed-primary (IsExpression (suc b)))
      (made-bracketed (IsExpression (suc b)) e (printed e).items
      (makes-by _ _ F.expression e _ _ (descend (IsExpression b) (printed e).level 0 (omega arith))
      (bare.of b (omega (arith, h))))))

  pub placed : Placed e
  placed = record {
    enough = suc bare.enough;
    of =
        λ b h p small. place b h p small (nat_lt (printed e).level p) refl;
  }

none-below : (a : ℕ) → nat_lt a 0 ≡ false
none-below a = grind arith

-- as what stands in brackets
inner : (e : Expr Name) (x : Placed e) (b : ℕ) → suc x.enough ≤ b →
    Prints (IsExpression b) e (printed e).items
inner e x zero h = absurd (omega (arith, h))
inner e x (suc b) h =
    subst (λ t. Prints (IsExpression (suc b)) e
    (if t then bracketed (printed e).items else (printed e).items)) (none-below (printed e).level)
    (x.of b (omega (arith, h)) 0 (omega arith))

truth-marks : (b : Bool) → 0 ≡ marks_in (symbol (truth_symbol b) ∷ [])
truth-marks true = refl
truth-marks false = refl

infix-tokens : (xs ys : List Item) (s : Symbol) →
    tokens_in xs ++ Fixed s ∷ tokens_in ys ≡ tokens_in (xs ++ spaced (symbol s) ++ ys)
infix-tokens xs ys s =
    sym (tokens-append (xs ++ spaced (symbol s)) ys
    ∙ (ap (λ sorts. sorts ++ tokens_in ys) (tokens-append xs (spaced (symbol s)))
    ∙ append_assoc (tokens_in xs) (Fixed s ∷ []) (tokens_in ys)))

infix-marks : (xs ys : List Item) (s : Symbol) → is_mark s ≡ true →
    marks_in xs + suc (marks_in ys) ≡ marks_in (xs ++ spaced (symbol s) ++ ys)
infix-marks xs ys s h = omega (
  arith,
  marks-append (xs ++ spaced (symbol s)) ys,
  marks-append xs (spaced (symbol s)),
  marks-token
      (Fixed s) [] true h,
)

prefix-marks : (s : Symbol) (ys : List Item) → is_mark s ≡ true →
    suc (marks_in ys) ≡ marks_in (symbol s ∷ ys)
prefix-marks s ys h = omega (arith, marks-token (Fixed s) ys true h)

module _ (line : ℕ) (op : Op) (l r : Expr Name) (left : Placed l) (right : Placed r) where
  -- an operator of a chain
  chain-bare : (own : ℕ) (ops : Symbol → Option Op) →
      ((Inner : Phrase (Expr Name)) → Level Inner own ≡ IsChain ops (Level Inner (suc own))) →
      ops (op_symbol op) ≡ Some op → is_mark (op_symbol op) ≡ true → suc own ≤ 7 →
      printed (G.expression line (N.Two op l r)) ≡ record {
        level = own;
        items = at_level own (printed l) ++ spaced (symbol (op_symbol op))
            ++ at_level (suc own) (printed r);
      } →
      Bare (G.expression line (N.Two op l r))
  chain-bare own ops chain found mark small is = bare-as (G.expression line (N.Two op l r)) _ is
      (omega (arith, small)) (left.enough + right.enough) (λ b h.
      let e : Expr Name = G.expression line (N.Two op l r) in
      let xs : List Item = at_level own (printed l) in
      let ys : List Item = at_level (suc own) (printed r) in
      let Inner : Phrase (Expr Name) = IsExpression b in
      subst (λ P. Makes P F.expression e (tokens_in (xs ++ spaced (symbol (op_symbol op)) ++ ys))
      (marks_in (xs ++ spaced (symbol (op_symbol op)) ++ ys))) (sym (chain Inner))
      (makes-as _ F.expression e _ _ (marks_in xs + suc (marks_in ys)) _ (infix-tokens xs ys (op_symbol op))
      (infix-marks xs ys (op_symbol op) mark)
      (made-chain ops (Level Inner (suc own)) line op (op_symbol op) l r (tokens_in xs) (tokens_in ys)
      (marks_in xs) (marks_in ys) found
      (subst (λ P. Makes P F.expression l (tokens_in xs) (marks_in xs)) (chain Inner)
      (left.of b (omega (arith, h)) own (omega (arith, small))))
      (right.of b (omega (arith, h)) (suc own) small))))

  -- a comparison
  comparison-bare : comparison (op_symbol op) ≡ Some op → is_mark (op_symbol op) ≡ true →
      printed (G.expression line (N.Two op l r)) ≡ record {
        level = 3;
        items = at_level 4 (printed l) ++ spaced (symbol (op_symbol op))
            ++ at_level 4 (printed r);
      } →
      Bare (G.expression line (N.Two op l r))
  comparison-bare found mark is = bare-as (G.expression line (N.Two op l r)) _ is (omega arith)
      (left.enough + right.enough) (λ b h.
      let e : Expr Name = G.expression line (N.Two op l r) in
      let xs : List Item = at_level 4 (printed l) in
      let ys : List Item = at_level 4 (printed r) in
      makes-as _ F.expression e _ _ (marks_in xs + suc (marks_in ys)) _ (infix-tokens xs ys (op_symbol op))
      (infix-marks xs ys (op_symbol op) mark)
      (made-comparison (IsExpression b) line op (op_symbol op) l r (tokens_in xs) (tokens_in ys)
      (marks_in xs) (marks_in ys) found
      (left.of b (omega (arith, h)) 4 (omega arith)) (right.of b (omega (arith, h)) 4 (omega arith))))

  -- a function of two parts
  pair-bare : pair_function (op_symbol op) ≡ Some op → is_mark (op_symbol op) ≡ true →
      printed (G.expression line (N.Two op l r)) ≡ primary
      (symbol (op_symbol op) ∷ bracketed
      ((printed l).items ++ behind_comma (λ (part : Printed). part.items) (printed r))) →
      Bare (G.expression line (N.Two op l r))
  pair-bare found mark is = bare-as (G.expression line (N.Two op l r)) _ is (omega arith)
      (suc (left.enough + right.enough)) (λ b h.
      let e : Expr Name = G.expression line (N.Two op l r) in
      let xs : List Item = (printed l).items in
      let ys : List Item = (printed r).items in
      let both : List Item = xs ++ behind_comma (λ (part : Printed). part.items) (printed r) in
      let comma : tokens_in both ≡ tokens_in xs ++ Fixed S.Comma ∷ tokens_in ys =
      tokens-append xs (symbol S.Comma ∷ Space ∷ ys) in
      let sorts : Fixed (op_symbol op) ∷ Fixed S.Open
      ∷ (tokens_in xs ++ Fixed S.Comma ∷ (tokens_in ys ++ Fixed S.Close ∷ []))
      ≡ tokens_in (symbol (op_symbol op) ∷ bracketed both) =
      ap (λ ss. Fixed (op_symbol op) ∷ ss) (sym (bracketed-tokens both
      ∙ ap (λ ss. Fixed S.Open ∷ ss)
      (ap (λ ss. ss ++ Fixed S.Close ∷ []) comma
      ∙ append_assoc (tokens_in xs) (Fixed S.Comma ∷ tokens_in ys) (Fixed S.Close ∷ [])))) in
      makes-by _ _ F.expression e _ _ (pair-primary (IsExpression b))
      (makes-as _ F.expression e _ _ (suc (suc (marks_in xs + (marks_in ys + 0)))) _ sorts
      (omega (
        arith,
        marks-token (Fixed (op_symbol op)) (bracketed both) true mark,
        bracketed-marks both,
        marks-append xs (symbol S.Comma ∷ Space ∷ ys),
        marks-token (Fixed S.Comma) ys false refl,
      ))
      (made-pair (IsExpression b) line op (op_symbol op) l r (tokens_in xs) (tokens_in ys) (marks_in xs)
      (marks_in ys) found
      (inner l left b (omega (arith, h))) (inner r right b (omega (arith, h))))))

chain-0 : (Inner : Phrase (Expr Name)) → Level Inner 0 ≡ IsChain disjunction (Level Inner 1)
unfolding IsDisjunction
chain-0 Inner = refl

chain-1 : (Inner : Phrase (Expr Name)) → Level Inner 1 ≡ IsChain conjunction (Level Inner 2)
unfolding IsConjunction
chain-1 Inner = refl

chain-4 : (Inner : Phrase (Expr Name)) → Level Inner 4 ≡ IsChain addition (Level Inner 5)
unfolding IsSum
chain-4 Inner = refl

chain-5 : (Inner : Phrase (Expr Name)) → Level Inner 5 ≡ IsChain multiplication (Level Inner 6)
unfolding IsProduct
chain-5 Inner = refl

two-bare : (line : ℕ) (op : Op) (l r : Expr Name) → Placed l → Placed r →
    Bare (G.expression line (N.Two op l r))
two-bare line O.Or l r x y = chain-bare line O.Or l r x y 0 disjunction chain-0 refl refl (omega arith)
    (printed-Two line O.Or l r)
two-bare line O.And l r x y = chain-bare line O.And l r x y 1 conjunction chain-1 refl refl (omega arith)
    (printed-Two line O.And l r)
two-bare line O.Eq l r x y = comparison-bare line O.Eq l r x y refl refl (printed-Two line O.Eq l r)
two-bare line O.Ne l r x y = comparison-bare line O.Ne l r x y refl refl (printed-Two line O.Ne l r)
two-bare line O.Lt l r x y = comparison-bare line O.Lt l r x y refl refl (printed-Two line O.Lt l r)
two-bare line O.Le l r x y = comparison-bare line O.Le l r x y refl refl (printed-Two line O.Le l r)
two-bare line O.Gt l r x y = comparison-bare line O.Gt l r x y refl refl (printed-Two line O.Gt l r)
two-bare line O.Ge l r x y = comparison-bare line O.Ge l r x y refl refl (printed-Two line O.Ge l r)
two-bare line O.Plus l r x y = chain-bare line O.Plus l r x y 4 addition chain-4 refl refl (omega arith)
    (printed-Two line O.Plus l r)
two-bare line O.Minus l r x y = chain-bare line O.Minus l r x y 4 addition chain-4 refl refl (omega arith)
    (printed-Two line O.Minus l r)
two-bare line O.WrapPlus l r x y = chain-bare line O.WrapPlus l r x y 4 addition chain-4 refl refl
    (omega arith) (printed-Two line O.WrapPlus l r)
two-bare line O.WrapMinus l r x y = chain-bare line O.WrapMinus l r x y 4 addition chain-4 refl refl
    (omega arith) (printed-Two line O.WrapMinus l r)
two-bare line O.Times l r x y = chain-bare line O.Times l r x y 5 multiplication chain-5 refl refl
    (omega arith) (printed-Two line O.Times l r)
two-bare line O.Divide l r x y = chain-bare line O.Divide l r x y 5 multiplication chain-5 refl refl
    (omega arith) (printed-Two line O.Divide l r)
two-bare line O.Remainder l r x y = chain-bare line O.Remainder l r x y 5 multiplication chain-5 refl refl
    (omega arith) (printed-Two line O.Remainder l r)
two-bare line O.At l r x y = pair-bare line O.At l r x y refl refl (printed-Two line O.At l r)
two-bare line O.Add l r x y = pair-bare line O.Add l r x y refl refl (printed-Two line O.Add l r)

fun-found : (fun : Fun) → function (fun_symbol fun) ≡ Some fun
fun-found U.First = refl
fun-found U.Last = refl
fun-found U.Rest = refl
fun-found U.Front = refl
fun-found U.Len = refl

fun-mark : (fun : Fun) → is_mark (fun_symbol fun) ≡ true
fun-mark U.First = refl
fun-mark U.Last = refl
fun-mark U.Rest = refl
fun-mark U.Front = refl
fun-mark U.Len = refl

one-bare : (line : ℕ) (fun : Fun) (e : Expr Name) → Placed e → Bare (G.expression line (N.One fun e))
one-bare line fun e x = bare-as (G.expression line (N.One fun e)) _ (printed-One line fun e) (omega arith)
    (suc x.enough) (λ b h.
    let whole : Expr Name = G.expression line (N.One fun e) in
    let xs : List Item = (printed e).items in
    makes-by _ _ F.expression whole _ _ (function-primary (IsExpression b))
    (makes-as _ F.expression whole _ _ (suc (suc (marks_in xs + 0))) _
    (ap (λ ss. Fixed (fun_symbol fun) ∷ ss) (sym (bracketed-tokens xs)))
    (omega (
      arith,
      marks-token (Fixed (fun_symbol fun)) (bracketed xs) true (fun-mark fun),
      bracketed-marks
          xs,
    ))
    (made-function (IsExpression b) line fun (fun_symbol fun) e (tokens_in xs) (marks_in xs) (fun-found fun)
    (inner e x b h))))

neg-bare : (line : ℕ) (e : Expr Name) → Placed e → Bare (G.expression line (N.Neg e))
neg-bare line e x = bare-as (G.expression line (N.Neg e)) _ (printed-Neg line e) (omega arith) x.enough
    (λ b h.
    let ys : List Item = at_level 6 (printed e) in
    makes-as _ F.expression (G.expression line (N.Neg e)) _ _ (suc (marks_in ys)) _ refl
    (prefix-marks S.Minus ys refl)
    (made-signed (IsUnary (IsExpression b)) S.Minus (λ line e. G.expression line (N.Neg e))
    (unary-more (IsExpression b)) neg-same line e (tokens_in ys) (marks_in ys)
    (x.of b h 6 (omega arith))))

not-bare : (line : ℕ) (e : Expr Name) → Placed e → Bare (G.expression line (N.Not e))
not-bare line e x = bare-as (G.expression line (N.Not e)) _ (printed-Not line e) (omega arith) x.enough
    (λ b h.
    let ys : List Item = at_level 2 (printed e) in
    makes-as _ F.expression (G.expression line (N.Not e)) _ _ (suc (marks_in ys)) _ refl
    (prefix-marks S.Not ys refl)
    (made-signed (IsNegation (IsExpression b)) S.Not (λ line e. G.expression line (N.Not e))
    (negation-more (IsExpression b)) not-same line e (tokens_in ys) (marks_in ys)
    (x.of b h 2 (omega arith))))

-- the words of each expression are a phrase of it, wherever it stands
pub expression-placed : (e : Expr Name) → Placed e
expression-placed = on_expressions Placed (record {
  int = λ line z. placed _
      (bare-as _ _ (printed-Int line z) (omega arith) 0
      (λ b h. makes-by _ _ F.expression _ _ _ (number-primary (IsExpression b)) (made-number line z)));
  bool = λ line t. placed _
      (bare-as _ _ (printed-Bool line t) (omega arith) 0
      (λ b h. makes-by _ _ F.expression _ _ _ (truth-primary (IsExpression b))
      (makes-as _ F.expression _ _ _ 0 _ refl (truth-marks t) (made-truth line t))));
  empty = λ line. placed _
      (bare-as _ _ (printed-Empty line) (omega arith) 0
      (λ b h. makes-by _ _ F.expression _ _ _ (empty-primary (IsExpression b)) (made-empty line)));
  name = λ line n. placed _
      (bare-as _ _ (printed-Name line n) (omega arith) 0
      (λ b h. makes-by _ _ F.expression _ _ _ (name-primary (IsExpression b)) (made-name line n)));
  neg = λ line e x. placed _ (neg-bare line e x);
  not = λ line e x. placed _ (not-bare line e x);
  two = λ line op l r x y. placed _ (two-bare line op l r x y);
  one = λ line fun e x. placed _ (one-bare line fun e x);
})

-- the same of a whole expression, which no other one contains
pub expression-whole : (e : Expr Name) (b : ℕ) → suc (expression-placed e).enough ≤ b →
    Prints (IsExpression b) e (printed e).items
expression-whole e b h = inner e (expression-placed e) b h
