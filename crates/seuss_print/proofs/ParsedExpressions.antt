-- A phrase of an expression has no fewer words and marks than the expression is printed with.
use Rattle.std.proofs.Common.{◌≡◌, ℕ, zero, suc, ◌+◌, ◌==◌, nat_lt, Bool, true, false, if◌then◌else◌, List}
use Rattle.std.proofs.Common.{[], ◌∷◌, ◌++◌, length, Option, Some, ap, subst, sym, refl, ◌∙◌, arith}
use Rattle.std.proofs.Common.{count_by}
use Rattle.std.specs.List.{AllByRecursion}
use Rattle.seuss_parser.specs.Trees as G
use Rattle.seuss_parser.specs.Trees.{disjunction, conjunction, comparison, addition, multiplication}
use Rattle.seuss_parser.specs.Trees.{function, pair_function, truth}
use Rattle.seuss_parser.specs.Words.{as_name, as_numeral, as_one_of, as_symbol}
use Rattle.seuss_parser.specs.Phrases.{Phrase, Many}
use Rattle.seuss_parser.specs.Grammar.{IsMark, IsNumber, IsTruth, IsValueName, IsEmpty, IsBehind, IsChain}
use Rattle.seuss_parser.specs.Grammar.{IsBracketed, IsFunction, IsPairFunction, IsPrimary, IsUnary}
use Rattle.seuss_parser.specs.Grammar.{IsProduct, IsSum, IsComparison, IsNegation, IsConjunction}
use Rattle.seuss_parser.specs.Grammar.{IsDisjunction, IsExpression}
use Rattle.seuss_parser.specs.declared.word.Behind.{Behind}
use Rattle.seuss_parser.specs.declared.symbol.Symbol.{Symbol}
use Rattle.seuss_parser.specs.declared.symbol.Symbol.TheVariants as S
use Rattle.seuss_program.specs.declared.tree.Name.{Name}
use Rattle.seuss_program.specs.declared.tree.Op.{Op}
use Rattle.seuss_program.specs.declared.tree.Expr.{Expr}
use Rattle.seuss_program.specs.declared.tree.Node.TheVariants as N
use Rattle.seuss_print.specs.Items.{Item, Space, symbol, spaced, bracketed, behind_comma, tokens_in}
use Rattle.seuss_print.specs.Expressions.{Printed, printed, at_level, primary, two_items, op_symbol}
use Rattle.seuss_print.specs.Expressions.{fun_symbol, truth_symbol, op_level, left_level, right_level}
use Rattle.seuss_print.specs.Expressions.{primary_level}
use Rattle.seuss_print.specs.Printable.{IsWithinLimit, counts}
use Rattle.seuss_print.proofs.Costs.{Cost, tokens-append, cost-append, cost-token, cost-symbol, cost-mark}
use Rattle.seuss_print.proofs.Costs.{cost-more, cost-bracketed, cost-lower, cost-bare, cost-anywhere}
use Rattle.seuss_print.proofs.Gives.{Gives, Claim, gives-then, word-then, mark-then, gives-mark, gives-only}
use Rattle.seuss_print.proofs.Gives.{gives-either, gives-optional, gives-many}
use Rattle.seuss_print.proofs.Nodes.{printed-Int, printed-Bool, printed-Empty, printed-Name, printed-Neg}
use Rattle.seuss_print.proofs.Nodes.{printed-Not, printed-Two, printed-One, printed-line}
use Rattle.seuss_print.proofs.WordSorts.{good-name, good-numeral, in-table, HasLevels, disjunction-levels}
use Rattle.seuss_print.proofs.WordSorts.{conjunction-levels, comparison-levels, addition-levels}
use Rattle.seuss_print.proofs.WordSorts.{multiplication-levels, pair_function-level}

-- an expression is printed with no more than its words, in a place that wants this level
abbrev pub Fits : ℕ → ℕ → Claim (Expr Name)
Fits level room e left n = Cost (at_level level (printed e)) room left n

-- items with the same tokens cost the same
pub cost-same : (xs ys : List Item) (room left n : ℕ) → tokens_in xs ≡ tokens_in ys → Cost xs room left n →
    Cost ys room left n
cost-same xs ys room left n same a = record {
  short = record {
    good = subst (λ sorts. AllByRecursion IsWithinLimit sorts) same a.short.good;
    few = omega (arith, ap (λ sorts. length sorts) same, a.short.few);
  };
  marks = omega (arith, ap (λ sorts. count_by counts sorts) same, a.marks);
}

fits-primary : (e : Expr Name) (items : List Item) (room left n : ℕ) → printed e ≡ primary items →
    Cost items room left n → Fits 7 room e left n
fits-primary e items room left n h cost = subst (λ part. Cost (at_level 7 part) room left n) (sym h) cost

pub gives-number : (room : ℕ) → Gives IsNumber room (Fits 7 room)
unfolding IsNumber
gives-number room = word-then as_numeral _ room (Fits 7 room) false (λ a w kept.
    gives-only _ room _ (fits-primary _ _ room room 1 (printed-Int a.line a.value)
    (cost-token _ room (good-numeral w.word a w.good w.read) refl)))

truth-cost : (b : Bool) (room : ℕ) → Cost (symbol (truth_symbol b) ∷ []) room room 1
truth-cost true room = cost-symbol S.True room room refl refl
truth-cost false room = cost-symbol S.False room room refl refl

pub gives-truth : (room : ℕ) → Gives IsTruth room (Fits 7 room)
unfolding IsTruth
gives-truth room = word-then (as_one_of truth) _ room (Fits 7 room) false (λ a w kept.
    gives-only _ room _ (fits-primary _ _ room room 1 (printed-Bool a.line a.is) (truth-cost a.is room)))

pub gives-value-name : (room : ℕ) → Gives IsValueName room (Fits 7 room)
unfolding IsValueName
gives-value-name room = word-then as_name _ room (Fits 7 room) false (λ a w kept.
    gives-only _ room _ (fits-primary _ _ room room 1 (printed-Name a.line a)
    (cost-token _ room (good-name w.word a w.good w.read) refl)))

pub gives-empty : (room : ℕ) → Gives IsEmpty room (Fits 7 room)
unfolding IsEmpty
gives-empty room = mark-then (as_symbol S.OpenSquare) _ room (Fits 7 room) (λ line mid w is.
    word-then (as_symbol S.CloseSquare) _ mid _ false (λ other v kept.
    gives-only _ mid _ (fits-primary _ _ room mid 2 (printed-Empty line)
    (cost-append (symbol S.OpenSquare ∷ []) (symbol S.CloseSquare ∷ []) room mid mid 1 1
    (cost-mark S.OpenSquare room mid is) (cost-symbol S.CloseSquare mid mid refl refl)))))

-- an operator between its parts, in a place for its own level
pub not-less : (a : ℕ) → nat_lt a a ≡ false
not-less a = grind arith

module _ (op : Op) (left right : Printed) where
  pub infix-items : (op_level op == primary_level) ≡ false →
      at_level (op_level op) (record { level = op_level op; items = two_items op left right })
      ≡ at_level (left_level op) left ++ spaced (symbol (op_symbol op)) ++ at_level (right_level op) right
  infix-items h =
      ap (λ b. if b then bracketed (two_items op left right) else two_items op left right)
      (not-less (op_level op))
      ∙ ap (λ b. if b then symbol (op_symbol op) ∷ bracketed
      (left.items ++ behind_comma (λ (part : Printed). part.items) right)
      else at_level (left_level op) left ++ spaced (symbol (op_symbol op))
      ++ at_level (right_level op) right) h

  pub pair-items : op_level op ≡ primary_level →
      at_level primary_level (record { level = op_level op; items = two_items op left right })
      ≡ symbol (op_symbol op) ∷ bracketed (left.items ++ behind_comma (λ (part : Printed). part.items) right)
  pair-items h =
      ap (λ a. if nat_lt a primary_level then bracketed (two_items op left right) else two_items op left
      right) h
      ∙ ap (λ a. if a == primary_level then symbol (op_symbol op)
      ∷ bracketed (left.items ++ behind_comma (λ (part : Printed). part.items) right)
      else at_level (left_level op) left ++ spaced (symbol (op_symbol op))
      ++ at_level (right_level op) right) h

spaced-cost : (s : Symbol) (room left n : ℕ) → Cost (symbol s ∷ []) room left n →
    Cost (spaced (symbol s)) room left n
spaced-cost s room left n a = cost-same (symbol s ∷ []) (spaced (symbol s)) room left n refl a

-- two parts that fit their places
pub two-fits : (line : ℕ) (op : Op) (l r : Expr Name) (own lft rgt room mid between left n m : ℕ) →
    HasLevels op own lft rgt → (own == 7) ≡ false →
    Fits lft room l mid n → mid ≡ suc between → Fits rgt between r left m →
    Fits own room (G.expression line (N.Two op l r)) left (n + suc m)
two-fits line op l r own lft rgt room mid between left n m levels other a h b =
    let here : (op_level op == primary_level) ≡ false = ap (λ k. k == 7) levels.own_is ∙ other in
    let items : at_level (op_level op) (printed (G.expression line (N.Two op l r)))
    ≡ at_level (left_level op) (printed l) ++ spaced (symbol (op_symbol op))
    ++ at_level (right_level op) (printed r) =
    ap (λ part. at_level (op_level op) part) (printed-Two line op l r)
    ∙ infix-items op (printed l) (printed r) here in
    let on_left : Cost (at_level (left_level op) (printed l)) room mid n =
    subst (λ k. Cost (at_level k (printed l)) room mid n) (sym levels.left_is) a in
    let on_right : Cost (at_level (right_level op) (printed r)) between left m =
    subst (λ k. Cost (at_level k (printed r)) between left m) (sym levels.right_is) b in
    let whole : Cost (at_level (left_level op) (printed l) ++ spaced (symbol (op_symbol op))
    ++ at_level (right_level op) (printed r)) room left (n + 1 + m) =
    cost-append _ _ room between left (n + 1) m
    (cost-append _ _ room mid between n 1 on_left
    (spaced-cost (op_symbol op) mid between 1 (cost-mark (op_symbol op) mid between h))) on_right in
    subst (λ k. Cost (at_level k (printed (G.expression line (N.Two op l r)))) room left (n + suc m))
    levels.own_is
    (subst (λ xs. Cost xs room left (n + suc m)) (sym items)
    (cost-more _ room room left left (n + 1 + m) (n + suc m) (omega arith) (omega arith) (omega arith)
    whole))

-- `head part` in a place for its own level, which its part has as well
module _ (level : ℕ) (s : Symbol) (gap : List Item) (wrap : ℕ → Expr Name → Expr Name)
    (none : tokens_in gap ≡ [])
    (prints : (line : ℕ) (e : Expr Name) → printed (wrap line e)
    ≡ record { level = level; items = symbol s ∷ gap ++ at_level level (printed e) }) where
  prefix-fits : (line : ℕ) (e : Expr Name) (room mid left n : ℕ) → room ≡ suc mid →
      Fits level mid e left n → Fits level room (wrap line e) left (suc n)
  prefix-fits line e room mid left n h a =
      let items : at_level level (printed (wrap line e)) ≡ symbol s ∷ gap ++ at_level level (printed e) =
      ap (λ part. at_level level part) (prints line e)
      ∙ ap (λ b. if b then bracketed (symbol s ∷ gap ++ at_level level (printed e)) else symbol s ∷ gap
      ++ at_level level (printed e)) (not-less level) in
      let bare : Cost (gap ++ at_level level (printed e)) mid left n =
      cost-same (at_level level (printed e)) (gap ++ at_level level (printed e)) mid left n
      (sym (tokens-append gap (at_level level (printed e))
      ∙ ap (λ sorts. sorts ++ tokens_in (at_level level (printed e))) none)) a in
      subst (λ xs. Cost xs room left (suc n)) (sym items)
      (cost-more _ room room left left (1 + n) (suc n) (omega arith) (omega arith) (omega arith)
      (cost-append (symbol s ∷ []) (gap ++ at_level level (printed e)) room mid left 1 n
      (cost-mark s room mid h) bare))

-- expressions, by what may stand in brackets
module _ (Inner : Phrase (Expr Name)) (inner : (room : ℕ) → Gives Inner room (Fits 0 room)) where
  pub gives-bracketed : (room : ℕ) → Gives (IsBracketed Inner) room (Fits 7 room)
  unfolding IsBracketed
  gives-bracketed room = mark-then (as_symbol S.Open) _ room (Fits 7 room) (λ line mid w is.
      gives-then Inner _ mid (Fits 0 mid) _ (inner mid) (λ e left n a.
      word-then (as_symbol S.Close) _ left _ false (λ other v kept.
      gives-only _ left _
      (subst (λ part. Cost (at_level 7 part) room left (suc (n + 1))) (printed-line e.line line e.node)
      (cost-more _ (suc mid) room left left (n + 2) (suc (n + 1)) (omega (arith, is)) (omega arith)
      (omega arith)
      (cost-anywhere (printed e) 7 mid left n a))))))

  pub gives-function : (room : ℕ) → Gives (IsFunction Inner) room (Fits 7 room)
  unfolding IsFunction
  gives-function room = mark-then (as_one_of function) _ room (Fits 7 room) (λ fun mid w is.
      mark-then (as_symbol S.Open) _ mid _ (λ line between v was.
      gives-then Inner _ between (Fits 0 between) _ (inner between) (λ e left n a.
      word-then (as_symbol S.Close) _ left _ false (λ other u kept.
      gives-only _ left _ (fits-primary _ _ room left (suc (suc (n + 1))) (printed-One fun.line fun.is e)
      (cost-more _ room room left left (1 + (n + 2)) (suc (suc (n + 1))) (omega arith) (omega arith)
      (omega arith)
      (cost-append (symbol (fun_symbol fun.is) ∷ []) (bracketed (printed e).items) room mid left 1 (n + 2)
      (cost-mark (fun_symbol fun.is) room mid is)
      (cost-more _ (suc between) mid left left (n + 2) (n + 2) (omega (arith, was)) (omega arith)
      (omega arith)
      (cost-bracketed (printed e).items between left n (cost-bare (printed e) between left n a))))))))))

  pair-cost : (l r : Printed) (room mid left n m : ℕ) → Cost (at_level 0 l) room mid n →
      Cost (at_level 0 r) mid left m →
      Cost (l.items ++ behind_comma (λ (part : Printed). part.items) r) room left (n + suc m)
  pair-cost l r room mid left n m a b =
      let comma : Cost (symbol S.Comma ∷ Space ∷ []) mid mid 1 =
      cost-same (symbol S.Comma ∷ []) (symbol S.Comma ∷ Space ∷ []) mid mid 1 refl
      (cost-symbol S.Comma mid mid refl refl) in
      cost-more _ room room left left (n + (1 + m)) (n + suc m) (omega arith) (omega arith) (omega arith)
      (cost-append l.items (behind_comma (λ (part : Printed). part.items) r) room mid left n (1 + m)
      (cost-bare l room mid n a)
      (cost-append (symbol S.Comma ∷ Space ∷ []) r.items mid mid left 1 m comma (cost-bare r mid left m b)))

  pub gives-pair-function : (room : ℕ) → Gives (IsPairFunction Inner) room (Fits 7 room)
  unfolding IsPairFunction
  gives-pair-function room = mark-then (as_one_of pair_function) _ room (Fits 7 room) (λ op mid w is.
      mark-then (as_symbol S.Open) _ mid _ (λ line between v was.
      gives-then Inner _ between (Fits 0 between) _ (inner between) (λ l behind n a.
      word-then (as_symbol S.Comma) _ behind _ false (λ comma x kept.
      gives-then Inner _ behind (Fits 0 behind) _ (inner behind) (λ r left m b.
      word-then (as_symbol S.Close) _ left _ false (λ other u close.
      gives-only _ left _
      (let found = in-table pair_function w.word op w.read in
      let items : at_level 7 (printed (G.expression op.line (N.Two op.is l r)))
      ≡ symbol (op_symbol op.is) ∷ bracketed
      ((printed l).items ++ behind_comma (λ (part : Printed). part.items) (printed r)) =
      ap (λ part. at_level 7 part) (printed-Two op.line op.is l r)
      ∙ pair-items op.is (printed l) (printed r) (pair_function-level found.0 op.is found.1) in
      subst (λ xs. Cost xs room left (suc (suc (n + suc (m + 1))))) (sym items)
      (cost-more _ room room left left (1 + (n + suc m + 2)) (suc (suc (n + suc (m + 1)))) (omega arith)
      (omega arith) (omega arith)
      (cost-append (symbol (op_symbol op.is) ∷ [])
      (bracketed ((printed l).items ++ behind_comma (λ (part : Printed). part.items) (printed r))) room
      mid left 1 (n + suc m + 2)
      (cost-mark (op_symbol op.is) room mid is)
      (cost-more _ (suc between) mid left left (n + suc m + 2) (n + suc m + 2) (omega (arith, was))
      (omega arith) (omega arith)
      (cost-bracketed _ between left (n + suc m)
      (pair-cost (printed l) (printed r) between behind left n m a b))))))))))))

  pub gives-primary : (room : ℕ) → Gives (IsPrimary Inner) room (Fits 7 room)
  unfolding IsPrimary
  gives-primary room =
      gives-either _ _ room _ (gives-number room) (gives-either _ _ room _ (gives-truth room)
      (gives-either _ _ room _ (gives-value-name room) (gives-either _ _ room _ (gives-empty room)
      (gives-either _ _ room _ (gives-bracketed room)
      (gives-either _ _ room _ (gives-function room) (gives-pair-function room))))))

  -- a row of signs before a part
  abbrev Signs : ℕ → Claim (List ℕ)
  Signs room lines left n = (room ≡ length lines + left) × (n ≡ length lines)

  one-sign : (s : Symbol) (room : ℕ) → Gives (IsMark s) room (λ line left n. (room ≡ suc left) × (n ≡ 1))
  one-sign s room = record {
    of = λ line pieces left d fine.
        let found = (gives-mark (as_symbol s) room).of line pieces left d fine in (found.less, found.one);
  }

  gives-signs : (s : Symbol) (room : ℕ) → Gives (Many (IsMark s)) room (Signs room)
  gives-signs s room = gives-many (IsMark s) (λ room line left n. (room ≡ suc left) × (n ≡ 1)) Signs
      (one-sign s)
      (λ room. (omega arith, refl))
      (λ line lines room mid left n m a b. (omega (arith, a.0, b.0), omega (arith, a.1, b.1))) room

  minus-fits : (lines : List ℕ) (e : Expr Name) (room mid left n : ℕ) → room ≡ length lines + mid →
      Fits 6 mid e left n →
      Fits 6 room (G.minus lines e) left (length lines + n)
  minus-fits [] e room mid left n h a = cost-more _ mid room left left n (0 + n) (omega (arith, h))
      (omega arith) (omega arith) a
  minus-fits (line ∷ lines) e room mid left n h a =
      cost-more _ room room left left (suc (length lines + n)) (suc (length lines) + n) (omega arith)
      (omega arith) (omega arith)
      (prefix-fits 6 S.Minus [] (λ line e. G.expression line (N.Neg e)) refl printed-Neg line
      (G.minus lines e) room (length lines + mid) left (length lines + n)
      (omega (arith, h)) (minus-fits lines e (length lines + mid) mid left n refl a))

  not-fits : (lines : List ℕ) (e : Expr Name) (room mid left n : ℕ) → room ≡ length lines + mid →
      Fits 2 mid e left n →
      Fits 2 room (G.negated lines e) left (length lines + n)
  not-fits [] e room mid left n h a = cost-more _ mid room left left n (0 + n) (omega (arith, h))
      (omega arith) (omega arith) a
  not-fits (line ∷ lines) e room mid left n h a =
      cost-more _ room room left left (suc (length lines + n)) (suc (length lines) + n) (omega arith)
      (omega arith) (omega arith)
      (prefix-fits 2 S.Not (Space ∷ []) (λ line e. G.expression line (N.Not e)) refl printed-Not line
      (G.negated lines e) room (length lines + mid) left (length lines + n)
      (omega (arith, h)) (not-fits lines e (length lines + mid) mid left n refl a))

  pub gives-unary : (room : ℕ) → Gives (IsUnary Inner) room (Fits 6 room)
  unfolding IsUnary
  gives-unary room = gives-then _ _ room (Signs room) (Fits 6 room) (gives-signs S.Minus room)
      (λ lines mid k h.
      gives-then _ _ mid (Fits 7 mid) _ (gives-primary mid) (λ e left n a.
      gives-only _ left _
      (cost-more _ room room left left (length lines + n) (k + (n + 0)) (omega arith) (omega arith)
      (omega (arith, h.1))
      (minus-fits lines e room mid left n h.0 (cost-lower (printed e) 6 7 mid left n (omega arith) a)))))

  -- an operator and its right part, and a chain of them behind a left part
  record AsBehind (own lft rgt room : ℕ) (next : Behind) (left n : ℕ) : Type 0 where
    between : ℕ
    words : ℕ
    levels : HasLevels next.op own lft rgt
    less : room ≡ suc between
    part : Fits rgt between next.part left words
    count : n ≡ suc words

  gives-behind : (ops : Symbol → Option Op) (Part : Phrase (Expr Name)) (own lft rgt : ℕ) →
      ((s : Symbol) (op : Op) → ops s ≡ Some op → HasLevels op own lft rgt) →
      ((room : ℕ) → Gives Part room (Fits rgt room)) →
      (room : ℕ) → Gives (IsBehind ops Part) room (AsBehind own lft rgt room)
  unfolding IsBehind
  gives-behind ops Part own lft rgt levels part room = mark-then (as_one_of ops) _ room _ (λ op mid w is.
      gives-then Part _ mid (Fits rgt mid) _ (part mid) (λ e left n a.
      gives-only _ left _
      (let found = in-table ops w.word op w.read in
      record {
        between = mid;
        words = n;
        levels = levels found.0 op.is found.1;
        less = is;
        part = a;
        count =
            omega arith;
      })))

  -- what a row of operators and parts makes of a left part
  record Grouped (own room : ℕ) (others : List Behind) (left m : ℕ) : Type 0 where
    of : (first : Expr Name) (outer n : ℕ) → Fits own outer first room n →
        Fits own outer (G.grouped first others) left (n + m)

  gives-chain : (ops : Symbol → Option Op) (Part : Phrase (Expr Name)) (own : ℕ) → (own == 7) ≡ false →
      ((s : Symbol) (op : Op) → ops s ≡ Some op → HasLevels op own own (suc own)) →
      ((room : ℕ) → Gives Part room (Fits (suc own) room)) →
      (room : ℕ) → Gives (IsChain ops Part) room (Fits own room)
  unfolding IsChain
  gives-chain ops Part own other levels part room =
      gives-then Part _ room (Fits (suc own) room) (Fits own room) (part room) (λ first mid n a.
      gives-then _ _ mid (Grouped own mid) _
      (gives-many (IsBehind ops Part) (AsBehind own own (suc own)) (Grouped own)
      (gives-behind ops Part own own (suc own) levels part)
      (λ room. record {
        of = λ first outer n a. cost-more _ outer outer room room n (n + 0) (omega arith)
            (omega arith) (omega arith) a;
      })
      (λ next others room mid left n m b c. record {
        of = λ first outer k a.
            cost-more _ outer outer left left (k + suc b.words + m) (k + (n + m)) (omega arith)
            (omega arith) (omega (arith, b.count))
            (c.of (G.two next.op first next.part) outer (k + suc b.words)
            (two-fits first.line next.op first next.part own own (suc own) outer room b.between mid k
            b.words b.levels other a b.less b.part));
      }) mid)
      (λ others left m b. gives-only _ left _
      (cost-more _ room room left left (n + m) (n + (m + 0)) (omega arith) (omega arith) (omega arith)
      (b.of first room n (cost-lower (printed first) own (suc own) room mid n (omega arith) a)))))

  pub gives-product : (room : ℕ) → Gives (IsProduct Inner) room (Fits 5 room)
  unfolding IsProduct
  gives-product room = gives-chain multiplication (IsUnary Inner) 5 refl multiplication-levels gives-unary
      room

  pub gives-sum : (room : ℕ) → Gives (IsSum Inner) room (Fits 4 room)
  unfolding IsSum
  gives-sum room = gives-chain addition (IsProduct Inner) 4 refl addition-levels gives-product room

  pub gives-comparison : (room : ℕ) → Gives (IsComparison Inner) room (Fits 3 room)
  unfolding IsComparison
  gives-comparison room = gives-then _ _ room (Fits 4 room) (Fits 3 room) (gives-sum room) (λ l mid n a.
      gives-then _ _ mid (λ next left m. Fits 3 room (G.compared l next) left (n + m)) _
      (gives-optional _ mid _
      (cost-more _ room room mid mid n (n + 0) (omega arith) (omega arith) (omega arith)
      (cost-lower (printed l) 3 4 room mid n (omega arith) a))
      (record {
        of = λ next pieces left d fine.
            let b = (gives-behind comparison (IsSum Inner) 3 4 4 comparison-levels gives-sum mid).of next
            pieces left d fine in
            cost-more _ room room left left (n + suc b.words) (n + length pieces) (omega arith)
            (omega arith) (omega (arith, b.count))
            (two-fits l.line next.op l next.part 3 4 4 room mid b.between left n b.words b.levels refl a
            b.less b.part);
      }))
      (λ right left m b. gives-only _ left _
      (cost-more _ room room left left (n + m) (n + (m + 0)) (omega arith) (omega arith) (omega arith) b)))

  pub gives-negation : (room : ℕ) → Gives (IsNegation Inner) room (Fits 2 room)
  unfolding IsNegation
  gives-negation room = gives-then _ _ room (Signs room) (Fits 2 room) (gives-signs S.Not room)
      (λ lines mid k h.
      gives-then _ _ mid (Fits 3 mid) _ (gives-comparison mid) (λ e left n a.
      gives-only _ left _
      (cost-more _ room room left left (length lines + n) (k + (n + 0)) (omega arith) (omega arith)
      (omega (arith, h.1))
      (not-fits lines e room mid left n h.0 (cost-lower (printed e) 2 3 mid left n (omega arith) a)))))

  pub gives-conjunction : (room : ℕ) → Gives (IsConjunction Inner) room (Fits 1 room)
  unfolding IsConjunction
  gives-conjunction room = gives-chain conjunction (IsNegation Inner) 1 refl conjunction-levels
      gives-negation room

  pub gives-disjunction : (room : ℕ) → Gives (IsDisjunction Inner) room (Fits 0 room)
  unfolding IsDisjunction
  gives-disjunction room = gives-chain disjunction (IsConjunction Inner) 0 refl disjunction-levels
      gives-conjunction room

-- an expression in which brackets stand so deep
pub gives-expression : (brackets room : ℕ) → Gives (IsExpression brackets) room (Fits 0 room)
gives-expression zero room = record { of = λ value pieces left d fine. absurd d }
gives-expression (suc brackets) room = gives-disjunction (IsExpression brackets) (gives-expression brackets)
    room
