-- Printed tokens stand apart: no token goes on into what is printed behind it.
use Rattle.std.proofs.Common.{◌≡◌, ℕ, ℤ, pos, negsuc, Bool, true, false, nat_lt, ◌==◌, if◌then◌else◌, List}
use Rattle.std.proofs.Common.{[], ◌∷◌, ◌++◌, ap, subst, sym, refl, ◌∙◌, append_assoc, append-nil}
use Rattle.std.specs.List.{AllByRecursion}
use Rattle.std.proofs.lemmas.Grind.{flat_map-append}
use Rattle.seuss_text.specs.Bytes.{is_name_byte}
use Rattle.seuss_text.specs.Words.{IsLongest}
use Rattle.seuss_parser.specs.Trees as G
use Rattle.seuss_parser.specs.Symbols.{symbol_text}
use Rattle.seuss_parser.specs.declared.symbol.Symbol.{Symbol}
use Rattle.seuss_parser.specs.declared.symbol.Symbol.TheVariants as S
use Rattle.seuss_parser.specs.declared.word.Sort.{Sort}
use Rattle.seuss_parser.specs.declared.word.Sort.TheVariants.{Fixed, Name as Named, Number}
use Rattle.seuss_program.specs.declared.tree.Name.{Name}
use Rattle.seuss_program.specs.declared.tree.Op.{Op}
use Rattle.seuss_program.specs.declared.tree.Op.TheVariants as O
use Rattle.seuss_program.specs.declared.tree.Fun.{Fun}
use Rattle.seuss_program.specs.declared.tree.Fun.TheVariants as U
use Rattle.seuss_program.specs.declared.tree.Expr.{Expr}
use Rattle.seuss_program.specs.declared.tree.Node.TheVariants as N
use Rattle.seuss_print.specs.Items.{Item, Token, Space, LineFeed, symbol, number, spaced, bracketed, line}
use Rattle.seuss_print.specs.Items.{token_text, item_text, text_of, tokens_in}
use Rattle.seuss_print.specs.Expressions.{Printed, printed, at_level, op_symbol, fun_symbol, truth_symbol}
use Rattle.seuss_print.specs.Expressions.{op_level, left_level, right_level, primary_level, expression}
use Rattle.seuss_print.specs.Printable.{IsWithinLimit}
use Rattle.seuss_print.proofs.Lists.{all_left, all_right}
use Rattle.seuss_print.proofs.Trees.{on_expressions}
use Rattle.seuss_print.proofs.Costs.{tokens-append}
use Rattle.seuss_print.proofs.Nodes.{printed-Int, printed-Bool, printed-Empty, printed-Name, printed-Neg}
use Rattle.seuss_print.proofs.Nodes.{printed-Not, printed-Two, printed-One}
use Rattle.seuss_print.proofs.TokenEnds.{Known, Stops, FollowsMinus, IsWordLike, longest-word}
use Rattle.seuss_print.proofs.TokenEnds.{longest-before, longest-alone, longest-minus, open-alone}
use Rattle.seuss_print.proofs.TokenEnds.{close-alone, square-alone, unsquare-alone, comma-alone, dot-alone}
use Rattle.seuss_print.proofs.TokenEnds.{named-follows, open-follows, square-follows, minus-follows}
use Rattle.seuss_print.proofs.TokenEnds.{name-like, number-like}

-- each token of these items is as long as possible, where this text stands behind them
abbrev pub Apart : List Item → List ℕ → Type 0
Apart [] after = Unit {0}
Apart (Token sort ∷ items) after = Known sort × IsLongest (token_text sort) (text_of items ++ after)
    × Apart items after
Apart (Space ∷ items) after = Apart items after
Apart (LineFeed ∷ items) after = Apart items after

pub text-append : (xs ys : List Item) → text_of (xs ++ ys) ≡ text_of xs ++ text_of ys
text-append xs ys = flat_map-append item_text xs ys

behind-append : (xs ys : List Item) (after : List ℕ) →
    text_of xs ++ (text_of ys ++ after) ≡ text_of (xs ++ ys) ++ after
behind-append xs ys after = sym (append_assoc (text_of xs) (text_of ys) after)
    ∙ ap (λ bytes. bytes ++ after) (sym (text-append xs ys))

pub apart-append : (xs ys : List Item) (after : List ℕ) → Apart xs (text_of ys ++ after) → Apart ys after →
    Apart (xs ++ ys) after
apart-append [] ys after a b = b
apart-append (Token sort ∷ xs) ys after a b = (
  a.0,
  subst (IsLongest (token_text sort)) (behind-append xs ys after) a.1,
  apart-append xs ys after a.2
      b,
)
apart-append (Space ∷ xs) ys after a b = apart-append xs ys after a b
apart-append (LineFeed ∷ xs) ys after a b = apart-append xs ys after a b

-- a token behind which comes what no name goes on with
pub apart-word : (sort : Sort) (items : List Item) (after : List ℕ) → IsWordLike sort →
    Stops (text_of items ++ after) → Apart items after →
    Apart (Token sort ∷ items) after
apart-word sort items after w stop a = (
  w.known,
  longest-word (token_text sort) w.first w.others (text_of items ++ after) w.text w.name stop,
  a,
)

-- a sign behind which comes a space
pub record IsSignLike (s : Symbol) : Type 0 where
  pub first : ℕ
  pub others : List ℕ
  pub text : symbol_text s ≡ first ∷ others
  pub plain : is_name_byte first ≡ false
  pub known : Known (Fixed s)

pub apart-sign : (s : Symbol) (items : List Item) (after : List ℕ) → IsSignLike s → Apart items after →
    Apart (symbol s ∷ Space ∷ items) after
apart-sign s items after w a = (
  w.known,
  longest-before (symbol_text s) w.first w.others 32 (text_of items ++ after) w.text w.plain
      refl,
  a,
)

pub apart-sign-line : (s : Symbol) (items : List Item) (after : List ℕ) → IsSignLike s → Apart items after →
    Apart (symbol s ∷ LineFeed ∷ items) after
apart-sign-line s items after w a = (
  w.known,
  longest-before (symbol_text s) w.first w.others 10 (text_of items ++ after) w.text w.plain
      refl,
  a,
)

-- signs that begin no longer one
pub apart-open : (items : List Item) (after : List ℕ) → Apart items after →
    Apart (symbol S.Open ∷ items) after
apart-open items after a = (tt, longest-alone 40 (text_of items ++ after) refl open-alone, a)

pub apart-close : (items : List Item) (after : List ℕ) → Apart items after →
    Apart (symbol S.Close ∷ items) after
apart-close items after a = (tt, longest-alone 41 (text_of items ++ after) refl close-alone, a)

pub apart-square : (items : List Item) (after : List ℕ) → Apart items after →
    Apart (symbol S.OpenSquare ∷ items) after
apart-square items after a = (tt, longest-alone 91 (text_of items ++ after) refl square-alone, a)

pub apart-unsquare : (items : List Item) (after : List ℕ) → Apart items after →
    Apart (symbol S.CloseSquare ∷ items) after
apart-unsquare items after a = (tt, longest-alone 93 (text_of items ++ after) refl unsquare-alone, a)

pub apart-comma : (items : List Item) (after : List ℕ) → Apart items after →
    Apart (symbol S.Comma ∷ items) after
apart-comma items after a = (tt, longest-alone 44 (text_of items ++ after) refl comma-alone, a)

pub apart-dot : (items : List Item) (after : List ℕ) → Apart items after → Apart (symbol S.Dot ∷ items) after
apart-dot items after a = (tt, longest-alone 46 (text_of items ++ after) refl dot-alone, a)

-- items that stand apart before whatever no name goes on with
abbrev pub Separate : List Item → Type 0
Separate items = (after : List ℕ) → Stops after → Apart items after

pub separate-bracketed : (items : List Item) → Separate items → (after : List ℕ) →
    Apart (bracketed items) after
separate-bracketed items a after =
    apart-open (items ++ symbol S.Close ∷ []) after
    (apart-append items (symbol S.Close ∷ []) after (a (41 ∷ after) refl) (apart-close [] after tt))

-- and that may stand behind a minus
pub record Follows (items : List Item) : Type 0 where
  pub apart : Separate items
  pub first : ℕ
  pub others : List ℕ
  pub begins : text_of items ≡ first ∷ others
  pub safe : FollowsMinus first

word-follows : (sort : Sort) → IsWordLike sort → Follows (Token sort ∷ [])
word-follows sort w = record {
  apart = λ after stop. apart-word sort [] after w stop tt;
  first = w.first;
  others = w.others;
  begins = append-nil (token_text sort) ∙ w.text;
  safe = named-follows w.first w.name;
}

bracketed-follows : (items : List Item) → Separate items → Follows (bracketed items)
bracketed-follows items a = record {
  apart = λ after stop. separate-bracketed items a after;
  first = 40;
  others = text_of (items ++ symbol S.Close ∷ []);
  begins = refl;
  safe = open-follows;
}

-- a word with brackets behind it
call-follows : (s : Symbol) (items : List Item) → IsWordLike (Fixed s) → Separate items →
    Follows (symbol s ∷ bracketed items)
call-follows s items w a = record {
  apart = λ after stop. apart-word (Fixed s) (bracketed items) after w refl
      (separate-bracketed items a after);
  first = w.first;
  others = w.others ++ text_of (bracketed items);
  begins = ap (λ (bytes : List ℕ). bytes ++ text_of (bracketed items)) w.text;
  safe = named-follows w.first w.name;
}

-- items behind others
follows-append : (xs ys : List Item) → Follows xs → ((after : List ℕ) → Stops (text_of ys ++ after)) →
    Separate ys → Follows (xs ++ ys)
follows-append xs ys a stops b = record {
  apart = λ after stop. apart-append xs ys after (a.apart (text_of ys ++ after) (stops after))
      (b after stop);
  first = a.first;
  others = a.others ++ text_of ys;
  begins = text-append xs ys ∙ ap (λ (bytes : List ℕ). bytes ++ text_of ys) a.begins;
  safe = a.safe;
}

fun-like : (fun : Fun) → IsWordLike (Fixed (fun_symbol fun))
fun-like U.First = record { first = 102; others = _; text = refl; name = refl; known = tt }
fun-like U.Last = record { first = 108; others = _; text = refl; name = refl; known = tt }
fun-like U.Rest = record { first = 114; others = _; text = refl; name = refl; known = tt }
fun-like U.Front = record { first = 102; others = _; text = refl; name = refl; known = tt }
fun-like U.Len = record { first = 108; others = _; text = refl; name = refl; known = tt }

truth-like : (b : Bool) → IsWordLike (Fixed (truth_symbol b))
truth-like true = record { first = 116; others = _; text = refl; name = refl; known = tt }
truth-like false = record { first = 102; others = _; text = refl; name = refl; known = tt }

pub not-like : IsWordLike (Fixed S.Not)
not-like = record { first = 110; others = _; text = refl; name = refl; known = tt }

-- the good tokens of the parts of items
abbrev pub Good : List Item → Type 0
Good items = AllByRecursion IsWithinLimit (tokens_in items)

pub good-left : (xs ys : List Item) → Good (xs ++ ys) → Good xs
good-left xs ys g = all_left IsWithinLimit (tokens_in xs) (tokens_in ys)
    (subst (λ sorts. AllByRecursion IsWithinLimit sorts) (tokens-append xs ys) g)

pub good-right : (xs ys : List Item) → Good (xs ++ ys) → Good ys
good-right xs ys g = all_right IsWithinLimit (tokens_in xs) (tokens_in ys)
    (subst (λ sorts. AllByRecursion IsWithinLimit sorts) (tokens-append xs ys) g)

pub good-bracketed : (items : List Item) → Good (bracketed items) → Good items
good-bracketed items g = good-left items (symbol S.Close ∷ []) g.1

-- a printed part whose tokens are good may stand behind a minus, and so in each place
abbrev IsFinePart : Printed → Type 0
IsFinePart part = Good part.items → Follows part.items

placed : (b : Bool) (items : List Item) → (Good items → Follows items) →
    Good (if b then bracketed items else items) → Follows (if b then bracketed items else items)
placed true items f good = bracketed-follows items (f (good-bracketed items good)).apart
placed false items f good = f good

at-level : (p : ℕ) (part : Printed) → IsFinePart part → Good (at_level p part) → Follows (at_level p part)
at-level p part f good = placed (nat_lt part.level p) part.items f good

-- an operator between its parts: a sign or a word with a space on each side
record IsOperator (s : Symbol) : Type 0 where
  apart : (items : List Item) (after : List ℕ) → Apart items after → Apart (symbol s ∷ Space ∷ items) after

sign-operator : (s : Symbol) → IsSignLike s → IsOperator s
sign-operator s w = record { apart = λ items after a. apart-sign s items after w a }

word-operator : (s : Symbol) → IsWordLike (Fixed s) → IsOperator s
word-operator s w = record { apart = λ items after a. apart-word (Fixed s) (Space ∷ items) after w refl a }

infix-follows : (xs ys : List Item) (s : Symbol) → IsOperator s → (Good xs → Follows xs) →
    (Good ys → Follows ys) →
    Good (xs ++ spaced (symbol s) ++ ys) → Follows (xs ++ spaced (symbol s) ++ ys)
infix-follows xs ys s op f g good =
    let left = f (good-left xs (spaced (symbol s)) (good-left (xs ++ spaced (symbol s)) ys good)) in
    let right = g (good-right (xs ++ spaced (symbol s)) ys good) in
    let whole : Follows (xs ++ (spaced (symbol s) ++ ys)) =
    follows-append xs (spaced (symbol s) ++ ys) left (λ after. refl) (λ after stop.
    op.apart ys after (right.apart after stop)) in
    subst Follows (sym (append_assoc xs (spaced (symbol s)) ys)) whole

pair-follows : (xs ys : List Item) (s : Symbol) → IsWordLike (Fixed s) → (Good xs → Follows xs) →
    (Good ys → Follows ys) →
    Good (symbol s ∷ bracketed (xs ++ symbol S.Comma ∷ Space ∷ ys)) →
    Follows (symbol s ∷ bracketed (xs ++ symbol S.Comma ∷ Space ∷ ys))
pair-follows xs ys s w f g good =
    let inner = good-bracketed (xs ++ symbol S.Comma ∷ Space ∷ ys) good.1 in
    let left = f (good-left xs (symbol S.Comma ∷ Space ∷ ys) inner) in
    let right = g (good-right xs (symbol S.Comma ∷ Space ∷ ys) inner).1 in
    call-follows s (xs ++ symbol S.Comma ∷ Space ∷ ys) w (λ after stop.
    apart-append xs (symbol S.Comma ∷ Space ∷ ys) after (left.apart (44 ∷ 32 ∷ text_of ys ++ after) refl)
    (apart-comma (Space ∷ ys) after (right.apart after stop)))

true-false : true ≡ false → ⊥
true-false h = cc

pub plain-sign : (s : Symbol) (first : ℕ) (others : List ℕ) → symbol_text s ≡ first ∷ others →
    is_name_byte first ≡ false → Known (Fixed s) → IsSignLike s
plain-sign s first others text plain known = record
    { first = first; others = others; text = text; plain = plain; known = known }

operator : (op : Op) → (op_level op == primary_level) ≡ false → IsOperator (op_symbol op)
operator O.Or h = word-operator S.Or
    (record { first = 111; others = _; text = refl; name = refl; known = tt })
operator O.And h = word-operator S.And
    (record { first = 97; others = _; text = refl; name = refl; known = tt })
operator O.Eq h = sign-operator S.Equal (plain-sign S.Equal 61 _ refl refl tt)
operator O.Ne h = sign-operator S.NotEqual (plain-sign S.NotEqual 60 _ refl refl tt)
operator O.Lt h = sign-operator S.Less (plain-sign S.Less 60 _ refl refl tt)
operator O.Le h = sign-operator S.LessOrEqual (plain-sign S.LessOrEqual 60 _ refl refl tt)
operator O.Gt h = sign-operator S.Greater (plain-sign S.Greater 62 _ refl refl tt)
operator O.Ge h = sign-operator S.GreaterOrEqual (plain-sign S.GreaterOrEqual 62 _ refl refl tt)
operator O.Plus h = sign-operator S.Plus (plain-sign S.Plus 43 _ refl refl tt)
operator O.Minus h = sign-operator S.Minus (plain-sign S.Minus 45 _ refl refl tt)
operator O.WrapPlus h = sign-operator S.WrapPlus (plain-sign S.WrapPlus 38 _ refl refl tt)
operator O.WrapMinus h = sign-operator S.WrapMinus (plain-sign S.WrapMinus 38 _ refl refl tt)
operator O.Times h = sign-operator S.Times (plain-sign S.Times 42 _ refl refl tt)
operator O.Divide h = sign-operator S.Divide (plain-sign S.Divide 47 _ refl refl tt)
operator O.Remainder h = sign-operator S.Remainder (plain-sign S.Remainder 37 _ refl refl tt)
operator O.At h = absurd (true-false h)
operator O.Add h = absurd (true-false h)

two-follows : (line : ℕ) (op : Op) (l r : Expr Name) → IsFinePart (printed l) → IsFinePart (printed r) →
    IsFinePart (printed (G.expression line (N.Two op l r)))
two-follows line O.Or l r f g = subst IsFinePart (sym (printed-Two line O.Or l r))
    (infix-follows _ _ (op_symbol O.Or) (operator O.Or refl) (at-level (left_level O.Or) (printed l) f)
    (at-level (right_level O.Or) (printed r) g))
two-follows line O.And l r f g = subst IsFinePart (sym (printed-Two line O.And l r))
    (infix-follows _ _ (op_symbol O.And) (operator O.And refl) (at-level (left_level O.And) (printed l) f)
    (at-level (right_level O.And) (printed r) g))
two-follows line O.Eq l r f g = subst IsFinePart (sym (printed-Two line O.Eq l r))
    (infix-follows _ _ (op_symbol O.Eq) (operator O.Eq refl) (at-level (left_level O.Eq) (printed l) f)
    (at-level (right_level O.Eq) (printed r) g))
two-follows line O.Ne l r f g = subst IsFinePart (sym (printed-Two line O.Ne l r))
    (infix-follows _ _ (op_symbol O.Ne) (operator O.Ne refl) (at-level (left_level O.Ne) (printed l) f)
    (at-level (right_level O.Ne) (printed r) g))
two-follows line O.Lt l r f g = subst IsFinePart (sym (printed-Two line O.Lt l r))
    (infix-follows _ _ (op_symbol O.Lt) (operator O.Lt refl) (at-level (left_level O.Lt) (printed l) f)
    (at-level (right_level O.Lt) (printed r) g))
two-follows line O.Le l r f g = subst IsFinePart (sym (printed-Two line O.Le l r))
    (infix-follows _ _ (op_symbol O.Le) (operator O.Le refl) (at-level (left_level O.Le) (printed l) f)
    (at-level (right_level O.Le) (printed r) g))
two-follows line O.Gt l r f g = subst IsFinePart (sym (printed-Two line O.Gt l r))
    (infix-follows _ _ (op_symbol O.Gt) (operator O.Gt refl) (at-level (left_level O.Gt) (printed l) f)
    (at-level (right_level O.Gt) (printed r) g))
two-follows line O.Ge l r f g = subst IsFinePart (sym (printed-Two line O.Ge l r))
    (infix-follows _ _ (op_symbol O.Ge) (operator O.Ge refl) (at-level (left_level O.Ge) (printed l) f)
    (at-level (right_level O.Ge) (printed r) g))
two-follows line O.Plus l r f g = subst IsFinePart (sym (printed-Two line O.Plus l r))
    (infix-follows _ _ (op_symbol O.Plus) (operator O.Plus refl)
    (at-level (left_level O.Plus) (printed l) f) (at-level (right_level O.Plus) (printed r) g))
two-follows line O.Minus l r f g = subst IsFinePart (sym (printed-Two line O.Minus l r))
    (infix-follows _ _ (op_symbol O.Minus) (operator O.Minus refl)
    (at-level (left_level O.Minus) (printed l) f) (at-level (right_level O.Minus) (printed r) g))
two-follows line O.WrapPlus l r f g = subst IsFinePart (sym (printed-Two line O.WrapPlus l r))
    (infix-follows _ _ (op_symbol O.WrapPlus) (operator O.WrapPlus refl)
    (at-level (left_level O.WrapPlus) (printed l) f) (at-level (right_level O.WrapPlus) (printed r) g))
two-follows line O.WrapMinus l r f g = subst IsFinePart (sym (printed-Two line O.WrapMinus l r))
    (infix-follows _ _ (op_symbol O.WrapMinus) (operator O.WrapMinus refl)
    (at-level (left_level O.WrapMinus) (printed l) f) (at-level (right_level O.WrapMinus) (printed r) g))
two-follows line O.Times l r f g = subst IsFinePart (sym (printed-Two line O.Times l r))
    (infix-follows _ _ (op_symbol O.Times) (operator O.Times refl)
    (at-level (left_level O.Times) (printed l) f) (at-level (right_level O.Times) (printed r) g))
two-follows line O.Divide l r f g = subst IsFinePart (sym (printed-Two line O.Divide l r))
    (infix-follows _ _ (op_symbol O.Divide) (operator O.Divide refl)
    (at-level (left_level O.Divide) (printed l) f) (at-level (right_level O.Divide) (printed r) g))
two-follows line O.Remainder l r f g = subst IsFinePart (sym (printed-Two line O.Remainder l r))
    (infix-follows _ _ (op_symbol O.Remainder) (operator O.Remainder refl)
    (at-level (left_level O.Remainder) (printed l) f) (at-level (right_level O.Remainder) (printed r) g))
two-follows line O.At l r f g = subst IsFinePart (sym (printed-Two line O.At l r))
    (pair-follows (printed l).items (printed r).items (op_symbol O.At)
    (record { first = 97; others = _; text = refl; name = refl; known = tt }) f g)
two-follows line O.Add l r f g = subst IsFinePart (sym (printed-Two line O.Add l r))
    (pair-follows (printed l).items (printed r).items (op_symbol O.Add)
    (record { first = 97; others = _; text = refl; name = refl; known = tt }) f g)

number-follows : (z : ℤ) → Good (number z ∷ []) → Follows (number z ∷ [])
number-follows (pos n) good = word-follows (Number (pos n)) (number-like n good.0)
number-follows (negsuc n) good = absurd good.0

neg-follows : (items : List Item) → (Good items → Follows items) → Good (symbol S.Minus ∷ items) →
    Follows (symbol S.Minus ∷ items)
neg-follows items f good =
    let x = f good.1 in
    record {
      apart = λ after stop. (
        tt,
        subst (λ bytes. IsLongest (45 ∷ []) (bytes ++ after)) (sym x.begins)
            (longest-minus x.first (x.others ++ after) x.safe),
        x.apart after stop,
      );
      first = 45;
      others = text_of items;
      begins = refl;
      safe = minus-follows;
    }

not-follows : (items : List Item) → (Good items → Follows items) → Good (symbol S.Not ∷ Space ∷ items) →
    Follows (symbol S.Not ∷ Space ∷ items)
not-follows items f good =
    let x = f good.1 in
    record {
      apart = λ after stop. apart-word (Fixed S.Not) (Space ∷ items) after not-like refl
          (x.apart after stop);
      first = 110;
      others = _;
      begins = refl;
      safe = named-follows 110 refl;
    }

empty-follows : Follows (symbol S.OpenSquare ∷ symbol S.CloseSquare ∷ [])
empty-follows = record {
  apart = λ after stop. apart-square (symbol S.CloseSquare ∷ []) after (apart-unsquare [] after tt);
  first = 91;
  others = _;
  begins = refl;
  safe = square-follows;
}

-- each expression whose tokens are good
pub expression-fine : (e : Expr Name) → IsFinePart (printed e)
expression-fine = on_expressions (λ e. IsFinePart (printed e)) (record {
  int = λ line z. subst IsFinePart (sym (printed-Int line z)) (number-follows z);
  bool = λ line b. subst IsFinePart (sym (printed-Bool line b))
      (λ good. word-follows (Fixed (truth_symbol b)) (truth-like b));
  empty = λ line. subst IsFinePart (sym (printed-Empty line)) (λ good. empty-follows);
  name = λ line n. subst IsFinePart (sym (printed-Name line n))
      (λ good. word-follows (Named n.text) (name-like n.text good.0));
  neg = λ line e f. subst IsFinePart (sym (printed-Neg line e))
      (neg-follows (at_level 6 (printed e)) (at-level 6 (printed e) f));
  not = λ line e f. subst IsFinePart (sym (printed-Not line e))
      (not-follows (at_level 2 (printed e)) (at-level 2 (printed e) f));
  two = two-follows;
  one = λ line fun e f. subst IsFinePart (sym (printed-One line fun e))
      (λ good. call-follows (fun_symbol fun) (printed e).items (fun-like fun)
      (f (good-bracketed (printed e).items good.1)).apart);
})

pub expression-apart : (e : Expr Name) → Good (expression e) → Separate (expression e)
expression-apart e good = (expression-fine e good).apart
