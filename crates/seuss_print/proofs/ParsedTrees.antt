-- What phrases of declarations and of programs give.
use Rattle.std.proofs.Common.{◌≡◌, ℕ, zero, suc, ◌+◌, ℤ, pos, negsuc, neg_ℤ, nat_abs, Bool, true, false}
use Rattle.std.proofs.Common.{List, [], ◌∷◌, ◌++◌, length, Option, Some, None, is_some, unwrap_or}
use Rattle.std.proofs.Common.{if◌then◌else◌, refl, arith}
use Rattle.std.specs.List.{AllByRecursion, flat_map}
use Rattle.std.specs.Ordering.{int_eq}
use Rattle.seuss_parser.specs.Trees.{listed, small_kind, truth, side, signed, bool_variable}
use Rattle.seuss_parser.specs.Words.{as_name, as_symbol, as_one_of, as_numeral, as_version}
use Rattle.seuss_parser.specs.Phrases.{Phrase, Optional}
use Rattle.seuss_parser.specs.Grammar.{IsSymbol, IsOneOf, IsName, IsArguments, IsSigned, IsParam, IsResult}
use Rattle.seuss_parser.specs.Grammar.{IsTotal, IsPartial, IsAction, IsProcedure, IsGiven, IsStart}
use Rattle.seuss_parser.specs.Grammar.{IsSequence, IsIntOf, IsBoolOf, IsSeqOf, IsVariable, IsHint, IsSemi}
use Rattle.seuss_parser.specs.Grammar.{IsBox, IsCat, IsProgram, max_nesting}
use Rattle.seuss_parser.specs.declared.word.Marked.{Marked}
use Rattle.seuss_parser.specs.declared.word.Numeral.{Numeral}
use Rattle.seuss_parser.specs.declared.symbol.Symbol.{Symbol}
use Rattle.seuss_parser.specs.declared.symbol.Symbol.TheVariants as S
use Rattle.seuss_parser.specs.declared.word.Sort.TheVariants.{Fixed, Name as Named, Number}
use Rattle.seuss_program.specs.WellFormed.{IsSmall, HasKind}
use Rattle.seuss_program.specs.declared.state.Value.{Value}
use Rattle.seuss_program.specs.declared.state.Value.TheVariants as V
use Rattle.seuss_program.specs.declared.tree.Name.{Name}
use Rattle.seuss_program.specs.declared.tree.Kind.{Kind}
use Rattle.seuss_program.specs.declared.tree.Kind.TheVariants as K
use Rattle.seuss_program.specs.declared.tree.Param.{Param}
use Rattle.seuss_program.specs.declared.tree.Form.{Form}
use Rattle.seuss_program.specs.declared.tree.Form.TheVariants as F
use Rattle.seuss_program.specs.declared.tree.Proc.{Proc}
use Rattle.seuss_program.specs.declared.tree.Var.{Var}
use Rattle.seuss_program.specs.declared.tree.Hint.{Hint}
use Rattle.seuss_program.specs.declared.tree.Semi.{Semi}
use Rattle.seuss_program.specs.declared.tree.Cat.{Cat}
use Rattle.seuss_program.specs.declared.tree.BoxDecl.{BoxDecl}
use Rattle.seuss_program.specs.declared.tree.Tree.{Tree}
use Rattle.seuss_print.specs.Items.{Item, Space, symbol, bracketed, separated, perhaps_bracketed, line}
use Rattle.seuss_print.specs.Expressions.{truth_symbol}
use Rattle.seuss_print.specs.Statements.{kind_symbol, typed, body}
use Rattle.seuss_print.specs.Canonical as C
use Rattle.seuss_print.specs.Canonical.{equals, start_items, result_items, method_head, form_items}
use Rattle.seuss_print.specs.Canonical.{procedure, variable, side_symbol, hint, semi, cat, box_name, box}
use Rattle.seuss_print.specs.Canonical.{program}
use Rattle.seuss_print.specs.Printable.{IsWithinLimit}
use Rattle.seuss_print.proofs.Costs.{Short, short-append, short-more, short-none, short-cons, short-space}
use Rattle.seuss_print.proofs.Costs.{short-line}
use Rattle.seuss_print.proofs.Gives.{Gives, WordOf, gives-then, word-then, gives-only, gives-either}
use Rattle.seuss_print.proofs.Gives.{gives-optional, gives-word}
use Rattle.seuss_print.proofs.WordSorts.{good-name, good-numeral, in-table, small-kind}
use Rattle.seuss_print.proofs.ParsedLists.{Gave, Always, gives-name, gives-arguments, gives-row}
use Rattle.seuss_print.proofs.ParsedLists.{gives-perhaps-separated, gives-perhaps-group}
use Rattle.seuss_print.proofs.ParsedStatements.{Kept, Alternatives, Bodied, in_row, gives-body}
use Rattle.seuss_print.proofs.ParsedStatements.{gives-alternatives}

name-good : (a : Name) → WordOf as_name a → IsWithinLimit (Named a.text)
name-good a w = good-name w.word a w.good w.read

numeral-good : (a : Numeral) → WordOf as_numeral a → IsWithinLimit (Number a.value)
numeral-good a w = good-numeral w.word a w.good w.read

one : (s : Symbol) → Short (symbol s ∷ []) 1
one s = short-cons (Fixed s) [] 0 tt short-none

typed-short : (name : Name) (kind : Kind) (items : List Item) (n : ℕ) → IsWithinLimit (Named name.text) →
    Short items n →
    Short (typed name kind ++ items) (suc (suc (suc n)))
typed-short name kind items n good a = short-cons (Named name.text) _ _ good
    (short-space _ _ (short-cons (Fixed S.Colon) _ _ tt
    (short-space _ _ (short-cons (Fixed (kind_symbol kind)) _ _ tt a))))

abbrev SmallParam : Param → Type 0
SmallParam p = IsSmall p.kind

gives-param : (brackets blocks room : ℕ) → Gives (IsParam brackets blocks) room (Gave C.param SmallParam)
unfolding IsParam
gives-param brackets blocks room = word-then as_name _ room _ false (λ name w k.
    word-then (as_symbol S.Colon) _ room _ false (λ colon w2 k2.
    word-then (as_one_of small_kind) _ room _ false (λ kind v k3.
    gives-only _ room _ (record {
      short = typed-short name kind.is [] 0 (name-good name w) short-none;
      is = (let found = in-table small_kind v.word kind v.read in small-kind found.0 kind.is found.1);
    }))))

-- a number with no sign, and with a minus
number-short : (z : ℤ) → IsWithinLimit (Number z) → Short (C.signed z) 1
number-short (pos n) good = short-cons (Number (pos n)) [] 0 good short-none
number-short (negsuc n) good = absurd good

negative-short : (z : ℤ) → IsWithinLimit (Number z) → Short (C.signed (neg_ℤ z)) 2
negative-short (pos zero) good = short-more _ 1 2 (omega arith)
    (short-cons (Number (pos zero)) [] 0 good short-none)
negative-short (pos (suc n)) good = short-cons (Fixed S.Minus) _ 1 tt
    (short-cons (Number (pos (suc n))) [] 0 good short-none)
negative-short (negsuc n) good = absurd good

-- how many words a sign has
abbrev sign-words : Option ℕ → ℕ
sign-words None = 0
sign-words (Some line) = 1

signed-short : (sign : Option ℕ) (a : Numeral) → IsWithinLimit (Number a.value) →
    Short (C.signed (signed sign a)) (sign-words sign + 1)
signed-short None a good = short-more _ 1 (0 + 1) (omega arith) (number-short a.value good)
signed-short (Some line) a good = short-more _ 2 (1 + 1) (omega arith) (negative-short a.value good)

gives-symbol : (s : Symbol) (room : ℕ) → Gives (IsSymbol s) room (λ line left n. n ≡ 1)
gives-symbol s room = record {
  of = λ line pieces left d fine. ((gives-word (as_symbol s) false room).of line pieces left d fine).one;
}

gives-signed : (room : ℕ) → Gives IsSigned room (Gave C.signed Always)
unfolding IsSigned
gives-signed room = gives-then _ _ room (λ sign left n. n ≡ sign-words sign) _
    (gives-optional _ room _ refl
    (record { of = λ line pieces left d fine. (gives-symbol S.Minus room).of line pieces left d fine }))
    (λ sign mid n h.
    word-then as_numeral _ mid _ false (λ a w k.
    gives-only _ mid _ (record {
      short = short-more _ (sign-words sign + 1) (n + 1) (omega (arith, h))
          (signed-short sign a (numeral-good a w));
      is = tt;
    })))

-- `= value` behind the type of a variable
equals-short : (items : List Item) (n : ℕ) → Short items n → Short (equals items) (suc n)
equals-short items n a = short-space _ _ (short-cons (Fixed S.Equal) _ n tt (short-space items n a))

perhaps-none : (b : Bool) (items : List Item) (n : ℕ) → Short items n → Short (if b then [] else items) n
perhaps-none true items n a = short-more [] 0 n (omega arith) short-none
perhaps-none false items n a = a

perhaps-some : (b : Bool) (items : List Item) (n : ℕ) → Short items n → Short (if b then items else []) n
perhaps-some true items n a = a
perhaps-some false items n a = short-more [] 0 n (omega arith) short-none

gives-start : {A : Type 0} (P : Phrase A) (print : A → List Item) →
    ((room : ℕ) → Gives P room (Gave print Always)) →
    (room : ℕ) → Gives (IsStart P) room (λ a left n. Short (equals (print a)) n)
unfolding IsStart
gives-start P print g room = word-then (as_symbol S.Equal) _ room _ false (λ line w k. record {
  of = λ a pieces left d fine.
      equals-short (print a) (length pieces) ((g room).of a pieces left d fine).short;
})

-- a variable: its name and type, with its start value
variable-short : (name : Name) (kind : Kind) (start : Value) (n : ℕ) →
    Short (typed name kind ++ start_items start) n →
    Short (variable (record { name = name; kind = kind; start = start })) (suc n)
variable-short name kind start n a = short-line 1 _ _ (short-cons (Fixed S.Var) _ n tt (short-space _ n a))

abbrev IsFineVariable : Var → Type 0
IsFineVariable v = HasKind v.start v.kind

-- what is known of a variable but for the words before its type
record Typed (name : Name) (kind : Kind) (v : Var) (left n : ℕ) : Type 0 where
  short : IsWithinLimit (Named name.text) → Short (variable v) (suc (suc (suc n)))
  is : IsFineVariable v

typed-variable : (name : Name) (kind : Kind) (start : Value) (left n : ℕ) → HasKind start kind →
    Short (start_items start) n →
    Typed name kind (record { name = name; kind = kind; start = start }) left (suc n)
typed-variable name kind start left n is a = record {
  short = λ good. variable-short name kind start (suc (suc (suc n)))
      (typed-short name kind (start_items start) n good a);
  is = is;
}

int-start : (z : ℤ) (n : ℕ) → Short (equals (C.signed z)) n → Short (start_items (V.Int z)) n
int-start z n a = perhaps-none (int_eq z (pos 0)) (equals (C.signed z)) n a

gives-int : (name : Name) (room : ℕ) → Gives (IsIntOf name) room (Typed name K.Int)
unfolding IsIntOf
gives-int name room = word-then (as_symbol S.Int) _ room _ false (λ line w k.
    gives-then _ _ room (λ start left n. Short (start_items (V.Int (unwrap_or start (pos 0)))) n) _
    (gives-optional _ room _ short-none
    (record {
      of = λ z pieces left d fine. int-start z (length pieces)
          ((gives-start IsSigned C.signed gives-signed room).of z pieces left d fine);
    })) (λ start left n a.
    gives-only _ left _ (typed-variable name K.Int (V.Int (unwrap_or start (pos 0))) left (n + 0) refl
    (short-more _ n (n + 0) (omega arith) a))))

truth-items : Marked Bool → List Item
truth-items m = symbol (truth_symbol m.is) ∷ []

gives-truth : (room : ℕ) → Gives (IsOneOf truth) room
    (Gave (λ (m : Marked Bool). symbol (truth_symbol m.is) ∷ []) Always)
gives-truth room = record {
  of = λ m pieces left d fine.
      let w = (gives-word (as_one_of truth) false room).of m pieces left d fine in
      record {
        short = short-more _ 1 (length pieces) (omega (arith, w.one)) (one (truth_symbol m.is));
        is =
            tt;
      };
}

-- the start value that is read, or the usual one
abbrev bool-start : Option (Marked Bool) → Value
bool-start None = V.Bool false
bool-start (Some m) = V.Bool m.is

bool-typed : (name : Name) (start : Option (Marked Bool)) (left n : ℕ) →
    Short (start_items (bool-start start)) n →
    Typed name K.Bool (bool_variable name start) left (suc n)
bool-typed name None left n a = typed-variable name K.Bool (V.Bool false) left n refl a
bool-typed name (Some m) left n a = typed-variable name K.Bool (V.Bool m.is) left n refl a

gives-bool : (name : Name) (room : ℕ) → Gives (IsBoolOf name) room (Typed name K.Bool)
unfolding IsBoolOf
gives-bool name room = word-then (as_symbol S.Bool) _ room _ false (λ line w k.
    gives-then _ _ room (λ start left n. Short (start_items (bool-start start)) n) _
    (gives-optional _ room _ short-none (record {
      of = λ m pieces left d fine.
          perhaps-some m.is _ (length pieces)
          ((gives-start (IsOneOf truth) (λ (m : Marked Bool). symbol (truth_symbol m.is) ∷ [])
          gives-truth room).of m pieces left d fine);
    })) (λ start left n a.
    gives-only _ left _ (bool-typed name start left (n + 0) (short-more _ n (n + 0) (omega arith) a))))

abbrev sequence-items : List ℤ → List Item
sequence-items zs = symbol S.OpenSquare ∷ separated C.signed zs ++ symbol S.CloseSquare ∷ []

gives-sequence : (room : ℕ) → Gives IsSequence room (Gave sequence-items Always)
unfolding IsSequence
gives-sequence room = word-then (as_symbol S.OpenSquare) _ room _ false (λ l w k.
    gives-then _ _ room (Gave (separated C.signed) (AllByRecursion Always)) _
    (gives-perhaps-separated IsSigned C.signed Always gives-signed room) (λ zs mid n x.
    word-then (as_symbol S.CloseSquare) _ mid _ false (λ m v j.
    gives-only _ mid _ (record {
      short = short-cons (Fixed S.OpenSquare) _ _ tt
          (short-append (separated C.signed zs) (symbol S.CloseSquare ∷ []) n 1 x.short
          (one S.CloseSquare));
      is = tt;
    }))))

seq-start : (zs : List ℤ) (n : ℕ) → Short (equals (sequence-items zs)) n → Short (start_items (V.Seq zs)) n
seq-start [] n a = short-more [] 0 n (omega arith) short-none
seq-start (z ∷ zs) n a = a

gives-seq : (name : Name) (room : ℕ) → Gives (IsSeqOf name) room (Typed name K.Seq)
unfolding IsSeqOf
gives-seq name room = word-then (as_symbol S.Seq) _ room _ false (λ line w k.
    gives-then _ _ room (λ start left n. Short (start_items (V.Seq (listed start))) n) _
    (gives-optional _ room _ short-none
    (record {
      of = λ zs pieces left d fine. seq-start zs (length pieces)
          ((gives-start IsSequence sequence-items gives-sequence room).of zs pieces left d fine);
    }))
    (λ start left n a.
    gives-only _ left _ (typed-variable name K.Seq (V.Seq (listed start)) left (n + 0) refl
    (short-more _ n (n + 0) (omega arith) a))))

gives-variable : (room : ℕ) → Gives IsVariable room (Gave variable IsFineVariable)
unfolding IsVariable
gives-variable room = word-then (as_symbol S.Var) _ room _ false (λ l w0 k0.
    word-then as_name _ room _ false (λ name w k.
    word-then (as_symbol S.Colon) _ room _ false (λ colon w2 k2.
    gives-either _ _ room _ (from K.Int name w room (gives-int name room))
    (gives-either _ _ room _ (from K.Bool name w room (gives-bool name room))
    (from K.Seq name w room (gives-seq name room))))))
  where
    from : (kind : Kind) (name : Name) → WordOf as_name name → (room : ℕ) {P : Phrase Var} →
        Gives P room (Typed name kind) →
        Gives P room (λ v left n. Gave variable IsFineVariable v left (suc (suc (suc n))))
    from kind name w room g = record {
      of = λ v pieces left d fine.
          let x = g.of v pieces left d fine in record { short = x.short (name-good name w); is = x.is };
    }

-- what is known of a procedure
abbrev pub FineForm : Proc Name → Form Name → Type 0
FineForm q (F.Total statements) = AllByRecursion (Kept max_nesting) statements
FineForm q (F.Partial alternatives) = Alternatives alternatives
FineForm q (F.Action alternatives) = (q.params ≡ []) × (q.gives ≡ false) × Alternatives alternatives

pub record FineProcedure (q : Proc Name) : Type 0 where
  pub params : AllByRecursion SmallParam q.params
  pub form : FineForm q q.form

end-short : (depth : ℕ) → Short (line depth (symbol S.End ∷ [])) 1
end-short depth = short-line depth (symbol S.End ∷ []) 1 (one S.End)

module _ (brackets blocks : ℕ) where
  gives-type : (room : ℕ) → Gives (IsResult brackets blocks) room
      (λ line left n. Short (result_items true) n)
  unfolding IsResult
  gives-type room = word-then (as_symbol S.Colon) _ room _ false (λ l w k. record {
    of = λ line pieces left d fine.
        short-space _ _ (short-cons (Fixed S.Colon) _ _ tt (short-space _ _
        (short-more _ 1 (length pieces)
        (omega (arith, (gives-symbol S.Int room).of line pieces left d fine)) (one S.Int))));
  })

  gives-result : (room : ℕ) → Gives (Optional (IsResult brackets blocks)) room
      (λ gives left n. Short (result_items (is_some gives)) n)
  gives-result room = gives-optional _ room _ short-none
      (record { of = λ line pieces left d fine. (gives-type room).of line pieces left d fine })

  gives-params : (room : ℕ) → Gives (IsArguments (IsParam brackets blocks)) room
      (Gave (λ (ps : List Param). bracketed (separated C.param ps)) (AllByRecursion SmallParam))
  gives-params room = gives-arguments (IsParam brackets blocks) C.param SmallParam
      (gives-param brackets blocks) room

  head-short : (q : Proc Name) (n m : ℕ) → IsWithinLimit (Named q.name.text) →
      Short (bracketed (separated C.param q.params)) n →
      Short (result_items q.gives) m → Short (method_head q) (suc (n + m))
  head-short q n m good a b = short-space _ _ (short-cons (Named q.name.text) _ _ good
      (short-append (bracketed (separated C.param q.params)) (result_items q.gives) n m a b))

  gives-total : (room : ℕ) → Gives (IsTotal brackets blocks) room (Gave procedure FineProcedure)
  unfolding IsTotal
  gives-total room = word-then (as_symbol S.Total) _ room _ false (λ l w0 k0.
      word-then as_name _ room _ false (λ name w k.
      gives-then _ _ room (Gave (λ (ps : List Param). bracketed (separated C.param ps))
      (AllByRecursion SmallParam)) _ (gives-params room) (λ params r1 n x.
      gives-then _ _ r1 (λ gives left n. Short (result_items (is_some gives)) n) _ (gives-result r1)
      (λ gives r2 m y.
      word-then (as_symbol S.Is) _ r2 _ false (λ is w2 k2.
      gives-then _ _ r2 (Bodied max_nesting) _ (gives-body brackets blocks r2) (λ ss r3 j z.
      word-then (as_symbol S.End) _ r3 _ false (λ e w3 k3.
      gives-only _ r3 _ (record {
        short = (let q : Proc Name = record
            { name = name; params = params; gives = is_some gives; form = F.Total ss } in
            short-more _ (suc (suc (n + m) + 1) + j + 1) _ (omega arith)
            (short-append _ (line 1 (symbol S.End ∷ [])) (suc (suc (n + m) + 1) + j) 1
            (short-append _ (body ss 2) (suc (suc (n + m) + 1)) j
            (short-line 1 _ _ (short-cons (Fixed S.Total) _ _ tt
            (short-append (method_head q) (Space ∷ symbol S.Is ∷ []) (suc (n + m)) 1
            (head-short q n m (name-good name w) x.short y) (short-space _ 1 (one S.Is)))))
            (z.short 2)) (end-short 1)));
        is = record { params = x.is; form = z.kept };
      }))))))))

  gives-partial : (room : ℕ) → Gives (IsPartial brackets blocks) room (Gave procedure FineProcedure)
  unfolding IsPartial
  gives-partial room = word-then (as_symbol S.Partial) _ room _ false (λ l w0 k0.
      word-then as_name _ room _ false (λ name w k.
      gives-then _ _ room (Gave (λ (ps : List Param). bracketed (separated C.param ps))
      (AllByRecursion SmallParam)) _ (gives-params room) (λ params r1 n x.
      gives-then _ _ r1 (λ gives left n. Short (result_items (is_some gives)) n) _ (gives-result r1)
      (λ gives r2 m y.
      gives-then _ _ r2 (Gave in_row Alternatives) _ (gives-alternatives brackets blocks r2) (λ as_ r3 j z.
      word-then (as_symbol S.End) _ r3 _ false (λ e w3 k3.
      gives-only _ r3 _ (record {
        short = (let q : Proc Name = record
            { name = name; params = params; gives = is_some gives; form = F.Partial as_ } in
            short-more _ (suc (suc (n + m)) + j + 1) _ (omega arith)
            (short-append _ (line 1 (symbol S.End ∷ [])) (suc (suc (n + m)) + j) 1
            (short-append _ (in_row as_) (suc (suc (n + m))) j
            (short-line 1 _ _ (short-cons (Fixed S.Partial) _ _ tt
            (head-short q n m (name-good name w) x.short y)))
            z.short) (end-short 1)));
        is = record { params = x.is; form = z.is };
      })))))))

  gives-action : (room : ℕ) → Gives (IsAction brackets blocks) room (Gave procedure FineProcedure)
  unfolding IsAction
  gives-action room = word-then (as_symbol S.Action) _ room _ false (λ l w0 k0.
      word-then as_name _ room _ false (λ name w k.
      gives-then _ _ room (Gave in_row Alternatives) _ (gives-alternatives brackets blocks room)
      (λ as_ r3 j z.
      word-then (as_symbol S.End) _ r3 _ false (λ e w3 k3.
      gives-only _ r3 _ (record {
        short = short-more _ (2 + j + 1) _ (omega arith)
            (short-append _ (line 1 (symbol S.End ∷ [])) (2 + j) 1
            (short-append _ (in_row as_) 2 j
            (short-line 1 _ _ (short-cons (Fixed S.Action) _ 1 tt
            (short-space _ 1 (short-cons (Named name.text) [] 0 (name-good name w) short-none))))
            z.short) (end-short 1));
        is = record { params = tt; form = (refl, refl, z.is) };
      })))))

  gives-procedure : (room : ℕ) → Gives (IsProcedure brackets blocks) room (Gave procedure FineProcedure)
  unfolding IsProcedure
  gives-procedure room = gives-either _ _ room _ (gives-total room)
      (gives-either _ _ room _ (gives-partial room) (gives-action room))

gives-given : (room : ℕ) → Gives IsGiven room (Gave C.given Always)
unfolding IsGiven
gives-given room = word-then as_name _ room _ false (λ name w k.
    word-then (as_symbol S.Colon) _ room _ false (λ colon w2 k2.
    word-then as_name _ room _ false (λ cat_ v k3.
    gives-only _ room _ (record {
      short = short-cons (Named name.text) _ _ (name-good name w)
          (short-space _ _ (short-cons (Fixed S.Colon) _ _ tt (short-space _ _
          (short-cons (Named cat_.text) [] 0 (name-good cat_ v) short-none))));
      is = tt;
    }))))

depth-good : (z : ℤ) → IsWithinLimit (Number z) → IsWithinLimit (Number (pos (nat_abs z)))
depth-good (pos n) good = good
depth-good (negsuc n) good = absurd good

gives-hint : (room : ℕ) → Gives IsHint room (Gave hint Always)
unfolding IsHint
gives-hint room = word-then (as_one_of side) _ room _ false (λ end_ w0 k0.
    word-then as_name _ room _ false (λ name w k.
    word-then as_numeral _ room _ false (λ depth v k2.
    gives-only _ room _ (record {
      short = short-space _ _
          (short-cons (Fixed (side_symbol end_.is)) _ _ tt
          (short-space _ _ (short-cons (Named name.text) _ _ (name-good name w) (short-space _ _
          (short-cons (Number (pos (nat_abs depth.value))) [] 0
          (depth-good depth.value (numeral-good depth v)) short-none)))));
      is = tt;
    }))))

gives-semi : (room : ℕ) → Gives IsSemi room (Gave semi Always)
unfolding IsSemi
gives-semi room = word-then (as_symbol S.Semi) _ room _ false (λ l w0 k0.
    word-then as_name _ room _ false (λ first w k.
    word-then (as_symbol S.Comma) _ room _ false (λ comma w2 k2.
    word-then as_name _ room _ false (λ second v k3.
    gives-then _ _ room (Gave (λ (hs : List (Hint Name)). flat_map hint hs) (AllByRecursion Always)) _
    (gives-row IsHint hint Always gives-hint room) (λ hints left n x.
    gives-only _ left _ (record {
      short = short-line 1 _ _
          (short-cons (Fixed S.Semi) _ _ tt
          (short-space _ _ (short-cons (Named first.text) _ _ (name-good first w)
          (short-cons (Fixed S.Comma) _ _ tt
          (short-space _ _ (short-cons (Named second.text) _ _ (name-good second v)
          (short-more _ n (n + 0) (omega arith) x.short)))))));
      is = tt;
    }))))))

gives-box-name : (room : ℕ) → Gives IsName room (Gave box_name Always)
gives-box-name room = record {
  of = λ a pieces left d fine. let x = (gives-name room).of a pieces left d fine in
      record { short = x.short; is = tt };
}

gives-box : (room : ℕ) → Gives IsBox room (Gave box Always)
unfolding IsBox
gives-box room = word-then (as_symbol S.Box) _ room _ false (λ l w0 k0.
    word-then as_name _ room _ false (λ name w k.
    word-then (as_symbol S.Colon) _ room _ false (λ colon w2 k2.
    word-then as_name _ room _ false (λ cat_ v k3.
    gives-then _ _ room (Gave (perhaps_bracketed box_name) (AllByRecursion Always)) _
    (gives-perhaps-group IsName box_name Always gives-box-name room) (λ names left n x.
    gives-only _ left _ (record {
      short = short-line 0 _ _
          (short-cons (Fixed S.Box) _ _ tt
          (short-space _ _ (short-cons (Named name.text) _ _ (name-good name w)
          (short-space _ _ (short-cons (Fixed S.Colon) _ _ tt
          (short-space _ _ (short-cons (Named cat_.text) _ _ (name-good cat_ v)
          (short-more _ n (n + 0) (omega arith) x.short))))))));
      is = tt;
    }))))))

-- what is known of a cat
pub record FineCat (c : Cat Name) : Type 0 where
  pub vars : AllByRecursion IsFineVariable c.vars
  pub procs : AllByRecursion FineProcedure c.procs

module _ (brackets blocks : ℕ) where
  gives-cat : (room : ℕ) → Gives (IsCat brackets blocks) room (Gave cat FineCat)
  unfolding IsCat
  gives-cat room = word-then (as_symbol S.Cat) _ room _ false (λ l w0 k0.
      word-then as_name _ room _ false (λ name w k.
      gives-then _ _ room (Gave (perhaps_bracketed C.given) (AllByRecursion Always)) _
      (gives-perhaps-group IsGiven C.given Always gives-given room) (λ given_ r1 n x.
      gives-then _ _ r1 (Gave (λ (vs : List Var). flat_map variable vs) (AllByRecursion IsFineVariable)) _
      (gives-row IsVariable variable IsFineVariable gives-variable r1) (λ vars r2 m y.
      gives-then _ _ r2 (Gave (λ (qs : List (Proc Name)). flat_map procedure qs)
      (AllByRecursion FineProcedure)) _
      (gives-row (IsProcedure brackets blocks) procedure FineProcedure (gives-procedure brackets blocks) r2)
      (λ procs r3 j z.
      gives-then _ _ r3 (Gave (λ (ss : List (Semi Name)). flat_map semi ss) (AllByRecursion Always)) _
      (gives-row IsSemi semi Always gives-semi r3) (λ semis r4 i u.
      word-then (as_symbol S.End) _ r4 _ false (λ e w3 k3.
      gives-only _ r4 _ (record {
        short = short-more _ (suc (suc n) + m + j + i + 1) _ (omega arith)
            (short-append _ (line 0 (symbol S.End ∷ [])) (suc (suc n) + m + j + i) 1
            (short-append _ (flat_map semi semis) (suc (suc n) + m + j) i
            (short-append _ (flat_map procedure procs) (suc (suc n) + m) j
            (short-append _ (flat_map variable vars) (suc (suc n)) m
            (short-line 0 _ _ (short-cons (Fixed S.Cat) _ _ tt
            (short-space _ _ (short-cons (Named name.text) _ _ (name-good name w) x.short))))
            y.short) z.short) u.short) (end-short 0));
        is = record { vars = y.is; procs = z.is };
      }))))))))

  pub gives-program : (room : ℕ) → Gives (IsProgram brackets blocks) room
      (Gave program (λ (t : Tree). AllByRecursion FineCat t.cats))
  unfolding IsProgram
  gives-program room = word-then (as_symbol S.Seuss) _ room _ false (λ l w0 k0.
      word-then as_version _ room _ false (λ v w k.
      gives-then _ _ room (Gave (λ (cs : List (Cat Name)). flat_map cat cs) (AllByRecursion FineCat)) _
      (gives-row (IsCat brackets blocks) cat FineCat gives-cat room) (λ cats r1 n x.
      gives-then _ _ r1 (Gave (λ (bs : List BoxDecl). flat_map box bs) (AllByRecursion Always)) _
      (gives-row IsBox box Always gives-box r1) (λ boxes r2 m y.
      gives-only _ r2 _ (record {
        short = short-more _ (2 + n + m) _ (omega arith)
            (short-append _ (flat_map box boxes) (2 + n) m
            (short-append _ (flat_map cat cats) 2 n
            (short-line 0 _ 2 (short-cons (Fixed S.Seuss) _ 1 tt
            (short-space _ 1 (short-cons (Number (pos 1)) [] 0 (omega arith) short-none)))) x.short)
            y.short);
        is = x.is;
      })))))
