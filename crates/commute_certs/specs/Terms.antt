-- What an expression comes to in a case, where each variable and each slot is a symbol: a symbol again, or
-- why that can't be told. Only what is met counts: the right side of `and` and `or` where it is needed.
use Rattle.std.specs.Prelude.{ℤ, pos, neg_ℤ, ◌+◌, int_lt, int_le, Bool, false, ◌&&◌, ◌||◌, not}
use Rattle.std.specs.Prelude.{if◌then◌else◌, List, [], length, slice_index_or, Option, None, Some, Result}
use Rattle.std.specs.Prelude.{Ok, Err}
use Rattle.std.specs.Ordering.{int_eq}
use Rattle.seuss_program.specs.declared.tree.Ref.{Ref}
use Rattle.seuss_program.specs.declared.tree.Ref.TheVariants as R
use Rattle.seuss_program.specs.declared.tree.Op.{Op}
use Rattle.seuss_program.specs.declared.tree.Op.TheVariants as O
use Rattle.seuss_program.specs.declared.tree.Fun.{Fun}
use Rattle.seuss_program.specs.declared.tree.Fun.TheVariants as F
use Rattle.seuss_program.specs.declared.tree.Node.TheOpen as N
use Rattle.seuss_program.specs.declared.tree.Node.TheOpen.{Node-F}
use Rattle.seuss_program.specs.declared.tree.Expr.{Expr, fold-Expr}
use Rattle.seuss_program.specs.Values.{fits}
use Rattle.shape_terms.specs.declared.num_form.NumForm.{NumForm}
use Rattle.shape_terms.specs.declared.shape.Shape.{Shape}
use Rattle.shape_terms.specs.declared.shape.Shape.TheVariants as Q
use Rattle.shape_terms.specs.declared.symbol.Symbol.{Symbol}
use Rattle.shape_terms.specs.declared.symbol.Symbol.TheVariants as Y
use Rattle.shape_terms.specs.declared.refusal.FormRefusal.{FormRefusal}
use Rattle.shape_terms.specs.declared.refusal.FormRefusal.TheVariants as X
use Rattle.shape_terms.specs.Numbers.{literal, literal_of, plus, minus}
use Rattle.shape_terms.specs.Sequences.{first, last, rest, front, at_literal, add, len}
use Rattle.commute_certs.specs.declared.why.Reason.{Reason}
use Rattle.commute_certs.specs.declared.why.Reason.TheVariants as W
use Rattle.commute_certs.specs.declared.part.Part.{Part}
use Rattle.commute_certs.specs.declared.part.Part.TheVariants as P

-- a symbol, or why it can't be told
abbrev pub Told : Type 0
Told = Result Symbol Reason

-- the number that a symbol is; a symbol of another kind stands for 0, as a value does
abbrev pub number_in : Symbol → NumForm
number_in (Y.Number form) = form
number_in (Y.Truth b) = literal (pos 0)
number_in (Y.Untold v) = literal (pos 0)
number_in (Y.Sequence shape) = literal (pos 0)

-- the sequence that a symbol is; a symbol of another kind stands for the empty one, as a value does
abbrev pub shape_in : Symbol → Shape
shape_in (Y.Number form) = Q.Exact []
shape_in (Y.Truth b) = Q.Exact []
shape_in (Y.Untold v) = Q.Exact []
shape_in (Y.Sequence shape) = shape

-- the truth that a symbol is, where it is told; a symbol of another kind stands for false, as a value
-- does
abbrev pub truth_in : Symbol → Result Bool Reason
truth_in (Y.Number form) = Ok false
truth_in (Y.Truth b) = Ok b
truth_in (Y.Untold v) = Err W.UndecidedCondition
truth_in (Y.Sequence shape) = Ok false

-- the second step, where the first one is told
abbrev pub and_then : {A B : Type 0} → Result A Reason → (A → Result B Reason) → Result B Reason
and_then (Err why) f = Err why
and_then (Ok x) f = f x

-- the symbol that a part is
abbrev pub symbol_of : Part → Symbol
symbol_of (P.Digits z) = Y.Number (literal z)
symbol_of (P.Minus z) = Y.Number (literal z)
symbol_of (P.Length shape) = Y.Number (len shape)
symbol_of (P.Other s) = s

-- a symbol as a part, where it is told
abbrev pub other : Told → Result Part Reason
other (Ok s) = Ok (P.Other s)
other (Err why) = Err why

-- a truth as a part, where it is told
abbrev pub truth : Result Bool Reason → Result Part Reason
truth (Ok b) = Ok (P.Other (Y.Truth b))
truth (Err why) = Err why

-- why a call that takes from a sequence isn't told
abbrev pub refused : FormRefusal → Reason
refused X.MayBeEmpty = W.MayTrap
refused X.NotShown = W.NotShown
refused X.Memory = W.MayTrap

-- a number that is taken from a sequence, as a part
abbrev pub number_part : Result NumForm FormRefusal → Result Part Reason
number_part (Ok form) = Ok (P.Other (Y.Number form))
number_part (Err refusal) = Err (refused refusal)

-- a sequence that is taken from a sequence, as a part
abbrev pub shape_part : Result Shape FormRefusal → Result Part Reason
shape_part (Ok shape) = Ok (P.Other (Y.Sequence shape))
shape_part (Err refusal) = Err (refused refusal)

-- how two numbers compare
abbrev pub compared : Op → ℤ → ℤ → Bool
compared O.Eq x y = int_eq x y
compared O.Ne x y = not (int_eq x y)
compared O.Lt x y = int_lt x y
compared O.Le x y = int_le x y
compared O.Gt x y = int_lt y x
compared O.Ge x y = int_le y x
compared O.Or x y = false
compared O.And x y = false
compared O.Plus x y = false
compared O.Minus x y = false
compared O.WrapPlus x y = false
compared O.WrapMinus x y = false
compared O.Times x y = false
compared O.Divide x y = false
compared O.Remainder x y = false
compared O.At x y = false
compared O.Add x y = false

-- how a number above the other one compares with it
abbrev pub above : Op → Bool
above op = compared op (pos 1) (pos 0)

-- Whether all numbers from a least one on compare alike with a number: those above it do, and the number
-- itself does as they do for `<` and `>=`.
abbrev pub are_alike : Op → ℤ → ℤ → Bool
are_alike O.Lt least z = int_le z least
are_alike O.Ge least z = int_le z least
are_alike O.Eq least z = int_lt z least
are_alike O.Ne least z = int_lt z least
are_alike O.Le least z = int_lt z least
are_alike O.Gt least z = int_lt z least
are_alike O.Or least z = false
are_alike O.And least z = false
are_alike O.Plus least z = false
are_alike O.Minus least z = false
are_alike O.WrapPlus least z = false
are_alike O.WrapMinus least z = false
are_alike O.Times least z = false
are_alike O.Divide least z = false
are_alike O.Remainder least z = false
are_alike O.At least z = false
are_alike O.Add least z = false

-- how all lengths of a form compare with a number, where they compare alike
abbrev pub length_compared : Op → Shape → ℤ → Result Bool Reason
length_compared op (Q.Exact xs) z = Ok (compared op (pos (length xs)) z)
length_compared op (Q.Long xs r ys) z =
    if are_alike op (pos (length xs + length ys)) z then Ok (above op) else Err W.UndecidedCondition

-- the comparison read from the right
abbrev pub turned : Op → Op
turned O.Lt = O.Gt
turned O.Le = O.Ge
turned O.Gt = O.Lt
turned O.Ge = O.Le
turned O.Eq = O.Eq
turned O.Ne = O.Ne
turned O.Or = O.Or
turned O.And = O.And
turned O.Plus = O.Plus
turned O.Minus = O.Minus
turned O.WrapPlus = O.WrapPlus
turned O.WrapMinus = O.WrapMinus
turned O.Times = O.Times
turned O.Divide = O.Divide
turned O.Remainder = O.Remainder
turned O.At = O.At
turned O.Add = O.Add

-- whether two numbers are the same, by what their difference is where it is a number
abbrev pub no_difference : Option ℤ → Result Bool Reason
no_difference None = Err W.UndecidedCondition
no_difference (Some z) = Ok (int_eq z (pos 0))

-- whether two symbols are the same number, or the same bool
abbrev pub same_symbols : Symbol → Symbol → Result Bool Reason
same_symbols (Y.Number a) (Y.Number b) = no_difference (literal_of (minus a b))
same_symbols (Y.Number a) (Y.Truth b) = Ok false
same_symbols (Y.Number a) (Y.Untold v) = Err W.UndecidedCondition
same_symbols (Y.Number a) (Y.Sequence s) = Ok false
same_symbols (Y.Truth a) (Y.Number b) = Ok false
same_symbols (Y.Truth a) (Y.Truth b) = Ok ((a && b) || (not a && not b))
same_symbols (Y.Truth a) (Y.Untold v) = Err W.UndecidedCondition
same_symbols (Y.Truth a) (Y.Sequence s) = Ok false
same_symbols (Y.Untold v) s = Err W.UndecidedCondition
same_symbols (Y.Sequence shape) (Y.Number b) = Ok false
same_symbols (Y.Sequence shape) (Y.Truth b) = Ok false
same_symbols (Y.Sequence shape) (Y.Untold v) = Err W.UndecidedCondition
same_symbols (Y.Sequence shape) (Y.Sequence s) = Ok false

-- the opposite of what is told
abbrev pub opposite : Result Bool Reason → Result Bool Reason
opposite (Ok b) = Ok (not b)
opposite (Err why) = Err why

-- a comparison of two symbols: only `=` and `<>` are decided
abbrev pub symbols_compared : Op → Symbol → Symbol → Result Bool Reason
symbols_compared O.Eq a b = same_symbols a b
symbols_compared O.Ne a b = opposite (same_symbols a b)
symbols_compared O.Lt a b = Err W.UndecidedCondition
symbols_compared O.Le a b = Err W.UndecidedCondition
symbols_compared O.Gt a b = Err W.UndecidedCondition
symbols_compared O.Ge a b = Err W.UndecidedCondition
symbols_compared O.Or a b = Err W.UndecidedCondition
symbols_compared O.And a b = Err W.UndecidedCondition
symbols_compared O.Plus a b = Err W.UndecidedCondition
symbols_compared O.Minus a b = Err W.UndecidedCondition
symbols_compared O.WrapPlus a b = Err W.UndecidedCondition
symbols_compared O.WrapMinus a b = Err W.UndecidedCondition
symbols_compared O.Times a b = Err W.UndecidedCondition
symbols_compared O.Divide a b = Err W.UndecidedCondition
symbols_compared O.Remainder a b = Err W.UndecidedCondition
symbols_compared O.At a b = Err W.UndecidedCondition
symbols_compared O.Add a b = Err W.UndecidedCondition

-- a comparison of a part with a literal after it
abbrev pub before_literal : Op → Part → ℤ → Result Bool Reason
before_literal op (P.Digits x) z = Ok (compared op x z)
before_literal op (P.Minus x) z = Ok (compared op x z)
before_literal op (P.Length shape) z = length_compared op shape z
before_literal op (P.Other s) z = symbols_compared op s (Y.Number (literal z))

-- a comparison of a part with a length after it
abbrev pub before_length : Op → Part → Shape → Result Bool Reason
before_length op (P.Digits x) shape = length_compared (turned op) shape x
before_length op (P.Minus x) shape = length_compared (turned op) shape x
before_length op (P.Length other) shape = symbols_compared op (Y.Number (len other)) (Y.Number (len shape))
before_length op (P.Other s) shape = symbols_compared op s (Y.Number (len shape))

-- a comparison of two parts
abbrev pub parts_compared : Op → Part → Part → Result Bool Reason
parts_compared op a (P.Digits z) = before_literal op a z
parts_compared op a (P.Minus z) = before_literal op a z
parts_compared op a (P.Length shape) = before_length op a shape
parts_compared op a (P.Other s) = symbols_compared op (symbol_of a) s

-- the element of a sequence at an index that is a number
abbrev pub item : Shape → Option ℤ → Result NumForm FormRefusal
item shape None = Err X.MayBeEmpty
item shape (Some z) = if fits z then at_literal shape (Some z) else Err X.MayBeEmpty

-- two parts under an operator, where both are needed
abbrev pub combined : Op → Part → Part → Result Part Reason
combined O.Or a b = truth (truth_in (symbol_of b))
combined O.And a b = truth (truth_in (symbol_of b))
combined O.Eq a b = truth (parts_compared O.Eq a b)
combined O.Ne a b = truth (parts_compared O.Ne a b)
combined O.Lt a b = truth (parts_compared O.Lt a b)
combined O.Le a b = truth (parts_compared O.Le a b)
combined O.Gt a b = truth (parts_compared O.Gt a b)
combined O.Ge a b = truth (parts_compared O.Ge a b)
combined O.Plus a b = Err W.MayTrap
combined O.Minus a b = Err W.MayTrap
combined O.WrapPlus a b = Ok (P.Other (Y.Number (plus (number_in (symbol_of a)) (number_in (symbol_of b)))))
combined O.WrapMinus a b =
    Ok (P.Other (Y.Number (minus (number_in (symbol_of a)) (number_in (symbol_of b)))))
combined O.Times a b = Err W.MayTrap
combined O.Divide a b = Err W.MayTrap
combined O.Remainder a b = Err W.MayTrap
combined O.At a b = number_part (item (shape_in (symbol_of a)) (literal_of (number_in (symbol_of b))))
combined O.Add a b = Ok (P.Other (Y.Sequence (add (shape_in (symbol_of a)) (number_in (symbol_of b)))))

-- whether the left part of an operator decides alone: `or` by true, `and` by false
abbrev pub decides : Op → Part → Result Bool Reason
decides O.Or a = truth_in (symbol_of a)
decides O.And a = opposite (truth_in (symbol_of a))
decides O.Eq a = Ok false
decides O.Ne a = Ok false
decides O.Lt a = Ok false
decides O.Le a = Ok false
decides O.Gt a = Ok false
decides O.Ge a = Ok false
decides O.Plus a = Ok false
decides O.Minus a = Ok false
decides O.WrapPlus a = Ok false
decides O.WrapMinus a = Ok false
decides O.Times a = Ok false
decides O.Divide a = Ok false
decides O.Remainder a = Ok false
decides O.At a = Ok false
decides O.Add a = Ok false

-- a function of a sequence
abbrev pub measured : Fun → Shape → Result Part Reason
measured F.First shape = number_part (first shape)
measured F.Last shape = number_part (last shape)
measured F.Rest shape = shape_part (rest shape)
measured F.Front shape = shape_part (front shape)
measured F.Len shape = Ok (P.Length shape)

-- a minus before a part: before a number in digits it is a literal
abbrev pub negated : Part → Result Part Reason
negated (P.Digits z) = if fits (neg_ℤ z) then Ok (P.Minus (neg_ℤ z)) else Err W.MayTrap
negated (P.Minus z) = Err W.MayTrap
negated (P.Length shape) = Err W.MayTrap
negated (P.Other s) = Err W.MayTrap

-- what a name stands for: a variable of the box or a slot of the procedure
abbrev pub named : Ref → List Symbol → List Symbol → Symbol
named (R.Var number) vars slots = slice_index_or vars number (Y.Number (literal (pos 0)))
named (R.Slot number) vars slots = slice_index_or slots number (Y.Number (literal (pos 0)))
named (R.Given number) vars slots = Y.Number (literal (pos 0))
named (R.Method number) vars slots = Y.Number (literal (pos 0))
named (R.Cat number) vars slots = Y.Number (literal (pos 0))

-- what a part of an expression comes to, by the variables of the box and the slots of the procedure
abbrev pub Meant : Type 0
Meant = List Symbol → List Symbol → Result Part Reason

-- two parts under an operator, from left to right
abbrev pub both : Op → Meant → Meant → Meant
both op l r vars slots = and_then (l vars slots) (λ a. and_then (decides op a) (λ alone.
    if alone then truth (truth_in (symbol_of a)) else and_then (r vars slots) (combined op a)))

-- what one node comes to, by its parts
abbrev pub node_meant : Node-F Ref Meant Meant → Meant
node_meant (N.Int z) vars slots = if fits z then Ok (P.Digits z) else Err W.MayTrap
node_meant (N.Bool b) vars slots = Ok (P.Other (Y.Truth b))
node_meant N.Empty vars slots = Ok (P.Other (Y.Sequence (Q.Exact [])))
node_meant (N.Name name) vars slots = Ok (P.Other (named name vars slots))
node_meant (N.Neg e) vars slots = and_then (e vars slots) negated
node_meant (N.Not e) vars slots = and_then (e vars slots) (λ a. truth (opposite (truth_in (symbol_of a))))
node_meant (N.Two op l r) vars slots = both op l r vars slots
node_meant (N.One fun e) vars slots = and_then (e vars slots) (λ a. measured fun (shape_in (symbol_of a)))

-- what an expression comes to, as a part
unfoldable pub part_of : Expr Ref → Meant
part_of e = fold-Expr Ref Meant Meant node_meant (λ layer. layer.node) e

-- what an expression comes to
abbrev pub told : Expr Ref → List Symbol → List Symbol → Told
told e vars slots = and_then (part_of e vars slots) (λ a. Ok (symbol_of a))
