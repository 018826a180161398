-- The value of an expression, from left to right, or the trap that stops it. A checked program meets
-- no value of a wrong kind; elsewhere such a value stands for 0, for false or for the empty sequence.
use Rattle.std.specs.Prelude.{◌-◌, ◌^◌, nat_lt, ℤ, pos, negsuc, neg_ℤ, ◌+ℤ◌, ◌-ℤ◌, ◌*ℤ◌, int_lt, int_le}
use Rattle.std.specs.Prelude.{int_div, int_rem, Bool, true, false, ◌&&◌, ◌||◌, not, if◌then◌else◌, List, []}
use Rattle.std.specs.Prelude.{◌∷◌, ◌++◌, length, take, drop, slice_index_or, slice_get, Option, None, Some}
use Rattle.std.specs.Prelude.{Result, Ok, Err, All, IsTrue}
use Rattle.std.specs.Int.{w64, int_wrap}
use Rattle.std.specs.Ordering.{int_eq}
use Rattle.seuss_base.specs.declared.outcome.Trap.{Trap}
use Rattle.seuss_base.specs.declared.outcome.Trap.TheVariants.{Overflow, ZeroDivisor, EmptySequence}
use Rattle.seuss_base.specs.declared.outcome.Trap.TheVariants.{OutOfRange}
use Rattle.seuss_program.specs.declared.state.Value.{Value}
use Rattle.seuss_program.specs.declared.state.Value.TheVariants as V
use Rattle.seuss_program.specs.declared.tree.Ref.{Ref}
use Rattle.seuss_program.specs.declared.tree.Ref.TheVariants as R
use Rattle.seuss_program.specs.declared.tree.Op.{Op}
use Rattle.seuss_program.specs.declared.tree.Op.TheVariants as O
use Rattle.seuss_program.specs.declared.tree.Fun.{Fun}
use Rattle.seuss_program.specs.declared.tree.Fun.TheVariants as F
use Rattle.seuss_program.specs.declared.tree.Node.TheOpen as N
use Rattle.seuss_program.specs.declared.tree.Node.TheOpen.{Node-F, Expr-F}
use Rattle.seuss_program.specs.declared.tree.Expr.{Expr, fold-Expr}

-- the number that a value is; a value of another kind stands for 0
abbrev pub int_of : Value → ℤ
int_of (V.Int z) = z
int_of (V.Bool b) = pos 0
int_of (V.Seq zs) = pos 0

-- the bool that a value is; a value of another kind stands for false
abbrev pub bool_of : Value → Bool
bool_of (V.Int z) = false
bool_of (V.Bool b) = b
bool_of (V.Seq zs) = false

-- the sequence that a value is; a value of another kind stands for the empty one
abbrev pub seq_of : Value → List ℤ
seq_of (V.Int z) = []
seq_of (V.Bool b) = []
seq_of (V.Seq zs) = zs

-- whether a number has 64 bits, with its sign
abbrev pub fits : ℤ → Bool
fits (pos n) = nat_lt n (2 ^ 63)
fits (negsuc n) = nat_lt n (2 ^ 63)

-- every number of a value has 64 bits
abbrev pub HasSize : Value → Type 0
HasSize (V.Int z) = IsTrue (fits z)
HasSize (V.Bool b) = Unit {0}
HasSize (V.Seq zs) = All (λ z. IsTrue (fits z)) zs

-- a value, or the trap that stopped its evaluation
abbrev pub Evaluated : Type 0
Evaluated = Result Value Trap

-- the exact number where it has 64 bits
abbrev pub exact : ℤ → Evaluated
exact z = if fits z then Ok (V.Int z) else Err Overflow

-- the number modulo 2 ^ 64, in the signed range
abbrev pub wrapped : ℤ → Evaluated
wrapped z = Ok (V.Int (int_wrap w64 z))

-- division, which truncates toward zero
abbrev pub quotient : ℤ → ℤ → Evaluated
quotient x y = if int_eq y (pos 0) then Err ZeroDivisor else exact (int_div x y)

-- the remainder of a division, with the sign of the dividend
abbrev pub remainder : ℤ → ℤ → Evaluated
remainder x y =
    if int_eq y (pos 0) then Err ZeroDivisor
    else (if fits (int_div x y) then Ok (V.Int (int_rem x y)) else Err Overflow)

-- an element that is there, or a trap
abbrev pub found : Option ℤ → Evaluated
found None = Err OutOfRange
found (Some z) = Ok (V.Int z)

-- the element at a place, counted from 0
abbrev pub element : List ℤ → ℤ → Evaluated
element zs (pos n) = found (slice_get zs n)
element zs (negsuc n) = Err OutOfRange

-- whether two numbers, or two bools, are the same
abbrev pub same : Value → Value → Bool
same (V.Int x) (V.Int y) = int_eq x y
same (V.Bool a) (V.Bool b) = (a && b) || (not a && not b)
same (V.Int x) (V.Bool b) = false
same (V.Int x) (V.Seq ys) = false
same (V.Bool a) (V.Int y) = false
same (V.Bool a) (V.Seq ys) = false
same (V.Seq xs) y = false

-- an operator or a function of two values
abbrev pub apply : Op → Value → Value → Evaluated
apply O.Or x y = Ok (V.Bool (bool_of x || bool_of y))
apply O.And x y = Ok (V.Bool (bool_of x && bool_of y))
apply O.Eq x y = Ok (V.Bool (same x y))
apply O.Ne x y = Ok (V.Bool (not (same x y)))
apply O.Lt x y = Ok (V.Bool (int_lt (int_of x) (int_of y)))
apply O.Le x y = Ok (V.Bool (int_le (int_of x) (int_of y)))
apply O.Gt x y = Ok (V.Bool (int_lt (int_of y) (int_of x)))
apply O.Ge x y = Ok (V.Bool (int_le (int_of y) (int_of x)))
apply O.Plus x y = exact (int_of x +ℤ int_of y)
apply O.Minus x y = exact (int_of x -ℤ int_of y)
apply O.WrapPlus x y = wrapped (int_of x +ℤ int_of y)
apply O.WrapMinus x y = wrapped (int_of x -ℤ int_of y)
apply O.Times x y = exact (int_of x *ℤ int_of y)
apply O.Divide x y = quotient (int_of x) (int_of y)
apply O.Remainder x y = remainder (int_of x) (int_of y)
apply O.At x y = element (seq_of x) (int_of y)
apply O.Add x y = Ok (V.Seq (seq_of x ++ int_of y ∷ []))

-- a value that is taken from a sequence, which may not be empty
abbrev pub of_some : List ℤ → Value → Evaluated
of_some [] v = Err EmptySequence
of_some (z ∷ zs) v = Ok v

-- what a function of a sequence gives
abbrev pub measure : Fun → List ℤ → Evaluated
measure F.First zs = of_some zs (V.Int (slice_index_or zs 0 (pos 0)))
measure F.Last zs = of_some zs (V.Int (slice_index_or zs (length zs - 1) (pos 0)))
measure F.Rest zs = of_some zs (V.Seq (drop 1 zs))
measure F.Front zs = of_some zs (V.Seq (take (length zs - 1) zs))
measure F.Len zs = wrapped (pos (length zs))

-- What a name stands for: a variable of the box or a slot of the procedure.
abbrev pub named : Ref → List Value → List Value → Value
named (R.Var at) vars slots = slice_index_or vars at (V.Int (pos 0))
named (R.Slot at) vars slots = slice_index_or slots at (V.Int (pos 0))
named (R.Given at) vars slots = V.Int (pos 0)
named (R.Method at) vars slots = V.Int (pos 0)
named (R.Cat at) vars slots = V.Int (pos 0)

-- the second step of an evaluation, where the first one has a value
abbrev pub and_then : Evaluated → (Value → Evaluated) → Evaluated
and_then (Err t) f = Err t
and_then (Ok v) f = f v

-- A part of an expression, by the variables of the box and the slots of the procedure. A literal is a
-- number in digits, with or without a minus before it. Beside a literal, in a comparison, a length
-- counts exactly; in every other place it is reduced to 64 bits.
pub record Part : Type 0 where
  pub digits : Bool
  pub literal : Bool
  pub value : List Value → List Value → Evaluated
  pub beside : List Value → List Value → Evaluated

-- a part whose value is the same in every place
abbrev pub plain : (List Value → List Value → Evaluated) → Part
plain value = record { digits = false; literal = false; value = value; beside = value }

-- whether an operator compares
abbrev pub is_comparison : Op → Bool
is_comparison O.Eq = true
is_comparison O.Ne = true
is_comparison O.Lt = true
is_comparison O.Le = true
is_comparison O.Gt = true
is_comparison O.Ge = true
is_comparison O.Or = false
is_comparison O.And = false
is_comparison O.Plus = false
is_comparison O.Minus = false
is_comparison O.WrapPlus = false
is_comparison O.WrapMinus = false
is_comparison O.Times = false
is_comparison O.Divide = false
is_comparison O.Remainder = false
is_comparison O.At = false
is_comparison O.Add = false

-- the value of a part that stands next to another one under an operator
abbrev pub next_to : Op → Part → Part → List Value → List Value → Evaluated
next_to op part other = if is_comparison op && other.literal then part.beside else part.value

-- two parts under an operator; the second one of `or` and `and` is needed only where the first one
-- doesn't decide
abbrev pub both : Op → Part → Part → List Value → List Value → Evaluated
both O.Or l r vars slots = and_then (l.value vars slots) (λ x.
    if bool_of x then Ok (V.Bool true) else and_then (r.value vars slots) (λ y. Ok (V.Bool (bool_of y))))
both O.And l r vars slots = and_then (l.value vars slots) (λ x.
    if bool_of x then and_then (r.value vars slots) (λ y. Ok (V.Bool (bool_of y))) else Ok (V.Bool false))
both op l r vars slots = and_then (next_to op l r vars slots)
    (λ x. and_then (next_to op r l vars slots) (apply op x))

-- the length itself
abbrev pub exact_length : Fun → List ℤ → Evaluated
exact_length F.Len zs = Ok (V.Int (pos (length zs)))
exact_length F.First zs = measure F.First zs
exact_length F.Last zs = measure F.Last zs
exact_length F.Rest zs = measure F.Rest zs
exact_length F.Front zs = measure F.Front zs

-- a minus before a part
abbrev pub negated : Part → Part
negated p = record {
  digits = false;
  literal = p.digits;
  value = λ vars slots. and_then (p.value vars slots) (λ v. exact (neg_ℤ (int_of v)));
  beside = λ vars slots. and_then (p.value vars slots) (λ v. exact (neg_ℤ (int_of v)));
}

-- what one node means, by its parts
abbrev pub node_part : Node-F Ref Part Part → Part
node_part (N.Int z) = record {
  digits = true;
  literal = true;
  value = λ vars slots. Ok (V.Int z);
  beside = λ vars slots. Ok (V.Int z);
}
node_part (N.Bool b) = plain (λ vars slots. Ok (V.Bool b))
node_part N.Empty = plain (λ vars slots. Ok (V.Seq []))
node_part (N.Name name) = plain (λ vars slots. Ok (named name vars slots))
node_part (N.Neg e) = negated e
node_part (N.Not e) = plain
    (λ vars slots. and_then (e.value vars slots) (λ v. Ok (V.Bool (not (bool_of v)))))
node_part (N.Two op l r) = plain (both op l r)
node_part (N.One fun e) = record {
  digits = false;
  literal = false;
  value = λ vars slots. and_then (e.value vars slots) (λ v. measure fun (seq_of v));
  beside = λ vars slots. and_then (e.value vars slots) (λ v. exact_length fun (seq_of v));
}

-- what an expression means
unfoldable pub part_of : Expr Ref → Part
part_of e = fold-Expr Ref Part Part node_part (λ layer. layer.node) e

-- the value of an expression, by the variables of the box and the slots of the procedure
abbrev pub value : Expr Ref → List Value → List Value → Evaluated
value e vars slots = (part_of e).value vars slots
