-- Sets of variables as numbers: the bit of value 2 ^ v says that variable v is in the set.
use Rattle.std.specs.Prelude.{ℕ, ◌^◌, nat_lt, Bool, true, false, if◌then◌else◌, List, [], ◌∷◌, Option, None}
use Rattle.std.specs.Prelude.{Some, is_some, not, ◌||◌, bit_or}
use Rattle.std.specs.List.{list_any}
use Rattle.seuss_program.specs.declared.tree.Ref.{Ref}
use Rattle.seuss_program.specs.declared.tree.Ref.TheVariants as R
use Rattle.seuss_program.specs.declared.tree.Node.TheOpen as N
use Rattle.seuss_program.specs.declared.tree.Node.TheOpen.{Node-F}
use Rattle.seuss_program.specs.declared.tree.Expr.{Expr, fold-Expr}
use Rattle.method_code.specs.declared.instruction.CallCode.{CallCode}
use Rattle.method_code.specs.declared.instruction.Instruction.{Instruction}
use Rattle.method_code.specs.declared.instruction.Instruction.TheVariants as I
use Rattle.method_code.specs.declared.method.Entry.{Entry}
use Rattle.method_code.specs.declared.method.Entry.TheVariants as E
use Rattle.method_code.specs.declared.method.Head.{Head}
use Rattle.method_code.specs.declared.method.Method.{Method}
use Rattle.effect_sets.specs.declared.sets.Effects.{Effects}

-- the set of one variable
abbrev pub bit : ℕ → ℕ
bit number = if nat_lt number 32 then 2 ^ number else 0

abbrev pub name_mask : Ref → ℕ
name_mask (R.Var number) = bit number
name_mask (R.Slot number) = 0
name_mask (R.Given number) = 0
name_mask (R.Method number) = 0
name_mask (R.Cat number) = 0

abbrev pub bound_mask : Option Ref → ℕ
bound_mask None = 0
bound_mask (Some name) = name_mask name

-- the variables in an expression
abbrev pub node_mask : Node-F Ref ℕ ℕ → ℕ
node_mask (N.Int z) = 0
node_mask (N.Bool b) = 0
node_mask N.Empty = 0
node_mask (N.Name name) = name_mask name
node_mask (N.Neg e) = e
node_mask (N.Not e) = e
node_mask (N.Two op l r) = bit_or l r
node_mask (N.One fun e) = e

unfoldable pub mask : Expr Ref → ℕ
mask e = fold-Expr Ref ℕ ℕ node_mask (λ layer. layer.node) e

-- a set, and the variables in expressions
abbrev pub add_masks : ℕ → List (Expr Ref) → ℕ
add_masks set [] = set
add_masks set (e ∷ es) = add_masks (bit_or set (mask e)) es

-- the variables that an instruction reads, and those that it writes
abbrev pub read_mask : Instruction → ℕ
read_mask (I.Set name e) = mask e
read_mask (I.SkipUnless cond many) = mask cond
read_mask (I.Skip many) = 0
read_mask (I.Again cond many) = mask cond
read_mask (I.Call call) = add_masks 0 call.args
read_mask (I.Take name) = 0
read_mask I.Return = 0
read_mask I.Reject = 0

abbrev pub written_mask : Instruction → ℕ
written_mask (I.Set name e) = name_mask name
written_mask (I.SkipUnless cond many) = 0
written_mask (I.Skip many) = 0
written_mask (I.Again cond many) = 0
written_mask (I.Call call) = 0
written_mask (I.Take name) = bound_mask name
written_mask I.Return = 0
written_mask I.Reject = 0

-- a set, and the variables that instructions read or write
abbrev pub add_read : ℕ → List Instruction → ℕ
add_read set [] = set
add_read set (i ∷ is) = add_read (bit_or set (read_mask i)) is

abbrev pub add_written : ℕ → List Instruction → ℕ
add_written set [] = set
add_written set (i ∷ is) = add_written (bit_or set (written_mask i)) is

-- a set, and the variables in the preconditions of alternatives and in the arguments of their preprocedures
abbrev pub early_mask : Option CallCode → ℕ
early_mask None = 0
early_mask (Some call) = add_masks 0 call.args

abbrev pub head_mask : Head → ℕ
head_mask h = bit_or (mask h.cond) (early_mask h.early)

abbrev pub add_tested : ℕ → List Head → ℕ
add_tested set [] = set
add_tested set (h ∷ hs) = add_tested (bit_or set (head_mask h)) hs

abbrev pub tested_mask : Entry → ℕ
tested_mask E.Total = 0
tested_mask (E.Partial heads) = add_tested 0 heads

-- whether an instruction calls, and whether one ends a loop
abbrev pub is_call : Instruction → Bool
is_call (I.Set name e) = false
is_call (I.SkipUnless cond many) = false
is_call (I.Skip many) = false
is_call (I.Again cond many) = false
is_call (I.Call call) = true
is_call (I.Take name) = false
is_call I.Return = false
is_call I.Reject = false

abbrev pub is_again : Instruction → Bool
is_again (I.Set name e) = false
is_again (I.SkipUnless cond many) = false
is_again (I.Skip many) = false
is_again (I.Again cond many) = true
is_again (I.Call call) = false
is_again (I.Take name) = false
is_again I.Return = false
is_again I.Reject = false

-- whether an alternative has a preprocedure
abbrev pub is_early : Head → Bool
is_early h = is_some h.early

abbrev pub calls_first : Entry → Bool
calls_first E.Total = false
calls_first (E.Partial heads) = list_any is_early heads

-- the effects of code
abbrev pub code_effects : Method → Effects
code_effects m = record {
  tests = tested_mask m.entry;
  reads = bit_or (tested_mask m.entry) (add_read 0 m.instructions);
  writes = add_written 0 m.instructions;
  has_early = calls_first m.entry;
  has_late = calls_first m.entry || list_any is_call m.instructions;
  single = not ((calls_first m.entry || list_any is_call m.instructions)
      || list_any is_again m.instructions);
}
