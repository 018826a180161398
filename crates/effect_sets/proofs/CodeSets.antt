-- The variables that code reads and writes.
use Rattle.std.proofs.Common.{◌≡◌, ℕ, zero, suc, Bool, true, false, ◌||◌, List, [], ◌∷◌, drop, Option, None}
use Rattle.std.proofs.Common.{Some}
use Rattle.std.specs.List.{list_any}
use Rattle.method_code.specs.declared.instruction.CallCode.{CallCode}
use Rattle.method_code.specs.declared.instruction.Instruction.{Instruction}
use Rattle.method_code.specs.declared.instruction.Instruction.TheVariants as I
use Rattle.method_code.specs.declared.method.Entry.{Entry}
use Rattle.method_code.specs.declared.method.Entry.TheVariants as E
use Rattle.method_code.specs.declared.method.Head.{Head}
use Rattle.effect_sets.specs.Effects.{is_variable, binds, mentions, any_mentions}
use Rattle.effect_sets.proofs.Agreeing.{or_right}

-- whether an instruction reads a variable
abbrev pub instruction_reads : ℕ → Instruction → Bool
instruction_reads v (I.Set name e) = mentions v e
instruction_reads v (I.SkipUnless cond many) = mentions v cond
instruction_reads v (I.Skip many) = false
instruction_reads v (I.Again cond many) = mentions v cond
instruction_reads v (I.Call call) = any_mentions v call.args
instruction_reads v (I.Take name) = false
instruction_reads v I.Return = false
instruction_reads v I.Reject = false

-- whether an instruction writes a variable
abbrev pub instruction_writes : ℕ → Instruction → Bool
instruction_writes v (I.Set name e) = is_variable v name
instruction_writes v (I.SkipUnless cond many) = false
instruction_writes v (I.Skip many) = false
instruction_writes v (I.Again cond many) = false
instruction_writes v (I.Call call) = false
instruction_writes v (I.Take name) = binds v name
instruction_writes v I.Return = false
instruction_writes v I.Reject = false

-- whether the arguments of a preprocedure mention a variable, and whether a head tests one
abbrev pub early_mentions : ℕ → Option CallCode → Bool
early_mentions v None = false
early_mentions v (Some call) = any_mentions v call.args

abbrev pub head_tests : ℕ → Head → Bool
head_tests v h = mentions v h.cond || early_mentions v h.early

-- whether the beginning of a procedure tests a variable
abbrev pub entry_tests : ℕ → Entry → Bool
entry_tests v E.Total = false
entry_tests v (E.Partial heads) = list_any (head_tests v) heads

-- a set has what another one has
abbrev pub Inside : (ℕ → Bool) → (ℕ → Bool) → Type 0
Inside inner set = (v : ℕ) → inner v ≡ true → set v ≡ true

-- the code from a place on does with variables only what all of it does
pub rest_inside : (does : ℕ → Instruction → Bool) (set : ℕ → Bool) (is : List Instruction) (at : ℕ) →
    Inside (λ v. list_any (does v) is) set → Inside (λ v. list_any (does v) (drop at is)) set
rest_inside does set is zero inside = inside
rest_inside does set [] (suc at) inside = inside
rest_inside does set (i ∷ is) (suc at) inside =
    rest_inside does set is at (λ v h. inside v (or_right (does v i) (list_any (does v) is) h))
