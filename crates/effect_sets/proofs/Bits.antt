-- The sets of the code as numbers, and what stands in them.
use Rattle.std.proofs.Common.{◌≡◌, ℕ, zero, suc, ◌<◌, ◌^◌, nat_lt, Bool, true, false, ◌||◌, ◌==◌}
use Rattle.std.proofs.Common.{if◌then◌else◌, List, [], ◌∷◌, Option, None, Some, refl, sym, ap, ◌∙◌, subst}
use Rattle.std.proofs.Common.{arith, max}
use Rattle.std.specs.Prelude.{bit_or}
use Rattle.std.specs.Int.{bit_at}
use Rattle.std.specs.List.{list_any}
use Rattle.std.proofs.lemmas.Nat.Bits.{bit_at_or, bit_at-lt, bit_at-zero, bit_at-pow_same, bit_at-pow_other}
use Rattle.seuss_program.specs.declared.tree.Ref.{Ref}
use Rattle.seuss_program.specs.declared.tree.Ref.TheVariants as R
use Rattle.seuss_program.specs.declared.tree.Node.{Node, map-Node, roll-Node}
use Rattle.seuss_program.specs.declared.tree.Node.TheOpen as L
use Rattle.seuss_program.specs.declared.tree.Node.TheOpen.{Node-F}
use Rattle.seuss_program.specs.declared.tree.Expr.{Expr, ind-Expr, roll-Expr, map-Expr}
use Rattle.method_code.specs.declared.instruction.CallCode.{CallCode}
use Rattle.method_code.specs.declared.instruction.Instruction.{Instruction}
use Rattle.method_code.specs.declared.instruction.Instruction.TheVariants as I
use Rattle.method_code.specs.declared.method.Entry.{Entry}
use Rattle.method_code.specs.declared.method.Entry.TheVariants as E
use Rattle.method_code.specs.declared.method.Head.{Head}
use Rattle.effect_sets.specs.Effects.{has_bit, is_variable, binds, node_mentions, mentions, any_mentions}
use Rattle.effect_sets.specs.Masks.{bit, name_mask, bound_mask, node_mask, mask, add_masks, read_mask}
use Rattle.effect_sets.specs.Masks.{written_mask, add_read, add_written, early_mask, head_mask, add_tested}
use Rattle.effect_sets.specs.Masks.{tested_mask}
use Rattle.effect_sets.proofs.CodeSets.{instruction_reads, instruction_writes, early_mentions, head_tests}
use Rattle.effect_sets.proofs.CodeSets.{entry_tests}
use Rattle.effect_sets.proofs.Masking.{mask_of, mask-expr, mask-roll}
use Rattle.effect_sets.proofs.FormSets.{or_false}
use Rattle.effect_sets.proofs.Agreeing.{node_has, has-roll, has-expr}

-- the union of two sets
max_is : (x y : ℕ) → x < 2 → y < 2 → (max x y == 1) ≡ ((x == 1) || (y == 1))
max_is zero zero h k = refl
max_is zero (suc zero) h k = refl
max_is (suc zero) zero h k = refl
max_is (suc zero) (suc zero) h k = refl
max_is zero (suc (suc y)) h k = absurd (omega (arith, k))
max_is (suc zero) (suc (suc y)) h k = absurd (omega (arith, k))
max_is (suc (suc x)) y h k = absurd (omega (arith, h))

pub bit_in_or : (a b v : ℕ) → has_bit (bit_or a b) v ≡ (has_bit a v || has_bit b v)
bit_in_or a b v = ap (λ n. n == 1) (bit_at_or a b v)
    ∙ max_is (bit_at a v) (bit_at b v) (bit_at-lt a v) (bit_at-lt b v)

none_in : (v : ℕ) → has_bit 0 v ≡ false
none_in v = ap (λ n. n == 1) (bit_at-zero v)

pub or_assoc : (a b c : Bool) → ((a || b) || c) ≡ (a || (b || c))
or_assoc true b c = refl
or_assoc false b c = refl

module _ (v : ℕ) (small : v < 32) where
  -- the set of one variable
  bit_is : (n : ℕ) → has_bit (bit n) v ≡ (n == v)
  bit_is n = by (nat_lt n 32) refl (n == v) refl
    where
      by : (t : Bool) → nat_lt n 32 ≡ t → (b : Bool) → (n == v) ≡ b →
          has_bit (if t then 2 ^ n else 0) v ≡ (n == v)
      by true h true e = let same : n ≡ v = grind (arith, e) in ap (λ k. bit_at (2 ^ k) v == 1) same
          ∙ (ap (λ k. k == 1) (bit_at-pow_same v) ∙ sym e)
      by true h false e = let other : v ≡ n → ⊥ = grind (arith, e) in
          ap (λ k. k == 1) (bit_at-pow_other n v other) ∙ sym e
      by false h true e = let same : n ≡ v = grind (arith, e) in absurd (grind (arith, h, same, small))
      by false h false e = none_in v ∙ sym e

  name_is : (name : Ref) → has_bit (name_mask name) v ≡ is_variable v name
  name_is (R.Var n) = bit_is n
  name_is (R.Slot n) = none_in v
  name_is (R.Given n) = none_in v
  name_is (R.Method n) = none_in v
  name_is (R.Cat n) = none_in v

  bound_is : (name : Option Ref) → has_bit (bound_mask name) v ≡ binds v name
  bound_is None = none_in v
  bound_is (Some name) = name_is name

  -- the set of an expression
  NodeClaim : Node Ref → Type 0
  NodeClaim n = has_bit (mask_of n) v ≡ node_has v n

  Claim : Expr Ref → Type 0
  Claim e = has_bit (mask e) v ≡ mentions v e

  layer : (d : Node-F Ref (Node Ref) (Expr Ref)) →
      has_bit (node_mask (map-Node Ref (Node Ref) (Expr Ref) ℕ ℕ mask_of mask d)) v
      ≡ node_mentions v (map-Node Ref (Node Ref) (Expr Ref) Bool Bool (node_has v) (mentions v) d) →
      NodeClaim (roll-Node Ref d)
  unfolding NodeClaim
  layer d h = ap (λ n. has_bit n v) (mask-roll d) ∙ (h ∙ sym (has-roll v d))

  module _ (X Y : Type 0) (f : X → Node Ref) (g : Y → Expr Ref) (each_part : (y : Y) → Claim (g y)) where
    node-step : (y : Node-F Ref X Y) →
        NodeClaim (roll-Node Ref (map-Node Ref X Y (Node Ref) (Expr Ref) f g y))
    unfolding NodeClaim Claim
    node-step (L.Int z) = layer (L.Int z) (none_in v)
    node-step (L.Bool b) = layer (L.Bool b) (none_in v)
    node-step L.Empty = layer L.Empty (none_in v)
    node-step (L.Name name) = layer (L.Name name) (name_is name)
    node-step (L.Neg e) = layer (L.Neg (g e)) (each_part e)
    node-step (L.Not e) = layer (L.Not (g e)) (each_part e)
    node-step (L.Two op l r) = layer (L.Two op (g l) (g r))
        (bit_in_or (mask (g l)) (mask (g r)) v
        ∙ (ap (λ b. b || has_bit (mask (g r)) v) (each_part l)
        ∙ ap (λ b. mentions v (g l) || b) (each_part r)))
    node-step (L.One fun e) = layer (L.One fun (g e)) (each_part e)

  expr-claim : (e : Expr Ref) → NodeClaim e.node → Claim e
  unfolding NodeClaim Claim
  expr-claim e c = ap (λ n. has_bit n v) (mask-expr e) ∙ (c ∙ sym (has-expr v e))

  claims : (e : Expr Ref) → Claim e
  claims = ind-Expr Ref NodeClaim Claim
      (λ x y is. subst (λ d. NodeClaim (roll-Node Ref d)) is
      (node-step _ _ (λ e. e.0) (λ e. e.0) (λ e. e.1) y))
      (λ x y is. subst (λ d. Claim (roll-Expr Ref d)) is
      (expr-claim (roll-Expr Ref (map-Expr Ref _ _ (Node Ref) (Expr Ref) (λ e. e.0) (λ e. e.0) y))
      y.node.1))

  mask_is : (e : Expr Ref) → has_bit (mask e) v ≡ mentions v e
  unfolding Claim
  mask_is e = claims e

  -- a set, and one more
  added : (set more : ℕ) (b rest : Bool) → has_bit more v ≡ b →
      (has_bit (bit_or set more) v || rest) ≡ (has_bit set v || (b || rest))
  added set more b rest h =
      ap (λ x. x || rest) (bit_in_or set more v ∙ ap (λ x. has_bit set v || x) h)
      ∙ or_assoc (has_bit set v) b rest

  masks_are : (set : ℕ) (es : List (Expr Ref)) →
      has_bit (add_masks set es) v ≡ (has_bit set v || any_mentions v es)
  masks_are set [] = sym (or_false (has_bit set v))
  masks_are set (e ∷ es) = masks_are (bit_or set (mask e)) es
      ∙ added set (mask e) (mentions v e) (any_mentions v es) (mask_is e)

  all_masks : (es : List (Expr Ref)) → has_bit (add_masks 0 es) v ≡ any_mentions v es
  all_masks es = masks_are 0 es ∙ ap (λ b. b || any_mentions v es) (none_in v)

  -- the sets of instructions
  read_is : (i : Instruction) → has_bit (read_mask i) v ≡ instruction_reads v i
  read_is (I.Set name e) = mask_is e
  read_is (I.SkipUnless cond many) = mask_is cond
  read_is (I.Skip many) = none_in v
  read_is (I.Again cond many) = mask_is cond
  read_is (I.Call call) = all_masks call.args
  read_is (I.Take name) = none_in v
  read_is I.Return = none_in v
  read_is I.Reject = none_in v

  written_is : (i : Instruction) → has_bit (written_mask i) v ≡ instruction_writes v i
  written_is (I.Set name e) = name_is name
  written_is (I.SkipUnless cond many) = none_in v
  written_is (I.Skip many) = none_in v
  written_is (I.Again cond many) = none_in v
  written_is (I.Call call) = none_in v
  written_is (I.Take name) = bound_is name
  written_is I.Return = none_in v
  written_is I.Reject = none_in v

  added_read : (set : ℕ) (is : List Instruction) →
      has_bit (add_read set is) v ≡ (has_bit set v || list_any (instruction_reads v) is)
  added_read set [] = sym (or_false (has_bit set v))
  added_read set (i ∷ is) = added_read (bit_or set (read_mask i)) is
      ∙ added set (read_mask i) (instruction_reads v i) (list_any (instruction_reads v) is) (read_is i)

  pub all_read : (is : List Instruction) → has_bit (add_read 0 is) v ≡ list_any (instruction_reads v) is
  all_read is = added_read 0 is ∙ ap (λ b. b || list_any (instruction_reads v) is) (none_in v)

  added_written : (set : ℕ) (is : List Instruction) →
      has_bit (add_written set is) v ≡ (has_bit set v || list_any (instruction_writes v) is)
  added_written set [] = sym (or_false (has_bit set v))
  added_written set (i ∷ is) = added_written (bit_or set (written_mask i)) is
      ∙ added set (written_mask i) (instruction_writes v i) (list_any (instruction_writes v) is)
      (written_is i)

  pub all_written : (is : List Instruction) →
      has_bit (add_written 0 is) v ≡ list_any (instruction_writes v) is
  all_written is = added_written 0 is ∙ ap (λ b. b || list_any (instruction_writes v) is) (none_in v)

  -- the set of the tests
  early_is : (o : Option CallCode) → has_bit (early_mask o) v ≡ early_mentions v o
  early_is None = none_in v
  early_is (Some call) = all_masks call.args

  head_is : (h : Head) → has_bit (head_mask h) v ≡ head_tests v h
  head_is h = bit_in_or (mask h.cond) (early_mask h.early) v
      ∙ (ap (λ b. b || has_bit (early_mask h.early) v) (mask_is h.cond)
      ∙ ap (λ b. mentions v h.cond || b) (early_is h.early))

  added_tested : (set : ℕ) (hs : List Head) →
      has_bit (add_tested set hs) v ≡ (has_bit set v || list_any (head_tests v) hs)
  added_tested set [] = sym (or_false (has_bit set v))
  added_tested set (h ∷ hs) = added_tested (bit_or set (head_mask h)) hs
      ∙ added set (head_mask h) (head_tests v h) (list_any (head_tests v) hs) (head_is h)

  pub all_tested : (entry : Entry) → has_bit (tested_mask entry) v ≡ entry_tests v entry
  all_tested E.Total = none_in v
  all_tested (E.Partial hs) = added_tested 0 hs ∙ ap (λ b. b || list_any (head_tests v) hs) (none_in v)
