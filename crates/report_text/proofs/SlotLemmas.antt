-- The slots of a round.
use Rattle.std.proofs.Common.{◌≡◌, ℕ, ◌<◌, length, sym, ◌∙◌, arith}
use Rattle.std.proofs.lemmas.List.FromFn.{length-range_with_len, get_or-range_with_len}
use Rattle.seuss_program.specs.declared.program.Program.{Program}
use Rattle.seuss_program.specs.Orders.{slots_of, action_of}

-- each action has one slot
pub length-slots_of : (p : Program) → length (slots_of p) ≡ length p.actions
length-slots_of p = length-range_with_len 0 (length p.actions)

-- the action of a slot has its number
slot_number : (p : Program) (slot : ℕ) → slot < length (slots_of p) → action_of (slots_of p) slot ≡ slot
slot_number p slot within =
    let many = length-slots_of p in
    let there : slot < length p.actions = omega arith in
    get_or-range_with_len 0 (length p.actions) slot 0 there ∙ (omega arith)

-- the action of a slot is one of the program
pub slot_within : (p : Program) (slot : ℕ) → slot < length (slots_of p) →
    action_of (slots_of p) slot < length p.actions
slot_within p slot within =
    let many = length-slots_of p in
    let number = slot_number p slot within in omega arith

-- slots of the same action are the same
pub one_slot : (p : Program) (slot other : ℕ) → slot < length (slots_of p) → other < length (slots_of p) →
    action_of (slots_of p) slot ≡ action_of (slots_of p) other → slot ≡ other
one_slot p slot other within there same =
    sym (slot_number p slot within) ∙ (same ∙ slot_number p other there)
