use Rattle.std.proofs.Common.{◌≡◌, ◌∷◌, ◌++◌, [], List, Option, map, Some, All, sym, ap, ◌∙◌, subst, append-nil, arith}
use Rattle.std.proofs.Common.{append_assoc}
use Rattle.std.proofs.lemmas.List.{map-append}
use Rattle.std.proofs.lemmas.List.Elements.{All-head, All-tail}
use Rattle.loose_records.specs.declared.record.PassRecord.{PassRecord}
use Rattle.pass_gather.specs.Listing.{IsFilled}
use Rattle.pass_gather.proofs.Lists.{nil_from_length}
use Rattle.pass_gather.proofs.Slots.{all_filled, slots_sorted}
use Rattle.pass_gather.proofs.listing.sort_records.Goals as goal

pub loop-slot-init : goal.loop-slot-init
loop-slot-init c =
    let e = c.into_iter-slot-iterator.ensures.into_iter_gives.0 in
    let has = c.in_ok-slots.ensures.slots in
    let many = c.in_ok-slots.ensures.many in
    record {
      passes = ap (map Some) c.new-passes.ensures;
      filled = subst (All IsFilled) (sym e)
          (all_filled c.args.records.items c.in_ok-slots.slots.items has many c.requires);
      sorted = λ made same.
          slots_sorted c.args.records.items made c.in_ok-slots.slots.items has many (same ∙ e);
    }

pub loop-slot-preserved : goal.loop-slot-preserved
loop-slot-preserved c =
    let i = c.loop-slot.invariant in
    let steps = c.in-Some.ensures.steps.0 in
    let rest = c.next.new.self.rest.items in
    record {
      passes = ap (map Some) c.in_ok-push.ensures.ok ∙ map-append Some c.loop-slot.passes (c.in-Some-slot.made ∷ [])
          ∙ ap (λ (l : List (Option PassRecord)). l ++ Some c.in-Some-slot.made ∷ []) i.passes
          ∙ ap (λ (x : Option PassRecord). c.loop-slot.yielded ++ x ∷ []) (sym c.in-Some-slot.is);
      filled = All-tail IsFilled c.in-Some.slot rest (subst (All IsFilled) steps i.filled);
      sorted = λ made same.
          i.sorted made (same ∙ append_assoc c.loop-slot.yielded (c.in-Some.slot ∷ []) rest
          ∙ ap (λ (l : List (Option PassRecord)). c.loop-slot.yielded ++ l) (sym steps));
    }

pub unreachable-requires : goal.unreachable-requires
unreachable-requires c =
    let all = subst (All IsFilled) c.in-Some.ensures.steps.0 c.loop-slot.invariant.filled in
    let f = All-head IsFilled c.in-Some.slot c.next.new.self.rest.items all in
    c.in_default.not-Some f.0 f.1

pub returns : goal.returns
returns c =
    let i = c.loop-slot.invariant in
    let none : c.loop-slot.slot-iterator.rest.items ≡ [] = nil_from_length _ (omega (arith, c.in-None.ensures.steps.0)) in
    i.sorted c.loop-slot.passes
    (i.passes ∙ sym (append-nil c.loop-slot.yielded)
    ∙ ap (λ (l : List (Option PassRecord)). c.loop-slot.yielded ++ l) (sym none))
