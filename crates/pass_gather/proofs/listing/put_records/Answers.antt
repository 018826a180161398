use Rattle.std.proofs.Common.{◌≡◌, ◌<◌, ◌∙◌, length, arith, Some, None, All, sym, ap, subst}
use Rattle.std.specs.Prelude.{replicate}
use Rattle.std.proofs.Math.ListN.{length-set}
use Rattle.std.proofs.lemmas.List.{length-replicate}
use Rattle.std.proofs.lemmas.List.Elements.{All-head, All-tail}
use Rattle.loose_records.specs.declared.record.PassRecord.{PassRecord}
use Rattle.pass_gather.specs.Listing.{HasSlots}
use Rattle.pass_gather.proofs.Slots.{slots_none, slots_put}
use Rattle.pass_gather.proofs.listing.put_records.Goals as goal

pub loop-made-init : goal.loop-made-init
loop-made-init c =
    let n = length c.args.records.items in
    let is : c.in_ok-slots.slots.items ≡ replicate c.len.result None = c.in_ok-slots.ensures in
    record {
      many = ap length is ∙ length-replicate c.len.result None ∙ omega arith;
      slots = subst (HasSlots _) (sym is) (slots_none c.len.result);
      few = subst (All (λ (r : PassRecord). r.ticket.pass < n)) (sym c.into_iter-made-iterator.ensures.into_iter_gives.0) c.requires;
    }

pub index_mut-requires : goal.index_mut-requires
index_mut-requires c =
    let i = c.loop-made.invariant in
    let few = subst (All (λ (r : PassRecord). r.ticket.pass < length c.args.records.items)) c.in-Some.ensures.steps.0 i.few in
    let less = All-head (λ (r : PassRecord). r.ticket.pass < length c.args.records.items) c.in-Some.made c.next.new.self.rest.items few in
    omega (arith, less, i.many)

pub loop-made-preserved-in-Some : goal.loop-made-preserved-in-Some
loop-made-preserved-in-Some c =
    let i = c.loop-made.invariant in
    let few = subst (All (λ (r : PassRecord). r.ticket.pass < length c.args.records.items)) c.in-Some.ensures.steps.0 i.few in
    let less = All-head (λ (r : PassRecord). r.ticket.pass < length c.args.records.items) c.in-Some.made c.next.new.self.rest.items few in
    record {
      many = length-set c.loop-made.slots.items c.in-Some.made.ticket.pass (Some c.in-Some.made) ∙ i.many;
      slots = slots_put c.loop-made.yielded c.loop-made.slots.items c.in-Some.made i.slots (omega (arith, less, i.many));
      few = All-tail (λ (r : PassRecord). r.ticket.pass < length c.args.records.items) c.in-Some.made c.next.new.self.rest.items few;
    }

pub loop-made-preserved : goal.loop-made-preserved
loop-made-preserved c =
    let i = c.loop-made.invariant in
    let few = subst (All (λ (r : PassRecord). r.ticket.pass < length c.args.records.items)) c.in-Some.ensures.steps.0 i.few in
    let less = All-head (λ (r : PassRecord). r.ticket.pass < length c.args.records.items) c.in-Some.made c.next.new.self.rest.items few in
    record {
      many = length-set c.loop-made.slots.items c.in-Some.made.ticket.pass (Some c.in-Some.made) ∙ i.many;
      slots = slots_put c.loop-made.yielded c.loop-made.slots.items c.in-Some.made i.slots (omega (arith, less, i.many));
      few = All-tail (λ (r : PassRecord). r.ticket.pass < length c.args.records.items) c.in-Some.made c.next.new.self.rest.items few;
    }
