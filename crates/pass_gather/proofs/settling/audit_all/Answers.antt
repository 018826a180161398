use Rattle.std.proofs.Common.{◌≡◌, ◌∷◌, [], length, sum_by, ap, arith, length-append}
use Rattle.std.proofs.lemmas.List.Elements.{All-pop}
use Rattle.std.proofs.lemmas.List.Sums.{sum_by_push}
use Rattle.std.specs.Prelude.{Some}
use Rattle.pass_gather.specs.Parting.{amount_in}
use Rattle.pass_gather.proofs.settling.audit_all.Goals as goal

pub loop-part-preserved : goal.loop-part-preserved
loop-part-preserved g c =
    let i = c.loop-part.invariant in
    let items = c.in-Some-pop.ensures.items in
    let part = c.in-Some-pop.part in
    let all = All-pop (λ p. p.parts ≡ 1) c.loop-part.left.items c.pop-in-loop-part.new.self.items (Some part) items i.each in
    record {
      each = all.0;
      parts = omega (arith, i.parts, c.merge.ensures.parts, all.1, ap length items, length-append c.pop-in-loop-part.new.self.items (part ∷ []));
      amount = omega (arith, i.amount, c.merge.ensures.amount, ap (sum_by amount_in) items, sum_by_push amount_in c.pop-in-loop-part.new.self.items part);
    }
