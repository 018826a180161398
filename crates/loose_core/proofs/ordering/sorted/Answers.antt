use Rattle.std.proofs.Common.{rules}
use Rattle.std.specs.Cmp.{IsStrictWeakOrder}
use Rattle.std.proofs.lemmas.Cmp.{nat_cmp_total, on_total, then_total}
use Rattle.std.proofs.lemmas.List.Sorted.{ranks_by, answers_always}
use Rattle.loose_core.specs.declared.key.Key.{Key}
use Rattle.loose_core.specs.Keys.{lower}
use Rattle.loose_core.proofs.lists.StableSorts.{stable_sorted}
use Rattle.loose_core.proofs.ordering.sorted.Goals as goal

weak : IsStrictWeakOrder lower
weak = ranks_by (then_total (on_total (λ (k : Key). k.stamp) nat_cmp_total)
    (on_total (λ (k : Key). k.placed.attempt) nat_cmp_total)) (λ (k : Key). k)

pub returns : goal.returns
returns c = stable_sorted lower weak c.args.keys.items c.sort_by_key.new.self.items
    (c.in_ok-sort_by_key.ensures.sorted (λ k. (k.stamp, k.placed.attempt)) (answers_always _ _ _
    (λ f a r g k. search rules)))
    (c.sort_by_key.ensures.stable (λ k. (k.stamp, k.placed.attempt)) (answers_always _ _ _
    (λ f a r g k. search rules)))
