use Rattle.std.proofs.Common.{◌≡◌, ◌+◌, suc, sym, ◌∙◌, ap, arith, take, ◌++◌, ◌∷◌, [], List}
use Rattle.loose_core.specs.declared.key.Key.{Key}
use Rattle.loose_core.specs.Keys.{keys_of}
use Rattle.loose_core.proofs.KeyLemmas.{keys_step, keys_all}
use Rattle.loose_core.proofs.ordering.keys.Goals as goal

pub loop-pass-init : goal.loop-pass-init
loop-pass-init c = c.new-keys.ensures.items

pub loop-pass-preserved : goal.loop-pass-preserved
loop-pass-preserved c =
    let e : suc c.loop-pass.pass-index ≡ c.loop-pass.pass-index + 1 = omega arith in
    c.in_ok-add.ensures ∙ (ap (λ (ks : List Key). ks ++ keys_of (c.pass-item.result ∷ []))
    c.loop-pass.invariant
    ∙ (sym (keys_step c.args.passes.now c.loop-pass.pass-index c.pass-item.result c.loop-pass-test.true
    c.pass-item.is)
    ∙ ap (λ k. keys_of (take k c.args.passes.now)) e))

pub returns : goal.returns
returns c = c.loop-pass.invariant ∙ keys_all c.args.passes.now c.loop-pass.pass-index c.loop-pass-test.false
