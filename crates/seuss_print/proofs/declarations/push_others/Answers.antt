use Rattle.std.proofs.Common.{◌≡◌, ℕ, ℤ, zero, suc, ◌+◌, ◌++◌, ◌∷◌, [], List, Some, slice_get, drop, sym}
use Rattle.std.proofs.Common.{ap, ◌∙◌, arith, append_assoc, w64, rules, FitsSigned}
use Rattle.std.proofs.Math.Facts.{to_z-of_z}
use Rattle.std.proofs.lemmas.Grind.{flat_map-append}
use Rattle.std.specs.List.{flat_map}
use Rattle.seuss_print.specs.Items.{Item, item_text, text_of, behind_comma}
use Rattle.seuss_print.specs.Canonical.{signed}
use Rattle.seuss_print.proofs.declarations.push_others.Goals as goal

-- the item at a place is the first of those from there on
flat_map_from : {X : Type 0} (f : X → List Item) (xs : List X) (at : ℕ) (x : X) → slice_get xs at ≡ Some x →
    flat_map f (drop at xs) ≡ f x ++ flat_map f (drop (at + 1) xs)
flat_map_from f [] at x e = cc
flat_map_from f (y ∷ ys) zero x e = cc
flat_map_from f (y ∷ ys) (suc at) x e =
    let more : suc at + 1 ≡ suc (at + 1) = omega arith in rw more (flat_map_from f ys at x e)

-- the number at a place goes from what is left to what is written
next_written : (zs : List ℤ) (at : ℕ) (z : ℤ) (text between after whole : List ℕ) →
    slice_get zs at ≡ Some z →
    between ≡ text ++ 44 ∷ 32 ∷ [] → after ≡ between ++ text_of (signed z) →
    text ++ text_of (flat_map (behind_comma signed) (drop at zs)) ≡ whole →
    after ++ text_of (flat_map (behind_comma signed) (drop (at + 1) zs)) ≡ whole
next_written zs at z text between after whole here comma written e =
    let rest : List Item = flat_map (behind_comma signed) (drop (at + 1) zs) in
    let piece : List ℕ = text_of (behind_comma signed z) in
    let split : text_of (flat_map (behind_comma signed) (drop at zs)) ≡ piece ++ text_of rest =
    ap (λ items. text_of items) (flat_map_from (behind_comma signed) zs at z here)
    ∙ flat_map-append item_text (behind_comma signed z) rest in
    let now : after ≡ text ++ piece =
    written ∙ (ap (λ bytes. bytes ++ text_of (signed z)) comma
    ∙ append_assoc text (44 ∷ 32 ∷ []) (text_of (signed z))) in
    ap (λ bytes. bytes ++ text_of rest) now
    ∙ (append_assoc text piece (text_of rest) ∙ (ap (λ bytes. text ++ bytes) (sym split) ∙ e))

pub loop-at-preserved : goal.loop-at-preserved
loop-at-preserved c =
    let small : FitsSigned w64 c.number_at.result = search rules in
    next_written c.args.numbers.now c.loop-at.at c.number_at.result c.loop-at.text c.push_all.new.self
    c.push_signed.new.text _ c.number_at.ensures c.in_ok-push_all.ensures.ok
    (c.in_ok-push_signed.ensures ∙ ap (λ z. c.push_all.new.self ++ text_of (signed z)) (to_z-of_z small))
    c.loop-at.invariant
