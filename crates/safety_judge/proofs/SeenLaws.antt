-- What is seen in texts one after the other.
use Rattle.std.proofs.Common.{◌≡◌, ℕ, ◌+◌, ◌<◌, List, ◌∷◌, Result, IfOk, length, drop}
use Rattle.std.proofs.Common.{sym, ap, subst, ◌∙◌, get_or}
use Rattle.std.proofs.lemmas.List.{append_assoc, append-nil}
use Rattle.seuss_base.specs.declared.memory.Memory.{Memory}
use Rattle.safety_check.specs.declared.seen.Seen.{Seen}
use Rattle.safety_check.specs.Texts.{seen_and, nothing_seen}
use Rattle.safety_judge.proofs.Growth.{from-place}

-- the order in which texts are taken together doesn't matter
pub seen-assoc : (a b c : Seen) → seen_and (seen_and a b) c ≡ seen_and a (seen_and b c)
seen-assoc a b c = λ i. record {
  names = append_assoc a.names b.names c.names i;
  cuts = append_assoc a.cuts b.cuts c.cuts i;
}

-- a text in which nothing is seen adds nothing
pub seen-nothing : (a : Seen) → seen_and a nothing_seen ≡ a
seen-nothing a = λ i. record { names = append-nil a.names i; cuts = append-nil a.cuts i }

-- what is added is the same
pub seen-as : (r : Result Seen Memory) (seen x y : Seen) → x ≡ y → IfOk r (λ m. m ≡ seen_and seen x) →
    IfOk r (λ m. m ≡ seen_and seen y)
seen-as r seen x y same h = subst (λ w. IfOk r (λ m. m ≡ seen_and seen w)) same h

-- two texts are looked at, one after the other
pub then-seen : (r : Result Seen Memory) (seen middle x y z : Seen) → middle ≡ seen_and seen x →
    seen_and x y ≡ z → IfOk r (λ m. m ≡ seen_and middle y) → IfOk r (λ m. m ≡ seen_and seen z)
then-seen r seen middle x y z first same h = subst (λ w. IfOk r (λ m. m ≡ w))
    (ap (λ w. seen_and w y) first ∙ (seen-assoc seen x y ∙ ap (seen_and seen) same)) h

-- two texts were looked at
pub both-seen : (seen middle last x y : Seen) → middle ≡ seen_and seen x → last ≡ seen_and middle y →
    last ≡ seen_and seen (seen_and x y)
both-seen seen middle last x y first second =
    second ∙ (ap (λ w. seen_and w y) first ∙ seen-assoc seen x y)

module _ {X : Type 0} (f : X → Seen) (all : List X → Seen) where
  -- what is seen at a place, and then in the others, is what is seen from there on
  pub seen-from : ((x : X) (xs : List X) → all (x ∷ xs) ≡ seen_and (f x) (all xs)) →
      (xs : List X) (i : ℕ) (x : X) (old new whole : Seen) → i < length xs → x ≡ get_or xs i x →
      seen_and old (all (drop i xs)) ≡ whole → new ≡ seen_and old (f x) →
      seen_and new (all (drop (i + 1) xs)) ≡ whole
  seen-from step xs i x old new whole h at same is =
      ap (λ w. seen_and w (all (drop (i + 1) xs))) is
      ∙ (seen-assoc old (f x) (all (drop (i + 1) xs))
      ∙ (ap (seen_and old) (sym (step x (drop (i + 1) xs)) ∙ sym (ap all (from-place xs i x h at)))
      ∙ same))
