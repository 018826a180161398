-- Lists to which something is added.
use Rattle.std.proofs.Common.{◌≡◌, ℕ, suc, ◌+◌, ◌<◌, List, [], ◌∷◌, ◌++◌, Result, length, drop, drop-cons}
use Rattle.std.proofs.Common.{sym, ap, subst, ◌∙◌, arith, get_or}
use Rattle.std.specs.Result.{OnOk}
use Rattle.std.proofs.lemmas.List.{append_assoc, append-nil}
use Rattle.seuss_base.specs.declared.memory.Memory.{Memory}

-- nothing is added
pub unchanged : {A : Type 0} (old xs : List A) → xs ≡ [] → old ≡ old ++ xs
unchanged old xs h = sym (ap (λ ys. old ++ ys) h ∙ append-nil old)

-- what is added is the same
pub grown : {A B : Type 0} (r : Result B Memory) (old new xs ys : List A) → xs ≡ ys →
    OnOk r (new ≡ old ++ xs) → OnOk r (new ≡ old ++ ys)
grown r old new xs ys same h = subst (λ zs. OnOk r (new ≡ old ++ zs)) same h

-- two are added, one after the other
pub grown-twice : {A B : Type 0} (r : Result B Memory) (old middle new xs ys zs : List A) →
    middle ≡ old ++ xs → xs ++ ys ≡ zs → OnOk r (new ≡ middle ++ ys) → OnOk r (new ≡ old ++ zs)
grown-twice r old middle new xs ys zs first same h =
    subst (λ ws. OnOk r (new ≡ ws))
    (ap (λ ws. ws ++ ys) first ∙ (append_assoc old xs ys ∙ ap (λ ws. old ++ ws) same)) h

-- a list from a place on: what stands there, and then the others
pub from-place : {X : Type 0} (xs : List X) (i : ℕ) (x : X) → i < length xs → x ≡ get_or xs i x →
    drop i xs ≡ x ∷ drop (i + 1) xs
from-place xs i x h e =
    let n : i + 1 ≡ suc i = omega arith in
    drop-cons xs i x h ∙ (ap (λ y. y ∷ drop (suc i) xs) (sym e) ∙ ap (λ j. x ∷ drop j xs) (sym n))

-- what the item at a place adds, and then the others, is what they add from there on
pub grown-from : {X A : Type 0} (f : X → List A) (all : List X → List A) →
    ((x : X) (xs : List X) → all (x ∷ xs) ≡ f x ++ all xs) → (xs : List X) (i : ℕ) (x : X)
    (old new whole : List A) → i < length xs → x ≡ get_or xs i x → old ++ all (drop i xs) ≡ whole →
    new ≡ old ++ f x → new ++ all (drop (i + 1) xs) ≡ whole
grown-from f all step xs i x old new whole h at same is =
    ap (λ ys. ys ++ all (drop (i + 1) xs)) is
    ∙ (append_assoc old (f x) (all (drop (i + 1) xs))
    ∙ (ap (λ ys. old ++ ys) (sym (step x (drop (i + 1) xs)) ∙ sym (ap all (from-place xs i x h at))) ∙ same))
