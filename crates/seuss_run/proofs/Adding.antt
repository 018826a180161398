-- One write after another.
use Rattle.std.proofs.Common.{◌≡◌, ℕ, ◌+◌, ◌-◌, ◌≤◌, List, ◌++◌, length, take, drop, Option, None, Some}
use Rattle.std.proofs.Common.{sym, ap, ◌∙◌, subst, append_assoc, arith, length-drop}
use Rattle.std.proofs.lemmas.List.{drop-drop}
use Rattle.std.proofs.Math.Seq.{take-add}
use Rattle.seuss_base.specs.Sinks.{Adds}

-- two writes add their bytes one after the other
pub adds_more : (a b c : Option (List ℕ)) (xs ys : List ℕ) → Adds a b xs → Adds b c ys → Adds a c (xs ++ ys)
adds_more None b c xs ys first second = tt
adds_more (Some w) b c xs ys first second =
    let told : Adds (Some (w ++ xs)) c ys = subst (λ (o : Option (List ℕ)). Adds o c ys) first second in
    told ∙ ap Some (append_assoc w xs ys)

-- after a front of the bytes and then a piece of the rest, a longer front was added
pub piece_added : (a b c : Option (List ℕ)) (bytes rest after : List ℕ) (k n : ℕ) → k ≤ length bytes →
    rest ≡ drop k bytes →
    n ≤ length rest → after ≡ drop n rest → Adds a b (take k bytes) → Adds b c (take n rest) →
    (k + n ≤ length bytes) × (after ≡ drop (k + n) bytes) × Adds a c (take (k + n) bytes)
piece_added a b c bytes rest after k n within left fits left_after front piece =
    let known : length rest ≡ length bytes - k = ap length left ∙ length-drop k bytes in
    let dropped : after ≡ drop (k + n) bytes = left_after ∙ ap (drop n) left ∙ drop-drop n k bytes in
    let taken : take (k + n) bytes ≡ take k bytes ++ take n rest =
    take-add k n bytes ∙ ap (λ r. take k bytes ++ take n r) (sym left) in
    (omega arith, dropped, rw taken (adds_more a b c (take k bytes) (take n rest) front piece))
