-- A text to which the pieces of lists are written one after the other: with the pieces that are left it
-- is always the same whole.
use Rattle.std.proofs.Common.{◌≡◌, ◌⊎◌, ℕ, zero, suc, ◌+◌, List, [], ◌∷◌, ◌++◌, Some, slice_get, drop, refl}
use Rattle.std.proofs.Common.{sym, ◌∙◌, ap, inl, inr, arith, append_assoc, append-nil}
use Rattle.std.specs.List.{flat_map}
use Rattle.seuss_program.specs.declared.tree.Ref.{Ref}
use Rattle.seuss_program.specs.declared.tree.Cat.{Cat}
use Rattle.seuss_program.specs.declared.tree.Var.{Var}
use Rattle.seuss_program.specs.declared.program.BoxInfo.{BoxInfo}
use Rattle.seuss_program.specs.declared.state.Value.{Value}
use Rattle.seuss_program.specs.declared.state.Vars.{Vars}
use Rattle.seuss_program.specs.Reports.{var_line, var_lines, box_lines, vars_in}

-- a piece goes from what is left to what is written
pub piece_written : (text piece left left' after whole : List ℕ) →
    after ≡ text ++ piece → left ≡ piece ++ left' → text ++ left ≡ whole → after ++ left' ≡ whole
piece_written text piece left left' after whole written split e =
    ap (λ bs. bs ++ left') written ∙ append_assoc text piece left' ∙ ap (λ bs. text ++ bs) (sym split) ∙ e

-- where nothing is left, the text is the whole
pub none_left : (text left whole : List ℕ) → left ≡ [] → text ++ left ≡ whole → text ≡ whole
none_left text left whole none e = sym (append-nil text) ∙ ap (λ bs. text ++ bs) (sym none) ∙ e

-- the item at a place is the first of those from there on
flat_map_from : {X : Type 0} (f : X → List ℕ) (xs : List X) (at : ℕ) (x : X) → slice_get xs at ≡ Some x →
    flat_map f (drop at xs) ≡ f x ++ flat_map f (drop (at + 1) xs)
flat_map_from f [] at x e = cc
flat_map_from f (y ∷ ys) zero x e = cc
flat_map_from f (y ∷ ys) (suc at) x e =
    let more : suc at + 1 ≡ suc (at + 1) = omega arith in rw more (flat_map_from f ys at x e)

-- the item at a place is written
pub item_written : {X : Type 0} (f : X → List ℕ) (xs : List X) (at : ℕ) (x : X)
    (text after whole : List ℕ) →
    slice_get xs at ≡ Some x → after ≡ text ++ f x →
    text ++ flat_map f (drop at xs) ≡ whole → after ++ flat_map f (drop (at + 1) xs) ≡ whole
item_written f xs at x text after whole here written e =
    piece_written text (f x) (flat_map f (drop at xs)) (flat_map f (drop (at + 1) xs)) after whole written
    (flat_map_from f xs at x here) e

-- the line of the first of the variables that are left is written
pub var_written : (box : List ℕ) (v : Var) (x : Value) (vs vs' : List Var) (xs xs' : List Value)
    (text after whole : List ℕ) →
    vs ≡ v ∷ vs' → xs ≡ x ∷ xs' → after ≡ text ++ var_line box v x →
    text ++ var_lines box vs xs ≡ whole → after ++ var_lines box vs' xs' ≡ whole
var_written box v x vs vs' xs xs' text after whole first second written e =
    piece_written text (var_line box v x) (var_lines box vs xs) (var_lines box vs' xs') after whole written
    (rw (first, second) refl) e

-- where no variable or no value is left, the text is the whole
pub vars_all : (box : List ℕ) (vs : List Var) (xs : List Value) (text whole : List ℕ) →
    (vs ≡ []) ⊎ (xs ≡ []) → text ++ var_lines box vs xs ≡ whole → text ≡ whole
vars_all box vs xs text whole (inl none) e = none_left text (var_lines box vs xs) whole (rw none refl) e
vars_all box [] xs text whole (inr none) e = none_left text [] whole refl e
vars_all box (v ∷ vs) xs text whole (inr none) e =
    none_left text (var_lines box (v ∷ vs) xs) whole (rw none refl) e

-- the lines of the first of the boxes that are left are written
pub box_written : (cats : List (Cat Ref)) (b : BoxInfo) (x : Vars) (bs bs' : List BoxInfo)
    (xs xs' : List Vars) (text after whole : List ℕ) → bs ≡ b ∷ bs' → xs ≡ x ∷ xs' →
    after ≡ text ++ var_lines b.name.text (vars_in (slice_get cats b.cat)) x.values →
    text ++ box_lines cats bs xs ≡ whole → after ++ box_lines cats bs' xs' ≡ whole
box_written cats b x bs bs' xs xs' text after whole first second written e =
    piece_written text (var_lines b.name.text (vars_in (slice_get cats b.cat)) x.values)
    (box_lines cats bs xs) (box_lines cats bs' xs') after whole written (rw (first, second) refl) e

-- where no box or no state of a box is left, the text is the whole
pub boxes_all : (cats : List (Cat Ref)) (bs : List BoxInfo) (xs : List Vars) (text whole : List ℕ) →
    (bs ≡ []) ⊎ (xs ≡ []) → text ++ box_lines cats bs xs ≡ whole → text ≡ whole
boxes_all cats bs xs text whole (inl none) e = none_left text (box_lines cats bs xs) whole (rw none refl) e
boxes_all cats [] xs text whole (inr none) e = none_left text [] whole refl e
boxes_all cats (b ∷ bs) xs text whole (inr none) e =
    none_left text (box_lines cats (b ∷ bs) xs) whole (rw none refl) e
