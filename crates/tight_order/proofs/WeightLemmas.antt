-- What the procedures of a program weigh.
use Rattle.std.proofs.Common.{◌≡◌, ℕ, suc, zero, ◌+◌, ◌-◌, ◌*◌, ◌<◌, ◌≤◌, List, [], ◌∷◌, Option, None, Some}
use Rattle.std.proofs.Common.{refl, sym, ap, arith}
use Rattle.std.specs.Prelude.{slice_get, option_and_then}
use Rattle.std.proofs.Math.Nat.{mul-suc}
use Rattle.seuss_program.specs.declared.tree.Ref.{Ref}
use Rattle.seuss_program.specs.declared.tree.Cat.{Cat}
use Rattle.seuss_program.specs.declared.tree.Proc.{Proc}
use Rattle.seuss_program.specs.declared.tree.Form.{Form}
use Rattle.seuss_program.specs.declared.tree.Form.TheVariants as F
use Rattle.seuss_program.specs.declared.tree.Alternative.{Alternative}
use Rattle.seuss_program.specs.declared.program.Program.{Program}
use Rattle.seuss_program.specs.declared.program.BoxInfo.{BoxInfo}
use Rattle.seuss_program.specs.Programs.{cat_of, procedure_of}
use Rattle.tight_order.proofs.StatementLemmas.{weight, sum_of}

-- what an alternative, a form, a procedure and a cat weigh
abbrev pub alternative_weight : Alternative Ref → ℕ
alternative_weight a = sum_of weight a.body

abbrev pub form_weight : Form Ref → ℕ
form_weight (F.Total ss) = sum_of weight ss
form_weight (F.Partial alts) = sum_of alternative_weight alts
form_weight (F.Action alts) = sum_of alternative_weight alts

pub cat_weight : Cat Ref → ℕ
cat_weight c = sum_of (λ (q : Proc Ref). form_weight q.form) c.procs

-- more than what is left to do in a procedure of the program at its entry
pub program_weight : Program → ℕ
program_weight p = 2 * sum_of cat_weight p.cats + 7

-- an item counts in the sum
counts : {X : Type 0} (f : X → ℕ) (xs : List X) (i : ℕ) (x : X) → slice_get xs i ≡ Some x → f x ≤ sum_of f xs
unfolding sum_of
counts f [] i x h = absurd (cc)
counts f (y ∷ ys) zero x h =
    let e : y ≡ x = cc in
    let same : f y ≡ f x = ap f e in omega (arith, same)
counts f (y ∷ ys) (suc i) x h = let below : f x ≤ sum_of f ys = counts f ys i x h in omega (arith, below)

-- where there is a procedure of a box, there is its cat
procedure_weight : (p : Program) (c : Option (Cat Ref)) (number : ℕ) (q : Proc Ref) →
    option_and_then (λ (c : Cat Ref). slice_get c.procs number) c ≡ Some q →
    (c' : Cat Ref) × (c ≡ Some c') × (slice_get c'.procs number ≡ Some q)
procedure_weight p None number q h = absurd (cc)
procedure_weight p (Some c) number q h = (c, refl, h)

cat_counts : (p : Program) (b : Option BoxInfo) (c : Cat Ref) →
    option_and_then (λ (b : BoxInfo). slice_get p.cats b.cat) b ≡ Some c →
    cat_weight c ≤ sum_of cat_weight p.cats
cat_counts p None c h = absurd (cc)
cat_counts p (Some b) c h = counts cat_weight p.cats b.cat c h

-- a procedure of a box weighs less than the program
pub procedure_below : (p : Program) (box number : ℕ) (q : Proc Ref) → Some q ≡ procedure_of p box number →
    2 * form_weight q.form + 6 < program_weight p
unfolding program_weight cat_weight
procedure_below p box number q h =
    let found = procedure_weight p (cat_of p box) number q (sym h) in
    let inside : form_weight q.form ≤ cat_weight found.0 =
    counts (λ (q : Proc Ref). form_weight q.form) (found.0).procs number q found.2 in
    let above : cat_weight found.0 ≤ sum_of cat_weight p.cats =
    cat_counts p (slice_get p.boxes box) found.0 found.1 in
    omega (arith, inside, above)

-- one level less leaves room for what a procedure does
pub level_below : (w d x : ℕ) → 0 < d → x < w → w * (d - 1) + x < w * d
level_below w zero x h k = absurd (omega (arith, h))
level_below w (suc d) x h k =
    let e : suc d - 1 ≡ d = omega arith in
    let m : w * suc d ≡ w * d + w = omega (arith, mul-suc w d) in
    rw e (omega (arith, k, m))
