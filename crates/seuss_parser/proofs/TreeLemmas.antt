-- Signs before an expression, from the last one on.
use Rattle.std.proofs.Common.{◌≡◌, ℕ, List, [], ◌∷◌, ◌++◌, refl, sym, ap, ◌∙◌}
use Rattle.seuss_parser.specs.Trees.{expression, minus, negated}
use Rattle.seuss_program.specs.declared.tree.Name.{Name}
use Rattle.seuss_program.specs.declared.tree.Expr.{Expr}
use Rattle.seuss_program.specs.declared.tree.Node.TheVariants as N

minus-last : (lines : List ℕ) (line : ℕ) (e : Expr Name) →
    minus (lines ++ line ∷ []) e ≡ minus lines (expression line (N.Neg e))
minus-last [] line e = refl
minus-last (first ∷ lines) line e = ap (λ inner. expression first (N.Neg inner)) (minus-last lines line e)

negated-last : (lines : List ℕ) (line : ℕ) (e : Expr Name) →
    negated (lines ++ line ∷ []) e ≡ negated lines (expression line (N.Not e))
negated-last [] line e = refl
negated-last (first ∷ lines) line e = ap (λ inner. expression first (N.Not inner))
    (negated-last lines line e)

-- one more sign is put before an expression
pub minus-step : (lines left : List ℕ) (line : ℕ) (e part whole : Expr Name) → minus lines e ≡ whole →
    lines ≡ left ++ line ∷ [] → part ≡ e → minus left (expression line (N.Neg part)) ≡ whole
minus-step lines left line e part whole before popped same =
    ap (λ p. minus left (expression line (N.Neg p))) same ∙ sym (minus-last left line e) ∙
    sym (ap (λ ls. minus ls e) popped) ∙ before

pub negated-step : (lines left : List ℕ) (line : ℕ) (e part whole : Expr Name) → negated lines e ≡ whole →
    lines ≡ left ++ line ∷ [] → part ≡ e → negated left (expression line (N.Not part)) ≡ whole
negated-step lines left line e part whole before popped same =
    ap (λ p. negated left (expression line (N.Not p))) same ∙ sym (negated-last left line e) ∙
    sym (ap (λ ls. negated ls e) popped) ∙ before
