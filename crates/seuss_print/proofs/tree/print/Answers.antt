use Rattle.std.proofs.Common.{List, ℕ, ◌++◌, sym, ap, ◌∙◌, subst}
use Rattle.seuss_parser.specs.Spelling.{Spells}
use Rattle.seuss_program.specs.declared.tree.Tree.{Tree as Parsed}
use Rattle.seuss_print.specs.Canonical.{canonical_text}
use Rattle.seuss_print.specs.Lines.{SameUpToLines}
use Rattle.seuss_print.proofs.Spelled.{spelled}
use Rattle.seuss_print.proofs.tree.print.Goals as goal

pub returns-clause-spells : goal.returns-clause-spells
returns-clause-spells c =
    subst (λ (bytes : List ℕ). (other : Parsed) × Spells bytes other × SameUpToLines c.args.tree.now other)
    (sym (c.in_ok-push_tree.ensures ∙ ap (λ (bytes : List ℕ). bytes ++ canonical_text c.args.tree.now)
    c.new-text.ensures)) (spelled c.args.tree.now c.requires)
