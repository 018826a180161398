-- The canonical text of a printable tree spells this tree, but for lines.
use Rattle.std.proofs.Common.{List, [], ◌∷◌, All, sym, arith}
use Rattle.std.specs.List.{AllByRecursion, flat_map}
use Rattle.std.proofs.lemmas.List.Elements.{recursion_from_All, All-from_recursion}
use Rattle.seuss_text.specs.Limits.{IsTokenInLimit}
use Rattle.seuss_parser.specs.Grammar.{max_nesting}
use Rattle.seuss_parser.specs.Spelling.{Spells}
use Rattle.seuss_parser.specs.Words.{words_of}
use Rattle.seuss_program.specs.WellFormed.{IsSmall, let_kinds, HasSmallLocals, AreWellFormed, HasWellFormed}
use Rattle.seuss_program.specs.WellFormed.{IsWellFormedProcedure, IsWellFormedCat}
use Rattle.seuss_program.specs.declared.tree.Name.{Name}
use Rattle.seuss_program.specs.declared.tree.Param.{Param}
use Rattle.seuss_program.specs.declared.tree.Statement.{Statement}
use Rattle.seuss_program.specs.declared.tree.Alternative.{Alternative}
use Rattle.seuss_program.specs.declared.tree.Form.{Form}
use Rattle.seuss_program.specs.declared.tree.Form.TheVariants as F
use Rattle.seuss_program.specs.declared.tree.Proc.{Proc}
use Rattle.seuss_program.specs.declared.tree.Cat.{Cat}
use Rattle.seuss_program.specs.declared.tree.Tree.{Tree}
use Rattle.seuss_print.specs.Items.{tokens_in}
use Rattle.seuss_print.specs.Canonical.{program, canonical_text}
use Rattle.seuss_print.specs.Lines.{SameUpToLines}
use Rattle.seuss_print.specs.Printable.{IsWithinLimit, HasFewMarks, content, IsKeptStatement}
use Rattle.seuss_print.specs.Printable.{IsKeptAlternative, IsKeptForm, IsKeptCat, IsPrintable, pre_args}
use Rattle.seuss_print.proofs.Lists.{all_left, all_right}
use Rattle.seuss_print.proofs.ParsedStatements.{Kept, KeptAlternative, Alternatives}
use Rattle.seuss_print.proofs.ParsedTrees.{FineForm, FineProcedure, FineCat}
use Rattle.seuss_print.proofs.Makes.{PassesNone}
use Rattle.seuss_print.proofs.MadeTrees.{depth_of_tree, made-program}
use Rattle.seuss_print.proofs.PrintedRows.{printed-tokens}
use Rattle.seuss_print.proofs.ApartTrees.{program-apart}

kept-each : (ss : List (Statement Name)) → AllByRecursion IsKeptStatement ss →
    AllByRecursion IsSmall (flat_map let_kinds ss) → AllByRecursion (Kept max_nesting) ss
kept-each [] kept locals = tt
kept-each (s ∷ ss) kept locals = (
  record {
    marks = recursion_from_All HasFewMarks (content s).expressions kept.0.marks;
    depth = kept.0.nesting;
    locals = all_left IsSmall (let_kinds s) (flat_map let_kinds ss) locals;
  },
  kept-each ss kept.1 (all_right IsSmall (let_kinds s) (flat_map let_kinds ss) locals),
)

kept-body : (ss : List (Statement Name)) → All IsKeptStatement ss → HasSmallLocals ss →
    AllByRecursion (Kept max_nesting) ss
kept-body ss kept locals = kept-each ss (recursion_from_All IsKeptStatement ss kept)
    (recursion_from_All IsSmall (flat_map let_kinds ss) locals)

kept-alternatives : (as_ : List (Alternative Name)) → AllByRecursion IsKeptAlternative as_ →
    AllByRecursion (λ (a : Alternative Name). HasSmallLocals a.body) as_ →
    AllByRecursion KeptAlternative as_
kept-alternatives [] kept locals = tt
kept-alternatives (a ∷ as_) kept locals = (
  record {
    cond = kept.0.cond;
    pre = recursion_from_All HasFewMarks (pre_args a.pre) kept.0.pre;
    body =
        kept-body a.body kept.0.body locals.0;
  },
  kept-alternatives as_ kept.1 locals.1,
)

alternatives-fine : (as_ : List (Alternative Name)) → All IsKeptAlternative as_ → AreWellFormed as_ →
    Alternatives as_
alternatives-fine as_ kept formed = record {
  some = formed.some;
  kept = kept-alternatives as_ (recursion_from_All IsKeptAlternative as_ kept)
      (recursion_from_All (λ (a : Alternative Name). HasSmallLocals a.body) as_ formed.bodies);
}

form-fine : (q : Proc Name) (form : Form Name) → IsKeptForm form → HasWellFormed q form → FineForm q form
form-fine q (F.Total ss) kept formed = kept-body ss kept formed
form-fine q (F.Partial as_) kept formed = alternatives-fine as_ kept formed
form-fine q (F.Action as_) kept formed =
    (formed.1.params, formed.1.gives, alternatives-fine as_ kept formed.0)

procedures-fine : (qs : List (Proc Name)) → AllByRecursion (λ (q : Proc Name). IsKeptForm q.form) qs →
    AllByRecursion IsWellFormedProcedure qs → AllByRecursion FineProcedure qs
procedures-fine [] kept formed = tt
procedures-fine (q ∷ qs) kept formed = (
  record {
    params = recursion_from_All (λ (x : Param). IsSmall x.kind) q.params formed.0.params;
    form =
        form-fine q q.form kept.0 formed.0.form;
  },
  procedures-fine qs kept.1 formed.1,
)

cats-fine : (cs : List (Cat Name)) → AllByRecursion IsKeptCat cs → AllByRecursion IsWellFormedCat cs →
    AllByRecursion FineCat cs
cats-fine [] kept formed = tt
cats-fine (c ∷ cs) kept formed = (
  record {
    vars = recursion_from_All _ c.vars formed.0.starts;
    procs = procedures-fine c.procs
        (recursion_from_All (λ (q : Proc Name). IsKeptForm q.form) c.procs kept.0.procs)
        (recursion_from_All IsWellFormedProcedure c.procs formed.0.procs);
  },
  cats-fine cs kept.1 formed.1,
)

pub spelled : (tree : Tree) → IsPrintable tree → (other : Tree) × Spells (canonical_text tree) other
    × SameUpToLines tree other
spelled tree is =
    let good = recursion_from_All IsWithinLimit (tokens_in (program tree)) is.tokens in
    let fine = cats-fine tree.cats (recursion_from_All IsKeptCat tree.cats is.kept)
    (recursion_from_All IsWellFormedCat tree.cats is.formed) in
    let found = printed-tokens (program tree) (program-apart tree good []) good in
    let made = (made-program tree fine).of (words_of (canonical_text tree) found.tokens) found.sorts 0 0
    (omega arith) in (
      made.other,
      record {
        tokens = found.tokens;
        are_tokens = found.are;
        in_limits = All-from_recursion (λ token. IsTokenInLimit (canonical_text tree) token) found.tokens
            found.limits;
        derives = record {
          pieces = made.pieces;
          derives = record {
            brackets = depth_of_tree tree;
            blocks = depth_of_tree tree;
            unused = 0;
            derives = made.derives;
          };
          kept = All-from_recursion PassesNone made.pieces made.kept;
          words_are = made.words_are;
        };
      },
      sym made.same,
    )
