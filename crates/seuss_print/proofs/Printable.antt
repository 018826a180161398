-- A tree that is read from tokens within their limits is printable.
use Rattle.std.proofs.Common.{◌≡◌, ℕ, false, List, [], ◌∷◌, All, Some, subst, sym, length, ◌≤◌, arith, ap}
use Rattle.std.proofs.Common.{suc, refl}
use Rattle.std.specs.List.{AllByRecursion, flat_map}
use Rattle.std.proofs.lemmas.List.Elements.{recursion_from_All, All-from_recursion}
use Rattle.seuss_text.specs.Words.{kind_of}
use Rattle.seuss_text.specs.Rows.{token_text}
use Rattle.seuss_text.specs.Limits.{IsInLimit, IsTokenInLimit, AreInLimits}
use Rattle.seuss_text.specs.declared.token.Token.{Token}
use Rattle.seuss_text.specs.declared.token.TokenKind.{TokenKind}
use Rattle.seuss_text.specs.declared.token.TokenKind.TheVariants as K
use Rattle.seuss_parser.specs.Words.{sort_of, words_of}
use Rattle.seuss_parser.specs.Phrases.{Piece, words_in}
use Rattle.seuss_parser.specs.Spelling.{AreProgram}
use Rattle.seuss_parser.specs.Grammar.{max_nesting}
use Rattle.seuss_parser.specs.declared.word.Word.{Word}
use Rattle.seuss_program.specs.WellFormed.{IsSmall, let_kinds, HasSmallLocals, AreWellFormed, HasWellFormed}
use Rattle.seuss_program.specs.WellFormed.{IsWellFormedProcedure, IsWellFormedCat}
use Rattle.seuss_program.specs.declared.tree.Name.{Name}
use Rattle.seuss_program.specs.declared.tree.Param.{Param}
use Rattle.seuss_program.specs.declared.tree.Statement.{Statement}
use Rattle.seuss_program.specs.declared.tree.Alternative.{Alternative}
use Rattle.seuss_program.specs.declared.tree.Form.{Form}
use Rattle.seuss_program.specs.declared.tree.Form.TheVariants as F
use Rattle.seuss_program.specs.declared.tree.Proc.{Proc}
use Rattle.seuss_program.specs.declared.tree.Cat.{Cat}
use Rattle.seuss_program.specs.declared.tree.Tree.{Tree}
use Rattle.seuss_print.specs.Items.{tokens_in}
use Rattle.seuss_print.specs.Canonical.{program}
use Rattle.seuss_print.specs.Printable.{IsWithinLimit, HasFewMarks, content, IsKeptStatement}
use Rattle.seuss_print.specs.Printable.{IsKeptAlternative, IsKeptForm, IsKeptCat, IsPrintable, pre_args}
use Rattle.seuss_print.proofs.Lists.{all_as, all_both}
use Rattle.seuss_print.proofs.Gives.{AreFine}
use Rattle.seuss_print.proofs.ParsedStatements.{Kept, KeptAlternative, Alternatives, all-locals}
use Rattle.seuss_print.proofs.ParsedTrees.{FineForm, FineProcedure, FineCat, gives-program}
use Rattle.seuss_print.proofs.PrintedNumbers.{ProcedureFits, CatFits, program-numbers}

good-sort : (kind : TokenKind) (bytes : List ℕ) → kind_of bytes ≡ Some kind → IsInLimit kind bytes →
    IsWithinLimit (sort_of kind bytes)
good-sort K.Name bytes h limit = (h, limit)
good-sort K.Number bytes h limit = limit
good-sort K.Sign bytes h limit = tt
good-sort K.Keyword bytes h limit = tt

abbrev GoodWord : Word → Type 0
GoodWord word = IsWithinLimit word.sort

good-words : (text : List ℕ) (tokens : List Token) →
    AllByRecursion (λ token. kind_of (token_text text token) ≡ Some token.kind) tokens →
    AllByRecursion (λ token. IsTokenInLimit text token) tokens →
    AllByRecursion GoodWord (words_of text tokens)
good-words text [] kinds limits = tt
good-words text (token ∷ tokens) kinds limits =
    (good-sort token.kind (token_text text token) kinds.0 limits.0, good-words text tokens kinds.1 limits.1)

are-fine : (pieces : List Piece) → AllByRecursion (λ (p : Piece). p.passes ≡ false) pieces →
    AllByRecursion GoodWord (words_in pieces) → AreFine pieces
are-fine [] kept good = tt
are-fine (p ∷ ps) kept good = (record { kept = kept.0; good = good.0 }, are-fine ps kept.1 good.1)

kept-statement : (s : Statement Name) → Kept max_nesting s → IsKeptStatement s
kept-statement s kept = record
    { marks = All-from_recursion HasFewMarks (content s).expressions kept.marks; nesting = kept.depth }

kept-body : (ss : List (Statement Name)) → AllByRecursion (Kept max_nesting) ss → All IsKeptStatement ss
kept-body ss kept = All-from_recursion IsKeptStatement ss
    (all_as (Kept max_nesting) IsKeptStatement kept-statement ss kept)

small-locals : (ss : List (Statement Name)) → AllByRecursion (Kept max_nesting) ss → HasSmallLocals ss
small-locals ss kept = All-from_recursion IsSmall (flat_map let_kinds ss) (all-locals 0 max_nesting ss kept)

kept-alternative : (a : Alternative Name) → KeptAlternative a → IsKeptAlternative a
kept-alternative a kept = record {
  cond = kept.cond;
  pre = All-from_recursion HasFewMarks (pre_args a.pre) kept.pre;
  body = kept-body a.body kept.body;
}

kept-alternatives : (as_ : List (Alternative Name)) → Alternatives as_ → All IsKeptAlternative as_
kept-alternatives as_ fine = All-from_recursion IsKeptAlternative as_
    (all_as KeptAlternative IsKeptAlternative kept-alternative as_ fine.kept)

formed-alternatives : (as_ : List (Alternative Name)) → Alternatives as_ → AreWellFormed as_
formed-alternatives as_ fine = record {
  some = fine.some;
  bodies = All-from_recursion (λ (a : Alternative Name). HasSmallLocals a.body) as_
      (all_as KeptAlternative (λ (a : Alternative Name). HasSmallLocals a.body)
      (λ a kept. small-locals a.body kept.body) as_ fine.kept);
}

kept-form : (q : Proc Name) (form : Form Name) → FineForm q form → IsKeptForm form
kept-form q (F.Total ss) fine = kept-body ss fine
kept-form q (F.Partial as_) fine = kept-alternatives as_ fine
kept-form q (F.Action as_) fine = kept-alternatives as_ fine.2

formed-form : (q : Proc Name) (form : Form Name) → FineForm q form → HasWellFormed q form
formed-form q (F.Total ss) fine = small-locals ss fine
formed-form q (F.Partial as_) fine = formed-alternatives as_ fine
formed-form q (F.Action as_) fine =
    (formed-alternatives as_ fine.2, record { params = fine.0; gives = fine.1 })

formed-procedure : (q : Proc Name) → FineProcedure q → ProcedureFits q → IsWellFormedProcedure q
formed-procedure q fine fits = record {
  params = All-from_recursion (λ (x : Param). IsSmall x.kind) q.params fine.params;
  form = formed-form q q.form fine.form;
  numbers = fits;
}

formed-cat : (c : Cat Name) → FineCat c → CatFits c → IsWellFormedCat c
formed-cat c fine fits = record {
  starts = All-from_recursion _ c.vars fine.vars;
  sizes = All-from_recursion _ c.vars fits.sizes;
  procs = All-from_recursion IsWellFormedProcedure c.procs
      (all_both FineProcedure ProcedureFits IsWellFormedProcedure formed-procedure c.procs fine.procs
      fits.procs);
}

kept-cat : (c : Cat Name) → FineCat c → IsKeptCat c
kept-cat c fine = record {
  procs = All-from_recursion (λ (q : Proc Name). IsKeptForm q.form) c.procs
      (all_as FineProcedure (λ (q : Proc Name). IsKeptForm q.form) (λ q f. kept-form q q.form f.form)
      c.procs fine.procs);
}

pub printable : (text : List ℕ) (tokens : List Token) (tree : Tree) →
    All (λ token. kind_of (token_text text token) ≡ Some token.kind) tokens →
    AreInLimits text tokens → AreProgram (words_of text tokens) tree → IsPrintable tree
printable text tokens tree kinds limits p =
    let good = good-words text tokens (recursion_from_All _ tokens kinds)
    (recursion_from_All _ tokens limits) in
    let fine : AreFine p.pieces = are-fine p.pieces
    (recursion_from_All (λ (x : Piece). x.passes ≡ false) p.pieces p.kept)
    (subst (λ words. AllByRecursion GoodWord words) (sym p.words_are) good) in
    let x = (gives-program p.derives.brackets p.derives.blocks 0).of tree p.pieces p.derives.unused
    p.derives.derives fine in
    record {
      formed = All-from_recursion IsWellFormedCat tree.cats
          (all_both FineCat CatFits IsWellFormedCat formed-cat tree.cats x.is
          (program-numbers tree x.short.good));
      tokens = All-from_recursion IsWithinLimit (tokens_in (program tree)) x.short.good;
      kept = All-from_recursion IsKeptCat tree.cats (all_as FineCat IsKeptCat kept-cat tree.cats x.is);
    }

-- what the words of a program give
pub program-words : (text : List ℕ) (tokens : List Token) (tree : Tree) →
    All (λ token. kind_of (token_text text token) ≡ Some token.kind) tokens →
    AreInLimits text tokens → AreProgram (words_of text tokens) tree →
    length (tokens_in (program tree)) ≤ length tokens
program-words text tokens tree kinds limits p =
    let good = good-words text tokens (recursion_from_All _ tokens kinds)
    (recursion_from_All _ tokens limits) in
    let fine : AreFine p.pieces = are-fine p.pieces
    (recursion_from_All (λ (x : Piece). x.passes ≡ false) p.pieces p.kept)
    (subst (λ words. AllByRecursion GoodWord words) (sym p.words_are) good) in
    let x = (gives-program p.derives.brackets p.derives.blocks 0).of tree p.pieces p.derives.unused
    p.derives.derives fine in
    omega (
      arith,
      x.short.few,
      piece-count p.pieces,
      token-count text tokens,
      ap
          (λ (ws : List Word). length ws) p.words_are,
    )
  where
    piece-count : (ps : List Piece) → length (words_in ps) ≡ length ps
    piece-count [] = refl
    piece-count (p ∷ ps) = ap (λ n. suc n) (piece-count ps)

    token-count : (text : List ℕ) (ts : List Token) → length (words_of text ts) ≡ length ts
    token-count text [] = refl
    token-count text (t ∷ ts) = ap (λ n. suc n) (token-count text ts)
