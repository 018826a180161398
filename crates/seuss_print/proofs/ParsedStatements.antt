-- What phrases of statements give.
use Rattle.std.proofs.Common.{◌≡◌, ◌≢◌, ℕ, zero, suc, pred, ◌+◌, ◌≤◌, ◌==◌, Bool, false, List, [], ◌∷◌}
use Rattle.std.proofs.Common.{◌++◌, length, Some, subst, sym, refl, arith}
use Rattle.std.specs.List.{AllByRecursion, flat_map}
use Rattle.seuss_parser.specs.Trees.{listed, small_kind, arrow}
use Rattle.seuss_parser.specs.Words.{as_name, as_symbol, as_one_of}
use Rattle.seuss_parser.specs.Phrases.{Phrase, Many, Optional}
use Rattle.seuss_parser.specs.Grammar.{IsWholeExpression, IsCall, IsLet, IsAssignment, IsBinding}
use Rattle.seuss_parser.specs.Grammar.{IsCallStatement, IsElse, IsIf, IsWhile, IsAnyStatement, IsStatement}
use Rattle.seuss_parser.specs.Grammar.{IsBody, IsPre, IsAlternative, AreAlternatives, max_nesting}
use Rattle.seuss_parser.specs.declared.word.Marked.{Marked}
use Rattle.seuss_parser.specs.declared.symbol.Symbol.{Symbol}
use Rattle.seuss_parser.specs.declared.symbol.Symbol.TheVariants as S
use Rattle.seuss_parser.specs.declared.word.Sort.TheVariants.{Fixed, Name as Named}
use Rattle.seuss_program.specs.WellFormed.{IsSmall, let_kinds}
use Rattle.seuss_program.specs.declared.tree.Name.{Name}
use Rattle.seuss_program.specs.declared.tree.Kind.{Kind}
use Rattle.seuss_program.specs.declared.tree.Expr.{Expr}
use Rattle.seuss_program.specs.declared.tree.Call.{Call}
use Rattle.seuss_program.specs.declared.tree.Pre.{Pre}
use Rattle.seuss_program.specs.declared.tree.Alternative.{Alternative}
use Rattle.seuss_program.specs.declared.tree.Statement.{Statement}
use Rattle.seuss_program.specs.declared.tree.Statement.TheVariants as T
use Rattle.seuss_print.specs.Items.{Item, Space, symbol, bracketed, separated, line}
use Rattle.seuss_print.specs.Expressions.{expression}
use Rattle.seuss_print.specs.Statements.{kind_symbol, binding, call_items, head_line, statement, body}
use Rattle.seuss_print.specs.Statements.{else_of}
use Rattle.seuss_print.specs.Canonical.{alternative, pre_items, arrow_symbol}
use Rattle.seuss_print.specs.Printable.{IsWithinLimit, HasFewMarks, Content, content, around, only, pre_args}
use Rattle.seuss_print.proofs.Lists.{all_append}
use Rattle.seuss_print.proofs.Layers.{contents, content-Let, content-Assign, content-Call, content-If}
use Rattle.seuss_print.proofs.Layers.{content-While, kinds-Let, kinds-Assign, kinds-Call, kinds-If}
use Rattle.seuss_print.proofs.Layers.{kinds-While, printed-Let, printed-Assign, printed-Call, printed-If}
use Rattle.seuss_print.proofs.Layers.{printed-While}
use Rattle.seuss_print.proofs.Costs.{Short, short-append, short-more, short-none, short-cons, short-space}
use Rattle.seuss_print.proofs.Costs.{short-line}
use Rattle.seuss_print.proofs.Gives.{Gives, WordOf, gives-then, word-then, gives-only, gives-either}
use Rattle.seuss_print.proofs.Gives.{gives-optional, gives-many}
use Rattle.seuss_print.proofs.WordSorts.{good-name, in-table, small-kind}
use Rattle.seuss_print.proofs.ParsedLists.{Gave, Always, gives-whole-expression, gives-arguments, gives-row}

-- a name, as the sort of its token
name-good : (a : Name) → WordOf as_name a → IsWithinLimit (Named a.text)
name-good a w = good-name w.word a w.good w.read

kind-small : (kind : Marked Kind) → WordOf (as_one_of small_kind) kind → IsSmall kind.is
kind-small kind w = let found = in-table small_kind w.word kind w.read in small-kind found.0 kind.is found.1

abbrev pub ArgsKept : Call Name → Type 0
ArgsKept call = AllByRecursion HasFewMarks call.args

-- what is known of a statement: it is printed with no more than its words wherever it stands, and keeps the
-- limits
pub record Kept (nesting : ℕ) (s : Statement Name) : Type 0 where
  pub marks : AllByRecursion HasFewMarks (content s).expressions
  pub depth : (content s).depth ≤ nesting
  pub locals : AllByRecursion IsSmall (let_kinds s)

pub record Stated (nesting : ℕ) (s : Statement Name) (left n : ℕ) : Type 0 where
  pub short : (depth : ℕ) → Short (statement s depth) n
  pub kept : Kept nesting s

pub record Bodied (nesting : ℕ) (ss : List (Statement Name)) (left n : ℕ) : Type 0 where
  pub short : (depth : ℕ) → Short (body ss depth) n
  pub kept : AllByRecursion (Kept nesting) ss

-- what is known of an alternative
pub record KeptAlternative (a : Alternative Name) : Type 0 where
  pub cond : HasFewMarks a.cond
  pub pre : AllByRecursion HasFewMarks (pre_args a.pre)
  pub body : AllByRecursion (Kept max_nesting) a.body

-- alternatives, of which there is one at least
pub record Alternatives (as_ : List (Alternative Name)) : Type 0 where
  pub some : as_ ≢ []
  pub kept : AllByRecursion KeptAlternative as_

abbrev pub in_row : List (Alternative Name) → List Item
in_row as_ = flat_map alternative as_

module _ (brackets : ℕ) where
  pub gives-call : (room : ℕ) → Gives (IsCall brackets) room (Gave call_items ArgsKept)
  unfolding IsCall
  gives-call room = word-then as_name _ room _ false (λ target w kept.
      word-then (as_symbol S.Dot) _ room _ false (λ dot v was.
      word-then as_name _ room _ false (λ method u is.
      gives-then _ _ room (Gave (λ (args : List (Expr Name)). bracketed (separated expression args))
      (AllByRecursion HasFewMarks)) _
      (gives-arguments (IsWholeExpression brackets) expression HasFewMarks (gives-whole-expression brackets)
      room) (λ args left n x.
      gives-only _ left _ (record {
        short = short-cons (Named target.text) _ _ (name-good target w) (short-cons (Fixed S.Dot) _ _ tt
            (short-cons (Named method.text) _ _ (name-good method u)
            (short-more _ n (n + 0) (omega arith) x.short)));
        is = x.is;
      })))))

  pub gives-binding : (room : ℕ) → Gives (IsBinding brackets) room
      (Gave (λ (n : Name). binding (Some n)) Always)
  unfolding IsBinding
  gives-binding room = word-then as_name _ room _ false (λ a w kept.
      word-then (as_symbol S.Assign) _ room _ false (λ assign v was.
      gives-only _ room _ (record {
        short = short-cons (Named a.text) _ 1 (name-good a w)
            (short-space _ 1 (short-cons (Fixed S.Assign) _ 0 tt (short-space [] 0 short-none)));
        is = tt;
      })))

  -- a name that a call is bound to, or none
  pub gives-perhaps-binding : (room : ℕ) → Gives (Optional (IsBinding brackets)) room (Gave binding Always)
  gives-perhaps-binding room = gives-optional (IsBinding brackets) room _
      (record { short = short-none; is = tt })
      (record {
        of = λ a pieces left d fine. let x = (gives-binding room).of a pieces left d fine in
            record { short = x.short; is = tt };
      })

  kept-only : (nesting : ℕ) (s : Statement Name) (es : List (Expr Name)) (kinds : List Kind) →
      content s ≡ only es → let_kinds s ≡ kinds →
      AllByRecursion HasFewMarks es → AllByRecursion IsSmall kinds → Kept nesting s
  kept-only nesting s es kinds c k marks locals = record {
    marks = subst (λ (x : Content). AllByRecursion HasFewMarks x.expressions) (sym c) marks;
    depth = subst (λ (x : Content). x.depth ≤ nesting) (sym c) (omega arith);
    locals = subst (λ ks. AllByRecursion IsSmall ks) (sym k) locals;
  }

  gives-let : (nesting room : ℕ) → Gives (IsLet brackets) room (Stated nesting)
  unfolding IsLet
  gives-let nesting room = word-then (as_symbol S.Let) _ room _ false (λ l w0 k0.
      word-then as_name _ room _ false (λ name w k1.
      word-then (as_symbol S.Colon) _ room _ false (λ colon w2 k2.
      word-then (as_one_of small_kind) _ room _ false (λ kind v k3.
      word-then (as_symbol S.Assign) _ room _ false (λ assign w4 k4.
      gives-then _ _ room (Gave expression HasFewMarks) _ (gives-whole-expression brackets room)
      (λ value left n x.
      gives-only _ left _ (record {
        short = λ depth. subst (λ items. Short items (suc (suc (suc (suc (suc (n + 0)))))))
            (sym (printed-Let (T.Let name kind.is value) depth name kind.is value refl))
            (short-line depth _ _
            (short-cons (Fixed S.Let) _ _ tt
            (short-space _ _ (short-cons (Named name.text) _ _ (name-good name w)
            (short-space _ _ (short-cons (Fixed S.Colon) _ _ tt
            (short-space _ _ (short-cons (Fixed (kind_symbol kind.is)) _ _ tt
            (short-space _ _ (short-cons (Fixed S.Assign) _ _ tt
            (short-space _ _ (short-more _ n (n + 0) (omega arith) x.short))))))))))));
        kept = kept-only nesting _ (value ∷ []) (kind.is ∷ []) (content-Let _ name kind.is value refl)
            (kinds-Let name kind.is value) (x.is, tt) (kind-small kind v, tt);
      })))))))

  gives-assignment : (nesting room : ℕ) → Gives (IsAssignment brackets) room (Stated nesting)
  unfolding IsAssignment
  gives-assignment nesting room = word-then as_name _ room _ false (λ name w k1.
      word-then (as_symbol S.Assign) _ room _ false (λ assign w4 k4.
      gives-then _ _ room (Gave expression HasFewMarks) _ (gives-whole-expression brackets room)
      (λ value left n x.
      gives-only _ left _ (record {
        short = λ depth. subst (λ items. Short items (suc (suc (n + 0))))
            (sym (printed-Assign (T.Assign name value) depth name value refl))
            (short-line depth _ _ (short-cons (Named name.text) _ _ (name-good name w)
            (short-space _ _ (short-cons (Fixed S.Assign) _ _ tt
            (short-space _ _ (short-more _ n (n + 0) (omega arith) x.short))))));
        kept = kept-only nesting _ (value ∷ []) [] (content-Assign _ name value refl)
            (kinds-Assign name value) (x.is, tt) tt;
      }))))

  gives-call-statement : (nesting room : ℕ) → Gives (IsCallStatement brackets) room (Stated nesting)
  unfolding IsCallStatement
  gives-call-statement nesting room = gives-then _ _ room (Gave binding Always) _
      (gives-perhaps-binding room) (λ bind mid n x.
      gives-then _ _ mid (Gave call_items ArgsKept) _ (gives-call mid) (λ call left m y.
      gives-only _ left _ (record {
        short = λ depth. subst (λ items. Short items (n + (m + 0)))
            (sym (printed-Call (T.Call bind call) depth bind call refl))
            (short-line depth _ _
            (short-more _ (n + m) (n + (m + 0)) (omega arith)
            (short-append (binding bind) (call_items call) n m x.short y.short)));
        kept = kept-only nesting _ call.args [] (content-Call _ bind call refl) (kinds-Call bind call) y.is
            tt;
      })))

  -- what statements contain together
  joined-kept : (nesting : ℕ) (ss : List (Statement Name)) → AllByRecursion (Kept nesting) ss →
      AllByRecursion HasFewMarks (contents ss).expressions × ((contents ss).depth ≤ nesting)
  joined-kept nesting [] kept = (tt, omega arith)
  joined-kept nesting (s ∷ ss) kept =
      let others = joined-kept nesting ss kept.1 in (
        all_append HasFewMarks (content s).expressions (contents ss).expressions kept.0.marks others.0,
        omega
            (arith, kept.0.depth, others.1),
      )

  pub all-locals : (nesting : ℕ) (ss : List (Statement Name)) → AllByRecursion (Kept nesting) ss →
      AllByRecursion IsSmall (flat_map let_kinds ss)
  all-locals nesting [] kept = tt
  all-locals nesting (s ∷ ss) kept = all_append IsSmall (let_kinds s) (flat_map let_kinds ss) kept.0.locals
      (all-locals nesting ss kept.1)

  -- where one more may stand around, it may stand inside so many fewer
  more-room : (nesting k : ℕ) → (nesting == 0) ≡ false → k ≤ pred nesting → suc k ≤ nesting
  more-room zero k h below = absurd (grind (arith, h))
  more-room (suc n) k h below = omega (arith, below)

  kept-around : (nesting : ℕ) (s : Statement Name) (cond : Expr Name) (inside : List (Statement Name))
      (kinds : List Kind) →
      (nesting == 0) ≡ false → content s ≡ around cond (contents inside) → let_kinds s ≡ kinds →
      HasFewMarks cond → AllByRecursion (Kept (pred nesting)) inside → AllByRecursion IsSmall kinds →
      Kept nesting s
  kept-around nesting s cond inside kinds h c k marks kept locals =
      let all = joined-kept (pred nesting) inside kept in record {
        marks = subst (λ (x : Content). AllByRecursion HasFewMarks x.expressions) (sym c) (marks, all.0);
        depth = subst (λ (x : Content). x.depth ≤ nesting) (sym c)
            (more-room nesting (contents inside).depth h all.1);
        locals = subst (λ ks. AllByRecursion IsSmall ks) (sym k) locals;
      }

  head-short : (first last : Symbol) (cond : Expr Name) (depth n : ℕ) → Short (expression cond) n →
      Short (head_line first cond last depth) (suc (suc n))
  head-short first last cond depth n a =
      short-line depth _ _ (short-cons (Fixed first) _ _ tt (short-space _ _
      (short-more _ (n + 1) (suc n) (omega arith)
      (short-append (expression cond) (Space ∷ symbol last ∷ []) n 1 a
      (short-space _ 1 (short-cons (Fixed last) [] 0 tt short-none))))))

  end-short : (s : Symbol) (depth : ℕ) → Short (line depth (symbol s ∷ [])) 1
  end-short s depth = short-line depth (symbol s ∷ []) 1 (short-cons (Fixed s) [] 0 tt short-none)

  -- statements inside others, of which so many more may stand in one another
  module _ (nesting : ℕ) (Block : Phrase (List (Statement Name)))
      (block : (room : ℕ) → Gives Block room (Bodied (pred nesting))) where
    -- the words of an `else` and its block, which may be empty
    record Elsed (ss : List (Statement Name)) (left n : ℕ) : Type 0 where
      short : (depth : ℕ) → Short (else_of ss depth) n
      kept : AllByRecursion (Kept (pred nesting)) ss

    else-short : (ss : List (Statement Name)) (depth n : ℕ) → ((depth : ℕ) → Short (body ss depth) n) →
        Short (else_of ss depth) (suc n)
    else-short [] depth n a = short-more [] 0 (suc n) (omega arith) short-none
    else-short (s ∷ ss) depth n a = short-more _ (1 + n) (suc n) (omega arith)
        (short-append (line depth (symbol S.Else ∷ [])) (body (s ∷ ss) (depth + 1)) 1 n
        (end-short S.Else depth) (a (depth + 1)))

    gives-else : (room : ℕ) → Gives (IsElse brackets (nesting == 0) Block) room
        (λ ss left n. Elsed ss left n)
    unfolding IsElse
    gives-else room = word-then (as_symbol S.Else) _ room _ false (λ l w k. record {
      of = λ ss pieces left d fine.
          let x = (block room).of ss pieces left d fine in
          record { short = λ depth. else-short ss depth (length pieces) x.short; kept = x.kept };
    })

    gives-if : (room : ℕ) → Gives (IsIf brackets (nesting == 0) Block) room (Stated nesting)
    unfolding IsIf
    gives-if room = word-then (as_symbol S.If) _ room _ (nesting == 0) (λ l w0 inside.
        gives-then _ _ room (Gave expression HasFewMarks) _ (gives-whole-expression brackets room)
        (λ cond r1 n x.
        word-then (as_symbol S.Then) _ r1 _ false (λ t w1 k1.
        gives-then _ _ r1 (Bodied (pred nesting)) _ (block r1) (λ holds r2 m y.
        gives-then _ _ r2 (λ fails left n. Elsed (listed fails) left n) _
        (gives-optional _ r2 _ (record { short = λ depth. short-none; kept = tt }) (gives-else r2))
        (λ fails r3 k z.
        word-then (as_symbol S.End) _ r3 _ false (λ e w2 k2.
        gives-only _ r3 _ (record {
          short = λ depth. subst (λ items. Short items (suc (n + suc (m + (k + 1)))))
              (sym (printed-If (T.If cond holds (listed fails)) depth cond holds (listed fails) refl))
              (short-more _ (suc (suc n) + m + k + 1) _ (omega arith)
              (short-append (head_line S.If cond S.Then depth ++ body holds (depth + 1)
              ++ else_of (listed fails) depth) (line depth (symbol S.End ∷ [])) (suc (suc n) + m + k) 1
              (short-append (head_line S.If cond S.Then depth ++ body holds (depth + 1))
              (else_of (listed fails) depth) (suc (suc n) + m) k
              (short-append (head_line S.If cond S.Then depth) (body holds (depth + 1)) (suc (suc n)) m
              (head-short S.If S.Then cond depth n x.short) (y.short (depth + 1)))
              (z.short depth)) (end-short S.End depth)));
          kept = kept-around nesting _ cond (holds ++ listed fails) _ inside
              (content-If _ cond holds (listed fails) refl) (kinds-If cond holds (listed fails)) x.is
              (all_append (Kept (pred nesting)) holds (listed fails) y.kept z.kept)
              (all_append IsSmall (flat_map let_kinds holds) (flat_map let_kinds (listed fails))
              (all-locals (pred nesting) holds y.kept)
              (all-locals (pred nesting) (listed fails) z.kept));
        })))))))

    gives-while : (room : ℕ) → Gives (IsWhile brackets (nesting == 0) Block) room (Stated nesting)
    unfolding IsWhile
    gives-while room = word-then (as_symbol S.While) _ room _ (nesting == 0) (λ l w0 inside.
        gives-then _ _ room (Gave expression HasFewMarks) _ (gives-whole-expression brackets room)
        (λ cond r1 n x.
        word-then (as_symbol S.Do) _ r1 _ false (λ t w1 k1.
        gives-then _ _ r1 (Bodied (pred nesting)) _ (block r1) (λ turn r2 m y.
        word-then (as_symbol S.End) _ r2 _ false (λ e w2 k2.
        gives-only _ r2 _ (record {
          short = λ depth. subst (λ items. Short items (suc (n + suc (m + 1))))
              (sym (printed-While (T.While cond turn) depth cond turn refl))
              (short-more _ (suc (suc n) + m + 1) _ (omega arith)
              (short-append (head_line S.While cond S.Do depth ++ body turn (depth + 1))
              (line depth (symbol S.End ∷ [])) (suc (suc n) + m) 1
              (short-append (head_line S.While cond S.Do depth) (body turn (depth + 1)) (suc (suc n)) m
              (head-short S.While S.Do cond depth n x.short) (y.short (depth + 1)))
              (end-short S.End depth)));
          kept = kept-around nesting _ cond turn _ inside (content-While _ cond turn refl)
              (kinds-While cond turn) x.is y.kept (all-locals (pred nesting) turn y.kept);
        }))))))

    gives-any-statement : (room : ℕ) → Gives (IsAnyStatement brackets (nesting == 0) Block) room
        (Stated nesting)
    unfolding IsAnyStatement
    gives-any-statement room =
        gives-either _ _ room _ (gives-let nesting room)
        (gives-either _ _ room _ (gives-assignment nesting room)
        (gives-either _ _ room _ (gives-call-statement nesting room)
        (gives-either _ _ room _ (gives-if room) (gives-while room))))

  gives-block : (nesting : ℕ) (P : Phrase (Statement Name)) → ((room : ℕ) → Gives P room (Stated nesting)) →
      (room : ℕ) → Gives (Many P) room (Bodied nesting)
  gives-block nesting P g room = gives-many P (λ room. Stated nesting) (λ room. Bodied nesting) g
      (λ room. record { short = λ depth. short-none; kept = tt })
      (λ s ss room mid left n m x xs. record {
        short = λ depth. short-append (statement s depth) (body ss depth) n m (x.short depth)
            (xs.short depth);
        kept = (x.kept, xs.kept);
      }) room

  pub gives-statement : (blocks nesting room : ℕ) →
      Gives (IsStatement brackets blocks nesting) room (Stated nesting)
  gives-statement zero nesting room = record { of = λ value pieces left d fine. absurd d }
  gives-statement (suc blocks) nesting room =
      gives-any-statement nesting (Many (IsStatement brackets blocks (pred nesting)))
      (gives-block (pred nesting) (IsStatement brackets blocks (pred nesting))
      (gives-statement blocks (pred nesting))) room

  pub gives-body : (blocks room : ℕ) → Gives (IsBody brackets blocks) room (Bodied max_nesting)
  gives-body blocks room = gives-block max_nesting (IsStatement brackets blocks max_nesting)
      (gives-statement blocks max_nesting) room

  -- the call before a body
  pub gives-pre : (room : ℕ) → Gives (IsPre brackets) room
      (Gave (λ (pre : Pre Name). pre_items (Some pre)) (λ pre. ArgsKept pre.call))
  unfolding IsPre
  gives-pre room = word-then (as_symbol S.Semicolon) _ room _ false (λ l w k.
      gives-then _ _ room (Gave binding Always) _ (gives-perhaps-binding room) (λ bind mid n x.
      gives-then _ _ mid (Gave call_items ArgsKept) _ (gives-call mid) (λ call left m y.
      gives-only _ left _ (record {
        short = short-space _ _ (short-cons (Fixed S.Semicolon) _ _ tt (short-space _ _
            (short-more _ (n + m) (n + (m + 0)) (omega arith)
            (short-append (binding bind) (call_items call) n m x.short y.short))));
        is = y.is;
      }))))

  arrow-short : (b : Bool) → Short (Space ∷ symbol (arrow_symbol b) ∷ []) 1
  arrow-short b = short-space _ 1 (short-cons (Fixed (arrow_symbol b)) [] 0 tt short-none)

  module _ (blocks : ℕ) where
    pub gives-alternative : (room : ℕ) → Gives (IsAlternative brackets blocks) room
        (Gave alternative KeptAlternative)
    unfolding IsAlternative
    gives-alternative room = word-then (as_symbol S.When) _ room _ false (λ line_ w k.
        gives-then _ _ room (Gave expression HasFewMarks) _ (gives-whole-expression brackets room)
        (λ cond r1 n x.
        gives-then _ _ r1 (Gave pre_items (λ pre. AllByRecursion HasFewMarks (pre_args pre))) _
        (gives-optional _ r1 _ (record { short = short-none; is = tt }) (record {
          of = λ pre pieces left d fine.
              let z = (gives-pre r1).of pre pieces left d fine in record { short = z.short; is = z.is };
        })) (λ pre r2 m y.
        word-then (as_one_of arrow) _ r2 _ false (λ positive v k2.
        gives-then _ _ r2 (Bodied max_nesting) _ (gives-body blocks r2) (λ ss left j z.
        gives-only _ left _ (record {
          short = short-more _ (suc (n + m + 1) + j) _ (omega arith)
              (short-append (line 2
              (symbol S.When ∷ Space ∷ expression cond ++ pre_items pre ++ Space
              ∷ symbol (arrow_symbol positive.is) ∷ [])) (body ss 3) (suc (n + m + 1)) j
              (short-line 2 _ _ (short-cons (Fixed S.When) _ _ tt (short-space _ _
              (short-append (expression cond ++ pre_items pre)
              (Space ∷ symbol (arrow_symbol positive.is) ∷ []) (n + m) 1
              (short-append (expression cond) (pre_items pre) n m x.short y.short)
              (arrow-short positive.is)))))
              (z.short 3));
          is = record { cond = x.is; pre = y.is; body = z.kept };
        }))))))

    pub gives-alternatives : (room : ℕ) → Gives (AreAlternatives brackets blocks) room
        (Gave in_row Alternatives)
    unfolding AreAlternatives
    gives-alternatives room = gives-then _ _ room (Gave alternative KeptAlternative) _
        (gives-alternative room) (λ a mid n x.
        gives-then _ _ mid (Gave in_row (AllByRecursion KeptAlternative)) _
        (gives-row (IsAlternative brackets blocks) alternative KeptAlternative gives-alternative mid)
        (λ others left m xs.
        gives-only _ left _ (record {
          short = short-more _ (n + m) (n + (m + 0)) (omega arith)
              (short-append (alternative a) (in_row others) n m x.short xs.short);
          is = record { some = λ h. cc; kept = (x.is, xs.is) };
        })))
