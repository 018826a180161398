-- Reading statements and alternatives tells of those of the grammar.
use Rattle.std.proofs.Common.{◌≡◌, ℕ, zero, suc, pred, ◌≤◌, ◌<◌, ◌==◌, Bool, true, false, List, [], refl}
use Rattle.std.proofs.Common.{subst, Option, arith, inl, inr}
use Rattle.std.proofs.lemmas.List.Elements.{All-head}
use Rattle.seuss_parser.specs.Phrases.{Piece, AreKept, Phrase, Either, Many, OneWord}
use Rattle.seuss_parser.specs.Readings.{Reading, either, many}
use Rattle.seuss_parser.specs.Words.{as_symbol, as_name, as_one_of}
use Rattle.seuss_parser.specs.Grammar.{IsLet, IsAssignment}
use Rattle.seuss_parser.specs.Grammar.{IsCallStatement, IsElse, IsIf, IsWhile, IsAnyStatement}
use Rattle.seuss_parser.specs.Grammar.{IsStatement, IsBody}
use Rattle.seuss_parser.specs.Grammar.{IsPre, IsAlternative, AreAlternatives, max_nesting}
use Rattle.seuss_parser.specs.StatementReading.{read_let, read_named, read_else, read_if, read_while}
use Rattle.seuss_parser.specs.StatementReading.{read_any_statement, read_statement, most_blocks}
use Rattle.seuss_parser.specs.StatementReading.{read_body, read_pre}
use Rattle.seuss_parser.specs.StatementReading.{read_alternative, read_alternatives}
use Rattle.seuss_parser.specs.Fronts.{begins_with, begins_with_name, begins_statement}
use Rattle.seuss_parser.specs.Trees.{small_kind, arrow, with_first, listed}
use Rattle.seuss_parser.specs.declared.symbol.Symbol.TheVariants as S
use Rattle.seuss_parser.specs.declared.word.Word.{Word}
use Rattle.seuss_program.specs.declared.tree.Name.{Name}
use Rattle.seuss_program.specs.declared.tree.Statement.{Statement}
use Rattle.seuss_program.specs.declared.tree.Statement.TheVariants as T
use Rattle.seuss_parser.proofs.Sets.{Sorts, Part, part-self, part-everything, everything, the_symbol}
use Rattle.seuss_parser.proofs.Sets.{the_names, joined}
use Rattle.seuss_parser.proofs.Tells.{Reads, Sample, Firsts, Leads}
use Rattle.seuss_parser.proofs.WordReads.{reads-word}
use Rattle.seuss_parser.proofs.ChoiceReads.{narrower, reads-as, reads-then, reads-then_at, reads-either}
use Rattle.seuss_parser.proofs.ChoiceReads.{sample-either}
use Rattle.seuss_parser.proofs.RepeatReads.{reads-many, reads-optional}
use Rattle.seuss_parser.proofs.FirstSets.{symbol-in, name-in, table-in, the_table, firsts-word, firsts-then}
use Rattle.seuss_parser.proofs.FirstSets.{firsts-either, firsts-wider, leads-firsts, leads-only, leads-then}
use Rattle.seuss_parser.proofs.FirstSets.{leads-many, leads-optional}
use Rattle.seuss_parser.proofs.WordTests.{tests-symbol, tests-name, tests-statement, the_statements}
use Rattle.seuss_parser.proofs.CommonReads.{leads-anything, after, last, reads-symbol, firsts-symbol}
use Rattle.seuss_parser.proofs.CallReads.{own_brackets, reads-whole_expression}
use Rattle.seuss_parser.proofs.AheadReads.{behind_statement}
use Rattle.seuss_parser.proofs.NamedReads.{IsNamed, grammar-named, named-grammar, firsts-named}
use Rattle.seuss_parser.proofs.NamedReads.{firsts-call_with}
use Rattle.seuss_parser.proofs.NamedReads.{reads-named, reads-pre}
use Rattle.seuss_parser.proofs.Samples.{sample-name, sample-small_kind, sample-arrow, sample-Let}
use Rattle.seuss_parser.proofs.Samples.{sample-Colon}
use Rattle.seuss_parser.proofs.Samples.{sample-Assign, sample-If, sample-Then, sample-Else, sample-End}
use Rattle.seuss_parser.proofs.Samples.{sample-While}
use Rattle.seuss_parser.proofs.Samples.{sample-Do, sample-When}

-- what may follow a block
abbrev pub behind_block : Sorts
behind_block = joined (the_symbol S.End) (joined (the_symbol S.Else) (the_symbol S.When))

-- what may follow the body of an alternative
abbrev pub behind_alternative : Sorts
behind_alternative = joined (the_symbol S.End) (the_symbol S.When)

-- a word that passes a limit isn't kept
word-kept : {A : Type 0} {reads : Word → Option A} (passes : Bool) (value : A) (room : ℕ) (ps : List Piece)
    (left : ℕ) → OneWord reads passes value room ps left → AreKept ps → passes ≡ false
word-kept passes value room ps left one kept =
    All-head (λ (p : Piece). p.passes ≡ false) (record { word = one.word; passes = passes }) []
    (subst AreKept one.spelled kept)

module _ (any depth : ℕ) where
  reads-let : Reads (IsLet own_brackets) (IsLet any) read_let depth behind_statement
  unfolding IsLet read_let
  reads-let = after (reads-symbol S.Let depth sample-Let) (λ line.
      after (reads-word as_name sample-name depth false) (λ name.
      after (reads-symbol S.Colon depth sample-Colon) (λ colon.
      after (reads-word (as_one_of small_kind) sample-small_kind depth false) (λ kind.
      after (reads-symbol S.Assign depth sample-Assign) (λ sign.
      last (λ value. T.Let name kind.is value)
      (narrower (record { shown = refl }) (reads-whole_expression any depth)))))))

firsts-let : (any : ℕ) → Firsts (IsLet any) (the_symbol S.Let)
unfolding IsLet
firsts-let any = firsts-then (firsts-symbol S.Let)

sample-let : Sample (IsLet own_brackets)
sample-let = (reads-let 0 0).sample

-- the words that statements begin with
module _ (any : ℕ) (passes : Bool) (Block : Phrase (List (Statement Name))) where
  firsts-else : Firsts (IsElse any passes Block) (the_symbol S.Else)
  unfolding IsElse
  firsts-else = firsts-then (firsts-symbol S.Else)

  firsts-if : Firsts (IsIf any passes Block) (the_symbol S.If)
  unfolding IsIf
  firsts-if = firsts-then (firsts-word (symbol-in S.If) passes)

  firsts-while : Firsts (IsWhile any passes Block) (the_symbol S.While)
  unfolding IsWhile
  firsts-while = firsts-then (firsts-word (symbol-in S.While) passes)

  firsts-call_statement : Firsts (IsCallStatement any) (joined the_names the_names)
  unfolding IsCallStatement
  firsts-call_statement = firsts-call_with any T.Call

  firsts-assignment : Firsts (IsAssignment any) the_names
  unfolding IsAssignment
  firsts-assignment = firsts-then (firsts-word name-in false)

  firsts-any_statement : Firsts (IsAnyStatement any passes Block) the_statements
  unfolding IsAnyStatement
  firsts-any_statement = firsts-wider (record { shown = refl })
      (firsts-either (firsts-let any) (firsts-either firsts-assignment (firsts-either firsts-call_statement
      (firsts-either firsts-if firsts-while))))

  abbrev Nested : Phrase (Statement Name)
  Nested = Either (IsIf any passes Block) (IsWhile any passes Block)

  abbrev NamedOrNested : Phrase (Statement Name)
  NamedOrNested = Either (IsNamed any) Nested

  abbrev Statements : Phrase (Statement Name)
  Statements = Either (IsLet any) NamedOrNested

  firsts-nested : Firsts Nested (joined (the_symbol S.If) (the_symbol S.While))
  firsts-nested = firsts-either firsts-if firsts-while

  firsts-named_or_nested : Firsts NamedOrNested (joined the_names
      (joined (the_symbol S.If) (the_symbol S.While)))
  firsts-named_or_nested = firsts-either (firsts-named any) firsts-nested

  statement-grammar : (value : Statement Name) (room : ℕ) (pieces : List Piece) (left : ℕ) →
      Statements value room pieces left → IsAnyStatement any passes Block value room pieces left
  unfolding IsAnyStatement
  statement-grammar value room pieces left (inl phrase) = inl phrase
  statement-grammar value room pieces left (inr (inl phrase)) =
      from (grammar-named any value room pieces left phrase)
    where
      from : Either (IsAssignment any) (IsCallStatement any) value room pieces left →
          Either (IsLet any) (Either (IsAssignment any) (Either (IsCallStatement any) Nested)) value room
          pieces left
      from (inl assignment) = inr (inl assignment)
      from (inr call) = inr (inr (inl call))
  statement-grammar value room pieces left (inr (inr phrase)) = inr (inr (inr phrase))

  grammar-statement : (value : Statement Name) (room : ℕ) (pieces : List Piece) (left : ℕ) →
      IsAnyStatement any passes Block value room pieces left → Statements value room pieces left
  unfolding IsAnyStatement
  grammar-statement value room pieces left (inl phrase) = inl phrase
  grammar-statement value room pieces left (inr (inl assignment)) =
      inr (inl (named-grammar any value room pieces left (inl assignment)))
  grammar-statement value room pieces left (inr (inr (inl call))) =
      inr (inl (named-grammar any value room pieces left (inr call)))
  grammar-statement value room pieces left (inr (inr (inr phrase))) = inr (inr phrase)

sample-any_statement : (passes : Bool) (Block : Phrase (List (Statement Name))) →
    Sample (IsAnyStatement own_brackets passes Block)
unfolding IsAnyStatement
sample-any_statement passes Block = sample-either sample-let

-- statements by the blocks in them, which are read where the statement is within the limit
module _ (any depth inner : ℕ) (passes : Bool) (P Q : Phrase (List (Statement Name)))
    (one : Reading (List (Statement Name))) (block : Reads P Q one inner behind_block)
    (inside : passes ≡ false → depth ≤ inner) where
  reads-else : Reads (IsElse own_brackets passes P) (IsElse any passes Q) (read_else passes one) inner
      behind_block
  unfolding IsElse read_else
  reads-else = after (reads-symbol S.Else inner sample-Else) (λ line. block)

  goes-in : {reads : Word → Option ℕ} (value : ℕ) (room : ℕ) (ps : List Piece) (left : ℕ) →
      OneWord reads passes value room ps left → AreKept ps → left ≤ room → room < depth → left < inner
  goes-in value room ps left one_word kept low fits =
      let deep : depth ≤ inner = inside (word-kept passes value room ps left one_word kept) in
      omega arith

  reads-if : Reads (IsIf own_brackets passes P) (IsIf any passes Q) (read_if passes one) depth everything
  unfolding IsIf read_if
  reads-if = reads-then_at (reads-word (as_symbol S.If) sample-If depth passes) (λ line.
      reads-then (reads-whole_expression any inner) (λ test.
      after (reads-symbol S.Then inner sample-Then) (λ then.
      reads-then block (λ holds.
      reads-then (reads-optional (IsElse own_brackets passes P) (IsElse any passes Q) (read_else passes one)
      (begins_with S.Else) inner behind_block (the_symbol S.End) (the_symbol S.Else) (the_symbol S.Else)
      (tests-symbol S.Else) reads-else (firsts-else any passes Q) (part-self (the_symbol S.Else))
      (record { shown = refl }) (record { shown = refl }))
      (λ fails. last (λ end. T.If test holds (listed fails)) (reads-symbol S.End inner sample-End))
      (λ fails. leads-firsts everything (firsts-then (firsts-symbol S.End)) (part-self (the_symbol S.End))))
      (λ holds. leads-then (leads-optional (firsts-else any passes Q) (record { shown = refl })
      (record { shown = refl }))
      (λ fails. leads-firsts everything (firsts-then (firsts-symbol S.End))
      (part-self (the_symbol S.End))))))
      (λ test. leads-firsts everything (firsts-then (firsts-symbol S.Then)) (record { shown = refl })))
      (λ line. leads-anything) goes-in

  reads-while : Reads (IsWhile own_brackets passes P) (IsWhile any passes Q) (read_while passes one) depth
      everything
  unfolding IsWhile read_while
  reads-while = reads-then_at (reads-word (as_symbol S.While) sample-While depth passes) (λ line.
      reads-then (reads-whole_expression any inner) (λ test.
      after (reads-symbol S.Do inner sample-Do) (λ do_line.
      reads-then block (λ turn. last (λ end. T.While test turn) (reads-symbol S.End inner sample-End))
      (λ turn. leads-firsts everything (firsts-then (firsts-symbol S.End)) (record { shown = refl }))))
      (λ test. leads-firsts everything (firsts-then (firsts-symbol S.Do)) (record { shown = refl })))
      (λ line. leads-anything) goes-in

  reads-nested : Reads (Nested own_brackets passes P) (Nested any passes Q)
      (either (begins_with S.If) (read_if passes one) (read_while passes one)) depth everything
  reads-nested = reads-either (begins_with S.If) (the_symbol S.If) (tests-symbol S.If)
      (IsIf own_brackets passes P) (IsIf any passes Q) (IsWhile own_brackets passes P) (IsWhile any passes Q)
      (read_if passes one) (read_while passes one) depth everything everything everything (the_symbol S.If)
      (the_symbol S.While) reads-if reads-while (firsts-if any passes Q)
      (leads-firsts everything (firsts-while any passes Q) (part-self (the_symbol S.While)))
      (part-self everything) (part-self everything) (part-self (the_symbol S.If)) (record { shown = refl })

  abbrev read_nested : Reading (Statement Name)
  read_nested = either (begins_with S.If) (read_if passes one) (read_while passes one)

  abbrev read_named_or_nested : Reading (Statement Name)
  read_named_or_nested = either begins_with_name read_named read_nested

  reads-named_or_nested : Reads (NamedOrNested own_brackets passes P) (NamedOrNested any passes Q)
      read_named_or_nested depth behind_statement
  reads-named_or_nested = reads-either begins_with_name the_names tests-name
      (IsNamed own_brackets) (IsNamed any) (Nested own_brackets passes P) (Nested any passes Q) read_named
      read_nested depth behind_statement everything behind_statement the_names
      (joined (the_symbol S.If) (the_symbol S.While)) (reads-named any depth) reads-nested (firsts-named any)
      (leads-firsts behind_statement (firsts-nested any passes Q)
      (part-self (joined (the_symbol S.If) (the_symbol S.While))))
      (part-self behind_statement) (part-everything behind_statement) (part-self the_names)
      (record { shown = refl })

  pub reads-any_statement : Reads (IsAnyStatement own_brackets passes P) (IsAnyStatement any passes Q)
      (read_any_statement passes one) depth behind_statement
  unfolding read_any_statement
  reads-any_statement = reads-as (statement-grammar own_brackets passes P) (grammar-statement any passes Q)
      (part-self behind_statement)
      (reads-either (begins_with S.Let) (the_symbol S.Let) (tests-symbol S.Let)
      (IsLet own_brackets) (IsLet any) (NamedOrNested own_brackets passes P) (NamedOrNested any passes Q)
      read_let
      read_named_or_nested depth behind_statement behind_statement behind_statement (the_symbol S.Let)
      (joined the_names (joined (the_symbol S.If) (the_symbol S.While))) (reads-let any depth)
      reads-named_or_nested (firsts-let any)
      (leads-firsts behind_statement (firsts-named_or_nested any passes Q)
      (part-self (joined the_names (joined (the_symbol S.If) (the_symbol S.While)))))
      (part-self behind_statement) (part-self behind_statement) (part-self (the_symbol S.Let))
      (record { shown = refl }))

firsts-statement : (any blocks nesting : ℕ) → Firsts (IsStatement any blocks nesting) the_statements
firsts-statement any zero nesting = record { at = λ value room pieces left phrase. absurd phrase }
firsts-statement any (suc blocks) nesting =
    firsts-any_statement any (nesting == 0) (Many (IsStatement any blocks (pred nesting)))

-- a block of statements
reads-block : (any depth own blocks nesting : ℕ) (one : Reading (Statement Name)) →
    Reads (IsStatement own_brackets own nesting) (IsStatement any blocks nesting) one depth behind_statement
    →
    Reads (Many (IsStatement own_brackets own nesting)) (Many (IsStatement any blocks nesting))
    (many begins_statement one) depth behind_block
reads-block any depth own blocks nesting one item = reads-many (IsStatement own_brackets own nesting)
    (IsStatement any blocks nesting) one begins_statement depth behind_statement behind_block the_statements
    the_statements tests-statement item (firsts-statement own_brackets own nesting)
    (firsts-statement any blocks nesting) (part-self the_statements) (record { shown = refl })
    (record { shown = refl }) (record { shown = refl })

-- a statement around the blocks of the next depth, which are read where there is nesting left
statement-around : (any depth own blocks nesting : ℕ) → (0 < depth → nesting < suc own) →
    ((inner : ℕ) → (0 < inner → pred nesting < own) →
    Reads (IsStatement own_brackets (suc own) (pred nesting)) (IsStatement any blocks (pred nesting))
    (read_statement own (pred nesting)) inner behind_statement) →
    Reads (IsStatement own_brackets (suc (suc own)) nesting) (IsStatement any (suc blocks) nesting)
    (read_statement (suc own) nesting) depth behind_statement
statement-around any depth own blocks zero fits below =
    reads-any_statement any depth 0 true (Many (IsStatement own_brackets (suc own) 0))
    (Many (IsStatement any blocks 0)) (many begins_statement (read_statement own 0))
    (reads-block any 0 (suc own) blocks 0 (read_statement own 0) (below 0 (λ none. absurd (omega arith))))
    (λ is. absurd (cc))
statement-around any depth own blocks (suc nesting) fits below =
    reads-any_statement any depth depth (suc nesting == 0)
    (Many (IsStatement own_brackets (suc own) nesting))
    (Many (IsStatement any blocks nesting)) (many begins_statement (read_statement own nesting))
    (reads-block any depth (suc own) blocks nesting (read_statement own nesting)
    (below depth (λ some. let deep : suc nesting < suc own = fits some in omega arith)))
    (λ is. omega arith)

-- Reading to a depth tells of statements one block deeper, and of those of any depth.
pub reads-statement : (any depth own blocks nesting : ℕ) → (0 < depth → nesting < own) →
    Reads (IsStatement own_brackets (suc own) nesting) (IsStatement any blocks nesting)
    (read_statement own nesting) depth behind_statement
reads-statement any depth zero blocks nesting fits = record {
  sample = sample-any_statement (nesting == 0) (Many (IsStatement own_brackets 0 (pred nesting)));
  tells = λ room words low. let some : 0 < depth = omega arith in
      let deep : nesting < 0 = fits some in absurd (omega arith);
}
reads-statement any depth (suc own) zero nesting fits = reads-as (λ value room ps left phrase. phrase)
    (λ value room ps left phrase. absurd phrase) (part-self behind_statement)
    (statement-around any depth own 0 nesting fits
    (λ inner fits_in. reads-statement any inner own 0 (pred nesting) fits_in))
reads-statement any depth (suc own) (suc blocks) nesting fits = statement-around any depth own blocks
    nesting fits
    (λ inner fits_in. reads-statement any inner own blocks (pred nesting) fits_in)

-- blocks stand so deep at most in the statements that finish what was begun
abbrev pub own_blocks : ℕ
own_blocks = suc most_blocks

module _ (any blocks depth : ℕ) where
  reads-body_before : Reads (IsBody own_brackets own_blocks) (IsBody any blocks) read_body depth behind_block
  reads-body_before = reads-block any depth own_blocks blocks max_nesting
      (read_statement most_blocks max_nesting)
      (reads-statement any depth most_blocks blocks max_nesting (λ some. omega arith))

  pub reads-body : (behind : Sorts) → Part behind behind_block →
      Reads (IsBody own_brackets own_blocks) (IsBody any blocks) read_body depth behind
  reads-body behind part = narrower part reads-body_before

-- a body with what follows it
pub leads-body : (any blocks : ℕ) (behind may : Sorts) → Part the_statements may → Part behind may →
    Leads (IsBody any blocks) behind may
leads-body any blocks behind may part fits =
    leads-many (firsts-statement any blocks max_nesting) part fits

firsts-pre : (any : ℕ) → Firsts (IsPre any) (the_symbol S.Semicolon)
unfolding IsPre
firsts-pre any = firsts-then (firsts-symbol S.Semicolon)

pub firsts-alternative : (any blocks : ℕ) → Firsts (IsAlternative any blocks) (the_symbol S.When)
unfolding IsAlternative
firsts-alternative any blocks = firsts-then (firsts-symbol S.When)

module _ (any blocks depth : ℕ) where
  reads-alternative : Reads (IsAlternative own_brackets own_blocks) (IsAlternative any blocks)
      read_alternative
      depth behind_alternative
  unfolding IsAlternative read_alternative
  reads-alternative = after (reads-symbol S.When depth sample-When) (λ line.
      reads-then (reads-whole_expression any depth) (λ test.
      reads-then (reads-optional (IsPre own_brackets) (IsPre any) read_pre (begins_with S.Semicolon) depth
      everything
      (the_table arrow) (the_symbol S.Semicolon) (the_symbol S.Semicolon) (tests-symbol S.Semicolon)
      (reads-pre any depth) (firsts-pre any) (part-self (the_symbol S.Semicolon)) (record { shown = refl })
      (part-everything (the_table arrow)))
      (λ pre. after (reads-word (as_one_of arrow) sample-arrow depth false) (λ positive.
      last (λ body. record { line = line; cond = test; pre = pre; positive = positive.is; body = body })
      (reads-body any blocks depth behind_alternative (record { shown = refl }))))
      (λ pre. leads-firsts behind_alternative (firsts-then (firsts-word (table-in arrow) false))
      (part-self (the_table arrow))))
      (λ test. leads-then (leads-optional (firsts-pre any) (record { shown = refl })
      (record { shown = refl }))
      (λ pre. leads-firsts behind_alternative (firsts-then (firsts-word (table-in arrow) false))
      (part-self (the_table arrow)))))

  pub reads-alternatives : Reads (AreAlternatives own_brackets own_blocks) (AreAlternatives any blocks)
      read_alternatives depth (the_symbol S.End)
  unfolding AreAlternatives read_alternatives
  reads-alternatives = reads-then reads-alternative (λ first. last (λ others. with_first first others)
      (reads-many (IsAlternative own_brackets own_blocks) (IsAlternative any blocks) read_alternative
      (begins_with S.When) depth behind_alternative (the_symbol S.End) (the_symbol S.When)
      (the_symbol S.When)
      (tests-symbol S.When) reads-alternative (firsts-alternative own_brackets own_blocks)
      (firsts-alternative any blocks) (part-self (the_symbol S.When)) (record { shown = refl })
      (record { shown = refl }) (record { shown = refl })))
      (λ first. leads-then (leads-many (firsts-alternative any blocks) (record { shown = refl })
      (record { shown = refl })) (λ others. leads-only (part-self (the_symbol S.End))))

  pub firsts-alternatives : Firsts (AreAlternatives any blocks) (the_symbol S.When)
  unfolding AreAlternatives
  firsts-alternatives = firsts-then (firsts-alternative any blocks)
