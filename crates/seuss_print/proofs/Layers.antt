-- What is printed of a statement and what it contains, by its parts.
use Rattle.std.proofs.Common.{◌≡◌, ℕ, zero, suc, List, [], ◌∷◌, ◌++◌, Option, Result, OnOk, ◌+◌, ◌^◌, ◌<◌}
use Rattle.std.proofs.Common.{All, refl, sym, ap, subst, ◌∙◌, arith, append_assoc, map}
use Rattle.std.specs.List.{flat_map}
use Rattle.std.proofs.lemmas.List.Elements.{All-nil, All-cons}
use Rattle.std.proofs.lemmas.Grind.{flat_map-append}
use Rattle.seuss_base.specs.declared.memory.Memory.{Memory}
use Rattle.seuss_parser.specs.declared.symbol.Symbol.TheVariants as S
use Rattle.seuss_program.specs.declared.tree.Name.{Name}
use Rattle.seuss_program.specs.declared.tree.Kind.{Kind}
use Rattle.seuss_program.specs.declared.tree.Call.{Call}
use Rattle.seuss_program.specs.declared.tree.Expr.{Expr}
use Rattle.seuss_program.specs.declared.tree.Statement.{Statement, fold-Statement, fold-roll-Statement}
use Rattle.seuss_program.specs.declared.tree.Statement.{map-Statement, roll-Statement}
use Rattle.seuss_program.specs.declared.tree.Statement.TheVariants as SV
use Rattle.seuss_program.specs.declared.tree.Statement.TheVariants.{rolls-Let, rolls-Assign, rolls-Call}
use Rattle.seuss_program.specs.declared.tree.Statement.TheVariants.{rolls-If, rolls-While}
use Rattle.seuss_program.specs.declared.tree.Statement.TheOpen as T
use Rattle.seuss_program.specs.declared.tree.Statement.TheOpen.{Statement-F}
use Rattle.seuss_program.specs.declared.tree.Statement.TheShapes.{former-Statement-If-1}
use Rattle.seuss_program.specs.WellFormed.{let_kinds, kinds_step}
use Rattle.seuss_print.specs.Lines as F
use Rattle.seuss_print.specs.Items.{Item, symbol, line, item_text, text_of}
use Rattle.seuss_print.specs.Statements.{Lines, statement, statement_step, in_turn, else_lines, else_of}
use Rattle.seuss_print.specs.Statements.{body, let_line, assignment_line, call_line, head_line, if_lines}
use Rattle.seuss_print.specs.Statements.{while_lines}
use Rattle.seuss_print.specs.Printable as P
use Rattle.seuss_print.specs.Printable.{Content, content, joined, around, only, HasRoom}

-- a function of each of the statements inside a statement
abbrev pub each : {A : Type 0} → (Statement Name → A) → List (Statement Name) → List A
each {A} f ss = (former-Statement-If-1 Name).map (Statement Name) A f ss

-- what a fold gives at a statement, by one layer of it
pub fold-layer : {A : Type 0} (step : Statement-F Name A → A) (s : Statement Name)
    (d : Statement-F Name (Statement Name)) →
    s ≡ roll-Statement Name d →
    fold-Statement Name A step s ≡ step
    (map-Statement Name (Statement Name) A (fold-Statement Name A step) d)
fold-layer {A} step s d h = ap (fold-Statement Name A step) h ∙ fold-roll-Statement Name A step d

each_lines : (ss : List (Statement Name)) (n : ℕ) → in_turn (each statement ss) n ≡ body ss n
each_lines [] n = refl
each_lines (s ∷ ss) n = ap (λ items. statement s n ++ items) (each_lines ss n)

each_else : (ss : List (Statement Name)) (n : ℕ) → else_lines (each statement ss) n ≡ else_of ss n
each_else [] n = refl
each_else (s ∷ ss) n = ap (λ items. line n (symbol S.Else ∷ []) ++ items) (each_lines (s ∷ ss) (n + 1))

layer : (s : Statement Name) (d : Statement-F Name (Statement Name)) (n : ℕ) → s ≡ roll-Statement Name d →
    statement s n ≡ statement_step (map-Statement Name (Statement Name) Lines statement d) n
unfolding statement
layer s d n h = ap (λ (lines : Lines). lines n) (fold-layer statement_step s d h)

module _ (s : Statement Name) (n : ℕ) where
  pub printed-Let : (name : Name) (kind : Kind) (value : Expr Name) → s ≡ SV.Let name kind value →
      statement s n ≡ let_line name kind value n
  printed-Let name kind value h = layer s (T.Let name kind value) n (h ∙ sym (rolls-Let name kind value))

  pub printed-Assign : (name : Name) (value : Expr Name) → s ≡ SV.Assign name value →
      statement s n ≡ assignment_line name value n
  printed-Assign name value h = layer s (T.Assign name value) n (h ∙ sym (rolls-Assign name value))

  pub printed-Call : (bind : Option Name) (call : Call Name) → s ≡ SV.Call bind call →
      statement s n ≡ call_line bind call n
  printed-Call bind call h = layer s (T.Call bind call) n (h ∙ sym (rolls-Call bind call))

  pub printed-If : (cond : Expr Name) (holds fails : List (Statement Name)) → s ≡ SV.If cond holds fails →
      statement s n ≡ if_lines cond holds fails n
  printed-If cond holds fails h =
      let head : List Item = head_line S.If cond S.Then n in
      let last : List Item = line n (symbol S.End ∷ []) in
      layer s (T.If cond holds fails) n (h ∙ sym (rolls-If cond holds fails))
      ∙ (ap (λ items. head ++ items ++ else_lines (each statement fails) n ++ last)
      (each_lines holds (n + 1))
      ∙ ap (λ items. head ++ body holds (n + 1) ++ items ++ last) (each_else fails n))

  pub printed-While : (cond : Expr Name) (turn : List (Statement Name)) → s ≡ SV.While cond turn →
      statement s n ≡ while_lines cond turn n
  printed-While cond turn h =
      layer s (T.While cond turn) n (h ∙ sym (rolls-While cond turn))
      ∙ ap (λ items. head_line S.While cond S.Do n ++ items ++ line n (symbol S.End ∷ []))
      (each_lines turn (n + 1))

-- what statements contain together
abbrev pub contents : List (Statement Name) → Content
contents ss = joined (each content ss)

content-layer : (s : Statement Name) (d : Statement-F Name (Statement Name)) → s ≡ roll-Statement Name d →
    content s ≡ P.statement_step (map-Statement Name (Statement Name) Content content d)
unfolding content
content-layer s d h = fold-layer P.statement_step s d h

each-append : {A : Type 0} (f : Statement Name → A) (ss ts : List (Statement Name)) →
    each f ss ++ each f ts ≡ each f (ss ++ ts)
each-append f [] ts = refl
each-append f (s ∷ ss) ts = ap (λ xs. f s ∷ xs) (each-append f ss ts)

module _ (s : Statement Name) where
  pub content-Let : (name : Name) (kind : Kind) (e : Expr Name) → s ≡ SV.Let name kind e →
      content s ≡ only (e ∷ [])
  content-Let name kind e h = content-layer s (T.Let name kind e) (h ∙ sym (rolls-Let name kind e))

  pub content-Assign : (name : Name) (e : Expr Name) → s ≡ SV.Assign name e →
      content s ≡ only (e ∷ [])
  content-Assign name e h = content-layer s (T.Assign name e) (h ∙ sym (rolls-Assign name e))

  pub content-Call : (bind : Option Name) (call : Call Name) → s ≡ SV.Call bind call →
      content s ≡ only call.args
  content-Call bind call h = content-layer s (T.Call bind call) (h ∙ sym (rolls-Call bind call))

  pub content-If : (cond : Expr Name) (holds fails : List (Statement Name)) → s ≡ SV.If cond holds fails →
      content s ≡ around cond (contents (holds ++ fails))
  content-If cond holds fails h =
      content-layer s (T.If cond holds fails) (h ∙ sym (rolls-If cond holds fails))
      ∙ ap (λ cs. around cond (joined cs)) (each-append content holds fails)

  pub content-While : (cond : Expr Name) (turn : List (Statement Name)) → s ≡ SV.While cond turn →
      content s ≡ around cond (contents turn)
  content-While cond turn h = content-layer s (T.While cond turn) (h ∙ sym (rolls-While cond turn))

-- what a call wrote, under another name of the items
pub written_as : (result : Result (Unit {0}) Memory) (before now : List ℕ) (found wanted : List Item) →
    wanted ≡ found →
    OnOk result (now ≡ before ++ text_of found) → OnOk result (now ≡ before ++ text_of wanted)
written_as result before now found wanted same written =
    subst (λ items. OnOk result (now ≡ before ++ text_of items)) (sym same) written

-- what holds of each item of two lists holds of each item of the first one, and of the second one
pub all-left : {X : Type 0} (P : X → Type 0) (xs ys : List X) → All P (xs ++ ys) → All P xs
all-left P [] ys all k d below = absurd (omega arith)
all-left P (x ∷ xs) ys all zero d below = all 0 d (omega arith)
all-left P (x ∷ xs) ys all (suc k) d below = all-left P xs ys (λ j e h. all (suc j) e (omega arith)) k d
    (omega arith)

pub all-right : {X : Type 0} (P : X → Type 0) (xs ys : List X) → All P (xs ++ ys) → All P ys
all-right P [] ys all = all
all-right P (x ∷ xs) ys all = all-right P xs ys (λ j e h. all (suc j) e (omega arith))

room-contents : (ss : List (Statement Name)) (depth : ℕ) → depth + (contents ss).depth < 2 ^ 32 →
    All (HasRoom depth) ss
room-contents [] depth h = All-nil (HasRoom depth)
room-contents (s ∷ ss) depth h =
    All-cons (HasRoom depth) s ss (omega (arith, h)) (room-contents ss depth (omega (arith, h)))

-- the statements inside a statement have room, with one more around them
module _ (s : Statement Name) (depth : ℕ) (room : HasRoom depth s) where
  inside-room : (cond : Expr Name) (c : Content) → content s ≡ around cond c → depth + 1 + c.depth < 2 ^ 32
  inside-room cond c h = let deep : (content s).depth ≡ suc c.depth = ap (λ (x : Content). x.depth) h in
      omega (arith, room, deep)

  module _ (cond : Expr Name) (holds fails : List (Statement Name)) (h : s ≡ SV.If cond holds fails) where
    both-room : All (HasRoom (depth + 1)) (holds ++ fails)
    both-room = room-contents (holds ++ fails) (depth + 1)
        (inside-room cond (contents (holds ++ fails)) (content-If s cond holds fails h))

    pub room-holds : All (HasRoom (depth + 1)) holds
    room-holds = all-left (HasRoom (depth + 1)) holds fails both-room

    pub room-fails : All (HasRoom (depth + 1)) fails
    room-fails = all-right (HasRoom (depth + 1)) holds fails both-room

    pub room-If : depth + 1 < 2 ^ 32
    room-If = omega (arith, inside-room cond (contents (holds ++ fails)) (content-If s cond holds fails h))

  module _ (cond : Expr Name) (turn : List (Statement Name)) (h : s ≡ SV.While cond turn) where
    pub room-turn : All (HasRoom (depth + 1)) turn
    room-turn = room-contents turn (depth + 1)
        (inside-room cond (contents turn) (content-While s cond turn h))

    pub room-While : depth + 1 < 2 ^ 32
    room-While = omega (arith, inside-room cond (contents turn) (content-While s cond turn h))

-- what a row of calls wrote, of which the last one may have failed
pub three_written : (result : Result (Unit {0}) Memory) (t0 t1 t2 t3 : List ℕ) (a b c wanted : List Item) →
    wanted ≡ a ++ b ++ c → t1 ≡ t0 ++ text_of a → t2 ≡ t1 ++ text_of b →
    OnOk result (t3 ≡ t2 ++ text_of c) → OnOk result (t3 ≡ t0 ++ text_of wanted)
three_written result t0 t1 t2 t3 a b c wanted same first second last =
    let whole : t0 ++ text_of wanted ≡ t2 ++ text_of c =
    ap (λ items. t0 ++ text_of items) same
    ∙ (ap (λ bytes. t0 ++ bytes)
    (flat_map-append item_text (a ++ b) c ∙ ap (λ bytes. bytes ++ text_of c)
    (flat_map-append item_text a b))
    ∙ (sym (append_assoc t0 (text_of a ++ text_of b) (text_of c))
    ∙ ap (λ bytes. bytes ++ text_of c) (sym (append_assoc t0 (text_of a) (text_of b))
    ∙ (ap (λ bytes. bytes ++ text_of b) (sym first) ∙ sym second)))) in
    subst (λ bytes. OnOk result (t3 ≡ bytes)) (sym whole) last

pub four_written : (result : Result (Unit {0}) Memory) (t0 t1 t2 t3 t4 : List ℕ)
    (a b c d wanted : List Item) →
    wanted ≡ a ++ b ++ c ++ d → t1 ≡ t0 ++ text_of a → t2 ≡ t1 ++ text_of b → t3 ≡ t2 ++ text_of c →
    OnOk result (t4 ≡ t3 ++ text_of d) → OnOk result (t4 ≡ t0 ++ text_of wanted)
four_written result t0 t1 t2 t3 t4 a b c d wanted same first second third last =
    three_written result t0 t2 t3 t4 (a ++ b) c d wanted same
    (second ∙ (ap (λ bytes. bytes ++ text_of b) first
    ∙ (append_assoc t0 (text_of a) (text_of b) ∙ ap (λ bytes. t0 ++ bytes)
    (sym (flat_map-append item_text a b)))))
    third last

-- the locals of statements
each_kinds : (ss : List (Statement Name)) → flat_map (λ ks. ks) (each let_kinds ss) ≡ flat_map let_kinds ss
each_kinds [] = refl
each_kinds (s ∷ ss) = ap (λ ks. let_kinds s ++ ks) (each_kinds ss)

kinds-layer : (s : Statement Name) (d : Statement-F Name (Statement Name)) → s ≡ roll-Statement Name d →
    let_kinds s ≡ kinds_step (map-Statement Name (Statement Name) (List Kind) let_kinds d)
unfolding let_kinds
kinds-layer s d h = fold-layer kinds_step s d h

pub kinds-Let : (name : Name) (kind : Kind) (e : Expr Name) → let_kinds (SV.Let name kind e) ≡ kind ∷ []
kinds-Let name kind e = kinds-layer _ (T.Let name kind e) (sym (rolls-Let name kind e))

pub kinds-Assign : (name : Name) (e : Expr Name) → let_kinds (SV.Assign name e) ≡ []
kinds-Assign name e = kinds-layer _ (T.Assign name e) (sym (rolls-Assign name e))

pub kinds-Call : (bind : Option Name) (call : Call Name) → let_kinds (SV.Call bind call) ≡ []
kinds-Call bind call = kinds-layer _ (T.Call bind call) (sym (rolls-Call bind call))

pub kinds-If : (cond : Expr Name) (holds fails : List (Statement Name)) →
    let_kinds (SV.If cond holds fails) ≡ flat_map let_kinds holds ++ flat_map let_kinds fails
kinds-If cond holds fails =
    kinds-layer _ (T.If cond holds fails) (sym (rolls-If cond holds fails))
    ∙ (ap (λ ks. ks ++ flat_map (λ ks. ks) (each let_kinds fails)) (each_kinds holds)
    ∙ ap (λ ks. flat_map let_kinds holds ++ ks) (each_kinds fails))

pub kinds-While : (cond : Expr Name) (turn : List (Statement Name)) →
    let_kinds (SV.While cond turn) ≡ flat_map let_kinds turn
kinds-While cond turn = kinds-layer _ (T.While cond turn) (sym (rolls-While cond turn)) ∙ each_kinds turn

-- a statement without its lines, by its parts
each-map : {A : Type 0} (f : Statement Name → A) (ss : List (Statement Name)) → each f ss ≡ map f ss
each-map f [] = refl
each-map f (s ∷ ss) = ap (λ xs. f s ∷ xs) (each-map f ss)

kept-layer : (s : Statement Name) (d : Statement-F Name (Statement Name)) → s ≡ roll-Statement Name d →
    F.statement s ≡ F.statement_step (map-Statement Name (Statement Name) (Statement Name) F.statement d)
unfolding F.statement
kept-layer s d h = fold-layer F.statement_step s d h

pub kept-Let : (n : Name) (kind : Kind) (e : Expr Name) →
    F.statement (SV.Let n kind e) ≡ SV.Let (F.name n) kind (F.expression e)
kept-Let n kind e = kept-layer _ (T.Let n kind e) (sym (rolls-Let n kind e))

pub kept-Assign : (n : Name) (e : Expr Name) → F.statement (SV.Assign n e)
    ≡ SV.Assign (F.name n) (F.expression e)
kept-Assign n e = kept-layer _ (T.Assign n e) (sym (rolls-Assign n e))

pub kept-Call : (bind : Option Name) (call : Call Name) →
    F.statement (SV.Call bind call) ≡ SV.Call (F.perhaps F.name bind) (F.call call)
kept-Call bind call = kept-layer _ (T.Call bind call) (sym (rolls-Call bind call))

pub kept-If : (cond : Expr Name) (holds fails : List (Statement Name)) →
    F.statement (SV.If cond holds fails) ≡ SV.If (F.expression cond) (map F.statement holds)
    (map F.statement fails)
kept-If cond holds fails =
    kept-layer _ (T.If cond holds fails) (sym (rolls-If cond holds fails))
    ∙ (ap (λ ss. SV.If (F.expression cond) ss (each F.statement fails)) (each-map F.statement holds)
    ∙ ap (λ ss. SV.If (F.expression cond) (map F.statement holds) ss) (each-map F.statement fails))

pub kept-While : (cond : Expr Name) (turn : List (Statement Name)) →
    F.statement (SV.While cond turn) ≡ SV.While (F.expression cond) (map F.statement turn)
kept-While cond turn =
    kept-layer _ (T.While cond turn) (sym (rolls-While cond turn))
    ∙ ap (λ ss. SV.While (F.expression cond) ss) (each-map F.statement turn)
