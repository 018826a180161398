-- What the code of a procedure reads, writes and consists of is what its text does.
use Rattle.std.proofs.Common.{◌≡◌, ℕ, ◌+◌, Bool, true, false, ◌||◌, ◌&&◌, not, if◌then◌else◌, List, [], ◌∷◌}
use Rattle.std.proofs.Common.{◌++◌, map, length, Option, None, Some, refl, sym, ap, ◌∙◌, subst}
use Rattle.std.specs.Prelude.{is_none, is_some}
use Rattle.std.specs.List.{flat_map, list_any}
use Rattle.std.proofs.lemmas.List.Folds.{list_any-append}
use Rattle.seuss_program.specs.declared.tree.Ref.{Ref}
use Rattle.seuss_program.specs.declared.tree.Kind.{Kind}
use Rattle.seuss_program.specs.declared.tree.Expr.{Expr}
use Rattle.seuss_program.specs.declared.tree.Call.{Call}
use Rattle.seuss_program.specs.declared.tree.Pre.{Pre}
use Rattle.seuss_program.specs.declared.tree.Alternative.{Alternative}
use Rattle.seuss_program.specs.declared.tree.Form.{Form}
use Rattle.seuss_program.specs.declared.tree.Form.TheVariants as F
use Rattle.seuss_program.specs.declared.tree.Statement.{Statement, fold-Statement, fold-roll-Statement}
use Rattle.seuss_program.specs.declared.tree.Statement.{map-Statement, roll-Statement, ind-Statement}
use Rattle.seuss_program.specs.declared.tree.Statement.TheOpen as S
use Rattle.seuss_program.specs.declared.tree.Statement.TheOpen.{Statement-F}
use Rattle.seuss_program.specs.Lines.{calls_step, calls_of, body_calls, pre_calls}
use Rattle.seuss_program.specs.Keeping.{all_true}
use Rattle.method_code.specs.declared.instruction.Instruction.{Instruction}
use Rattle.method_code.specs.declared.instruction.Instruction.TheVariants as I
use Rattle.method_code.specs.Codes.{call_code, joined, code_step, code_of, early_of, take_code, last_code}
use Rattle.method_code.specs.Codes.{alternative_code, heads, entry_of, form_code}
use Rattle.method_code.specs.Singles.{single_step, is_single_statement, is_single_body, are_single}
use Rattle.method_code.specs.Singles.{is_single}
use Rattle.method_code.proofs.Statements.{each, each_each, code-layer}
use Rattle.effect_sets.specs.Effects.{some_true, mentions, any_mentions, reads_step, statement_reads}
use Rattle.effect_sets.specs.Effects.{writes_step, statement_writes, body_reads, body_writes, pre_mentions}
use Rattle.effect_sets.specs.Effects.{pre_binds, binds, alternatives_test, alternatives_read}
use Rattle.effect_sets.specs.Effects.{alternatives_write, tests, reads, writes, is_some_call, has_early}
use Rattle.effect_sets.specs.Effects.{has_late}
use Rattle.effect_sets.specs.Masks.{is_call, is_again, is_early, calls_first}
use Rattle.effect_sets.proofs.CodeSets.{instruction_reads, instruction_writes, early_mentions, head_tests}
use Rattle.effect_sets.proofs.CodeSets.{entry_tests}

pub or_false : (b : Bool) → (b || false) ≡ b
or_false true = refl
or_false false = refl

-- two pairs
or_parted : (a b c d : Bool) → ((a || b) || (c || d)) ≡ ((a || c) || (b || d))
or_parted true b c d = refl
or_parted false true true d = refl
or_parted false true false d = refl
or_parted false false c d = refl

-- A fold over statements tells what their code does: whether it has an instruction of which a test holds.
record Tells (X : Type 0) (view : X → Bool) (step : Statement-F Ref X → X)
    (test : Instruction → Bool) : Type 0 where
  let_is : (name : Ref) (kind : Kind) (e : Expr Ref) → test (I.Set name e) ≡ view (step (S.Let name kind e))
  assign_is : (name : Ref) (e : Expr Ref) → test (I.Set name e) ≡ view (step (S.Assign name e))
  call_is : (bind : Option Ref) (call : Call Ref) →
      (test (I.Call (call_code call)) || test (I.Take bind)) ≡ view (step (S.Call bind call))
  if_is : (cond : Expr Ref) (holds fails : List X) (n k : ℕ) →
      (test (I.SkipUnless cond n) || (list_any view holds || (test (I.Skip k) || list_any view fails)))
      ≡ view (step (S.If cond holds fails))
  while_is : (cond : Expr Ref) (turn : List X) (n k : ℕ) →
      (test (I.Skip n) || (list_any view turn || test (I.Again cond k))) ≡ view (step (S.While cond turn))

module _ (X : Type 0) (view : X → Bool) (step : Statement-F Ref X → X) (test : Instruction → Bool)
    (tells : Tells X view step test) where
  fold : Statement Ref → X
  fold s = fold-Statement Ref X step s

  fold-layer : (d : Statement-F Ref (Statement Ref)) →
      fold (roll-Statement Ref d) ≡ step (map-Statement Ref (Statement Ref) X fold d)
  unfolding fold
  fold-layer d = fold-roll-Statement Ref X step d

  ToldSo : Statement Ref → Type 0
  ToldSo s = list_any test (code_of s) ≡ view (fold s)

  layer_told : (d : Statement-F Ref (Statement Ref)) →
      list_any test (code_step (map-Statement Ref (Statement Ref) (List Instruction) code_of d))
      ≡ view (step (map-Statement Ref (Statement Ref) X fold d)) → ToldSo (roll-Statement Ref d)
  unfolding ToldSo
  layer_told d h = ap (list_any test) (code-layer d) ∙ (h ∙ ap view (sym (fold-layer d)))

  module _ (Y : Type 0) (f : Y → Statement Ref) (each_told : (y : Y) → ToldSo (f y)) where
    mapped : (ys : List Y) → list_any test (joined (map (λ y. code_of (f y)) ys))
        ≡ list_any view (map (λ y. fold (f y)) ys)
    unfolding ToldSo
    mapped [] = refl
    mapped (y ∷ ys) =
        list_any-append test (code_of (f y)) (joined (map (λ y. code_of (f y)) ys))
        ∙ (ap (λ b. b || list_any test (joined (map (λ y. code_of (f y)) ys))) (each_told y)
        ∙ ap (λ b. view (fold (f y)) || b) (mapped ys))

    inner : (ys : List Y) → list_any test (joined (each code_of (each f ys)))
        ≡ list_any view (each fold (each f ys))
    inner ys = ap (λ l. list_any test (joined l)) (each_each f code_of ys)
        ∙ (mapped ys ∙ ap (list_any view) (sym (each_each f fold ys)))

    layer : (y : Statement-F Ref Y) → ToldSo (roll-Statement Ref (map-Statement Ref Y (Statement Ref) f y))
    layer (S.Let name kind e) =
        layer_told (S.Let name kind e) (or_false (test (I.Set name e)) ∙ tells.let_is name kind e)
    layer (S.Assign name e) = layer_told (S.Assign name e)
        (or_false (test (I.Set name e)) ∙ tells.assign_is name e)
    layer (S.Call bind call) =
        layer_told (S.Call bind call)
        (ap (λ b. test (I.Call (call_code call)) || b) (or_false (test (I.Take bind)))
        ∙ tells.call_is bind call)
    layer (S.If cond holds fails) =
        let left : List Instruction = joined (each code_of (each f holds)) in
        let right : List Instruction = joined (each code_of (each f fails)) in
        layer_told (S.If cond (each f holds) (each f fails))
        (ap (λ b. test (I.SkipUnless cond (length left + 1)) || b)
        (list_any-append test left (I.Skip (length right) ∷ right))
        ∙ (ap (λ b. test (I.SkipUnless cond (length left + 1))
        || (b || (test (I.Skip (length right)) || list_any test right))) (inner holds)
        ∙ (ap (λ b. test (I.SkipUnless cond (length left + 1))
        || (list_any view (each fold (each f holds)) || (test (I.Skip (length right)) || b)))
        (inner fails)
        ∙ tells.if_is cond (each fold (each f holds)) (each fold (each f fails)) (length left + 1)
        (length right))))
    layer (S.While cond turn) =
        let code : List Instruction = joined (each code_of (each f turn)) in
        layer_told (S.While cond (each f turn))
        (ap (λ b. test (I.Skip (length code)) || b)
        (list_any-append test code (I.Again cond (length code) ∷ []))
        ∙ (ap (λ b. test (I.Skip (length code)) || (b || (test (I.Again cond (length code)) || false)))
        (inner turn)
        ∙ (ap (λ b. test (I.Skip (length code)) || (list_any view (each fold (each f turn)) || b))
        (or_false (test (I.Again cond (length code))))
        ∙ tells.while_is cond (each fold (each f turn)) (length code) (length code))))

  told : (s : Statement Ref) → ToldSo s
  told = ind-Statement Ref ToldSo
      (λ x y is. subst (λ z. ToldSo (roll-Statement Ref z)) is (layer _ (λ e. e.0) (λ e. e.1) y))

  -- the code of a statement has such an instruction where the fold tells so
  statement_told : (s : Statement Ref) → list_any test (code_of s) ≡ view (fold-Statement Ref X step s)
  unfolding ToldSo fold
  statement_told s = told s

-- the truth of some of them
some_is : (bs : List Bool) → list_any (λ b. b) bs ≡ some_true bs
some_is [] = refl
some_is (b ∷ bs) = ap (λ c. b || c) (some_is bs)

reads_told : (v : ℕ) (s : Statement Ref) → list_any (instruction_reads v) (code_of s) ≡ statement_reads v s
unfolding statement_reads
reads_told v = statement_told Bool (λ b. b) (reads_step v) (instruction_reads v) (record {
  let_is = λ name kind e. refl;
  assign_is = λ name e. refl;
  call_is = λ bind call. or_false (any_mentions v call.args);
  if_is = λ cond holds fails n k. ap (λ b. mentions v cond || (b || list_any (λ b. b) fails)) (some_is holds)
      ∙ ap (λ b. mentions v cond || (some_true holds || b)) (some_is fails);
  while_is = λ cond turn n k. ap (λ b. b || mentions v cond) (some_is turn)
      ∙ turned (some_true turn) (mentions v cond);
})
  where
    turned : (a b : Bool) → (a || b) ≡ (b || a)
    turned true true = refl
    turned true false = refl
    turned false true = refl
    turned false false = refl

writes_told : (v : ℕ) (s : Statement Ref) →
    list_any (instruction_writes v) (code_of s) ≡ statement_writes v s
unfolding statement_writes
writes_told v = statement_told Bool (λ b. b) (writes_step v) (instruction_writes v) (record {
  let_is = λ name kind e. refl;
  assign_is = λ name e. refl;
  call_is = λ bind call. refl;
  if_is = λ cond holds fails n k. ap (λ b. b || list_any (λ b. b) fails) (some_is holds)
      ∙ ap (λ b. some_true holds || b) (some_is fails);
  while_is = λ cond turn n k. or_false (list_any (λ b. b) turn) ∙ some_is turn;
})

-- calls of lists of calls
call_append : (xs ys : List (Call Ref)) → is_some_call (xs ++ ys) ≡ (is_some_call xs || is_some_call ys)
call_append [] ys = refl
call_append (x ∷ xs) ys = refl

call_flat : {X : Type 0} (f : X → List (Call Ref)) (xs : List X) →
    is_some_call (flat_map f xs) ≡ list_any (λ x. is_some_call (f x)) xs
call_flat f [] = refl
call_flat f (x ∷ xs) = call_append (f x) (flat_map f xs) ∙ ap (λ b. is_some_call (f x) || b) (call_flat f xs)

-- the calls of two branches, and of a turn
either_calls : (holds fails : List (List (Call Ref))) →
    (list_any is_some_call holds || list_any is_some_call fails)
    ≡ is_some_call (flat_map (λ cs. cs) holds ++ flat_map (λ cs. cs) fails)
either_calls holds fails = sym (call_append (flat_map (λ cs. cs) holds) (flat_map (λ cs. cs) fails)
    ∙ (ap (λ b. b || is_some_call (flat_map (λ cs. cs) fails)) (call_flat (λ cs. cs) holds)
    ∙ ap (λ b. list_any is_some_call holds || b) (call_flat (λ cs. cs) fails)))

turn_calls : (turn : List (List (Call Ref))) →
    (list_any is_some_call turn || false) ≡ is_some_call (flat_map (λ cs. cs) turn)
turn_calls turn = or_false (list_any is_some_call turn) ∙ sym (call_flat (λ cs. cs) turn)

calls_told : (s : Statement Ref) → list_any is_call (code_of s) ≡ is_some_call (calls_of s)
unfolding calls_of
calls_told = statement_told (List (Call Ref)) is_some_call calls_step is_call (record {
  let_is = λ name kind e. refl;
  assign_is = λ name e. refl;
  call_is = λ bind call. refl;
  if_is = λ cond holds fails n k. either_calls holds fails;
  while_is = λ cond turn n k. turn_calls turn;
})

-- an instruction that a procedure of one step hasn't
abbrev pub is_more : Instruction → Bool
is_more i = is_call i || is_again i

not_and : (a b : Bool) → (not a || not b) ≡ not (a && b)
not_and true b = refl
not_and false b = refl

not_all : (bs : List Bool) → list_any not bs ≡ not (all_true bs)
not_all [] = refl
not_all (b ∷ bs) = ap (λ c. not b || c) (not_all bs) ∙ not_and b (all_true bs)

single_told : (s : Statement Ref) → list_any is_more (code_of s) ≡ not (is_single_statement s)
unfolding is_single_statement
single_told = statement_told Bool not single_step is_more (record {
  let_is = λ name kind e. refl;
  assign_is = λ name e. refl;
  call_is = λ bind call. refl;
  if_is = λ cond holds fails n k. ap (λ b. b || list_any not fails) (not_all holds)
      ∙ (ap (λ b. not (all_true holds) || b) (not_all fails) ∙ not_and (all_true holds) (all_true fails));
  while_is = λ cond turn n k. always (list_any not turn);
})
  where
    always : (b : Bool) → (b || true) ≡ true
    always true = refl
    always false = refl

-- the code of a body, and of an alternative
body_told : (step : Statement Ref → Bool) (test : Instruction → Bool) →
    ((s : Statement Ref) → list_any test (code_of s) ≡ step s) →
    (ss : List (Statement Ref)) → list_any test (flat_map code_of ss) ≡ list_any step ss
body_told step test h [] = refl
body_told step test h (s ∷ ss) =
    list_any-append test (code_of s) (flat_map code_of ss)
    ∙ (ap (λ b. b || list_any test (flat_map code_of ss)) (h s)
    ∙ ap (λ b. step s || b) (body_told step test h ss))

-- the sets of bodies
body_reads_is : (v : ℕ) (ss : List (Statement Ref)) →
    list_any (instruction_reads v) (flat_map code_of ss) ≡ body_reads v ss
body_reads_is v ss = body_told (statement_reads v) (instruction_reads v) (reads_told v) ss ∙ same ss
  where
    same : (ss : List (Statement Ref)) → list_any (statement_reads v) ss ≡ body_reads v ss
    same [] = refl
    same (s ∷ ss) = ap (λ b. statement_reads v s || b) (same ss)

body_writes_is : (v : ℕ) (ss : List (Statement Ref)) →
    list_any (instruction_writes v) (flat_map code_of ss) ≡ body_writes v ss
body_writes_is v ss = body_told (statement_writes v) (instruction_writes v) (writes_told v) ss ∙ same ss
  where
    same : (ss : List (Statement Ref)) → list_any (statement_writes v) ss ≡ body_writes v ss
    same [] = refl
    same (s ∷ ss) = ap (λ b. statement_writes v s || b) (same ss)

body_calls_is : (ss : List (Statement Ref)) →
    list_any is_call (flat_map code_of ss) ≡ is_some_call (flat_map calls_of ss)
body_calls_is ss = body_told (λ s. is_some_call (calls_of s)) is_call calls_told ss
    ∙ sym (call_flat calls_of ss)

body_single_is : (ss : List (Statement Ref)) →
    list_any is_more (flat_map code_of ss) ≡ not (is_single_body ss)
body_single_is ss = body_told (λ s. not (is_single_statement s)) is_more single_told ss ∙ same ss
  where
    same : (ss : List (Statement Ref)) →
        list_any (λ s. not (is_single_statement s)) ss ≡ not (is_single_body ss)
    same [] = refl
    same (s ∷ ss) = ap (λ b. not (is_single_statement s) || b) (same ss)
        ∙ not_and (is_single_statement s) (is_single_body ss)

-- what a test tells of the code of an alternative: of the instruction that takes a result, and of the body
alternative_told : (test : Instruction → Bool) → test I.Return ≡ false → test I.Reject ≡ false →
    (a : Alternative Ref) →
    list_any test (alternative_code a)
    ≡ (list_any test (take_code a.pre) || list_any test (flat_map code_of a.body))
alternative_told test returns rejects a =
    list_any-append test (take_code a.pre) (flat_map code_of a.body ++ last_code a)
    ∙ ap (λ b. list_any test (take_code a.pre) || b)
    (list_any-append test (flat_map code_of a.body) (last_code a)
    ∙ (ap (λ b. list_any test (flat_map code_of a.body) || b) (last a.positive)
    ∙ or_false (list_any test (flat_map code_of a.body))))
  where
    last : (b : Bool) → list_any test ((if b then I.Return else I.Reject) ∷ []) ≡ false
    last true = ap (λ b. b || false) returns
    last false = ap (λ b. b || false) rejects

-- the code of a total method, and of alternatives, by a test that neither a return nor a rejection passes
total_told : (test : Instruction → Bool) → test I.Return ≡ false → (ss : List (Statement Ref)) →
    list_any test (flat_map code_of ss ++ I.Return ∷ []) ≡ list_any test (flat_map code_of ss)
total_told test returns ss =
    list_any-append test (flat_map code_of ss) (I.Return ∷ [])
    ∙ (ap (λ b. list_any test (flat_map code_of ss) || (b || false)) returns
    ∙ or_false (list_any test (flat_map code_of ss)))

alternatives_told : (test : Instruction → Bool) → test I.Return ≡ false → test I.Reject ≡ false →
    (told : Alternative Ref → Bool) →
    ((a : Alternative Ref) → (list_any test (take_code a.pre) || list_any test (flat_map code_of a.body))
    ≡ told a) →
    (alts : List (Alternative Ref)) →
    list_any test (I.Reject ∷ flat_map alternative_code alts) ≡ list_any told alts
alternatives_told test returns rejects told h alts =
    ap (λ b. b || list_any test (flat_map alternative_code alts)) rejects ∙ all alts
  where
    all : (alts : List (Alternative Ref)) →
        list_any test (flat_map alternative_code alts) ≡ list_any told alts
    all [] = refl
    all (a ∷ alts) =
        list_any-append test (alternative_code a) (flat_map alternative_code alts)
        ∙ (ap (λ b. b || list_any test (flat_map alternative_code alts))
        (alternative_told test returns rejects a ∙ h a) ∙ ap (λ b. told a || b) (all alts))

-- what the heads test
early_is : (v : ℕ) (pre : Option (Pre Ref)) → early_mentions v (early_of pre) ≡ pre_mentions v pre
early_is v None = refl
early_is v (Some pre) = refl

heads_test : (v at : ℕ) (alts : List (Alternative Ref)) →
    list_any (head_tests v) (heads at alts) ≡ alternatives_test v alts
heads_test v at [] = refl
heads_test v at (a ∷ alts) =
    ap (λ b. (mentions v a.cond || b)
    || list_any (head_tests v) (heads (at + length (alternative_code a)) alts)) (early_is v a.pre)
    ∙ ap (λ b. (mentions v a.cond || pre_mentions v a.pre) || b)
    (heads_test v (at + length (alternative_code a)) alts)

pub tests_is : (v : ℕ) (form : Form Ref) → entry_tests v (entry_of form) ≡ tests v form
tests_is v (F.Total ss) = refl
tests_is v (F.Partial alts) = heads_test v 1 alts
tests_is v (F.Action alts) = heads_test v 1 alts

-- what the code reads
takes_nothing : (v : ℕ) (pre : Option (Pre Ref)) → list_any (instruction_reads v) (take_code pre) ≡ false
takes_nothing v None = refl
takes_nothing v (Some pre) = refl

tests_and_bodies : (v : ℕ) (alts : List (Alternative Ref)) →
    (alternatives_test v alts || list_any (λ (a : Alternative Ref). body_reads v a.body) alts)
    ≡ alternatives_read v alts
tests_and_bodies v [] = refl
tests_and_bodies v (a ∷ alts) =
    shuffled (mentions v a.cond) (pre_mentions v a.pre) (alternatives_test v alts) (body_reads v a.body)
    (list_any (λ (a : Alternative Ref). body_reads v a.body) alts)
    ∙ ap (λ b. (mentions v a.cond || (pre_mentions v a.pre || body_reads v a.body)) || b)
    (tests_and_bodies v alts)
  where
    shuffled : (c p h b r : Bool) → (((c || p) || h) || (b || r)) ≡ ((c || (p || b)) || (h || r))
    shuffled true p h b r = refl
    shuffled false true h b r = refl
    shuffled false false true true r = refl
    shuffled false false true false r = refl
    shuffled false false false b r = refl

choice_reads : (v : ℕ) (alts : List (Alternative Ref)) →
    (list_any (head_tests v) (heads 1 alts)
    || list_any (instruction_reads v) (I.Reject ∷ flat_map alternative_code alts)) ≡ alternatives_read v alts
choice_reads v alts =
    ap (λ b. b || list_any (instruction_reads v) (I.Reject ∷ flat_map alternative_code alts))
    (heads_test v 1 alts)
    ∙ (ap (λ b. alternatives_test v alts || b)
    (alternatives_told (instruction_reads v) refl refl (λ (a : Alternative Ref). body_reads v a.body)
    (λ a. ap (λ b. b || list_any (instruction_reads v) (flat_map code_of a.body)) (takes_nothing v a.pre)
    ∙ body_reads_is v a.body) alts)
    ∙ tests_and_bodies v alts)

pub reads_is : (v : ℕ) (form : Form Ref) →
    (entry_tests v (entry_of form) || list_any (instruction_reads v) (form_code form)) ≡ reads v form
reads_is v (F.Total ss) = total_told (instruction_reads v) refl ss ∙ body_reads_is v ss
reads_is v (F.Partial alts) = choice_reads v alts
reads_is v (F.Action alts) = choice_reads v alts

-- what the code writes
takes_bound : (v : ℕ) (pre : Option (Pre Ref)) →
    list_any (instruction_writes v) (take_code pre) ≡ pre_binds v pre
takes_bound v None = refl
takes_bound v (Some pre) = or_false (binds v pre.bind)

choice_writes : (v : ℕ) (alts : List (Alternative Ref)) →
    list_any (instruction_writes v) (I.Reject ∷ flat_map alternative_code alts) ≡ alternatives_write v alts
choice_writes v alts = alternatives_told (instruction_writes v) refl refl
    (λ (a : Alternative Ref). pre_binds v a.pre || body_writes v a.body)
    (λ a. ap (λ b. b || list_any (instruction_writes v) (flat_map code_of a.body)) (takes_bound v a.pre)
    ∙ ap (λ b. pre_binds v a.pre || b) (body_writes_is v a.body)) alts
    ∙ same alts
  where
    same : (alts : List (Alternative Ref)) →
        list_any (λ (a : Alternative Ref). pre_binds v a.pre || body_writes v a.body) alts
        ≡ alternatives_write v alts
    same [] = refl
    same (a ∷ alts) = ap (λ b. (pre_binds v a.pre || body_writes v a.body) || b) (same alts)

pub writes_is : (v : ℕ) (form : Form Ref) → list_any (instruction_writes v) (form_code form) ≡ writes v form
writes_is v (F.Total ss) = total_told (instruction_writes v) refl ss ∙ body_writes_is v ss
writes_is v (F.Partial alts) = choice_writes v alts
writes_is v (F.Action alts) = choice_writes v alts

-- whether it calls first
heads_early : (at : ℕ) (alts : List (Alternative Ref)) →
    list_any is_early (heads at alts)
    ≡ is_some_call (flat_map (λ (a : Alternative Ref). pre_calls a.pre) alts)
heads_early at [] = refl
heads_early at (a ∷ alts) =
    by a.pre ∙ (ap (λ b. is_some_call (pre_calls a.pre) || b)
    (heads_early (at + length (alternative_code a)) alts)
    ∙ sym (call_append (pre_calls a.pre) (flat_map (λ (a : Alternative Ref). pre_calls a.pre) alts)))
  where
    by : (pre : Option (Pre Ref)) →
        (is_some (early_of pre) || list_any is_early (heads (at + length (alternative_code a)) alts))
        ≡ (is_some_call (pre_calls pre) || list_any is_early (heads (at + length (alternative_code a)) alts))
    by None = refl
    by (Some pre) = refl

pub early_first : (form : Form Ref) → calls_first (entry_of form) ≡ has_early form
early_first (F.Total ss) = refl
early_first (F.Partial alts) = heads_early 1 alts
early_first (F.Action alts) = heads_early 1 alts

-- whether it calls
takes_no_call : (pre : Option (Pre Ref)) → list_any is_call (take_code pre) ≡ false
takes_no_call None = refl
takes_no_call (Some pre) = refl

choice_calls : (alts : List (Alternative Ref)) →
    list_any is_call (I.Reject ∷ flat_map alternative_code alts)
    ≡ is_some_call (flat_map (λ (a : Alternative Ref). flat_map calls_of a.body) alts)
choice_calls alts = alternatives_told is_call refl refl
    (λ (a : Alternative Ref). is_some_call (flat_map calls_of a.body))
    (λ a. ap (λ b. b || list_any is_call (flat_map code_of a.body)) (takes_no_call a.pre)
    ∙ body_calls_is a.body) alts
    ∙ sym (call_flat (λ (a : Alternative Ref). flat_map calls_of a.body) alts)

pub calls_is : (form : Form Ref) → list_any is_call (form_code form) ≡ is_some_call (body_calls form)
calls_is (F.Total ss) = total_told is_call refl ss ∙ body_calls_is ss
calls_is (F.Partial alts) = choice_calls alts
calls_is (F.Action alts) = choice_calls alts

pub late_is : (form : Form Ref) →
    (calls_first (entry_of form) || list_any is_call (form_code form)) ≡ has_late form
late_is form = ap (λ b. b || list_any is_call (form_code form)) (early_first form)
    ∙ ap (λ b. has_early form || b) (calls_is form)

-- whether it is more than one step
takes_no_more : (pre : Option (Pre Ref)) → list_any is_more (take_code pre) ≡ false
takes_no_more None = refl
takes_no_more (Some pre) = refl

choice_single : (alts : List (Alternative Ref)) →
    (list_any is_early (heads 1 alts) || list_any is_more (I.Reject ∷ flat_map alternative_code alts))
    ≡ not (are_single alts)
choice_single alts = ap (λ b. list_any is_early (heads 1 alts) || b)
    (alternatives_told is_more refl refl (λ (a : Alternative Ref). not (is_single_body a.body))
    (λ a. ap (λ b. b || list_any is_more (flat_map code_of a.body)) (takes_no_more a.pre)
    ∙ body_single_is a.body) alts)
    ∙ same 1 alts
  where
    first : (pre : Option (Pre Ref)) (b : Bool) → (is_some (early_of pre) || not b) ≡ not (is_none pre && b)
    first None b = refl
    first (Some pre) b = refl

    same : (at : ℕ) (alts : List (Alternative Ref)) →
        (list_any is_early (heads at alts)
        || list_any (λ (a : Alternative Ref). not (is_single_body a.body)) alts) ≡ not (are_single alts)
    same at [] = refl
    same at (a ∷ alts) =
        or_parted (is_some (early_of a.pre))
        (list_any is_early (heads (at + length (alternative_code a)) alts)) (not (is_single_body a.body))
        (list_any (λ (a : Alternative Ref). not (is_single_body a.body)) alts)
        ∙ (ap (λ b. b || (list_any is_early (heads (at + length (alternative_code a)) alts)
        || list_any (λ (a : Alternative Ref). not (is_single_body a.body)) alts))
        (first a.pre (is_single_body a.body))
        ∙ (ap (λ b. not (is_none a.pre && is_single_body a.body) || b)
        (same (at + length (alternative_code a)) alts)
        ∙ not_and (is_none a.pre && is_single_body a.body) (are_single alts)))

more_is : (is : List Instruction) → list_any is_more is ≡ (list_any is_call is || list_any is_again is)
more_is [] = refl
more_is (i ∷ is) = ap (λ b. is_more i || b) (more_is is)
    ∙ or_parted (is_call i) (is_again i) (list_any is_call is) (list_any is_again is)

form_single : (form : Form Ref) →
    (calls_first (entry_of form) || list_any is_more (form_code form)) ≡ not (is_single form)
form_single (F.Total ss) = total_told is_more refl ss ∙ body_single_is ss
form_single (F.Partial alts) = choice_single alts
form_single (F.Action alts) = choice_single alts

pub single_is : (form : Form Ref) →
    (calls_first (entry_of form)
    || (list_any is_call (form_code form) || list_any is_again (form_code form))) ≡ not (is_single form)
single_is form = ap (λ b. calls_first (entry_of form) || b) (sym (more_is (form_code form)))
    ∙ form_single form

-- an instruction that takes the result of a call
abbrev pub is_take : Instruction → Bool
is_take (I.Set name e) = false
is_take (I.SkipUnless cond many) = false
is_take (I.Skip many) = false
is_take (I.Again cond many) = false
is_take (I.Call call) = false
is_take (I.Take name) = true
is_take I.Return = false
is_take I.Reject = false

takes_told : (s : Statement Ref) → list_any is_take (code_of s) ≡ is_some_call (calls_of s)
unfolding calls_of
takes_told = statement_told (List (Call Ref)) is_some_call calls_step is_take (record {
  let_is = λ name kind e. refl;
  assign_is = λ name e. refl;
  call_is = λ bind call. refl;
  if_is = λ cond holds fails n k. either_calls holds fails;
  while_is = λ cond turn n k. turn_calls turn;
})

body_takes_is : (ss : List (Statement Ref)) →
    list_any is_take (flat_map code_of ss) ≡ is_some_call (flat_map calls_of ss)
body_takes_is ss = body_told (λ s. is_some_call (calls_of s)) is_take takes_told ss
    ∙ sym (call_flat calls_of ss)

choice_takes : (alts : List (Alternative Ref)) → list_any is_take (I.Reject ∷ flat_map alternative_code alts)
    ≡ (is_some_call (flat_map (λ (a : Alternative Ref). pre_calls a.pre) alts)
    || is_some_call (flat_map (λ (a : Alternative Ref). flat_map calls_of a.body) alts))
choice_takes alts = alternatives_told is_take refl refl
    (λ (a : Alternative Ref). is_some_call (pre_calls a.pre) || is_some_call (flat_map calls_of a.body))
    (λ a. ap (λ b. b || list_any is_take (flat_map code_of a.body)) (first a.pre)
    ∙ ap (λ b. is_some_call (pre_calls a.pre) || b) (body_takes_is a.body)) alts
    ∙ (parted alts ∙ (ap (λ b. b
    || list_any (λ (a : Alternative Ref). is_some_call (flat_map calls_of a.body)) alts)
    (sym (call_flat (λ (a : Alternative Ref). pre_calls a.pre) alts))
    ∙ ap (λ b. is_some_call (flat_map (λ (a : Alternative Ref). pre_calls a.pre) alts) || b)
    (sym (call_flat (λ (a : Alternative Ref). flat_map calls_of a.body) alts))))
  where
    first : (pre : Option (Pre Ref)) → list_any is_take (take_code pre) ≡ is_some_call (pre_calls pre)
    first None = refl
    first (Some pre) = refl

    parted : (alts : List (Alternative Ref)) →
        list_any (λ (a : Alternative Ref). is_some_call (pre_calls a.pre)
        || is_some_call (flat_map calls_of a.body)) alts
        ≡ (list_any (λ (a : Alternative Ref). is_some_call (pre_calls a.pre)) alts
        || list_any (λ (a : Alternative Ref). is_some_call (flat_map calls_of a.body)) alts)
    parted [] = refl
    parted (a ∷ alts) =
        ap (λ b. (is_some_call (pre_calls a.pre) || is_some_call (flat_map calls_of a.body)) || b)
        (parted alts)
        ∙ or_parted (is_some_call (pre_calls a.pre)) (is_some_call (flat_map calls_of a.body))
        (list_any (λ (a : Alternative Ref). is_some_call (pre_calls a.pre)) alts)
        (list_any (λ (a : Alternative Ref). is_some_call (flat_map calls_of a.body)) alts)

-- a result is taken exactly where a procedure calls
pub takes_is : (form : Form Ref) → list_any is_take (form_code form) ≡ has_late form
takes_is (F.Total ss) = total_told is_take refl ss ∙ body_takes_is ss
takes_is (F.Partial alts) = choice_takes alts
takes_is (F.Action alts) = choice_takes alts
