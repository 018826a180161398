-- The names of a tree that is printable are names.
use Rattle.std.proofs.Common.{◌≡◌, ◌≢◌, ℕ, zero, suc, pos, ◌<◌, Bool, true, false, List, [], refl}
use Rattle.std.proofs.Common.{◌∷◌, ◌++◌, All, get_or, length, Some, arith}
use Rattle.std.specs.List.{flat_map, list_all}
use Rattle.std.specs.Char.{is_ascii_alphanumeric}
use Rattle.std.specs.Prelude.{IsTrue, ◌==◌, ◌||◌, None, if◌then◌else◌}
use Rattle.std.proofs.lemmas.List.Elements.{All-head, All-tail}
use Rattle.seuss_text.specs.Bytes.{is_name_byte}
use Rattle.seuss_text.specs.Words.{kind_of, is_letters}
use Rattle.seuss_text.specs.declared.token.TokenKind.TheVariants.{Name as NameKind, Number, Sign, Keyword}
use Rattle.seuss_text.specs.declared.token.TokenKind.TheVariants as K
use Rattle.seuss_program.specs.declared.tree.Name.{Name}
use Rattle.seuss_program.specs.declared.tree.Var.{Var}
use Rattle.seuss_program.specs.declared.tree.Form.{Form}
use Rattle.seuss_program.specs.declared.tree.Form.TheVariants as F
use Rattle.seuss_program.specs.declared.tree.Proc.{Proc}
use Rattle.seuss_program.specs.declared.tree.Cat.{Cat}
use Rattle.seuss_program.specs.declared.tree.BoxDecl.{BoxDecl}
use Rattle.seuss_program.specs.declared.tree.Tree.{Tree}
use Rattle.seuss_parser.specs.declared.symbol.Symbol.TheVariants as S
use Rattle.seuss_print.specs.Items.{Item, Token, Space, LineFeed, tokens_in, line, symbol, named, number}
use Rattle.seuss_print.specs.Items.{perhaps_bracketed}
use Rattle.seuss_print.specs.Canonical.{variable, form_items, procedure, semi, given, cat, box, program}
use Rattle.seuss_print.specs.Printable.{IsWithinLimit, IsPrintable}
use Rattle.report_text.specs.Names.{IsName}

-- a name is a letter and bytes of names
name_letters : (word : List ℕ) → kind_of word ≡ Some NameKind → is_letters word ≡ true
name_letters word h = by_test _ _ _ _ h
  where
    by_test : (letters key digits sign : Bool) →
        (if letters then Some (if key then Keyword else NameKind)
        else (if digits then Some Number else (if sign then Some Sign else None))) ≡ Some NameKind →
        letters ≡ true
    by_test true key digits sign h = refl
    by_test false key true sign h = absurd (cc h)
    by_test false key false true h = absurd (cc h)
    by_test false key false false h = absurd (cc h)

name_bytes : (word : List ℕ) → is_letters word ≡ true → list_all is_name_byte word ≡ true
name_bytes [] h = refl
name_bytes (b ∷ bs) h = grind arith

-- the variables and the procedures of a cat have names
pub record HasSpelledCat (c : Cat Name) : Type 0 where
  pub vars : All (λ (v : Var). IsName v.name) c.vars
  pub procs : All (λ (q : Proc Name). IsName q.name) c.procs

-- and so on for the whole of a tree
pub record HasSpelledNames (tree : Tree) : Type 0 where
  pub cats : All HasSpelledCat tree.cats
  pub boxes : All (λ (b : BoxDecl). IsName b.name) tree.boxes

-- the tokens among items are within their limits, by the items
abbrev AreWithin : List Item → Type 0
AreWithin [] = Unit {0}
AreWithin (Token sort ∷ items) = IsWithinLimit sort × AreWithin items
AreWithin (Space ∷ items) = AreWithin items
AreWithin (LineFeed ∷ items) = AreWithin items

-- where all tokens are within their limits, those among the items are
within_by : (items : List Item) → All IsWithinLimit (tokens_in items) → AreWithin items
within_by [] all = tt
within_by (Token sort ∷ items) all = (
  All-head IsWithinLimit sort (tokens_in items) all,
  within_by items (All-tail IsWithinLimit sort (tokens_in items) all),
)
within_by (Space ∷ items) all = within_by items all
within_by (LineFeed ∷ items) all = within_by items all

-- of items put together, the first part is within the limits
within_first : (xs ys : List Item) → AreWithin (xs ++ ys) → AreWithin xs
within_first [] ys are = tt
within_first (Token sort ∷ xs) ys are = (are.0, within_first xs ys are.1)
within_first (Space ∷ xs) ys are = within_first xs ys are
within_first (LineFeed ∷ xs) ys are = within_first xs ys are

-- and the second part
within_second : (xs ys : List Item) → AreWithin (xs ++ ys) → AreWithin ys
within_second [] ys are = are
within_second (Token sort ∷ xs) ys are = within_second xs ys are.1
within_second (Space ∷ xs) ys are = within_second xs ys are
within_second (LineFeed ∷ xs) ys are = within_second xs ys are

-- and of things one after the other each one
within_each : {A : Type 0} (print : A → List Item) (xs : List A) (k : ℕ) (d : A) →
    AreWithin (flat_map print xs) →
    k < length xs → AreWithin (print (get_or xs k d))
within_each print [] k d are within = absurd (omega arith)
within_each print (x ∷ xs) zero d are within = within_first (print x) (flat_map print xs) are
within_each print (x ∷ xs) (suc k) d are within =
    within_each print xs k d (within_second (print x) (flat_map print xs) are) (omega arith)

-- what is spelled as a name has a byte
name_some : (word : List ℕ) → is_letters word ≡ true → word ≢ []
name_some [] h = absurd (cc h)
name_some (b ∷ bs) h = λ e. cc e

-- what `report_text` says of names that are spelled so
abbrev pub SpelledAreNames : Type 0
SpelledAreNames = (name : Name) → name.text ≢ [] →
    IsTrue (list_all (λ (b : ℕ). is_ascii_alphanumeric b || b == 95) name.text) → IsName name

-- the first line of a cat
abbrev head_of : Cat Name → List Item
head_of c = line 0 (symbol S.Cat ∷ Space ∷ named c.name ∷ perhaps_bracketed given c.given)

-- the last line of a cat
abbrev end : List Item
end = line 0 (symbol S.End ∷ [])

module _ (law : SpelledAreNames) where
  -- a token that is a name is one that a report tells
  is_name : (name : Name) → kind_of name.text ≡ Some K.Name → IsName name
  is_name name is =
      let letters = name_letters name.text is in
      law name (name_some name.text letters) (name_bytes name.text letters)

  -- the name of a box is a name
  box_spelled : (b : BoxDecl) → AreWithin (box b) → IsName b.name
  box_spelled b are = is_name b.name are.1.0.0

  -- the name of a variable is a name
  var_spelled : (v : Var) → AreWithin (variable v) → IsName v.name
  var_spelled v are = is_name v.name are.1.0.0

  -- the name of a procedure is a name, by its form
  form_spelled : (q : Proc Name) (form : Form Name) → AreWithin (form_items q form) → IsName q.name
  form_spelled q (F.Total statements) are = is_name q.name are.1.0.0
  form_spelled q (F.Partial alternatives) are = is_name q.name are.1.0.0
  form_spelled q (F.Action alternatives) are = is_name q.name are.1.0.0

  -- the name of a procedure is a name
  proc_spelled : (q : Proc Name) → AreWithin (procedure q) → IsName q.name
  proc_spelled q are =
      form_spelled q q.form (within_first (form_items q q.form) (line 1 (symbol S.End ∷ [])) are)

  -- the names in a cat are names
  cat_spelled : (c : Cat Name) → AreWithin (cat c) → HasSpelledCat c
  cat_spelled c are =
      let vars = flat_map variable c.vars in
      let procs = flat_map procedure c.procs in
      let semis = flat_map semi c.semis in
      let before = within_first (head_of c ++ vars ++ procs) semis
      (within_first (head_of c ++ vars ++ procs ++ semis) end are) in
      let on_procs = within_second (head_of c ++ vars) procs before in
      let on_vars = within_second (head_of c) vars (within_first (head_of c ++ vars) procs before) in
      record {
        vars = λ k d within. var_spelled (get_or c.vars k d) (within_each variable c.vars k d on_vars within);
        procs = λ k d within. proc_spelled (get_or c.procs k d)
            (within_each procedure c.procs k d on_procs within);
      }

  -- the names of a whole tree
  pub names_spelled : (tree : Tree) → IsPrintable tree → HasSpelledNames tree
  names_spelled tree printable =
      let start = line 0 (symbol S.Seuss ∷ Space ∷ number (pos 1) ∷ []) in
      let cats = flat_map cat tree.cats in
      let boxes = flat_map box tree.boxes in
      let whole = within_by (program tree) printable.tokens in
      let on_cats = within_second start cats (within_first (start ++ cats) boxes whole) in
      let on_boxes = within_second (start ++ cats) boxes whole in
      record {
        cats = λ k d within. cat_spelled (get_or tree.cats k d)
            (within_each cat tree.cats k d on_cats within);
        boxes = λ k d within. box_spelled (get_or tree.boxes k d)
            (within_each box tree.boxes k d on_boxes within);
      }
