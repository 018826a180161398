-- The names of a program are those of its text, and of the built-in cats.
use Rattle.std.proofs.Common.{◌≡◌, ◌<◌, List, [], ◌∷◌, All, AllPairs, get_or, map, length, codes, refl, sym}
use Rattle.std.proofs.Common.{subst, arith}
use Rattle.std.proofs.lemmas.List.{get_or-map, length-map}
use Rattle.std.proofs.lemmas.List.Elements.{All-nil, All-cons, All-map}
use Rattle.seuss_program.specs.declared.tree.Name.{Name}
use Rattle.seuss_program.specs.declared.tree.Ref.{Ref}
use Rattle.seuss_program.specs.declared.tree.Kind.TheVariants as K
use Rattle.seuss_program.specs.declared.state.Value.TheVariants as V
use Rattle.seuss_program.specs.declared.tree.Var.{Var}
use Rattle.seuss_program.specs.declared.tree.Proc.{Proc}
use Rattle.seuss_program.specs.declared.tree.Cat.{Cat}
use Rattle.seuss_program.specs.declared.tree.Tree.{Tree}
use Rattle.seuss_program.specs.declared.program.BoxInfo.{BoxInfo}
use Rattle.seuss_program.specs.declared.program.Program.{Program}
use Rattle.box_types.specs.BuiltInTexts.{with_built_ins, input, output, read, write, word}
use Rattle.box_types.specs.Namings as N
use Rattle.box_types.specs.Namings.{named}
use Rattle.box_types.specs.OwnNames.{ProcsDiffer, HasOwnNames}
use Rattle.call_order.specs.Levels.{without_level}
use Rattle.call_order.specs.Answers.{IsOrdered}
use Rattle.report_text.specs.Names.{IsName, DiffersFrom, HasNamesInside, HasNames}
use Rattle.seuss_run.proofs.SpelledNames.{HasSpelledCat, HasSpelledNames, SpelledAreNames}

module _ {X Y : Type 0} (f : X → Y) where
  -- what holds of all that is made of a list's items holds of it for each item
  all_back : (P : Y → Type 0) (xs : List X) → All P (map f xs) → All (λ x. P (f x)) xs
  all_back P xs all = λ k d within.
      let long : length (map f xs) ≡ length xs = length-map xs f in
      subst P (get_or-map f xs k d (f d) within) (all k (f d) (omega arith))

  -- what holds of all pairs that are made of a list's items holds of it for each pair of items
  pairs_back : (R : Y → Y → Type 0) (xs : List X) → AllPairs R (map f xs) →
      AllPairs (λ x y. R (f x) (f y)) xs
  pairs_back R xs all = λ i j d before within.
      let long : length (map f xs) ≡ length xs = length-map xs f in
      let first : get_or (map f xs) i (f d) ≡ f (get_or xs i d) = get_or-map f xs i d (f d) (omega arith) in
      subst (λ y. R (f (get_or xs i d)) y) (get_or-map f xs j d (f d) within)
      (subst (λ x. R x (get_or (map f xs) j (f d))) first (all i j (f d) before (omega arith)))

  -- and the other way round
  pairs_map : (R : Y → Y → Type 0) (xs : List X) → AllPairs (λ x y. R (f x) (f y)) xs → AllPairs R (map f xs)
  pairs_map R [] all = λ i j d before within. absurd (omega arith)
  pairs_map R (x ∷ xs) all = λ i j d before within.
      let long : length (map f (x ∷ xs)) ≡ length (x ∷ xs) = length-map (x ∷ xs) f in
      let near : j < length (x ∷ xs) = omega arith in
      let first : get_or (map f (x ∷ xs)) i d ≡ f (get_or (x ∷ xs) i x) =
      get_or-map f (x ∷ xs) i x d (omega arith) in
      subst (λ z. R (get_or (map f (x ∷ xs)) i d) z) (sym (get_or-map f (x ∷ xs) j x d near))
      (subst (λ z. R z (f (get_or (x ∷ xs) j x))) (sym first) (all i j x before near))

-- procedures have different names
abbrev Apart : (N : Type 0) → Proc N → Proc N → Type 0
Apart N q r = DiffersFrom q.name r.name

-- boxes have different names
abbrev BoxesApart : BoxInfo → BoxInfo → Type 0
BoxesApart b c = DiffersFrom b.name c.name

-- the numbered form of a cat has the names of the cat
numbered_names : (cats : List (Cat Name)) (own : Cat Name) → HasSpelledCat own → ProcsDiffer own →
    HasNamesInside (N.cat cats own)
numbered_names cats own spelled differ = record {
  vars = spelled.vars;
  procs = All-map (λ (q : Proc Ref). IsName q.name) (N.procedure cats own) own.procs spelled.procs;
  procs_differ = pairs_map (N.procedure cats own) (Apart Ref) own.procs differ;
}

-- what holds of an item holds of all of a list of one
all_one : {X : Type 0} (P : X → Type 0) (x : X) → P x → All P (x ∷ [])
all_one P x is = All-cons P x [] is (All-nil P)

-- no two items stand in a list of one
pairs_one : {X : Type 0} (R : X → X → Type 0) (x : X) → AllPairs R (x ∷ [])
pairs_one R x = λ i j d before within. absurd (omega arith)

-- the variable of the built-in cats, and the names of these
abbrev the_queue : Var
the_queue = record { name = word (codes "q"); kind = K.Seq; start = V.Seq [] }

module _ (law : SpelledAreNames) where
  input_spelled : HasSpelledCat input
  input_spelled = record {
    vars = all_one (λ (v : Var). IsName v.name) the_queue (law the_queue.name (λ e. cc e) refl);
    procs = all_one (λ (q : Proc Name). IsName q.name) read (law read.name (λ e. cc e) refl);
  }

  output_spelled : HasSpelledCat output
  output_spelled = record {
    vars = all_one (λ (v : Var). IsName v.name) the_queue (law the_queue.name (λ e. cc e) refl);
    procs = all_one (λ (q : Proc Name). IsName q.name) write (law write.name (λ e. cc e) refl);
  }

  module _ (tree : Tree) (spelled : HasSpelledNames tree) (own : HasOwnNames tree) where
    abbrev whole : List (Cat Name)
    whole = (with_built_ins tree).cats

    -- each cat with the built-in ones in front
    each_cat : All (λ c. HasNamesInside (N.cat whole c)) whole
    each_cat = All-cons (λ c. HasNamesInside (N.cat whole c)) input (output ∷ tree.cats)
        (numbered_names whole input input_spelled (pairs_one (Apart Name) read))
        (All-cons (λ c. HasNamesInside (N.cat whole c)) output tree.cats
        (numbered_names whole output output_spelled (pairs_one (Apart Name) write))
        (λ k d within. numbered_names whole (get_or tree.cats k d) (spelled.cats k d within)
        (own.procs k d within)))

    -- the program of the text
    pub program_names : (p : Program) → IsOrdered p tree → HasNames p
    program_names p ordered = record {
      cats = subst (λ (cs : List (Cat Ref)). All HasNamesInside cs) (sym ordered.levels.cats)
          (All-map HasNamesInside (N.cat whole) whole each_cat);
      boxes = all_back without_level (λ (b : BoxInfo). IsName b.name) p.boxes
          (subst (λ (bs : List BoxInfo). All (λ (b : BoxInfo). IsName b.name) bs) (sym ordered.levels.boxes)
          (All-map (λ (b : BoxInfo). IsName b.name) without_level (named tree).boxes
          (All-map (λ (b : BoxInfo). IsName b.name) (N.box_info whole tree.boxes) tree.boxes spelled.boxes)));
      boxes_differ = pairs_back without_level BoxesApart p.boxes
          (subst (AllPairs BoxesApart)
          (sym ordered.levels.boxes)
          (pairs_map without_level BoxesApart (named tree).boxes
          (pairs_map (N.box_info whole tree.boxes) BoxesApart tree.boxes own.boxes)));
    }
