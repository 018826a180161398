-- What a line of a report tells by the bytes that it begins with.
use Rattle.std.proofs.Common.{◌≡◌, ℕ, ◌==◌, if◌then◌else◌, List, [], ◌∷◌, ◌++◌, codes, Option, None, Some}
use Rattle.std.proofs.Common.{option_and_then, drop, refl, sym, ◌∙◌, ap, subst, append_assoc, arith}
use Rattle.std.specs.Prelude.{slice_get, All}
use Rattle.std.proofs.lemmas.Option.{slice_get_within, get_or_from_slice_get}
use Rattle.std.proofs.lemmas.List.{append_cancel_left}
use Rattle.std.proofs.lemmas.List.Elements.{All-head, All-tail}
use Rattle.seuss_base.specs.declared.outcome.Trap.{Trap}
use Rattle.seuss_base.specs.declared.outcome.Trap.TheVariants as T
use Rattle.seuss_base.specs.declared.outcome.Outcome.{Outcome}
use Rattle.seuss_base.specs.declared.outcome.Outcome.TheVariants as O
use Rattle.seuss_program.specs.declared.tree.Ref.{Ref}
use Rattle.seuss_program.specs.declared.tree.Cat.{Cat}
use Rattle.seuss_program.specs.declared.tree.Proc.{Proc}
use Rattle.seuss_program.specs.declared.tree.Var.{Var}
use Rattle.seuss_program.specs.declared.program.Program.{Program}
use Rattle.seuss_program.specs.declared.program.BoxInfo.{BoxInfo}
use Rattle.seuss_program.specs.declared.program.ActionInfo.{ActionInfo}
use Rattle.seuss_program.specs.declared.state.Value.{Value}
use Rattle.seuss_program.specs.declared.state.Vars.{Vars}
use Rattle.seuss_program.specs.declared.state.State.{State}
use Rattle.seuss_program.specs.declared.order.Placed.{Placed}
use Rattle.seuss_program.specs.declared.order.LastLine.{LastLine}
use Rattle.seuss_program.specs.declared.order.LastLine.TheVariants as L
use Rattle.seuss_program.specs.Programs.{cat_of, procedure_of}
use Rattle.seuss_program.specs.Reports.{line, outcome_text, value_text, box_name, proc_name, attempt_line}
use Rattle.seuss_program.specs.Reports.{var_line, var_lines, vars_in, box_lines, last_line_text, end_text}
use Rattle.report_text.specs.Names.{IsName, HasNamesInside, HasNames}
use Rattle.report_text.proofs.WordLemmas.{IsWord, no_bytes, after_word, word_ends, same_words}

-- the kinds of lines: the head of a round, an attempt, and those after the rounds
pub data Kind : Type 0 where
  Head : Kind
  Attempt : Kind
  End : Kind

-- by what stands after the name after the point: `=` is that of a variable
abbrev kind_after_point : List ℕ → Kind
kind_after_point [] = End
kind_after_point (b ∷ []) = End
kind_after_point (b ∷ c ∷ bs) = if c == 61 then End else Attempt

-- by the first byte and what stands after the first word: a point after a box, or a head's `r`
abbrev kind_by : ℕ → List ℕ → Kind
kind_by first [] = End
kind_by first (b ∷ bs) =
    if b == 46 then kind_after_point (after_word bs) else (if first == 114 then Head else End)

-- the kind of the line that a text begins with; a text of no bytes has the kind of what ends a report
abbrev pub kind_of : List ℕ → Kind
kind_of [] = End
kind_of (b ∷ bs) = kind_by b (after_word (b ∷ bs))

-- a text that begins with a word and a point is of the kind that stands after the point
kind_point : (word rest : List ℕ) → IsWord word →
    kind_of (word ++ 46 ∷ rest) ≡ kind_after_point (after_word rest)
kind_point [] rest h = refl
kind_point (b ∷ bs) rest h = rw (word_ends (b ∷ bs) 46 rest h refl) refl

-- a text that begins with the head of a round is of its kind
pub kind_head : (number rest : List ℕ) → kind_of (line (codes "round " ++ number) ++ rest) ≡ Head
kind_head number rest = refl

-- what holds of each item holds of the one at a place
pub all_get : {X : Type 0} (P : X → Type 0) (xs : List X) (i : ℕ) (x : X) → All P xs →
    slice_get xs i ≡ Some x → P x
all_get P xs i x all there =
    subst P (get_or_from_slice_get xs i x x there) (all i x (slice_get_within xs i x there))

-- the trap that a text begins with
abbrev trap_of : List ℕ → Trap
trap_of [] = T.Overflow
trap_of (b ∷ []) = T.Overflow
trap_of (b ∷ c ∷ bs) =
    if b == 122 then T.ZeroDivisor else (if b == 101 then T.EmptySequence
    else (if c == 117 then T.OutOfRange else T.Overflow))

-- the outcome that a text begins with
abbrev outcome_of : List ℕ → Outcome
outcome_of [] = O.Spent
outcome_of (b ∷ bs) =
    if b == 97 then O.Accepted else (if b == 114 then O.Rejected
    else (if b == 116 then O.Trapped (trap_of (drop 7 bs)) else O.Spent))

-- a text that begins with the line of an outcome begins with that outcome
outcome_read : (o : Outcome) (rest : List ℕ) → outcome_of (outcome_text o ++ 10 ∷ rest) ≡ o
outcome_read O.Accepted rest = refl
outcome_read O.Rejected rest = refl
outcome_read (O.Trapped T.Overflow) rest = refl
outcome_read (O.Trapped T.ZeroDivisor) rest = refl
outcome_read (O.Trapped T.EmptySequence) rest = refl
outcome_read (O.Trapped T.OutOfRange) rest = refl
outcome_read O.Spent rest = refl

-- what stands after the same byte is the same
tails_same : (c : ℕ) (r s : List ℕ) → c ∷ r ≡ c ∷ s → r ≡ s
tails_same c r s e = cc

-- equal texts begin with the same outcome, and go on in the same way after its line
outcomes_same : (o o' : Outcome) (rest other : List ℕ) →
    outcome_text o ++ 10 ∷ rest ≡ outcome_text o' ++ 10 ∷ other → (o ≡ o') × (rest ≡ other)
outcomes_same o o' rest other same =
    let here : o ≡ o' = sym (outcome_read o rest) ∙ (ap outcome_of same ∙ outcome_read o' other) in
    let back : outcome_text o ++ 10 ∷ rest ≡ outcome_text o ++ 10 ∷ other =
    same ∙ ap (λ x. outcome_text x ++ 10 ∷ other) (sym here) in
    let ends : 10 ∷ rest ≡ 10 ∷ other = append_cancel_left (outcome_text o) (10 ∷ rest) (10 ∷ other) back in
    (here, tails_same 10 rest other ends)

module _ (p : Program) (names : HasNames p) where
  -- the name of a box is a word
  box_word : (box : ℕ) → IsWord (box_name (slice_get p.boxes box))
  box_word box = by (slice_get p.boxes box) refl
    where
      by : (found : Option BoxInfo) → slice_get p.boxes box ≡ found → IsWord (box_name found)
      by None there = no_bytes
      by (Some b) there =
          let named : IsName b.name =
          all_get (λ (x : BoxInfo). IsName x.name) p.boxes box b names.boxes there in named.whole

  -- the variables and the procedures of a cat of the program have names
  cat_names : (box : ℕ) (c : Cat Ref) → cat_of p box ≡ Some c → HasNamesInside c
  cat_names box c there = by (slice_get p.boxes box) there
    where
      by : (found : Option BoxInfo) →
          option_and_then (λ (b : BoxInfo). slice_get p.cats b.cat) found ≡ Some c → HasNamesInside c
      by None there = cc
      by (Some b) there = all_get HasNamesInside p.cats b.cat c names.cats there

  -- the name of a procedure of a box is a word
  proc_word : (box number : ℕ) → IsWord (proc_name (procedure_of p box number))
  proc_word box number = by (cat_of p box) refl
    where
      inside : (c : Cat Ref) (found : Option (Proc Ref)) → HasNamesInside c →
          slice_get c.procs number ≡ found →
          IsWord (proc_name found)
      inside c None own there = no_bytes
      inside c (Some q) own there =
          let named : IsName q.name =
          all_get (λ (x : Proc Ref). IsName x.name) c.procs number q own.procs there in
          named.whole

      by : (found : Option (Cat Ref)) → cat_of p box ≡ found →
          IsWord (proc_name (option_and_then (λ (c : Cat Ref). slice_get c.procs number) found))
      by None there = no_bytes
      by (Some c) there = inside c (slice_get c.procs number) (cat_names box c there) refl

  -- the line of an attempt, with what follows it
  attempt_text : (e : Placed) (a : ActionInfo) (rest : List ℕ) → slice_get p.actions e.action ≡ Some a →
      attempt_line p e ++ rest ≡ box_name (slice_get p.boxes a.box_number)
      ++ 46 ∷ (proc_name (procedure_of p a.box_number a.procedure)
      ++ 32 ∷ (outcome_text e.outcome ++ 10 ∷ rest))
  attempt_text e a rest there = rw there (simp append_assoc)

  -- what stands after the name of an attempt is an outcome
  outcome_kind : (o : Outcome) (rest : List ℕ) → kind_after_point (32 ∷ (outcome_text o ++ rest)) ≡ Attempt
  outcome_kind O.Accepted rest = refl
  outcome_kind O.Rejected rest = refl
  outcome_kind (O.Trapped t) rest = refl
  outcome_kind O.Spent rest = refl

  -- the line of an attempt is of the kind of attempts
  pub kind_attempt : (e : Placed) (a : ActionInfo) (rest : List ℕ) → slice_get p.actions e.action ≡ Some a →
      kind_of (attempt_line p e ++ rest) ≡ Attempt
  kind_attempt e a rest there =
      let box = box_name (slice_get p.boxes a.box_number) in
      let proc = proc_name (procedure_of p a.box_number a.procedure) in
      let last = outcome_text e.outcome ++ 10 ∷ rest in
      ap kind_of (attempt_text e a rest there)
      ∙ (kind_point box (proc ++ 32 ∷ last) (box_word a.box_number)
      ∙ (ap kind_after_point (word_ends proc 32 last (proc_word a.box_number a.procedure) refl)
      ∙ outcome_kind e.outcome (10 ∷ rest)))

  -- the line of a variable is of the kind of what ends a report
  kind_var : (box : List ℕ) (v : Var) (x : Value) (rest : List ℕ) → IsWord box → IsName v.name →
      kind_of (var_line box v x ++ rest) ≡ End
  kind_var box v x rest word named =
      let last = 61 ∷ 32 ∷ (value_text x ++ 10 ∷ rest) in
      let e : var_line box v x ++ rest ≡ box ++ 46 ∷ (v.name.text ++ 32 ∷ last) = simp append_assoc in
      ap kind_of e
      ∙ (kind_point box (v.name.text ++ 32 ∷ last) word
      ∙ ap kind_after_point (word_ends v.name.text 32 last named.whole refl))

  -- the lines of variables are so too, before what ends a report
  kind_vars : (box : List ℕ) (vs : List Var) (xs : List Value) (rest : List ℕ) → IsWord box →
      All (λ (v : Var). IsName v.name) vs → kind_of rest ≡ End → kind_of (var_lines box vs xs ++ rest) ≡ End
  kind_vars box [] xs rest word named end = end
  kind_vars box (v ∷ vs) [] rest word named end = end
  kind_vars box (v ∷ vs) (x ∷ xs) rest word named end =
      ap kind_of (append_assoc (var_line box v x) (var_lines box vs xs) rest)
      ∙ kind_var box v x (var_lines box vs xs ++ rest) word
      (All-head (λ (y : Var). IsName y.name) v vs named)

  -- the variables of a cat of the program have names
  vars_named : (cat : ℕ) → All (λ (v : Var). IsName v.name) (vars_in (slice_get p.cats cat))
  vars_named cat = by (slice_get p.cats cat) refl
    where
      by : (found : Option (Cat Ref)) → slice_get p.cats cat ≡ found →
          All (λ (v : Var). IsName v.name) (vars_in found)
      by None there = λ i d within. absurd (omega arith)
      by (Some c) there =
          let own : HasNamesInside c = all_get HasNamesInside p.cats cat c names.cats there in own.vars

  -- the lines of boxes are so too, before what ends a report
  kind_boxes : (boxes : List BoxInfo) (state : List Vars) (rest : List ℕ) →
      All (λ (b : BoxInfo). IsName b.name) boxes → kind_of rest ≡ End →
      kind_of (box_lines p.cats boxes state ++ rest) ≡ End
  kind_boxes [] state rest named end = end
  kind_boxes (b ∷ bs) [] rest named end = end
  kind_boxes (b ∷ bs) (vars ∷ state) rest named end =
      let own : IsName b.name = All-head (λ (y : BoxInfo). IsName y.name) b bs named in
      ap kind_of (append_assoc (var_lines b.name.text (vars_in (slice_get p.cats b.cat)) vars.values)
      (box_lines p.cats bs state) rest)
      ∙ kind_vars b.name.text (vars_in (slice_get p.cats b.cat)) vars.values
      (box_lines p.cats bs state ++ rest)
      own.whole (vars_named b.cat)
      (kind_boxes bs state rest (All-tail (λ (y : BoxInfo). IsName y.name) b bs named) end)

  -- the line of how a run ended is of the kind of what ends a report
  kind_last : (last : LastLine) → kind_of (last_line_text p last) ≡ End
  kind_last L.Done = refl
  kind_last (L.Trapped a t) = refl
  kind_last (L.Spent a) = refl

  -- what stands after the rounds begins neither as a round nor as an attempt
  pub kind_end : (last : LastLine) (state : State) → kind_of (end_text p last state) ≡ End
  kind_end last state = kind_boxes p.boxes state.boxes (last_line_text p last) names.boxes (kind_last last)

  -- what equal texts say of the attempts that they begin with
  pub record AreSame (e f : Placed) (a b : ActionInfo) (rest other : List ℕ) : Type 0 where
    pub boxes : box_name (slice_get p.boxes a.box_number) ≡ box_name (slice_get p.boxes b.box_number)
    pub procs : proc_name (procedure_of p a.box_number a.procedure)
        ≡ proc_name (procedure_of p b.box_number b.procedure)
    pub outcomes : e.outcome ≡ f.outcome
    pub rests : rest ≡ other

  -- equal texts begin with attempts of the same names and outcome, and go on in the same way
  pub attempts_same : (e f : Placed) (a b : ActionInfo) (rest other : List ℕ) →
      slice_get p.actions e.action ≡ Some a → slice_get p.actions f.action ≡ Some b →
      attempt_line p e ++ rest ≡ attempt_line p f ++ other → AreSame e f a b rest other
  attempts_same e f a b rest other there here same =
      let box = box_name (slice_get p.boxes a.box_number) in
      let box' = box_name (slice_get p.boxes b.box_number) in
      let proc = proc_name (procedure_of p a.box_number a.procedure) in
      let proc' = proc_name (procedure_of p b.box_number b.procedure) in
      let last = outcome_text e.outcome ++ 10 ∷ rest in
      let last' = outcome_text f.outcome ++ 10 ∷ other in
      let texts : box ++ 46 ∷ (proc ++ 32 ∷ last) ≡ box' ++ 46 ∷ (proc' ++ 32 ∷ last') =
      sym (attempt_text e a rest there) ∙ (same ∙ attempt_text f b other here) in
      let first = same_words box box' 46 46 (proc ++ 32 ∷ last) (proc' ++ 32 ∷ last')
      (box_word a.box_number) (box_word b.box_number) refl refl texts in
      let second = same_words proc proc' 32 32 last last' (proc_word a.box_number a.procedure)
      (proc_word b.box_number b.procedure) refl refl
      (tails_same 46 (proc ++ 32 ∷ last) (proc' ++ 32 ∷ last') first.1) in
      let third = outcomes_same e.outcome f.outcome rest other (tails_same 32 last last' second.1) in
      record { boxes = first.0; procs = second.0; outcomes = third.0; rests = third.1 }
