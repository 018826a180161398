-- What a statement leaves, by what its parts come to.
use Rattle.std.proofs.Common.{◌≡◌, ℕ, suc, ◌+◌, ◌<◌, Bool, true, false, if◌then◌else◌, List, [], ◌∷◌}
use Rattle.std.proofs.Common.{length, Option, Result, Ok, Err, refl, sym, ap, subst, ◌∙◌, arith, get_or}
use Rattle.std.proofs.Common.{drop, drop-cons}
use Rattle.seuss_program.specs.declared.tree.Ref.{Ref}
use Rattle.seuss_program.specs.declared.tree.Kind.{Kind}
use Rattle.seuss_program.specs.declared.tree.Call.{Call}
use Rattle.seuss_program.specs.declared.tree.Expr.{Expr}
use Rattle.seuss_program.specs.declared.tree.Proc.{Proc}
use Rattle.seuss_program.specs.declared.tree.Alternative.{Alternative}
use Rattle.seuss_program.specs.declared.tree.Statement.{Statement, fold-roll-Statement, map-Statement}
use Rattle.seuss_program.specs.declared.tree.Statement.{roll-Statement}
use Rattle.seuss_program.specs.declared.tree.Statement.TheVariants as SV
use Rattle.seuss_program.specs.declared.tree.Statement.TheVariants.{rolls-Let, rolls-Assign, rolls-Call}
use Rattle.seuss_program.specs.declared.tree.Statement.TheVariants.{rolls-If, rolls-While}
use Rattle.seuss_program.specs.declared.tree.Statement.TheOpen as S
use Rattle.seuss_program.specs.declared.tree.Statement.TheOpen.{Statement-F}
use Rattle.seuss_program.specs.declared.tree.Statement.TheShapes.{former-Statement-If-1}
use Rattle.commute_certs.specs.declared.why.Reason.{Reason}
use Rattle.commute_certs.specs.declared.why.Reason.TheVariants as W
use Rattle.commute_certs.specs.declared.why.Untold.{Untold}
use Rattle.commute_certs.specs.declared.places.Places.{Places}
use Rattle.commute_certs.specs.declared.foreseen.Foreseen.{Foreseen}
use Rattle.commute_certs.specs.Terms.{told, and_then, truth_in}
use Rattle.commute_certs.specs.Bodies.{Leaves, put_told, branch, in_turn, statement_step, statement, body}
use Rattle.commute_certs.specs.Foreseen.{chosen, choice}
use Rattle.commute_certs.specs.Answers.{Tells}
use Rattle.commute_certs.proofs.Nodes.{stopped, went_on}

-- a function of each of the statements inside a statement
abbrev pub each : {A : Type 0} → (Statement Ref → A) → List (Statement Ref) → List A
each {A} f ss = (former-Statement-If-1 Ref).map (Statement Ref) A f ss

pub leaves-roll : (d : Statement-F Ref (Statement Ref)) →
    statement (roll-Statement Ref d) ≡ statement_step (map-Statement Ref (Statement Ref) Leaves statement d)
unfolding statement
leaves-roll d = fold-roll-Statement Ref Leaves statement_step d

leaves-layer : (s : Statement Ref) (d : Statement-F Ref (Statement Ref)) → s ≡ roll-Statement Ref d →
    statement s ≡ statement_step (map-Statement Ref (Statement Ref) Leaves statement d)
leaves-layer s d h = ap statement h ∙ leaves-roll d

-- statements one after the other are a body
pub in_turn-each : (ss : List (Statement Ref)) → in_turn (each statement ss) ≡ body ss
in_turn-each [] = refl
in_turn-each (s ∷ ss) = λ i places. and_then (statement s places) (in_turn-each ss i)

module _ (s : Statement Ref) (places : Places) where
  pub leaves-Let : (name : Ref) (kind : Kind) (e : Expr Ref) → s ≡ SV.Let name kind e →
      statement s places ≡ put_told name (told e places.vars places.slots) places
  leaves-Let name kind e h =
      ap (λ (l : Leaves). l places) (leaves-layer s (S.Let name kind e) (h ∙ sym (rolls-Let name kind e)))

  pub leaves-Assign : (name : Ref) (e : Expr Ref) → s ≡ SV.Assign name e →
      statement s places ≡ put_told name (told e places.vars places.slots) places
  leaves-Assign name e h =
      ap (λ (l : Leaves). l places) (leaves-layer s (S.Assign name e) (h ∙ sym (rolls-Assign name e)))

  pub leaves-Call : (name : Option Ref) (call : Call Ref) → s ≡ SV.Call name call →
      statement s places ≡ Err W.MayTrap
  leaves-Call name call h =
      ap (λ (l : Leaves). l places) (leaves-layer s (S.Call name call) (h ∙ sym (rolls-Call name call)))

  pub leaves-If : (cond : Expr Ref) (holds fails : List (Statement Ref)) → s ≡ SV.If cond holds fails →
      statement s places ≡ branch (told cond places.vars places.slots) (body holds) (body fails) places
  leaves-If cond holds fails h =
      ap (λ (l : Leaves). l places)
      (leaves-layer s (S.If cond holds fails) (h ∙ sym (rolls-If cond holds fails)))
      ∙ (ap (λ (l : Leaves). branch (told cond places.vars places.slots) l (in_turn (each statement fails))
      places) (in_turn-each holds)
      ∙ ap (λ (l : Leaves). branch (told cond places.vars places.slots) (body holds) l places)
      (in_turn-each fails))

  pub leaves-While : (cond : Expr Ref) (turn : List (Statement Ref)) → s ≡ SV.While cond turn →
      statement s places ≡ Err W.MayTrap
  leaves-While cond turn h =
      ap (λ (l : Leaves). l places) (leaves-layer s (S.While cond turn) (h ∙ sym (rolls-While cond turn)))

-- the branch that a condition takes, or why it isn't told
pub branch_stopped : (u : Untold) (c : Result Bool Reason) (holds fails : Leaves) (places : Places)
    (whole : Result Places Reason) →
    whole ≡ and_then c (λ b. if b then holds places else fails places) → Tells {A = Bool} (Err u) c →
    Tells {A = Places} (Err u) whole
branch_stopped u c holds fails places whole same h =
    subst (λ (x : Result Places Reason). Tells {A = Places} (Err u) x) (sym same)
    (stopped u c (λ b. if b then holds places else fails places) h)

pub branch_taken : (b : Bool) (r : Result Places Untold) (c : Result Bool Reason) (holds fails : Leaves)
    (places : Places) (whole : Result Places Reason) →
    whole ≡ and_then c (λ b. if b then holds places else fails places) → c ≡ Ok b →
    Tells r (if b then holds places else fails places) → Tells r whole
branch_taken b r c holds fails places whole same h k =
    subst (λ (x : Result Places Reason). Tells r x) (sym same)
    (went_on b c (λ b. if b then holds places else fails places) r h k)

-- a list from a place on: what stands there, and then the others
pub from_place : {X : Type 0} (xs : List X) (i : ℕ) (x : X) → i < length xs → x ≡ get_or xs i x →
    drop i xs ≡ x ∷ drop (i + 1) xs
from_place xs i x h e =
    let n : i + 1 ≡ suc i = omega arith in
    drop-cons xs i x h ∙ (ap (λ y. y ∷ drop (suc i) xs) (sym e) ∙ ap (λ j. x ∷ drop j xs) (sym n))

pub body_stops : (ss : List (Statement Ref)) (i : ℕ) (s : Statement Ref) (places : Places)
    (whole : Result Places Reason) (u : Untold) → i < length ss → s ≡ get_or ss i s →
    body (drop i ss) places ≡ whole → Tells {A = Places} (Err u) (statement s places) →
    Tells {A = Places} (Err u) whole
body_stops ss i s places whole u h at same k =
    subst (λ (x : Result Places Reason). Tells {A = Places} (Err u) x)
    (sym (ap (λ xs. body xs places) (from_place ss i s h at)) ∙ same)
    (stopped u (statement s places) (body (drop (i + 1) ss)) k)

pub body_goes_on : (ss : List (Statement Ref)) (i : ℕ) (s : Statement Ref) (places after : Places)
    (whole : Result Places Reason) → i < length ss → s ≡ get_or ss i s →
    body (drop i ss) places ≡ whole → statement s places ≡ Ok after → body (drop (i + 1) ss) after ≡ whole
body_goes_on ss i s places after whole h at same k =
    sym (ap (λ (x : Result Places Reason). and_then x (body (drop (i + 1) ss))) k)
    ∙ (sym (ap (λ xs. body xs places) (from_place ss i s h at)) ∙ same)

module _ (q : Proc Ref) where
  chosen_or : Alternative Ref → List (Alternative Ref) → Places → Bool → Result Foreseen Reason
  chosen_or a alts places b = if b then chosen q a a.pre places else choice q alts places

  choice_from : (alts : List (Alternative Ref)) (i : ℕ) (a : Alternative Ref) (places : Places) →
      i < length alts → a ≡ get_or alts i a →
      choice q (drop i alts) places ≡ and_then (and_then (told a.cond places.vars places.slots) truth_in)
      (chosen_or a (drop (i + 1) alts) places)
  unfolding chosen_or
  choice_from alts i a places h at = ap (λ xs. choice q xs places) (from_place alts i a h at)

  pub choice_stops : (alts : List (Alternative Ref)) (i : ℕ) (a : Alternative Ref) (places : Places)
      (whole : Result Foreseen Reason) (u : Untold) →
      i < length alts → a ≡ get_or alts i a → choice q (drop i alts) places ≡ whole →
      Tells {A = Bool} (Err u) (and_then (told a.cond places.vars places.slots) truth_in) →
      Tells {A = Foreseen} (Err u) whole
  choice_stops alts i a places whole u h at same k =
      subst (λ (x : Result Foreseen Reason). Tells {A = Foreseen} (Err u) x)
      (sym (choice_from alts i a places h at) ∙ same)
      (stopped u (and_then (told a.cond places.vars places.slots) truth_in)
      (chosen_or a (drop (i + 1) alts) places) k)

  pub choice_takes : (alts : List (Alternative Ref)) (i : ℕ) (a : Alternative Ref) (places : Places)
      (whole : Result Foreseen Reason) (b : Bool) (r : Result Foreseen Untold) →
      i < length alts → a ≡ get_or alts i a → choice q (drop i alts) places ≡ whole →
      and_then (told a.cond places.vars places.slots) truth_in ≡ Ok b → b ≡ true →
      Tells r (chosen q a a.pre places) → Tells r whole
  unfolding chosen_or
  choice_takes alts i a places whole b r h at same k holds taken =
      subst (λ (x : Result Foreseen Reason). Tells r x) (sym (choice_from alts i a places h at) ∙ same)
      (went_on b (and_then (told a.cond places.vars places.slots) truth_in)
      (chosen_or a (drop (i + 1) alts) places) r k
      (subst (λ b. Tells r (chosen_or a (drop (i + 1) alts) places b)) (sym holds) taken))

  pub choice_goes_on : (alts : List (Alternative Ref)) (i : ℕ) (a : Alternative Ref) (places : Places)
      (whole : Result Foreseen Reason) (b : Bool) →
      i < length alts → a ≡ get_or alts i a → choice q (drop i alts) places ≡ whole →
      and_then (told a.cond places.vars places.slots) truth_in ≡ Ok b → b ≡ false →
      choice q (drop (i + 1) alts) places ≡ whole
  unfolding chosen_or
  choice_goes_on alts i a places whole b h at same k fails =
      sym (ap (chosen_or a (drop (i + 1) alts) places) fails)
      ∙ (sym (ap (λ (x : Result Bool Reason). and_then x (chosen_or a (drop (i + 1) alts) places)) k)
      ∙ (sym (choice_from alts i a places h at) ∙ same))
