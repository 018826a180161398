-- Whether a statement is single, by the statements inside it.
use Rattle.std.proofs.Common.{◌≡◌, ℕ, ◌+◌, ◌<◌, Bool, true, false, ◌&&◌, List, [], ◌∷◌, length, get_or}
use Rattle.std.proofs.Common.{drop, Option, refl, sym, ap, ◌∙◌}
use Rattle.std.specs.Prelude.{is_none}
use Rattle.seuss_program.specs.declared.tree.Ref.{Ref}
use Rattle.seuss_program.specs.declared.tree.Kind.{Kind}
use Rattle.seuss_program.specs.declared.tree.Call.{Call}
use Rattle.seuss_program.specs.declared.tree.Expr.{Expr}
use Rattle.seuss_program.specs.declared.tree.Alternative.{Alternative}
use Rattle.seuss_program.specs.declared.tree.Statement.{Statement, fold-Statement, fold-roll-Statement}
use Rattle.seuss_program.specs.declared.tree.Statement.{map-Statement, roll-Statement}
use Rattle.seuss_program.specs.declared.tree.Statement.TheVariants as SV
use Rattle.seuss_program.specs.declared.tree.Statement.TheVariants.{rolls-Let, rolls-Assign, rolls-Call}
use Rattle.seuss_program.specs.declared.tree.Statement.TheVariants.{rolls-If, rolls-While}
use Rattle.seuss_program.specs.declared.tree.Statement.TheOpen as S
use Rattle.seuss_program.specs.declared.tree.Statement.TheOpen.{Statement-F}
use Rattle.seuss_program.specs.Keeping.{all_true}
use Rattle.method_code.specs.Singles.{single_step, is_single_statement, is_single_body, are_single}
use Rattle.commute_certs.proofs.StatementLemmas.{each, from_place}

single-layer : (s : Statement Ref) (d : Statement-F Ref (Statement Ref)) → s ≡ roll-Statement Ref d →
    is_single_statement s ≡ single_step (map-Statement Ref (Statement Ref) Bool is_single_statement d)
unfolding is_single_statement
single-layer s d h = ap (fold-Statement Ref Bool single_step) h ∙ fold-roll-Statement Ref Bool single_step d

each_single : (ss : List (Statement Ref)) → all_true (each is_single_statement ss) ≡ is_single_body ss
each_single [] = refl
each_single (s ∷ ss) = ap (λ b. is_single_statement s && b) (each_single ss)

module _ (s : Statement Ref) where
  pub single-Let : (name : Ref) (kind : Kind) (e : Expr Ref) → s ≡ SV.Let name kind e →
      true ≡ is_single_statement s
  single-Let name kind e h = sym (single-layer s (S.Let name kind e) (h ∙ sym (rolls-Let name kind e)))

  pub single-Assign : (name : Ref) (e : Expr Ref) → s ≡ SV.Assign name e → true ≡ is_single_statement s
  single-Assign name e h = sym (single-layer s (S.Assign name e) (h ∙ sym (rolls-Assign name e)))

  pub single-Call : (name : Option Ref) (call : Call Ref) → s ≡ SV.Call name call →
      false ≡ is_single_statement s
  single-Call name call h = sym (single-layer s (S.Call name call) (h ∙ sym (rolls-Call name call)))

  pub single-While : (cond : Expr Ref) (turn : List (Statement Ref)) → s ≡ SV.While cond turn →
      false ≡ is_single_statement s
  single-While cond turn h = sym (single-layer s (S.While cond turn) (h ∙ sym (rolls-While cond turn)))

  single-If : (cond : Expr Ref) (holds fails : List (Statement Ref)) → s ≡ SV.If cond holds fails →
      is_single_statement s ≡ (is_single_body holds && is_single_body fails)
  single-If cond holds fails h =
      single-layer s (S.If cond holds fails) (h ∙ sym (rolls-If cond holds fails))
      ∙ (ap (λ b. b && all_true (each is_single_statement fails)) (each_single holds)
      ∙ ap (λ b. is_single_body holds && b) (each_single fails))

  -- an `if` whose first branch is single, and one whose first branch isn't
  pub if_single : (cond : Expr Ref) (holds fails first second : List (Statement Ref)) (b d : Bool) →
      s ≡ SV.If cond holds fails → first ≡ holds → second ≡ fails →
      b ≡ is_single_body first → b ≡ true → d ≡ is_single_body second → d ≡ is_single_statement s
  if_single cond holds fails first second b d h e f k is l =
      l ∙ (ap is_single_body f
      ∙ sym (single-If cond holds fails h
      ∙ ap (λ b. b && is_single_body fails) (sym (ap is_single_body e) ∙ (sym k ∙ is))))

  pub if_not_single : (cond : Expr Ref) (holds fails first : List (Statement Ref)) (b : Bool) →
      s ≡ SV.If cond holds fails → first ≡ holds →
      b ≡ is_single_body first → b ≡ false → b ≡ is_single_statement s
  if_not_single cond holds fails first b h e k is =
      is ∙ sym (single-If cond holds fails h
      ∙ ap (λ b. b && is_single_body fails) (sym (ap is_single_body e) ∙ (sym k ∙ is)))

-- a statement that isn't single, among others
pub body_not_single : (ss : List (Statement Ref)) (i : ℕ) (s : Statement Ref) (b : Bool) (whole : Bool) →
    i < length ss → s ≡ get_or ss i s → b ≡ is_single_statement s → b ≡ false →
    is_single_body (drop i ss) ≡ whole → false ≡ whole
body_not_single ss i s b whole h at is no_one same =
    sym (ap (λ b. b && is_single_body (drop (i + 1) ss)) (sym is ∙ no_one))
    ∙ (sym (ap is_single_body (from_place ss i s h at)) ∙ same)

pub body_single_on : (ss : List (Statement Ref)) (i : ℕ) (s : Statement Ref) (b : Bool) (whole : Bool) →
    i < length ss → s ≡ get_or ss i s → b ≡ is_single_statement s → b ≡ true →
    is_single_body (drop i ss) ≡ whole → is_single_body (drop (i + 1) ss) ≡ whole
body_single_on ss i s b whole h at is yes_one same =
    sym (ap (λ b. b && is_single_body (drop (i + 1) ss)) (sym is ∙ yes_one))
    ∙ (sym (ap is_single_body (from_place ss i s h at)) ∙ same)

-- the same of alternatives
one : Alternative Ref → Bool
one a = is_none a.pre && is_single_body a.body

from_alternative : (alts : List (Alternative Ref)) (i : ℕ) (a : Alternative Ref) → i < length alts →
    a ≡ get_or alts i a →
    are_single (drop i alts) ≡ (one a && are_single (drop (i + 1) alts))
unfolding one
from_alternative alts i a h at = ap are_single (from_place alts i a h at)

pub not_single_among : (alts : List (Alternative Ref)) (i : ℕ) (a : Alternative Ref) (b : Bool)
    (whole : Bool) → i < length alts → a ≡ get_or alts i a →
    b ≡ (is_none a.pre && is_single_body a.body) → b ≡ false → are_single (drop i alts) ≡ whole →
    false ≡ whole
unfolding one
not_single_among alts i a b whole h at is no_one same =
    sym (ap (λ b. b && are_single (drop (i + 1) alts)) (sym is ∙ no_one))
    ∙ (sym (from_alternative alts i a h at) ∙ same)

pub single_among : (alts : List (Alternative Ref)) (i : ℕ) (a : Alternative Ref) (b : Bool)
    (whole : Bool) → i < length alts → a ≡ get_or alts i a →
    b ≡ (is_none a.pre && is_single_body a.body) → b ≡ true → are_single (drop i alts) ≡ whole →
    are_single (drop (i + 1) alts) ≡ whole
unfolding one
single_among alts i a b whole h at is yes_one same =
    sym (ap (λ b. b && are_single (drop (i + 1) alts)) (sym is ∙ yes_one))
    ∙ (sym (from_alternative alts i a h at) ∙ same)
