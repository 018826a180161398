-- How a single method ends in a case, and what it leaves.
use Rattle.std.specs.Prelude.{ℤ, pos, Bool, true, false, if◌then◌else◌, List, [], ◌∷◌, ◌++◌, map, length}
use Rattle.std.specs.Prelude.{slice_index_or, Option, None, Some, option_map, Result, Ok, Err}
use Rattle.seuss_base.specs.declared.outcome.Outcome.{Outcome}
use Rattle.seuss_base.specs.declared.outcome.Outcome.TheVariants as O
use Rattle.seuss_program.specs.declared.tree.Ref.{Ref}
use Rattle.seuss_program.specs.declared.tree.Pre.{Pre}
use Rattle.seuss_program.specs.declared.tree.Alternative.{Alternative}
use Rattle.seuss_program.specs.declared.tree.Form.{Form}
use Rattle.seuss_program.specs.declared.tree.Form.TheVariants as F
use Rattle.seuss_program.specs.declared.tree.Proc.{Proc}
use Rattle.seuss_program.specs.declared.state.Value.{Value}
use Rattle.seuss_program.specs.declared.state.Value.TheVariants as V
use Rattle.seuss_program.specs.Attempts.{entry_slots}
use Rattle.shape_terms.specs.declared.num_form.NumForm.{NumForm}
use Rattle.shape_terms.specs.declared.shape.Shape.TheVariants as Q
use Rattle.shape_terms.specs.declared.symbol.Symbol.{Symbol}
use Rattle.shape_terms.specs.declared.symbol.Symbol.TheVariants as Y
use Rattle.shape_terms.specs.Points.{Point}
use Rattle.shape_terms.specs.Numbers.{literal, number}
use Rattle.shape_terms.specs.Symbols.{values_at}
use Rattle.commute_certs.specs.declared.why.Reason.{Reason}
use Rattle.commute_certs.specs.declared.why.Reason.TheVariants as W
use Rattle.commute_certs.specs.declared.places.Places.{Places}
use Rattle.commute_certs.specs.declared.foreseen.Ending.{Ending}
use Rattle.commute_certs.specs.declared.foreseen.Ending.TheVariants as E
use Rattle.commute_certs.specs.declared.foreseen.Foreseen.{Foreseen}
use Rattle.commute_certs.specs.Runs.{Alone}
use Rattle.commute_certs.specs.Terms.{told, and_then, truth_in, number_in}
use Rattle.commute_certs.specs.Bodies.{body}

-- what a slot that isn't a parameter starts with, as a symbol
abbrev pub first_symbol : Value → Symbol
first_symbol (V.Int z) = Y.Number (literal (pos 0))
first_symbol (V.Bool b) = Y.Truth false
first_symbol (V.Seq zs) = Y.Sequence (Q.Exact [])

-- the slots at the entry of a procedure
abbrev pub first_slots : Proc Ref → List Symbol → List Symbol
first_slots q args = args ++ map first_symbol (entry_slots q [])

-- the result of an accepted call
abbrev pub result_form : Proc Ref → List Symbol → Option NumForm
result_form q slots =
    if q.gives then Some (number_in (slice_index_or slots (length q.params) (Y.Number (literal (pos 0)))))
    else None

-- a body is done: the call accepts, or after `~>` it rejects with the effects of the body
abbrev pub finished : Bool → Proc Ref → Places → Foreseen
finished true q places = record { ending = E.Accepted (result_form q places.slots); vars = places.vars }
finished false q places = record { ending = E.Rejected; vars = places.vars }

-- no precondition holds
abbrev pub rejected_plainly : Places → Foreseen
rejected_plainly places = record { ending = E.RejectedPlainly; vars = places.vars }

module _ (q : Proc Ref) where
  -- a body of the procedure, to its end
  abbrev pub body_ends : Bool → Result Places Reason → Result Foreseen Reason
  body_ends positive (Err why) = Err why
  body_ends positive (Ok places) = Ok (finished positive q places)

  -- the alternative that is chosen; a preprocedure, which a single method has not, may trap
  abbrev pub chosen : Alternative Ref → Option (Pre Ref) → Places → Result Foreseen Reason
  chosen a (Some pre) places = Err W.MayTrap
  chosen a None places = body_ends a.positive (body a.body places)

  -- the first alternative whose precondition holds; where none holds, it is plainly rejected
  abbrev pub choice : List (Alternative Ref) → Places → Result Foreseen Reason
  choice [] places = Ok (rejected_plainly places)
  choice (a ∷ alts) places =
      and_then (and_then (told a.cond places.vars places.slots) truth_in)
      (λ b. if b then chosen a a.pre places else choice alts places)

  -- what a procedure comes to from its entry: a total one by its body, any other by the alternative that
  -- is taken
  abbrev pub performed : Form Ref → Places → Result Foreseen Reason
  performed (F.Total ss) places = body_ends true (body ss places)
  performed (F.Partial alts) places = choice alts places
  performed (F.Action alts) places = choice alts places

-- how a single method ends in a case, from its entry
abbrev pub foreseen : Proc Ref → List Symbol → List Symbol → Result Foreseen Reason
foreseen q args vars = performed q q.form (record { vars = vars; slots = first_slots q args })

-- the outcome of a method, by how it ends
abbrev pub outcome_by : Ending → Outcome
outcome_by (E.Accepted found) = O.Accepted
outcome_by E.Rejected = O.Rejected
outcome_by E.RejectedPlainly = O.Rejected

-- the result of a method at a point, by how it ends
abbrev pub result_at : Ending → Point → Option ℤ
result_at (E.Accepted found) p = option_map (λ (form : NumForm). number form p) found
result_at E.Rejected p = None
result_at E.RejectedPlainly p = None

-- whether a method is plainly rejected, by how it ends
abbrev pub is_plain : Ending → Bool
is_plain (E.Accepted found) = false
is_plain E.Rejected = false
is_plain E.RejectedPlainly = true

-- the run that is foreseen, at a point
abbrev pub run_at : Foreseen → Point → Alone
run_at f p = record {
  outcome = outcome_by f.ending;
  result = result_at f.ending p;
  plain = is_plain f.ending;
  vars = values_at f.vars p;
}
