-- What a statement leaves, assigns and shows, by what stands in it.
use Rattle.std.proofs.Common.{◌≡◌, List, [], ◌∷◌, ◌++◌, Option, Some, refl, sym, ap, ◌∙◌}
use Rattle.std.specs.Prelude.{option_and_then}
use Rattle.seuss_program.specs.declared.tree.Ref.{Ref}
use Rattle.seuss_program.specs.declared.tree.Kind.{Kind}
use Rattle.seuss_program.specs.declared.tree.Call.{Call}
use Rattle.seuss_program.specs.declared.tree.Expr.{Expr}
use Rattle.seuss_program.specs.declared.tree.Statement.{Statement, fold-Statement, fold-roll-Statement}
use Rattle.seuss_program.specs.declared.tree.Statement.{map-Statement, roll-Statement}
use Rattle.seuss_program.specs.declared.tree.Statement.TheVariants as V
use Rattle.seuss_program.specs.declared.tree.Statement.TheVariants.{rolls-Let, rolls-Assign, rolls-Call}
use Rattle.seuss_program.specs.declared.tree.Statement.TheVariants.{rolls-If, rolls-While}
use Rattle.seuss_program.specs.declared.tree.Statement.TheOpen as S
use Rattle.seuss_program.specs.declared.tree.Statement.TheOpen.{Statement-F}
use Rattle.seuss_program.specs.declared.tree.Statement.TheShapes.{former-Statement-If-1}
use Rattle.safety_check.specs.Regions.{forgotten, truth_of}
use Rattle.safety_check.specs.RegionValues.{region_in}
use Rattle.safety_check.specs.Ends.{Way, Path, way_step, way_of, ways_in_turn, names_of, put_end, call_end}
use Rattle.safety_check.specs.Ends.{taking, names_in, body_end, branch_end}
use Rattle.safety_check.specs.Texts.{seen_and, all_seen, names_seen, in_expr, in_call, in_body}
use Rattle.safety_check.specs.Texts.{in_statement, in_statement_step}
use Rattle.safety_check.specs.declared.frame.Frame.{Frame}
use Rattle.safety_check.specs.declared.seen.Seen.{Seen}

-- a function of each of the statements inside a statement
abbrev each : {A : Type 0} → (Statement Ref → A) → List (Statement Ref) → List A
each {A} f ss = (former-Statement-If-1 Ref).map (Statement Ref) A f ss

-- a statement does what its layer does
way-layer : (s : Statement Ref) (d : Statement-F Ref (Statement Ref)) → s ≡ roll-Statement Ref d →
    way_of s ≡ way_step (map-Statement Ref (Statement Ref) Way way_of d)
unfolding way_of
way-layer s d h = ap (fold-Statement Ref Way way_step) h ∙ fold-roll-Statement Ref Way way_step d

-- statements one after the other are a body
ways-each : (ss : List (Statement Ref)) → ways_in_turn (each way_of ss) ≡ body_end ss
ways-each [] = refl
ways-each (s ∷ ss) = λ i frame. option_and_then (ways-each ss i) ((way_of s).path frame)

-- the names of statements are those of a body
names-each : (ss : List (Statement Ref)) → names_of (each way_of ss) ≡ names_in ss
names-each [] = refl
names-each (s ∷ ss) = ap (λ names. (way_of s).names ++ names) (names-each ss)

module _ (s : Statement Ref) where
  pub end-let : (name : Ref) (kind : Kind) (e : Expr Ref) (frame : Frame) → s ≡ V.Let name kind e →
      (way_of s).path frame ≡ put_end name e frame
  end-let name kind e frame h =
      ap (λ (w : Way). w.path frame) (way-layer s (S.Let name kind e) (h ∙ sym (rolls-Let name kind e)))

  pub end-assign : (name : Ref) (e : Expr Ref) (frame : Frame) → s ≡ V.Assign name e →
      (way_of s).path frame ≡ put_end name e frame
  end-assign name e frame h =
      ap (λ (w : Way). w.path frame) (way-layer s (S.Assign name e) (h ∙ sym (rolls-Assign name e)))

  pub end-call : (bind : Option Ref) (call : Call Ref) (frame : Frame) → s ≡ V.Call bind call →
      (way_of s).path frame ≡ call_end bind call frame
  end-call bind call frame h =
      ap (λ (w : Way). w.path frame) (way-layer s (S.Call bind call) (h ∙ sym (rolls-Call bind call)))

  pub end-if : (cond : Expr Ref) (holds fails : List (Statement Ref)) (frame : Frame) → s ≡ V.If cond holds fails →
      (way_of s).path frame
      ≡ option_and_then (λ r. branch_end (truth_of r) (body_end holds frame) (body_end fails frame))
      (region_in cond frame)
  end-if cond holds fails frame h =
      ap (λ (w : Way). w.path frame) (way-layer s (S.If cond holds fails) (h ∙ sym (rolls-If cond holds fails)))
      ∙ (ap (λ (p : Path). option_and_then (λ r. branch_end (truth_of r) (p frame)
      (ways_in_turn (each way_of fails) frame)) (region_in cond frame)) (ways-each holds)
      ∙ ap (λ (p : Path). option_and_then (λ r. branch_end (truth_of r) (body_end holds frame) (p frame))
      (region_in cond frame)) (ways-each fails))

  pub end-while : (cond : Expr Ref) (turn : List (Statement Ref)) (frame : Frame) → s ≡ V.While cond turn →
      (way_of s).path frame ≡ Some (forgotten (names_in turn) frame)
  end-while cond turn frame h =
      ap (λ (w : Way). w.path frame) (way-layer s (S.While cond turn) (h ∙ sym (rolls-While cond turn)))
      ∙ ap (λ names. Some (forgotten names frame)) (names-each turn)

  pub names-let : (name : Ref) (kind : Kind) (e : Expr Ref) → s ≡ V.Let name kind e →
      (way_of s).names ≡ name ∷ []
  names-let name kind e h =
      ap (λ (w : Way). w.names) (way-layer s (S.Let name kind e) (h ∙ sym (rolls-Let name kind e)))

  pub names-assign : (name : Ref) (e : Expr Ref) → s ≡ V.Assign name e → (way_of s).names ≡ name ∷ []
  names-assign name e h =
      ap (λ (w : Way). w.names) (way-layer s (S.Assign name e) (h ∙ sym (rolls-Assign name e)))

  pub names-call : (bind : Option Ref) (call : Call Ref) → s ≡ V.Call bind call →
      (way_of s).names ≡ taking bind
  names-call bind call h =
      ap (λ (w : Way). w.names) (way-layer s (S.Call bind call) (h ∙ sym (rolls-Call bind call)))

  pub names-if : (cond : Expr Ref) (holds fails : List (Statement Ref)) → s ≡ V.If cond holds fails →
      (way_of s).names ≡ names_in holds ++ names_in fails
  names-if cond holds fails h =
      ap (λ (w : Way). w.names) (way-layer s (S.If cond holds fails) (h ∙ sym (rolls-If cond holds fails)))
      ∙ (ap (λ names. names ++ names_of (each way_of fails)) (names-each holds)
      ∙ ap (λ names. names_in holds ++ names) (names-each fails))

  pub names-while : (cond : Expr Ref) (turn : List (Statement Ref)) → s ≡ V.While cond turn →
      (way_of s).names ≡ names_in turn
  names-while cond turn h =
      ap (λ (w : Way). w.names) (way-layer s (S.While cond turn) (h ∙ sym (rolls-While cond turn)))
      ∙ names-each turn

-- a statement shows what its layer does
seen-layer : (s : Statement Ref) (d : Statement-F Ref (Statement Ref)) → s ≡ roll-Statement Ref d →
    in_statement s ≡ in_statement_step (map-Statement Ref (Statement Ref) Seen in_statement d)
unfolding in_statement
seen-layer s d h =
    ap (fold-Statement Ref Seen in_statement_step) h ∙ fold-roll-Statement Ref Seen in_statement_step d

-- statements show what a body does
seen-each : (ss : List (Statement Ref)) → all_seen (each in_statement ss) ≡ in_body ss
seen-each [] = refl
seen-each (s ∷ ss) = ap (seen_and (in_statement s)) (seen-each ss)

module _ (s : Statement Ref) where
  pub seen-let : (name : Ref) (kind : Kind) (e : Expr Ref) → s ≡ V.Let name kind e →
      in_statement s ≡ seen_and (names_seen (name ∷ [])) (in_expr e)
  seen-let name kind e h = seen-layer s (S.Let name kind e) (h ∙ sym (rolls-Let name kind e))

  pub seen-assign : (name : Ref) (e : Expr Ref) → s ≡ V.Assign name e →
      in_statement s ≡ seen_and (names_seen (name ∷ [])) (in_expr e)
  seen-assign name e h = seen-layer s (S.Assign name e) (h ∙ sym (rolls-Assign name e))

  pub seen-call : (bind : Option Ref) (call : Call Ref) → s ≡ V.Call bind call →
      in_statement s ≡ in_call bind call
  seen-call bind call h = seen-layer s (S.Call bind call) (h ∙ sym (rolls-Call bind call))

  pub seen-if : (cond : Expr Ref) (holds fails : List (Statement Ref)) → s ≡ V.If cond holds fails →
      in_statement s ≡ seen_and (in_expr cond) (seen_and (in_body holds) (in_body fails))
  seen-if cond holds fails h = seen-layer s (S.If cond holds fails) (h ∙ sym (rolls-If cond holds fails))
      ∙ (ap (λ seen. seen_and (in_expr cond) (seen_and seen (all_seen (each in_statement fails))))
      (seen-each holds)
      ∙ ap (λ seen. seen_and (in_expr cond) (seen_and (in_body holds) seen)) (seen-each fails))

  pub seen-while : (cond : Expr Ref) (turn : List (Statement Ref)) → s ≡ V.While cond turn →
      in_statement s ≡ seen_and (in_expr cond) (in_body turn)
  seen-while cond turn h = seen-layer s (S.While cond turn) (h ∙ sym (rolls-While cond turn))
      ∙ ap (seen_and (in_expr cond)) (seen-each turn)
