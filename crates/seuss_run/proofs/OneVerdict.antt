-- Bytes mean one thing for a command.
use Rattle.std.proofs.Common.{◌≡◌, ℕ, zero, suc, ◌<◌, inl, inr, List, [], ◌∷◌, length, get_or, map, refl}
use Rattle.std.proofs.Common.{sym, ap, ◌∙◌, subst, arith}
use Rattle.std.specs.Prelude.{Ok, Err, Option, Some, IsNone}
use Rattle.std.proofs.lemmas.Bool.{cases_order}
use Rattle.seuss_program.specs.declared.tree.Tree.{Tree}
use Rattle.seuss_program.specs.declared.program.Program.{Program}
use Rattle.box_types.specs.Faults.{twice, unknown, wrong_kind, wrong_type, arguments, count}
use Rattle.call_order.specs.Calls.{partial_calls, total_calls}
use Rattle.call_order.specs.Answers.{IsCycleAt, line_of}
use Rattle.box_types.specs.Namings.{named}
use Rattle.call_order.specs.Cycles.{IsFirstCyclic}
use Rattle.call_order.specs.Levels.{IsLevelled}
use Rattle.seuss_program.specs.declared.program.BoxInfo.{BoxInfo}
use Rattle.report_text.specs.declared.refusals.Refused.TheVariants as R
use Rattle.seuss_run.specs.declared.words.Command.{Command}
use Rattle.seuss_run.specs.declared.words.Command.TheVariants as C
use Rattle.seuss_run.specs.Commands.{action_word}
use Rattle.seuss_run.specs.Stages.{IsOne, ◌>=>◌, first_of}
use Rattle.seuss_run.specs.PropertyLists.{has_properties}
use Rattle.seuss_run.specs.Verdicts.{Printing, Checking, Comparing, Attempting, Proving, IsVerdict, is_split}
use Rattle.seuss_run.specs.Verdicts.{is_spelled, is_resolved, has_no_cycle, has_levels, is_ordered, has_input}
use Rattle.seuss_run.specs.Verdicts.{is_certified, is_loaded, is_loaded_parts, has_tree_alone, is_short}
use Rattle.seuss_run.specs.Verdicts.{is_claimed, is_claimed_parts, are_actions, action_number}
use Rattle.seuss_run.proofs.StageLemmas.{one_behind, one_makes, one_passes, one_first_of, one_second_of}
use Rattle.seuss_run.proofs.VerdictLemmas.{one_read}

-- a tree has one first check that fails
one_resolved : IsOne is_resolved
one_resolved =
    one_behind _ _ (one_passes twice R.Twice) (one_behind _ _ (one_passes unknown R.Unknown)
    (one_behind _ _ (one_passes wrong_kind R.WrongKind) (one_behind _ _ (one_passes wrong_type R.WrongType)
    (one_behind _ _ (one_passes arguments R.Arguments) (one_passes count R.Count)))))

-- one box is the first that is given to itself
one_first : (boxes : List BoxInfo) (b d : ℕ) → IsFirstCyclic boxes b → IsFirstCyclic boxes d → b ≡ d
one_first boxes b d one other = elim (cases_order b d) [
  | inl same ↦ same
  | inr (inl less) ↦ absurd (other.first b less one.cyclic)
  | inr (inr more) ↦ absurd (one.first d more other.cyclic)
]

-- a line is the one that the first such box is declared on
one_line : (tree : Tree) (line line' b d : ℕ) → IsCycleAt tree line b → IsCycleAt tree line' d → line ≡ line'
one_line tree line line' b d at at' =
    let same : b ≡ d = one_first _ b d at.0 at'.0 in
    let told : Some line ≡ Some line' = sym at.1
    ∙ (ap (λ box. line_of (named tree).boxes box) same ∙ at'.1) in cc told

one_uncyclic : IsOne has_no_cycle
one_uncyclic tree (Ok a) (Ok b) (is, none) (is', none') = ap Ok (is ∙ sym is')
one_uncyclic tree (Ok a) (Err why) (is, none) (line, box, at, told) = absurd (none.none box at.0.cyclic)
one_uncyclic tree (Err why) (Ok a) (line, box, at, told) (is, none) = absurd (none.none box at.0.cyclic)
one_uncyclic tree (Err why) (Err cause) (line, box, at, told) (line', box', at', told') =
    ap Err (told ∙ (ap R.Cycle (one_line tree line line' box box' at at') ∙ sym told'))

-- what `call_order` says of levels
abbrev pub OneLevels : Type 0
OneLevels = (named one other : Program) → IsLevelled named one → IsLevelled named other → one ≡ other

-- a tree has one program
one_levelled : OneLevels → IsOne has_levels
one_levelled law tree (Ok p) (Ok q) is again = ap Ok (law (named tree) p q is again)
one_levelled law tree (Ok p) (Err why) is refused = absurd refused
one_levelled law tree (Err why) other refused is = absurd refused

one_ordered : OneLevels → IsOne is_ordered
one_ordered law =
    one_behind _ _ (one_passes partial_calls R.PartialCall)
    (one_behind _ _ (one_passes total_calls R.TotalCall)
    (one_behind _ _ one_uncyclic (one_levelled law)))

-- a run is short enough or isn't
one_short : (rounds : ℕ) → IsOne (is_short rounds)
one_short rounds given (Ok a) (Ok b) (is, few) (again, few') = ap Ok (is ∙ sym again)
one_short rounds given (Ok a) (Err why) (is, few) (told, many) = absurd (omega (arith, few, many))
one_short rounds given (Err why) (Ok a) (told, many) (is, few) = absurd (omega (arith, few, many))
one_short rounds given (Err why) (Err cause) (told, many) (told', many') = ap Err (told ∙ sym told')

-- the numbers of named actions
same_numbers : (xs ys : List ℕ) → map {B = Option ℕ} Some xs ≡ map Some ys → xs ≡ ys
same_numbers [] [] e = refl
same_numbers [] (y ∷ ys) e = absurd (cc e)
same_numbers (x ∷ xs) [] e = absurd (cc e)
same_numbers (x ∷ xs) (y ∷ ys) e =
    let head : x ≡ y = cc e in let tail : map {B = Option ℕ} Some xs ≡ map Some ys = cc e in
    cc (head, same_numbers xs ys tail)

-- each of these names has a number, or one of them has none
none_unknown : (p : Program) (names : List (List ℕ × List ℕ)) (numbers : List ℕ) →
    map (λ n. action_number p (action_word n)) names ≡ map Some numbers →
    (k : ℕ) (x : List ℕ × List ℕ) → k < length names → get_or names k x ≡ x →
    IsNone (action_number p (action_word x)) → ⊥
none_unknown p [] numbers are k x within at none = omega (arith, within)
none_unknown p (n ∷ names) [] are k x within at none = cc are
none_unknown p (n ∷ names) (m ∷ numbers) are zero x within at none =
    let found : action_number p (action_word n) ≡ Some m = cc are in
    let same : n ≡ x = at in
    absurd (cc (subst IsNone (sym (ap (λ y. action_number p (action_word y)) same) ∙ found) none))
none_unknown p (n ∷ names) (m ∷ numbers) are (suc k) x within at none =
    let others : map (λ n. action_number p (action_word n)) names ≡ map Some numbers = cc are in
    none_unknown p names numbers others k x (omega (arith, within)) at none

-- the named actions are known, or one of them isn't
one_named : (names : List (List ℕ × List ℕ)) → IsOne (are_actions names)
one_named names given (Ok a) (Ok b) (numbers, is, are) (others, again, are') =
    let same : numbers ≡ others = same_numbers numbers others (sym are ∙ are') in
    ap Ok (is ∙ (ap (Attempting given) same ∙ sym again))
one_named names given (Ok a) (Err why) (numbers, is, are) (told, (k, x, within, at, none)) =
    absurd (none_unknown given.0 names numbers are k x within at none)
one_named names given (Err why) (Ok a) (told, (k, x, within, at, none)) (numbers, is, are) =
    absurd (none_unknown given.0 names numbers are k x within at none)
one_named names given (Err why) (Err cause) (told, some) (told', some') = ap Err (told ∙ sym told')

module _ (split : IsOne is_split) (spelled : IsOne is_spelled) (levels : OneLevels)
    (numbers : IsOne has_input) (properties : IsOne has_properties) (certified : IsOne is_certified) where
  one_program : IsOne (first_of {C = List ℕ} (is_spelled >=> is_resolved >=> is_ordered))
  one_program =
      one_first_of _ (one_behind _ _ spelled (one_behind _ _ one_resolved (one_ordered levels)))

  one_parts : IsOne is_loaded_parts
  one_parts = one_behind _ _ one_program (one_behind _ _ (one_second_of _ numbers) (one_first_of _ certified))

  one_loaded : IsOne is_loaded
  one_loaded = one_behind _ _ one_read (one_behind _ _ split one_parts)

  one_claimed_parts : IsOne is_claimed_parts
  one_claimed_parts = one_behind _ _ one_program (one_behind _ _ properties (one_first_of _ certified))

  one_claimed : IsOne is_claimed
  one_claimed = one_behind _ _ one_read (one_behind _ _ split one_claimed_parts)

  one_tree_alone : IsOne has_tree_alone
  one_tree_alone =
      one_behind _ _ one_read (one_behind _ _ split
      (one_behind _ _ (one_first_of _ spelled) (one_makes (λ (read : Tree × List ℕ). read.0))))

  -- bytes mean one thing for a command
  pub one_meaning : (c : Command) → IsOne (IsVerdict c)
  unfolding IsVerdict
  one_meaning (C.Run rounds workers budget) = one_behind _ _ one_loaded (one_short rounds)
  one_meaning (C.Sim rounds width turns budget) = one_behind _ _ one_loaded (one_short rounds)
  one_meaning (C.Tight names) = one_behind _ _ one_loaded (one_named names)
  one_meaning C.Matrix = one_behind _ _ one_loaded (one_makes Comparing)
  one_meaning C.Check = one_behind _ _ one_loaded (one_makes Checking)
  one_meaning C.Print = one_behind _ _ one_tree_alone (one_makes Printing)
  one_meaning C.Prove = one_behind _ _ one_claimed (one_makes Proving)
