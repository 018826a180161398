-- What the checks of the parts of the bytes tell.
use Rattle.std.proofs.Common.{ℕ, ℤ, List, inl, refl}
use Rattle.std.specs.Prelude.{Result, Ok, Err}
use Rattle.seuss_program.specs.declared.tree.Tree.{Tree}
use Rattle.seuss_program.specs.declared.program.Program.{Program}
use Rattle.seuss_run.specs.declared.halt.Halt.{Halt}
use Rattle.seuss_run.specs.declared.halt.Halt.TheVariants as H
use Rattle.seuss_run.specs.Stages.{◌>=>◌, first_of, second_of}
use Rattle.seuss_run.specs.Verdicts.{Loaded, is_spelled, is_resolved, is_ordered, has_input, is_certified}
use Rattle.seuss_run.specs.Verdicts.{is_loaded_parts, tree_of}
use Rattle.seuss_run.specs.Loadings.{Meets}
use Rattle.seuss_run.proofs.StageLemmas.{behind}

-- the tree of the first part alone
pub tree_alone : (text rest : List ℕ) (made : Result Tree Halt) → Meets is_spelled text (λ tree. tree) made →
    Meets tree_of (text, rest) (λ tree. tree) made
tree_alone text rest (Ok tree) met = ((tree, rest), (met, refl), refl)
tree_alone text rest (Err (H.Refused why)) met = inl met
tree_alone text rest (Err H.Memory) met = tt

module _ {M : Type 0} (text rest : List ℕ) (p : Program) (view : M → Loaded) (made : Result M Halt)
    (program : (is_spelled >=> is_resolved >=> is_ordered) text (Ok p)) where
  -- where the program passes, the checks of the input and of the certificates tell
  pub after_program : Meets (second_of has_input >=> first_of is_certified) (p, rest) view made →
      Meets is_loaded_parts (text, rest) view made
  after_program =
      behind (first_of (is_spelled >=> is_resolved >=> is_ordered))
      (second_of has_input >=> first_of is_certified)
      (text, rest) (p, rest) view made (program, refl)

  -- where the input passes too, that of the certificates tells
  pub after_input : (numbers : List ℤ) → has_input rest (Ok numbers) →
      Meets (first_of is_certified) (p, numbers) view made → Meets is_loaded_parts (text, rest) view made
  after_input numbers input met =
      after_program (behind (second_of has_input) (first_of is_certified) (p, rest) (p, numbers) view made
      (refl, input) met)
