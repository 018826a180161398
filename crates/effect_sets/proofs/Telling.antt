-- The effects of the code of a procedure are those of its text.
use Rattle.std.proofs.Common.{◌≡◌, ℕ, Bool, true, false, ◌||◌, not, List, Option, Some, refl, sym, ap, ◌∙◌}
use Rattle.std.proofs.Common.{subst}
use Rattle.std.specs.Prelude.{slice_get, option_map}
use Rattle.std.specs.List.{list_any}
use Rattle.seuss_program.specs.declared.tree.Ref.{Ref}
use Rattle.seuss_program.specs.declared.tree.Proc.{Proc}
use Rattle.seuss_program.specs.declared.program.Program.{Program}
use Rattle.seuss_program.specs.Programs.{procedure_of}
use Rattle.method_code.specs.declared.method.Method.{Method}
use Rattle.method_code.specs.Codes.{entry_of, form_code, method_code, compiled, number_of}
use Rattle.method_code.proofs.NumberLemmas.{code-found}
use Rattle.effect_sets.specs.declared.sets.Effects.{Effects}
use Rattle.method_code.specs.Singles.{is_single}
use Rattle.effect_sets.specs.Effects.{IsEffects, has_bit}
use Rattle.effect_sets.specs.Masks.{code_effects, tested_mask, add_read, calls_first, is_call, is_again}
use Rattle.effect_sets.proofs.CodeSets.{entry_tests}
use Rattle.effect_sets.proofs.FormSets.{tests_is, reads_is, writes_is, early_first, late_is, single_is}
use Rattle.effect_sets.proofs.Bits.{or_assoc, bit_in_or, all_tested, all_read, all_written}

pub effects_told : (q : Proc Ref) → IsEffects q (code_effects (method_code q))
effects_told q = record {
  tests = λ v small. all_tested v small (entry_of q.form) ∙ tests_is v q.form;
  reads = λ v small. bit_in_or (tested_mask (entry_of q.form)) (add_read 0 (form_code q.form)) v
      ∙ (ap (λ b. b || has_bit (add_read 0 (form_code q.form)) v) (all_tested v small (entry_of q.form))
      ∙ (ap (λ b. entry_tests v (entry_of q.form) || b) (all_read v small (form_code q.form))
      ∙ reads_is v q.form));
  writes = λ v small. all_written v small (form_code q.form) ∙ writes_is v q.form;
  early = early_first q.form;
  late = late_is q.form;
  single = ap not (or_assoc (calls_first (entry_of q.form)) (list_any is_call (form_code q.form))
      (list_any is_again (form_code q.form)) ∙ single_is q.form) ∙ twice (is_single q.form);
}
  where
    twice : (b : Bool) → not (not b) ≡ b
    twice true = refl
    twice false = refl

-- what stands at the number of a procedure is its code
pub effects_at : (code : List Method) (number : ℕ) (m : Method) (e : Effects) (q : Proc Ref) →
    Some m ≡ slice_get code number → e ≡ code_effects m →
    slice_get code number ≡ Some (method_code q) → IsEffects q e
effects_at code number m e q found is coded =
    subst (λ (f : Effects). IsEffects q f) (sym (is ∙ ap code_effects (same (found ∙ coded))))
    (effects_told q)
  where
    same : Some m ≡ Some (method_code q) → m ≡ method_code q
    same h = cc

-- in a program it stands at the number of the procedure
pub coded_at : (p : Program) (code : List Method) (method box number : ℕ) (q : Proc Ref) →
    code ≡ compiled p → procedure_of p box number ≡ Some q →
    method ≡ number_of p box number → slice_get code method ≡ Some (method_code q)
coded_at p code method box number q is there numbered =
    ap (λ (c : List Method). slice_get c method) is
    ∙ (ap (slice_get (compiled p)) numbered
    ∙ (code-found p box number ∙ ap (λ (o : Option (Proc Ref)). option_map method_code o) there))
