use Rattle.std.proofs.Common.{sym, subst}
use Rattle.seuss_text.specs.Rows.{AreTokens}
use Rattle.seuss_run.specs.Verdicts.{has_tokens, has_tree}
use Rattle.seuss_run.proofs.StageLemmas.{one_behind_met}
use Rattle.seuss_run.proofs.VerdictLemmas.{one_split_of, one_has_tokens}
use Rattle.seuss_run.proofs.ReadLemmas.{one_tree, one_has_input}
use Rattle.seuss_run.proofs.CertificateFaults.{one_certified}
use Rattle.seuss_run.proofs.OneVerdict.{one_meaning}
use Rattle.seuss_run.proofs.PropertyFaults.{one_properties}
use Rattle.seuss_run.proofs.laws.one_verdict.Goals as goal

-- each check gives one answer
pub returns : goal.returns
returns c =
    one_meaning (one_split_of c.one_split.ensures)
    (one_behind_met has_tokens has_tree (one_has_tokens (record {
      bad_byte = c.one_fault.ensures.bad_byte;
      range = c.one_fault.ensures.range;
      one_kind = c.one_fault.ensures.one_kind;
      no_bad_byte = c.one_fault.ensures.no_bad_byte;
      no_range = c.one_fault.ensures.no_range;
    }) c.one_reading.ensures)
    (λ text found met. one_tree c.one_answer.ensures c.tokens_have_kinds.ensures found.0 found.1
    (subst (λ t. AreTokens t found.1) (sym met.0) met.2)))
    c.one_order_of_levels.ensures.levels (one_has_input c.one_input.ensures)
    (one_properties c.one_list.ensures)
    (one_certified (record {
      none = c.one_refusal.ensures.none;
      line = c.one_refusal.ensures.line;
      kind = c.one_refusal.ensures.kind;
    }))
