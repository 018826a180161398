use Rattle.commute_certs.specs.declared.verdict.Verdict.TheVariants.{No, Unclear}
use Rattle.compat_matrix.specs.Certificates.{written}
use Rattle.compat_matrix.proofs.WrittenLemmas.{all_hold}
use Rattle.compat_matrix.proofs.Refusals.{none_refused, one_line, one_kind}
use Rattle.compat_matrix.proofs.laws.one_refusal.Goals as goal

pub returns : goal.returns
returns c = record {
  all = λ p es are. all_hold (written p) es are;
  none = λ p line verdict hold refused. none_refused p line verdict refused hold;
  line = λ p line other verdict two refused also. one_line p line verdict refused other two also;
  kind = λ p line other vars first second why refused also.
      one_kind p line (No vars first second) refused other (Unclear why) also
      (λ pair. c.one_verdict.ensures.no_or_unclear pair vars first second why);
}
