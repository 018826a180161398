use Rattle.std.proofs.Common.{sym, subst, arith}
use Rattle.std.proofs.lemmas.List.{get_or-set_same, get_or-set_other}
use Rattle.std.proofs.lemmas.Bool.{cases_eq}
use Rattle.compat_scheduler.specs.Counts.{DoCount}
use Rattle.compat_scheduler.proofs.counting.uncount_leaver.Goals as goal

pub counts_less-requires-clause-counted : goal.counts_less-requires-clause-counted
counts_less-requires-clause-counted c =
    subst (DoCount c.args.setting.now c.loop-one.one c.args.leaver c.args.mode)
    (sym (c.loop-one.invariant.rest c.loop-one.one (omega arith)))
    (c.requires.counted c.loop-one.one (omega arith))

pub loop-one-preserved : goal.loop-one-preserved
loop-one-preserved c = record {
  so_far = λ i h. grind (
    arith,
    cases_eq i c.loop-one.one,
    c.loop-one.invariant.so_far i,
    c.loop-one.invariant.rest i,
    get_or-set_same,
    get_or-set_other,
  );
  rest = λ i h. grind (arith, c.loop-one.invariant.rest i, get_or-set_other);
}

pub returns : goal.returns
returns c = λ i h. c.loop-one.invariant.so_far i (omega arith)
