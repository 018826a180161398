use Rattle.std.proofs.Common.{sym, subst, arith}
use Rattle.std.proofs.lemmas.List.{get_or-set_same, get_or-set_other}
use Rattle.std.proofs.lemmas.Bool.{cases_eq}
use Rattle.compat_scheduler.specs.Counts.{HasRoom}
use Rattle.compat_scheduler.proofs.counting.count_newcomer.Goals as goal

pub counts_more-requires-clause-room : goal.counts_more-requires-clause-room
counts_more-requires-clause-room c =
    subst HasRoom (sym (c.loop-one.invariant.rest c.loop-one.one (omega arith)))
    (c.requires.room c.loop-one.one (omega arith))

pub loop-one-preserved : goal.loop-one-preserved
loop-one-preserved c = record {
  so_far = λ i h. grind (
    arith,
    cases_eq i c.loop-one.one,
    c.loop-one.invariant.so_far i,
    c.loop-one.invariant.rest i,
    get_or-set_same,
    get_or-set_other,
  );
  rest = λ i h. grind (arith, c.loop-one.invariant.rest i, get_or-set_other);
}

pub returns : goal.returns
returns c = λ i h. c.loop-one.invariant.so_far i (omega arith)
