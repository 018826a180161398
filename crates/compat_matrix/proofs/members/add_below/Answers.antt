use Rattle.std.proofs.Common.{get_or, sym}
use Rattle.std.proofs.lemmas.Result.{on_ok_weaker}
use Rattle.compat_matrix.proofs.Walking.{way_some, way_none, member_at, no_member}
use Rattle.compat_matrix.proofs.members.add_below.Goals as goal

pub returns-in-Some-clause-way : goal.returns-in-Some-clause-way
returns-in-Some-clause-way c = on_ok_weaker c.add_called.result (λ adds a end round less way.
    way_some c.args.program.now c.requires.keeps a c.args.code.now c.args.members.now c.args.at end round
    c.number_of-number.result
    (get_or c.as_slice.result.now c.args.at no_member) c.requires.compiled
    (member_at c.as_slice.result.now c.args.members.now c.args.at c.as_slice.ensures c.requires.within)
    c.number_of-number.ensures
    less way c.add_called.new.members c.in-Some.method.now (sym c.in-Some.ensures) adds)
    c.add_called.ensures

pub returns-in-Some-clause-more : goal.returns-in-Some-clause-more
returns-in-Some-clause-more c = on_ok_weaker c.add_called.result (λ adds. adds.longer) c.add_called.ensures

pub returns-in-None-clause-way : goal.returns-in-None-clause-way
returns-in-None-clause-way c = λ a end round less way.
    way_none c.args.program.now c.requires.keeps a c.args.code.now c.args.members.now c.args.at end round
    c.number_of-number.result
    (get_or c.as_slice.result.now c.args.at no_member) c.requires.compiled
    (member_at c.as_slice.result.now c.args.members.now c.args.at c.as_slice.ensures c.requires.within)
    c.number_of-number.ensures
    less way c.args.members.now (sym c.in-None.ensures)
