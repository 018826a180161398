use Rattle.commute_certs.proofs.OneVerdict.{one_level, yes_or_no, yes_or_unclear, no_or_unclear}
use Rattle.commute_certs.proofs.laws.one_verdict.Goals as goal

pub returns-clause-level : goal.returns-clause-level
returns-clause-level c = one_level

pub returns-clause-yes_or_no : goal.returns-clause-yes_or_no
returns-clause-yes_or_no c = yes_or_no

pub returns-clause-yes_or_unclear : goal.returns-clause-yes_or_unclear
returns-clause-yes_or_unclear c = yes_or_unclear

pub returns-clause-no_or_unclear : goal.returns-clause-no_or_unclear
returns-clause-no_or_unclear c = no_or_unclear
