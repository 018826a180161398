use Rattle.std.proofs.Common.{rules, List, length, subst}
use Rattle.compat_matrix.specs.declared.member.Member.{Member}
use Rattle.compat_matrix.specs.Certificates.{levels_of}
use Rattle.compat_matrix.specs.Leasts.{HasCells}
use Rattle.compat_matrix.proofs.Lowering.{table_is}
use Rattle.compat_matrix.proofs.levels.matrix_of.Goals as goal

pub returns : goal.returns
returns c = record {
  certificates = c.requires.certificates;
  count = search rules;
  levels = λ a b x y here there.
      table_is c.args.program.now (levels_of c.args.certificates.now) c.in_ok-all.all c.fill.new.rows a b x y
      c.in_ok-all.ensures
      (subst (λ (all : List (List Member)).
      HasCells c.args.program.now (levels_of c.args.certificates.now) all c.fill.new.rows (length all) 0)
      c.as_slice.ensures
      c.fill.ensures.cells) here there;
}
