use Rattle.std.proofs.Common.{◌≡◌, ℕ, ◌<◌, List, length, Some, refl, sym, ap, ◌∙◌, subst, arith}
use Rattle.std.proofs.lemmas.Option.{slice_get_read}
use Rattle.compat_matrix.specs.declared.member.Member.{Member}
use Rattle.compat_matrix.specs.Certificates.{levels_of}
use Rattle.compat_matrix.specs.Leasts.{HasCells}
use Rattle.compat_matrix.proofs.Lowering.{next_cell, next_row}
use Rattle.compat_matrix.proofs.levels.fill_row.Goals as goal

pub loop-column-preserved : goal.loop-column-preserved
loop-column-preserved c =
    let all = c.args.all.now in
    let count : c.loop-column.rows.count ≡ length all = c.loop-column.invariant.count ∙ c.requires.count in
    let within : c.loop-column.column < length all = omega (
      arith,
      c.requires.count,
      c.count-column-end.ensures.value,
    ) in
    let row = slice_get_read all (length all) c.args.row c.index-all-row.result refl c.requires.within
    c.index-all-row.is in
    let column = slice_get_read all (length all) c.loop-column.column c.index-all-column.result refl within
    c.index-all-column.is in
    record {
      count = c.set.ensures.count ∙ c.loop-column.invariant.count;
      cells = λ has.
          next_cell c.args.program.now (levels_of c.args.certificates.now) all c.loop-column.rows
          c.set.new.self c.args.row c.loop-column.column
          c.as_slice-xs.result.now c.as_slice-ys.result.now c.least.result count c.requires.within within
          (row ∙ ap (λ (ms : List Member). Some ms) (sym c.as_slice-xs.ensures)) (column
          ∙ ap (λ (ms : List Member). Some ms) (sym c.as_slice-ys.ensures))
          c.least.ensures c.set.ensures (c.loop-column.invariant.cells has);
    }

pub returns-clause-cells : goal.returns-clause-cells
returns-clause-cells c = λ has.
    let last : c.loop-column.column ≡ length c.args.all.now = omega (
      arith,
      c.requires.count,
      c.count-column-end.ensures.value,
    ) in
    next_row c.args.program.now (levels_of c.args.certificates.now) c.args.all.now c.loop-column.rows
    c.args.row
    (subst (λ (n : ℕ). HasCells c.args.program.now (levels_of c.args.certificates.now) c.args.all.now
    c.loop-column.rows c.args.row n) last
    (c.loop-column.invariant.cells has))
