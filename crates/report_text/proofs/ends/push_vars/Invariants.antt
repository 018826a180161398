-- The loop over the variables of a box.
use Rattle.std.proofs.Common.{◌≡◌, ◌++◌}
use Rattle.std.specs.Iterator.Adapters.{zip_first, zip_second}
use Rattle.std.specs.Slice.Iter.{iter_rest}
use Rattle.seuss_program.specs.Reports.{var_lines}
use Rattle.report_text.proofs.ends.push_vars.Given as goal

-- with the variables that are left, the text is that of all of them
abbrev pub invariant-loop-var : goal.invariant-loop-var
invariant-loop-var l =
    l.text ++ var_lines l.box_name (iter_rest (zip_first l.var-iterator))
    (iter_rest (zip_second l.var-iterator))
    ≡ l.fn.text ++ var_lines l.box_name l.vars l.values
