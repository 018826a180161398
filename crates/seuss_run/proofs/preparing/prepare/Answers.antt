use Rattle.compat_matrix.specs.Certificates.{AreLevels}
use Rattle.seuss_program.specs.Orders.{slots_of}
use Rattle.seuss_run.proofs.preparing.prepare.Goals as goal

-- the levels make a setting
pub returns-clause-prepared : goal.returns-clause-prepared
returns-clause-prepared c =
    let job = c.args.job in
    let levels : AreLevels job.program job.certificates c.in_ok-rows.rows =
    rw c.as_slice.ensures at c.in_ok-rows.ensures in
    record {
      keeps = c.requires.keeps;
      code = record { code_is = c.in_ok-code.ensures; plan_is = c.in_ok-plan.ensures };
      levels = levels;
      settings = λ rounds budget some small. c.levels_make_a_setting.ensures job.program job.certificates
          c.in_ok-rows.rows (slots_of job.program) rounds budget c.requires.keeps levels some small;
    }
