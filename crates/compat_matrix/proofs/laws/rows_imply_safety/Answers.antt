use Rattle.seuss_base.specs.Tables.{level_at}
use Rattle.compat_matrix.specs.Certificates.{levels_of}
use Rattle.compat_matrix.proofs.laws.rows_imply_safety.Goals as goal

pub returns : goal.returns
returns c = λ p es rows a b x y wanted keeps are here there above some.
    c.levels_imply_safety.ensures.certified p (levels_of es) x y (level_at rows a b) wanted
    keeps
    (c.actions_are_actions.ensures p a x keeps here) (c.actions_are_actions.ensures p b y keeps there)
    (c.levels_of_certificates_are_sound.ensures p es are.certificates)
    (are.levels a b x y here there) above some
