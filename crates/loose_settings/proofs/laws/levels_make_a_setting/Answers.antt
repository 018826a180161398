use Rattle.loose_settings.proofs.laws.levels_make_a_setting.Goals as goal

pub returns : goal.returns
returns c = λ p es rows actions rounds budget keeps are some within. record {
  keeps = keeps;
  some = some;
  within = within;
  safe = λ a b x y wanted here there above real. c.rows_imply_safety.ensures p es rows a b x y wanted keeps
      are here there above real;
}
