use Rattle.effect_sets.proofs.Agreeing.{value_same, arguments_same}
use Rattle.effect_sets.proofs.laws.values_depend_on_mentions.Goals as goal

pub returns : goal.returns
returns c = record {
  expression = λ e vars others slots agree. value_same vars others slots e agree.values;
  arguments = λ es vars others slots agree. arguments_same vars others slots es agree.values;
}
