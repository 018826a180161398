use Rattle.method_code.proofs.Rows.{in_order}
use Rattle.method_code.proofs.laws.pass_commits_once.Goals as goal

pub returns : goal.returns
returns c = λ p a row budget end keeps is over. in_order p keeps a is row budget end over
