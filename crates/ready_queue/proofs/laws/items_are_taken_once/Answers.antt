use Rattle.ready_queue.proofs.Onces.{once, once_settled}
use Rattle.ready_queue.proofs.laws.items_are_taken_once.Goals as goal

pub returns : goal.returns
returns g = record {
  always = λ items views kept seat pass. once seat pass items views kept;
  settled = λ items rows given settled seat pass. once_settled seat pass items rows given settled;
}
