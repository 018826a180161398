use Rattle.pass_gather.proofs.Owners.{made_by_seats}
use Rattle.pass_gather.proofs.laws.the_record_is_the_seats_own.Goals as goal

pub returns : goal.returns
returns c = λ names last logs sched machine seats passes are boxes scheduler.
    made_by_seats names last logs seats are boxes sched machine passes scheduler
