-- What a start does: a started pass goes from the ready queue to a seat. It makes no entry.
use Rattle.std.specs.Prelude.{◌≡◌, List, []}
use Rattle.ready_queue.specs.declared.view.Mark.{Mark}
use Rattle.ready_queue.specs.declared.view.View.TheVariants.{Seated}
use Rattle.ready_queue.specs.Rules.{taking, Held}
use Rattle.pass_seats.specs.declared.pass.Pass.{Pass}
use Rattle.pass_seats.specs.declared.refusal.EngineRefusal as E
use Rattle.pass_seats.specs.declared.refusal.EngineRefusal.TheVariants as X
use Rattle.pass_seats.specs.Names.{Names}
use Rattle.pass_seats.specs.Items.{ItemState}
use Rattle.pass_seats.specs.Steps.{Tears, sees_quit}
use Rattle.pass_seats.specs.Starts.{Taken}
use Rattle.worker_seats.specs.Marks.{mark_of_item}
use Rattle.worker_seats.specs.Workers.{WorkerState, with_core}

-- The seat was given a started pass, at its beginning, which is one more of those that it has taken. At one moment
-- the queue's rule held with the seat's row: so no other seat has taken the pass, and none will.
pub record Started (names : Names) (old new : WorkerState) (pass : Pass) : Type 0 where
  pub item : ItemState
  pub taken : Taken names old.core new.core item pass
  pub new_is : new ≡ record old {
    core = new.core;
    ready = record old.ready { row = taking old.ready.row (mark_of_item item) };
  }
  pub left : List Mark
  pub held : Held left (Seated new.ready.row)

-- at one moment the queue was empty, and nothing has changed
pub record NoneStarted (old new : WorkerState) : Type 0 where
  pub empty : Held [] (Seated old.ready.row)
  pub same : new ≡ old

-- why a start was refused: never because a stamp is worn, since it makes no entry
abbrev pub StartRefused : WorkerState → WorkerState → E.EngineRefusal → Type 0
StartRefused old new (X.GivenUp by) = new ≡ with_core old (sees_quit old.core by)
StartRefused old new X.Memory = Tears old.core new.core
StartRefused old new (X.Worn stamp) = ⊥
