-- What is known once all seats have come back.
use Rattle.std.specs.Prelude.{◌≡◌, ℕ, ◌<◌, ◌≤◌, ◌==◌, List, length, filter, All}
use Rattle.ready_queue.specs.declared.view.Mark.{Mark}
use Rattle.ready_queue.specs.declared.view.Row.{Row}
use Rattle.ready_queue.specs.Rules.{IsSettled, taken_in}

-- what this seat started, in its order
abbrev pub started_by : ℕ → List Mark → List Mark
started_by number started = filter (λ m. m.seat == number) started

-- All seats were joined. Each has pushed what it started, and all that was started was started by one of
-- them. They have finished no more passes than they have taken, and at least as many as were started.
pub record IsGathered (items : List Mark) (rows : List Row) (given : ℕ) (started : List Mark) (finished : ℕ)
    : Type 0 where
  pub settled : IsSettled items rows given
  pub pushed : All (λ r. r.pushed ≡ started_by r.number started) rows
  pub by_seats : All (λ m. m.seat < given) started
  pub within : finished ≤ length (taken_in rows)
  pub many : length started ≤ finished
