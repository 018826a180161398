-- What contracts see of the views of the word.
use Rattle.std.specs.Prelude.{◌≡◌, ℕ, Bool, true, false, [], ◌∷◌, Option}
use Rattle.atomic_table.specs.Seated.{TableId}
use Rattle.atomic_table.specs.Table.{Me}
use Rattle.quit_word.specs.declared.view.View.{View}
use Rattle.quit_word.specs.Rules.{Held}

-- the first view: how many numbers were given, those that were joined into it with their marks, whom
-- it has seen give up, and of which word
pub record FirstState : Type 0 where
  pub given : ℕ
  pub held : Held
  pub seen : Option ℕ
  pub name : TableId

-- a worker's view: its number, whether it is the one that gave up, whom it has seen give up, and of
-- which word
pub record SeatState : Type 0 where
  pub number : ℕ
  pub mark : Bool
  pub seen : Option ℕ
  pub name : TableId

-- a view without a number: whom it has seen give up, and of which word
pub record ViewState : Type 0 where
  pub seen : Option ℕ
  pub name : TableId

-- what the first view says
abbrev pub first_of : TableId → View → FirstState
first_of name v = record { given = v.given; held = v.held; seen = v.seen; name = name }

-- whether the first of these numbers is marked
abbrev pub mark_in : Held → Bool
mark_in [] = false
mark_in (h ∷ hs) = h.1

-- what a worker's view says
abbrev pub seat_of : ℕ → TableId → View → SeatState
seat_of number name v = record { number = number; mark = mark_in v.held; seen = v.seen; name = name }

-- what a view without a number says
abbrev pub view_of : TableId → View → ViewState
view_of name v = record { seen = v.seen; name = name }

-- the view is the first one
pub record IsFirst {S : Type 0} (me : Me S View) : Type 0 where
  pub me_is : me ≡ (record { first = true; given = me.0.given; held = me.0.held; seen = me.0.seen }, [])

-- the view is that of the worker with this number
pub record IsSeat {S : Type 0} (number : ℕ) (me : Me S View) : Type 0 where
  pub me_is : me
      ≡ (record { first = false; given = 0; held = (number, mark_in me.0.held) ∷ []; seen = me.0.seen }, [])

-- the view has no number
pub record IsView {S : Type 0} (me : Me S View) : Type 0 where
  pub me_is : me ≡ (record { first = false; given = 0; held = []; seen = me.0.seen }, [])
