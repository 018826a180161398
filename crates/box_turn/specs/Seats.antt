-- What contracts see of a turn and of its seats.
use Rattle.std.specs.Prelude.{◌≡◌, ℕ, Bool, true, false, List, [], ◌∷◌, Option, None, refl}
use Rattle.std.specs.Coded.{Coded, code_by, coded×, coded_ℕ, coded_bool}
use Rattle.atomic_table.specs.Seated.{TableId, table_id_coded}
use Rattle.atomic_table.specs.Table.{Me}
use Rattle.box_turn.specs.declared.view.View.{View}
use Rattle.box_turn.specs.declared.view.View.TheVariants.{Live}
use Rattle.box_turn.specs.Rules.{names_in, parts_in, misses_in, holds_in}

-- which turn it is, what never changes of its value, and how many seats it has
pub record TurnState (N : Type 0) : Type 0 where
  pub name : TableId
  pub names : N
  pub seats : ℕ

-- of which turn it is a seat, what never changes of the value, how often the seat found the turn taken, and
-- whether it holds it
pub record SeatState (N : Type 0) : Type 0 where
  pub turn : TableId
  pub names : N
  pub misses : ℕ
  pub holds : Bool

-- a seat that was never used
abbrev pub new_seat : {N : Type 0} → TableId → N → SeatState N
new_seat turn names = record { turn = turn; names = names; misses = 0; holds = false }

-- the same of a seat that doesn't hold the turn, and how many parts of the turn it has
pub record PartsState (N : Type 0) : Type 0 where
  pub turn : TableId
  pub names : N
  pub parts : ℕ
  pub misses : ℕ

-- what a seat with this view of a turn's table says
abbrev pub seat_state : {N : Type 0} → TableId → N → View N → SeatState N
seat_state turn any v =
    record { turn = turn; names = names_in any v; misses = misses_in v; holds = holds_in v }

-- and one that may have more parts than one
abbrev pub parts_state : {N : Type 0} → TableId → N → View N → PartsState N
parts_state turn any v =
    record { turn = turn; names = names_in any v; parts = parts_in v; misses = misses_in v }

-- the slots that a seat has: the one slot, empty, where it holds the turn
abbrev pub carried : {C : Type 0} → Bool → List (ℕ × Option C)
carried true = (0, None) ∷ []
carried false = []

-- the seat's view has one part, and the seat has the slot just where it holds the turn
pub record IsSeat {C N : Type 0} (any : N) (me : Me (Option C) (View N)) : Type 0 where
  pub me_is : me ≡ (Live (names_in any me.0) 1 (misses_in me.0) (holds_in me.0), carried (holds_in me.0))

-- the seat's view is live and doesn't hold the turn, and the seat has no slot
pub record IsIdle {C N : Type 0} (any : N) (me : Me (Option C) (View N)) : Type 0 where
  pub me_is : me ≡ (Live (names_in any me.0) (parts_in me.0) (misses_in me.0) false, [])

-- how a turn is stored
abbrev pub turn_code : {N : Type 0} → Coded N → Coded (TurnState N)
turn_code {N} c =
    code_by (TableId × (N × ℕ)) (coded× table_id_coded (coded× c coded_ℕ))
    (λ t. (t.name, (t.names, t.seats)))
    (λ p. record { name = p.0; names = p.1.0; seats = p.1.1 }) (λ _. refl)

-- how a seat is stored
abbrev pub seat_code : {N : Type 0} → Coded N → Coded (SeatState N)
seat_code {N} c =
    code_by (TableId × (N × (ℕ × Bool))) (coded× table_id_coded (coded× c (coded× coded_ℕ coded_bool)))
    (λ s. (s.turn, (s.names, (s.misses, s.holds))))
    (λ p. record { turn = p.0; names = p.1.0; misses = p.1.1.0; holds = p.1.1.1 }) (λ _. refl)

-- how a seat with its parts is stored
abbrev pub parts_code : {N : Type 0} → Coded N → Coded (PartsState N)
parts_code {N} c =
    code_by (TableId × (N × (ℕ × ℕ))) (coded× table_id_coded (coded× c (coded× coded_ℕ coded_ℕ)))
    (λ s. (s.turn, (s.names, (s.parts, s.misses))))
    (λ p. record { turn = p.0; names = p.1.0; parts = p.1.1.0; misses = p.1.1.1 }) (λ _. refl)
