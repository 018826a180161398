-- What the type of an engine names.
use Rattle.std.specs.Prelude.{◌≡◌, ℕ, ◌<◌, ◌≤◌, List, [], All, length, slice_index_or}
use Rattle.atomic_table.specs.Seated.{TableId}
use Rattle.seuss_program.specs.declared.state.State.{State}
use Rattle.seuss_program.specs.declared.state.Value.{Value}
use Rattle.seuss_program.specs.Programs.{vars_of}
use Rattle.seuss_program.specs.Keeping.{Keeps, HasForm}
use Rattle.method_code.specs.declared.method.Method.{Method}
use Rattle.method_code.specs.Codes.{compiled}
use Rattle.loose_records.specs.Settings.{RunSetting}

-- the tables of the boxes' journals, of the scheduler's and of the quit word, how many seats there are, what the
-- run is set up with, and its first state
pub record Names : Type 0 where
  pub boxes : List TableId
  pub sched : TableId
  pub quit : TableId
  pub seats : ℕ
  pub setting : RunSetting
  pub first : State

-- a table that is none
abbrev pub no_table : TableId
no_table = record {
  words = 0;
  slots = 0;
  views_name = 0;
  atom = 0;
  block = 0;
  offset = 0;
  slot_names = [];
}

-- what a run is set up with that has no actions
abbrev pub no_setting : RunSetting
no_setting = record {
  program = record { cats = []; boxes = []; actions = [] };
  scheduler = record { levels = record { count = 0; levels = [] }; actions = []; rounds = 0 };
  budget = 0;
}

-- the names of no engine
abbrev pub no_names : Names
no_names = record {
  boxes = [];
  sched = no_table;
  quit = no_table;
  seats = 0;
  setting = no_setting;
  first = record { boxes = [] };
}

-- the table of the journal of a box
abbrev pub table_at : Names → ℕ → TableId
table_at names b = slice_index_or names.boxes b no_table

-- Names that agree with the code and the first variables of the cells: these are those of the program and of the
-- first state. The program keeps its checks, the state has its form, each box has a table, and each slot of a
-- round an action.
pub record AreNames (names : Names) (code : List Method) (first : ℕ → List Value) : Type 0 where
  pub code_is : code ≡ compiled names.setting.program
  pub first_is : first ≡ vars_of names.first
  pub keeps : Keeps names.setting.program
  pub form : HasForm names.setting.program names.first
  pub boxes : length names.boxes ≡ length names.setting.program.boxes
  pub actions : All (λ (a : ℕ). a < length names.setting.program.actions) names.setting.scheduler.actions
  pub budget : names.setting.budget ≤ 1000000
