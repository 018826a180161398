-- What contracts see of the desk at which a journal's steps are made.
use Rattle.std.specs.Prelude.{◌≡◌, ℕ, List, [], ◌∷◌, refl}
use Rattle.std.specs.Coded.{Coded, code_by, coded×, coded_ℕ, coded_list}
use Rattle.atomic_table.specs.Seated.{TableId, table_id_coded}
use Rattle.atomic_table.specs.Table.{Me}
use Rattle.step_journal.specs.Histories.{Log, makers_of, entries_of}
use Rattle.step_journal.specs.Journals.{NoteState, log_code}
use Rattle.step_journal.specs.declared.view.View.{View}
use Rattle.step_journal.specs.declared.view.View.TheVariants.{Spent, Noted, Writer}

-- the journal, the lists of the notes that were taken in, how many numbers were given, and which
-- journal it is
pub record DeskState (E : Type 0) : Type 0 where
  pub log : Log E
  pub olds : List (ℕ × Log E)
  pub given : ℕ
  pub name : TableId

-- how it is stored
abbrev pub desk_code : {E : Type 0} → Coded E → Coded (DeskState E)
desk_code {E} c =
    code_by (Log E × (List (ℕ × Log E) × (ℕ × TableId)))
    (coded× (log_code c) (coded× (coded_list (coded× coded_ℕ (log_code c))) (coded× coded_ℕ table_id_coded)))
    (λ d. (d.log, (d.olds, (d.given, d.name))))
    (λ p. record { log = p.0; olds = p.1.0; given = p.1.1.0; name = p.1.1.1 }) (λ _. refl)

-- the journal that a writer's view has
abbrev pub log_in : {E : Type 0} → View E → Log E
log_in Spent = []
log_in (Noted maker seen) = []
log_in (Writer log olds given) = log

-- the lists of the notes that it took in
abbrev pub olds_in : {E : Type 0} → View E → List (ℕ × Log E)
olds_in Spent = []
olds_in (Noted maker seen) = []
olds_in (Writer log olds given) = olds

-- how many numbers it gave
abbrev pub given_in : {E : Type 0} → View E → ℕ
given_in Spent = 0
given_in (Noted maker seen) = 0
given_in (Writer log olds given) = given

-- what a writer's view says
abbrev pub desk_of : {E : Type 0} → TableId → View E → DeskState E
desk_of name view = record { log = log_in view; olds = olds_in view; given = given_in view; name = name }

-- the view that says it
abbrev pub writer_of : {E : Type 0} → DeskState E → View E
writer_of desk = Writer desk.log desk.olds desk.given

-- the table has one word, and the seat is the writer's
pub record IsWriting {S E : Type 0} (table seat : TableId) (me : Me S (View E)) : Type 0 where
  pub same_table : seat ≡ table
  pub one_word : table.words ≡ 1
  pub writes : me ≡ (writer_of (desk_of seat me.0), [])

-- what a note has seen
abbrev pub seen_in : {E : Type 0} → List (View E) → Log E
seen_in [] = []
seen_in (Spent ∷ views) = []
seen_in (Noted maker seen ∷ views) = seen
seen_in (Writer log olds given ∷ views) = []

-- the note of a maker, at a seat with these views of a table
abbrev pub note_state : {E : Type 0} → ℕ → TableId → List (View E) → NoteState E
note_state maker table views = record { maker = maker; seen = seen_in views; journal = table }

-- the list of a note, with the number of its maker
abbrev pub list_of : {E : Type 0} → NoteState E → ℕ × Log E
list_of note = (note.maker, note.seen)

-- a desk between two calls of its journal: no list is kept, and beside it stand the makers and the
-- entries, in order
pub record IsBooked {E : Type 0} (desk : DeskState E) (given : ℕ) (makers : List ℕ) (entries : List E)
    : Type 0 where
  pub olds : desk.olds ≡ []
  pub given_is : desk.given ≡ given
  pub makers_are : makers ≡ makers_of desk.log
  pub entries_are : entries ≡ entries_of desk.log
