-- What contracts see of a journal, a note and a share.
use Rattle.std.specs.Prelude.{◌≡◌, ℕ, [], ◌∷◌, ◌++◌, length, refl}
use Rattle.std.specs.Coded.{Coded, code_by, coded×, coded_ℕ, coded_list}
use Rattle.atomic_table.specs.Seated.{TableId, table_id_coded}
use Rattle.step_journal.specs.Histories.{Log, own_entries}

-- the entries with their makers, how many makers there are, and which journal it is
pub record JournalState (E : Type 0) : Type 0 where
  pub log : Log E
  pub makers : ℕ
  pub name : TableId

-- who its maker is, what it has seen, and of which journal
pub record NoteState (E : Type 0) : Type 0 where
  pub maker : ℕ
  pub seen : Log E
  pub journal : TableId

-- who its maker is, and how many entries that maker has made
pub record ShareState : Type 0 where
  pub maker : ℕ
  pub count : ℕ

-- the journal with one entry more at its end
abbrev pub longer : {E : Type 0} → JournalState E → ℕ → E → JournalState E
longer journal maker entry = record journal { log = journal.log ++ (maker, entry) ∷ [] }

-- a new maker's note, which has seen all entries so far
abbrev pub new_note : {E : Type 0} → JournalState E → NoteState E
new_note journal = record { maker = journal.makers; seen = journal.log; journal = journal.name }

-- a new maker's share, which counts none
abbrev pub new_share : {E : Type 0} → JournalState E → ShareState
new_share journal = record { maker = journal.makers; count = 0 }

-- one call gave the note and the share: the share counts the entries of its maker, and the note has
-- seen all of them
pub record IsPair {E : Type 0} (note : NoteState E) (share : ShareState) : Type 0 where
  pub maker : share.maker ≡ note.maker
  pub count : share.count ≡ length (own_entries note.maker note.seen)

-- how each of them is stored
abbrev pub log_code : {E : Type 0} → Coded E → Coded (Log E)
log_code c = coded_list (coded× coded_ℕ c)

abbrev pub journal_code : {E : Type 0} → Coded E → Coded (JournalState E)
journal_code {E} c =
    code_by (Log E × (ℕ × TableId)) (coded× (log_code c) (coded× coded_ℕ table_id_coded))
    (λ j. (j.log, (j.makers, j.name))) (λ p. record { log = p.0; makers = p.1.0; name = p.1.1 }) (λ _. refl)

abbrev pub note_code : {E : Type 0} → Coded E → Coded (NoteState E)
note_code {E} c =
    code_by (ℕ × (Log E × TableId)) (coded× coded_ℕ (coded× (log_code c) table_id_coded))
    (λ n. (n.maker, (n.seen, n.journal))) (λ p. record { maker = p.0; seen = p.1.0; journal = p.1.1 })
    (λ _. refl)

abbrev pub share_code : Coded ShareState
share_code =
    code_by (ℕ × ℕ) (coded× coded_ℕ coded_ℕ) (λ s. (s.maker, s.count))
    (λ p. record { maker = p.0; count = p.1 }) (λ _. refl)
