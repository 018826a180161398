-- Reading a program and looking for the end of the words after it.
use Rattle.std.specs.Prelude.{ℕ, List, [], ◌∷◌}
use Rattle.seuss_parser.specs.Readings.{Reading, Got, Refused, Unexpected, ◌>>=◌}
use Rattle.seuss_parser.specs.DeclarationReading.{read_program}
use Rattle.seuss_parser.specs.declared.refusal.ParseRefusal.{ParseRefusal}
use Rattle.seuss_parser.specs.declared.refusal.ParseRefusal.TheVariants.{Syntax, Nesting, Memory}
use Rattle.seuss_parser.specs.declared.stop.Stop.{Stop}
use Rattle.seuss_parser.specs.declared.stop.Stop.TheVariants as stops
use Rattle.seuss_parser.specs.declared.word.Word.{Word}
use Rattle.seuss_program.specs.declared.tree.Tree.{Tree}

-- this value, where no word is left
abbrev pub ends_here : {A : Type 0} → A → Reading A
ends_here value room [] = Got value room []
ends_here value room (word ∷ words) = Refused Unexpected (word ∷ words)

abbrev pub read_whole_program : Reading Tree
read_whole_program = do
  tree ← read_program
  ends_here tree

-- the line of the first word, or this one where there is none
abbrev pub front_line : List Word → ℕ → ℕ
front_line [] end = end
front_line (word ∷ words) end = word.line

-- why reading stopped, with the line where it did
abbrev pub refusal_of : Stop → ℕ → ParseRefusal
refusal_of stops.Unexpected line = Syntax line
refusal_of stops.TooDeep line = Nesting line
refusal_of stops.Memory line = Memory
