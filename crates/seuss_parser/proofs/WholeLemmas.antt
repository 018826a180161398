-- What reading a whole program answers, as the parser is to answer.
use Rattle.std.proofs.Common.{◌≡◌, ℕ, List, [], ◌∷◌, refl, sym, ◌∙◌, ap, Ok, Err}
use Rattle.seuss_parser.specs.Answers.{Parses, last_line}
use Rattle.seuss_parser.specs.DeclarationReading.{read_program}
use Rattle.seuss_parser.specs.Readings.{Read, Gives, Got, Refused, Unexpected, TooDeep, read_then}
use Rattle.seuss_parser.specs.WholeReading.{ends_here, read_whole_program, front_line, refusal_of}
use Rattle.seuss_parser.specs.declared.refusal.ParseRefusal.TheVariants as refusals
use Rattle.seuss_parser.specs.declared.stop.Stop.{Stop}
use Rattle.seuss_parser.specs.declared.stop.Stop.TheVariants as stops
use Rattle.seuss_parser.specs.declared.word.Word.{Word}
use Rattle.seuss_program.specs.declared.tree.Tree.{Tree}
use Rattle.seuss_parser.proofs.ProgramAnswers.{found-parses, more-parses, unexpected-parses, ended-parses}
use Rattle.seuss_parser.proofs.ProgramAnswers.{deep-parses, deep-not_end}

module _ (words : List Word) where
  -- the tree of a program behind which no word is left
  pub whole-found : (tree : Tree) (left : ℕ) (rest : List Word) →
      read_whole_program 0 words ≡ Got tree left rest → Parses (Ok tree) words
  whole-found tree left rest read = by_program (read_program 0 words) refl read
    where
      by_program : (program : Read Tree) → read_program 0 words ≡ program →
          read_then program ends_here ≡ Got tree left rest → Parses (Ok tree) words
      by_program (Got found room []) is ends =
          let same : found ≡ tree = cc in
          found-parses words tree room (is ∙ ap (λ t. Got t room []) same)
      by_program (Got found room (word ∷ behind)) is ends = absurd (cc)
      by_program (Refused fault behind) is ends = absurd (cc)

  -- the place where no program goes on
  pub whole-unexpected : (rest : List Word) → read_whole_program 0 words ≡ Refused Unexpected rest →
      Parses (Err (refusals.Syntax (front_line rest (last_line words)))) words
  whole-unexpected rest read = by_program (read_program 0 words) refl read
    where
      by_program : (program : Read Tree) → read_program 0 words ≡ program →
          read_then program ends_here ≡ Refused Unexpected rest →
          Parses (Err (refusals.Syntax (front_line rest (last_line words)))) words
      by_program (Got found room []) is ends = absurd (cc)
      by_program (Got found room (word ∷ behind)) is ends =
          let same : word ∷ behind ≡ rest = cc in
          rw (sym same) (more-parses words found room word behind is)
      by_program (Refused Unexpected []) is ends =
          let same : [] ≡ rest = cc in
          rw (sym same) (ended-parses words is)
      by_program (Refused Unexpected (word ∷ behind)) is ends =
          let same : word ∷ behind ≡ rest = cc in
          rw (sym same) (unexpected-parses words word behind is)
      by_program (Refused TooDeep behind) is ends = absurd (cc)

  -- the place where a limit is passed
  pub whole-deep : (rest : List Word) → read_whole_program 0 words ≡ Refused TooDeep rest →
      Parses (Err (refusals.Nesting (front_line rest (last_line words)))) words
  whole-deep rest read = by_program (read_program 0 words) refl read
    where
      by_program : (program : Read Tree) → read_program 0 words ≡ program →
          read_then program ends_here ≡ Refused TooDeep rest →
          Parses (Err (refusals.Nesting (front_line rest (last_line words)))) words
      by_program (Got found room []) is ends = absurd (cc)
      by_program (Got found room (word ∷ behind)) is ends = absurd (cc)
      by_program (Refused Unexpected behind) is ends = absurd (cc)
      by_program (Refused TooDeep []) is ends = absurd (deep-not_end words is)
      by_program (Refused TooDeep (word ∷ behind)) is ends =
          let same : word ∷ behind ≡ rest = cc in
          rw (sym same) (deep-parses words word behind is)

  -- the refusal, from why reading stopped
  pub whole-stopped : (stop : Stop) (left : ℕ) (rest : List Word) →
      Gives {A = Tree} (Err stop) left rest (read_whole_program 0 words) →
      Parses (Err (refusal_of stop (front_line rest (last_line words)))) words
  whole-stopped stops.Unexpected left rest gives = whole-unexpected rest gives
  whole-stopped stops.TooDeep left rest gives = whole-deep rest gives
  whole-stopped stops.Memory left rest gives = tt
