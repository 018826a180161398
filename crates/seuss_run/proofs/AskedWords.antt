-- What is asked by the words and the source, and what is answered.
use Rattle.std.proofs.Common.{◌≡◌, ℕ, ◌≤◌, List, arith, inl, inr, sym, subst}
use Rattle.std.specs.Prelude.{Result, Ok, Err, IfOk, Option}
use Rattle.seuss_run.specs.declared.answer.Answer.{Answer}
use Rattle.seuss_run.specs.declared.top.Asked.{Asked}
use Rattle.seuss_run.specs.declared.top.Asked.TheVariants.{Told, Read}
use Rattle.seuss_run.specs.declared.words.Command.{Command}
use Rattle.seuss_run.specs.Answers.{Answers}
use Rattle.seuss_run.specs.Askings.{HasRead, IsAsked, IsTold}
use Rattle.seuss_run.specs.Commands.{HasLimits, IsCommand}
use Rattle.seuss_run.specs.Served.{AnswersWords}
use Rattle.seuss_run.proofs.TopLemmas.{known_answers}

-- what was read for a known command is what is asked
pub asked_known : {E : Type 0} (Known : Command → Type 0) (words : List (List ℕ)) (left rest : Option (List ℕ))
    (c : Command) (made : Result Asked E) → Known c → IsCommand words c → HasLimits c →
    IfOk made (HasRead c left rest) → IfOk made (IsAsked Known words left rest)
asked_known Known words left rest c (Ok (Told a)) known spelled limits read =
    known_answers {E = ℕ} Known words left rest c (Ok a) known spelled read
asked_known Known words left rest c (Ok (Read d bytes)) known spelled limits (is, few, all) = (
  subst Known (sym is) known,
  subst (IsCommand words) (sym is) spelled,
  subst HasLimits (sym is) limits,
  few,
  all,
)
asked_known Known words left rest c (Err e) known spelled limits read = tt

-- the answer of a command isn't the usage
pub no_usage : (c : Command) (bytes : List ℕ) (status : ℕ) (text : List ℕ) → Answers c bytes status text →
    status ≡ 4 → ⊥
unfolding Answers
no_usage c bytes status text (inl (three, reason, verdict, told)) four = omega (arith, three, four)
no_usage c bytes status text (inr (low, task, verdict, did)) four = omega (arith, low, four)

-- nor what was read for a command
pub read_no_usage : {E : Type 0} (c : Command) (left rest : Option (List ℕ)) (made : Result Asked E) →
    IfOk made (HasRead c left rest) → IfOk made (λ a. IsTold 4 a → ⊥)
read_no_usage c left rest (Ok (Told a)) (bytes, read, answers) = no_usage c bytes a.status a.text answers
read_no_usage c left rest (Ok (Read d bytes)) read = λ told. told
read_no_usage c left rest (Err e) read = tt

-- where this can't be, anything may be said of it
pub absurd_told : {E : Type 0} (Same : Type 0) (made : Result Asked E) → IfOk made (λ a. IsTold 4 a → ⊥) →
    IfOk made (λ a. IsTold 4 a → Same)
absurd_told Same (Ok a) never = λ told. absurd (never told)
absurd_told Same (Err e) never = tt

-- the answer of a known command isn't the usage
pub known_no_usage : {E : Type 0} (Same : Type 0) (c : Command) (bytes : List ℕ) (made : Result Answer E) →
    IfOk made (λ a. Answers c bytes a.status a.text) → IfOk made (λ a. a.status ≡ 4 → Same)
known_no_usage Same c bytes (Ok a) answers = λ four. absurd (no_usage c bytes a.status a.text answers four)
known_no_usage Same c bytes (Err e) answers = tt
