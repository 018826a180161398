-- What words and bytes end with: which statuses exclude each other.
use Rattle.std.proofs.Common.{◌≡◌, ℕ, ◌<◌, ◌≤◌, ◌⊎◌, List, ◌++◌, length, length-append, inl}
use Rattle.std.proofs.Common.{inr, sym, ap, subst, arith, refl, Option}
use Rattle.std.specs.Prelude.{Result, Ok, Err, Some, None, IfOk}
use Rattle.report_text.specs.declared.refusals.Refused.{Refused}
use Rattle.report_text.specs.Refusals.{refusal}
use Rattle.report_text.specs.declared.refusals.Refused.TheVariants as R
use Rattle.seuss_run.specs.declared.reading.TheConstants.{MOST_BYTES}
use Rattle.seuss_run.specs.declared.words.Command.{Command}
use Rattle.seuss_run.specs.declared.words.Command.TheVariants as C
use Rattle.seuss_run.specs.declared.answer.Answer.{Answer}
use Rattle.seuss_run.specs.Commands.{IsCommand}
use Rattle.seuss_run.specs.Readings.{Takes, TakesAll}
use Rattle.seuss_run.specs.Stages.{Stage, ◌>=>◌}
use Rattle.seuss_run.specs.Verdicts.{IsVerdict, Task, is_read, is_split, is_loaded_parts, is_claimed_parts}
use Rattle.seuss_run.specs.Verdicts.{tree_of}
use Rattle.seuss_run.specs.Answers.{Answers, Ends, EndsDone, EndsRefused, WasRead, WereRead}
use Rattle.seuss_base.specs.Sinks.{Adds}
use Rattle.seuss_run.specs.Promises.{Complete, IsGiven, RefusedSo}
use Rattle.seuss_run.specs.Promises.{IsHindered, WroteFront, LeftByFault, AfterFault}
use Rattle.seuss_run.specs.Served.{AnswersWords, IsAny, IsStill}
use Rattle.seuss_run.specs.Writings.{AddsFront}

-- more bytes than are read are refused, whatever the command
is_long : (command : Command) (bytes : List ℕ) → MOST_BYTES < length bytes →
    IsVerdict command bytes (Err R.Long)
unfolding IsVerdict
is_long C.Print bytes long = inl (inl (long, refl))
is_long command bytes long = inl (inl (long, refl))

-- more bytes than are read pass no check of reading
read_few : {B : Type 0} (next : Stage (List ℕ) B) (bytes : List ℕ) (made : B) → MOST_BYTES < length bytes →
    (is_read >=> next) bytes (Ok made) → ⊥
read_few next bytes made long (read, (is, few), others) = omega (arith, long, few)

-- more bytes than are read are accepted by no command
long_not_accepted : (command : Command) (bytes : List ℕ) (task : Task) → MOST_BYTES < length bytes →
    IsVerdict command bytes (Ok task) → ⊥
unfolding IsVerdict
long_not_accepted C.Print bytes task long accepted =
    read_few (is_split >=> tree_of) bytes accepted.0 long accepted.1
long_not_accepted C.Prove bytes task long accepted =
    read_few (is_split >=> is_claimed_parts) bytes accepted.0 long accepted.1
long_not_accepted command bytes task long accepted =
    read_few (is_split >=> is_loaded_parts) bytes accepted.0 long accepted.1

-- to more bytes than are read the refusal of long texts is an answer
pub long_answers : (command : Command) (bytes : List ℕ) (status : ℕ) (text : List ℕ) →
    MOST_BYTES < length bytes →
    status ≡ 3 → text ≡ refusal R.Long → Answers command bytes status text
unfolding Answers
long_answers command bytes status text long status_is text_is =
    inl (status_is, R.Long, is_long command bytes long, text_is)

-- bytes mean one thing for a command
abbrev pub IsOneVerdict : Type 0
IsOneVerdict = (c : Command) (bytes : List ℕ) (one other : Result Task Refused) → IsVerdict c bytes one →
    IsVerdict c bytes other → one ≡ other

-- bytes that were read to their end were read by each command
was_read : (c : Command) (left rest : Option (List ℕ)) (bytes : List ℕ) → TakesAll left rest bytes →
    WasRead c left rest bytes
was_read C.Print left rest bytes all = all
was_read command left rest bytes all = all

-- what a command answers to the bytes that were read is what it ends with
command_ends : (left rest : Option (List ℕ)) (command : Command) (status : ℕ) (text : List ℕ) →
    (bytes : List ℕ) × WereRead left rest bytes × Answers command bytes status text →
    Ends command left rest status text
unfolding Answers
command_ends left rest command status text (bytes, read, inl (is, reason, refused, told)) =
    inl (is, record { bytes = bytes; read = read; reason = reason; refused = refused; told = told })
command_ends left rest command status text (bytes, inl (few, all), inr (low, task, accepted, did)) =
    inr (
      low,
      record {
        bytes = bytes;
        read = was_read command left rest bytes all;
        task = task;
        accepted = accepted;
        done = did;
      },
    )
command_ends left rest command status text (bytes, inr (many, some), inr (low, task, accepted, did)) =
    absurd (long_not_accepted command bytes task many.0 accepted)

-- what a known command answers is what is answered
pub known_answers : {E : Type 0} (Known : Command → Type 0) (words : List (List ℕ))
    (left rest : Option (List ℕ)) (command : Command) (made : Result Answer E) → Known command →
    IsCommand words command →
    IfOk made (λ a. (bytes : List ℕ) × WereRead left rest bytes × Answers command bytes a.status a.text) →
    IfOk made (λ a. AnswersWords Known words left rest a.status a.text)
known_answers Known words left rest command (Ok a) known spelled answers =
    inr (command, known, spelled, command_ends left rest command a.status a.text answers)
known_answers Known words left rest command (Err e) known spelled answers = tt

-- all the bytes that a source tells were read
all_read : (before now : Option (List ℕ)) (bytes told : List ℕ) → before ≡ Some told →
    TakesAll before now bytes → told ≡ bytes
all_read None now bytes told e read = absurd (cc)
all_read (Some left) now bytes told e read = cc (e, read.0)

-- a front of the bytes that a source tells was read
front_read : (before now : Option (List ℕ)) (bytes told : List ℕ) → before ≡ Some told →
    Takes before now bytes → length bytes ≤ length told
front_read None now bytes told e read = absurd (cc)
front_read (Some left) now bytes told e read =
    let spelled : told ≡ bytes ++ read.0 = cc (e, read.1) in
    omega (arith, ap length spelled, length-append bytes read.0)

-- a command that is done has read the bytes that it is given
given_read : (c : Command) (left rest : Option (List ℕ)) (bytes given : List ℕ) → IsGiven c left given →
    WasRead c left rest bytes → given ≡ bytes
given_read C.Print left rest bytes given is read = all_read left rest bytes given is read
given_read command left rest bytes given is read = all_read left rest bytes given is read

-- each command is given what the source tells
given_told : (c : Command) (left : Option (List ℕ)) (given : List ℕ) → IsGiven c left given →
    left ≡ Some given
given_told C.Print left given is = is
given_told command left given is = is

-- a read or a write that failed, or want of memory, hinders each command
hindered : (c : Command) (status : ℕ) → 5 ≤ status → IsHindered c status
hindered C.Print status high = high
hindered command status high = high

module _ (one : IsOneVerdict) (c : Command) (left rest : Option (List ℕ)) (given : List ℕ)
    (is_given : IsGiven c left given) where
  -- bytes that are refused aren't done
  refused_is_not_done : (why : Refused) (status : ℕ) (text : List ℕ) → IsVerdict c given (Err why) →
      EndsDone c left rest status text → ⊥
  refused_is_not_done why status text refused ends =
      let same = given_read c left rest ends.bytes given is_given ends.read in
      cc (one c ends.bytes (Err why) (Ok ends.task)
      (subst (λ (bs : List ℕ). IsVerdict c bs (Err why)) same refused) ends.accepted)

  -- bytes that are accepted aren't refused
  accepted_is_not_refused : (task : Task) (text : List ℕ) → IsVerdict c given (Ok task) →
      EndsRefused c left rest text → ⊥
  accepted_is_not_refused task text accepted ends = by_bytes ends.read
    where
      told : left ≡ Some given
      told = given_told c left given is_given

      by_bytes : WereRead left rest ends.bytes → ⊥
      by_bytes (inl (few, all)) =
          let same = all_read left rest ends.bytes given told all in
          cc (one c given (Ok task) (Err ends.reason) accepted
          (subst (λ (bs : List ℕ). IsVerdict c bs (Err ends.reason)) (sym same) ends.refused))
      by_bytes (inr (many, some)) =
          long_not_accepted c given task
          (omega (arith, many.0, front_read left rest ends.bytes given told some)) accepted

module _ (verdict : IsOneVerdict) (Known : Command → Type 0)
    (words : List (List ℕ)) (left rest : Option (List ℕ)) (status : ℕ) (text : List ℕ)
    (answers : AnswersWords Known words left rest status text) where
  -- what is answered is complete
  pub answers_complete : Complete Known words left status
  answers_complete c bytes task known spelled given accepted = by_answer answers
    where
      by_answer : AnswersWords Known words left rest status text → (status ≤ 2) ⊎ IsHindered c status
      by_answer (inl (is, none, told)) = absurd (none c known spelled)
      by_answer (inr (d, d_known, d_spelled, inr (low, ends))) = inl low
      by_answer (inr (d, d_known, d_spelled, inl (is, ends))) =
          let same : d ≡ c = cc (d_spelled, spelled) in
          absurd (accepted_is_not_refused verdict c left rest bytes given task text accepted
          (subst (λ (e : Command). EndsRefused e left rest text) same ends))

module _ (Known : Command → Type 0) (words : List (List ℕ)) (left rest : Option (List ℕ)) (status : ℕ)
    (text : List ℕ) (answers : AnswersWords Known words left rest status text)
    (before now : Option (List ℕ)) where
  -- the line of a refusal was written
  pub answers_refused : status ≡ 3 → Adds before now text → RefusedSo Known words left rest before now
  answers_refused three written = by_answer answers
    where
      by_answer : AnswersWords Known words left rest status text → RefusedSo Known words left rest before now
      by_answer (inl (is, none, told)) = absurd (omega (arith, is, three))
      by_answer (inr (d, known, spelled, inr (low, ends))) = absurd (omega (arith, low, three))
      by_answer (inr (d, known, spelled, inl (is, ends))) = record {
        command = d;
        known = known;
        spelled = spelled;
        text = text;
        ends = ends;
        written = written;
      }

  -- a front of the text was written
  pub answers_front : AddsFront before now text → AfterFault Known words left rest before now
  answers_front front = by_answer answers
    where
      by_answer : AnswersWords Known words left rest status text →
          AfterFault Known words left rest before now
      by_answer (inl (is, none, told)) =
          inl (none, subst (λ (t : List ℕ). AddsFront before now t) told front)
      by_answer (inr (d, known, spelled, ends)) =
          inr (d, known, spelled, left_front d (status, text, ends, front))
        where
          left_front : (c : Command) → WroteFront c left rest before now →
              LeftByFault c left rest before now
          left_front C.Print wrote = wrote
          left_front command wrote = wrote

-- what was written where a write failed, of words whose command waits for no other thread
pub any_after_fault : (words : List (List ℕ)) → ((c : Command) → IsCommand words c → IsStill c) →
    (left rest before now : Option (List ℕ)) → AfterFault IsStill words left rest before now →
    AfterFault IsAny words left rest before now
any_after_fault words still left rest before now (inl (none, front)) =
    inl ((λ c any spelled. none c (still c spelled) spelled), front)
any_after_fault words still left rest before now (inr (c, known, spelled, wrote)) =
    inr (c, tt, spelled, wrote)
