-- The text of a run's record: the scheduler's entries in their order, and then those of each box. Frames, budgets and claims
-- aren't written, since the stamps tell in which order the steps came.
use Rattle.std.specs.Prelude.{ℕ, suc, ℤ, List, [], ◌∷◌, ◌++◌, codes}
use Rattle.std.specs.Fmt.{decimal, signed_decimal}
use Rattle.std.specs.List.{flat_map}
use Rattle.seuss_base.specs.declared.level.Level.{Level}
use Rattle.seuss_base.specs.declared.level.Level.TheVariants as L
use Rattle.seuss_base.specs.declared.outcome.PassEnd.{PassEnd}
use Rattle.seuss_base.specs.declared.outcome.PassEnd.TheVariants as E
use Rattle.seuss_program.specs.Reports.{line, trap_text}
use Rattle.compat_scheduler.specs.declared.ticket.FinishVerdict.{FinishVerdict}
use Rattle.compat_scheduler.specs.declared.ticket.FinishVerdict.TheVariants as F
use Rattle.loose_records.specs.declared.record.BoxEntry.{BoxEntry}
use Rattle.loose_records.specs.declared.record.SchedEntry.{SchedEntry}
use Rattle.loose_records.specs.declared.record.SchedEntry.TheVariants as S
use Rattle.loose_records.specs.declared.record.Record.{Record}

-- the mode of a pass; that it is never begun in the mode `never` is no part of the text
abbrev pub mode_text : Level → List ℕ
mode_text L.Never = codes "never"
mode_text L.Loose = codes "loose"
mode_text L.Firm = codes "firm"

-- how a pass ended
abbrev pub end_text : PassEnd → List ℕ
end_text E.Accepted = codes "accepted"
end_text E.PlainRejected = codes "plain"
end_text E.Rejected = codes "rejected"
end_text (E.Trapped trap) = codes "trapped " ++ trap_text trap
end_text E.Spent = codes "spent"

-- what became of a pass
abbrev pub verdict_text : FinishVerdict → List ℕ
verdict_text F.Kept = codes "kept"
verdict_text F.Void = codes "void"

-- a number behind a space
abbrev pub behind : ℕ → List ℕ
behind n = 32 ∷ decimal n

-- an entry of the scheduler: the start of an attempt, or the finish of a pass
abbrev pub sched_line : SchedEntry → List ℕ
sched_line (S.Start ticket stamp) =
    line (codes "start" ++ behind ticket.attempt ++ codes " " ++ mode_text ticket.mode ++ behind stamp)
sched_line (S.Finish ticket end verdict stamp) =
    line (codes "finish" ++ behind ticket.pass ++ codes " " ++ end_text end ++ codes " " ++ verdict_text verdict
    ++ behind stamp)

-- an entry of a box
abbrev pub step_line : BoxEntry → List ℕ
step_line e = line (codes "step" ++ behind e.pass ++ behind e.stamp)

-- the entries of a box, behind its number
abbrev pub box_lines : ℕ → List BoxEntry → List ℕ
box_lines number entries = line (codes "box" ++ behind number) ++ flat_map step_line entries

-- those of all boxes, numbered from this one on
abbrev pub boxes_text : ℕ → List (List BoxEntry) → List ℕ
boxes_text number [] = []
boxes_text number (entries ∷ boxes) = box_lines number entries ++ boxes_text (suc number) boxes

-- the rounds and the budget, and the input
abbrev pub head_text : ℕ → ℕ → List ℤ → List ℕ
head_text rounds budget input = line (codes "record" ++ behind rounds ++ behind budget)
    ++ line (codes "input" ++ flat_map (λ z. 32 ∷ signed_decimal z) input)

-- the text of a record of so many rounds, with this budget and this input
abbrev pub record_text : ℕ → ℕ → List ℤ → Record → List ℕ
record_text rounds budget input made = head_text rounds budget input ++ flat_map sched_line made.sched
    ++ boxes_text 0 made.boxes ++ line (codes "end")
