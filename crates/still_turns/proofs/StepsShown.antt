-- A step of the engine is a step of the run that it shows.
use Rattle.std.proofs.Common.{◌≡◌, ℕ, ◌+◌, List, [], ◌∷◌, ◌++◌, length, refl, sym, ap, ◌∙◌, Some, None, slice_get}
use Rattle.std.proofs.Common.{subst}
use Rattle.std.specs.Prelude.{slice_set, Option, max}
use Rattle.std.proofs.lemmas.Option.{same_Some}
use Rattle.seuss_base.specs.declared.outcome.PassEnd.{PassEnd}
use Rattle.seuss_program.specs.declared.state.Value.{Value}
use Rattle.seuss_program.specs.Programs.{vars_of}
use Rattle.method_code.specs.declared.activation.Activation.{Activation}
use Rattle.method_code.specs.declared.method.Method.{Method}
use Rattle.method_code.specs.Codes.{compiled}
use Rattle.method_code.specs.Chains.{Turned, Next, Over, turned, with_vars}
use Rattle.method_code.specs.Records.{Recorded}
use Rattle.compat_scheduler.specs.declared.ticket.Ticket.{Ticket}
use Rattle.loose_records.specs.declared.record.BoxEntry.{BoxEntry}
use Rattle.loose_records.specs.declared.record.Claim.{Claim}
use Rattle.loose_records.specs.declared.record.PassRecord.{PassRecord}
use Rattle.loose_records.specs.Entries.{gives, journal, box_stamps, claimed, step_of}
use Rattle.loose_records.specs.Growing.{with_claim, status_of}
use Rattle.loose_records.specs.Turns.{clock_of}
use Rattle.box_lock.specs.Cells.{CellState}
use Rattle.round_ledger.specs.Cells as L
use Rattle.pass_seats.specs.declared.pass.Done.{Done}
use Rattle.pass_seats.specs.declared.pass.Progress.{Progress}
use Rattle.pass_seats.specs.declared.pass.Progress.TheVariants as V
use Rattle.pass_seats.specs.declared.pass.SeatPass.{SeatPass}
use Rattle.pass_seats.specs.Names.{Names}
use Rattle.pass_seats.specs.Seats.{SeatState}
use Rattle.pass_seats.specs.Steps.{GoesOn}
use Rattle.pass_engine.specs.Engines.{EngineState}
use Rattle.pass_engine.specs.Calls.{StepMade}
use Rattle.turn_runs.specs.declared.hand.Hand.{Hand}
use Rattle.turn_runs.specs.declared.hand.Progress as Q
use Rattle.turn_runs.specs.declared.hand.Progress.TheVariants as P
use Rattle.turn_runs.specs.declared.run.Run.{Run}
use Rattle.turn_runs.specs.Hands.{status_now}
use Rattle.turn_runs.specs.RunTurns.{MakesStep}
use Rattle.turn_runs.proofs.ListLemmas.{set-here}
use Rattle.still_turns.specs.declared.hand.InHand.{InHand}
use Rattle.still_turns.specs.Shown.{Shows, ShowsBoxes, ShowsSched, IsShown, IsSlot, IsTold, GoesAt}
use Rattle.still_turns.specs.Shown.{IsInHand, AreNamed, IsCommitSoFar}
use Rattle.still_turns.proofs.BoxesShown.{journal_length, vars_at, clock_at, boxes_after}
use Rattle.still_turns.proofs.BoxesShown.{claimed_grows, claimed_here}
use Rattle.still_turns.proofs.ClaimsShown.{named_grows, commit_grows, named_push, commit_push}
use Rattle.still_turns.proofs.PassesShown.{passes_set}
use Rattle.still_turns.proofs.HandsShown.{workers_after, hands_after}

-- where a pass goes on after a step
pub goes_next : (t : Turned) (over : Option PassEnd) (control : Activation) → GoesOn t V.Stepped over control →
    (over ≡ None) × (t ≡ Next control)
goes_next (Next a) over control goes = (goes.0, ap Next (sym goes.1))
goes_next (Over end) over control goes = absurd goes

-- where it is over after a step
pub goes_over : (t : Turned) (over : Option PassEnd) (control : Activation) → GoesOn t V.Over over control →
    (end : PassEnd) × (over ≡ Some end) × (t ≡ Over end)
goes_over (Next a) over control goes = absurd goes
goes_over (Over end) over control goes = (end, goes, refl)

module _ (names : Names) (code : List Method) (first : ℕ → List Value) (e new : EngineState)
    (seats : List SeatState) (held : List InHand) (run : Run) (hands : List (Option Hand)) (w : ℕ)
    (seat after : SeatState) (shows : Shows names e seats held run hands)
    (at_seat : slice_get seats w ≡ Some seat) (slot : ℕ) (hand : Hand) (goes : GoesAt seat slot hand)
    (code_is : code ≡ compiled names.setting.program) (progress : Progress)
    (made : StepMade names.setting.program code first e new seat after slot progress) where
  -- the pass before and after the step, its entry, and the box
  abbrev pub before : SeatPass
  before = made.step.advanced.pass

  abbrev pub later : SeatPass
  later = made.step.advanced.after

  abbrev pub entry : BoxEntry
  entry = made.step.entry

  abbrev pub at : ℕ
  at = before.control.box_number

  abbrev cell : CellState
  cell = made.cell

  abbrev stepped : CellState
  stepped = made.stepped

  abbrev vars : List Value
  vars = stepped.vars

  -- the pass in hand is that of the step
  same : goes.pass ≡ before
  same = same_Some goes.pass before (sym goes.there ∙ made.step.advanced.at_pass)

  pub ticket : hand.ticket ≡ before.ticket
  ticket = goes.holds.ticket ∙ ap (λ (p : SeatPass). p.ticket) same

  clock : hand.clock ≡ before.clock
  clock = goes.holds.clock ∙ ap (λ (p : SeatPass). p.clock) same

  undone : before.done ≡ None
  undone = ap (λ (p : SeatPass). p.done) (sym same) ∙ goes.holds.undone

  pub from : hand.progress ≡ P.Going before.control before.budget
  from = goes.progress ∙ ap (λ (p : SeatPass). P.Going p.control p.budget) same

  -- the box of the step
  box_is : at ≡ cell.number
  box_is = made.step.advanced.steps.box

  number_is : at ≡ made.b
  number_is = box_is ∙ made.at.number

  at_box : slice_get e.boxes at ≡ Some cell
  at_box = ap (λ (n : ℕ). slice_get e.boxes n) number_is ∙ made.at.there

  -- the pass is in its slot, and shown
  mine : IsSlot seats w slot before
  mine = record { seat = seat; there = at_seat; here = made.step.advanced.at_pass }

  pub shown : IsShown run.made before
  shown = shows.passes.each w slot before mine

  -- the claim of the entry
  abbrev claim : Claim
  claim = record { box_number = at; place = length (journal run.made at); stamp = entry.stamp }

  claims_are : later.claims ≡ before.claims ++ claim ∷ []
  claims_are =
      ap (λ (p : SeatPass). p.claims) made.step.advanced.steps.after_is
      ∙ (λ i. before.claims
      ++ record {
        box_number = sym box_is i;
        place = sym (journal_length e.boxes run.made shows.boxes at cell at_box) i;
        stamp = entry.stamp;
      } ∷ [])

  -- the record of the pass after the step
  abbrev told : PassRecord
  told = with_claim shown.pass claim

  -- the run after the step
  abbrev pub next : Run
  next = record {
    core = run.core;
    made = record run.made {
      last = with_vars run.made.last at vars;
      boxes = slice_set run.made.boxes at (journal run.made at ++ entry ∷ []);
      passes = slice_set run.made.passes hand.ticket.pass told;
    };
  }

  -- the records of the passes
  abbrev records : List PassRecord
  records = slice_set run.made.passes hand.ticket.pass told

  grows : (c : Claim) (f : Recorded) → claimed run.made c ≡ Some f → claimed next.made c ≡ Some f
  grows = claimed_grows e.boxes run.made shows.boxes at cell at_box entry vars records

  here : claimed next.made claim ≡ Some (step_of at entry)
  here = claimed_here e.boxes run.made shows.boxes at cell at_box entry vars records

  pub ticket_same : later.ticket ≡ before.ticket
  ticket_same = ap (λ (p : SeatPass). p.ticket) made.step.advanced.steps.after_is

  pub undone_still : later.done ≡ None
  undone_still = ap (λ (p : SeatPass). p.done) made.step.advanced.steps.after_is ∙ undone

  pub clock_is : later.clock ≡ entry.stamp
  clock_is = ap (λ (p : SeatPass). p.clock) made.step.advanced.steps.after_is

  pub budget_is : later.budget ≡ entry.budget_after
  budget_is = ap (λ (p : SeatPass). p.budget) made.step.advanced.steps.after_is

  -- its record is there
  record_there : slice_get run.made.passes hand.ticket.pass ≡ Some shown.pass
  record_there = ap (λ (t : Ticket). slice_get run.made.passes t.pass) ticket ∙ shown.there

  -- the pass is shown after the step
  shown_after : IsShown next.made later
  shown_after = record {
    pass = told;
    there = ap (λ (t : Ticket). slice_get records t.pass) (ticket_same ∙ sym ticket)
        ∙ set-here run.made.passes hand.ticket.pass shown.pass told record_there;
    ticket = shown.ticket ∙ sym ticket_same;
    claims = ap (λ (cs : List Claim). cs ++ claim ∷ []) shown.claims ∙ sym claims_are;
    named = subst (AreNamed next.made) (sym claims_are)
        (named_push next.made before.claims claim (step_of at entry) here
        (named_grows run.made next.made grows before.claims shown.named));
    commit = subst (λ (cs : List Claim). IsCommitSoFar next.made cs later.commit) (sym claims_are)
        (subst (IsCommitSoFar next.made (before.claims ++ claim ∷ []))
        (sym (ap (λ (p : SeatPass). p.commit) made.step.advanced.steps.after_is))
        (commit_push next.made before.claims claim (step_of at entry) here before.commit
        (commit_grows run.made next.made grows before.claims shown.named before.commit shown.commit)));
    told = subst (λ (d : Option Done). IsTold d later told) (sym undone_still) tt;
  }

  -- the passes of the seat
  pub passes_are : after.passes ≡ slice_set seat.passes slot later
  passes_are = ap (λ (s : SeatState). s.passes) made.step.advanced.new_is

  -- the pass stands in its slot still
  pub later_there : slice_get after.passes slot ≡ Some later
  later_there =
      ap (λ (ps : List SeatPass). slice_get ps slot) passes_are
      ∙ set-here seat.passes slot before later made.step.advanced.at_pass

  -- the stamp is that after both clocks
  stamp_is : entry.stamp ≡ 1 + max hand.clock (clock_of (box_stamps run.made at))
  stamp_is =
      made.step.advanced.steps.stamp
      ∙ (λ i. 1 + max (sym clock i) (sym (clock_at e.boxes run.made shows.boxes at cell at_box) i))

  -- the step is as the entry says, on the variables of the box
  gives_there : gives (compiled names.setting.program) at entry (vars_of run.made.last at) vars
  gives_there =
      subst (λ (v : List Value). gives (compiled names.setting.program) at entry v vars)
      (sym (vars_at e.boxes run.made shows.boxes at cell at_box))
      (subst (λ (n : ℕ). gives (compiled names.setting.program) n entry cell.vars vars) (sym box_is)
      (subst (λ (c : List Method). gives c cell.number entry cell.vars vars) code_is
      made.step.advanced.steps.step))

  -- the pass makes the step
  pub makes : (then : Q.Progress)
      → status_now then
      ≡ status_of (turned names.setting.program (record before.control { frame = entry.after }) entry.end)
      entry.budget_after
      → MakesStep names.setting.program run next hand.ticket hand.clock before.control before.budget
      (record { ticket = hand.ticket; clock = entry.stamp; progress = then })
  makes then is = record {
    machine = refl;
    pass = shown.pass;
    there = record_there;
    entry = entry;
    own = made.step.advanced.steps.own ∙ ap (λ (t : Ticket). t.pass) (sym ticket);
    number = made.step.advanced.steps.number
        ∙ ap (λ (cs : List Claim). length cs) (sym shown.claims);
    before = made.step.advanced.steps.before;
    budget = made.step.advanced.steps.budget_before;
    vars = vars;
    gives = gives_there;
    stamp = stamp_is;
    made = refl;
    ticket_is = refl;
    clock_is = refl;
    progress = is;
  }

  -- the engine shows the run after the step
  pub step_shown : (h then : InHand) (hand_after : Hand) → slice_get held w ≡ Some h →
      slice_get hands w ≡ Some (Some hand) → IsInHand after then (Some hand_after) →
      Shows names new (slice_set seats w after) (slice_set held w then) next
      (slice_set hands w (Some hand_after))
  step_shown h then hand_after at_held at_hand holds = record {
    first = shows.first;
    boxes = subst (λ (cs : List CellState). ShowsBoxes cs next.made)
        (sym (ap (λ (x : EngineState). x.boxes) made.engine.new_is
        ∙ ap (λ (n : ℕ). slice_set e.boxes n stepped) (sym number_is)))
        (boxes_after e.boxes run.made shows.boxes at cell at_box stepped seat.number entry vars records
        made.step.cell_is);
    sched = subst (λ (c : L.CellState). ShowsSched names.setting.scheduler c next)
        (sym (ap (λ (x : EngineState). x.sched) made.engine.new_is))
        (record {
          setting = shows.sched.setting;
          core = shows.sched.core;
          machine = shows.sched.machine;
          sched = shows.sched.sched;
        });
    going = ap (λ (x : EngineState). x.given_up) made.engine.new_is ∙ shows.going;
    workers = workers_after seats w seat after at_seat names.seats shows.workers
        (ap (λ (s : SeatState). s.number) made.step.advanced.new_is)
        (ap (λ (s : SeatState). s.torn) made.step.advanced.new_is);
    passes = passes_set seats run.made shows.passes w seat after at_seat slot before later
        made.step.advanced.at_pass passes_are ticket_same next.made told grows
        (ap (λ (t : Ticket). slice_set run.made.passes t.pass told) ticket) shown_after;
    in_hand = hands_after seats w seat after at_seat held hands h then (Some hand) (Some hand_after) shows.in_hand
        at_held at_hand holds;
  }
