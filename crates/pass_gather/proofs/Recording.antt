-- The parts of an engine make a loose record.
use Rattle.std.proofs.Common.{◌≡◌, ℕ, suc, ◌<◌, List, [], ◌∷◌, map}
use Rattle.std.proofs.Common.{refl, sym, ap, ◌∙◌, subst, arith, Option, Some}
use Rattle.std.specs.Prelude.{slice_get, slice_index_or, Contains, option_map}
use Rattle.std.specs.List.{filter_map, range_with_len}
use Rattle.std.proofs.lemmas.List.{length-map}
use Rattle.seuss_base.specs.declared.outcome.PassEnd.{PassEnd}
use Rattle.seuss_program.specs.declared.state.State.{State}
use Rattle.seuss_program.specs.declared.state.Value.{Value}
use Rattle.seuss_program.specs.Programs.{vars_of}
use Rattle.method_code.specs.declared.method.Method.{Method}
use Rattle.method_code.specs.Codes.{compiled}
use Rattle.method_code.specs.Chains.{begun}
use Rattle.method_code.specs.Records.{ChainsTo, AreMade}
use Rattle.compat_scheduler.specs.declared.ticket.Ticket.{Ticket}
use Rattle.compat_scheduler.specs.Machines.{Machine}
use Rattle.compat_scheduler.specs.Runs.{started}
use Rattle.step_journal.specs.Histories.{Log, entries_of, own_entries, IsLegal}
use Rattle.loose_records.specs.declared.record.BoxEntry.{BoxEntry}
use Rattle.loose_records.specs.declared.record.SchedEntry.{SchedEntry}
use Rattle.loose_records.specs.declared.record.SchedEntry.TheVariants.{Start, Finish}
use Rattle.loose_records.specs.declared.record.Claim.{Claim}
use Rattle.loose_records.specs.declared.record.PassRecord.{PassRecord}
use Rattle.loose_records.specs.declared.record.Record.{Record}
use Rattle.loose_records.specs.Entries.{gives, step_of, AreStamps, claimed}
use Rattle.loose_records.specs.Entries.{steps_of as recorded_steps}
use Rattle.loose_records.specs.LooseRecords.{NamesEntry, IsClaimed as IsRecorded, IsPass}
use Rattle.loose_records.specs.LooseRecords.{IsLoose}
use Rattle.round_ledger.specs.Cells.{log_events}
use Rattle.pass_seats.specs.declared.pass.Done.{Done}
use Rattle.pass_seats.specs.declared.pass.SeatPass.{SeatPass}
use Rattle.pass_seats.specs.Names.{Names, AreNames}
use Rattle.pass_seats.specs.Passes.{IsSeatPass, HasDone, ComesTo, CommitsSoFar, step_at, steps_of, stamps_of}
use Rattle.pass_seats.specs.Seats.{SeatState, IsClaimed, logs_of}
use Rattle.pass_gather.specs.Given.{given_of, AreSeats, IsRecordOf, Tells, Lists}
use Rattle.pass_gather.specs.Gathers.{GathersBoxes, GathersSched, record_of}
use Rattle.pass_gather.proofs.Lists.{some_same, map_prefix, get_unmap, get_there}
use Rattle.pass_gather.proofs.Lists.{filter_map_same, same_list, contains_get, contains_prefix}
use Rattle.pass_gather.proofs.Owns.{own_first}
use Rattle.pass_gather.proofs.Counting.{started_many}
use Rattle.pass_gather.proofs.Commits.{PassLaws, commits, rises_to}
use Rattle.pass_gather.proofs.Owners.{IsGiven, given_seat, seat_given, pass_started, step_there, made_at}
use Rattle.pass_gather.proofs.Owners.{owner, whole_at}
use Rattle.pass_gather.proofs.Owners.{journal_is}

module _ (names : Names) (code : List Method) (first : ℕ → List Value) (last : State)
    (logs : List (Log BoxEntry)) (sched : Log SchedEntry) (machine : Machine) (seats : List SeatState)
    (named : AreNames names code first) (are : AreSeats names seats) (g : GathersBoxes names last logs seats)
    (h : GathersSched names sched machine seats)
    (numbers : map (λ (t : Ticket). t.pass) (started (log_events sched)) ≡ range_with_len 0 machine.starts)
    (laws : PassLaws names.setting.program) where
  -- the journals of the boxes
  abbrev boxes : List (List BoxEntry)
  boxes = map entries_of logs

  -- the record with these passes
  abbrev recorded : List PassRecord → Record
  recorded passes = record_of names.first last logs sched passes

  -- what a given pass keeps, with its seat
  record Kept (p : SeatPass) : Type 0 where
    pub given : IsGiven seats p
    pub pass : IsSeatPass names given.seat.number (logs_of given.seat.places) p

  kept : (j : ℕ) (p : SeatPass) → slice_get (given_of seats) j ≡ Some p → Kept p
  kept j p at =
      let f = given_seat seats j p at in
      record { given = f; pass = (whole_at names f.number f.seat (are.each f.number f.seat f.there)).passes f.slot p f.here }

  -- its start stands in the journal, and its ticket among the started, at its number
  started_at : (j : ℕ) (p : SeatPass) → slice_get (given_of seats) j ≡ Some p →
      Contains (entries_of sched) (Start p.ticket p.started)
      × (slice_get (started (log_events sched)) p.ticket.pass ≡ Some p.ticket)
      × (p.ticket.pass < machine.starts)
  started_at j p at = pass_started sched machine.starts p numbers (h.notes j p at) (kept j p at).pass.start

  -- the claims of a given pass name entries of the record
  claims_there : (passes : List PassRecord) (p : SeatPass) (r : PassRecord) → r.ticket ≡ p.ticket → Kept p →
      (i : ℕ) (c : Claim) → slice_get p.claims i ≡ Some c → NamesEntry (recorded passes) r i c
  claims_there passes p r same k i c at =
      let x = k.pass.claims i c at in
      record {
        entry = x.entry;
        there = step_there names last logs seats are g k.given.number c.box_number c.place
            k.given.seat.number
            k.given.seat x.entry k.given.there x.there;
        own = x.own ∙ ap (λ (t : Ticket). t.pass) (sym same);
        at = x.at;
        when = x.when;
      }

  -- they name the same steps there
  steps_same : (passes : List PassRecord) (p : SeatPass) (r : PassRecord) → r.ticket ≡ p.ticket →
      (k : Kept p) →
      steps_of (logs_of k.given.seat.places) p.claims ≡ filter_map (claimed (recorded passes)) p.claims
  steps_same passes p r same k = filter_map_same (step_at (logs_of k.given.seat.places))
      (claimed (recorded passes)) p.claims (λ i c at.
      let x = k.pass.claims i c at in
      let y = claims_there passes p r same k i c at in
      let there = step_there names last logs seats are g k.given.number c.box_number c.place
      k.given.seat.number k.given.seat x.entry k.given.there x.there in
      ap (option_map (λ (q : ℕ × BoxEntry). step_of c.box_number q.1)) x.there
      ∙ sym (ap (option_map (step_of c.box_number)) there))

  -- claims name steps that were made
  row_of : (passes : List PassRecord) (cs : List Claim) → ((i : ℕ) (c : Claim) → slice_get cs i ≡ Some c →
      (e : BoxEntry) × (slice_get (slice_index_or boxes c.box_number []) c.place ≡ Some e)) →
      (row : List (List Value)) × AreMade (compiled names.setting.program)
      (filter_map (claimed (recorded passes)) cs) row
  row_of passes [] named_entries = ([], tt)
  row_of passes (c ∷ cs) named_entries =
      let n = named_entries 0 c refl in
      let v = made_at names last logs seats are g c.box_number c.place n.0 n.1 in
      let rest = row_of passes cs (λ k. named_entries (suc k)) in
      (v.0 ∷ rest.0, rw n.1 ((v.1, v.2), rest.1))

  -- its finish stands in the journal
  finish_at : (j : ℕ) (p : SeatPass) (end : PassEnd) (d : Done) → slice_get (given_of seats) j ≡ Some p →
      own_entries p.note.maker p.note.seen ≡ Finish p.ticket end d.verdict d.stamp ∷ [] →
      Contains (entries_of sched) (Finish p.ticket end d.verdict d.stamp)
  finish_at j p end d at own =
      let e = own_first p.note.maker p.note.seen (Finish p.ticket end d.verdict d.stamp) [] own in
      contains_prefix (entries_of p.note.seen) (entries_of sched) (Finish p.ticket end d.verdict d.stamp)
      (map_prefix (λ (q : ℕ × SchedEntry). q.1) p.note.seen sched (h.notes j p at).front)
      (contains_get (entries_of p.note.seen) e.0 (Finish p.ticket end d.verdict d.stamp) e.1)

  -- the pass as it is recorded where its record is made of its own parts
  pass_itself : (passes : List PassRecord) (j : ℕ) (p : SeatPass) (d : Done) (commit : ℕ) (end : PassEnd) →
      slice_get (given_of seats) j ≡ Some p → p.over ≡ Some end → p.done ≡ Some d → p.commit ≡ Some commit →
      IsPass names.setting (recorded passes) (record {
        ticket = p.ticket;
        claims = p.claims;
        commit = commit;
        end = end;
        verdict = d.verdict;
      })
  pass_itself passes j p d commit end at over done_is commit_is =
      let r : PassRecord = record {
        ticket = p.ticket;
        claims = p.claims;
        commit = commit;
        end = end;
        verdict = d.verdict;
      } in
      let k = kept j p at in
      let logs_seen = logs_of k.given.seat.places in
      let done : HasDone (Some d) p = subst (λ (x : Option Done). HasDone x p) done_is k.pass.done in
      let end_is : done.0 ≡ end = some_same done.0 end (sym done.1 ∙ over) in
      let own : own_entries p.note.maker p.note.seen ≡ Finish p.ticket end d.verdict d.stamp ∷ [] =
      done.2 ∙ ap (λ e. Finish p.ticket e d.verdict d.stamp ∷ []) end_is in
      let chain : ChainsTo names.setting.program (begun names.setting.program k.pass.action)
      names.setting.budget (steps_of logs_seen p.claims) end =
      subst (λ (o : Option PassEnd). ComesTo names.setting.program
      (begun names.setting.program k.pass.action) names.setting.budget (steps_of logs_seen p.claims) o p)
      over
      k.pass.comes in
      let same = steps_same passes p r refl k in
      let whole : ChainsTo names.setting.program (begun names.setting.program k.pass.action)
      names.setting.budget (recorded_steps (recorded passes) r) end =
      subst (λ es. ChainsTo names.setting.program (begun names.setting.program k.pass.action)
      names.setting.budget es end) same chain in
      let so : CommitsSoFar (steps_of logs_seen p.claims) (Some commit) =
      subst (λ (o : Option ℕ). CommitsSoFar (steps_of logs_seen p.claims) o) commit_is k.pass.commit in
      let row = row_of passes p.claims (λ i c there.
      let n = claims_there passes p r refl k i c there in (n.entry, n.there)) in
      record {
        action = k.pass.action;
        there = k.pass.there;
        start = p.started;
        started = (started_at j p at).0;
        finish = d.stamp;
        finished = finish_at j p end d at own;
        rising = rises_to (p.started ∷ stamps_of p.claims) d.stamp k.pass.stamps.rising
            (omega (arith, k.pass.clock_is, done.3));
        claims = claims_there passes p r refl k;
        chain = whole;
        commit = commits names.setting.program laws p.ticket.action k.pass.action k.pass.there
            names.setting.budget (recorded_steps (recorded passes) r) row.0 end whole row.1 commit
            (subst (λ es. CommitsSoFar es (Some commit)) same so);
      }

  -- a record of a pass is made of its parts
  parts_of : (p : SeatPass) (r : PassRecord) → (t : Tells p r) → record {
    ticket = p.ticket;
    claims = p.claims;
    commit = r.commit;
    end = r.end;
    verdict = t.done.verdict;
  } ≡ r
  parts_of p r t = λ i. record {
    ticket = sym t.ticket i;
    claims = sym t.claims i;
    commit = r.commit;
    end = r.end;
    verdict = sym t.verdict i;
  }

  -- a given pass, as it is recorded
  pass_recorded : (passes : List PassRecord) (j : ℕ) (r : PassRecord) → IsRecordOf (given_of seats) j r →
      IsPass names.setting (recorded passes) r
  pass_recorded passes j r x =
      subst (λ (q : PassRecord). IsPass names.setting (recorded passes) q) (parts_of x.pass r x.tells)
      (pass_itself passes x.slot x.pass x.tells.done r.commit r.end x.there x.tells.over x.tells.done_is
      x.tells.commit)

  -- the tickets of the recorded passes are the started ones
  tickets_same : (passes : List PassRecord) → Lists (given_of seats) machine.starts passes →
      map (λ (r : PassRecord). r.ticket) passes ≡ started (log_events sched)
  tickets_same passes lists =
      same_list (map (λ (r : PassRecord). r.ticket) passes) (started (log_events sched))
      (omega (
        arith,
        length-map passes (λ (r : PassRecord). r.ticket),
        lists.many,
        started_many (started (log_events sched)) machine.starts numbers,
      ))
      (λ i t at.
      let r = get_unmap (λ (r : PassRecord). r.ticket) passes i t at in
      let e = lists.each i r.0 r.1 in
      let same : e.pass.ticket ≡ t = sym e.tells.ticket ∙ r.2 in
      let there = (started_at e.slot e.pass e.there).1 in
      subst (λ (u : Ticket). slice_get (started (log_events sched)) i ≡ Some u) same
      (subst (λ (n : ℕ). slice_get (started (log_events sched)) n ≡ Some e.pass.ticket) e.number_is there))

  -- what a pass claims its record claims
  claim_recorded : (passes : List PassRecord) →
      (k i : ℕ) (p : SeatPass) (number : ℕ) (r : PassRecord) (c : Claim) →
      slice_get (given_of seats) k ≡ Some p → (x : IsRecordOf (given_of seats) number r) →
      p.ticket.pass ≡ number → slice_get p.claims i ≡ Some c → slice_get r.claims i ≡ Some c
  claim_recorded passes k i p number r c at x pass claim =
      let place = h.apart k x.slot p x.pass at x.there (pass ∙ sym x.number_is) in
      let same : p ≡ x.pass =
      some_same p x.pass (sym at ∙ ap (λ n. slice_get (given_of seats) n) place ∙ x.there) in
      ap (λ (cs : List Claim). slice_get cs i) (x.tells.claims ∙ ap (λ (q : SeatPass). q.claims) (sym same))
      ∙ claim

  -- an entry that a seat's pass claims is claimed in the record
  entry_recorded : (passes : List PassRecord) → Lists (given_of seats) machine.starts passes →
      (b place : ℕ) (e : BoxEntry) (w : ℕ) (s : SeatState) → slice_get seats w ≡ Some s →
      IsClaimed s.passes b place e → IsRecorded (recorded passes) b place e
  entry_recorded passes lists b place e w s at x =
      let given = seat_given seats w s x.slot x.pass at x.there in
      let below = (started_at given.0 x.pass given.1).2 in
      let r = get_there passes e.pass (omega (arith, below, x.own, lists.many)) in
      record {
        pass = r.0;
        there = r.1;
        claim = x.claim;
        here = claim_recorded passes given.0 e.number x.pass e.pass r.0 x.claim given.1
            (lists.each e.pass r.0 r.1) x.own x.here;
        on = x.on;
        at = x.at;
      }

  -- each entry of a box is claimed
  entry_claimed : (passes : List PassRecord) → Lists (given_of seats) machine.starts passes →
      (b place : ℕ) (e : BoxEntry) → slice_get (slice_index_or boxes b []) place ≡ Some e →
      IsRecorded (recorded passes) b place e
  entry_claimed passes lists b place e at =
      let o = owner names last logs seats are g b place e at in
      entry_recorded passes lists b place e o.number o.seat o.there
      ((whole_at names o.number o.seat (are.each o.number o.seat o.there)).claimed b place e o.own)

  -- the parts make a loose record
  pub gathered : (passes : List PassRecord) → Lists (given_of seats) machine.starts passes →
      IsLoose names.setting (recorded passes)
  gathered passes lists = record {
    first = named.form;
    last = g.lasts ∙ named.boxes ∙ sym named.form.count;
    many = length-map logs (entries_of {E = BoxEntry}) ∙ g.many ∙ named.boxes ∙ sym named.form.count;
    legal = λ b less.
        let log = get_there logs b (omega (arith, less, length-map logs (entries_of {E = BoxEntry}))) in
        subst (λ (es : List BoxEntry). IsLegal (gives (compiled names.setting.program) b)
        (vars_of names.first b) es (vars_of last b)) (sym (journal_is names last logs seats are g b log.0
        log.1))
        (g.legal b log.0 log.1);
    stamps = λ b less.
        let log = get_there logs b (omega (arith, less, length-map logs (entries_of {E = BoxEntry}))) in
        subst (λ (es : List BoxEntry). AreStamps (map (λ (e : BoxEntry). e.stamp) es))
        (sym (journal_is names last logs seats are g b log.0 log.1)) (g.stamps b log.0 log.1);
    end = machine;
    run = h.run;
    over = h.over;
    times = h.stamps;
    tickets = tickets_same passes lists;
    passes = λ i r at. pass_recorded passes i r (lists.each i r at);
    claimed = entry_claimed passes lists;
  }
