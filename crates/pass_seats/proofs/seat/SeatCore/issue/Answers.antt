use Rattle.std.proofs.Common.{◌≡◌, ℕ, ◌+◌, ◌<◌, ◌^◌, ◌++◌, ◌∷◌, [], sym, ap, ◌∙◌, subst}
use Rattle.std.specs.Prelude.{Contains}
use Rattle.std.proofs.lemmas.List.Elements.{Contains-push}
use Rattle.compat_scheduler.specs.declared.ticket.Ticket.{Ticket}
use Rattle.step_journal.specs.declared.receipt.Receipt.{Receipt}
use Rattle.step_journal.specs.Histories.{Log}
use Rattle.step_journal.specs.Journals.{NoteState, ShareState, IsPair}
use Rattle.loose_records.specs.declared.record.SchedEntry.{SchedEntry}
use Rattle.loose_records.specs.declared.record.SchedEntry.TheVariants.{Start}
use Rattle.round_ledger.specs.Cells.{Adds, ticket_note, ticket_share}
use Rattle.pass_seats.proofs.Lists.{at_some}
use Rattle.pass_seats.proofs.Issuing.{started_there}
use Rattle.pass_seats.proofs.seat.SeatCore.issue.Goals as goal

-- what came with the ticket is as an item keeps it
pub invariant_of-result : goal.invariant_of-result
invariant_of-result g c =
    let names = g.N.EngineNames.names in
    let k = c.self.inside in
    let new = c.start.new.self in
    let i = c.in-Ok-Some in
    let t = i.ticket in
    let now = c.start.new.clock in
    let quad : Ticket × Receipt × NoteState SchedEntry × ShareState = (t, i.receipt, i.note, i.share) in
    let given = at_some (λ (x : Ticket × Receipt × NoteState SchedEntry × ShareState).
    (x.2 ≡ ticket_note new x.0) × (x.3 ≡ ticket_share new x.0)) i.field-0 quad i.field-0-is i.ensures.given in
    let adds = at_some (λ (x : Ticket × Receipt × NoteState SchedEntry × ShareState).
    Adds c.args.cell.now (Start x.0 now) k.note 0 x.1 new c.start.new.note now) i.field-0 quad i.field-0-is
    i.ensures.adds in
    let theirs = at_some (λ (x : Ticket × Receipt × NoteState SchedEntry × ShareState). IsPair x.2 x.3) i.field-0 quad
    i.field-0-is i.ensures.theirs in
    let stamp : i.receipt.stamp ≡ now = ap (λ (r : Receipt). r.stamp) adds.receipt_is in
    let log = c.args.cell.now.journal.log in
    let entry : (k.note.maker, Start t now) ≡ (k.number, Start t i.receipt.stamp) =
    λ j. (c.self.invariant.maker j, Start t (sym stamp j)) in
    let has : Contains new.journal.log (k.number, Start t i.receipt.stamp) =
    subst (λ (l : Log SchedEntry). Contains l (k.number, Start t i.receipt.stamp)) (sym adds.log)
    (subst (λ (x : ℕ × SchedEntry). Contains (log ++ (k.note.maker, Start t now) ∷ []) x) entry
    (Contains-push log (k.note.maker, Start t now))) in
    record {
      action = started_there names g.N.CellNames.code g.N.CellNames.first new k.number t i.receipt.stamp
          c.requires.named (adds.setting ∙ c.requires.sched.2) c.facts.ensures.1.run has
          c.tickets_are_lawful.ensures.attempt c.tickets_are_lawful.ensures.action;
      journal = ap (λ (n : NoteState SchedEntry). n.journal) given.0 ∙ (adds.name ∙ c.requires.sched.0);
      maker = ap (λ (n : NoteState SchedEntry). n.maker) given.0
          ∙ ap (λ (n : ℕ). n + t.pass) (adds.seats ∙ c.requires.sched.1);
      pair = theirs;
      unused = ap (λ (s : ShareState). s.count) given.1;
      fits = subst (λ (n : ℕ). n < 2 ^ 63) (sym stamp) adds.fits;
      stands = subst (λ (n : NoteState SchedEntry). Contains n.seen (k.number, Start t i.receipt.stamp)) (sym given.0)
          has;
    }
