use Rattle.std.proofs.Common.{◌≡◌, ℕ, ◌+◌, List, [], ◌∷◌, ◌++◌, map, length, refl, sym, subst, ap, ◌∙◌}
use Rattle.std.specs.Prelude.{max, slice_set, slice_index_or}
use Rattle.seuss_program.specs.Programs.{vars_of}
use Rattle.method_code.specs.declared.activation.Activation.{Activation}
use Rattle.method_code.specs.declared.method.Method.{Method}
use Rattle.method_code.specs.Chains.{turned}
use Rattle.loose_records.specs.declared.record.BoxEntry.{BoxEntry}
use Rattle.loose_records.specs.declared.record.Claim.{Claim}
use Rattle.loose_records.specs.Entries.{gives, journal}
use Rattle.loose_records.specs.Growing.{with_claim, claim_of, status_of}
use Rattle.loose_records.specs.Turns.{clock_of}
use Rattle.turn_runs.specs.Hands.{entry_with}
use Rattle.turn_runs.proofs.run.Run.advance.Goals as goal

pub returns-clause-step : goal.returns-clause-step
returns-clause-step c = λ p made.
    let n = c.args.at.box_number in
    let old = c.args.self.now.made in
    let pass = c.requires.pass in
    let entry : BoxEntry = c.in_ok-entry.entry in
    let stamp = c.next_stamp-stamp.result in
    let after = c.step_box.new.at in
    let left = c.step_box.new.left in
    let e : c.box_of-box_number.result ≡ n = c.box_of-box_number.ensures in
    let entries : c.entries_of-entries.result.now ≡ journal old n =
    c.entries_of-entries.ensures ∙ ap (λ (k : ℕ). slice_index_or old.boxes k []) e in
    let claims : c.claims_of.result.now ≡ pass.claims = c.claims_of.ensures pass c.requires.there in
    let is : entry ≡ entry_with c.args.ticket.pass (length c.claims_of.result.now) c.args.at.frame
    c.args.left after.frame left c.in_ok-entry.end stamp = c.in_ok-entry.ensures.entry in
    let stamp_is : entry.stamp ≡ stamp = ap (λ (x : BoxEntry). x.stamp) is in
    let claim : Claim = record
    { box_number = c.box_of-box_number.result; place = length c.entries_of-entries.result.now; stamp = stamp }
    in
    let claim_is : claim ≡ claim_of old n entry = λ i. record {
      box_number = e i;
      place = ap (λ (es : List BoxEntry). length es) entries i;
      stamp = sym stamp_is i;
    } in
    let vars = vars_of c.step_box.new.state n in
    record {
      machine = refl;
      pass = pass;
      there = c.requires.there;
      entry = entry;
      own = ap (λ (x : BoxEntry). x.pass) is;
      number = ap (λ (x : BoxEntry). x.number) is ∙ ap (λ (cs : List Claim). length cs) claims;
      before = ap (λ (x : BoxEntry). x.before) is;
      budget = ap (λ (x : BoxEntry). x.budget_before) is;
      vars = vars;
      gives = subst (λ (code : List Method). gives code n entry (vars_of old.last n) vars) made.code_is
          c.in_ok-entry.ensures.gives;
      stamp = stamp_is ∙ (c.next_stamp-stamp.ensures
          ∙ ap (λ (k : ℕ). 1 + max c.args.clock k) (c.box_clock.ensures
          ∙ ap (λ (es : List BoxEntry). clock_of (map (λ (x : BoxEntry). x.stamp) es)) entries));
      made = λ i. record {
        first = old.first;
        last = c.in_ok-entry.ensures.state i;
        boxes = (c.in_ok-push_entry.ensures ∙ ap (λ (k : ℕ). slice_set old.boxes k
            (slice_index_or old.boxes k [] ++ entry ∷ [])) e) i;
        sched = old.sched;
        passes = (c.in_ok-push_claim.ensures pass c.requires.there ∙ ap (λ (x : Claim). slice_set old.passes
            c.args.ticket.pass (with_claim pass x)) claim_is) i;
      };
      ticket_is = refl;
      clock_is = sym stamp_is;
      progress = c.in_ok-progress.ensures p made
          ∙ (ap (λ (a : Activation). status_of (turned p a c.in_ok-entry.end) left) c.in_ok-entry.ensures.at
          ∙ ap (λ (x : BoxEntry). status_of (turned p (record c.args.at { frame = x.after }) x.end)
          x.budget_after) (sym is));
    }
