use Rattle.std.proofs.Common.{◌≡◌, ℕ, ◌<◌, List, [], length, slice_get, Some, sym, subst, ap, ◌∙◌}
use Rattle.std.specs.Prelude.{slice_set, slice_index_or}
use Rattle.std.proofs.lemmas.List.{get_or-set_same}
use Rattle.std.proofs.lemmas.Option.{get_or_from_slice_get}
use Rattle.seuss_program.specs.declared.state.State.{State}
use Rattle.seuss_program.specs.declared.state.Value.{Value}
use Rattle.seuss_program.specs.declared.state.Vars.{Vars}
use Rattle.seuss_program.specs.Programs.{vars_of}
use Rattle.method_code.specs.Chains.{with_vars}
use Rattle.loose_records.specs.Entries.{gives}
use Rattle.turn_runs.proofs.ListLemmas.{put_back}
use Rattle.turn_runs.proofs.recording.step_box.Goals as goal

-- what a state is after the variables of a box were taken out and put back changed
record IsPut (boxes new : List Vars) (n : ℕ) (old vars : Vars) : Type 0 where
  before : old.values ≡ vars_of (record { boxes = boxes }) n
  after : vars.values ≡ vars_of (record { boxes = new }) n
  state : ◌≡◌ {A = State} (record { boxes = new })
      (with_vars (record { boxes = boxes }) n (vars_of (record { boxes = new }) n))

is_put : (boxes mid new : List Vars) (n of : ℕ) (old none vars : Vars) → of ≡ n → n < length boxes →
    slice_get boxes of ≡ Some old → mid ≡ slice_set boxes of none → new ≡ slice_set mid of vars →
    IsPut boxes new n old vars
is_put boxes mid new n of old none vars e within at out back = record {
  before = sym (ap (λ (v : Vars). v.values) (get_or_from_slice_get boxes n old (record { values = [] })
      (subst (λ (k : ℕ). slice_get boxes k ≡ Some old) e at)));
  after = here;
  state = ap to_state whole ∙ ap (λ (vs : List Value). with_vars (record { boxes = boxes }) n vs) here;
}
  where
    to_state : List Vars → State
    to_state b = record { boxes = b }

    whole : new ≡ slice_set boxes n vars
    whole = put_back boxes mid new of none vars out back ∙ ap (λ (k : ℕ). slice_set boxes k vars) e

    here : vars.values ≡ vars_of (record { boxes = new }) n
    here = sym (ap (λ (b : List Vars). (slice_index_or b n (record { values = [] })).values) whole
        ∙ ap (λ (v : Vars). v.values) (get_or-set_same boxes n vars (record { values = [] }) within))

pub returns-clause-gives : goal.returns-clause-gives
returns-clause-gives c =
    let n = c.args.at.now.box_number in
    let put = is_put c.args.state.now.boxes c.replace-vars.new.self c.set.new.self n c.box_of-of.result
    c.replace-vars.result (record { values = c.new.result }) c.record_step.new.vars c.box_of-of.ensures
    c.requires c.replace-vars.ensures.value c.replace-vars.ensures.after c.set.ensures in
    subst (λ (v : List Value). gives c.args.code.now n c.in_ok-made.made.0 v
    (vars_of (record { boxes = c.set.new.self }) n)) put.before
    (subst (λ (w : List Value). gives c.args.code.now n c.in_ok-made.made.0 c.replace-vars.result.values w)
    put.after (c.in_ok-made.ensures.gives n))

pub returns-clause-state : goal.returns-clause-state
returns-clause-state c =
    let n = c.args.at.now.box_number in
    let put = is_put c.args.state.now.boxes c.replace-vars.new.self c.set.new.self n c.box_of-of.result
    c.replace-vars.result (record { values = c.new.result }) c.record_step.new.vars c.box_of-of.ensures
    c.requires c.replace-vars.ensures.value c.replace-vars.ensures.after c.set.ensures in
    put.state
