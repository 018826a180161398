use Rattle.std.proofs.Common.{◌≡◌, ℕ, ◌+◌, ◌<◌, List, length, Some, refl, sym, subst, ap, ◌∙◌, arith}
use Rattle.std.proofs.Common.{slice_get}
use Rattle.std.specs.Prelude.{slice_set, Option, ◌^◌, ◌-◌}
use Rattle.compat_scheduler.specs.Settings.{Setting, one_slot_each}
use Rattle.compat_scheduler.specs.Machines.{beginning}
use Rattle.turn_runs.specs.declared.hand.Hand.{Hand}
use Rattle.turn_runs.specs.RunStates.{HasTurned, turning_of}
use Rattle.loose_records.specs.Settings.{setting_of}
use Rattle.turn_runs.proofs.SettingsOfTurns.{is_setting}
use Rattle.turn_runs.proofs.turning.run_by_turns.Goals as goal

pub loop-turn-init : goal.loop-turn-init
loop-turn-init c =
    let set : c.in_ok-core.core.setting
    ≡ one_slot_each c.args.rows (length c.args.program.now.actions) c.args.rounds =
    c.in_ok-core.ensures.setting
    ∙ ap (λ (n : ℕ). one_slot_each c.args.rows n c.args.rounds) c.len-actions.ensures in
    c.turns_go_on.ensures.begins
    (setting_of c.args.program.now c.args.rows c.args.rounds c.args.budget) c.args.state c.args.width
    c.args.digits.now (record { core = c.in_ok-core.core; made = c.in_ok-made.made }) c.in_ok-hands.hands
    c.requires.form set (c.in_ok-core.ensures.machine ∙ ap (λ (x : Setting). beginning x) set)
    c.in_ok-made.ensures c.in_ok-hands.ensures

pub returns-then-over : goal.returns-then-over
returns-then-over c =
    let s = setting_of c.args.program.now c.args.rows c.args.rounds c.args.budget in
    let h = c.loop-turn.invariant in
    record {
      made = record {
        turns = c.loop-turn.turn;
        end = turning_of c.loop-turn.run c.loop-turn.hands h.statuses;
        made = h.made;
        over = (c.is_over-over.ensures s (sym h.setting)).0 c.if-over.true;
        is = refl;
      };
    }

pub turn_of-requires-clause-may : goal.turn_of-requires-clause-may
turn_of-requires-clause-may c = λ hand at.
    c.turns_go_on.ensures.may
    (setting_of c.args.program.now c.args.rows c.args.rounds c.args.budget) c.args.state c.args.width
    c.args.digits.now c.loop-turn.turn c.loop-turn.run c.loop-turn.hands c.worker_of-worker.result hand
    (is_setting c.args.program.now c.args.rows c.args.rounds c.args.budget c.requires.keeps
    c.requires.small c.requires.few) c.requires.form c.loop-turn.invariant at

pub loop-turn-preserved : goal.loop-turn-preserved
loop-turn-preserved c =
    let s = setting_of c.args.program.now c.args.rows c.args.rounds c.args.budget in
    let h = c.loop-turn.invariant in
    let t = c.in_ok-turn_of.ensures.turn c.args.program.now c.requires.made in
    let value = c.worker_of-worker.ensures.value in
    let next = c.turns_go_on.ensures.turn s c.args.state c.args.width c.args.digits.now c.loop-turn.turn
    c.loop-turn.run c.turn_of.new.self c.loop-turn.hands t.0 t.1
    (is_setting c.args.program.now c.args.rows c.args.rounds c.args.budget c.requires.keeps
    c.requires.small c.requires.few) c.requires.workers c.requires.form h
    (λ over. let a = (c.is_over-over.ensures s (sym h.setting)).1 over in let b = c.if-over.false in
    cc (a, b))
    (subst (λ (k : ℕ). slice_get c.loop-turn.hands k ≡ Some t.0) value t.2) t.4
    c.in_ok-turn_of.ensures.setting in
    subst (λ (hands : List (Option Hand)). HasTurned s c.args.state c.args.width c.args.digits.now
    (c.loop-turn.turn + 1) c.turn_of.new.self hands)
    (sym (t.3 ∙ ap (λ (k : ℕ). slice_set c.loop-turn.hands k t.1) value)) next

pub unreachable-requires : goal.unreachable-requires
unreachable-requires c =
    let short : length c.args.digits.now < 2 ^ 63 = omega arith in
    let low : c.loop-turn.turn < 2 ^ 64 - 1 = c.turns_go_on.ensures.end
    (setting_of c.args.program.now c.args.rows c.args.rounds c.args.budget) c.args.state c.args.width
    c.args.digits.now c.loop-turn.turn c.loop-turn.run c.loop-turn.hands
    (is_setting c.args.program.now c.args.rows c.args.rounds c.args.budget c.requires.keeps
    c.requires.small c.requires.few) c.requires.narrow short c.loop-turn.invariant in
    let past = c.loop-turn-test.false in
    omega (arith, low, past)
