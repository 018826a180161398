-- The steps of a pass in their order, whatever variables each of them finds.
use Rattle.std.proofs.Common.{◌≡◌, ℕ, suc, ◌+◌, ◌-◌, ◌*◌, ◌≤◌, ◌<◌, ℤ, inl, inr, Bool, true, false, not}
use Rattle.std.proofs.Common.{◌||◌, if◌then◌else◌, IsTrue, List, [], ◌∷◌, length, replicate, Option, None}
use Rattle.std.proofs.Common.{Some, refl, sym, ap, ◌∙◌, subst, arith, true≢false, length-append}
use Rattle.std.proofs.Common.{length-take}
use Rattle.std.specs.Prelude.{slice_get}
use Rattle.std.specs.List.{list_any}
use Rattle.std.proofs.lemmas.Option.{slice_get_within}
use Rattle.seuss_base.specs.declared.outcome.PassEnd.{PassEnd}
use Rattle.seuss_base.specs.declared.outcome.PassEnd.TheVariants as P
use Rattle.seuss_program.specs.declared.program.Program.{Program}
use Rattle.seuss_program.specs.declared.tree.Ref.{Ref}
use Rattle.seuss_program.specs.declared.tree.Form.{Form}
use Rattle.seuss_program.specs.declared.tree.Proc.{Proc}
use Rattle.seuss_program.specs.declared.program.ActionInfo.{ActionInfo}
use Rattle.seuss_program.specs.declared.state.Value.{Value}
use Rattle.seuss_program.specs.Programs.{procedure_of, level_of}
use Rattle.seuss_program.specs.Keeping.{Keeps, is_total}
use Rattle.method_code.specs.declared.frame.Frame.{Frame}
use Rattle.method_code.specs.declared.frame.End.{End}
use Rattle.method_code.specs.declared.frame.End.TheVariants as E
use Rattle.method_code.specs.declared.activation.Waiting.{Waiting}
use Rattle.method_code.specs.declared.activation.Activation.{Activation}
use Rattle.method_code.specs.Codes.{compiled}
use Rattle.method_code.specs.declared.method.Method.{Method}
use Rattle.method_code.specs.Steps.{Stepped, step, step_in, leaves}
use Rattle.method_code.specs.Chains.{begun, Turned, Next, Over, turned, calling, accepted, rejected}
use Rattle.method_code.specs.Chains.{after_accepted, last_of, all_but_last}
use Rattle.method_code.specs.Kinds.{Early, Commit, Late, kind_by, is_late, calls_early, Made, steps_on}
use Rattle.method_code.specs.Kinds.{steps_made, end_on, pass_end, kinds_of, IsInOrder, rejects_plainly}
use Rattle.method_code.specs.Kinds.{is_plain, AllIdle, IsAction}
use Rattle.method_code.proofs.LevelLemmas.{levels_few}
use Rattle.method_code.proofs.Places.{uncoded}
use Rattle.method_code.proofs.StepEnds.{Calls, RunEnds, FreshEnds}
use Rattle.method_code.proofs.Phases.{may_reject, any_form, action_rejects, partial_rejects, InCode, Waits}
use Rattle.method_code.proofs.Phases.{WaitsEarly, Each, each_push, each_get, each_take, each_as, Before}
use Rattle.method_code.proofs.Phases.{Plainly, BeginsLate, After, late_ends, before_ends, rejects_only}
use Rattle.method_code.proofs.Phases.{late_is, before_is}

-- nothing is not something
none_some : {A : Type 0} (x : A) → None ≡ Some x → ⊥
none_some x h = cc

-- what is found is one value
some_same : {A : Type 0} (x y : A) → Some x ≡ Some y → x ≡ y
some_same x y h = cc

-- one fewer waits after the last one went on
fewer_wait : (ws : List Waiting) (w : Waiting) → last_of ws ≡ Some w → length (all_but_last ws) < length ws
fewer_wait ws w h = let within = slice_get_within ws (length ws - 1) w h in
    omega (arith, within, length-take (length ws - 1) ws)

module _ (p : Program) (keeps : Keeps p) where
  -- a procedure of some form is one of any form
  any_code : (form : Form Ref → Bool) (box method : ℕ) → InCode p form box method →
      InCode p any_form box method
  any_code form box method c = record {
    number = c.number;
    of = record { procedure = c.of.procedure; there = c.of.there; is = refl };
    is_of = c.is_of;
  }

  -- a procedure that waits for a preprocedure waits
  any_waits : (w : Waiting) → WaitsEarly p w → Waits p any_form w
  any_waits w e = record
      { code = any_code may_reject w.box_number w.frame.method e.waits.code; place = e.waits.place }

  -- a late step is of a procedure that is there
  late_code : (box : ℕ) (frame : Frame) → BeginsLate p box frame → InCode p any_form box frame.method
  late_code box frame (inl b) = b.0
  late_code box frame (inr b) = any_code is_total box frame.method b.0

  -- a pass goes on after its commit step, with at most so many steps, or it is over
  abbrev TurnsLate : ℕ → ℕ → Turned → Type 0
  TurnsLate most budget (Next a) = After p a × (2 * budget + length a.waiting + 1 ≤ most)
  TurnsLate most budget (Over end) = is_plain end ≡ false

  -- a caller goes on after an accepted call, or after a rejected one
  accepted_turns : (box method : ℕ) (ws : List Waiting) (plain : Bool) (frame : Frame) (most budget : ℕ)
      (found : Option ℤ) → Each (Waits p any_form) ws → plain ≡ false → 2 * budget + length ws ≤ most →
      TurnsLate most budget
      (accepted (record { box_number = box; frame = frame; waiting = ws; plain = plain }) found
      (last_of ws))
  accepted_turns box method ws plain frame most budget found waits unplain room = by (last_of ws) refl
    where
      place_after : (w : Waiting) (found : Option ℤ) → 2 ≤ w.frame.place →
          InCode p any_form w.box_number w.frame.method →
          BeginsLate p w.box_number (after_accepted w.frame found)
      place_after w None h c = inl (c, omega (arith, h))
      place_after w (Some z) h c = inl (c, omega (arith, h))

      by : (o : Option Waiting) → last_of ws ≡ o →
          TurnsLate most budget
          (accepted (record { box_number = box; frame = frame; waiting = ws; plain = plain }) found o)
      by None e = refl
      by (Some w) e =
          let h = each_get (Waits p any_form) ws (length ws - 1) w waits e in (
            record {
              begins = place_after w found h.place h.code;
              waits =
                  each_take (Waits p any_form) (length ws - 1) ws waits;
              plain = unplain;
            },
            omega (arith, fewer_wait ws w e, room),
          )

  -- a rejection of a late step leads to late steps or the end
  rejected_turns : (box method : ℕ) (ws : List Waiting) (plain : Bool) (frame : Frame) (most budget : ℕ) →
      Each (Waits p any_form) ws → plain ≡ false → 2 * budget + length ws ≤ most →
      TurnsLate most budget
      (rejected (record { box_number = box; frame = frame; waiting = ws; plain = plain }) plain
      (last_of ws))
  rejected_turns box method ws plain frame most budget waits unplain room = by (last_of ws) refl
    where
      place_after : (w : Waiting) (b : Bool) → 2 ≤ w.frame.place → 1 ≤ (if b then 1 else w.frame.place)
      place_after w true h = omega arith
      place_after w false h = omega (arith, h)

      over_as : (b : Bool) → b ≡ false → is_plain (if b then P.PlainRejected else P.Rejected) ≡ false
      over_as true h = absurd (true≢false h)
      over_as false h = refl

      by : (o : Option Waiting) → last_of ws ≡ o →
          TurnsLate most budget
          (rejected (record { box_number = box; frame = frame; waiting = ws; plain = plain }) plain o)
      by None e = over_as plain unplain
      by (Some w) e =
          let h = each_get (Waits p any_form) ws (length ws - 1) w waits e in (
            record {
              begins = inl (h.code, place_after w w.partial h.place);
              waits =
                  each_take (Waits p any_form) (length ws - 1) ws waits;
              plain = unplain;
            },
            omega (arith, fewer_wait ws w e, room),
          )

  -- a total method is called
  called_turns : (a : Activation) (s : Stepped) (most budget target called : ℕ) (args : List Value) →
      Calls p a.box_number a.frame.method target called s → InCode p any_form a.box_number a.frame.method →
      Each (Waits p any_form) a.waiting → a.plain ≡ false → 2 * s.budget + length a.waiting + 2 ≤ most →
      TurnsLate most s.budget (Next (calling p (record a { frame = s.frame }) target called args false))
  called_turns a s most budget target called args calls c waits unplain room =
      let w : Waiting = record { box_number = a.box_number; frame = s.frame; partial = false } in (
        record {
          begins = inr (record { number = called; of = calls.total; is_of = refl }, refl);
          waits = each_push (Waits p any_form) a.waiting w waits
              (record {
                code = subst (λ m. InCode p any_form a.box_number m) (sym calls.same) c;
                place =
                    calls.place;
              });
          plain = unplain;
        },
        omega (arith, length-append a.waiting (w ∷ []), room),
      )

  -- what comes after a late step
  after_turns : (a : Activation) (s : Stepped) (budget : ℕ) (end : End) → After p a →
      RunEnds p a.box_number a.frame.method budget s end →
      TurnsLate (2 * budget + length a.waiting) s.budget (turned p (record a { frame = s.frame }) end)
  after_turns a s budget (E.Call target called args true) h r = absurd r
  after_turns a s budget (E.Call target called args false) h r =
      called_turns a s (2 * budget + length a.waiting) budget target called args r.0
      (late_code a.box_number a.frame h.begins) h.waits h.plain (omega (arith, r.1))
  after_turns a s budget (E.Returned found) h r =
      accepted_turns a.box_number 0 a.waiting a.plain s.frame (2 * budget + length a.waiting) s.budget found
      h.waits h.plain (omega (arith, r))
  after_turns a s budget E.RejectedPlain h r = absurd r
  after_turns a s budget E.Rejected h r = rejected_turns a.box_number 0 a.waiting a.plain s.frame
      (2 * budget + length a.waiting) s.budget h.waits h.plain (omega (arith, r))
  after_turns a s budget (E.Trapped t) h r = refl
  after_turns a s budget E.Spent h r = refl

  -- the steps of a pass after its commit step, with at most so many
  record LateRow (plainly : Bool) (row : List (List Value)) (most : ℕ) (steps : List Made)
      (end : Option PassEnd) : Type 0 where
    late : (n : ℕ) × (kinds_of (compiled p) steps ≡ replicate n Late)
    plain : (e : PassEnd) → end ≡ Some e → is_plain e ≡ plainly
    none : list_any (λ (s : Made). rejects_plainly s.stepped.end) steps ≡ false
    ends : most ≤ length row → (e : PassEnd) × (end ≡ Some e)

  -- a late step doesn't reject plainly
  not_plain : (box method budget : ℕ) (s : Stepped) (end : End) → RunEnds p box method budget s end →
      rejects_plainly end ≡ false
  not_plain box method budget s (E.Call target called args partial) r = refl
  not_plain box method budget s (E.Returned found) r = refl
  not_plain box method budget s E.RejectedPlain r = absurd r
  not_plain box method budget s E.Rejected r = refl
  not_plain box method budget s (E.Trapped t) r = refl
  not_plain box method budget s E.Spent r = refl

  -- one more late step
  one_late : (plainly : Bool) (row : List (List Value)) (vars : List Value) (most : ℕ) (m : Made)
      (steps : List Made) (end : Option PassEnd) →
      is_late (compiled p) m.frame ≡ true → rejects_plainly m.stepped.end ≡ false →
      LateRow plainly row most steps end → LateRow plainly (vars ∷ row) (suc most) (m ∷ steps) end
  one_late plainly row vars most m steps end late unplain r = record {
    late = (
      suc r.late.0,
      ap (λ b. kind_by b (calls_early m.stepped.end) ∷ kinds_of (compiled p) steps) late
          ∙ ap (λ ks. Late ∷ ks) r.late.1,
    );
    plain = r.plain;
    none = ap (λ b. b || list_any (λ (s : Made). rejects_plainly s.stepped.end) steps) unplain ∙ r.none;
    ends = λ enough. r.ends (omega (arith, enough));
  }

  -- where a pass goes on late, or is over, so do its steps
  late_turned : (most budget : ℕ) (row : List (List Value)) →
      ((a : Activation) → After p a → LateRow false row (2 * budget + length a.waiting + 1)
      (steps_made p row a budget) (pass_end p row a budget)) →
      (t : Turned) → TurnsLate most budget t → LateRow false row most (steps_on t budget (steps_made p row))
      (end_on t budget (pass_end p row))
  late_turned most budget row rows (Next a) h =
      let r = rows a h.0 in record {
        late = r.late;
        plain = r.plain;
        none = r.none;
        ends =
            λ enough. r.ends (omega (arith, enough, h.1));
      }
  late_turned most budget row rows (Over end) h = record {
    late = (0, refl);
    plain = λ e same. ap is_plain (sym (some_same end e same)) ∙ h;
    none = refl;
    ends = λ enough. (end, refl);
  }

  -- the steps after the commit step
  after_rows : (row : List (List Value)) (a : Activation) (budget : ℕ) → After p a →
      LateRow false row (2 * budget + length a.waiting + 1) (steps_made p row a budget)
      (pass_end p row a budget)
  after_rows [] a budget h = record {
    late = (0, refl);
    plain = λ e same. absurd (none_some e same);
    none = refl;
    ends =
        λ enough. absurd (omega (arith, enough));
  }
  after_rows (vars ∷ row) a budget h =
      let s : Stepped = step (compiled p) a.frame budget vars in
      let t : Turned = turned p (record a { frame = s.frame }) s.end in
      let e : suc (2 * budget + length a.waiting) ≡ 2 * budget + length a.waiting + 1 = omega arith in
      let ends = late_ends p keeps a.box_number a.frame budget vars h.begins in
      subst (λ n. LateRow false (vars ∷ row) n (steps_made p (vars ∷ row) a budget)
      (pass_end p (vars ∷ row) a budget)) e
      (one_late false row vars (2 * budget + length a.waiting)
      (record { box = a.box_number; frame = a.frame; budget = budget; vars = vars; stepped = s })
      (steps_on t s.budget (steps_made p row)) (end_on t s.budget (pass_end p row))
      (late_is p a.box_number a.frame h.begins) (not_plain a.box_number a.frame.method budget s s.end ends)
      (late_turned (2 * budget + length a.waiting) s.budget row (λ next k. after_rows row next s.budget k) t
      (after_turns a s budget s.end h ends)))

  -- a plain rejection goes on to the callers, or the pass is over
  abbrev TurnsPlainly : ℕ → Turned → Type 0
  TurnsPlainly most (Next a) = Plainly p a × (length a.waiting + 1 ≤ most)
  TurnsPlainly most (Over end) = is_plain end ≡ true

  -- after a plain rejection the callers reject too
  plainly_turns : (a : Activation) (plain : Bool) → Each (WaitsEarly p) a.waiting → plain ≡ true →
      TurnsPlainly (length a.waiting) (rejected a plain (last_of a.waiting))
  plainly_turns a plain waits plainly = by (last_of a.waiting) refl
    where
      over_as : (b : Bool) → b ≡ true → is_plain (if b then P.PlainRejected else P.Rejected) ≡ true
      over_as true h = refl
      over_as false h = absurd (true≢false (sym h))

      place_is : (w : Waiting) (b : Bool) → b ≡ true → (if b then 1 else w.frame.place) ≡ 1
      place_is w true h = refl
      place_is w false h = absurd (true≢false (sym h))

      by : (o : Option Waiting) → last_of a.waiting ≡ o →
          TurnsPlainly (length a.waiting) (rejected a plain o)
      by None e = over_as plain plainly
      by (Some w) e =
          let h = each_get (WaitsEarly p) a.waiting (length a.waiting - 1) w waits e in (
            record {
              code = h.waits.code;
              place = place_is w w.partial h.partial;
              waits =
                  each_take (WaitsEarly p) (length a.waiting - 1) a.waiting waits;
              plain = plainly;
            },
            omega (arith, fewer_wait a.waiting w e),
          )

  -- the steps after a plain rejection
  record PlainRow (row : List (List Value)) (most : ℕ) (steps : List Made) (end : Option PassEnd) : Type 0
    where
      late : LateRow true row most steps end
      idle : AllIdle steps

  -- what comes after such a step
  plainly_turned : (most budget : ℕ) (row : List (List Value)) →
      ((a : Activation) → Plainly p a → PlainRow row (length a.waiting + 1) (steps_made p row a budget)
      (pass_end p row a budget)) →
      (t : Turned) → TurnsPlainly most t → PlainRow row most (steps_on t budget (steps_made p row))
      (end_on t budget (pass_end p row))
  plainly_turned most budget row rows (Next a) h =
      let r = rows a h.0 in record {
        late = record {
          late = r.late.late;
          plain = r.late.plain;
          none = r.late.none;
          ends =
              λ enough. r.late.ends (omega (arith, enough, h.1));
        };
        idle = r.idle;
      }
  plainly_turned most budget row rows (Over end) h = record {
    late = record {
      late = (0, refl);
      plain = λ e same. ap is_plain (sym (some_same end e same)) ∙ h;
      none =
          refl;
      ends = λ enough. (end, refl);
    };
    idle = tt;
  }

  -- a pass after a plain rejection
  plainly_rows : (row : List (List Value)) (a : Activation) (budget : ℕ) → Plainly p a →
      PlainRow row (length a.waiting + 1) (steps_made p row a budget) (pass_end p row a budget)
  plainly_rows [] a budget h = record {
    late = record {
      late = (0, refl);
      plain = λ e same. absurd (none_some e same);
      none = refl;
      ends =
          λ enough. absurd (omega (arith, enough));
    };
    idle = tt;
  }
  plainly_rows (vars ∷ row) a budget h =
      let is : step (compiled p) a.frame budget vars ≡ leaves a.frame.method budget vars E.Rejected =
      rejects_only p a.box_number a.frame budget vars h.code h.place in
      let goal : Stepped → Type 0 = λ s.
      PlainRow (vars ∷ row) (length a.waiting + 1)
      (record { box = a.box_number; frame = a.frame; budget = budget; vars = vars; stepped = s }
      ∷ steps_on (turned p (record a { frame = s.frame }) s.end) s.budget (steps_made p row))
      (end_on (turned p (record a { frame = s.frame }) s.end) s.budget (pass_end p row)) in
      subst goal (sym is) (from_rejection (λ next k. plainly_rows row next budget k))
    where
      left : Stepped
      left = leaves a.frame.method budget vars E.Rejected

      made : Made
      made = record { box = a.box_number; frame = a.frame; budget = budget; vars = vars; stepped = left }

      t : Turned
      t = turned p (record a { frame = left.frame }) E.Rejected

      begins : BeginsLate p a.box_number a.frame
      begins = inl (any_code may_reject a.box_number a.frame.method h.code, omega (arith, h.place))

      from_rejection : ((next : Activation) → Plainly p next →
          PlainRow row (length next.waiting + 1) (steps_made p row next budget)
          (pass_end p row next budget)) →
          PlainRow (vars ∷ row) (length a.waiting + 1) (made ∷ steps_on t budget (steps_made p row))
          (end_on t budget (pass_end p row))
      from_rejection rows =
          let e : suc (length a.waiting) ≡ length a.waiting + 1 = omega arith in
          let r = plainly_turned (length a.waiting) budget row rows t
          (plainly_turns (record a { frame = left.frame }) a.plain h.waits h.plain) in
          record {
            late = subst (λ n. LateRow true (vars ∷ row) n (made ∷ steps_on t budget (steps_made p row))
                (end_on t budget (pass_end p row))) e
                (one_late true row vars (length a.waiting) made (steps_on t budget (steps_made p row))
                (end_on t budget (pass_end p row)) (late_is p a.box_number a.frame begins) refl r.late);
            idle = (refl, r.idle);
          }

  -- the steps of a pass from before its commit step on
  record WholeRow (row : List (List Value)) (most : ℕ) (steps : List Made) (end : Option PassEnd) : Type 0
    where
      order : (e : PassEnd) → end ≡ Some e → IsInOrder (kinds_of (compiled p) steps)
      plain : (e : PassEnd) → end ≡ Some e → is_plain e
          ≡ list_any (λ (s : Made). rejects_plainly s.stepped.end) steps
      idle : (e : PassEnd) → end ≡ Some e → is_plain e ≡ true → AllIdle steps
      ends : most ≤ length row → (e : PassEnd) × (end ≡ Some e)

  -- an early step, and the steps after it
  one_early : (row : List (List Value)) (vars : List Value) (most : ℕ) (m : Made) (steps : List Made)
      (end : Option PassEnd) →
      is_late (compiled p) m.frame ≡ false → calls_early m.stepped.end ≡ true →
      rejects_plainly m.stepped.end ≡ false → m.stepped.vars ≡ m.vars → WholeRow row most steps end →
      WholeRow (vars ∷ row) (suc most) (m ∷ steps) end
  one_early row vars most m steps end early calls unplain same r = record {
    order = λ e over.
        let o = r.order e over in (
          suc o.0,
          o.1,
          ap (λ b. kind_by b (calls_early m.stepped.end) ∷ kinds_of (compiled p) steps) early
              ∙ (ap (λ b. kind_by false b ∷ kinds_of (compiled p) steps) calls ∙ ap (λ ks. Early ∷ ks) o.2),
        );
    plain = λ e over. r.plain e over ∙ sym
        (ap (λ b. b || list_any (λ (s : Made). rejects_plainly s.stepped.end) steps) unplain);
    idle = λ e over plain. (same, r.idle e over plain);
    ends = λ enough. r.ends (omega (arith, enough));
  }

  -- a commit step, and the steps after it
  one_commit : (row : List (List Value)) (vars : List Value) (most : ℕ) (m : Made) (steps : List Made)
      (end : Option PassEnd) (plainly : Bool) →
      is_late (compiled p) m.frame ≡ false → calls_early m.stepped.end ≡ false →
      rejects_plainly m.stepped.end ≡ plainly → LateRow plainly row most steps end →
      (plainly ≡ true → (m.stepped.vars ≡ m.vars) × AllIdle steps) →
      WholeRow (vars ∷ row) (suc most) (m ∷ steps) end
  one_commit row vars most m steps end plainly early calls how r idle = record {
    order = λ e over. (
      0,
      r.late.0,
      ap (λ b. kind_by b (calls_early m.stepped.end) ∷ kinds_of (compiled p) steps) early
          ∙ (ap (λ b. kind_by false b ∷ kinds_of (compiled p) steps) calls
          ∙ ap (λ ks. Commit ∷ ks) r.late.1),
    );
    plain = λ e over. r.plain e over ∙ sym
        (ap (λ b. b || list_any (λ (s : Made). rejects_plainly s.stepped.end) steps) how
        ∙ (ap (λ b. plainly || b) r.none ∙ or_false plainly));
    idle = λ e over plain. idle (sym (r.plain e over) ∙ plain);
    ends = λ enough. r.ends (omega (arith, enough));
  }
    where
      or_false : (b : Bool) → b || false ≡ b
      or_false true = refl
      or_false false = refl

  -- a pass before its commit step
  before_rows : (row : List (List Value)) (a : Activation) (budget : ℕ) → Before p a →
      WholeRow row (2 * budget + length a.waiting + 2 * level_of p a.box_number + 1)
      (steps_made p row a budget) (pass_end p row a budget)
  before_rows [] a budget h = record {
    order = λ e over. absurd (none_some e over);
    plain = λ e over. absurd (none_some e over);
    idle = λ e over plain. absurd (none_some e over);
    ends = λ enough. absurd (omega (arith, enough));
  }
  before_rows (vars ∷ row) a budget h =
      let s : Stepped = step (compiled p) a.frame budget vars in
      let e : suc (2 * budget + length a.waiting + 2 * level_of p a.box_number)
      ≡ 2 * budget + length a.waiting + 2 * level_of p a.box_number + 1 = omega arith in
      subst (λ n. WholeRow (vars ∷ row) n (steps_made p (vars ∷ row) a budget)
      (pass_end p (vars ∷ row) a budget)) e
      (by s s.end refl (before_ends p keeps a budget vars h) (λ next left k. before_rows row next left k))
    where
      most : ℕ
      most = 2 * budget + length a.waiting + 2 * level_of p a.box_number

      waits : Each (Waits p any_form) a.waiting
      waits = each_as (WaitsEarly p) (Waits p any_form) any_waits a.waiting h.waits

      early : is_late (compiled p) a.frame ≡ false
      early = before_is p a h

      made : Stepped → Made
      made s = record { box = a.box_number; frame = a.frame; budget = budget; vars = vars; stepped = s }

      Goal : Stepped → End → Type 0
      Goal s end =
          WholeRow (vars ∷ row) (suc most)
          (made s ∷ steps_on (turned p (record a { frame = s.frame }) end) s.budget (steps_made p row))
          (end_on (turned p (record a { frame = s.frame }) end) s.budget (pass_end p row))

      -- where the commit step isn't a plain rejection
      commits : (s : Stepped) (end : End) → s.end ≡ end → calls_early end ≡ false →
          rejects_plainly end ≡ false → TurnsLate most s.budget
          (turned p (record a { frame = s.frame }) end) → Goal s end
      commits s end is calls unplain h =
          one_commit row vars most (made s)
          (steps_on (turned p (record a { frame = s.frame }) end) s.budget (steps_made p row))
          (end_on (turned p (record a { frame = s.frame }) end) s.budget (pass_end p row))
          false early (ap calls_early is ∙ calls) (ap rejects_plainly is ∙ unplain)
          (late_turned most s.budget row (λ next k. after_rows row next s.budget k)
          (turned p (record a { frame = s.frame }) end) h)
          (λ plain. absurd (true≢false (sym plain)))

      by : (s : Stepped) (end : End) → s.end ≡ end →
          FreshEnds p a.box_number a.frame.method budget vars s end →
          ((next : Activation) (left : ℕ) → Before p next →
          WholeRow row (2 * left + length next.waiting + 2 * level_of p next.box_number + 1)
          (steps_made p row next left) (pass_end p row next left)) →
          Goal s end
      by s (E.Call target called args true) is f rows =
          let w : Waiting = record { box_number = a.box_number; frame = s.frame; partial = true } in
          let next : Activation = calling p (record a { frame = s.frame }) target called args true in
          let same : InCode p may_reject a.box_number s.frame.method =
          subst (λ m. InCode p may_reject a.box_number m) (sym f.same) h.code in
          let before : Before p next = record {
            code = record {
              number = called;
              of =
                  record {
                    procedure = f.partial.procedure;
                    there = f.partial.there;
                    is =
                        partial_rejects f.partial.procedure.form f.partial.is;
                  };
              is_of = refl;
            };
            place = refl;
            waits = each_push (WaitsEarly p) a.waiting w h.waits
                (record { waits = record { code = same; place = f.place }; partial = refl });
            plain = h.plain;
          } in
          let r = rows next s.budget before in
          one_early row vars most (made s) (steps_made p row next s.budget) (pass_end p row next s.budget)
          early (ap calls_early is) (ap rejects_plainly is) f.idle
          (record {
            order = r.order;
            plain = r.plain;
            idle = r.idle;
            ends =
                λ enough. r.ends (omega (arith, enough, f.free, f.below, length-append a.waiting (w ∷ [])));
          })
      by s (E.Call target called args false) is f rows =
          commits s (E.Call target called args false) is refl refl
          (called_turns a s most budget target called args f.0
          (any_code may_reject a.box_number a.frame.method h.code) waits h.plain (omega (arith, f.1)))
      by s (E.Returned found) is f rows = commits s (E.Returned found) is refl refl
          (accepted_turns a.box_number 0 a.waiting a.plain s.frame most s.budget found waits h.plain
          (omega (arith, f)))
      by s E.RejectedPlain is f rows =
          let t : Turned = turned p (record a { frame = s.frame }) E.RejectedPlain in
          let turns : TurnsPlainly most t = plainly_within t
          (plainly_turns (record a { frame = s.frame }) true h.waits refl) in
          let r = plainly_turned most s.budget row (λ next k. plainly_rows row next s.budget k) t turns in
          one_commit row vars most (made s) (steps_on t s.budget (steps_made p row))
          (end_on t s.budget (pass_end p row)) true early (ap calls_early is) (ap rejects_plainly is)
          r.late (λ plain. (f.0, r.idle))
        where
          plainly_within : (t : Turned) → TurnsPlainly (length a.waiting) t → TurnsPlainly most t
          plainly_within (Next next) k = (k.0, omega (arith, k.1))
          plainly_within (Over end) k = k
      by s E.Rejected is f rows = commits s E.Rejected is refl refl
          (rejected_turns a.box_number 0 a.waiting a.plain s.frame most s.budget waits h.plain
          (omega (arith, f)))
      by s (E.Trapped t) is f rows = commits s (E.Trapped t) is refl refl refl
      by s E.Spent is f rows = commits s E.Spent is refl refl refl

-- the first activation of an action of its box
begins_before : (p : Program) (a : ActionInfo) (q : Proc Ref) →
    procedure_of p a.box_number a.procedure ≡ Some q → IsTrue (may_reject q.form) → Before p (begun p a)
begins_before p a q there form = record {
  code = record {
    number = a.procedure;
    of = record { procedure = q; there = there; is = form };
    is_of =
        refl;
  };
  place = refl;
  waits = tt;
  plain = refl;
}

-- a pass is over in time, whatever the variables are between its steps
pub soon_over : (p : Program) → Keeps p → (a : ActionInfo) (row : List (List Value)) (budget : ℕ) →
    2 * budget + 2 * level_of p a.box_number + 1 ≤ length row →
    (end : PassEnd) × (pass_end p row (begun p a) budget ≡ Some end)
soon_over p keeps a row budget enough = by (procedure_of p a.box_number a.procedure) refl
  where
    by_form : (q : Proc Ref) → procedure_of p a.box_number a.procedure ≡ Some q → (b : Bool) →
        is_total q.form ≡ b → (end : PassEnd) × (pass_end p row (begun p a) budget ≡ Some end)
    by_form q there true form =
        (after_rows p keeps row (begun p a) budget (record {
          begins = inr (
            record {
              number = a.procedure;
              of = record { procedure = q; there = there; is = form };
              is_of =
                  refl;
            },
            refl,
          );
          waits = tt;
          plain = refl;
        })).ends (omega (arith, enough))
    by_form q there false form =
        (before_rows p keeps row (begun p a) budget (begins_before p a q there (ap not form))).ends
        (omega (arith, enough))

    none_ends : (row : List (List Value)) → slice_get (compiled p) (begun p a).frame.method ≡ None →
        1 ≤ length row → pass_end p row (begun p a) budget ≡ Some P.Rejected
    none_ends [] none h = absurd (omega (arith, h))
    none_ends (vars ∷ row) none h =
        ap (λ (o : Option Method).
        let s : Stepped = step_in o (begun p a).frame budget vars in
        end_on (turned p (record (begun p a) { frame = s.frame }) s.end) s.budget (pass_end p row)) none

    by : (o : Option (Proc Ref)) → procedure_of p a.box_number a.procedure ≡ o →
        (end : PassEnd) × (pass_end p row (begun p a) budget ≡ Some end)
    by None e = (P.Rejected, none_ends row (uncoded p a.box_number a.procedure e) (omega (arith, enough)))
    by (Some q) e = by_form q e (is_total q.form) refl

-- with a budget up to 1,000,000 a pass is over after 2,000,300 steps
pub soon_over-small : (p : Program) → Keeps p → (a : ActionInfo) (row : List (List Value)) (budget : ℕ) →
    budget ≤ 1000000 → 2000300 ≤ length row →
    (end : PassEnd) × (pass_end p row (begun p a) budget ≡ Some end)
soon_over-small p keeps a row budget small many =
    let few : level_of p a.box_number ≤ 128 = levels_few p keeps a.box_number in
    soon_over p keeps a row budget (omega (arith, few, small, many))

module _ (p : Program) (keeps : Keeps p) (a : ActionInfo) (is : IsAction p a) (row : List (List Value))
    (budget : ℕ) (end : PassEnd) (over : pass_end p row (begun p a) budget ≡ Some end) where
  -- a pass begins before its commit step
  before : Before p (begun p a)
  before = begins_before p a is.procedure is.there (action_rejects is.procedure.form is.form)

  -- a finished pass has one commit step
  pub in_order : IsInOrder (kinds_of (compiled p) (steps_made p row (begun p a) budget))
  in_order = (before_rows p keeps row (begun p a) budget before).order end over

  -- a finished pass is plainly rejected where one of its steps is
  pub plain_is : is_plain end ≡ list_any (λ (s : Made). rejects_plainly s.stepped.end)
      (steps_made p row (begun p a) budget)
  plain_is = (before_rows p keeps row (begun p a) budget before).plain end over

  -- a plainly rejected pass has changed nothing
  pub plain_idle : end ≡ P.PlainRejected → AllIdle (steps_made p row (begun p a) budget)
  plain_idle plain = (before_rows p keeps row (begun p a) budget before).idle end over (ap is_plain plain)
