-- The walk from an action down to all that its passes may run.
use Rattle.std.proofs.Common.{◌≡◌, ℕ, ◌+◌, ◌<◌, ◌≤◌, ◌⊎◌, inl, inr, false, get_or, List, [], ◌∷◌, length}
use Rattle.std.proofs.Common.{None, Some, refl, sym, ap, ◌∙◌, subst, arith}
use Rattle.std.specs.Prelude.{slice_get}
use Rattle.std.proofs.lemmas.Bool.{cases_lt}
use Rattle.std.proofs.lemmas.Option.{none-some, slice_get_within, slice_get_past, slice_get-get_or}
use Rattle.seuss_program.specs.declared.tree.Ref.{Ref}
use Rattle.seuss_program.specs.declared.tree.Ref.TheVariants as R
use Rattle.seuss_program.specs.declared.tree.Call.{Call}
use Rattle.seuss_program.specs.declared.tree.Proc.{Proc}
use Rattle.seuss_program.specs.declared.program.Program.{Program}
use Rattle.seuss_program.specs.declared.program.ActionInfo.{ActionInfo}
use Rattle.seuss_program.specs.Programs.{procedure_of, level_of, target_of, method_of}
use Rattle.seuss_program.specs.Keeping.{Keeps}
use Rattle.seuss_program.specs.Lines.{IsIn, InLine, Own, Early, InTail, OfLine, OfTail, body_calls}
use Rattle.seuss_program.specs.Lines.{early_calls}
use Rattle.method_code.specs.declared.instruction.Instruction.{Instruction}
use Rattle.method_code.specs.declared.instruction.Instruction.TheVariants as I
use Rattle.method_code.specs.declared.instruction.CallCode.{CallCode}
use Rattle.method_code.specs.declared.method.Method.{Method}
use Rattle.method_code.specs.declared.method.Head.{Head}
use Rattle.method_code.specs.declared.method.Entry.{Entry}
use Rattle.method_code.specs.declared.method.Entry.TheVariants as N
use Rattle.method_code.specs.Codes.{compiled, method_code, number_of, call_code, entry_of, form_code}
use Rattle.method_code.proofs.Places.{stands, coded, scope, keeps_procedure, calls_below}
use Rattle.method_code.proofs.Attempting.{named}
use Rattle.method_code.proofs.NamedCalls.{CodeOf, CallIn, CallsIn, HeadsIn, EntryIn, named_form}
use Rattle.method_code.proofs.LevelLemmas.{levels_few}
use Rattle.compat_matrix.specs.declared.part.Part.{Part}
use Rattle.compat_matrix.specs.declared.part.Part.TheVariants.{Line, Tail}
use Rattle.compat_matrix.specs.declared.member.Member.{Member}
use Rattle.compat_matrix.specs.Rule.{IsAmong}
use Rattle.compat_matrix.specs.Members.{Lists, HasEffects, Adds, IsOne, IsCalled, IsBegun, heads_of}
use Rattle.compat_matrix.specs.Members.{CodeCalls, TextCalls, InBody, InPre, IsClosed, IsOnTheWay}
use Rattle.compat_matrix.specs.Members.{AreMembers}
use Rattle.compat_matrix.proofs.Adding.{still_lists}
use Rattle.compat_matrix.proofs.MemberLemmas.{one_procedure, body_call, early_call, body_goes, early_goes}

-- an instruction, and a head, among those whose calls are of the text
called_in : (calls : List (Call Ref)) (code : List Instruction) (call : CallCode) → CallsIn calls code →
    IsIn (I.Call call) code → CodeOf calls call.target call.method
called_in calls [] call all h = elim h [ ]
called_in calls (i ∷ code) call all (inl e) = subst (λ (x : Instruction). CallIn calls x) e all.0
called_in calls (i ∷ code) call all (inr h) = called_in calls code call all.1 h

begun_in : (calls : List (Call Ref)) (heads : List Head) (head : Head) (call : CallCode) →
    HeadsIn calls heads → IsIn head heads → head.early ≡ Some call → CodeOf calls call.target call.method
begun_in calls [] head call all h early = elim h [ ]
begun_in calls (x ∷ heads) head call all (inl e) early = all.0 call (ap (λ (y : Head). y.early) e ∙ early)
begun_in calls (x ∷ heads) head call all (inr h) early = begun_in calls heads head call all.1 h early

module _ (p : Program) (keeps : Keeps p) where
  module _ (box number : ℕ) (q : Proc Ref) (there : procedure_of p box number ≡ Some q) where
    named_calls : CallsIn (body_calls q.form) (form_code q.form) × EntryIn (early_calls q.form)
        (entry_of q.form)
    named_calls =
        let at = stands p box number q there in
        named_form (scope p keeps box number q at) (λ form bind call fit. let r =
        named (scope p keeps box number q at) form bind call fit in
        (calls_below p keeps box number q at call r.0 r.1).given)
        q.form (keeps_procedure p keeps box number q at).text

    -- a call of the text, as the code makes it
    text_of : (calls : List (Call Ref)) (target method below called : ℕ) (from part : Part) →
        ((call : Call Ref) → IsIn call calls → TextCalls p box q from (target_of p box call.target)
        (method_of call.method) part) →
        CodeOf calls target method → target_of p box (R.Given target) ≡ below → method ≡ called →
        TextCalls p box q from below called part
    text_of calls target method below called from part f c e g =
        subst (λ k. TextCalls p box q from k called part) (ap (target_of p box) (c.given
        ∙ ap (λ k. R.Given k) c.target_is) ∙ e)
        (subst (λ k. TextCalls p box q from (target_of p box c.call.target) k part) (c.method_is ∙ g)
        (f c.call c.among))

    called_text : (from : Part) (below called : ℕ) (part : Part) → IsCalled p box (form_code q.form) below
        called part → TextCalls p box q from below called part
    called_text from below called part h =
        subst (λ t. TextCalls p box q from below called t) (sym h.tail)
        (text_of (body_calls q.form) h.call.target h.call.method below called from Tail
        (λ call is. InBody from call is) (called_in (body_calls q.form) (form_code q.form) h.call
        named_calls.0 h.among) h.target h.method)

    heads_in : (calls : List (Call Ref)) (e : Entry) → EntryIn calls e → HeadsIn calls (heads_of e)
    heads_in calls e h = by e h
      where
        by : (e : Entry) → EntryIn calls e → HeadsIn calls (heads_of e)
        by N.Total h = tt
        by (N.Partial hs) h = h

    begun_text : (below called : ℕ) (part : Part) → IsBegun p box (heads_of (entry_of q.form)) below called
        part → TextCalls p box q Line below called part
    begun_text below called part h =
        subst (λ t. TextCalls p box q Line below called t) (sym h.line)
        (text_of (early_calls q.form) h.call.target h.call.method below called Line Line
        (λ call is. InPre call is)
        (begun_in (early_calls q.form) (heads_of (entry_of q.form)) h.head h.call
        (heads_in (early_calls q.form) (entry_of q.form) named_calls.1) h.among h.early) h.target
        h.method)

    -- what the code calls is what the text calls
    pub code_text : (from : Part) (below called : ℕ) (part : Part) → CodeCalls p box from
        (method_code q) below called part → TextCalls p box q from below called part
    code_text Line below called part (inl h) = begun_text below called part h
    code_text Line below called part (inr h) = called_text Line below called part h
    code_text Tail below called part h = called_text Tail below called part h

    of_body : (call : Call Ref) → IsIn call (body_calls q.form) → IsCalled p box (form_code q.form)
        (target_of p box call.target) (method_of call.method) Tail
    of_body call is =
        let c = body_call p keeps box number q there call is in
        let g = body_goes p keeps box number q there call is in
        record {
          call = call_code call;
          among = c.stands;
          target = ap (target_of p box) (sym g.given);
          method = refl;
          tail = refl;
        }

    of_pre : (call : Call Ref) → IsIn call (early_calls q.form) → IsBegun p box (heads_of (entry_of q.form))
        (target_of p box call.target) (method_of call.method) Line
    of_pre call is =
        let c = early_call p keeps box number q there call is in
        let g = early_goes p keeps box number q there call is in
        record {
          head = c.head;
          call = call_code call;
          among = c.stands;
          early = c.early;
          target =
              ap (target_of p box) (sym g.given);
          method = refl;
          line = refl;
        }

    pub text_code : (from : Part) (below called : ℕ) (part : Part) → TextCalls p box q from below called
        part → CodeCalls p box from (method_code q) below called part
    text_code from below called part (InBody Line call is) = inr (of_body call is)
    text_code from below called part (InBody Tail call is) = of_body call is
    text_code from below called part (InPre call is) = inl (of_pre call is)

    -- a call goes to a box of a lower level
    pub text_below : (from : Part) (below called : ℕ) (part : Part) → TextCalls p box q from below called
        part → level_of p below < level_of p box
    text_below from below called part (InBody _ call is) =
        (body_goes p keeps box number q there call is).below
    text_below from below called part (InPre call is) =
        (early_goes p keeps box number q there call is).below

    -- and to a procedure among those of the action
    pub text_among : (a : ActionInfo) (from : Part) (below called : ℕ) (part : Part) →
        IsAmong p a box number from → TextCalls p box q from below called part →
        IsAmong p a below called part
    text_among a from below called part among (InBody Line call is) =
        OfLine box number q call among there is
    text_among a from below called part among (InBody Tail call is) =
        OfTail box number q call among there is
    text_among a from below called part among (InPre call is) = Early box number q call among there is

  module _ (a : ActionInfo) where
    -- one member more is gone through
    module _ (ms new : List Member) (x : Member) (at end round : ℕ) (there : slice_get ms at ≡ Some x)
        (less : at < end) (way : IsOnTheWay p a ms at end round)
        (q : Proc Ref) (q_there : procedure_of p x.box_number x.procedure ≡ Some q) (adds : Adds p ms new
        (CodeCalls p x.box_number x.part (method_code q))) where
      low : level_of p x.box_number + round ≤ 128
      low = way.near at x (omega arith) there

      text : (m : Member) → CodeCalls p x.box_number x.part (method_code q) m.box_number m.procedure
          m.part → TextCalls p x.box_number q x.part m.box_number m.procedure m.part
      text m h = code_text x.box_number x.procedure q q_there x.part m.box_number m.procedure m.part h

      falls : (m : Member) → CodeCalls p x.box_number x.part (method_code q) m.box_number m.procedure
          m.part → level_of p m.box_number < level_of p x.box_number
      falls m h = text_below x.box_number x.procedure q q_there x.part m.box_number m.procedure m.part
          (text m h)

      abbrev Added : ℕ → Member → Type 0
      Added k m = (slice_get ms k ≡ Some m) ⊎ (HasEffects p m × CodeCalls p x.box_number x.part
          (method_code q) m.box_number m.procedure m.part)

      sound : (k : ℕ) (m : Member) → Added k m → HasEffects p m × IsAmong p a m.box_number m.procedure
          m.part
      sound k m (inl h) = way.sound k m h
      sound k m (inr h) = (
        h.0,
        text_among x.box_number x.procedure q q_there a x.part m.box_number
            m.procedure m.part (way.sound at x there).1 (text m h.1),
      )

      near : (k : ℕ) (m : Member) → at + 1 ≤ k → Added k m → level_of p m.box_number + round ≤ 128
      near k m above (inl h) = way.near k m (omega (arith, above)) h
      near k m above (inr h) = let l = falls m h.1 in omega (arith, l, low)

      far : (k : ℕ) (m : Member) → end ≤ k → Added k m → level_of p m.box_number + round < 128
      far k m above (inl h) = way.far k m above h
      far k m above (inr h) = let l = falls m h.1 in omega (arith, l, low)

      same_some : (m n : Member) → Some m ≡ Some n → m ≡ n
      same_some m n e = cc

      still : (m : Member) → IsClosed p ms m → IsClosed p new m
      still m h = record {
        calls = λ q' is below number part r calls found. still_lists p ms new adds.kept
            below number part (h.calls q' is below number part r calls found);
      }

      closed_here : IsClosed p new x
      closed_here = record {
        calls = λ q' is below number part r calls found.
            adds.all below number part r
            (subst (λ (y : Proc Ref). CodeCalls p x.box_number x.part (method_code y) below number part)
            (one_procedure (procedure_of p x.box_number x.procedure) q' q is q_there)
            (text_code x.box_number x.procedure q' is x.part below number part calls)) found;
      }

      closed : (k : ℕ) (m : Member) → k < at + 1 → slice_get new k ≡ Some m → (k < at) ⊎ (at ≤ k) →
          IsClosed p new m
      closed k m less' h (inl before) =
          let within : k < length ms = omega (arith, before, slice_get_within ms at x there) in
          let old : slice_get ms k ≡ Some (get_or ms k m) = slice_get-get_or ms k m within in
          let same : get_or ms k m ≡ m = same_some (get_or ms k m) m (sym (adds.kept k (get_or ms k m) old)
          ∙ h) in
          still m (way.closed k m before (old ∙ ap (λ (y : Member). Some y) same))
      closed k m less' h (inr after) =
          let here : k ≡ at = omega (arith, less', after) in
          let same : x ≡ m = same_some x m (sym (adds.kept at x there) ∙ (ap (slice_get new) (sym here)
          ∙ h)) in
          subst (λ (y : Member). IsClosed p new y) same closed_here

      way_one : IsOnTheWay p a new (at + 1) end round
      way_one = record {
        sound = λ k m h. sound k m (adds.added k m h);
        own = λ r h. still_lists p ms new adds.kept a.box_number a.procedure Line (way.own r h);
        closed = λ k m before h. closed k m before h (cases_lt k at);
        near = λ k m above h. near k m above (adds.added k m h);
        far = λ k m above h. far k m above (adds.added k m h);
      }

    module _ (code : List Method) (ms : List Member) (at end round number : ℕ) (x : Member)
        (is : code ≡ compiled p) (there : slice_get ms at ≡ Some x)
        (numbered : number ≡ number_of p x.box_number x.procedure)
        (less : at < end) (way : IsOnTheWay p a ms at end round) where
      abbrev its : Proc Ref
      its = (way.sound at x there).0.procedure

      its_code : slice_get code number ≡ Some (method_code its)
      its_code = ap (slice_get code) numbered
          ∙ (ap (λ c. slice_get c (number_of p x.box_number x.procedure)) is
          ∙ coded p x.box_number x.procedure its (way.sound at x there).0.there)

      same_method : (m n : Method) → Some m ≡ Some n → m ≡ n
      same_method m n e = cc

      pub way_some : (new : List Member) (m : Method) → slice_get code number ≡ Some m → Adds p ms new
          (CodeCalls p x.box_number x.part m) → IsOnTheWay p a new (at + 1) end round
      way_some new m found adds =
          way_one ms new x at end round there less way its (way.sound at x there).0.there
          (subst (λ (y : Method). Adds p ms new (CodeCalls p x.box_number x.part y))
          (same_method m (method_code its) (sym found ∙ its_code)) adds)

      pub way_none : (new : List Member) → slice_get code number ≡ None → IsOnTheWay p a new
          (at + 1) end round
      way_none new found = absurd (none-some (method_code its) (sym found ∙ its_code))

    -- the next round begins
    pub way_next : (ms : List Member) (end round : ℕ) → IsOnTheWay p a ms end end round →
        IsOnTheWay p a ms end (length ms) (round + 1)
    way_next ms end round way = record {
      sound = way.sound;
      own = way.own;
      closed = way.closed;
      near = λ k m above h. let l = way.far k m above h in omega (arith, l);
      far = λ k m above h. absurd (none-some m (sym (slice_get_past ms k above) ∙ h));
    }

    -- the walk begins with the action
    pub way_begins : (ms : List Member) → Adds p [] ms (IsOne a.box_number a.procedure Line) →
        IsOnTheWay p a ms 0 (length ms) 0
    way_begins ms adds = record {
      sound = λ k m h. sound k m (adds.added k m h);
      own = λ q there. adds.all a.box_number a.procedure Line q (record {
        same_box = refl;
        same_number =
            refl;
        same_part = refl;
      }) there;
      closed = λ k m before h. absurd (omega (arith, before));
      near = λ k m above h. let few = levels_few p keeps m.box_number in omega (arith, few);
      far = λ k m above h. absurd (none-some m (sym (slice_get_past ms k above) ∙ h));
    }
      where
        placed : (box number : ℕ) (part : Part) → IsOne a.box_number a.procedure Line box number part →
            IsAmong p a box number part
        placed box number part is =
            subst (λ t. IsAmong p a box number t) is.same_part (subst (λ b. IsAmong p a b number Line)
            is.same_box (subst (λ n. IsAmong p a a.box_number n Line) is.same_number Own))

        sound : (k : ℕ) (m : Member) → (slice_get [] k ≡ Some m) ⊎
            (HasEffects p m × IsOne a.box_number a.procedure Line m.box_number m.procedure m.part) →
            HasEffects p m × IsAmong p a m.box_number m.procedure m.part
        sound k m (inl h) = absurd (none-some m h)
        sound k m (inr h) = (h.0, placed m.box_number m.procedure m.part h.1)

    -- after all rounds each member has what it calls in the list
    module _ (ms : List Member) (start end round : ℕ) (over : 128 < round)
        (way : IsOnTheWay p a ms start end round) where
      all_closed : (k : ℕ) (m : Member) → slice_get ms k ≡ Some m → IsClosed p ms m
      all_closed k m h = by (cases_lt k start)
        where
          by : (k < start) ⊎ (start ≤ k) → IsClosed p ms m
          by (inl before) = way.closed k m before h
          by (inr after) = let l = way.near k m after h in absurd (omega (arith, l, over))

      -- what a listed procedure calls is listed
      next_listed : (box number : ℕ) (part : Part) (q : Proc Ref) → Lists ms box number part →
          procedure_of p box number ≡ Some q → (below called : ℕ) (other : Part) (r : Proc Ref) →
          TextCalls p box q part below called other → procedure_of p below called ≡ Some r →
          Lists ms below called other
      next_listed box number part q h there below called other r calls found =
          (all_closed h.at h.member h.there).calls q (ap (λ b. procedure_of p b h.member.procedure)
          h.is.same_box ∙ (ap (λ n. procedure_of p box n) h.is.same_number ∙ there)) below called other
          r
          (subst (λ b. TextCalls p b q h.member.part below called other) (sym h.is.same_box)
          (subst (λ t. TextCalls p box q t below called other) (sym h.is.same_part) calls)) found

      line_listed : (box number : ℕ) → InLine p a box number → (q : Proc Ref) →
          procedure_of p box number ≡ Some q → Lists ms box number Line
      line_listed box number Own q there = way.own q there
      line_listed box number (Early above place r call l at is) q there =
          next_listed above place Line r (line_listed above place l r at) at (target_of p above call.target)
          (method_of call.method) Line q (InPre call is) there

      tail_listed : (box number : ℕ) → InTail p a box number → (q : Proc Ref) →
          procedure_of p box number ≡ Some q → Lists ms box number Tail
      tail_listed box number (OfLine above place r call l at is) q there =
          next_listed above place Line r (line_listed above place l r at) at (target_of p above call.target)
          (method_of call.method) Tail q (InBody Line call is) there
      tail_listed box number (OfTail above place r call l at is) q there =
          next_listed above place Tail r (tail_listed above place l r at) at (target_of p above call.target)
          (method_of call.method) Tail q (InBody Tail call is) there

      among_listed : (box number : ℕ) (part : Part) (q : Proc Ref) → IsAmong p a box number part →
          procedure_of p box number ≡ Some q → Lists ms box number part
      among_listed box number Line q among there = line_listed box number among q there
      among_listed box number Tail q among there = tail_listed box number among q there

      pub way_ends : AreMembers p a ms
      way_ends = record { sound = way.sound; whole = among_listed }

-- what the code reads past the end of a list of members
abbrev pub no_member : Member
no_member = record {
  box_number = 0;
  procedure = 0;
  part = Line;
  effects = record {
    tests = 0;
    reads = 0;
    writes = 0;
    has_early = false;
    has_late = false;
    single =
        false;
  };
}

-- the member that a slice of the list has at a place
pub member_at : (xs ms : List Member) (at : ℕ) → xs ≡ ms → at < length ms → slice_get ms at ≡ Some
    (get_or xs at no_member)
member_at xs ms at e less = let h : at < length xs = omega (arith, ap length e, less) in
    ap (λ ys. slice_get ys at) (sym e) ∙ slice_get-get_or xs at no_member h
