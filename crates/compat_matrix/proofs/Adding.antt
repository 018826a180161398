-- Members that a list gets.
use Rattle.std.proofs.Common.{◌≡◌, ℕ, zero, suc, ◌+◌, ◌^◌, ◌<◌, ◌⊎◌, inl, inr, take, get_or, List, [], ◌∷◌}
use Rattle.std.proofs.Common.{◌++◌, length, Option, None, Some, refl, sym, ap, ◌∙◌, subst, arith}
use Rattle.std.proofs.Common.{length-append}
use Rattle.std.specs.Prelude.{slice_get}
use Rattle.std.proofs.lemmas.List.{take_more}
use Rattle.std.proofs.lemmas.Option.{none-some}
use Rattle.seuss_program.specs.declared.tree.Ref.{Ref}
use Rattle.seuss_program.specs.declared.tree.Proc.{Proc}
use Rattle.seuss_program.specs.declared.program.Program.{Program}
use Rattle.seuss_program.specs.Programs.{procedure_of}
use Rattle.effect_sets.specs.declared.sets.Effects.{Effects}
use Rattle.effect_sets.specs.Effects.{IsEffects}
use Rattle.compat_matrix.specs.declared.part.Part.{Part}
use Rattle.compat_matrix.specs.declared.member.Member.{Member}
use Rattle.seuss_program.specs.declared.tree.Ref.TheVariants as R
use Rattle.seuss_program.specs.Programs.{target_of}
use Rattle.seuss_program.specs.Lines.{IsIn}
use Rattle.method_code.specs.declared.instruction.Instruction.{Instruction}
use Rattle.method_code.specs.declared.instruction.Instruction.TheVariants as I
use Rattle.method_code.specs.declared.instruction.CallCode.{CallCode}
use Rattle.method_code.specs.declared.method.Head.{Head}
use Rattle.compat_matrix.specs.declared.part.Part.TheVariants.{Line, Tail}
use Rattle.compat_matrix.proofs.TextCalls.{in_left, in_right, in_either}
use Rattle.compat_matrix.specs.Members.{IsCalled, IsBegun, heads_of, CodeCalls, Lists, HasEffects}
use Rattle.compat_matrix.specs.Members.{FindsEffects, Adds, IsOne}
use Rattle.method_code.specs.declared.method.Method.{Method}
use Rattle.method_code.specs.Codes.{compiled, method_code, number_of}
use Rattle.method_code.proofs.Places.{coded, uncoded}

get_front : {A : Type 0} (xs ys : List A) (n : ℕ) (x : A) → slice_get xs n ≡ Some x →
    slice_get (xs ++ ys) n ≡ Some x
get_front [] ys n x h = absurd (none-some x h)
get_front (y ∷ xs) ys zero x h = h
get_front (y ∷ xs) ys (suc n) x h = get_front xs ys n x h

get_last : {A : Type 0} (xs : List A) (y : A) → slice_get (xs ++ (y ∷ [])) (length xs) ≡ Some y
get_last [] y = refl
get_last (x ∷ xs) y = get_last xs y

-- an item of a list with one more at its end is of the list, or that one
get_either : {A : Type 0} (xs : List A) (y : A) (n : ℕ) (x : A) → slice_get (xs ++ (y ∷ [])) n ≡ Some x →
    (slice_get xs n ≡ Some x) ⊎ (y ≡ x)
get_either [] y zero x h = inr cc
get_either [] y (suc n) x h = absurd (none-some x h)
get_either (z ∷ xs) y zero x h = inl h
get_either (z ∷ xs) y (suc n) x h = get_either xs y n x h

module _ (p : Program) where
  -- a list that grows keeps what it lists
  pub still_lists : (old new : List Member) → ((at : ℕ) (m : Member) → slice_get old at ≡ Some m →
      slice_get new at ≡ Some m) →
      (box number : ℕ) (part : Part) → Lists old box number part → Lists new box number part
  still_lists old new kept box number part h = record {
    at = h.at;
    member = h.member;
    there =
        kept h.at h.member h.there;
    is = h.is;
  }

  -- nothing is to be added: what is wanted is listed, or isn't there
  pub adds_nothing : (ms : List Member) (Is : ℕ → ℕ → Part → Type 0) →
      ((box number : ℕ) (part : Part) (q : Proc Ref) → Is box number part → procedure_of p box number ≡ Some
      q → Lists ms box number part) → Adds p ms ms Is
  adds_nothing ms Is all = record {
    longer = omega arith;
    kept = λ at m h. h;
    added = λ at m h. inl h;
    all =
        all;
  }

  -- one list of procedures after another one
  pub adds_then : (old mid new : List Member) (First Second Both : ℕ → ℕ → Part → Type 0) →
      Adds p old mid First → Adds p mid new Second →
      ((box number : ℕ) (part : Part) → Both box number part → First box number part ⊎ Second box number
      part) →
      ((box number : ℕ) (part : Part) → First box number part → Both box number part) →
      ((box number : ℕ) (part : Part) → Second box number part → Both box number part) → Adds p old new Both
  adds_then old mid new First Second Both a b split left right = record {
    longer = omega (arith, a.longer, b.longer);
    kept = λ at m h. b.kept at m (a.kept at m h);
    added = λ at m h. added at m (b.added at m h);
    all = λ box number part q is there. all box number part q there (split box number part is);
  }
    where
      first : (at : ℕ) (m : Member) → (slice_get old at ≡ Some m) ⊎
          (HasEffects p m × First m.box_number m.procedure m.part) → (slice_get old at ≡ Some m) ⊎
          (HasEffects p m × Both m.box_number m.procedure m.part)
      first at m (inl h) = inl h
      first at m (inr h) = inr (h.0, left m.box_number m.procedure m.part h.1)

      added : (at : ℕ) (m : Member) → (slice_get mid at ≡ Some m) ⊎
          (HasEffects p m × Second m.box_number m.procedure m.part) → (slice_get old at ≡ Some m) ⊎
          (HasEffects p m × Both m.box_number m.procedure m.part)
      added at m (inl h) = first at m (a.added at m h)
      added at m (inr h) = inr (h.0, right m.box_number m.procedure m.part h.1)

      all : (box number : ℕ) (part : Part) (q : Proc Ref) → procedure_of p box number ≡ Some q →
          First box number part ⊎ Second box number part → Lists new box number part
      all box number part q there (inl is) = still_lists mid new b.kept box number part
          (a.all box number part q is there)
      all box number part q there (inr is) = b.all box number part q is there

  -- the same procedures, in other words
  pub adds_same : (old new : List Member) (First Both : ℕ → ℕ → Part → Type 0) → Adds p old new First →
      ((box number : ℕ) (part : Part) → Both box number part → First box number part) →
      ((box number : ℕ) (part : Part) → First box number part → Both box number part) → Adds p old new Both
  adds_same old new First Both a back on = record {
    longer = a.longer;
    kept = a.kept;
    added = λ at m h. first at m (a.added at m h);
    all = λ box number part q is there. a.all box number part q (back box number part is) there;
  }
    where
      first : (at : ℕ) (m : Member) → (slice_get old at ≡ Some m) ⊎
          (HasEffects p m × First m.box_number m.procedure m.part) → (slice_get old at ≡ Some m) ⊎
          (HasEffects p m × Both m.box_number m.procedure m.part)
      first at m (inl h) = inl h
      first at m (inr h) = inr (h.0, on m.box_number m.procedure m.part h.1)

  pub adds_listed : (ms : List Member) (box number : ℕ) (part : Part) → Lists ms box number part →
      Adds p ms ms (IsOne box number part)
  adds_listed ms box number part h = adds_nothing ms (IsOne box number part)
      (λ below other part' q is there. record {
        at = h.at;
        member = h.member;
        there = h.there;
        is = record {
          same_box = h.is.same_box ∙ is.same_box;
          same_number = h.is.same_number ∙ is.same_number;
          same_part = h.is.same_part ∙ is.same_part;
        };
      })

  pub adds_missing : (ms : List Member) (box number : ℕ) (part : Part) → procedure_of p box number ≡ None →
      Adds p ms ms (IsOne box number part)
  adds_missing ms box number part none = adds_nothing ms (IsOne box number part)
      (λ below other part' q is there.
      absurd (none-some q (sym none ∙ (ap (λ b. procedure_of p b number) is.same_box
      ∙ (ap (λ k. procedure_of p below k) is.same_number ∙ there)))))

  pub adds_pushed : (ms : List Member) (m : Member) → HasEffects p m → Adds p ms (ms ++ (m ∷ []))
      (IsOne m.box_number m.procedure m.part)
  adds_pushed ms m has = record {
    longer = omega (arith, length-append ms (m ∷ []));
    kept = λ at x h. get_front ms (m ∷ []) at x h;
    added = λ at x h. by at x (get_either ms m at x h);
    all = λ box number part q is there. record {
      at = length ms;
      member = m;
      there = get_last ms m;
      is =
          record { same_box = is.same_box; same_number = is.same_number; same_part = is.same_part };
    };
  }
    where
      by : (at : ℕ) (x : Member) → (slice_get ms at ≡ Some x) ⊎ (m ≡ x) → (slice_get ms at ≡ Some x) ⊎
          (HasEffects p x × IsOne m.box_number m.procedure m.part x.box_number x.procedure x.part)
      by at x (inl h) = inl h
      by at x (inr e) = inr (subst (λ (y : Member). HasEffects p y × IsOne m.box_number m.procedure m.part
          y.box_number y.procedure y.part) e (
            has,
            record {
              same_box = refl;
              same_number = refl;
              same_part =
                  refl;
            },
          ))

  -- the effects of what the code has at the number of a procedure
  module _ (box number : ℕ) (code : List Method) (at : ℕ) (is : code ≡ compiled p)
      (same : at ≡ number_of p box number) where
    code_at : slice_get (compiled p) (number_of p box number) ≡ slice_get code at
    code_at = ap (slice_get (compiled p)) (sym same) ∙ ap (λ ms. slice_get ms at) (sym is)

    pub none_found : slice_get code at ≡ None → FindsEffects p box number None
    none_found h = by (procedure_of p box number) refl
      where
        by : (o : Option (Proc Ref)) → procedure_of p box number ≡ o → procedure_of p box number ≡ None
        by None e = e
        by (Some q) e = absurd (none-some (method_code q) (sym (code_at ∙ h) ∙ coded p box number q e))

    pub some_found : (m : Method) (e : Effects) → slice_get code at ≡ Some m →
        ((q : Proc Ref) → slice_get code at ≡ Some (method_code q) → IsEffects q e) → e.writes < 2 ^ 32 →
        FindsEffects p box number (Some e)
    some_found m e h exact small = by (procedure_of p box number) refl
      where
        by : (o : Option (Proc Ref)) → procedure_of p box number ≡ o → FindsEffects p box number (Some e)
        by None is = absurd (none-some m (sym (uncoded p box number is) ∙ (code_at ∙ h)))
        by (Some q) is = (q, is, exact q (sym code_at ∙ coded p box number q is), small)

  -- the calls of one instruction more
  pub called_more : (box : ℕ) (before : List Instruction) (i : Instruction) (old mid new : List Member) →
      Adds p old mid (IsCalled p box before) → Adds p mid new (IsCalled p box (i ∷ [])) → Adds p old new
      (IsCalled p box (before ++ (i ∷ [])))
  called_more box before i old mid new a b = adds_then old mid new (IsCalled p box before)
      (IsCalled p box (i ∷ [])) (IsCalled p box (before ++ (i ∷ []))) a b
      (λ below number part h. split below number part h (in_either (I.Call h.call) before (i ∷ []) h.among))
      (λ below number part h. record {
        call = h.call;
        among = in_left (I.Call h.call) before
            (i ∷ []) h.among;
        target = h.target;
        method = h.method;
        tail = h.tail;
      })
      (λ below number part h. record {
        call = h.call;
        among = in_right (I.Call h.call) before
            (i ∷ []) h.among;
        target = h.target;
        method = h.method;
        tail = h.tail;
      })
    where
      split : (below number : ℕ) (part : Part) (h : IsCalled p box (before ++ (i ∷ [])) below number part) →
          IsIn (I.Call h.call) before ⊎ IsIn (I.Call h.call) (i ∷ []) →
          IsCalled p box before below number part ⊎ IsCalled p box (i ∷ []) below number part
      split below number part h (inl is) = inl (record {
        call = h.call;
        among = is;
        target =
            h.target;
        method = h.method;
        tail = h.tail;
      })
      split below number part h (inr is) = inr (record {
        call = h.call;
        among = is;
        target =
            h.target;
        method = h.method;
        tail = h.tail;
      })

  -- the preprocedures of one head more
  pub begun_more : (box : ℕ) (before : List Head) (i : Head) (old mid new : List Member) →
      Adds p old mid (IsBegun p box before) → Adds p mid new (IsBegun p box (i ∷ [])) → Adds p old new
      (IsBegun p box (before ++ (i ∷ [])))
  begun_more box before i old mid new a b = adds_then old mid new (IsBegun p box before)
      (IsBegun p box (i ∷ [])) (IsBegun p box (before ++ (i ∷ []))) a b
      (λ below number part h. split below number part h (in_either h.head before (i ∷ []) h.among))
      (λ below number part h. record {
        head = h.head;
        call = h.call;
        among = in_left h.head before
            (i ∷ []) h.among;
        early = h.early;
        target = h.target;
        method = h.method;
        line = h.line;
      })
      (λ below number part h. record {
        head = h.head;
        call = h.call;
        among = in_right h.head before
            (i ∷ []) h.among;
        early = h.early;
        target = h.target;
        method = h.method;
        line = h.line;
      })
    where
      split : (below number : ℕ) (part : Part) (h : IsBegun p box (before ++ (i ∷ [])) below number part) →
          IsIn h.head before ⊎ IsIn h.head (i ∷ []) →
          IsBegun p box before below number part ⊎ IsBegun p box (i ∷ []) below number part
      split below number part h (inl is) = inl (record {
        head = h.head;
        call = h.call;
        among = is;
        early =
            h.early;
        target = h.target;
        method = h.method;
        line = h.line;
      })
      split below number part h (inr is) = inr (record {
        head = h.head;
        call = h.call;
        among = is;
        early =
            h.early;
        target = h.target;
        method = h.method;
        line = h.line;
      })

  pub called_none : (box : ℕ) (ms : List Member) → Adds p ms ms (IsCalled p box [])
  called_none box ms = adds_nothing ms (IsCalled p box []) (λ below number part q is there. elim is.among
      [ ])

  pub begun_none : (box : ℕ) (ms : List Member) → Adds p ms ms (IsBegun p box [])
  begun_none box ms = adds_nothing ms (IsBegun p box []) (λ below number part q is there. elim is.among [ ])

  -- a head with a preprocedure begins with one
  pub begun_one : (box : ℕ) (head : Head) (call : CallCode) (old new : List Member) →
      head.early ≡ Some call →
      Adds p old new (IsOne (target_of p box (R.Given call.target)) call.method Line) → Adds p old new
      (IsBegun p box (head ∷ []))
  begun_one box head call old new early a = adds_same old new (IsOne (target_of p box (R.Given call.target))
      call.method Line) (IsBegun p box (head ∷ [])) a
      (λ below number part h. back below number part h h.among)
      (λ below number part h. record {
        head = head;
        call = call;
        among = inl refl;
        early = early;
        target =
            h.same_box;
        method = h.same_number;
        line = sym h.same_part;
      })
    where
      one : (x y : CallCode) → Some x ≡ Some y → x ≡ y
      one x y e = cc

      back : (below number : ℕ) (part : Part) (h : IsBegun p box (head ∷ []) below number part) →
          IsIn h.head (head ∷ []) → IsOne (target_of p box (R.Given call.target)) call.method Line below
          number part
      back below number part h (inl e) =
          let same = one call h.call (sym early ∙ (ap (λ (x : Head). x.early) e ∙ h.early)) in
          record {
            same_box = ap (λ (c : CallCode). target_of p box (R.Given c.target)) same ∙ h.target;
            same_number = ap (λ (c : CallCode). c.method) same ∙ h.method;
            same_part = sym h.line;
          }
      back below number part h (inr e) = elim e [ ]

  -- the same in a loop over instructions, and over heads
  pub called_step : (box : ℕ) (code : List Instruction) (at : ℕ) (i : Instruction)
      (old mid new : List Member) → at < length code → i ≡ get_or code at i →
      Adds p old mid (IsCalled p box (take at code)) → Adds p mid new (IsCalled p box (i ∷ [])) →
      Adds p old new (IsCalled p box (take (at + 1) code))
  called_step box code at i old mid new less is a b =
      subst (λ xs. Adds p old new (IsCalled p box xs)) (sym (take_more code at i less
      ∙ ap (λ x. take at code ++ (x ∷ [])) (sym is))) (called_more box (take at code) i old mid new a b)

  pub begun_step : (box : ℕ) (heads : List Head) (at : ℕ) (i : Head) (old mid new : List Member) →
      at < length heads → i ≡ get_or heads at i →
      Adds p old mid (IsBegun p box (take at heads)) → Adds p mid new (IsBegun p box (i ∷ [])) →
      Adds p old new (IsBegun p box (take (at + 1) heads))
  begun_step box heads at i old mid new less is a b =
      subst (λ xs. Adds p old new (IsBegun p box xs)) (sym (take_more heads at i less
      ∙ ap (λ x. take at heads ++ (x ∷ [])) (sym is))) (begun_more box (take at heads) i old mid new a
      b)

  -- the preprocedures and the methods that a procedure calls
  pub code_line : (box : ℕ) (m : Method) (part : Part) (code : List Instruction)
      (old mid new : List Member) → part ≡ Line → code ≡ m.instructions →
      Adds p old mid (IsBegun p box (heads_of m.entry)) → Adds p mid new (IsCalled p box code) →
      Adds p old new (CodeCalls p box part m)
  code_line box m part code old mid new line is a b =
      subst (λ t. Adds p old new (CodeCalls p box t m)) (sym line)
      (adds_then old mid new (IsBegun p box (heads_of m.entry)) (IsCalled p box m.instructions)
      (CodeCalls p box Line m) a (subst (λ xs. Adds p mid new (IsCalled p box xs)) is b)
      (λ below number part h. h) (λ below number part h. inl h) (λ below number part h. inr h))

  pub code_tail : (box : ℕ) (m : Method) (part : Part) (code : List Instruction) (old new : List Member) →
      part ≡ Tail → code ≡ m.instructions →
      Adds p old new (IsCalled p box code) → Adds p old new (CodeCalls p box part m)
  code_tail box m part code old new tail is a =
      subst (λ t. Adds p old new (CodeCalls p box t m)) (sym tail)
      (subst (λ xs. Adds p old new (IsCalled p box xs)) is a)
