-- What is found by the cases of a procedure is what is so of it.
use Rattle.std.proofs.Common.{◌≡◌, ℕ, zero, suc, ◌+◌, ◌*◌, ◌<◌, ◌≤◌, Bool, true, false, ◌&&◌, ◌||◌, not}
use Rattle.std.proofs.Common.{List, [], ◌∷◌, length, Option, None, Some, Result, Ok, Err, IfOk, ◌⊎◌}
use Rattle.std.proofs.Common.{inl, inr}
use Rattle.std.proofs.Common.{refl, sym, ap, subst, ◌∙◌, arith, get_or, true≢false}
use Rattle.std.specs.Prelude.{slice_get}
use Rattle.std.specs.List.{Contains}
use Rattle.std.proofs.lemmas.Bool.Decides.{nat_tests}
use Rattle.std.proofs.Math.Nat.{mul-le-mul_left}
use Rattle.std.proofs.lemmas.Option.{slice_get_read, get_or_from_slice_get}
use Rattle.seuss_base.specs.declared.memory.Memory.{Memory}
use Rattle.seuss_program.specs.declared.program.Program.{Program}
use Rattle.seuss_program.specs.declared.tree.Ref.{Ref}
use Rattle.seuss_program.specs.declared.tree.Cat.{Cat}
use Rattle.seuss_program.specs.declared.tree.Proc.{Proc}
use Rattle.safety_check.specs.declared.frame.Frame.{Frame}
use Rattle.safety_check.specs.declared.property.Property.{Property}
use Rattle.safety_check.specs.declared.safety.Safety.{Safety}
use Rattle.safety_check.specs.declared.safety.Safety.TheVariants.{Safe, Start, Open, Many}
use Rattle.safety_check.specs.RegionValues.{region_in}
use Rattle.safety_check.specs.Ends.{ends_of}
use Rattle.safety_check.specs.Safety.{IsOpen, IsBad, may_hold, does_hold, assigns, has_many, seen_by}
use Rattle.safety_check.specs.Safety.{NoneBadBelow, StartsBelow, IsAnswer}
use Rattle.safety_judge.specs.declared.bad.Bad.{Bad}
use Rattle.safety_judge.specs.declared.bad.Bad.TheVariants as B
use Rattle.safety_judge.specs.declared.choices.Choices.{Choices}
use Rattle.safety_judge.specs.Rows.{frame_at, choices_of, row_at, left_of}
use Rattle.safety_judge.specs.Findings.{some_without, leads_out, HasWayOut, cases_of, IsFoundBy, IsFound}
use Rattle.safety_judge.specs.Findings.{IsFoundIn, answer_of}
use Rattle.safety_judge.proofs.RowLaws.{rows, numbered, within}

-- both of two bools are true
and-both : (a b : Bool) → a && b ≡ true → (a ≡ true) × (b ≡ true)
and-both true b h = (refl, h)
and-both false b h = absurd (true≢false (sym h))

-- an end at which the property isn't true
record Without (property : Property) (ends : List Frame) : Type 0 where
  end : Frame
  there : Contains ends end
  after : does_hold (region_in property.expr end) ≡ false

-- an end behind the first one
behind : (property : Property) (e : Frame) (ends : List Frame) → Without property ends →
    Without property (e ∷ ends)
behind property e ends w = record {
  end = w.end;
  there = (suc w.there.0, omega (arith, w.there.1), w.there.2);
  after = w.after;
}

-- the first end, or one of the others
one-of : (property : Property) (e : Frame) (ends : List Frame) (b : Bool) →
    does_hold (region_in property.expr e) ≡ b → not b || some_without property ends ≡ true →
    (some_without property ends ≡ true → Without property ends) → Without property (e ∷ ends)
one-of property e ends true is h others = behind property e ends (others h)
one-of property e ends false is h others = record { end = e; there = (0, omega arith, refl); after = is }

-- where one of the ends is without the property, there is such an end
without-there : (property : Property) (ends : List Frame) → some_without property ends ≡ true →
    Without property ends
without-there property [] h = absurd (true≢false (sym h))
without-there property (e ∷ ends) h =
    one-of property e ends (does_hold (region_in property.expr e)) refl h
    (λ more. without-there property ends more)

-- one of the ends is without the property where such an end is there
there-without : (property : Property) (ends : List Frame) (k : ℕ) (end : Frame) → k < length ends →
    get_or ends k end ≡ end → does_hold (region_in property.expr end) ≡ false →
    some_without property ends ≡ true
there-without property [] k end h at after = absurd (omega (arith, h))
there-without property (e ∷ ends) zero end h at after =
    ap (λ b. not b || some_without property ends)
    (ap (λ x. does_hold (region_in property.expr x)) at ∙ after)
there-without property (e ∷ ends) (suc k) end h at after =
    by (not (does_hold (region_in property.expr e))) (some_without property ends)
    (there-without property ends k end (omega (arith, h)) at after)
  where
    by : (a b : Bool) → b ≡ true → a || b ≡ true
    by true b h = refl
    by false b h = h

module _ (c : Cat Ref) (q : Proc Ref) (property : Property) where
  -- the regions of all names of the procedure
  abbrev all : Choices
  all = choices_of c q (seen_by property q)

  -- a number whose frame leads out of the property gives an open case
  opens : HasWayOut property q all (cases_of all) → IsOpen c q property
  opens way =
      let vars = within all.vars way.number (rows all.slots) way.below in
      let slots = within all.slots (left_of all.vars way.number) 1 (omega (arith, vars.left)) in
      let leads = and-both (may_hold (region_in property.expr (frame_at all way.number)))
      (some_without property (ends_of q.form (frame_at all way.number))) way.leads in
      let end = without-there property (ends_of q.form (frame_at all way.number)) leads.1 in
      record {
        frame = frame_at all way.number;
        case = record { vars = vars.row; slots = slots.row };
        before = leads.0;
        end = end.end;
        ends = end.there;
        after = end.after;
      }

  -- an open case has a number whose frame leads out of the property
  closes : IsOpen c q property → HasWayOut property q all (cases_of all)
  closes case =
      let slots = numbered all.slots case.frame.slots 0 case.case.slots in
      let vars = numbered all.vars case.frame.vars slots.number case.case.vars in
      let few : suc slots.number ≤ rows all.slots = omega (arith, slots.below) in
      let more : rows all.vars * suc slots.number ≤ rows all.vars * rows all.slots =
      mul-le-mul_left (rows all.vars) few in
      let is : frame_at all vars.number ≡ case.frame =
      (λ i. record {
        vars = vars.row_is i;
        slots = (ap (row_at all.slots) vars.left_is ∙ slots.row_is) i;
      }) in
      let some : some_without property (ends_of q.form case.frame) ≡ true =
      there-without property (ends_of q.form case.frame) case.ends.0 case.end case.ends.1
      case.ends.2 case.after in
      let leads : leads_out property q case.frame ≡ true =
      ap (λ b. b && some_without property (ends_of q.form case.frame)) case.before ∙ some in
      record {
        number = vars.number;
        below = omega (arith, vars.below, more);
        leads = ap (leads_out property q) is ∙ leads;
      }

  -- more cases than are looked at
  many : 4096 < cases_of all → has_many c q property ≡ true
  many h = grind (arith, nat_tests, h)

  -- no more cases than are looked at
  few : cases_of all ≤ 4096 → has_many c q property ≡ false
  few h = grind (arith, nat_tests, h)

  -- what is found by the cases of a procedure that assigns a variable of the property
  pub found-by : assigns q property ≡ true → (bad : Option Bad) → IsFoundBy property q all bad →
      IsFound c q property bad
  found-by does None h = λ b. by b.why
    where
      by : (has_many c q property ≡ true) ⊎ IsOpen c q property → ⊥
      by (inl m) = true≢false (sym m ∙ few h.0)
      by (inr case) = h.1 (closes case)
  found-by does (Some B.Open) h = (record { assigns_it = does; why = inr (opens h.1) }, few h.0)
  found-by does (Some B.Many) h = (record { assigns_it = does; why = inl (many h) }, many h)

-- the same for an answer
pub answer-by : (c : Cat Ref) (q : Proc Ref) (property : Property) (choices : Choices)
    (r : Result (Option Bad) Memory) → assigns q property ≡ true →
    choices ≡ choices_of c q (seen_by property q) → IfOk r (λ bad. IsFoundBy property q choices bad) →
    IfOk r (λ bad. IsFound c q property bad)
answer-by c q property choices (Ok bad) does is h = found-by c q property does bad
    (subst (λ x. IsFoundBy property q x bad) is h)
answer-by c q property choices (Err m) does is h = tt

-- a procedure that assigns no variable of the property isn't bad
pub not-assigning : (c : Cat Ref) (q : Proc Ref) (property : Property) (does : Bool) →
    does ≡ assigns q property → does ≡ false → IsBad c q property → ⊥
not-assigning c q property does is fails bad = true≢false (sym bad.assigns_it ∙ (sym is ∙ fails))

-- one more procedure that isn't bad
pub none-next : (c : Cat Ref) (property : Property) (i next : ℕ) (q : Proc Ref) → i < length c.procs →
    q ≡ get_or c.procs i q → next ≡ i + 1 → NoneBadBelow c property i → (IsBad c q property → ⊥) →
    NoneBadBelow c property next
none-next c property i next q h at is before not = record {
  at = λ n r below there bad. by n r there bad (split n (omega (arith, below, is)));
}
  where
    split : (n : ℕ) → n < i + 1 → (n < i) ⊎ (n ≡ i)
    split n h = grind (arith, h)

    by : (n : ℕ) (r : Proc Ref) → slice_get c.procs n ≡ Some r → IsBad c r property →
        (n < i) ⊎ (n ≡ i) → ⊥
    by n r there bad (inl low) = before.at n r low there bad
    by n r there bad (inr same) =
        let e : get_or c.procs n q ≡ r = get_or_from_slice_get c.procs n r q there in
        let f : q ≡ r = at ∙ (ap (λ k. get_or c.procs k q) (sym same) ∙ e) in
        not (subst (λ p. IsBad c p property) (sym f) bad)

-- the first bad procedure
pub first-found : (c : Cat Ref) (property : Property) (i : ℕ) (q : Proc Ref) (bad : Bad) →
    i < length c.procs → q ≡ get_or c.procs i q → NoneBadBelow c property i →
    IsFound c q property (Some bad) → IsFoundIn c property (answer_of bad i)
first-found c property i q B.Open h at before found = record {
  procedure = q;
  there = slice_get_read c.procs (length c.procs) i q refl h at;
  bad = found.0;
  first = before;
  cases = found.1;
}
first-found c property i q B.Many h at before found = record {
  procedure = q;
  there = slice_get_read c.procs (length c.procs) i q refl h at;
  bad = found.0;
  first = before;
  cases = found.1;
}

-- the answer of a program, by what is found of the cat of the property
pub of-cat : (p : Program) (property : Property) (c : Cat Ref) (answer : Safety) →
    StartsBelow p property (length p.boxes) → slice_get p.cats property.cat ≡ Some c →
    IsFoundIn c property answer → IsAnswer p property answer
of-cat p property c Safe starts there found = record {
  starts = starts;
  none_bad = λ other same. subst (λ x. NoneBadBelow x property (length x.procs))
      (some-same c other (sym there ∙ same)) found;
}
  where
    some-same : (a b : Cat Ref) → Some a ≡ Some b → a ≡ b
    some-same a b e = cc
of-cat p property c (Start box) starts there found = absurd found
of-cat p property c (Open number) starts there found =
    record { starts = starts; cat = c; there = there; procedure = found }
of-cat p property c (Many number) starts there found =
    record { starts = starts; cat = c; there = there; procedure = found }

-- the same for an answer
pub answer-of-cat : (p : Program) (property : Property) (c : Cat Ref) (r : Result Safety Memory) →
    StartsBelow p property (length p.boxes) → slice_get p.cats property.cat ≡ Some c →
    IfOk r (λ answer. IsFoundIn c property answer) → IfOk r (λ answer. IsAnswer p property answer)
answer-of-cat p property c (Ok answer) starts there found = of-cat p property c answer starts there found
answer-of-cat p property c (Err m) starts there found = tt

-- a program without the cat of the property
pub without-cat : (p : Program) (property : Property) → StartsBelow p property (length p.boxes) →
    slice_get p.cats property.cat ≡ None → IsAnswer p property Safe
without-cat p property starts none = record {
  starts = starts;
  none_bad = λ c there. absurd (none-some c (sym none ∙ there));
}
  where
    none-some : (c : Cat Ref) → None ≡ Some c → ⊥
    none-some c e = cc
