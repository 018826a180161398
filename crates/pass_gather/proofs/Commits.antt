-- The commit step of a pass that is over, and its last stamp.
use Rattle.std.proofs.Common.{◌≡◌, ℕ, zero, suc, ◌<◌, ◌≤◌, ◌⊎◌, inl, inr, Bool, true, false, List, []}
use Rattle.std.proofs.Common.{◌∷◌}
use Rattle.std.proofs.Common.{◌++◌, sym, subst, ap, refl, length, slice_get, Option, Some, None, arith, ◌∙◌}
use Rattle.std.proofs.Common.{map}
use Rattle.std.proofs.Common.{replicate, get_or}
use Rattle.std.specs.Prelude.{option_map}
use Rattle.std.proofs.lemmas.List.Quantifiers.{all_pairs_push}
use Rattle.std.proofs.lemmas.Option.{slice_get-map}
use Rattle.seuss_base.specs.declared.outcome.PassEnd.{PassEnd}
use Rattle.seuss_program.specs.declared.program.Program.{Program}
use Rattle.seuss_program.specs.declared.program.ActionInfo.{ActionInfo}
use Rattle.seuss_program.specs.declared.state.Value.{Value}
use Rattle.method_code.specs.declared.frame.End.{End}
use Rattle.method_code.specs.declared.frame.End.TheVariants as E
use Rattle.method_code.specs.declared.activation.Activation.{Activation}
use Rattle.method_code.specs.Codes.{compiled}
use Rattle.method_code.specs.Steps.{Stepped}
use Rattle.method_code.specs.Chains.{begun, Next, Over, turned}
use Rattle.method_code.specs.Kinds.{Kind, Early, Commit, Late, kind_by, kind_of, is_late, calls_early}
use Rattle.method_code.specs.Kinds.{IsAction, steps_made, pass_end, kinds_of, IsInOrder}
use Rattle.method_code.specs.Records.{Recorded, does, ChainsTo, AreMade, made_of}
use Rattle.step_journal.specs.Histories.{IsLegal}
use Rattle.loose_records.specs.Entries.{AreRising}
use Rattle.loose_records.specs.Turns.{clock_of}
use Rattle.pass_seats.specs.Passes.{CommitsSoFar}
use Rattle.pass_gather.proofs.Lists.{none_some, some_same, less_or, get_below, get_there}

-- an entry of a legal history was made from some variables
pub legal_at : {E V : Type 0} (does : E → V → V → Type 0) (v w : V) (es : List E) → IsLegal does v es w →
    (k : ℕ) (e : E) → slice_get es k ≡ Some e → (u : V) × (z : V) × does e u z
legal_at does v w [] legal k e h = absurd (none_some e h)
legal_at {E} does v w (f ∷ es) legal zero e h =
    (v, legal.0, subst (λ (x : E). does x v legal.0) (some_same f e h) legal.1)
legal_at does v w (f ∷ es) legal (suc k) e h = legal_at does legal.0 w es legal.2 k e h

-- the kind of a recorded step
abbrev pub kind_in : Program → Recorded → Kind
kind_in p e = kind_of (compiled p) e.before e.end

-- the kinds of steps that are made are those of the recorded ones
kinds_are : (p : Program) (es : List Recorded) (row : List (List Value)) → AreMade (compiled p) es row →
    kinds_of (compiled p) (made_of p es row) ≡ map (kind_in p) es
kinds_are p [] row m = refl
kinds_are p (x ∷ xs) [] m = absurd m
kinds_are p (x ∷ xs) (v ∷ row) m =
    ap (λ (s : Stepped). kind_of (compiled p) x.before s.end ∷ kinds_of (compiled p) (made_of p xs row))
    m.0.1
    ∙ ap (λ (ks : List Kind). kind_in p x ∷ ks) (kinds_are p xs row m.1)

-- so many early steps, the commit step, so many late ones
abbrev phased : ℕ → ℕ → List Kind
phased early late = replicate early Early ++ Commit ∷ replicate late Late

-- the commit step stands after the early ones
at_early : (early late : ℕ) → slice_get (phased early late) early ≡ Some Commit
at_early zero late = refl
at_early (suc n) late = at_early n late

-- before it all are early
before_early : (early late k : ℕ) → k < early → slice_get (phased early late) k ≡ Some Early
before_early zero late k h = absurd (omega arith)
before_early (suc n) late zero h = refl
before_early (suc n) late (suc k) h = before_early n late k (omega arith)

-- an early step calls a preprocedure
early_calls : (late calls : Bool) → kind_by late calls ≡ Early → calls ≡ true
early_calls true calls h = cc h
early_calls false true h = refl
early_calls false false h = cc h

-- a commit step does not
commit_calls : (late calls : Bool) → kind_by late calls ≡ Commit → calls ≡ false
commit_calls true calls h = cc h
commit_calls false true h = cc h
commit_calls false false h = refl

-- a test has one answer
true_false : (b : Bool) → b ≡ true → b ≡ false → ⊥
true_false b is not = cc (is, not)

-- the laws of compiled code that are used
pub record PassLaws (p : Program) : Type 0 where
  pub in_order : (a : ActionInfo) (row : List (List Value)) (budget : ℕ) (end : PassEnd) → IsAction p a →
      pass_end p row (begun p a) budget ≡ Some end →
      IsInOrder (kinds_of (compiled p) (steps_made p row (begun p a) budget))
  pub is_action : (number : ℕ) (a : ActionInfo) → slice_get p.actions number ≡ Some a → IsAction p a
  pub ended : (a : Activation) (budget : ℕ) (es : List Recorded) (row : List (List Value)) (end : PassEnd) →
      ChainsTo p a budget es end → AreMade (compiled p) es row → pass_end p row a budget ≡ Some end
  pub made : (a : Activation) (budget : ℕ) (es : List Recorded) (row : List (List Value)) (end : PassEnd) →
      ChainsTo p a budget es end → AreMade (compiled p) es row →
      steps_made p row a budget ≡ made_of p es row

-- an early step calls early
early_at : (p : Program) (e : Recorded) → kind_in p e ≡ Early → calls_early e.end ≡ true
early_at p e h = early_calls (is_late (compiled p) e.before) (calls_early e.end) h

-- a commit step doesn't
commit_at : (p : Program) (e : Recorded) → kind_in p e ≡ Commit → calls_early e.end ≡ false
commit_at p e h = commit_calls (is_late (compiled p) e.before) (calls_early e.end) h

module _ (p : Program) (es : List Recorded) (early late : ℕ)
    (place : (k : ℕ) → option_map (kind_in p) (slice_get es k) ≡ slice_get (phased early late) k) where
  -- the kind of a step by its place
  kind_at : (k : ℕ) (e : Recorded) (x : Kind) → slice_get es k ≡ Some e →
      slice_get (phased early late) k ≡ Some x →
      kind_in p e ≡ x
  kind_at k e x at is = some_same (kind_in p e) x (sym (ap (option_map (kind_in p)) at) ∙ (place k ∙ is))

  -- the first step that doesn't call early is the commit step
  first_commits : (k : ℕ) → CommitsSoFar es (Some k) → option_map (kind_in p) (slice_get es k) ≡ Some Commit
  first_commits k c = go (less_or k early) (less_or early k)
    where
      go : (k < early) ⊎ (early ≤ k) → (early < k) ⊎ (k ≤ early) →
          option_map (kind_in p) (slice_get es k) ≡ Some Commit
      go (inl low) other =
          absurd (true_false (calls_early c.1.0.end)
          (early_at p c.1.0 (kind_at k c.1.0 Early c.1.1 (before_early early late k low))) c.1.2)
      go (inr low) (inl high) =
          let e = get_there es early (let b = get_below es k c.1.0 c.1.1 in omega (arith, b, high)) in
          absurd (true_false (calls_early e.0.end) (c.0.each early e.0 high e.1)
          (commit_at p e.0 (kind_at early e.0 Commit e.1 (at_early early late))))
      go (inr low) (inr high) =
          let same : k ≡ early = omega (arith, low, high) in
          place k ∙ ap (λ n. slice_get (phased early late) n) same ∙ at_early early late

-- the commit step so far of a pass that is over is its commit step
pub commits : (p : Program) → PassLaws p → (number : ℕ) (a : ActionInfo) →
    slice_get p.actions number ≡ Some a →
    (budget : ℕ) (es : List Recorded) (row : List (List Value)) (end : PassEnd) →
    ChainsTo p (begun p a) budget es end → AreMade (compiled p) es row → (k : ℕ) → CommitsSoFar es (Some k) →
    option_map (kind_in p) (slice_get es k) ≡ Some Commit
commits p laws number a there budget es row end chain made k so =
    let over = laws.ended (begun p a) budget es row end chain made in
    let same = laws.made (begun p a) budget es row end chain made in
    let o = laws.in_order a row budget end (laws.is_action number a there) over in
    let kinds : map (kind_in p) es ≡ phased o.0 o.1 =
    sym (kinds_are p es row made) ∙ (ap (kinds_of (compiled p)) (sym same) ∙ o.2) in
    first_commits p es o.0 o.1
    (λ k. sym (slice_get-map (kind_in p) es k) ∙ ap (λ (ks : List Kind). slice_get ks k) kinds) k so

-- a step that calls isn't the last one
call_goes_on : (p : Program) (a : Activation) (x : End) (end : PassEnd) → calls_early x ≡ true →
    turned p a x ≡ Over end → ⊥
call_goes_on p a (E.Call target method args partial) end calls over = cc over
call_goes_on p a (E.Returned found) end calls over = cc calls
call_goes_on p a E.RejectedPlain end calls over = cc calls
call_goes_on p a E.Rejected end calls over = cc calls
call_goes_on p a (E.Trapped t) end calls over = cc calls
call_goes_on p a E.Spent end calls over = cc calls

-- a chain has a step that doesn't call early
chain_commits : (p : Program) (a : Activation) (budget : ℕ) (es : List Recorded) (end : PassEnd) →
    ChainsTo p a budget es end →
    ((i : ℕ) (e : Recorded) → slice_get es i ≡ Some e → calls_early e.end ≡ true) → ⊥
chain_commits p a budget [] end chain all = chain
chain_commits p a budget (e ∷ es) end chain all =
    go chain.3 (λ next more. chain_commits p next e.budget_after es end more (λ i x at. all (suc i) x at))
  where
    go : ((es ≡ []) × (turned p (record a { frame = e.after }) e.end ≡ Over end))
        ⊎ ((next : Activation) × (turned p (record a { frame = e.after }) e.end ≡ Next next)
        × ChainsTo p next e.budget_after es end) →
        ((next : Activation) → ChainsTo p next e.budget_after es end → ⊥) → ⊥
    go (inl last) rest = call_goes_on p (record a { frame = e.after }) e.end end (all 0 e refl) last.1
    go (inr more) rest = rest more.0 more.2

-- a pass that is over has a commit step so far
pub over_commits : (p : Program) (a : Activation) (budget : ℕ) (es : List Recorded) (end : PassEnd) →
    ChainsTo p a budget es end → (commit : Option ℕ) → CommitsSoFar es commit →
    (k : ℕ) × (commit ≡ Some k)
over_commits p a budget es end chain None so =
    absurd (chain_commits p a budget es end chain (λ i e at. so.each i e (get_below es i e at) at))
over_commits p a budget es end chain (Some k) so = (k, refl)

-- no stamp is above the clock of all
low : (stamps : List ℕ) (k : ℕ) (d : ℕ) → k < length stamps → get_or stamps k d ≤ clock_of stamps
low [] k d l = absurd (omega arith)
low (x ∷ xs) zero d l = omega arith
low (x ∷ xs) (suc k) d l = let h = low xs k d (omega arith) in omega (arith, h)

-- a stamp after the clock of all keeps them rising at the end
pub rises_to : (stamps : List ℕ) (stamp : ℕ) → AreRising stamps → clock_of stamps < stamp →
    AreRising (stamps ++ stamp ∷ [])
rises_to stamps stamp rising above =
    all_pairs_push (λ (a b : ℕ). a < b) stamps stamp rising
    (λ k d within. let h = low stamps k d within in omega (arith, h, above))
