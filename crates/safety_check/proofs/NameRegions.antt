-- What an assignment makes of the regions of names.
use Rattle.std.proofs.Common.{◌≡◌, ◌≢◌, ℕ, zero, suc, ◌<◌, ℤ, pos, Bool, true, false, ◌||◌}
use Rattle.std.proofs.Common.{List, []}
use Rattle.std.proofs.Common.{◌∷◌, map, length, Option, None, Some, refl, sym, ap, subst}
use Rattle.std.proofs.Common.{◌∙◌, arith}
use Rattle.std.proofs.Common.{true≢false, inl, inr}
use Rattle.std.specs.Prelude.{◌⊎◌, slice_get, slice_set, slice_index_or, ◌==◌, IfSome}
use Rattle.std.proofs.lemmas.List.{get_or-set_same, get_or-set_other}
use Rattle.seuss_program.specs.declared.program.Program.{Program}
use Rattle.seuss_program.specs.declared.tree.Ref.{Ref}
use Rattle.seuss_program.specs.declared.tree.Ref.TheVariants as R
use Rattle.seuss_program.specs.declared.tree.Kind.{Kind}
use Rattle.seuss_program.specs.declared.tree.Kind.TheVariants as K
use Rattle.seuss_program.specs.declared.tree.Cat.{Cat}
use Rattle.seuss_program.specs.declared.tree.Proc.{Proc}
use Rattle.seuss_program.specs.declared.state.Vars.{Vars}
use Rattle.seuss_program.specs.declared.state.State.{State}
use Rattle.seuss_program.specs.declared.state.Value.{Value}
use Rattle.seuss_program.specs.declared.state.Value.TheVariants as V
use Rattle.seuss_program.specs.Programs.{cat_of, vars_of}
use Rattle.seuss_program.specs.Values.{HasSize, named}
use Rattle.seuss_program.specs.Bodies.{assigned, bound}
use Rattle.seuss_program.specs.Keeping.{AreOf, HasForm, Scope, scope_of, kind_at, kind_of, var_kinds}
use Rattle.seuss_program.specs.Keeping.{slot_kinds}
use Rattle.meaning_laws.specs.Kinds.{IsOf}
use Rattle.meaning_laws.specs.Forms.{AreFormed}
use Rattle.meaning_laws.proofs.FittingNumbers.{Fits, all-or}
use Rattle.meaning_laws.proofs.ValueKinds.{name-gives}
use Rattle.meaning_laws.proofs.KeptForms.{vars-same, variable-kinds}
use Rattle.safety_check.specs.Spans.{all_numbers}
use Rattle.safety_check.specs.Regions.{Region, Numbers, Truth, Lengths, Anything, Fit, Lies}
use Rattle.safety_check.specs.Regions.{is_name, is_among, Frame}
use Rattle.safety_check.specs.Regions.{regions_of, region_round, rounds, put, joined, forgotten}
use Rattle.safety_check.specs.Ends.{taken}
use Rattle.safety_check.proofs.SpanLaws.{fits-within}
use Rattle.safety_check.proofs.RegionLaws.{lies-left, lies-right}

-- numbers that are told the same are
same-number : (a b : ℕ) → a == b ≡ true → a ≡ b
same-number a b h = grind arith

-- numbers that are told apart differ
other-number : (a b : ℕ) → a == b ≡ false → b ≢ a
other-number a b h = grind arith

-- names that are the same
pub name-same : (n m : Ref) → is_name n m ≡ true → n ≡ m
name-same (R.Var a) (R.Var b) h = ap R.Var (same-number a b h)
name-same (R.Var a) (R.Slot b) h = absurd (true≢false (sym h))
name-same (R.Var a) (R.Given b) h = absurd (true≢false (sym h))
name-same (R.Var a) (R.Method b) h = absurd (true≢false (sym h))
name-same (R.Var a) (R.Cat b) h = absurd (true≢false (sym h))
name-same (R.Slot a) (R.Var b) h = absurd (true≢false (sym h))
name-same (R.Slot a) (R.Slot b) h = ap R.Slot (same-number a b h)
name-same (R.Slot a) (R.Given b) h = absurd (true≢false (sym h))
name-same (R.Slot a) (R.Method b) h = absurd (true≢false (sym h))
name-same (R.Slot a) (R.Cat b) h = absurd (true≢false (sym h))
name-same (R.Given a) m h = absurd (true≢false (sym h))
name-same (R.Method a) m h = absurd (true≢false (sym h))
name-same (R.Cat a) m h = absurd (true≢false (sym h))

-- the numbers of what a name stands for have 64 bits
pub named-size : (name : Ref) (vars slots : List Value) (ks ls : List Kind) → AreOf vars ks → AreOf slots ls →
    HasSize (named name vars slots)
named-size (R.Var n) vars slots ks ls h g = all-or HasSize vars n (V.Int (pos 0)) h.sizes refl
named-size (R.Slot n) vars slots ks ls h g = all-or HasSize slots n (V.Int (pos 0)) g.sizes refl
named-size (R.Given n) vars slots ks ls h g = refl
named-size (R.Method n) vars slots ks ls h g = refl
named-size (R.Cat n) vars slots ks ls h g = refl

-- a place that has a kind is there
within-kinds : (vs : List Value) (ks : List Kind) (n : ℕ) (k : Kind) → AreOf vs ks → slice_get ks n ≡ Some k →
    n < length vs
within-kinds vs ks n k h e = go vs n (ap (λ l. slice_get l n) h.kinds ∙ e)
  where
    go : (vs : List Value) (n : ℕ) → slice_get (map kind_of vs) n ≡ Some k → n < length vs
    go [] n h = absurd (cc)
    go (v ∷ vs) zero h = omega arith
    go (v ∷ vs) (suc n) h = let less = go vs n h in omega (arith, less)

-- where a region was put in a list, it stands there, or nothing does
set-here : (rs : List Region) (n : ℕ) (r : Region) →
    (slice_index_or (slice_set rs n r) n Anything ≡ r) ⊎ (slice_index_or
    (slice_set rs n r) n Anything ≡ Anything)
set-here [] n r = inr refl
set-here (x ∷ rs) zero r = inl refl
set-here (x ∷ rs) (suc n) r = set-here rs n r

-- every other place is as it was
set-there : (rs : List Region) (n m : ℕ) (r : Region) → m ≢ n →
    slice_index_or (slice_set rs n r) m Anything ≡ slice_index_or rs m Anything
set-there rs n m r differ = get_or-set_other rs n m r Anything differ

-- the name that was put has the region, or may have any value
pub put-here : (name : Ref) (r : Region) (frame : Frame) → is_name name name ≡ true →
    (regions_of (put name r frame) name ≡ r) ⊎ (regions_of (put name r frame) name ≡ Anything)
put-here (R.Var n) r frame h = set-here frame.vars n r
put-here (R.Slot n) r frame h = set-here frame.slots n r
put-here (R.Given n) r frame h = absurd (true≢false (sym h))
put-here (R.Method n) r frame h = absurd (true≢false (sym h))
put-here (R.Cat n) r frame h = absurd (true≢false (sym h))

-- every other name has the region that it had
pub put-there : (name m : Ref) (r : Region) (frame : Frame) → is_name name m ≡ false →
    regions_of (put name r frame) m ≡ regions_of frame m
put-there (R.Var n) (R.Var m) r frame h = set-there frame.vars n m r (other-number n m h)
put-there (R.Var n) (R.Slot m) r frame h = refl
put-there (R.Var n) (R.Given m) r frame h = refl
put-there (R.Var n) (R.Method m) r frame h = refl
put-there (R.Var n) (R.Cat m) r frame h = refl
put-there (R.Slot n) (R.Var m) r frame h = refl
put-there (R.Slot n) (R.Slot m) r frame h = set-there frame.slots n m r (other-number n m h)
put-there (R.Slot n) (R.Given m) r frame h = refl
put-there (R.Slot n) (R.Method m) r frame h = refl
put-there (R.Slot n) (R.Cat m) r frame h = refl
put-there (R.Given n) m r frame h = refl
put-there (R.Method n) m r frame h = refl
put-there (R.Cat n) m r frame h = refl

-- what lies in a region lies in one that is it or is any
lies-or-any : (o r : Region) (v : Value) → (o ≡ r) ⊎ (o ≡ Anything) → HasSize v → Lies r v → Lies o v
lies-or-any o r v (inl e) size lies = subst (λ x. Lies x v) (sym e) lies
lies-or-any o r v (inr e) size lies = subst (λ x. Lies x v) (sym e) size

-- joined regions, place by place
any-round : (r : Region) → region_round r Anything ≡ Anything
any-round (Numbers s) = refl
any-round (Truth b) = refl
any-round (Lengths s) = refl
any-round Anything = refl

-- a place of joined lists
rounds-at : (xs ys : List Region) (n : ℕ) →
    slice_index_or (rounds xs ys) n Anything
    ≡ region_round (slice_index_or xs n Anything) (slice_index_or ys n Anything)
rounds-at [] ys n = refl
rounds-at (x ∷ xs) [] n = sym (any-round (slice_index_or (x ∷ xs) n Anything))
rounds-at (x ∷ xs) (y ∷ ys) zero = refl
rounds-at (x ∷ xs) (y ∷ ys) (suc n) = rounds-at xs ys n

-- a name in joined frames
pub joined-at : (one other : Frame) (m : Ref) →
    regions_of (joined one other) m ≡ region_round (regions_of one m) (regions_of other m)
joined-at one other (R.Var n) = rounds-at one.vars other.vars n
joined-at one other (R.Slot n) = rounds-at one.slots other.slots n
joined-at one other (R.Given n) = refl
joined-at one other (R.Method n) = refl
joined-at one other (R.Cat n) = refl

-- a name with any value is one after it was put so
put-any : (n m : Ref) (frame : Frame) → is_name n m ≡ true → regions_of (put n Anything frame) m ≡ Anything
put-any n m frame e =
    by (put-here n Anything frame (subst (λ x. is_name n x ≡ true) (sym (name-same n m e)) e))
  where
    by : (regions_of (put n Anything frame) n ≡ Anything) ⊎ (regions_of (put n Anything frame) n ≡ Anything) →
        regions_of (put n Anything frame) m ≡ Anything
    by (inl i) = subst (λ x. regions_of (put n Anything frame) x ≡ Anything) (name-same n m e) i
    by (inr i) = subst (λ x. regions_of (put n Anything frame) x ≡ Anything) (name-same n m e) i

-- a name that is forgotten may have any value, and another one has the region that it had
module _ (m : Ref) where
  -- a name that may have any value still may
  any-stays : (names : List Ref) (frame : Frame) → regions_of frame m ≡ Anything →
      regions_of (forgotten names frame) m ≡ Anything
  any-stays [] frame h = h
  any-stays (n ∷ ns) frame h = any-stays ns (put n Anything frame) (by (is_name n m) refl)
    where
      by : (b : Bool) → is_name n m ≡ b → regions_of (put n Anything frame) m ≡ Anything
      by true e = put-any n m frame e
      by false e = put-there n m Anything frame e ∙ h

  -- a forgotten name may have any value
  pub forgotten-here : (names : List Ref) (frame : Frame) → is_among m names ≡ true →
      regions_of (forgotten names frame) m ≡ Anything
  forgotten-here [] frame h = absurd (true≢false (sym h))
  forgotten-here (n ∷ ns) frame h =
      by (is_name n m) refl h (λ i. forgotten-here ns (put n Anything frame) i)
    where
      by : (b : Bool) → is_name n m ≡ b → b || is_among m ns ≡ true →
          (is_among m ns ≡ true → regions_of (forgotten ns (put n Anything frame)) m ≡ Anything) →
          regions_of (forgotten ns (put n Anything frame)) m ≡ Anything
      by true e i next = any-stays ns (put n Anything frame) (put-any n m frame e)
      by false e i next = next i

  -- every other name has the region that it had
  pub forgotten-there : (names : List Ref) (frame : Frame) → is_among m names ≡ false →
      regions_of (forgotten names frame) m ≡ regions_of frame m
  forgotten-there [] frame h = refl
  forgotten-there (n ∷ ns) frame h =
      by (is_name n m) refl h (λ i. forgotten-there ns (put n Anything frame) i)
    where
      by : (b : Bool) → is_name n m ≡ b → b || is_among m ns ≡ false →
          (is_among m ns ≡ false →
          regions_of (forgotten ns (put n Anything frame)) m ≡ regions_of (put n Anything frame) m) →
          regions_of (forgotten ns (put n Anything frame)) m ≡ regions_of frame m
      by true e i next = absurd (true≢false i)
      by false e i next = next i ∙ put-there n m Anything frame e

-- a frame without regions tells of no name
pub nothing-at : (m : Ref) → regions_of (record { vars = []; slots = [] }) m ≡ Anything
nothing-at (R.Var n) = refl
nothing-at (R.Slot n) = refl
nothing-at (R.Given n) = refl
nothing-at (R.Method n) = refl
nothing-at (R.Cat n) = refl

module _ (p : Program) (box : ℕ) (c : Cat Ref) (at : cat_of p box ≡ Some c) (q : Proc Ref) where
  -- what a text of the procedure sees
  abbrev scope : Scope
  scope = scope_of p.cats c q

  -- the variables of the box have their kinds
  pub typed-vars : (state : State) → HasForm p state → AreOf (vars_of state box) (var_kinds c.vars)
  typed-vars state form = variable-kinds p box c at state form

  -- a box with a variable is there
  pub box-there : (state : State) → HasForm p state → (n : ℕ) (k : Kind) →
      slice_get (var_kinds c.vars) n ≡ Some k →
      box < length state.boxes
  box-there state form n k there = by state.boxes box (within-kinds (vars_of state box)
      (var_kinds c.vars) n k (typed-vars state form) there)
    where
      none : Vars
      none = record { values = [] }

      by : (bs : List Vars) (m : ℕ) → n < length (slice_index_or bs m none).values → m < length bs
      by [] m less = absurd (omega (arith, less))
      by (b ∷ bs) zero less = omega arith
      by (b ∷ bs) (suc m) less = let inner = by bs m less in omega (arith, inner)

  -- the name that is assigned stands for the value
  pub assigned-named : (name : Ref) (k : Kind) (v : Value) (state : State) (slots : List Value) (budget : ℕ) →
      kind_at scope name ≡ Some k → AreFormed p q state slots →
      let ran = assigned box name v state slots budget in named name (vars_of ran.state box) ran.slots ≡ v
  assigned-named (R.Var n) k v state slots budget there h =
      ap (λ vs. slice_index_or vs n (V.Int (pos 0))) (vars-same state box n v
      (box-there state h.state_is n k there))
      ∙ get_or-set_same (vars_of state box) n v (V.Int (pos 0))
      (within-kinds (vars_of state box) (var_kinds c.vars) n k (typed-vars state h.state_is) there)
  assigned-named (R.Slot n) k v state slots budget there h =
      get_or-set_same slots n v (V.Int (pos 0)) (within-kinds slots (slot_kinds q) n k h.slots_are there)
  assigned-named (R.Given n) k v state slots budget there h = absurd (cc)
  assigned-named (R.Method n) k v state slots budget there h = absurd (cc)
  assigned-named (R.Cat n) k v state slots budget there h = absurd (cc)

  -- every other name stands for what it stood for
  pub assigned-other : (name m : Ref) (k : Kind) (v : Value) (state : State) (slots : List Value)
      (budget : ℕ) →
      kind_at scope name ≡ Some k → AreFormed p q state slots → is_name name m ≡ false →
      let ran = assigned box name v state slots budget in
      named m (vars_of ran.state box) ran.slots ≡ named m (vars_of state box) slots
  assigned-other (R.Var n) (R.Var i) k v state slots budget there h e =
      ap (λ vs. slice_index_or vs i (V.Int (pos 0))) (vars-same state box n v
      (box-there state h.state_is n k there))
      ∙ get_or-set_other (vars_of state box) n i v (V.Int (pos 0)) (other-number n i e)
  assigned-other (R.Var n) (R.Slot i) k v state slots budget there h e = refl
  assigned-other (R.Var n) (R.Given i) k v state slots budget there h e = refl
  assigned-other (R.Var n) (R.Method i) k v state slots budget there h e = refl
  assigned-other (R.Var n) (R.Cat i) k v state slots budget there h e = refl
  assigned-other (R.Slot n) (R.Var i) k v state slots budget there h e = refl
  assigned-other (R.Slot n) (R.Slot i) k v state slots budget there h e =
      get_or-set_other slots n i v (V.Int (pos 0)) (other-number n i e)
  assigned-other (R.Slot n) (R.Given i) k v state slots budget there h e = refl
  assigned-other (R.Slot n) (R.Method i) k v state slots budget there h e = refl
  assigned-other (R.Slot n) (R.Cat i) k v state slots budget there h e = refl
  assigned-other (R.Given n) m k v state slots budget there h e = absurd (cc)
  assigned-other (R.Method n) m k v state slots budget there h e = absurd (cc)
  assigned-other (R.Cat n) m k v state slots budget there h e = absurd (cc)

  -- what a name stands for after it was put has a region that fits
  put-fit : (name : Ref) (r : Region) (frame : Frame) (before after : List Value) (slots later : List Value) →
      HasSize (named name after later) → Lies r (named name after later) →
      ((m : Ref) → is_name name m ≡ false → named m after later ≡ named m before slots) →
      Fit (regions_of frame) before slots → Fit (regions_of (put name r frame)) after later
  put-fit name r frame before after slots later size lies others fit =
      record { at = λ m. by m (is_name name m) refl }
    where
      here : (m : Ref) → name ≡ m → is_name name m ≡ true →
          Lies (regions_of (put name r frame) m) (named m after later)
      here m e i =
          subst (λ n. Lies (regions_of (put name r frame) n) (named n after later)) e
          (lies-or-any (regions_of (put name r frame) name) r (named name after later)
          (put-here name r frame (subst (λ x. is_name name x ≡ true) (sym e) i)) size lies)

      by : (m : Ref) (b : Bool) → is_name name m ≡ b →
          Lies (regions_of (put name r frame) m) (named m after later)
      by m true e = here m (name-same name m e) e
      by m false e =
          subst (λ o. Lies o (named m after later)) (sym (put-there name m r frame e))
          (subst (Lies (regions_of frame m)) (sym (others m e)) (fit.at m))

  -- the numbers of what a name stands for, in a state of the program's form
  formed-size : (m : Ref) (state : State) (slots : List Value) → AreFormed p q state slots →
      HasSize (named m (vars_of state box) slots)
  formed-size m state slots h =
      named-size m (vars_of state box) slots (var_kinds c.vars) (slot_kinds q)
      (typed-vars state h.state_is) h.slots_are

  -- so the regions fit again, with the region of the value at the name
  pub assigned-fit : (name : Ref) (k : Kind) (v : Value) (r : Region) (frame : Frame) (state : State)
      (slots : List Value) (budget : ℕ) → kind_at scope name ≡ Some k → AreFormed p q state slots → Lies r v →
      HasSize v → Fit (regions_of frame) (vars_of state box) slots →
      let ran = assigned box name v state slots budget in
      Fit (regions_of (put name r frame)) (vars_of ran.state box) ran.slots
  assigned-fit name k v r frame state slots budget there h lies size fit =
      let ran = assigned box name v state slots budget in
      let is = assigned-named name k v state slots budget there h in
      put-fit name r frame (vars_of state box) (vars_of ran.state box) slots ran.slots
      (subst HasSize (sym is) size) (subst (Lies r) (sym is) lies)
      (λ m e. assigned-other name m k v state slots budget there h e) fit

  -- a value of the kind int is one of all numbers
  int-lies : (v : Value) → IsOf v K.Int → Lies (Numbers all_numbers) v
  int-lies (V.Int z) h = fits-within z h.1
  int-lies (V.Bool b) h = absurd (cc)
  int-lies (V.Seq zs) h = absurd (cc)

  -- a result that is bound
  pub bound-fit : (bind : Option Ref) (result : Option ℤ) (frame : Frame) (state : State) (slots : List Value)
      (budget : ℕ) → ((name : Ref) → bind ≡ Some name → kind_at scope name ≡ Some K.Int) →
      IfSome result Fits →
      AreFormed p q state slots → Fit (regions_of frame) (vars_of state box) slots →
      let ran = bound box bind result state slots budget in
      Fit (regions_of (taken bind frame)) (vars_of ran.state box) ran.slots
  bound-fit None result frame state slots budget is small h fit = fit
  bound-fit (Some name) (Some z) frame state slots budget is small h fit =
      assigned-fit name K.Int (V.Int z) (Numbers all_numbers) frame state slots budget (is name refl) h
      (fits-within z small) small fit
  bound-fit (Some name) None frame state slots budget is small h fit =
      put-fit name (Numbers all_numbers) frame (vars_of state box) (vars_of state box) slots slots
      (formed-size name state slots h)
      (int-lies (named name (vars_of state box) slots)
      (name-gives scope (vars_of state box) slots (typed-vars state h.state_is) h.slots_are name K.Int
      (is name refl)))
      (λ m e. refl) fit

  -- the regions of either branch fit in the joined ones
  pub joined-left : (one other : Frame) (state : State) (slots : List Value) → AreFormed p q state slots →
      Fit (regions_of one) (vars_of state box) slots → Fit (regions_of (joined one other))
      (vars_of state box) slots
  joined-left one other state slots h fit = record {
    at = λ m. subst (λ o. Lies o (named m (vars_of state box) slots)) (sym (joined-at one other m))
        (lies-left (regions_of one m) (regions_of other m) (named m (vars_of state box) slots)
        (formed-size m state slots h) (fit.at m));
  }

  -- and so do those of the other branch
  pub joined-right : (one other : Frame) (state : State) (slots : List Value) → AreFormed p q state slots →
      Fit (regions_of other) (vars_of state box) slots → Fit (regions_of (joined one other))
      (vars_of state box) slots
  joined-right one other state slots h fit = record {
    at = λ m. subst (λ o. Lies o (named m (vars_of state box) slots)) (sym (joined-at one other m))
        (lies-right (regions_of one m) (regions_of other m) (named m (vars_of state box) slots)
        (formed-size m state slots h) (fit.at m));
  }

  -- where only some names have changed, the regions without them fit
  pub forgotten-fit : (names : List Ref) (frame : Frame) (vars slots : List Value) (after : State)
      (later : List Value) → AreFormed p q after later → Fit (regions_of frame) vars slots →
      ((m : Ref) → is_among m names ≡ false → named m (vars_of after box) later ≡ named m vars slots) →
      Fit (regions_of (forgotten names frame)) (vars_of after box) later
  forgotten-fit names frame vars slots after later h fit same =
      record { at = λ m. by m (is_among m names) refl }
    where
      by : (m : Ref) (b : Bool) → is_among m names ≡ b →
          Lies (regions_of (forgotten names frame) m) (named m (vars_of after box) later)
      by m true e =
          subst (λ o. Lies o (named m (vars_of after box) later)) (sym (forgotten-here m names frame e))
          (formed-size m after later h)
      by m false e =
          subst (λ o. Lies o (named m (vars_of after box) later)) (sym (forgotten-there m names frame e))
          (subst (Lies (regions_of frame m)) (sym (same m e)) (fit.at m))
