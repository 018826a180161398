-- Steps that change places, by the variables that their procedures read and write.
use Rattle.std.proofs.Common.{◌≡◌, ℕ, suc, ◌<◌, ◌≤◌, ◌⊎◌, inl, inr, Bool, true, false, List, [], ◌∷◌}
use Rattle.std.proofs.Common.{length, Some, refl, sym, ap, ◌∙◌, subst, arith}
use Rattle.std.specs.Prelude.{slice_get}
use Rattle.std.proofs.lemmas.Bool.{cases_lt}
use Rattle.std.proofs.lemmas.Option.{slice_get_past, none-some}
use Rattle.seuss_program.specs.declared.tree.Ref.{Ref}
use Rattle.seuss_program.specs.declared.tree.Form.{Form}
use Rattle.seuss_program.specs.declared.state.Value.{Value}
use Rattle.method_code.specs.declared.method.Method.{Method}
use Rattle.method_code.specs.declared.frame.End.TheVariants as E
use Rattle.method_code.specs.Steps.{Stepped, leaves}
use Rattle.method_code.specs.Kinds.{kind_of, Early}
use Rattle.method_code.specs.Beside.{Start, from, SameResult, Swaps}
use Rattle.effect_sets.specs.Effects.{tests, reads, writes}
use Rattle.effect_sets.specs.Depends.{Agree, StaysInSets, EarlyStaysInTests}
use Rattle.compat_matrix.specs.Rule.{Meets, KeepsApart}

-- lists are the same where they are at each place
pub get_same : {A : Type 0} (xs ys : List A) → ((n : ℕ) → slice_get xs n ≡ slice_get ys n) → xs ≡ ys
get_same [] [] h = refl
get_same [] (y ∷ ys) h = absurd (none-some y (h 0))
get_same (x ∷ xs) [] h = absurd (none-some x (sym (h 0)))
get_same (x ∷ xs) (y ∷ ys) h = same (h 0) (get_same xs ys (λ n. h (suc n)))
  where
    same : Some x ≡ Some y → xs ≡ ys → (x ∷ xs) ≡ (y ∷ ys)
    same e f = cc

pub same_itself : (s : Stepped) → SameResult s s
same_itself s = record { frame = refl; budget = refl; end = refl }

pub same_back : (s t : Stepped) → SameResult s t → SameResult t s
same_back s t h = record { frame = sym h.frame; budget = sym h.budget; end = sym h.end }

pub agree_back : (set : ℕ → Bool) (vars others : List Value) → Agree set vars others → Agree set others vars
agree_back set vars others h = record { length = sym h.length; values = λ v is. sym (h.values v is) }

both_past : (vars others : List Value) (n : ℕ) → length vars ≤ 32 → length others ≤ 32 → 32 ≤ n →
    slice_get vars n ≡ slice_get others n
both_past vars others n few few' past = slice_get_past vars n (omega arith) ∙ sym (slice_get_past others n
    (omega arith))

module _ (code : List Method) (form : Form Ref) (y : Start) (stays : StaysInSets code form y.frame y.budget)
    (vars : List Value) (few : length vars ≤ 32) where
  -- what a step leaves agrees with what it found, in a set that its procedure doesn't write
  pub untouched : (set : ℕ → Bool) → (Meets (λ v. writes v form) set → ⊥) →
      Agree set (from code y vars).vars vars
  untouched set apart = record { length = stays.many vars; values = λ v is. value v is (cases_lt v 32) }
    where
      within : (v : ℕ) → set v ≡ true → v < 32 → (b : Bool) → writes v form ≡ b →
          slice_get (from code y vars).vars v ≡ slice_get vars v
      within v is less true w = absurd (apart (v, less, w, is))
      within v is less false w = stays.others vars v w

      value : (v : ℕ) → set v ≡ true → (v < 32) ⊎ (32 ≤ v) → slice_get (from code y vars).vars v ≡ slice_get
          vars v
      value v is (inl less) = within v is less (writes v form) refl
      value v is (inr past) = both_past (from code y vars).vars vars v (omega (arith, stays.many vars)) few
          past

module _ (code : List Method) (m n : Form Ref) (x y : Start) (first : StaysInSets code m x.frame x.budget)
    (second : StaysInSets code n y.frame y.budget)
    (vars : List Value) (few : length vars ≤ 32) (apart : KeepsApart m n) where
  abbrev by_first : List Value
  by_first = (from code x vars).vars

  abbrev by_second : List Value
  by_second = (from code y vars).vars

  first_agrees : Agree (λ v. reads v m) by_second vars
  first_agrees = untouched code n y second vars few (λ v. reads v m) apart.reads_writes

  second_agrees : Agree (λ v. reads v n) by_first vars
  second_agrees = untouched code m x first vars few (λ v. reads v n) apart.writes_reads

  both : (at : ℕ) → at < 32 → (b c : Bool) → writes at m ≡ b → writes at n ≡ c →
      slice_get (from code x by_second).vars at ≡ slice_get (from code y by_first).vars at
  both at less true true wm wn = absurd (apart.writes_writes (at, less, wm, wn))
  both at less true false wm wn = first.written by_second vars at first_agrees (second.others vars at wn)
      ∙ sym (second.others by_first at wn)
  both at less false c wm wn =
      first.others by_second at wm
      ∙ second.written vars by_first at (agree_back (λ v. reads v n) by_first vars second_agrees)
      (sym (first.others vars at wm))

  value_at : (at : ℕ) → (at < 32) ⊎ (32 ≤ at) → slice_get (from code x by_second).vars at ≡ slice_get
      (from code y by_first).vars at
  value_at at (inl less) = both at less (writes at m) (writes at n) refl refl
  value_at at (inr past) =
      both_past (from code x by_second).vars (from code y by_first).vars at
      (omega (arith, few, first.many by_second, second.many vars)) (omega (
        arith,
        few,
        second.many by_first,
        first.many vars,
      )) past

  -- two steps whose procedures keep apart change places
  pub apart_swaps : Swaps code x y vars
  apart_swaps = record {
    first = first.result by_second vars first_agrees;
    second = second.result vars by_first (agree_back (λ v. reads v n) by_first vars second_agrees);
    variables = get_same (from code x by_second).vars (from code y by_first).vars (λ at. value_at at
        (cases_lt at 32));
  }

module _ (code : List Method) (m n : Form Ref) (x y : Start) (first : EarlyStaysInTests code m x.frame
    x.budget) (second : StaysInSets code n y.frame y.budget)
    (vars : List Value) (few : length vars ≤ 32) (apart : Meets (λ v. tests v m) (λ v. writes v n) → ⊥)
    (early : kind_of code x.frame (from code x vars).end ≡ Early) where
  abbrev left : List Value
  left = (from code y vars).vars

  agrees : Agree (λ v. tests v m) vars left
  agrees = agree_back (λ v. tests v m) left vars (untouched code n y second vars few (λ v. tests v m)
      (λ h. apart (h.0, h.1, h.3, h.2)))

  after : SameResult (from code x left) (from code x vars)
  after = same_back (from code x vars) (from code x left) (first.result vars left agrees early)

  idle : (from code x vars).vars ≡ vars
  idle = first.idle vars early

  later : (from code x left).vars ≡ left
  later = first.idle left (ap (λ e. kind_of code x.frame e) after.end ∙ early)

  -- an early step changes places with a step whose procedure doesn't write what the early one's tests
  pub early_swaps : Swaps code x y vars
  early_swaps = record {
    first = after;
    second = subst (λ vs. SameResult (from code y vars) (from code y vs)) (sym idle)
        (same_itself (from code y vars));
    variables = later ∙ ap (λ vs. (from code y vs).vars) (sym idle);
  }

-- a step that rejects and changes nothing, as one does from a rejection place
pub record OnlyRejects (code : List Method) (y : Start) : Type 0 where
  pub method : ℕ
  pub is : (vars : List Value) → from code y vars ≡ leaves method y.budget vars E.Rejected

-- two steps that leave the same but for their variables have the same result
same_but : (s t : Stepped) (method budget : ℕ) (vars others : List Value) →
    s ≡ leaves method budget vars E.Rejected → t ≡ leaves method budget others E.Rejected → SameResult s t
same_but s t method budget vars others h g = record {
  frame = ap (λ (s : Stepped). s.frame) h ∙ sym (ap (λ (s : Stepped). s.frame) g);
  budget = ap (λ (s : Stepped). s.budget) h ∙ sym (ap (λ (s : Stepped). s.budget) g);
  end = ap (λ (s : Stepped). s.end) h ∙ sym (ap (λ (s : Stepped). s.end) g);
}

module _ (code : List Method) (x y : Start) (vars : List Value) where
  stays_idle : (z : Start) → OnlyRejects code z → (from code z vars).vars ≡ vars
  stays_idle z h = ap (λ (s : Stepped). s.vars) (h.is vars)

  -- such a step changes places with any step
  pub idle_second : OnlyRejects code y → Swaps code x y vars
  idle_second h = record {
    first = subst (λ vs. SameResult (from code x vs) (from code x vars)) (sym (stays_idle y h))
        (same_itself (from code x vars));
    second = same_but (from code y vars) (from code y (from code x vars).vars) h.method y.budget vars
        (from code x vars).vars (h.is vars) (h.is (from code x vars).vars);
    variables = ap (λ vs. (from code x vs).vars) (stays_idle y h) ∙ sym (ap (λ (s : Stepped). s.vars)
        (h.is (from code x vars).vars));
  }

  pub idle_first : OnlyRejects code x → Swaps code x y vars
  idle_first h = record {
    first = same_but (from code x (from code y vars).vars) (from code x vars) h.method x.budget
        (from code y vars).vars vars (h.is (from code y vars).vars) (h.is vars);
    second = subst (λ vs. SameResult (from code y vars) (from code y vs)) (sym (stays_idle x h))
        (same_itself (from code y vars));
    variables = ap (λ (s : Stepped). s.vars) (h.is (from code y vars).vars)
        ∙ ap (λ vs. (from code y vs).vars) (sym (stays_idle x h));
  }
