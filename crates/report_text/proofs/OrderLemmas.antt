-- Orders of which the reports are the same bytes have the same attempts in each round, and are the same.
use Rattle.std.proofs.Common.{◌≡◌, ◌≢◌, ℕ, zero, suc, ◌+◌, ◌*◌, ◌/◌, ◌%◌, ◌<◌, ◌≤◌, ◌==◌, ◌⊎◌, inl, inr}
use Rattle.std.proofs.Common.{Bool, true, false, IsTrue, List, [], ◌∷◌, ◌++◌, All, Any, codes, get_or}
use Rattle.std.proofs.Common.{length, Some, refl, sym, ◌∙◌, ap, subst, append_assoc, arith}
use Rattle.std.specs.Prelude.{slice_get}
use Rattle.std.specs.Fmt.{decimal}
use Rattle.std.specs.List.{flat_map, range_with_len}
use Rattle.std.proofs.Math.Nat.{div-lt_iff_lt-mul}
use Rattle.std.proofs.lemmas.Bool.{cases_lt, eqb-true}
use Rattle.std.proofs.lemmas.Option.{slice_get-get_or}
use Rattle.std.proofs.lemmas.List.{append_cancel_left}
use Rattle.std.proofs.lemmas.List.Elements.{All-head, All-tail, All-filter, filter_passes}
use Rattle.seuss_base.specs.declared.outcome.Outcome.{Outcome}
use Rattle.seuss_base.specs.declared.outcome.Outcome.TheVariants as O
use Rattle.seuss_program.specs.declared.program.Program.{Program}
use Rattle.seuss_program.specs.declared.program.ActionInfo.{ActionInfo}
use Rattle.seuss_program.specs.declared.state.State.{State}
use Rattle.seuss_program.specs.declared.order.Placed.{Placed}
use Rattle.seuss_program.specs.Keeping.{Keeps}
use Rattle.seuss_program.specs.Orders.{slots_of, action_of, stops, IsLawful, IsStopped, IsWhole}
use Rattle.seuss_program.specs.Reports.{line, attempt_line, of_round, round_text, rounds_up_to}
use Rattle.seuss_program.specs.Reports.{rounds_shown, last_line, end_text, report}
use Rattle.report_text.specs.Names.{HasNames}
use Rattle.report_text.proofs.RisingLemmas.{IsRisingFrom}
use Rattle.report_text.proofs.AgreeingLists.{AgreeAt, filter_none, same_lists}
use Rattle.report_text.proofs.LineLemmas.{Head, Attempt, End, kind_of, kind_head, kind_attempt, kind_end}
use Rattle.report_text.proofs.LineLemmas.{attempts_same}
use Rattle.report_text.proofs.ActionNames.{same_action}
use Rattle.report_text.proofs.SlotLemmas.{slot_within, one_slot}

-- the first attempt that stopped the run is of the last round, so the rounds up to it are shown
shown_stopped : (n rounds round : ℕ) (order : List Placed) →
    Any (λ (e : Placed). IsTrue (stops e.outcome)) order →
    All (λ (e : Placed). IsTrue (stops e.outcome) → e.attempt / n ≡ round) order →
    rounds_shown n rounds order ≡ round + 1
shown_stopped n rounds round [] some there = absurd (nowhere some)
  where
    nowhere : Any (λ (e : Placed). IsTrue (stops e.outcome)) [] → ⊥
    nowhere (k, x, within, at, stopped) = omega arith
shown_stopped n rounds round (e ∷ es) some there =
    by e.outcome refl (first_or_later some)
    (λ more. shown_stopped n rounds round es more
    (All-tail (λ (d : Placed). IsTrue (stops d.outcome) → d.attempt / n ≡ round) e es there))
  where
    first : IsTrue (stops e.outcome) → e.attempt / n ≡ round
    first = All-head (λ (d : Placed). IsTrue (stops d.outcome) → d.attempt / n ≡ round) e es there

    first_or_later : Any (λ (d : Placed). IsTrue (stops d.outcome)) (e ∷ es) →
        IsTrue (stops e.outcome) ⊎ Any (λ (d : Placed). IsTrue (stops d.outcome)) es
    first_or_later (zero, x, within, at, stopped) =
        inl (subst (λ (d : Placed). IsTrue (stops d.outcome)) (sym at) stopped)
    first_or_later (suc k, x, within, at, stopped) = inr (k, x, omega arith, at, stopped)

    later_one : {A B : Type 0} → (A → ⊥) → A ⊎ B → B
    later_one never (inl a) = absurd (never a)
    later_one never (inr b) = b

    by : (o : Outcome) → e.outcome ≡ o →
        IsTrue (stops e.outcome) ⊎ Any (λ (d : Placed). IsTrue (stops d.outcome)) es →
        (Any (λ (d : Placed). IsTrue (stops d.outcome)) es → rounds_shown n rounds es ≡ round + 1) →
        rounds_up_to o (e.attempt / n) (rounds_shown n rounds es) ≡ round + 1
    by O.Accepted is found more = more (later_one (λ (h : stops e.outcome ≡ true). cc) found)
    by O.Rejected is found more = more (later_one (λ (h : stops e.outcome ≡ true). cc) found)
    by (O.Trapped t) is found more = ap (λ k. k + 1) (first (ap stops is))
    by O.Spent is found more = ap (λ k. k + 1) (first (ap stops is))

-- where no attempt stopped the run, all rounds are shown
shown_whole : (n rounds : ℕ) (order : List Placed) → All (λ (e : Placed). stops e.outcome ≡ false) order →
    rounds_shown n rounds order ≡ rounds
shown_whole n rounds [] none = refl
shown_whole n rounds (e ∷ es) none =
    by e.outcome (All-head (λ (d : Placed). stops d.outcome ≡ false) e es none)
    (shown_whole n rounds es (All-tail (λ (d : Placed). stops d.outcome ≡ false) e es none))
  where
    by : (o : Outcome) → stops o ≡ false → rounds_shown n rounds es ≡ rounds →
        rounds_up_to o (e.attempt / n) (rounds_shown n rounds es) ≡ rounds
    by O.Accepted goes rest = rest
    by O.Rejected goes rest = rest
    by (O.Trapped t) goes rest = cc
    by O.Spent goes rest = cc

-- there are slots where there is an attempt
some_slots : (a n rounds : ℕ) → a < rounds * n → 0 < n
some_slots a zero rounds within = omega arith
some_slots a (suc n) rounds within = omega arith

-- every attempt is of a round that is shown
pub all_shown : (slots : List ℕ) (rounds : ℕ) (order : List Placed) → IsLawful slots rounds order →
    All (λ (e : Placed). e.attempt / length slots < rounds_shown (length slots) rounds order) order
all_shown slots rounds order lawful = by lawful.end
  where
    by : IsWhole (length slots) rounds order ⊎ ((round : ℕ) × IsStopped (length slots) round order) →
        All (λ (e : Placed). e.attempt / length slots < rounds_shown (length slots) rounds order) order
    by (inl whole) = λ i d within.
        let below : (get_or order i d).attempt < rounds * length slots = lawful.within i d within in
        let round : (get_or order i d).attempt / length slots < rounds =
        (div-lt_iff_lt-mul (some_slots (get_or order i d).attempt (length slots) rounds below)).1 below in
        let shown = shown_whole (length slots) rounds order whole.none in omega arith
    by (inr (round, stopped)) = λ i d within.
        let last : (get_or order i d).attempt / length slots ≤ round = stopped.last i d within in
        let shown = shown_stopped (length slots) rounds round order stopped.some stopped.there in omega arith

-- a number is told by its quotient and its remainder
same_number : (n a b : ℕ) → 0 < n → a / n ≡ b / n → a % n ≡ b % n → a ≡ b
same_number n a b some quotient rest = let product = ap (λ q. n * q) quotient in omega arith

module _ (p : Program) (keeps : Keeps p) (names : HasNames p) where
  -- an attempt of this round, of the action of its slot
  record IsIn (round : ℕ) (e : Placed) : Type 0 where
    action_is : e.action ≡ action_of (slots_of p) (e.attempt % length (slots_of p))
    slot_within : e.attempt % length (slots_of p) < length (slots_of p)
    round_is : e.attempt / length (slots_of p) ≡ round

  -- the attempts of a round of a lawful order are of the round
  are_in : (rounds : ℕ) (order : List Placed) → IsLawful (slots_of p) rounds order → (round : ℕ) →
      All (IsIn round) (of_round (length (slots_of p)) round order)
  are_in rounds order lawful round = λ i d within.
      let e = get_or (of_round (length (slots_of p)) round order) i d in
      let below : e.attempt < rounds * length (slots_of p) =
      All-filter in_round (λ (x : Placed). x.attempt < rounds * length (slots_of p)) order
      lawful.within i d within in
      let some : 0 < length (slots_of p) = some_slots e.attempt (length (slots_of p)) rounds below in
      record {
        action_is = All-filter in_round
            (λ (x : Placed). x.action ≡ action_of (slots_of p) (x.attempt % length (slots_of p))) order
            lawful.actions i d within;
        slot_within = omega arith;
        round_is =
            eqb-true (e.attempt / length (slots_of p)) round (filter_passes in_round order i d within);
      }
    where
      in_round : Placed → Bool
      in_round x = x.attempt / length (slots_of p) == round

  -- the action of an attempt is there
  action_there : (round : ℕ) (e : Placed) → IsIn round e →
      slice_get p.actions e.action
      ≡ Some (get_or p.actions e.action (record { box_number = 0; procedure = 0 }))
  action_there round e is =
      let within : e.action < length p.actions = subst (λ a. a < length p.actions) (sym is.action_is)
      (slot_within p (e.attempt % length (slots_of p)) is.slot_within) in
      slice_get-get_or p.actions e.action (record { box_number = 0; procedure = 0 }) within

  -- the round, the action and the outcome are the whole of an attempt
  same_attempt : (round : ℕ) (e f : Placed) → IsIn round e → IsIn round f → e.action ≡ f.action →
      e.outcome ≡ f.outcome → e ≡ f
  same_attempt round e f one two action outcome =
      let quotient : e.attempt / length (slots_of p) ≡ f.attempt / length (slots_of p) =
      one.round_is ∙ sym two.round_is in
      let slot : e.attempt % length (slots_of p) ≡ f.attempt % length (slots_of p) =
      one_slot p (e.attempt % length (slots_of p)) (f.attempt % length (slots_of p)) one.slot_within
      two.slot_within (sym one.action_is ∙ (action ∙ two.action_is)) in
      let some : 0 < length (slots_of p) = omega (arith, one.slot_within) in
      let attempt = same_number (length (slots_of p)) e.attempt f.attempt some quotient slot in
      ap (λ a. made a e.action e.outcome) attempt
      ∙ (ap (λ a. made f.attempt a e.outcome) action ∙ ap (λ o. made f.attempt f.action o) outcome)
    where
      made : ℕ → ℕ → Outcome → Placed
      made attempt action outcome = record { attempt = attempt; action = action; outcome = outcome }

  -- texts of one kind aren't of another
  kinds_differ : (text other : List ℕ) → text ≡ other → kind_of text ≢ Attempt → kind_of other ≡ Attempt → ⊥
  kinds_differ text other same first second = first (ap kind_of same ∙ second)

  -- the line of the first attempt stands in front
  lines_text : (e : Placed) (es : List Placed) (rest : List ℕ) → flat_map (attempt_line p) (e ∷ es) ++ rest
      ≡ attempt_line p e ++ (flat_map (attempt_line p) es ++ rest)
  lines_text e es rest = append_assoc (attempt_line p e) (flat_map (attempt_line p) es) rest

  -- the lines of attempts begin with that of an attempt
  kind_lines : (round : ℕ) (e : Placed) (es : List Placed) (rest : List ℕ) → All (IsIn round) (e ∷ es) →
      kind_of (flat_map (attempt_line p) (e ∷ es) ++ rest) ≡ Attempt
  kind_lines round e es rest are =
      let is : IsIn round e = All-head (IsIn round) e es are in
      ap kind_of (lines_text e es rest)
      ∙ kind_attempt p names e (get_or p.actions e.action (record { box_number = 0; procedure = 0 }))
      (flat_map (attempt_line p) es ++ rest) (action_there round e is)

  -- The lines of the attempts of a round tell them, before a text that begins with no attempt.
  attempts_told : (round : ℕ) (xs ys : List Placed) (rest other : List ℕ) → All (IsIn round) xs →
      All (IsIn round) ys → kind_of rest ≢ Attempt → kind_of other ≢ Attempt →
      flat_map (attempt_line p) xs ++ rest ≡ flat_map (attempt_line p) ys ++ other →
      (xs ≡ ys) × (rest ≡ other)
  attempts_told round [] [] rest other first second end stop same = (refl, same)
  attempts_told round [] (y ∷ ys) rest other first second end stop same =
      absurd (kinds_differ rest (flat_map (attempt_line p) (y ∷ ys) ++ other) same end
      (kind_lines round y ys other second))
  attempts_told round (x ∷ xs) [] rest other first second end stop same =
      absurd (kinds_differ other (flat_map (attempt_line p) (x ∷ xs) ++ rest) (sym same) stop
      (kind_lines round x xs rest first))
  attempts_told round (x ∷ xs) (y ∷ ys) rest other first second end stop same =
      let none : ActionInfo = record { box_number = 0; procedure = 0 } in
      let a = get_or p.actions x.action none in
      let b = get_or p.actions y.action none in
      let one : IsIn round x = All-head (IsIn round) x xs first in
      let two : IsIn round y = All-head (IsIn round) y ys second in
      let lines = sym (lines_text x xs rest) ∙ (same ∙ lines_text y ys other) in
      let told = attempts_same p names x y a b (flat_map (attempt_line p) xs ++ rest)
      (flat_map (attempt_line p) ys ++ other) (action_there round x one) (action_there round y two) lines in
      let action = same_action p keeps names x.action y.action a b (action_there round x one)
      (action_there round y two) told.boxes told.procs in
      let here = same_attempt round x y one two action told.outcomes in
      let more = attempts_told round xs ys rest other (All-tail (IsIn round) x xs first)
      (All-tail (IsIn round) y ys second) end stop told.rests in
      (ap (λ z. z ∷ xs) here ∙ ap (λ zs. y ∷ zs) more.0, more.1)

  -- the rounds of an order from one on
  abbrev rounds_from : List Placed → ℕ → ℕ → List ℕ
  rounds_from order from count = flat_map (round_text p order 1) (range_with_len from count)

  -- the line at the head of a round
  abbrev head_of : ℕ → List ℕ
  head_of round = line (codes "round " ++ decimal (1 + round))

  -- the head of the first round stands in front, and then its attempts
  rounds_split : (order : List Placed) (from count : ℕ) (rest : List ℕ) →
      rounds_from order from (suc count) ++ rest
      ≡ head_of from ++ (flat_map (attempt_line p) (of_round (length (slots_of p)) from order)
      ++ (rounds_from order (from + 1) count ++ rest))
  rounds_split order from count rest =
      let lines = flat_map (attempt_line p) (of_round (length (slots_of p)) from order) in
      append_assoc (head_of from ++ lines) (rounds_from order (from + 1) count) rest
      ∙ append_assoc (head_of from) lines (rounds_from order (from + 1) count ++ rest)

  -- a round and what follows begin with the head of a round
  kind_rounds : (order : List Placed) (from count : ℕ) (rest : List ℕ) →
      kind_of (rounds_from order from (suc count) ++ rest) ≡ Head
  kind_rounds order from count rest = ap kind_of (rounds_split order from count rest)
      ∙ kind_head (decimal (1 + from)) (flat_map (attempt_line p) (of_round (length (slots_of p)) from order)
      ++ (rounds_from order (from + 1) count ++ rest))

  -- rounds, and what ends a report, begin with no attempt
  not_attempts : (order : List Placed) (from count : ℕ) (rest : List ℕ) → kind_of rest ≡ End →
      kind_of (rounds_from order from count ++ rest) ≢ Attempt
  not_attempts order from zero rest end is = apart (sym end ∙ is)
    where
      apart : End ≡ Attempt → ⊥
      apart e = cc
  not_attempts order from (suc count) rest end is = apart (sym (kind_rounds order from count rest) ∙ is)
    where
      apart : Head ≡ Attempt → ⊥
      apart e = cc

  -- what ends a report is no text that begins with a round
  ends_apart : (rest text : List ℕ) → kind_of rest ≡ End → kind_of text ≡ Head → rest ≡ text → ⊥
  ends_apart rest text end head same = apart (sym end ∙ (ap kind_of same ∙ head))
    where
      apart : End ≡ Head → ⊥
      apart e = cc

  -- what two orders have in common by their rounds from one on
  record AgreeFrom (order other : List Placed) (from count count' : ℕ) : Type 0 where
    counts : count ≡ count'
    rounds : (round : ℕ) → from ≤ round → round < from + count →
        of_round (length (slots_of p)) round order ≡ of_round (length (slots_of p)) round other

  -- The rounds tell the attempts of each, before a text that begins as what ends a report.
  rounds_told : (order other : List Placed) →
      ((round : ℕ) → All (IsIn round) (of_round (length (slots_of p)) round order)) →
      ((round : ℕ) → All (IsIn round) (of_round (length (slots_of p)) round other)) →
      (from count count' : ℕ) (rest rest' : List ℕ) → kind_of rest ≡ End → kind_of rest' ≡ End →
      rounds_from order from count ++ rest ≡ rounds_from other from count' ++ rest' →
      AgreeFrom order other from count count'
  rounds_told order other first second from zero zero rest rest' end stop same =
      record { counts = refl; rounds = λ round low high. absurd (omega arith) }
  rounds_told order other first second from zero (suc count') rest rest' end stop same =
      absurd (ends_apart rest (rounds_from other from (suc count') ++ rest') end
      (kind_rounds other from count' rest') same)
  rounds_told order other first second from (suc count) zero rest rest' end stop same =
      absurd (ends_apart rest' (rounds_from order from (suc count) ++ rest) stop
      (kind_rounds order from count rest) (sym same))
  rounds_told order other first second from (suc count) (suc count') rest rest' end stop same =
      let later = rounds_from order (from + 1) count ++ rest in
      let later' = rounds_from other (from + 1) count' ++ rest' in
      let here = of_round (length (slots_of p)) from order in
      let here' = of_round (length (slots_of p)) from other in
      let lines = append_cancel_left (head_of from) (flat_map (attempt_line p) here ++ later)
      (flat_map (attempt_line p) here' ++ later')
      (sym (rounds_split order from count rest) ∙ (same ∙ rounds_split other from count' rest')) in
      let told = attempts_told from here here' later later' (first from) (second from)
      (not_attempts order (from + 1) count rest end)
      (not_attempts other (from + 1) count' rest' stop) lines in
      let more = rounds_told order other first second (from + 1) count count' rest rest' end stop told.1 in
      record {
        counts = ap suc more.counts;
        rounds = λ round low high. elim (cases_lt from round) [
          | inl later ↦ more.rounds round (omega arith) (omega arith)
          | inr least ↦
              let same_round : round ≡ from = omega arith in
              subst (λ r. of_round (length (slots_of p)) r order ≡ of_round (length (slots_of p)) r other)
              (sym same_round) told.0
        ];
      }

  -- Lawful orders of which the reports are the same bytes are the same.
  pub same_orders : (rounds : ℕ) (order other : List Placed) (state after : State) →
      IsLawful (slots_of p) rounds order → IsLawful (slots_of p) rounds other →
      report p rounds order state ≡ report p rounds other after → order ≡ other
  same_orders rounds order other state after lawful lawful' same =
      same_lists round_of order other (rises order lawful) (rises other lawful') agree
    where
      round_of : Placed → ℕ
      round_of e = e.attempt / length (slots_of p)

      rises : (es : List Placed) → IsLawful (slots_of p) rounds es → IsRisingFrom round_of 0 es
      rises es law = record { rising = law.rising; low = λ i d within. omega arith }

      told : AgreeFrom order other 0 (rounds_shown (length (slots_of p)) rounds order)
          (rounds_shown (length (slots_of p)) rounds other)
      told = rounds_told order other (are_in rounds order lawful) (are_in rounds other lawful') 0
          (rounds_shown (length (slots_of p)) rounds order) (rounds_shown (length (slots_of p)) rounds other)
          (end_text p (last_line order) state) (end_text p (last_line other) after)
          (kind_end p names (last_line order) state) (kind_end p names (last_line other) after) same

      agree : (round : ℕ) → AgreeAt round_of order other round
      agree round = elim (cases_lt round (rounds_shown (length (slots_of p)) rounds order)) [
        | inl here ↦ told.rounds round (omega arith) (omega arith)
        | inr past ↦
            let counts = told.counts in
            filter_none round_of (rounds_shown (length (slots_of p)) rounds order) round order
            (all_shown (slots_of p) rounds order lawful) past
            ∙ sym (filter_none round_of (rounds_shown (length (slots_of p)) rounds other) round other
            (all_shown (slots_of p) rounds other lawful') (omega arith))
      ]
