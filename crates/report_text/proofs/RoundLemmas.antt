-- The rounds of a report, written one after the other.
use Rattle.std.proofs.Common.{◌≡◌, ℕ, zero, suc, ◌+◌, ◌/◌, ◌==◌, List, [], ◌++◌, AllPairs, ◌≤◌, codes}
use Rattle.std.proofs.Common.{length, take, drop, sym, ◌∙◌, ap, subst, arith, append_assoc, append-nil}
use Rattle.std.specs.Fmt.{decimal}
use Rattle.std.specs.List.{range_with_len, flat_map, prefix_len}
use Rattle.seuss_program.specs.declared.order.Placed.{Placed}
use Rattle.seuss_program.specs.declared.program.Program.{Program}
use Rattle.seuss_program.specs.Orders.{slots_of}
use Rattle.seuss_program.specs.Reports.{attempt_line, line, of_round, round_text, rounds_shown, rounds_text}
use Rattle.report_text.proofs.RisingLemmas.{IsRest, rest_start, rest_next, filter_rest}

-- the pieces of one more number from a on
flat_map_range_from : (f : ℕ → List ℕ) (a n b : ℕ) → a + n ≡ b →
    flat_map f (range_with_len a (suc n)) ≡ flat_map f (range_with_len a n) ++ f b
flat_map_range_from f a zero b e = let same : a ≡ b = omega arith in rw same (simp append-nil)
flat_map_range_from f a (suc n) b e =
    ap (λ ys. f a ++ ys) (flat_map_range_from f (a + 1) n b (omega arith))
    ∙ sym (append_assoc (f a) (flat_map f (range_with_len (a + 1) n)) (f b))

-- the pieces of one more number from 0 on
pub flat_map_range_more : (f : ℕ → List ℕ) (n : ℕ) →
    flat_map f (range_with_len 0 (n + 1)) ≡ flat_map f (range_with_len 0 n) ++ f n
flat_map_range_more f n =
    let e : n + 1 ≡ suc n = omega arith in rw e (flat_map_range_from f 0 n n (omega arith))

-- the round of an attempt of a program
abbrev pub round_in : Program → Placed → ℕ
round_in p e = e.attempt / length (slots_of p)

-- these rounds of an order are written, and the rest of the order begins with the next one
pub record HasWritten (p : Program) (order : List Placed) (first round : ℕ) (text : List ℕ)
    (rest : List Placed) : Type 0 where
  pub written : text ≡ flat_map (round_text p order first) (range_with_len 0 round)
  pub left : IsRest (round_in p) round order rest

-- at first nothing is written
pub written_start : (p : Program) (order : List Placed) (first : ℕ) (text : List ℕ) (rest : List Placed) →
    AllPairs (λ x y. round_in p x ≤ round_in p y) order →
    text ≡ [] → rest ≡ order → HasWritten p order first 0 text rest
written_start p order first text rest rising none whole = record {
  written = none;
  left = rw whole (rest_start (round_in p) order rising);
}

-- the head of a round and the lines of its attempts are one more round
pub written_more : (p : Program) (order : List Placed) (first round : ℕ) (text head after : List ℕ)
    (rest now later : List Placed) (n m : ℕ) →
    HasWritten p order first round text rest → n ≡ length (slots_of p) →
    m ≡ prefix_len (λ (e : Placed). e.attempt / n == round) rest →
    now ≡ take m rest → later ≡ drop m rest →
    head ≡ text ++ line (codes "round " ++ decimal (first + round)) →
    after ≡ head ++ flat_map (attempt_line p) now →
    HasWritten p order first (round + 1) after later
written_more p order first round text head after rest now later n m h count run front back headed lined =
    record {
      written = rw (flat_map_range_more (round_text p order first) round, lined, headed, h.written, own)
          (append_assoc so_far (line (codes "round " ++ decimal (first + round)))
          (flat_map (attempt_line p) now));
      left = rw (back, front_len) (rest_next (round_in p) round order rest h.left);
    }
  where
    so_far : List ℕ
    so_far = flat_map (round_text p order first) (range_with_len 0 round)

    front_len : m ≡ prefix_len (λ e. round_in p e == round) rest
    front_len =
        let P : ℕ → Type 0 = λ k. m ≡ prefix_len (λ (e : Placed). e.attempt / k == round) rest in
        subst P count run

    own : of_round (length (slots_of p)) round order ≡ now
    own =
        filter_rest (round_in p) round order rest h.left ∙ sym (ap (λ k. take k rest) front_len)
        ∙ sym front

-- all rounds that are shown are the rounds of the report
pub written_all : (p : Program) (order whole : List Placed) (first rounds round shown n : ℕ) (text : List ℕ)
    (rest : List Placed) →
    HasWritten p order first round text rest → n ≡ length (slots_of p) → whole ≡ order →
    shown ≡ rounds_shown n rounds whole → round ≡ shown → text ≡ rounds_text p order first rounds
written_all p order whole first rounds round shown n text rest h count same e at =
    let here : round ≡ rounds_shown (length (slots_of p)) rounds order = cc in
    h.written ∙ ap (λ k. flat_map (round_text p order first) (range_with_len 0 k)) here
