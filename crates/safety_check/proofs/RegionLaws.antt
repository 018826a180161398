-- The values that regions stand for.
use Rattle.std.proofs.Common.{◌≡◌, ℕ, suc, ◌-◌, ℤ, pos, negsuc, ◌+ℤ◌, ◌-ℤ◌}
use Rattle.std.proofs.Common.{Bool, true, false, not, ◌&&◌, ◌||◌, if◌then◌else◌, List, [], ◌∷◌}
use Rattle.std.proofs.Common.{Option}
use Rattle.std.proofs.Common.{None, Some, Ok, Err, refl, sym, ap, subst, ◌∙◌, arith, length}
use Rattle.std.proofs.Common.{length-append}
use Rattle.std.specs.Prelude.{IfSome, IsSomeAnd, take, drop, option_map}
use Rattle.std.specs.Prelude.{slice_index_or, slice_get, All, int_div, int_rem, ◌*ℤ◌}
use Rattle.std.proofs.lemmas.List.Elements.{All-nil}
use Rattle.std.specs.Int.{w64, int_wrap}
use Rattle.std.specs.Ordering.{int_eq}
use Rattle.std.proofs.lemmas.Int.{ints}
use Rattle.seuss_base.specs.declared.outcome.Trap.TheVariants.{Overflow, ZeroDivisor}
use Rattle.seuss_program.specs.declared.state.Value.{Value}
use Rattle.seuss_program.specs.declared.state.Value.TheVariants as V
use Rattle.seuss_program.specs.declared.tree.Kind.TheVariants as K
use Rattle.seuss_program.specs.declared.tree.Op.{Op}
use Rattle.seuss_program.specs.declared.tree.Op.TheVariants as O
use Rattle.seuss_program.specs.declared.tree.Fun.{Fun}
use Rattle.seuss_program.specs.declared.tree.Fun.TheVariants as U
use Rattle.seuss_program.specs.Values.{Evaluated, fits, HasSize, exact, quotient, remainder, element}
use Rattle.seuss_program.specs.Values.{apply, measure, of_some, exact_length, same, int_of, bool_of, seq_of}
use Rattle.seuss_program.specs.Values.{found, is_comparison}
use Rattle.meaning_laws.proofs.FittingNumbers.{Fits, remainder-fits, all-or, all-get, wrapped-fits}
use Rattle.meaning_laws.proofs.ValueKinds.{Gives, int-fits}
use Rattle.safety_check.specs.Spans.{Span, Within, all_numbers, sums, differences}
use Rattle.safety_check.specs.Spans.{cut}
use Rattle.safety_check.specs.Spans.{shortened, raised}
use Rattle.safety_check.specs.Regions.{Region, Numbers, Truth, Lengths, Anything, Lies, numbers_of, truth_of}
use Rattle.safety_check.specs.Regions.{lengths_of, turned, same_truth, same_region, truth_round}
use Rattle.safety_check.specs.Regions.{region_round, exactly}
use Rattle.safety_check.specs.RegionValues.{Told, exact_region, apply_region, measure_region, length_region}
use Rattle.safety_check.proofs.SpanLaws.{fits-within, single-within, sums-within, differences-within}
use Rattle.safety_check.proofs.SpanLaws.{cut-within}
use Rattle.safety_check.proofs.SpanLaws.{wrapped-within, fits-of, lt-holds, le-holds, eq-holds}
use Rattle.safety_check.proofs.SpanLaws.{shortened-within}
use Rattle.safety_check.proofs.SpanLaws.{raised-within, round-left, round-right, difference-fits}

-- the number, the bool and the length of a value of a region
pub number-within : (r : Region) (v : Value) → Lies r v → Within (numbers_of r) (int_of v)
number-within (Numbers s) (V.Int z) h = h
number-within (Numbers s) (V.Bool b) h = absurd h
number-within (Numbers s) (V.Seq zs) h = absurd h
number-within (Truth k) (V.Int z) h = absurd h
number-within (Truth k) (V.Bool b) h = single-within (pos 0)
number-within (Truth k) (V.Seq zs) h = absurd h
number-within (Lengths s) (V.Int z) h = absurd h
number-within (Lengths s) (V.Bool b) h = absurd h
number-within (Lengths s) (V.Seq zs) h = single-within (pos 0)
number-within Anything (V.Int z) h = fits-within z h
number-within Anything (V.Bool b) h = fits-within (pos 0) refl
number-within Anything (V.Seq zs) h = fits-within (pos 0) refl

-- the bool of a value is what is told
pub truth-is : (r : Region) (v : Value) → Lies r v → IfSome (truth_of r) (λ k. bool_of v ≡ k)
truth-is (Numbers s) (V.Int z) h = refl
truth-is (Numbers s) (V.Bool b) h = absurd h
truth-is (Numbers s) (V.Seq zs) h = absurd h
truth-is (Truth k) (V.Int z) h = absurd h
truth-is (Truth k) (V.Bool b) h = h
truth-is (Truth k) (V.Seq zs) h = absurd h
truth-is (Lengths s) (V.Int z) h = absurd h
truth-is (Lengths s) (V.Bool b) h = absurd h
truth-is (Lengths s) (V.Seq zs) h = refl
truth-is Anything v h = tt

-- any length is one of all lengths
any-length : (n : ℕ) → Within (record { least = pos 0; most = None }) (pos n)
any-length n = record { from = omega (arith, ints); up_to = tt }

-- the length of a value is one of its region
pub length-within : (r : Region) (v : Value) → Lies r v → Within (lengths_of r) (pos (length (seq_of v)))
length-within (Numbers s) (V.Int z) h = single-within (pos 0)
length-within (Numbers s) (V.Bool b) h = absurd h
length-within (Numbers s) (V.Seq zs) h = absurd h
length-within (Truth k) (V.Int z) h = absurd h
length-within (Truth k) (V.Bool b) h = single-within (pos 0)
length-within (Truth k) (V.Seq zs) h = absurd h
length-within (Lengths s) (V.Int z) h = absurd h
length-within (Lengths s) (V.Bool b) h = absurd h
length-within (Lengths s) (V.Seq zs) h = h
length-within Anything (V.Int z) h = any-length 0
length-within Anything (V.Bool b) h = any-length 0
length-within Anything (V.Seq zs) h = any-length (length zs)

-- a value lies in its own region
pub exactly-lies : (v : Value) → Lies (exactly v) v
exactly-lies (V.Int z) = single-within z
exactly-lies (V.Bool b) = refl
exactly-lies (V.Seq zs) = single-within (pos (length zs))

-- what is told of an exact number
pub exact-told : (s : Span) (z : ℤ) → (Fits z → Within s z) → Told (exact_region s) (exact z)
exact-told s z h = by (fits z) refl
  where
    lies : (o : Option Span) → IsSomeAnd o (λ t. Within t z) →
        IsSomeAnd (option_map Numbers o) (λ r. Lies r (V.Int z))
    lies None g = g
    lies (Some t) g = g

    by : (b : Bool) → fits z ≡ b → Told (exact_region s) (if b then Ok (V.Int z) else Err Overflow)
    by true e = lies (cut s) (cut-within s z (h e) e)
    by false e = tt

-- a number of 64 bits, where it is one
pub all-told : (m : Evaluated) → Gives m K.Int → Told (Some (Numbers all_numbers)) m
all-told (Err t) h = tt
all-told (Ok (V.Int z)) h = fits-within z h.1
all-told (Ok (V.Bool b)) h = absurd (cc)
all-told (Ok (V.Seq zs)) h = absurd (cc)

-- a bool that is told, turned
known-not : (o : Option Bool) (b : Bool) → IfSome o (λ k. b ≡ k) → IfSome (turned o) (λ k. not b ≡ k)
known-not None b h = tt
known-not (Some k) b h = ap not h

-- `not` of a value
pub not-told : (r : Region) (v : Value) → Lies r v → Lies (Truth (turned (truth_of r)))
    (V.Bool (not (bool_of v)))
not-told r v h = known-not (truth_of r) (bool_of v) (truth-is r v h)

-- two bools that are told
same-known : (k l : Option Bool) (a b : Bool) → IfSome k (λ k. a ≡ k) → IfSome l (λ l. b ≡ l) →
    IfSome (same_truth k l) (λ m. (a && b) || (not a && not b) ≡ m)
same-known None l a b h g = tt
same-known (Some k) None a b h g = tt
same-known (Some k) (Some l) a b h g = ap (λ x. (x && b) || (not x && not b)) h
    ∙ ap (λ y. (k && y) || (not k && not y)) g

-- two values that are told the same, or not
pub same-told : (r q : Region) (x y : Value) → Lies r x → Lies q y →
    IfSome (same_region r q) (λ k. same x y ≡ k)
same-told (Numbers s) (Numbers t) (V.Int x) (V.Int y) h g = eq-holds s t x y h g
same-told (Numbers s) (Numbers t) (V.Int x) (V.Bool y) h g = absurd g
same-told (Numbers s) (Numbers t) (V.Int x) (V.Seq y) h g = absurd g
same-told (Numbers s) (Numbers t) (V.Bool x) y h g = absurd h
same-told (Numbers s) (Numbers t) (V.Seq x) y h g = absurd h
same-told (Numbers s) (Truth b) x y h g = tt
same-told (Numbers s) (Lengths t) x y h g = tt
same-told (Numbers s) Anything x y h g = tt
same-told (Truth a) (Numbers t) x y h g = tt
same-told (Truth a) (Truth b) (V.Bool x) (V.Bool y) h g = same-known a b x y h g
same-told (Truth a) (Truth b) (V.Bool x) (V.Int y) h g = absurd g
same-told (Truth a) (Truth b) (V.Bool x) (V.Seq y) h g = absurd g
same-told (Truth a) (Truth b) (V.Int x) y h g = absurd h
same-told (Truth a) (Truth b) (V.Seq x) y h g = absurd h
same-told (Truth a) (Lengths t) x y h g = tt
same-told (Truth a) Anything x y h g = tt
same-told (Lengths s) q x y h g = tt
same-told Anything q x y h g = tt

-- what is told of an operation that gives all numbers
exact-all : (z : ℤ) → Told (Some (Numbers all_numbers)) (exact z)
exact-all z = by (fits z) refl
  where
    by : (b : Bool) → fits z ≡ b → Told (Some (Numbers all_numbers))
        (if b then Ok (V.Int z) else Err Overflow)
    by true e = fits-within z e
    by false e = tt

-- a quotient may be any number
quotient-all : (x y : ℤ) → Told (Some (Numbers all_numbers)) (quotient x y)
quotient-all x y = by (int_eq y (pos 0))
  where
    by : (b : Bool) → Told (Some (Numbers all_numbers)) (if b then Err ZeroDivisor else exact (int_div x y))
    by true = tt
    by false = exact-all (int_div x y)

-- and so may a remainder
remainder-all : (x y : ℤ) → Fits y → Told (Some (Numbers all_numbers)) (remainder x y)
remainder-all x y small = by (int_eq y (pos 0)) refl (fits (int_div x y))
  where
    by : (b : Bool) → int_eq y (pos 0) ≡ b → (t : Bool) →
        Told (Some (Numbers all_numbers))
        (if b then Err ZeroDivisor else (if t then Ok (V.Int (int_rem x y)) else Err Overflow))
    by true e t = tt
    by false e true = fits-within (int_rem x y) (remainder-fits x y small e)
    by false e false = tt

-- an element that is found
found-all : (o : Option ℤ) → IfSome o Fits → Told (Some (Numbers all_numbers)) (found o)
found-all None h = tt
found-all (Some z) h = fits-within z h

-- an element of a sequence
element-all : (zs : List ℤ) (z : ℤ) → All Fits zs → Told (Some (Numbers all_numbers)) (element zs z)
element-all zs (pos n) all = found-all (slice_get zs n) (all-get Fits zs n all)
element-all zs (negsuc n) all = tt

-- an element that is taken from a sequence
some-all : (zs : List ℤ) (z : ℤ) → Fits z → Told (Some (Numbers all_numbers)) (of_some zs (V.Int z))
some-all [] z h = tt
some-all (y ∷ zs) z h = fits-within z h

-- the numbers of a sequence have 64 bits
seq-fits : (v : Value) → HasSize v → All Fits (seq_of v)
seq-fits (V.Int z) h = All-nil Fits
seq-fits (V.Bool b) h = All-nil Fits
seq-fits (V.Seq zs) h = h

-- two values under an operator
pub apply-told : (op : Op) (r q : Region) (x y : Value) → Lies r x → Lies q y →
    (is_comparison op ≡ false → HasSize x × HasSize y) →
    Told (apply_region op r q) (apply op x y)
apply-told O.Or r q x y h g a = tt
apply-told O.And r q x y h g a = tt
apply-told O.Eq r q x y h g a = same-told r q x y h g
apply-told O.Ne r q x y h g a = known-not (same_region r q) (same x y) (same-told r q x y h g)
apply-told O.Lt r q x y h g a =
    lt-holds (numbers_of r) (numbers_of q) (int_of x) (int_of y) (number-within r x h) (number-within q y g)
apply-told O.Le r q x y h g a =
    le-holds (numbers_of r) (numbers_of q) (int_of x) (int_of y) (number-within r x h) (number-within q y g)
apply-told O.Gt r q x y h g a =
    lt-holds (numbers_of q) (numbers_of r) (int_of y) (int_of x) (number-within q y g) (number-within r x h)
apply-told O.Ge r q x y h g a =
    le-holds (numbers_of q) (numbers_of r) (int_of y) (int_of x) (number-within q y g) (number-within r x h)
apply-told O.Plus r q x y h g a =
    exact-told (sums (numbers_of r) (numbers_of q)) (int_of x +ℤ int_of y)
    (λ f. sums-within (numbers_of r) (numbers_of q) (int_of x) (int_of y) (number-within r x h)
    (number-within q y g))
apply-told O.Minus r q x y h g a =
    exact-told (differences (numbers_of r) (numbers_of q)) (int_of x -ℤ int_of y)
    (λ f. differences-within (numbers_of r) (numbers_of q) (int_of x) (int_of y) (number-within r x h)
    (number-within q y g) f)
apply-told O.WrapPlus r q x y h g a =
    let s = sums (numbers_of r) (numbers_of q) in
    let w = sums-within (numbers_of r) (numbers_of q) (int_of x) (int_of y) (number-within r x h)
    (number-within q y g) in
    wrapped-within s (int_of x +ℤ int_of y) (λ f. w) (fits-of s (int_of x +ℤ int_of y) w)
apply-told O.WrapMinus r q x y h g a =
    let s = differences (numbers_of r) (numbers_of q) in
    wrapped-within s (int_of x -ℤ int_of y)
    (λ f. differences-within (numbers_of r) (numbers_of q) (int_of x) (int_of y) (number-within r x h)
    (number-within q y g) f)
    (difference-fits (numbers_of r) (numbers_of q) (int_of x) (int_of y) (number-within r x h)
    (number-within q y g))
apply-told O.Times r q x y h g a = exact-all (int_of x *ℤ int_of y)
apply-told O.Divide r q x y h g a = quotient-all (int_of x) (int_of y)
apply-told O.Remainder r q x y h g a = remainder-all (int_of x) (int_of y) (int-fits y (a refl).1)
apply-told O.At r q x y h g a = element-all (seq_of x) (int_of y) (seq-fits x (a refl).0)
apply-told O.Add r q x y h g a =
    subst (λ n. Within (raised (lengths_of r)) (pos n)) (sym (length-append (seq_of x) (int_of y ∷ [])))
    (raised-within (lengths_of r) (length (seq_of x)) (length-within r x h))

-- a function of a sequence
lengths-lie : (o : Option Span) (zs : List ℤ) → IsSomeAnd o (λ t. Within t (pos (length zs))) →
    IsSomeAnd (option_map Lengths o) (λ r. Lies r (V.Seq zs))
lengths-lie None zs h = h
lengths-lie (Some t) zs h = h

-- one element less
take-all-but : (z : ℤ) (rest : List ℤ) → length (take (length rest) (z ∷ rest)) ≡ length rest
take-all-but z [] = refl
take-all-but z (y ∷ rest) = ap suc (take-all-but y rest)

-- a function of a sequence
pub measure-told : (fun : Fun) (r : Region) (v : Value) → Lies r v → HasSize v →
    Told (measure_region fun r) (measure fun (seq_of v))
measure-told U.First r v h size =
    some-all (seq_of v) (slice_index_or (seq_of v) 0 (pos 0))
    (all-or Fits (seq_of v) 0 (pos 0) (seq-fits v size) refl)
measure-told U.Last r v h size =
    some-all (seq_of v) (slice_index_or (seq_of v) (length (seq_of v) - 1) (pos 0))
    (all-or Fits (seq_of v) (length (seq_of v) - 1) (pos 0) (seq-fits v size) refl)
measure-told U.Len r v h size = fits-within (int_wrap w64 (pos (length (seq_of v))))
    (wrapped-fits (pos (length (seq_of v))))
measure-told U.Rest r v h size = by (seq_of v) (length-within r v h)
  where
    by : (zs : List ℤ) → Within (lengths_of r) (pos (length zs)) →
        Told (measure_region U.Rest r) (of_some zs (V.Seq (drop 1 zs)))
    by [] w = tt
    by (z ∷ rest) w =
        lengths-lie (shortened (lengths_of r)) rest (shortened-within (lengths_of r) (length rest) w)
measure-told U.Front r v h size = by (seq_of v) (length-within r v h)
  where
    by : (zs : List ℤ) → Within (lengths_of r) (pos (length zs)) →
        Told (measure_region U.Front r) (of_some zs (V.Seq (take (length zs - 1) zs)))
    by [] w = tt
    by (z ∷ rest) w =
        let e : length rest ≡ suc (length rest) - 1 = omega arith in
        subst (λ n. Told (measure_region U.Front r) (Ok (V.Seq (take n (z ∷ rest))))) e
        (lengths-lie (shortened (lengths_of r)) (take (length rest) (z ∷ rest))
        (subst (λ n. IsSomeAnd (shortened (lengths_of r)) (λ t. Within t (pos n))) (sym (take-all-but z rest))
        (shortened-within (lengths_of r) (length rest) w)))

-- and beside a literal
pub length-told : (fun : Fun) (r : Region) (v : Value) → Lies r v → HasSize v →
    Told (length_region fun r) (exact_length fun (seq_of v))
length-told U.First r v h size = measure-told U.First r v h size
length-told U.Last r v h size = measure-told U.Last r v h size
length-told U.Rest r v h size = measure-told U.Rest r v h size
length-told U.Front r v h size = measure-told U.Front r v h size
length-told U.Len r v h size = length-within r v h

-- round two regions
truth-left : (k l : Option Bool) (b : Bool) → IfSome k (λ k. b ≡ k) → IfSome (truth_round k l) (λ k. b ≡ k)
truth-left None l b h = tt
truth-left (Some k) None b h = tt
truth-left (Some true) (Some true) b h = h
truth-left (Some true) (Some false) b h = tt
truth-left (Some false) (Some true) b h = tt
truth-left (Some false) (Some false) b h = h

-- a bool that two agree on, by the second one
truth-right : (k l : Option Bool) (b : Bool) → IfSome l (λ k. b ≡ k) → IfSome (truth_round k l) (λ k. b ≡ k)
truth-right None l b h = tt
truth-right (Some k) None b h = tt
truth-right (Some true) (Some true) b h = h
truth-right (Some true) (Some false) b h = tt
truth-right (Some false) (Some true) b h = tt
truth-right (Some false) (Some false) b h = h

-- a value of 64 bits in one of two regions lies in the region round both
pub lies-left : (r q : Region) (v : Value) → HasSize v → Lies r v → Lies (region_round r q) v
lies-left (Numbers s) (Numbers t) (V.Int z) size h = round-left s t z h
lies-left (Numbers s) (Numbers t) (V.Bool b) size h = absurd h
lies-left (Numbers s) (Numbers t) (V.Seq zs) size h = absurd h
lies-left (Numbers s) (Truth l) v size h = size
lies-left (Numbers s) (Lengths t) v size h = size
lies-left (Numbers s) Anything v size h = size
lies-left (Truth k) (Numbers t) v size h = size
lies-left (Truth k) (Truth l) (V.Int z) size h = absurd h
lies-left (Truth k) (Truth l) (V.Bool b) size h = truth-left k l b h
lies-left (Truth k) (Truth l) (V.Seq zs) size h = absurd h
lies-left (Truth k) (Lengths t) v size h = size
lies-left (Truth k) Anything v size h = size
lies-left (Lengths s) (Numbers t) v size h = size
lies-left (Lengths s) (Truth l) v size h = size
lies-left (Lengths s) (Lengths t) (V.Int z) size h = absurd h
lies-left (Lengths s) (Lengths t) (V.Bool b) size h = absurd h
lies-left (Lengths s) (Lengths t) (V.Seq zs) size h = round-left s t (pos (length zs)) h
lies-left (Lengths s) Anything v size h = size
lies-left Anything q v size h = size

-- and a value of the other region
pub lies-right : (r q : Region) (v : Value) → HasSize v → Lies q v → Lies (region_round r q) v
lies-right (Numbers s) (Numbers t) (V.Int z) size h = round-right s t z h
lies-right (Numbers s) (Numbers t) (V.Bool b) size h = absurd h
lies-right (Numbers s) (Numbers t) (V.Seq zs) size h = absurd h
lies-right (Numbers s) (Truth l) v size h = size
lies-right (Numbers s) (Lengths t) v size h = size
lies-right (Numbers s) Anything v size h = size
lies-right (Truth k) (Numbers t) v size h = size
lies-right (Truth k) (Truth l) (V.Int z) size h = absurd h
lies-right (Truth k) (Truth l) (V.Bool b) size h = truth-right k l b h
lies-right (Truth k) (Truth l) (V.Seq zs) size h = absurd h
lies-right (Truth k) (Lengths t) v size h = size
lies-right (Truth k) Anything v size h = size
lies-right (Lengths s) (Numbers t) v size h = size
lies-right (Lengths s) (Truth l) v size h = size
lies-right (Lengths s) (Lengths t) (V.Int z) size h = absurd h
lies-right (Lengths s) (Lengths t) (V.Bool b) size h = absurd h
lies-right (Lengths s) (Lengths t) (V.Seq zs) size h = round-right s t (pos (length zs)) h
lies-right (Lengths s) Anything v size h = size
lies-right Anything q v size h = size
