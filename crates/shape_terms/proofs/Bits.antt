-- The numbers of values in the words of the integer types.
use Rattle.std.proofs.Common.{◌≡◌, ◌^◌, ℤ, pos, negsuc, Bool, true, List, All}
use Rattle.std.specs.Int.{w64}
use Rattle.std.specs.Int.RustNames.{FitsSigned}
use Rattle.std.proofs.lemmas.Int.{ints}
use Rattle.std.proofs.lemmas.Bool.{ltb-true, lt-ltb}
use Rattle.seuss_program.specs.declared.state.Value.{Value}
use Rattle.seuss_program.specs.declared.state.Value.TheVariants as V
use Rattle.seuss_program.specs.Values.{fits, HasSize}

-- a number that fits has 64 bits with its sign
pub signed : (z : ℤ) → fits z ≡ true → FitsSigned w64 z
signed (pos n) h = record { sfits = ltb-true n (2 ^ 63) h }
signed (negsuc n) h = record { sfits = ltb-true n (2 ^ 63) h }

-- and one that has them fits
pub fitting : (z : ℤ) → FitsSigned w64 z → fits z ≡ true
fitting (pos n) h = lt-ltb n (2 ^ 63) h.sfits
fitting (negsuc n) h = lt-ltb n (2 ^ 63) h.sfits

-- the numbers of a value have 64 bits
abbrev pub HasBits : Value → Type 0
HasBits (V.Int z) = FitsSigned w64 z
HasBits (V.Bool b) = Unit {0}
HasBits (V.Seq zs) = All (FitsSigned w64) zs

-- what holds of all items, in other words
all_of : {X : Type 0} (P Q : X → Type 0) → ((x : X) → P x → Q x) → (xs : List X) → All P xs → All Q xs
all_of P Q f xs a = λ k d less. f _ (a k d less)

bits_of : (v : Value) → HasSize v → HasBits v
bits_of (V.Int z) h = signed z h
bits_of (V.Bool b) h = tt
bits_of (V.Seq zs) h = all_of _ _ (λ z. signed z) zs h

size_of : (v : Value) → HasBits v → HasSize v
size_of (V.Int z) h = fitting z h
size_of (V.Bool b) h = tt
size_of (V.Seq zs) h = all_of _ _ (λ z. fitting z) zs h

-- the same of values
pub all_bits_of : (vs : List Value) → All HasSize vs → All HasBits vs
all_bits_of = all_of HasSize HasBits bits_of

pub all_sizes_of : (vs : List Value) → All HasBits vs → All HasSize vs
all_sizes_of = all_of HasBits HasSize size_of
