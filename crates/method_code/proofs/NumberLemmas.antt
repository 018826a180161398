-- The numbers of procedures over all cats.
use Rattle.std.proofs.Common.{◌≡◌, ℕ, zero, suc, ◌+◌, ◌<◌, ◌≤◌, List, [], ◌∷◌, ◌++◌, length, map, take}
use Rattle.std.proofs.Common.{Option, Some, None, refl, sym, ap, ◌∙◌, arith, length-append}
use Rattle.std.specs.Prelude.{slice_get, unwrap_or, option_map, option_and_then}
use Rattle.std.proofs.lemmas.List.{length-map}
use Rattle.std.proofs.lemmas.Option.{none-some, slice_get_past}
use Rattle.seuss_program.specs.declared.tree.Ref.{Ref}
use Rattle.seuss_program.specs.declared.tree.Cat.{Cat}
use Rattle.seuss_program.specs.declared.tree.Proc.{Proc}
use Rattle.seuss_program.specs.declared.program.Program.{Program}
use Rattle.seuss_program.specs.declared.program.BoxInfo.{BoxInfo}
use Rattle.seuss_program.specs.Programs.{procedure_of}
use Rattle.method_code.specs.Codes.{method_code, cats_code, compiled, number_at, number_of, cat_number}

-- nothing is missing below the length
here : {X : Type 0} (xs : List X) (n : ℕ) → n < length xs → slice_get xs n ≡ None → ⊥
here [] n h e = absurd (omega (arith, h))
here (x ∷ xs) zero h e = none-some x (sym e)
here (x ∷ xs) (suc n) h e = here xs n (omega (arith, h)) e

-- a value that is found is one value
pub same_some : {X : Type 0} (x y : X) → Some x ≡ Some y → x ≡ y
same_some x y h = ap (λ o. unwrap_or o x) h

-- the procedures of a cat and of those before it are no more than all
pub count-through : (cats : List (Cat Ref)) (n : ℕ) (c : Cat Ref) → slice_get cats n ≡ Some c →
    length (cats_code (take n cats)) + length c.procs ≤ length (cats_code cats)
count-through [] n c h = absurd (none-some c h)
count-through (d ∷ cats) zero c h =
    let same : length d.procs ≡ length c.procs = ap (λ (x : Cat Ref). length x.procs) (same_some d c h) in
    omega (
      arith,
      same,
      length-append (map method_code d.procs) (cats_code cats),
      length-map d.procs
          method_code,
    )
count-through (d ∷ cats) (suc n) c h =
    omega (
      arith,
      count-through cats n c h,
      length-append (map method_code d.procs) (cats_code cats),
      length-append (map method_code d.procs) (cats_code (take n cats)),
    )

-- an item of the first list
get-front : {X : Type 0} (xs ys : List X) (n : ℕ) (x : X) → slice_get xs n ≡ Some x →
    slice_get (xs ++ ys) n ≡ Some x
get-front [] ys n x h = absurd (none-some x h)
get-front (y ∷ xs) ys zero x h = h
get-front (y ∷ xs) ys (suc n) x h = get-front xs ys n x h

-- an item after the first list
get-after : {X : Type 0} (xs ys : List X) (n : ℕ) → slice_get (xs ++ ys) (length xs + n) ≡ slice_get ys n
get-after [] ys n = let e : 0 + n ≡ n = omega arith in ap (slice_get ys) e
get-after (x ∷ xs) ys n =
    let e : length (x ∷ xs) + n ≡ suc (length xs + n) = omega arith in
    ap (slice_get (x ∷ (xs ++ ys))) e ∙ get-after xs ys n

-- an item of images
get-map : {X Y : Type 0} (f : X → Y) (xs : List X) (n : ℕ) (x : X) → slice_get xs n ≡ Some x →
    slice_get (map f xs) n ≡ Some (f x)
get-map f [] n x h = absurd (none-some x h)
get-map f (y ∷ xs) zero x h = ap (λ z. Some (f z)) (same_some y x h)
get-map f (y ∷ xs) (suc n) x h = get-map f xs n x h

-- the code of a procedure stands at its number
code-at : (cats : List (Cat Ref)) (n k : ℕ) (c : Cat Ref) (q : Proc Ref) → slice_get cats n ≡ Some c →
    slice_get c.procs k ≡ Some q →
    slice_get (cats_code cats) (length (cats_code (take n cats)) + k) ≡ Some (method_code q)
code-at [] n k c q h at = absurd (none-some c h)
code-at (d ∷ cats) zero k c q h at =
    let e : 0 + k ≡ k = omega arith in
    let at' : slice_get d.procs k ≡ Some q = ap (λ (x : Cat Ref). slice_get x.procs k) (same_some d c h)
    ∙ at in
    ap (slice_get (map method_code d.procs ++ cats_code cats)) e
    ∙ get-front (map method_code d.procs) (cats_code cats) k (method_code q)
    (get-map method_code d.procs k q at')
code-at (d ∷ cats) (suc n) k c q h at =
    let e : length (map method_code d.procs ++ cats_code (take n cats)) + k
    ≡ length (map method_code d.procs) + (length (cats_code (take n cats)) + k) =
    omega (arith, length-append (map method_code d.procs) (cats_code (take n cats))) in
    ap (slice_get (map method_code d.procs ++ cats_code cats)) e
    ∙ (get-after (map method_code d.procs) (cats_code cats) (length (cats_code (take n cats)) + k)
    ∙ code-at cats n k c q h at)

module _ (p : Program) (box number : ℕ) where
  -- the number of a procedure that is there, by its box and its cat
  abbrev through_box : Option BoxInfo → ℕ
  through_box o = number_at p (cat_number o) number
      (option_and_then (λ (c : Cat Ref). slice_get c.procs number)
      (option_and_then (λ (b : BoxInfo). slice_get p.cats b.cat) o))

  -- the number of a procedure, by its cat
  abbrev through_cat : ℕ → Option (Cat Ref) → ℕ
  through_cat cat o = number_at p cat number (option_and_then (λ (c : Cat Ref). slice_get c.procs number) o)

  -- a procedure that is there counts on from those of the cats before
  number-there : (cat : ℕ) (c : Cat Ref) (o : Option (Proc Ref)) → slice_get c.procs number ≡ o →
      number < length c.procs →
      number_at p cat number o ≡ length (cats_code (take cat p.cats)) + number
  number-there cat c None h within = absurd (here c.procs number within h)
  number-there cat c (Some q) h within = refl

  -- the number of a procedure of a box, by its cat
  pub number-is : (info : BoxInfo) (c : Cat Ref) → slice_get p.boxes box ≡ Some info →
      slice_get p.cats info.cat ≡ Some c → number < length c.procs →
      number_of p box number ≡ length (cats_code (take info.cat p.cats)) + number
  number-is info c h g within =
      ap through_box h ∙ (ap (through_cat info.cat) g
      ∙ number-there info.cat c (slice_get c.procs number) refl within)

  -- what stands at the number of a procedure is its code
  found-cat : (info : BoxInfo) (o : Option (Cat Ref)) → slice_get p.cats info.cat ≡ o →
      slice_get (compiled p) (through_cat info.cat o)
      ≡ option_map method_code (option_and_then (λ (c : Cat Ref). slice_get c.procs number) o)
  found-cat info None h = slice_get_past (compiled p) (length (compiled p)) (omega arith)
  found-cat info (Some c) h = found (slice_get c.procs number) refl
    where
      found : (o : Option (Proc Ref)) → slice_get c.procs number ≡ o →
          slice_get (compiled p) (number_at p info.cat number o) ≡ option_map method_code o
      found None e = slice_get_past (compiled p) (length (compiled p)) (omega arith)
      found (Some q) e = code-at p.cats info.cat number c q h e

  -- what stands at the number of a procedure, by its box
  found-box : (o : Option BoxInfo) → slice_get p.boxes box ≡ o →
      slice_get (compiled p) (through_box o) ≡ option_map method_code
      (option_and_then (λ (c : Cat Ref). slice_get c.procs number)
      (option_and_then (λ (b : BoxInfo). slice_get p.cats b.cat) o))
  found-box None h = slice_get_past (compiled p) (length (compiled p)) (omega arith)
  found-box (Some info) h = found-cat info (slice_get p.cats info.cat) refl

  -- at the number of a procedure stands its code, if it is there
  pub code-found : slice_get (compiled p) (number_of p box number)
      ≡ option_map method_code (procedure_of p box number)
  code-found = found-box (slice_get p.boxes box) refl
