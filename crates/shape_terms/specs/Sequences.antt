-- A sequence form is a list of number forms, or a list, an unknown rest and a list.
use Rattle.std.specs.Prelude.{◌≡◌, ◌≢◌, ℕ, zero, suc, ℤ, pos, negsuc, ◌+◌, ◌-◌, nat_lt, List, [], ◌∷◌, ◌++◌}
use Rattle.std.specs.Prelude.{length, map, take, slice_get, Option, Some, None, Result, Ok, Err, true}
use Rattle.std.specs.Prelude.{if◌then◌else◌}
use Rattle.std.specs.Int.{w64, int_wrap}
use Rattle.seuss_base.specs.declared.outcome.Trap.TheVariants.{EmptySequence}
use Rattle.seuss_program.specs.Values.{Evaluated, element}
use Rattle.seuss_program.specs.declared.state.Value.TheVariants.{Int, Seq}
use Rattle.shape_terms.specs.declared.num_form.NumForm.{NumForm}
use Rattle.shape_terms.specs.declared.shape.Shape.{Shape}
use Rattle.shape_terms.specs.declared.shape.Shape.TheVariants as S
use Rattle.shape_terms.specs.declared.refusal.FormRefusal.{FormRefusal}
use Rattle.shape_terms.specs.declared.refusal.FormRefusal.TheVariants as R
use Rattle.shape_terms.specs.Points.{Point, HasNumbers}
use Rattle.shape_terms.specs.Numbers.{number, literal, literal_of, unit}

-- what a list of number forms stands for at a point
abbrev pub numbers : List NumForm → Point → List ℤ
numbers forms p = map (λ (form : NumForm). number form p) forms

-- what a sequence form stands for at a point
abbrev pub items : Shape → Point → List ℤ
items (S.Exact xs) p = numbers xs p
items (S.Long xs r ys) p = numbers xs p ++ p.rests r ++ numbers ys p

-- the least length that a form allows
abbrev pub least : Shape → ℕ
least (S.Exact xs) = length xs
least (S.Long xs r ys) = length xs + length ys

-- Why an end with nothing before an unknown rest gives nothing, by how many forms there are on the other
-- side: where there are some, the sequence has an element that isn't shown, and else it may be empty.
abbrev pub hidden : ℕ → FormRefusal
hidden zero = R.MayBeEmpty
hidden (suc others) = R.NotShown

-- the element at an end, or why it isn't given, by how many forms there are on the other side
abbrev pub shown : Option NumForm → ℕ → Result NumForm FormRefusal
shown None others = Err (hidden others)
shown (Some form) others = Ok form

-- the first element, or why the form doesn't give one
abbrev pub first : Shape → Result NumForm FormRefusal
first (S.Exact xs) = shown (slice_get xs 0) 0
first (S.Long xs r ys) = shown (slice_get xs 0) (length ys)

-- the last element, or why the form doesn't give one
abbrev pub last : Shape → Result NumForm FormRefusal
last (S.Exact xs) = shown (slice_get xs (length xs - 1)) 0
last (S.Long xs r ys) = shown (slice_get ys (length ys - 1)) (length xs)

-- a list without its first form, or why it has none
abbrev pub tail_of : List NumForm → ℕ → Result (List NumForm) FormRefusal
tail_of [] others = Err (hidden others)
tail_of (x ∷ xs) others = Ok xs

-- a list without its last form, or why it has none
abbrev pub start_of : List NumForm → ℕ → Result (List NumForm) FormRefusal
start_of [] others = Err (hidden others)
start_of (x ∷ xs) others = Ok (take (length xs) (x ∷ xs))

-- what is made of what is taken
abbrev pub taken : {A B : Type 0} → (A → B) → Result A FormRefusal → Result B FormRefusal
taken f (Ok x) = Ok (f x)
taken f (Err refusal) = Err refusal

-- all but the first element, or why the form doesn't give them
abbrev pub rest : Shape → Result Shape FormRefusal
rest (S.Exact xs) = taken S.Exact (tail_of xs 0)
rest (S.Long xs r ys) = taken (λ zs. S.Long zs r ys) (tail_of xs (length ys))

-- all but the last element, or why the form doesn't give them
abbrev pub front : Shape → Result Shape FormRefusal
front (S.Exact xs) = taken S.Exact (start_of xs 0)
front (S.Long xs r ys) = taken (λ zs. S.Long xs r zs) (start_of ys (length xs))

-- an element that is shown, where there is one
abbrev pub found : Option NumForm → Result NumForm FormRefusal
found None = Err R.NotShown
found (Some form) = Ok form

-- the element at a place that each length of the form has: it is shown before the unknown rest
abbrev pub shown_at : Shape → ℕ → Result NumForm FormRefusal
shown_at (S.Exact xs) n = found (slice_get xs n)
shown_at (S.Long xs r ys) n = found (slice_get xs n)

-- the element at a place that is told, or why the form doesn't give one
abbrev pub at_literal : Shape → Option ℤ → Result NumForm FormRefusal
at_literal shape None = Err R.MayBeEmpty
at_literal shape (Some (negsuc n)) = Err R.MayBeEmpty
at_literal shape (Some (pos n)) = if nat_lt n (least shape) then shown_at shape n else Err R.MayBeEmpty

-- the element at an index, counted from 0
abbrev pub at : Shape → NumForm → Result NumForm FormRefusal
at shape index = at_literal shape (literal_of index)

-- one more element at the end
abbrev pub add : Shape → NumForm → Shape
add (S.Exact xs) form = S.Exact (xs ++ form ∷ [])
add (S.Long xs r ys) form = S.Long xs r (ys ++ form ∷ [])

-- the length
abbrev pub len : Shape → NumForm
len (S.Exact xs) = literal (int_wrap w64 (pos (length xs)))
len (S.Long xs r ys) =
    record { constant = int_wrap w64 (pos (length xs + length ys)); atoms = []; lengths = unit r }

-- What a taking call answers: what is said, or that memory ran out.
abbrev pub Answers : {A : Type 0} → Result A FormRefusal → Result A FormRefusal → Type 0
Answers (Ok x) said = said ≡ Ok x
Answers (Err R.MayBeEmpty) said = said ≡ Err R.MayBeEmpty
Answers (Err R.NotShown) said = said ≡ Err R.NotShown
Answers (Err R.Memory) said = Unit {0}

-- What it means that a call takes a number: the notation's own function at every point; a point at which it
-- traps; or that it traps nowhere.
abbrev pub TakesNumber : (Point → Evaluated) → Result NumForm FormRefusal → Type 0
TakesNumber taking (Ok form) = (p : Point) → taking p ≡ Ok (Int (number form p))
TakesNumber taking (Err R.MayBeEmpty) = (p : Point) × HasNumbers p × (taking p ≡ Err EmptySequence)
TakesNumber taking (Err R.NotShown) = (p : Point) → taking p ≢ Err EmptySequence
TakesNumber taking (Err R.Memory) = Unit {0}

-- the same of a call that takes a sequence
abbrev pub TakesItems : (Point → Evaluated) → Result Shape FormRefusal → Type 0
TakesItems taking (Ok form) = (p : Point) → taking p ≡ Ok (Seq (items form p))
TakesItems taking (Err R.MayBeEmpty) = (p : Point) × HasNumbers p × (taking p ≡ Err EmptySequence)
TakesItems taking (Err R.NotShown) = (p : Point) → taking p ≢ Err EmptySequence
TakesItems taking (Err R.Memory) = Unit {0}

-- an index that is a number below the least length of a form, whatever atoms and lengths are
pub record IsPlace (shape : Shape) (index : NumForm) : Type 0 where
  pub place : ℕ
  pub within : nat_lt place (least shape) ≡ true
  pub value : (p : Point) → number index p ≡ pos place

-- What it means that `at` takes a number: the notation's own function at every point; or whether the index
-- is such a place.
abbrev pub TakesAt : Shape → NumForm → Result NumForm FormRefusal → Type 0
TakesAt shape index (Ok form) =
    (p : Point) → element (items shape p) (number index p) ≡ Ok (Int (number form p))
TakesAt shape index (Err R.MayBeEmpty) = IsPlace shape index → ⊥
TakesAt shape index (Err R.NotShown) = IsPlace shape index
TakesAt shape index (Err R.Memory) = Unit {0}
