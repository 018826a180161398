-- Numbers that are noted in a table, name by name.
use Rattle.std.specs.Prelude.{◌≡◌, ℕ, ◌+◌, ◌<◌, ◌≤◌, Bool, true, false, cond, List, [], length, Option}
use Rattle.std.specs.Prelude.{None, Some}
use Rattle.std.specs.List.{position_from}
use Rattle.std.specs.Map.{lookup}
use Rattle.std.specs.Option.{is_some}
use Rattle.std.specs.Str.{bytes_eq}
use Rattle.std.proofs.Common.{refl, sym, ap, ◌∙◌, subst, get_or, drop}
use Rattle.std.proofs.Math.ListN.{drop_of_length-le}
use Rattle.std.proofs.lemmas.Bool.{false≢true}
use Rattle.std.proofs.lemmas.Slice.Eq.{bytes_eq-Decides}
use Rattle.box_types.specs.Registers.{Table, found}
use Rattle.box_types.specs.Scopes.{or_else}
use Rattle.box_types.proofs.Lines.{from_here}

-- a name that has none takes the one that is noted
taken_at : (b : Bool) (old new : Option ℕ) (n : ℕ) → new ≡ cond b (Some n) old →
    (b ≡ true → is_some old ≡ false) → new ≡ or_else old (cond b (Some n) None)
taken_at false None new n is none = is
taken_at false (Some m) new n is none = is
taken_at true None new n is none = is
taken_at true (Some m) new n is none = absurd (false≢true (sym (none refl)))

pub taken : {S : Type 0} (t : Table S) (new : Option ℕ) (name text : List ℕ) (n : ℕ) →
    is_some (found t name) ≡ false → new ≡ cond (bytes_eq name text) (Some n) (found t text) →
    new ≡ or_else (found t text) (cond (bytes_eq name text) (Some n) None)
taken t new name text n none is = taken_at (bytes_eq name text) (found t text) new n is
    (λ e. subst (λ x. is_some (found t x) ≡ false) ((bytes_eq-Decides name text).0 e) none)

-- one more name is noted
next_at : (b : Bool) (o now rest : Option ℕ) (n : ℕ) → now ≡ or_else o (cond b (Some n) None) →
    or_else o (cond b (Some n) rest) ≡ or_else now rest
next_at true None now rest n is = ap (λ x. or_else x rest) (sym is)
next_at true (Some m) now rest n is = ap (λ x. or_else x rest) (sym is)
next_at false None now rest n is = ap (λ x. or_else x rest) (sym is)
next_at false (Some m) now rest n is = ap (λ x. or_else x rest) (sym is)

pub next : {X : Type 0} (test : X → Bool) (xs : List X) (i : ℕ) (x : X) (before now : Option ℕ) →
    i < length xs → x ≡ get_or xs i x → now ≡ or_else before (cond (test x) (Some i) None) →
    or_else now (position_from test (i + 1) (drop (i + 1) xs))
    ≡ or_else before (position_from test i (drop i xs))
next test xs i x before now h at is =
    sym (ap (λ ys. or_else before (position_from test i ys)) (from_here xs i x h at)
    ∙ next_at (test x) before now (position_from test (i + 1) (drop (i + 1) xs)) i is)

-- all names are noted
all_noted : (o : Option ℕ) → or_else o None ≡ o
all_noted None = refl
all_noted (Some n) = refl

-- nothing is found in an empty table
pub none_found : {S : Type 0} (t : Table S) (text : List ℕ) → t.entries ≡ [] → found t text ≡ None
none_found t text h = ap (lookup (λ k. bytes_eq text k.now)) h

-- where all names are noted, each has its number
pub numbered : {X : Type 0} (test : X → Bool) (xs : List X) (i : ℕ) (o : Option ℕ) → length xs ≤ i →
    or_else o (position_from test i (drop i xs)) ≡ position_from test 0 xs → o ≡ position_from test 0 xs
numbered test xs i o h same =
    let none_left = drop_of_length-le xs h in
    sym (all_noted o) ∙ (sym (ap (λ ys. or_else o (position_from test i ys)) none_left) ∙ same)
