-- The two methods that a certificate of a checked program names.
use Rattle.std.proofs.Common.{◌≡◌, ℕ, Bool, IsTrue, List, Option, None, Some, All, option_and_then}
use Rattle.std.proofs.Common.{option_map, refl, sym, ap, ◌∙◌, subst, true≢false}
use Rattle.std.specs.Prelude.{slice_get}
use Rattle.std.proofs.lemmas.Option.{slice_get_within, get_or_from_slice_get}
use Rattle.seuss_program.specs.declared.tree.Ref.{Ref}
use Rattle.seuss_program.specs.declared.tree.Ref.TheVariants as R
use Rattle.seuss_program.specs.declared.tree.Form.{Form}
use Rattle.seuss_program.specs.declared.tree.Proc.{Proc}
use Rattle.seuss_program.specs.declared.tree.Semi.{Semi}
use Rattle.seuss_program.specs.declared.tree.Cat.{Cat}
use Rattle.seuss_program.specs.declared.program.Program.{Program}
use Rattle.seuss_program.specs.Keeping.{Keeps, KeepsCat, KeepsSemi, method_at, is_method_where}
use Rattle.shape_terms.specs.Cases.{Pair, pair_of, pair_at, pair_with}
use Rattle.commute_certs.specs.declared.verdict.Verdict.{Verdict}
use Rattle.commute_certs.specs.Verdicts.{IsVerdict}
use Rattle.compat_matrix.specs.Certificates.{Decided}

-- the methods by their numbers, and the pair of both
pub record Named (own : Cat Ref) (semi : Semi Ref) : Type 0 where
  pub pair : Pair
  pub about : pair_of own semi ≡ Some pair
  pub first : (n : ℕ) × (semi.first ≡ R.Method n)
  pub second : (n : ℕ) × (semi.second ≡ R.Method n)

-- what stands in a list has what all have
pub holds_there : {X : Type 0} (P : X → Type 0) (xs : List X) (n : ℕ) (x : X) → slice_get xs n ≡ Some x →
    All P xs → P x
holds_there P xs n x there all =
    subst P (get_or_from_slice_get xs n x x there) (all n x (slice_get_within xs n x there))

-- the number of a method that is there
numbered : (name : Ref) (c : Cat Ref) (form : Form Ref → Bool) →
    IsTrue (is_method_where form (method_at name c)) → (n : ℕ) × (name ≡ R.Method n)
numbered (R.Method n) c form is = (n, refl)
numbered (R.Var n) c form is = absurd (true≢false (sym is))
numbered (R.Slot n) c form is = absurd (true≢false (sym is))
numbered (R.Given n) c form is = absurd (true≢false (sym is))
numbered (R.Cat n) c form is = absurd (true≢false (sym is))

-- the method that is there
found : (o : Option (Proc Ref)) (form : Form Ref → Bool) → IsTrue (is_method_where form o) →
    (q : Proc Ref) × (o ≡ Some q)
found None form is = absurd (true≢false (sym is))
found (Some q) form is = (q, refl)

-- the pair of two methods that are there
pub paired : (own : Cat Ref) (semi : Semi Ref) (m n : Proc Ref) → method_at semi.first own ≡ Some m →
    method_at semi.second own ≡ Some n → pair_of own semi ≡ Some (pair_with own semi.hints m n)
paired own semi m n first second =
    ap (λ (o : Option (Proc Ref)).
    option_and_then (λ (m : Proc Ref). option_map (pair_with own semi.hints m) (method_at semi.second own))
    o) first
    ∙ ap (λ (o : Option (Proc Ref)). option_map (pair_with own semi.hints m) o) second

-- a certificate of a checked program names two methods
pub named : (p : Program) (cat at : ℕ) (own : Cat Ref) (semi : Semi Ref) → Keeps p →
    slice_get p.cats cat ≡ Some own → slice_get own.semis at ≡ Some semi → Named own semi
named p cat at own semi keeps there among =
    let c : KeepsCat p.cats own = holds_there (KeepsCat p.cats) p.cats cat own there keeps.cats in
    let s : KeepsSemi own semi = holds_there (KeepsSemi own) own.semis at semi among c.semis in
    let m = found (method_at semi.first own) _ s.first in
    let n = found (method_at semi.second own) _ s.second in
    record {
      pair = pair_with own semi.hints m.0 n.0;
      about = paired own semi m.0 n.0 m.1 n.1;
      first = numbered semi.first own _ s.first;
      second = numbered semi.second own _ s.second;
    }

-- the verdict on the pair of a certificate's numbers is what is decided of it
pub decided : (p : Program) (cat at : ℕ) (own : Cat Ref) (semi : Semi Ref) (told verdict : Verdict) →
    Keeps p → slice_get p.cats cat ≡ Some own → slice_get own.semis at ≡ Some semi → told ≡ verdict →
    ((pair : Pair) → pair_at p cat at ≡ Some pair → IsVerdict pair told) → Decided (cat, (own, semi)) verdict
decided p cat at own semi told verdict keeps there among same law =
    let k : Named own semi = named p cat at own semi keeps there among in
    let stands : pair_at p cat at ≡ Some k.pair =
    ap (λ (o : Option (Cat Ref)).
    option_and_then (λ (c : Cat Ref). option_and_then (pair_of c) (slice_get c.semis at)) o) there
    ∙ (ap (λ (o : Option (Semi Ref)). option_and_then (pair_of own) o) among ∙ k.about) in
    record {
      pair = k.pair;
      about = k.about;
      is = subst (λ (v : Verdict). IsVerdict k.pair v) same (law k.pair stands);
    }
