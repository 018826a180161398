-- The lines of properties, written one after the other.
use Rattle.std.proofs.Common.{◌≡◌, ℕ, suc, ◌+◌, ◌<◌, List, [], ◌∷◌, ◌++◌, get_or, drop, length, map}
use Rattle.std.proofs.Common.{refl, sym, ap, ◌∙◌, append_assoc, drop-cons, arith, All}
use Rattle.std.specs.List.{flat_map}
use Rattle.std.proofs.lemmas.List.{map-append, append-nil}
use Rattle.std.proofs.lemmas.List.Elements.{All-nil, All-push}
use Rattle.std.proofs.lemmas.Grind.{flat_map-append}
use Rattle.seuss_program.specs.declared.program.Program.{Program}
use Rattle.safety_check.specs.declared.property.Property.{Property}
use Rattle.safety_check.specs.declared.safety.Safety.{Safety}
use Rattle.seuss_run.specs.PropertyReports.{IsJudged, IsPropertyReport, Judged, property_line}

-- the property of an answer, and its line
abbrev claim : Judged → Property
claim j = j.0

abbrev line_by : Program → Judged → List ℕ
line_by p j = property_line p j.0 j.1

abbrev is_judged : Program → Judged → Type 0
is_judged p j = IsJudged p j.0 j.1

-- the lines of the properties up to a place are the text
pub record AreWritten (p : Program) (properties : List Property) (at : ℕ) (text : List ℕ) : Type 0 where
  pub answers : List Judged
  pub reached : map claim answers ++ drop at properties ≡ properties
  pub judged : All (is_judged p) answers
  pub lines : text ≡ flat_map (line_by p) answers

-- nothing is written yet
pub none_written : (p : Program) (properties : List Property) → AreWritten p properties 0 []
none_written p properties =
    record { answers = []; reached = refl; judged = All-nil (is_judged p); lines = refl }

-- one line more
pub one_more : (p : Program) (properties : List Property) (at : ℕ) (text after : List ℕ)
    (property : Property) → AreWritten p properties at text → at < length properties →
    property ≡ get_or properties at property →
    (answer : Safety) × IsJudged p property answer × (after ≡ text ++ property_line p property answer) →
    AreWritten p properties (at + 1) after
one_more p properties at text after property so_far within is (answer, judged, added) =
    let j : Judged = (property, answer) in
    let next : at + 1 ≡ suc at = omega arith in
    let here : drop at properties ≡ property ∷ drop (at + 1) properties =
    drop-cons properties at property within
    ∙ (ap (λ x. x ∷ drop (suc at) properties) (sym is)
    ∙ ap (λ k. property ∷ drop k properties) (sym next)) in
    record {
      answers = so_far.answers ++ j ∷ [];
      reached = ap (λ xs. xs ++ drop (at + 1) properties) (map-append claim so_far.answers (j ∷ []))
          ∙ (append_assoc (map claim so_far.answers) (property ∷ []) (drop (at + 1) properties)
          ∙ (ap (λ xs. map claim so_far.answers ++ xs) (sym here) ∙ so_far.reached));
      judged = All-push (is_judged p) so_far.answers j so_far.judged judged;
      lines = added ∙ (ap (λ t. t ++ line_by p j) so_far.lines
          ∙ (ap (λ t. flat_map (line_by p) so_far.answers ++ t) (sym (append-nil (line_by p j)))
          ∙ sym (flat_map-append (line_by p) so_far.answers (j ∷ []))));
    }

-- all lines are the report
pub all_written : (p : Program) (properties : List Property) (at : ℕ) (text : List ℕ) →
    AreWritten p properties at text → drop at properties ≡ [] → IsPropertyReport (p, properties) text
all_written p properties at text so_far none = record {
  answers = so_far.answers;
  properties = sym (append-nil (map claim so_far.answers))
      ∙ (ap (λ xs. map claim so_far.answers ++ xs) (sym none) ∙ so_far.reached);
  judged = so_far.judged;
  lines = so_far.lines;
}
