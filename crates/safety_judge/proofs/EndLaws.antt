-- The ends of alternatives, one after the other, and whether the property is true at them.
use Rattle.std.proofs.Common.{◌≡◌, ℕ, ◌+◌, ◌<◌, Bool, true, false, not, ◌||◌, if◌then◌else◌, List, []}
use Rattle.std.proofs.Common.{◌++◌, Option, length, drop, sym, ap, ◌∙◌, get_or}
use Rattle.std.proofs.lemmas.List.{append-nil}
use Rattle.seuss_program.specs.declared.tree.Ref.{Ref}
use Rattle.seuss_program.specs.declared.tree.Alternative.{Alternative}
use Rattle.safety_check.specs.declared.frame.Frame.{Frame}
use Rattle.safety_check.specs.declared.property.Property.{Property}
use Rattle.safety_check.specs.declared.region.Region.{Region}
use Rattle.safety_check.specs.RegionValues.{region_in}
use Rattle.safety_check.specs.Ends.{alternative_end, alternatives_ends, ends_by_condition, where_one}
use Rattle.safety_check.specs.Safety.{does_hold}
use Rattle.safety_judge.specs.Findings.{some_without}
use Rattle.safety_judge.proofs.Growth.{from-place}

-- the ends of an alternative, and of later ones
abbrev own_ends : Alternative Ref → Frame → List Frame → List Frame
own_ends a frame later =
    ends_by_condition (region_in a.cond frame) (where_one (alternative_end a frame)) later

module _ (alts : List (Alternative Ref)) (i : ℕ) (a : Alternative Ref) (frame : Frame)
    (old new whole : List Frame) (more : Bool) (h : i < length alts) (at : a ≡ get_or alts i a)
    (same : old ++ alternatives_ends (drop i alts) frame ≡ whole)
    (grown : (later : List Frame) → old ++ own_ends a frame later ≡ new ++ (if more then later else []))
  where
    -- the ends so far, and later ones where there may be more
    so-far : new ++ (if more then alternatives_ends (drop (i + 1) alts) frame else []) ≡ whole
    so-far = sym (grown (alternatives_ends (drop (i + 1) alts) frame))
        ∙ (sym (ap (λ xs. old ++ alternatives_ends xs frame) (from-place alts i a h at)) ∙ same)

    -- where a later one may be chosen, its ends are left
    pub ends-go : more ≡ true → new ++ alternatives_ends (drop (i + 1) alts) frame ≡ whole
    ends-go go = sym (ap (λ b. new ++ (if b then alternatives_ends (drop (i + 1) alts) frame else [])) go)
        ∙ so-far

    -- else these are all
    pub ends-stop : more ≡ false → new ≡ whole
    ends-stop stop = sym (append-nil new)
        ∙ (sym (ap (λ b. new ++ (if b then alternatives_ends (drop (i + 1) alts) frame else [])) stop)
        ∙ so-far)

module _ (property : Property) (ends : List Frame) (i : ℕ) (end : Frame) (region : Option Region)
    (whole : Bool) (h : i < length ends) (at : end ≡ get_or ends i end)
    (is : region ≡ region_in property.expr end)
    (same : some_without property (drop i ends) ≡ whole) where
  -- the end at a place, and then the others
  from-end : not (does_hold region) || some_without property (drop (i + 1) ends) ≡ whole
  from-end = ap (λ r. not (does_hold r) || some_without property (drop (i + 1) ends)) is
      ∙ (sym (ap (some_without property) (from-place ends i end h at)) ∙ same)

  -- an end at which the property isn't true is one
  pub without-at : does_hold region ≡ false → true ≡ whole
  without-at out = sym (ap (λ b. not b || some_without property (drop (i + 1) ends)) out) ∙ from-end

  -- else it is one of the others
  pub holds-at : does_hold region ≡ true → some_without property (drop (i + 1) ends) ≡ whole
  holds-at holds = sym (ap (λ b. not b || some_without property (drop (i + 1) ends)) holds) ∙ from-end
