-- What the plan of a program says of its boxes and of the numbers of their procedures.
use Rattle.std.proofs.Common.{◌≡◌, ℕ, ◌+◌, ◌<◌, List, length, take, Option, None, Some, refl, sym, ap}
use Rattle.std.proofs.Common.{◌∙◌, arith}
use Rattle.std.specs.Prelude.{slice_get, slice_index_or, option_map}
use Rattle.std.proofs.lemmas.Option.{none-some, slice_get-map}
use Rattle.seuss_program.specs.declared.tree.Ref.{Ref}
use Rattle.seuss_program.specs.declared.tree.Ref.TheVariants as R
use Rattle.seuss_program.specs.declared.tree.Cat.{Cat}
use Rattle.seuss_program.specs.declared.program.Program.{Program}
use Rattle.seuss_program.specs.declared.program.BoxInfo.{BoxInfo}
use Rattle.seuss_program.specs.Programs.{given_in, target_of}
use Rattle.method_code.specs.declared.plan.BoxPlan.{BoxPlan}
use Rattle.method_code.specs.Codes.{cats_code, compiled, number_of}
use Rattle.method_code.specs.Plans.{box_plan, plan_of}
use Rattle.method_code.proofs.NumberLemmas.{count-through, number-is}

module _ (p : Program) (box : ℕ) where
  -- a box of a program with its plan
  abbrev planned : BoxInfo → BoxPlan
  planned info = box_plan p info (slice_get p.cats info.cat)

  -- a box of the plan is one of the program
  pub record IsPlanned (b : BoxPlan) : Type 0 where
    pub info : BoxInfo
    pub there : slice_get p.boxes box ≡ Some info
    pub is : planned info ≡ b

  -- what the plan has of a box, it has of one of the program
  pub box_planned : (b : BoxPlan) → slice_get (plan_of p).boxes box ≡ Some b → IsPlanned b
  box_planned b h = by (slice_get p.boxes box) refl (sym (slice_get-map planned p.boxes box) ∙ h)
    where
      by : (o : Option BoxInfo) → slice_get p.boxes box ≡ o → option_map planned o ≡ Some b → IsPlanned b
      by None e m = absurd (none-some b m)
      by (Some info) e m = record { info = info; there = e; is = cc }

  -- the boxes that a box is given
  planned_given : (info : BoxInfo) (o : Option (Cat Ref)) → (box_plan p info o).given ≡ info.given
  planned_given info None = refl
  planned_given info (Some c) = refl

  -- a given box is that of the plan
  pub target_planned : (b : BoxPlan) (given : ℕ) → slice_get (plan_of p).boxes box ≡ Some b →
      target_of p box (R.Given given) ≡ slice_index_or b.given given 0
  target_planned b given h =
      let at = box_planned b h in
      ap (λ o. given_in o given) at.there
      ∙ ap (λ (ns : List ℕ). slice_index_or ns given 0)
      (sym (planned_given at.info (slice_get p.cats at.info.cat)) ∙ ap (λ (x : BoxPlan). x.given) at.is)

  module _ (number : ℕ) where
    -- a procedure has the number of the first one of its cat and its own together, which is one of the code
    pub record IsNumbered (b : BoxPlan) : Type 0 where
      pub is : number_of p box number ≡ b.first + number
      pub within : b.first + number < length (compiled p)

    -- a procedure that the plan counts is numbered by it
    pub number_planned : (b : BoxPlan) → slice_get (plan_of p).boxes box ≡ Some b → number < b.many →
        IsNumbered b
    number_planned b h less =
        let at = box_planned b h in by at.info at.there at.is (slice_get p.cats at.info.cat) refl
      where
        by : (info : BoxInfo) → slice_get p.boxes box ≡ Some info → planned info ≡ b →
            (o : Option (Cat Ref)) → slice_get p.cats info.cat ≡ o → IsNumbered b
        by info there is None e =
            let none : 0 ≡ b.many = ap (λ (o : Option (Cat Ref)). (box_plan p info o).many) (sym e)
            ∙ ap (λ (x : BoxPlan). x.many) is in
            absurd (omega (arith, none, less))
        by info there is (Some c) e =
            let many : length c.procs ≡ b.many =
            ap (λ (o : Option (Cat Ref)). (box_plan p info o).many) (sym e)
            ∙ ap (λ (x : BoxPlan). x.many) is in
            let first : length (cats_code (take info.cat p.cats)) ≡ b.first =
            ap (λ (o : Option (Cat Ref)). (box_plan p info o).first) (sym e)
            ∙ ap (λ (x : BoxPlan). x.first) is in
            let within : number < length c.procs = omega (arith, many, less) in
            record {
              is = number-is p box number info c there e within ∙ ap (λ n. n + number) first;
              within = omega (arith, first, within, count-through p.cats info.cat c e);
            }
